-- A law that the documents name: a record whose unread bytes start past their end doesn't fit. No contract needs it.
use Rattle.std.specs.Prelude.{◌≡◌, ◌<◌, false}
use Rattle.std.proofs.lemmas.Bool.{lt-leb}
use Rattle.extract.specs.declared.Extractor.{Extractor}
use Rattle.extract.specs.Record.{record_fits}

pub start_past_end : (r : Extractor) → r.end < r.start → false ≡ record_fits r
unfolding record_fits
start_past_end r h = rw (lt-leb r.start r.end h)
