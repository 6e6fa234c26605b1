-- Number 1 for a reader, in two parts: the record's own, which needs no buffer, and the buffer's. Definitions only.
use Rattle.std.specs.Prelude.{ℕ, ◌+◌, ◌-◌, Bool, true, ◌&&◌, List, leb, eqb}
use Rattle.laws.specs.Pick.{pick}
use Rattle.laws.specs.Parts.{part}
use Rattle.crc.specs.declared.Algorithm.{Algorithm}
use Rattle.rules.specs.declared.Losses.{Losses}
use Rattle.extract.specs.declared.Extractor.{Extractor}
use Rattle.rules.specs.Request.{new}

-- "accepted total .. above 2^48"
abbrev pub most : ℕ
most = 281474976710656

-- "buffer shorter than 8,192 or longer than 1,048,576 bytes"
abbrev pub room_fits : ℕ → Bool
room_fits n = leb 8192 n && leb n 1048576

-- the error count
abbrev pub errors_of : Losses → ℕ
errors_of l = l.errors

-- how many bytes are unread
abbrev pub unread_of : Extractor → ℕ
unread_of r = r.end - r.start

-- "unread start after unread end; .. accepted total unlike consumed plus unread, or above 2^48; frames plus errors above consumed; unanswered
-- above 65,535; substream count above 15; locked though no sync was ever seen"
unfoldable pub record_fits : Extractor → Bool
record_fits r =
    leb r.start r.end
    && (eqb r.accepted (r.stream.consumed.0 + unread_of r)
    && (leb r.accepted most
    && (leb (r.stream.frames + errors_of r.stream.losses) r.stream.consumed.0
    && (leb r.unanswered 65535
    && (leb r.stream.substreams 15
    && pick r.stream.locked r.stream.seen true)))))

-- and "end beyond the buffer"
unfoldable pub fits_of : Extractor → ℕ → Bool
fits_of r n = record_fits r && (room_fits n && leb r.end n)

-- the unread bytes
abbrev pub unread : Extractor → List ℕ → List ℕ
unread r buf = part buf r.start (unread_of r)

-- a reader at opening
abbrev pub opened : Algorithm → Extractor
opened a = record { start = 0; end = 0; accepted = 0; unanswered = 0; stream = new a }
