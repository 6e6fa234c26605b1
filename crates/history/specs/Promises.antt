-- THE PROMISES over histories, each with a sentence: what the control room may rely on, however it feeds the reader. The calls are the reader's own
-- (`open`, `push_bytes`, `next`), as their contracts give them; a history is any list of pieces and requests, each call given what the last one
-- left. The proofs stand in HeldLaws (the calls follow the rules), in crate `rules` (what the rules keep) and in crate `machine` (any stepping
-- reader).
use Rattle.std.specs.Prelude.{ℕ, ◌+◌, ◌≤◌, ◌<◌, ◌≡◌, refl, true, List, [], ◌++◌, length}
use Rattle.std.proofs.Common.{arith, ap}
use Rattle.laws.specs.Parts.{part}
use Rattle.machine.specs.Scan.{Result, Scans}
use Rattle.machine.proofs.ScanLaws.{scan_scans, scans_only}
use Rattle.machine.specs.Always.{Every, Ordered}
use Rattle.machine.proofs.AlwaysLaws.{history_always}
use Rattle.machine.specs.History.{Call, piece, ask, Log, history, play, turn, requests, Begins, Demand3, shown}
use Rattle.machine.proofs.HistoryLaws as Laws
use Rattle.crc.specs.declared.Algorithm.{Algorithm}
use Rattle.rules.specs.declared.Stream.{Stream}
use Rattle.rules.specs.declared.Unit.{Unit as TheUnit}
use Rattle.rules.specs.Request.{Event, reader, size_of, new, fresh_scan}
use Rattle.rules.proofs.RulesLaws.{reader_laws}
use Rattle.rules.proofs.RestLaws.{rest_holds_at_most_8189}
use Rattle.rules.specs.Units.{IfUnit, Promised, Follows as Behind, Indexed}
use Rattle.rules.proofs.StampLaws.{standing_lasts}
use Rattle.rules.proofs.HandedLaws.{units_stand, units_apart, units_numbered, new_stands}
use Rattle.buffer.specs.Calls.{part_of}
use Rattle.std.specs.Prelude.{Ok}
use Rattle.extract.specs.declared.Answer.TheVariants.{Unit as AUnit}
use Rattle.extract.specs.Calls.{asked_of}
use Rattle.extract.specs.Record.{fits_of, unread_of, unread, errors_of}
use Rattle.extract.specs.Fits.{Fits, fits_when}
use Rattle.history.specs.Held.{Held, calls, opened_on, view}
use Rattle.history.specs.HeldLaws.{unread_length, follows, opens, next_writes_nothing}
use Rattle.history.specs.PartLaws.{part_is_the_unit}

-- A reader from opening: any check setting, any lent buffer of a fitting length, holding anything.
module _ (a : Algorithm) (buffer : List ℕ) (low : 8192 ≤ length buffer) (high : length buffer ≤ 1048576) where
  -- what is noted after any calls: the record and the buffer, all accepted bytes, all that was handed out, and whether a request has run dry
  -- since the last accepted piece
  abbrev pub log : List Call → Log Held Event
  log cs = history calls (opened_on a buffer) cs

  -- DEMAND 3. The units and spoken errors so far are the first ones that a fresh scan of all accepted bytes gives. Once a request has run dry after
  -- the last accepted piece they are all of them, and the stream's state (position, lock, error count, waiting timestamp, substream count, frames,
  -- seen) and the unread bytes equal the fresh scan's.
  pub any_cutting : (cs : List Call) → Demand3 reader view (new a) (log cs)
  any_cutting = Laws.demand3 reader reader_laws view calls follows (new a) (opened_on a buffer) (opens a buffer low high)

  pub units_so_far : (cs : List Call) → Begins (log cs).out (fresh_scan a (log cs).accepted).events
  units_so_far cs = (any_cutting cs).first

  pub all_units : (cs : List Call) → (log cs).idle ≡ true → (fresh_scan a (log cs).accepted).events ≡ (log cs).out
  all_units cs i = ap (λ x. x.events) ((any_cutting cs).whole i)

  pub same_state : (cs : List Call) → (log cs).idle ≡ true → (fresh_scan a (log cs).accepted).final ≡ (log cs).now.extractor.stream
  same_state cs i = ap (λ x. x.final) ((any_cutting cs).whole i)

  -- "A further piece never alters the list of what was handed out", accepted or refused; nor does any call.
  pub piece_alters_nothing : (cs : List Call) (p : List ℕ) → (turn calls (log cs) (piece p)).out ≡ (log cs).out
  piece_alters_nothing cs p = Laws.piece_alters_nothing calls (log cs) p

  pub out_only_grows : (cs ds : List Call) → Begins (log cs).out (play calls (log cs) ds).out
  out_only_grows cs ds = Laws.out_only_grows calls (log cs) ds

  -- NUMBER 1 is never answered in a history: the record and the buffer fit at all times.
  pub always_fits : (cs : List Call) → Fits (log cs).now.extractor (length (log cs).now.buffer)
  always_fits = Laws.always_fits reader reader_laws view calls follows (new a) (opened_on a buffer) (opens a buffer low high)

  pub never_number_1 : (cs : List Call) → fits_of (log cs).now.extractor (length (log cs).now.buffer) ≡ true
  never_number_1 cs = fits_when (log cs).now.extractor (length (log cs).now.buffer) (always_fits cs)

  -- "A reader from opening that has just run dry holds at most 8,189 unread bytes", so that a buffer of 8,192 always takes at least 3 more.
  pub at_rest : (cs : List Call) → (log cs).idle ≡ true → length (unread (log cs).now.extractor (log cs).now.buffer) ≤ 8189
  at_rest cs i =
      rest_holds_at_most_8189 (log cs).now.extractor.stream (unread (log cs).now.extractor (log cs).now.buffer) (always_fits cs).itself.few
      (Laws.idle_rests reader reader_laws view calls follows (new a) (opened_on a buffer) (opens a buffer low high) cs i)

  pub takes_3_more : (cs : List Call) (k : ℕ) → (log cs).idle ≡ true → k ≤ 3 → unread_of (log cs).now.extractor + k ≤ length (log cs).now.buffer
  takes_3_more cs k i l =
      let f = always_fits cs in
      let r = at_rest cs i in
      let m = unread_length (log cs).now [] f in
      omega arith

  -- Every loss and every unit took bytes: errors and frames together never exceed the position.
  pub no_invented_counts : (cs : List Call) → (log cs).now.extractor.stream.frames + errors_of (log cs).now.extractor.stream.losses ≤ (log cs).now.extractor.stream.consumed.0
  no_invented_counts cs = (always_fits cs).itself.counted

  -- DEMAND 2, UNITS. Every unit handed out is the accepted bytes from its position on, twice its 12-bit length word long, its directory inside it,
  -- its parity nibble 15; a timestamp is carried by the first unit at most, and is the parse of the 16 bytes before its candidate.
  pub units_stand_there : (cs : List Call) → Every (IfUnit (Promised (log cs).accepted)) (log cs).out
  units_stand_there cs =
      (history_always reader reader_laws _ units_stand (new a) (new_stands a, tt) view calls follows (opened_on a buffer) (opens a buffer low high) cs).1

  -- The stretch that a request answers with a unit holds, through `part`, the accepted bytes at the unit's position; a request writes nothing in the
  -- buffer, so it does until the next accepted piece.
  pub part_holds_the_unit : (cs : List Call) (x : TheUnit) (start : ℕ) → (asked_of (log cs).now.extractor (log cs).now.buffer).answer ≡ Ok (AUnit x start)
      → part_of (log cs).now.buffer start x.length ≡ part (log cs).accepted x.position.0 x.length
  part_holds_the_unit cs x start =
      part_is_the_unit (log cs).now (always_fits cs) (log cs).accepted
      (history_always reader reader_laws _ standing_lasts (new a) (new_stands a) view calls follows (opened_on a buffer) (opens a buffer low high) cs).0 x start

  pub request_writes_nothing : (cs : List Call) → (turn calls (log cs) ask).now.buffer ≡ (log cs).now.buffer
  request_writes_nothing cs = next_writes_nothing (log cs)

  -- Positions rise, and no two units overlap.
  pub no_two_overlap : (cs : List Call) → Ordered (λ d e. IfUnit (λ x. IfUnit (Behind x) e) d) (log cs).out
  no_two_overlap cs =
      (history_always reader reader_laws _ units_apart (new a) (new_stands a, tt, tt) view calls follows (opened_on a buffer) (opens a buffer low high) cs).2

  -- Indexes count from 0.
  pub counted_from_0 : (cs : List Call) → Indexed 0 (log cs).out
  counted_from_0 cs =
      (history_always reader reader_laws _ units_numbered (new a) (refl, tt) view calls follows (opened_on a buffer) (opens a buffer low high) cs).1

  -- PROGRESS. Requests without a new piece end: of more than twice the unread bytes and one, one has run dry; and no more than so many answer
  -- something other than dry.
  abbrev pub size_now : List Call → ℕ
  size_now cs = size_of (log cs).now.extractor.stream (unread (log cs).now.extractor (log cs).now.buffer)

  pub requests_end : (cs : List Call) (n : ℕ) → size_now cs < n → (log (cs ++ requests n)).idle ≡ true
  requests_end = Laws.requests_end reader reader_laws view calls follows (new a) (opened_on a buffer) (opens a buffer low high)

  pub requests_tell_few : (cs : List Call) (n : ℕ) → length (log (cs ++ requests n)).out ≤ length (log cs).out + size_now cs
  requests_tell_few = Laws.requests_tell_few reader reader_laws view calls follows (new a) (opened_on a buffer) (opens a buffer low high)

-- ANY CUTTING, THE SAME UNITS: two readers with the same check setting, over any two buffers, fed any two ways with the same bytes, and each asked
-- until dry: the same units and errors, and the same state.
module _ (a : Algorithm) (b₁ b₂ : List ℕ) (low₁ : 8192 ≤ length b₁) (high₁ : length b₁ ≤ 1048576) (low₂ : 8192 ≤ length b₂) (high₂ : length b₂ ≤ 1048576)
    (cs ds : List Call) (same : (log a b₁ low₁ high₁ cs).accepted ≡ (log a b₂ low₂ high₂ ds).accepted) where
  pub two_cuttings_agree : (log a b₁ low₁ high₁ cs).idle ≡ true → (log a b₂ low₂ high₂ ds).idle ≡ true
      → shown view (log a b₁ low₁ high₁ cs) ≡ shown view (log a b₂ low₂ high₂ ds)
  two_cuttings_agree =
      Laws.cuttings_agree reader view view (new a) (log a b₁ low₁ high₁ cs) (log a b₂ low₂ high₂ ds) (any_cutting a b₁ low₁ high₁ cs) (any_cutting a b₂ low₂ high₂ ds) same

-- THE FRESH SCAN is what document 01 says: requests until dry on a new reader with the whole list unread, and nothing else is.
pub fresh_scan_is : (a : Algorithm) (bytes : List ℕ) → Scans reader (new a) bytes (fresh_scan a bytes)
fresh_scan_is a bytes = scan_scans reader reader_laws (new a) bytes

pub fresh_scan_only : (a : Algorithm) (bytes : List ℕ) (x : Result Stream Event) → Scans reader (new a) bytes x → x ≡ fresh_scan a bytes
fresh_scan_only a bytes x s = scans_only reader reader_laws (new a) bytes x s
