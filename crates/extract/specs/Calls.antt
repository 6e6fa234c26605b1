-- What each call answers, and what it leaves of record and buffer: definitions only.
use Rattle.std.specs.Prelude.{ℕ, ◌+◌, ◌-◌, List, leb, ltb, eqb, length, codes, Result, Ok, Err}
use Rattle.laws.specs.Pick.{pick}
use Rattle.machine.specs.Scan as Scan
use Rattle.machine.specs.Scan.{request, ran_dry, spoke}
use Rattle.buffer.specs.Calls.{start_of, filled}
use Rattle.crc.specs.declared.Algorithm.{Algorithm}
use Rattle.rules.specs.declared.Stream.{Stream}
use Rattle.extract.specs.declared.Extractor.{Extractor}
use Rattle.extract.specs.declared.Refusal.{Refusal}
use Rattle.extract.specs.declared.Refusal.TheVariants.{Record, Pushes, Total, Room}
use Rattle.extract.specs.declared.Pushed.{Pushed}
use Rattle.extract.specs.declared.Answer.{Answer}
use Rattle.extract.specs.declared.Answer.TheVariants.{Unit as AUnit, InvalidAccessUnitLength, ParityCheckFailed, InsufficientData, Quiet}
use Rattle.extract.specs.declared.Asked.{Asked}
use Rattle.extract.specs.Record.{most, room_fits, fits_of, unread_of, unread, opened}
use Rattle.rules.specs.Request.{Event, handed, too_short, failed, reader}

-- THE NUMBERS of the table, 0 where nothing is refused and nothing is lost

abbrev pub refusal_number : Refusal → ℕ
refusal_number Record = 1
refusal_number Pushes = 2
refusal_number Total = 3
refusal_number Room = 4

-- what a refusal prints
abbrev pub refusal_text : Refusal → List ℕ
refusal_text Record = codes "the record or the buffer doesn't fit"
refusal_text Pushes = codes "65,535 pushes are unanswered"
refusal_text Total = codes "the accepted total would pass 2^48"
refusal_text Room = codes "the buffer has no room for the piece"

abbrev pub open_number : Result Extractor Refusal → ℕ
open_number (Ok r) = 0
open_number (Err e) = refusal_number e

abbrev pub push_number : Result (Unit {0}) Refusal → ℕ
push_number (Ok u) = 0
push_number (Err e) = refusal_number e

abbrev pub answer_number : Result Answer Refusal → ℕ
answer_number (Ok (AUnit unit start)) = 0
answer_number (Ok (InvalidAccessUnitLength actual minimum)) = 5
answer_number (Ok ParityCheckFailed) = 6
answer_number (Ok InsufficientData) = 7
answer_number (Ok Quiet) = 8
answer_number (Err e) = refusal_number e

-- OPENING: "Opening tests the buffer's length only."

unfoldable pub opened_of : ℕ → Algorithm → Result Extractor Refusal
opened_of n a = pick (room_fits n) (Ok (opened a)) (Err Record)

-- A PUSH of k bytes into a buffer of n: "tested in the order 1, 2, 3, 4"

unfoldable pub push_answer_of : Extractor → ℕ → ℕ → Result (Unit {0}) Refusal
push_answer_of r n k =
    pick (fits_of r n)
    (pick (ltb r.unanswered 65535)
    (pick (leb (r.accepted + k) most)
    (pick (leb (unread_of r + k) n) (Ok tt) (Err Room))
    (Err Total))
    (Err Pushes))
    (Err Record)

-- where the unread bytes start then
abbrev pub place_of : Extractor → ℕ → ℕ → ℕ
place_of r n k = start_of r.start r.end n k

-- "A push always adds one unanswered push, an empty piece too."
abbrev pub grown : Extractor → ℕ → ℕ → Extractor
grown r at k =
    record {
      start = at;
      end = at + unread_of r + k;
      accepted = r.accepted + k;
      unanswered = r.unanswered + 1;
      stream = r.stream;
    }

-- one thing where the piece is accepted, another where it is refused
abbrev pub on_accepted : {A : Type 0} → Result (Unit {0}) Refusal → A → A → A
on_accepted (Ok u) a b = a
on_accepted (Err e) a b = b

-- record and answer: a refusal leaves the record as it was
unfoldable pub pushed_of : Extractor → ℕ → ℕ → Pushed
pushed_of r n k = record { extractor = on_accepted (push_answer_of r n k) (grown r (place_of r n k) k) r; answer = push_answer_of r n k }

-- the same from the record that an accepted piece leaves
abbrev pub pushed_on : Extractor → Result Extractor Refusal → Pushed
pushed_on r (Ok x) = record { extractor = x; answer = Ok tt }
pushed_on r (Err e) = record { extractor = r; answer = Err e }

-- the buffer: the unread bytes and the piece at their place, and "Bytes outside the new unread stretch keep what they held"; a refusal leaves it
-- as it was
unfoldable pub buffer_of : Extractor → List ℕ → List ℕ → List ℕ
buffer_of r buf piece =
    on_accepted (push_answer_of r (length buf) (length piece)) (filled r.start r.end buf piece (place_of r (length buf) (length piece))) buf

-- A REQUEST: "Nothing unanswered: 8"; else the rules' request on the unread bytes

-- the record whose unread bytes start at a place
abbrev pub left_at : Extractor → ℕ → ℕ → Stream → Extractor
left_at r pushes at s = record { start = at; end = r.end; accepted = r.accepted; unanswered = pushes; stream = s }

-- 7 "dry while locked", 8 "dry in search"; "unanswered −1"
abbrev pub dry_at : Extractor → ℕ → Stream → Asked
dry_at r at s = record { extractor = left_at r (r.unanswered - 1) at s; answer = Ok (pick s.locked InsufficientData Quiet) }

abbrev pub spoken_at : Extractor → ℕ → Stream → Answer → Asked
spoken_at r at s a = record { extractor = left_at r r.unanswered at s; answer = Ok a }

-- what is spoken, where the unread bytes start at a place: a unit stands before them
abbrev pub answer_of : ℕ → Event → Answer
answer_of at (handed u) = AUnit u (at - u.length)
answer_of at (too_short actual minimum position) = InvalidAccessUnitLength actual minimum
answer_of at (failed position) = ParityCheckFailed

-- the unread bytes that are left stand at the end of the stretch
unfoldable pub answered_of : Extractor → Scan.Answer Stream Event → Asked
answered_of r (ran_dry s u) = dry_at r (r.end - length u) s
answered_of r (spoke e s u) = spoken_at r (r.end - length u) s (answer_of (r.end - length u) e)

unfoldable pub asked_of : Extractor → List ℕ → Asked
asked_of r buf =
    pick (fits_of r (length buf))
    (pick (eqb r.unanswered 0)
    (record { extractor = r; answer = Ok Quiet })
    (answered_of r (request reader r.stream (unread r buf))))
    (record { extractor = r; answer = Err Record })
