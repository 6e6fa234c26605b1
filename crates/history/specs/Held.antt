-- A reader with its lent buffer, and its calls as the code's contracts give them: definitions only.
use Rattle.std.specs.Prelude.{ℕ, not, List, eqb, length, Result, Ok, Err}
use Rattle.machine.specs.History.{Pushed, taken, refused, Asked, dried, told, Calls, View}
use Rattle.crc.specs.declared.Algorithm.{Algorithm}
use Rattle.rules.specs.declared.Stream.{Stream}
use Rattle.rules.specs.Request.{Event, handed, too_short, failed}
use Rattle.extract.specs.declared.Extractor.{Extractor}
use Rattle.extract.specs.declared.Answer.{Answer}
use Rattle.extract.specs.declared.Answer.TheVariants.{Unit, InvalidAccessUnitLength, ParityCheckFailed, InsufficientData, Quiet}
use Rattle.extract.specs.declared.Refusal.{Refusal}
use Rattle.extract.specs.Record.{unread, opened}
use Rattle.extract.specs.Fits.{Fits}
use Rattle.extract.specs.Calls.{on_accepted, pushed_of, buffer_of, asked_of}

-- the record that the last call handed back, and the buffer as it left it: "each call given the last record, its lent buffer written by no one
-- else"
pub record Held : Type 0 where
  pub extractor : Extractor
  pub buffer : List ℕ

-- `push_bytes`, by its contract
unfoldable pub push_of : Held → List ℕ → Pushed Held
push_of h p =
    on_accepted (pushed_of h.extractor (length h.buffer) (length p)).answer
    (taken
    (record { extractor = (pushed_of h.extractor (length h.buffer) (length p)).extractor; buffer = buffer_of h.extractor h.buffer p }))
    (refused
    (record { extractor = (pushed_of h.extractor (length h.buffer) (length p)).extractor; buffer = buffer_of h.extractor h.buffer p }))

-- what an answer tells: a unit, or number 5 or 6 with its values and the position after it; the others tell nothing
abbrev pub tell_of : Result Answer Refusal → Held → Asked Held Event
tell_of (Ok (Unit unit start)) h = told (handed unit) h
tell_of (Ok (InvalidAccessUnitLength actual minimum)) h = told (too_short actual minimum h.extractor.stream.consumed) h
tell_of (Ok ParityCheckFailed) h = told (failed h.extractor.stream.consumed) h
tell_of (Ok InsufficientData) h = dried h
tell_of (Ok Quiet) h = dried h
tell_of (Err e) h = dried h

-- `next`, by its contract; it writes nothing in the buffer
unfoldable pub next_of : Held → Asked Held Event
next_of h = tell_of (asked_of h.extractor h.buffer).answer (record { extractor = (asked_of h.extractor h.buffer).extractor; buffer = h.buffer })

abbrev pub calls : Calls Held Event
calls = record { push = push_of; next = next_of }

-- `open` over a buffer that holds anything, with any check setting
abbrev pub opened_on : Algorithm → List ℕ → Held
opened_on a buffer = record { extractor = opened a; buffer = buffer }

-- a held reader in the rules' words
abbrev pub view : View Held Stream
view = record {
  state = λ h. h.extractor.stream;
  unread = λ h. unread h.extractor h.buffer;
  waits = λ h. not (eqb h.extractor.unanswered 0);
  Fits = λ h. Fits h.extractor (length h.buffer);
}
