-- Each answer of the library as document 01's number, and what it writes in the lent words: definitions only.
use Rattle.std.specs.Prelude.{ℕ, List, eqb, set, Err, Ok, Result}
use Rattle.laws.specs.Pick.{pick}
use Rattle.rules.specs.declared.Unit.{Unit as TheUnit}
use Rattle.extract.specs.Calls as Calls
use Rattle.extract.specs.declared.Extractor.{Extractor}
use Rattle.extract.specs.declared.Refusal.{Refusal}
use Rattle.extract.specs.declared.Pushed.{Pushed}
use Rattle.extract.specs.declared.Answer.{Answer}
use Rattle.extract.specs.declared.Answer.TheVariants.{Unit as AUnit, InvalidAccessUnitLength, ParityCheckFailed, InsufficientData, Quiet}
use Rattle.laws.specs.Flags.{flag_of}
use Rattle.record_words.specs.Words.{stamp_on, left_on, reader_on}

-- OPENING: number 1 where it is refused; then nothing is written
abbrev pub opened_number : Result Extractor Refusal → ℕ
opened_number o = Calls.open_number o

unfoldable pub opened_on : List ℕ → Result Extractor Refusal → List ℕ
opened_on ws (Ok e) = reader_on ws e
opened_on ws (Err r) = ws

-- A PUSH: numbers 1 to 4 write nothing
abbrev pub push_number : Result (Unit {0}) Refusal → ℕ
push_number a = Calls.push_number a

abbrev pub placed_on : List ℕ → Extractor → List ℕ
placed_on ws e = set (set (set (set ws 10 e.start) 11 e.end) 12 e.accepted) 13 e.unanswered

unfoldable pub pushed_on : List ℕ → Pushed → List ℕ
pushed_on ws p = pick (eqb (push_number p.answer) 0) (placed_on ws p.extractor) ws

-- A REQUEST: "A unit carries index, position and timestamp if one waits"; its bytes are those at start in the lent buffer
unfoldable pub unit_on : List ℕ → TheUnit → ℕ → List ℕ
unit_on ws u start =
    stamp_on
    (set (set (set (set (set (set ws 10 start) 11 u.length) 12 u.index) 13 u.position.0) 14 (flag_of u.major)) 15 u.substreams)
    u.waiting

-- number 5, "actual and minimum"
abbrev pub short_on : List ℕ → ℕ → ℕ → List ℕ
short_on ws actual minimum = set (set ws 16 actual) 17 minimum

abbrev pub asked_number : Result Answer Refusal → ℕ
asked_number a = Calls.answer_number a

-- the lent unit
unfoldable pub asked_unit : List ℕ → Result Answer Refusal → List ℕ
asked_unit ws (Ok (AUnit unit start)) = unit_on ws unit start
asked_unit ws (Ok (InvalidAccessUnitLength actual minimum)) = short_on ws actual minimum
asked_unit ws (Ok ParityCheckFailed) = ws
asked_unit ws (Ok InsufficientData) = ws
asked_unit ws (Ok Quiet) = ws
asked_unit ws (Err r) = ws

-- the lent record: number 1 writes nothing
unfoldable pub asked_on : List ℕ → ℕ → Extractor → List ℕ
asked_on ws number e = pick (eqb number 1) ws (left_on ws e)
