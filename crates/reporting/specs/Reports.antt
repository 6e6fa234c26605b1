-- What becomes of a piece where every line is written: definitions only.
use Rattle.std.specs.Prelude.{ℕ, zero, suc, ◌≡◌, List, length, codes, Result, Ok, Err}
use Rattle.extract.specs.declared.Extractor.{Extractor}
use Rattle.extract.specs.declared.Refusal.{Refusal}
use Rattle.extract.specs.declared.Refusal.TheVariants.{Record}
use Rattle.extract.specs.Calls.{refusal_text, pushed_of, buffer_of}
use Rattle.lines.specs.Gather.{gathered_of}
use Rattle.lines.specs.declared.Ended.{Ended}
use Rattle.lines.specs.declared.Ended.TheVariants.{Dry, Full}
use Rattle.reporting.specs.declared.Failure.{Failure}
use Rattle.reporting.specs.declared.Failure.TheVariants.{Refused, Unwritten}

-- what a report that ends early prints: the words of the refusal, or that a line could not be written
abbrev pub text_of : Failure → List ℕ
text_of (Refused e) = refusal_text e
text_of Unwritten = codes "a line could not be written"

-- how a report goes on: with its reader, or not at all
abbrev pub Reported : Type 0
Reported = Result Extractor Failure

-- a call ends as it is defined to, but for a line that could not be written
abbrev pub Written : Reported → Reported → Type 0
Written (Ok r) d = Ok r ≡ d
Written (Err (Refused e)) d = Err (Refused e) ≡ d
Written (Err Unwritten) d = Unit {0}

-- a full slice is written and gathered anew; dry, the reader goes on; number 1 ends it
abbrev pub by_ended : {A : Type 0} → Ended → A → A → A → A
by_ended Dry dry full refused = dry
by_ended Full dry full refused = full
by_ended Ended.Refused dry full refused = refused

-- the lines of a reader's requests until dry, a slice at a time, at most n of them
unfoldable pub wrote_of : ℕ → Extractor → List ℕ → List ℕ → Reported
wrote_of zero r buf d = Ok r
wrote_of (suc n) r buf d =
    by_ended (gathered_of r buf d).gathered.ended
    (Ok (gathered_of r buf d).gathered.reader)
    (wrote_of n (gathered_of r buf d).gathered.reader buf (gathered_of r buf d).holds)
    (Err (Refused Record))

-- a piece: refused by its number, or accepted and its lines written
abbrev pub by_push : Result (Unit {0}) Refusal → Reported → Reported
by_push (Ok u) wrote = wrote
by_push (Err e) wrote = Err (Refused e)

unfoldable pub piece_of : Extractor → List ℕ → List ℕ → List ℕ → Reported
piece_of r buf piece d =
    by_push (pushed_of r (length buf) (length piece)).answer
    (wrote_of 18446744073709551615 (pushed_of r (length buf) (length piece)).extractor (buffer_of r buf piece) d)
