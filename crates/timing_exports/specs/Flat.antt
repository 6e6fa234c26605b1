-- What fourteen words say, and how a record is laid out in them: definitions only.
use Rattle.std.specs.Prelude.{ℕ, List, [], ◌∷◌, Option, Some, None, Result, Ok, Err, eqb, get_or}
use Rattle.laws.specs.Pick.{pick}
use Rattle.timing.specs.declared.HiresTimingFault.{HiresTimingFault}
use Rattle.timing.specs.declared.HiresTimingFault.TheVariants.{ExtraZeroAfterEnd, ExtraZeroInField, InvalidZeroInField, Sequence}
use Rattle.timing.specs.declared.HiresOutputTimingState.{HiresOutputTimingState}
use Rattle.timing.specs.declared.RecordDoesNotFit.{RecordDoesNotFit}
use Rattle.timing.specs.Timing.{moved_to, fits_of, unfit}

-- a fault by its code and the numbers that it may name; any code but 1 to 4 is no fault
unfoldable pub fault_of : ℕ → ℕ → ℕ → ℕ → ℕ → Option HiresTimingFault
fault_of code timing unit previous-timing previous-unit =
    pick (eqb code 1) (Some (ExtraZeroAfterEnd unit))
    (pick (eqb code 2) (Some (ExtraZeroInField unit))
    (pick (eqb code 3) (Some (InvalidZeroInField unit))
    (pick (eqb code 4) (Some (Sequence timing unit previous-timing previous-unit))
    None)))

-- the record that words say: its numbers as they are, however wide
unfoldable pub record_of : List ℕ → HiresOutputTimingState
record_of w =
    record {
      state = get_or w 0 0;
      counter = get_or w 1 0;
      bits = get_or w 2 0;
      field = record { timing = get_or w 3 0; unit = get_or w 4 0; output = get_or w 5 0 };
      previous = record { timing = get_or w 6 0; unit = get_or w 7 0; output = get_or w 8 0 };
      fault = fault_of (get_or w 9 0) (get_or w 10 0) (get_or w 11 0) (get_or w 12 0) (get_or w 13 0);
    }

-- "Each step first drops the last fault."
abbrev pub unfaulted : HiresOutputTimingState → HiresOutputTimingState
unfaulted r = moved_to r.state r

-- what words that fit are read as, the fault dropped; number 1 where they don't
unfoldable pub read_of : List ℕ → Result HiresOutputTimingState RecordDoesNotFit
read_of w = pick (fits_of (record_of w)) (Ok (unfaulted (record_of w))) (Err unfit)

-- a fault's code and the four numbers that it may name: "a fault in the field's form names the field's unit, a Sequence fault both timings and
-- both units"; zeros in place of what it doesn't name
abbrev pub fault_words : Option HiresTimingFault → List ℕ
fault_words None = 0 ∷ 0 ∷ 0 ∷ 0 ∷ 0 ∷ []
fault_words (Some (ExtraZeroAfterEnd unit)) = 1 ∷ 0 ∷ unit ∷ 0 ∷ 0 ∷ []
fault_words (Some (ExtraZeroInField unit)) = 2 ∷ 0 ∷ unit ∷ 0 ∷ 0 ∷ []
fault_words (Some (InvalidZeroInField unit)) = 3 ∷ 0 ∷ unit ∷ 0 ∷ 0 ∷ []
fault_words (Some (Sequence timing unit previous-timing previous-unit)) = 4 ∷ timing ∷ unit ∷ previous-timing ∷ previous-unit ∷ []

-- a record laid out with a fault's words
abbrev pub laid_with : HiresOutputTimingState → Option HiresTimingFault → List ℕ
laid_with r fault =
    r.state ∷ r.counter ∷ r.bits
    ∷ r.field.timing ∷ r.field.unit ∷ r.field.output
    ∷ r.previous.timing ∷ r.previous.unit ∷ r.previous.output
    ∷ fault_words fault

unfoldable pub words_of : HiresOutputTimingState → List ℕ
words_of r = laid_with r r.fault
