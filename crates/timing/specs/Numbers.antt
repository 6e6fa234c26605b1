-- Document 01's number, values and words for each answer and each fault.
use Rattle.std.specs.Prelude.{ℕ, List, [], ◌∷◌, ◌++◌, Option, Some, None, Result, Ok, Err, codes, decimal}
use Prim.Native.String.{String}
use Rattle.timing.specs.declared.HiresTimingFault.{HiresTimingFault}
use Rattle.timing.specs.declared.HiresTimingFault.TheVariants.{ExtraZeroAfterEnd, ExtraZeroInField, InvalidZeroInField, Sequence}
use Rattle.timing.specs.declared.RecordDoesNotFit.{RecordDoesNotFit}

-- A step answers nothing, the stream's start or number 1.
abbrev pub Answer : Type 0
Answer = Result (Option ℕ) RecordDoesNotFit

-- The number of a refusal.
abbrev pub refusal_number : RecordDoesNotFit → ℕ
refusal_number refusal = 1

-- The number of an answer. 0 is no number of the table: the step was taken.
abbrev pub number_of : Answer → ℕ
number_of (Ok start) = 0
number_of (Err refusal) = refusal_number refusal

-- What an answer says besides: the stream's start.
abbrev pub values_of : Answer → List ℕ
values_of (Ok None) = []
values_of (Ok (Some start)) = start ∷ []
values_of (Err refusal) = []

-- The words of a fault.
abbrev pub words_of : Option HiresTimingFault → String
words_of None = "no fault"
words_of (Some (ExtraZeroAfterEnd unit)) = "extra 0 after the data field end"
words_of (Some (ExtraZeroInField unit)) = "extra 0 in the datafield"
words_of (Some (InvalidZeroInField unit)) = "invalid 0 in the datafield"
words_of (Some (Sequence timing unit previous-timing previous-unit)) = "Sequence"

-- "a fault in the field's form names the field's unit, a Sequence fault both timings and both units"
abbrev pub names_of : Option HiresTimingFault → List ℕ
names_of None = []
names_of (Some (ExtraZeroAfterEnd unit)) = unit ∷ []
names_of (Some (ExtraZeroInField unit)) = unit ∷ []
names_of (Some (InvalidZeroInField unit)) = unit ∷ []
names_of (Some (Sequence timing unit previous-timing previous-unit)) = timing ∷ unit ∷ previous-timing ∷ previous-unit ∷ []

-- A fault as it is printed: its words, and the units and timings that it names.
abbrev pub text_of : HiresTimingFault → List ℕ
text_of (ExtraZeroAfterEnd unit) = codes (words_of (Some (ExtraZeroAfterEnd unit))) ++ (codes ", unit " ++ decimal unit)
text_of (ExtraZeroInField unit) = codes (words_of (Some (ExtraZeroInField unit))) ++ (codes ", unit " ++ decimal unit)
text_of (InvalidZeroInField unit) = codes (words_of (Some (InvalidZeroInField unit))) ++ (codes ", unit " ++ decimal unit)
text_of (Sequence timing unit previous-timing previous-unit) =
    codes (words_of (Some (Sequence timing unit previous-timing previous-unit)))
    ++ (codes ": timing " ++ (decimal timing ++ (codes ", unit " ++ (decimal unit
    ++ (codes ", previous timing " ++ (decimal previous-timing ++ (codes ", unit " ++ decimal previous-unit)))))))
