-- Many units: "One bit a unit."
use Rattle.std.specs.Prelude.{ℕ, ◌+◌, Bool, List, [], ◌∷◌}
use Rattle.timing.specs.declared.TimingContext.{TimingContext}
use Rattle.timing.specs.declared.HiresOutputTimingState.{HiresOutputTimingState}
use Rattle.timing.specs.Timing.{updated_of}
use Rattle.timing.specs.Numbers.{Answer}

-- what the parser knows of a unit, and its bit
pub record Unit : Type 0 where
  pub about : TimingContext
  pub bit : Bool

-- the record after some units
unfoldable pub after_of : HiresOutputTimingState → List Unit → HiresOutputTimingState
after_of r [] = r
after_of r (u ∷ us) = after_of (updated_of r u.about u.bit).next us

-- what each of them was answered
unfoldable pub answers_of : HiresOutputTimingState → List Unit → List Answer
answers_of r [] = []
answers_of r (u ∷ us) = (updated_of r u.about u.bit).answer ∷ answers_of (updated_of r u.about u.bit).next us

-- bits from unit k on, where unit i has so many samples and such an output timing
unfoldable pub units_from : ℕ → (ℕ → ℕ) → (ℕ → ℕ) → List Bool → List Unit
units_from k samples output [] = []
units_from k samples output (b ∷ bs) =
    record { about = record { unit = k; samples = samples k; output = output k }; bit = b } ∷ units_from (k + 1) samples output bs
