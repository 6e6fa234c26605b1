-- P8, computed from the definitions.
use Rattle.std.proofs.Common.{◌≡◌, ℕ, Bool, true, false, Some, None, Ok, List, [], ◌∷◌, ◌++◌, replicate}
use Rattle.timing.specs.Timing.{fresh_of, counts_fit_of, fits_of, step_of, updated_of, start_of, continues_of}
use Rattle.timing.specs.Timing.{state0_of, states1to4_of, state5_of, states6to10_of, states11to15_of, field_end_of}
use Rattle.timing.specs.Numbers.{Answer}
use Rattle.timing.specs.Units.{answers_of, units_from}

-- "bits 00000 1111 00000"
pub bits : List Bool
bits =
    false ∷ false ∷ false ∷ false ∷ false ∷ true ∷ true ∷ true ∷ true ∷ false ∷ false ∷ false ∷ false ∷ false ∷ []

-- thirteen units that are answered nothing
pub nothings : List Answer
nothings = replicate 13 (Ok None)

-- "from unit 0, 40 samples, output timing 1,000 at unit 5: start 197,408". The output timings of the other units and the samples of any unit
-- but the last don't matter, and the start is answered at the last bit alone.
pub P8 : (samples output : ℕ → ℕ) → samples 13 ≡ 40 → output 5 ≡ 1000
    → answers_of fresh_of (units_from 0 samples output bits) ≡ nothings ++ (Ok (Some 197408) ∷ [])
unfolding answers_of units_from bits nothings fresh_of counts_fit_of fits_of step_of updated_of start_of continues_of state0_of states1to4_of state5_of states6to10_of states11to15_of field_end_of
P8 samples output s o = rw (s, o)
