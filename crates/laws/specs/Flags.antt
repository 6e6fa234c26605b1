-- Yes and no as a number, for the interfaces that have no Bool: any number but zero is yes, and yes is written as 1.
use Rattle.std.specs.Prelude.{ℕ, ◌≡◌, refl, Bool, true, false, ltb}

abbrev pub yes_of : ℕ → Bool
yes_of n = ltb 0 n

abbrev pub flag_of : Bool → ℕ
flag_of true = 1
flag_of false = 0

-- what was written is read back
pub yes_flag : (b : Bool) → yes_of (flag_of b) ≡ b
yes_flag true = refl
yes_flag false = refl
