-- The highest index at which a test holds.
use Rattle.std.specs.Prelude.{ℕ, zero, suc, Bool, Option, Some, None}
use Rattle.laws.specs.Pick.{pick}

-- the highest index below n at which the test holds
unfoldable pub highest : ℕ → (ℕ → Bool) → Option ℕ
highest zero p = None
highest (suc n) p = pick (p n) (Some n) (highest n p)
