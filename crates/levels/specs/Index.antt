-- Five accumulators and four substreams: the same rule at each index.
use Rattle.std.specs.Prelude.{ℕ, zero, suc, Bool, true, false, List, [], ◌∷◌}
use Rattle.laws.specs.Pick.{pick}

-- "Five accumulators"
abbrev pub five : {A : Type 0} → (ℕ → A) → List A
five f = f 0 ∷ f 1 ∷ f 2 ∷ f 3 ∷ f 4 ∷ []

-- "four substreams"
abbrev pub four : {A : Type 0} → (ℕ → A) → List A
four f = f 0 ∷ f 1 ∷ f 2 ∷ f 3 ∷ []

-- the test holds at every index below n
unfoldable pub every : ℕ → (ℕ → Bool) → Bool
every zero p = true
every (suc n) p = pick (p n) (every n p) false
