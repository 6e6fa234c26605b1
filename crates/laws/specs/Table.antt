-- A table's rule at each entry, from one test that is computed over the whole table.
use Rattle.std.proofs.Common.{◌∙◌, subst, sym, add-zero, zero-add, add-suc, suc-add, le_of_suc-le-suc, not-suc-le-zero}
use Rattle.std.specs.Prelude.{Bool, true, false, List, [], ◌∷◌, ℕ, zero, suc, ◌+◌, ◌<◌, T, length, get_or}
use Rattle.laws.specs.Pick.{pick}

-- the test passes at each entry and its place, counted from i
abbrev pub every : {A : Type 0} → (ℕ → A → Bool) → ℕ → List A → Bool
every f i [] = true
every f i (x ∷ xs) = pick (f i x) (every f (suc i) xs) false

-- both tests pass where the second is asked only after the first
pub both_pass : (a b : Bool) → T (pick a b false) → T a × T b
both_pass true b t = (tt, t)
both_pass false b t = absurd t

from : {A : Type 0} (d : A) (f : ℕ → A → Bool) (xs : List A) (i : ℕ) → T (every f i xs) → (k : ℕ) → k < length xs → T (f (i + k) (get_or xs k d))
from d f [] i t k h = absurd (not-suc-le-zero h)
from d f (x ∷ xs) i t zero h = subst (λ (m : ℕ). T (f m x)) (sym (add-zero i)) (both_pass (f i x) (every f (suc i) xs) t).0
from d f (x ∷ xs) i t (suc k) h =
    subst (λ (m : ℕ). T (f m (get_or xs k d))) (suc-add i k ∙ sym (add-suc i k))
    (from d f xs (suc i) (both_pass (f i x) (every f (suc i) xs) t).1 k (le_of_suc-le-suc h))

-- the rule at entry k
pub at_each : {A : Type 0} (d : A) (f : ℕ → A → Bool) (xs : List A) → T (every f 0 xs) → (k : ℕ) → k < length xs → T (f k (get_or xs k d))
at_each d f xs t k h = subst (λ (m : ℕ). T (f m (get_or xs k d))) (zero-add k) (from d f xs 0 t k h)
