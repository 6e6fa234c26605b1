-- The highest index at which a test holds is the first that a search from the top finds.
use Rattle.std.specs.Prelude.{ℕ, zero, suc, ◌+◌, ◌-◌, ◌<◌, ◌≡◌, refl, Bool, true, false, List, [], ◌∷◌, Option, Some, MatchOption, find}
use Rattle.std.proofs.Common.{arith, ap, ◌∙◌}
use Rattle.std.specs.Iterator.{AlwaysYields}
use Rattle.std.specs.declared.iter.Rev.{Rev}
use Rattle.std.specs.declared.ops.Range.{Range}
use Rattle.std.proofs.lemmas.Iterator.{YieldsList}
use Rattle.laws.specs.Pick.{pick}
use Rattle.window_rules.specs.Index.{highest}

-- the numbers below n, from the top
abbrev pub below : ℕ → List ℕ
below zero = []
below (suc n) = n ∷ below n

-- one call of a range's `next_back`
abbrev pub steps_down : Rev (Range ℕ) → Option ℕ → Rev (Range ℕ) → Type 0
steps_down s r t = (t.iter.start ≡ s.iter.start) × MatchOption r ((s.iter.end - s.iter.start ≡ 0) × (t.iter.end ≡ s.iter.end))
    (λ x. (0 < s.iter.end - s.iter.start) × (x ≡ t.iter.end) × (s.iter.end ≡ t.iter.end + 1))

counts_down : (n : ℕ) (s : Rev (Range ℕ)) → (s.iter.start ≡ 0) × (s.iter.end ≡ n) → AlwaysYields steps_down (λ x. x) s (below n)
counts_down zero s e = λ x j h. absurd (omega (arith, h.1.0, e.1))
counts_down (suc n) s e = (λ j h. absurd (omega (arith, h.1.0, e.0, e.1)), λ x j h. (omega (arith, h.1.1, h.1.2, e.1), counts_down n j (h.0 ∙ e.0, omega (arith, h.1.2, e.1))))

pub down_from : (n : ℕ) {s : Rev (Range ℕ)} → s.iter ≡ record { start = 0; end = n } → YieldsList steps_down (λ x. x) s (below n)
down_from n {s} e = record { runs = counts_down n s (ap (λ r. r.start) e, ap (λ r. r.end) e) }

first_by : (p : ℕ → Bool) (n : ℕ) (b : Bool) → p n ≡ b → find p (below n) ≡ highest n p → find p (n ∷ below n) ≡ pick (p n) (Some n) (highest n p)
first_by p n true e same = rw e
first_by p n false e same = rw e same

pub first_is_highest : (p : ℕ → Bool) (n : ℕ) → find p (below n) ≡ highest n p
unfolding highest
first_is_highest p zero = refl
first_is_highest p (suc n) = first_by p n (p n) refl (first_is_highest p n)
