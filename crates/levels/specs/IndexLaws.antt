-- What a test at every index says, how a loop from the top comes to it, and what stands at an index of five and of four.
use Rattle.std.specs.Prelude.{ℕ, zero, suc, ◌-◌, ◌≤◌, ◌<◌, ◌≡◌, refl, Bool, true, false, ◌&&◌, List, length, take, get_or, eqb}
use native.Mathlib.Omega.{arith}
use Rattle.std.proofs.Common.{not-suc-le-zero, ◌∙◌, eqb-true, add-one, take_all}
use Rattle.std.proofs.Math.Path.{sym, ap}
use Rattle.std.proofs.lemmas.Bool.{eqb-false}
use Rattle.std.proofs.lemmas.List.Folds.{list_all_more}
use Rattle.std.specs.List.{list_all}
use Rattle.laws.specs.Pick.{pick, both, both_hold}
use Rattle.laws.specs.Turns.{less_one}
use Rattle.levels.specs.Index.{five, four, every}

below_top : (n k : ℕ) → k < suc n → (k ≡ n → ⊥) → k < n
below_top n k h ne = omega arith

-- what a test at every index says of one
every_by : (n : ℕ) (p : ℕ → Bool) (k : ℕ) → k < suc n → (p n ≡ true) → ((k < n) → p k ≡ true) → (b : Bool) → eqb k n ≡ b → p k ≡ true
every_by n p k h top rest true e = ap p (eqb-true k n e) ∙ top
every_by n p k h top rest false e = rest (below_top n k h (eqb-false k n e))

pub every_says : (n : ℕ) (p : ℕ → Bool) → every n p ≡ true → (k : ℕ) → k < n → p k ≡ true
unfolding every
every_says zero p e k h = absurd (not-suc-le-zero h)
every_says (suc n) p e k h =
    let w = both (p n) (every n p) e in
    every_by n p k h w.0 (λ g. every_says n p w.1 k g) (eqb k n) refl

pub every_holds : (n : ℕ) (p : ℕ → Bool) → ((k : ℕ) → k < n → p k ≡ true) → every n p ≡ true
unfolding every
every_holds zero p h = refl
every_holds (suc n) p h = both_hold (h n (omega arith)) (every_holds n p (λ k g. h k (omega arith)))

-- a loop from the top: the whole is what is left to test
module _ {whole : Bool} (n : ℕ) (p : ℕ → Bool) (same : whole ≡ every n p) where
  pub every_end : n ≤ 0 → true ≡ whole
  unfolding every
  every_end h = let k : n ≡ 0 = omega arith in sym (same ∙ rw k)

  module _ (more : 0 < n) {x : Bool} (e : x ≡ p (n - 1)) where
    pub every_stop : x ≡ false → false ≡ whole
    unfolding every
    every_stop h = sym (same ∙ ap (λ (k : ℕ). every k p) (less_one n more) ∙ rw (← e, h))

    pub every_on : x ≡ true → whole ≡ every (n - 1) p
    unfolding every
    every_on h = same ∙ ap (λ (k : ℕ). every k p) (less_one n more) ∙ rw (← e, h)

-- a test of each element of a list is a test at every index below its length
turned : (a b : Bool) → (a && b) ≡ pick b a false
turned true true = refl
turned true false = refl
turned false true = refl
turned false false = refl

module _ {A : Type 0} (test : A → Bool) (xs : List A) (d : A) (p : ℕ → Bool) where
  front_every : (n : ℕ) → n ≤ length xs → ((k : ℕ) → k < n → test (get_or xs k d) ≡ p k) → list_all test (take n xs) ≡ every n p
  unfolding every
  front_every zero h same = refl
  front_every (suc n) h same =
      let e : list_all test (take n xs) ≡ every n p = front_every n (omega arith) (λ k g. same k (omega arith)) in
      rw (← add-one n) (list_all_more test xs n d (omega arith) ∙ turned (list_all test (take n xs)) (test (get_or xs n d)) ∙ rw (same n (omega arith), e))

  pub all_every : (n : ℕ) → length xs ≡ n → ((k : ℕ) → k < n → test (get_or xs k d) ≡ p k) → list_all test xs ≡ every n p
  all_every n h same = let e : take n xs ≡ xs = take_all n xs (omega arith) in rw e at (front_every n (omega arith) same)

-- what stands at an index of five and of four
pub at_five : {A : Type 0} (f : ℕ → A) (d : A) (k : ℕ) → k < 5 → get_or (five f) k d ≡ f k
at_five f d zero h = refl
at_five f d (suc zero) h = refl
at_five f d (suc (suc zero)) h = refl
at_five f d (suc (suc (suc zero))) h = refl
at_five f d (suc (suc (suc (suc zero)))) h = refl
at_five f d (suc (suc (suc (suc (suc k))))) h = absurd (omega arith)

pub at_four : {A : Type 0} (f : ℕ → A) (d : A) (k : ℕ) → k < 4 → get_or (four f) k d ≡ f k
at_four f d zero h = refl
at_four f d (suc zero) h = refl
at_four f d (suc (suc zero)) h = refl
at_four f d (suc (suc (suc zero))) h = refl
at_four f d (suc (suc (suc (suc k)))) h = absurd (omega arith)
