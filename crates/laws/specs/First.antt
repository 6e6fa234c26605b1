-- The first place with a property. A scan that stops at its first match yields this place.
use Rattle.std.specs.Prelude.{◌≡◌, refl, Bool, true, false, ℕ, zero, suc, ◌+◌, ◌-◌, ◌≤◌, ◌<◌}
use Rattle.std.proofs.Common.{sym, ap, ◌∙◌, true≢false, arith, eq-or-lt_of_le, add-one, ⊎_elim}
use Rattle.laws.specs.Pick.{pick}
use Rattle.laws.specs.Turns.{one_left}

pub data Place : Type 0 where
  At : ℕ → Place
  Nowhere : Place

-- the first of the n places from i on that passes the test
unfoldable pub first_from : (ℕ → Bool) → ℕ → ℕ → Place
first_from p i zero = Nowhere
first_from p i (suc n) = pick (p i) (At i) (first_from p (suc i) n)

-- what a first place is: it passes, it lies within, and none before it passes
pub record IsFirst (p : ℕ → Bool) (i n k : ℕ) : Type 0 where
  pub from : i ≤ k
  pub within : k < i + n
  pub passes : p k ≡ true
  pub none_before : (j : ℕ) → i ≤ j → j < k → p j ≡ false

-- for a scan that goes one place at a time
pub first_here : (p : ℕ → Bool) (i n : ℕ) → p i ≡ true → first_from p i (suc n) ≡ At i
unfolding first_from
first_here p i n e = rw e

pub first_later : (p : ℕ → Bool) (i n : ℕ) → p i ≡ false → first_from p i (suc n) ≡ first_from p (suc i) n
unfolding first_from
first_later p i n e = rw e

pub first_none : (p : ℕ → Bool) (i : ℕ) → first_from p i 0 ≡ Nowhere
unfolding first_from
first_none p i = refl

-- for a scan of the places before an end: the first of all is the first of those from i on
module _ (p : ℕ → Bool) (i end : ℕ) where
  pub scan_end : end ≤ i → first_from p i (end - i) ≡ Nowhere
  scan_end h = let e : end - i ≡ 0 = omega arith in ap (first_from p i) e ∙ first_none p i

  module _ (h : i < end) where
    pub scan_here : p i ≡ true → first_from p i (end - i) ≡ At i
    scan_here t = ap (first_from p i) (one_left i end h) ∙ first_here p i _ t

    pub scan_later : p i ≡ false → first_from p i (end - i) ≡ first_from p (i + 1) (end - (i + 1))
    scan_later f = ap (first_from p i) (one_left i end h) ∙ first_later p i _ f ∙ rw add-one

reached : (p : ℕ → Bool) (i n k : ℕ) → IsFirst p i n k → p i ≡ true → i ≡ k
reached p i n k f e =
    ⊎_elim (λ (same : i ≡ k). same) (λ (l : i < k). absurd (true≢false (sym e ∙ f.none_before i (omega arith) l))) (eq-or-lt_of_le f.from)

passed : (p : ℕ → Bool) (i n k : ℕ) → IsFirst p i (suc n) k → p i ≡ false → IsFirst p (suc i) n k
passed p i n k f e =
    record {
      from = ⊎_elim (λ (same : i ≡ k). absurd (true≢false (sym f.passes ∙ ap p (sym same) ∙ e))) (λ (l : i < k). l) (eq-or-lt_of_le f.from);
      within = (let w = f.within in omega arith);
      passes = f.passes;
      none_before = λ j l. f.none_before j (omega arith);
    }

unique_by : (p : ℕ → Bool) (n i k : ℕ) → IsFirst p i (suc n) k → (IsFirst p (suc i) n k → first_from p (suc i) n ≡ At k) → (t : Bool) → p i ≡ t → first_from p i (suc n) ≡ At k
unique_by p n i k f rest true e = first_here p i n e ∙ ap At (reached p i (suc n) k f e)
unique_by p n i k f rest false e = first_later p i n e ∙ rest (passed p i n k f e)

-- a place that passes, and before which none does, is the first
pub first_unique : (p : ℕ → Bool) (n i k : ℕ) → IsFirst p i n k → first_from p i n ≡ At k
first_unique p zero i k f = absurd (let w = f.within in let l = f.from in omega arith)
first_unique p (suc n) i k f = unique_by p n i k f (first_unique p n (suc i) k) (p i) refl

nowhere_by : (p : ℕ → Bool) (n i : ℕ) → ((j : ℕ) → i ≤ j → j < i + suc n → p j ≡ false) → first_from p (suc i) n ≡ Nowhere → first_from p i (suc n) ≡ Nowhere
nowhere_by p n i none rest = first_later p i n (none i (omega arith) (omega arith)) ∙ rest

-- where none passes there is no first
pub first_nowhere : (p : ℕ → Bool) (n i : ℕ) → ((j : ℕ) → i ≤ j → j < i + n → p j ≡ false) → first_from p i n ≡ Nowhere
first_nowhere p zero i none = first_none p i
first_nowhere p (suc n) i none = nowhere_by p n i none (first_nowhere p n (suc i) (λ j l m. none j (omega arith) (omega arith)))

-- what the definition yields is a first place
abbrev pub Tells : (ℕ → Bool) → ℕ → ℕ → Place → Type 0
Tells p i n (At k) = IsFirst p i n k
Tells p i n Nowhere = (j : ℕ) → i ≤ j → j < i + n → p j ≡ false

tells_later : (p : ℕ → Bool) (i n : ℕ) → p i ≡ false → (x : Place) → Tells p (suc i) n x → Tells p i (suc n) x
tells_later p i n e (At k) f =
    record {
      from = (let l = f.from in omega arith);
      within = (let w = f.within in omega arith);
      passes = f.passes;
      none_before = λ j l m. ⊎_elim (λ (same : i ≡ j). ap p (sym same) ∙ e) (λ (b : i < j). f.none_before j b m) (eq-or-lt_of_le l);
    }
tells_later p i n e Nowhere f = λ j l m. ⊎_elim (λ (same : i ≡ j). ap p (sym same) ∙ e) (λ (b : i < j). f j b (omega arith)) (eq-or-lt_of_le l)

tells_by : (p : ℕ → Bool) (i n : ℕ) → Tells p (suc i) n (first_from p (suc i) n) → (t : Bool) → p i ≡ t → Tells p i (suc n) (first_from p i (suc n))
tells_by p i n rest true e =
    rw (first_here p i n e) (record { from = omega arith; within = omega arith; passes = e; none_before = λ j l m. absurd (omega arith) })
tells_by p i n rest false e = rw (first_later p i n e) (tells_later p i n e (first_from p (suc i) n) rest)

pub first_tells : (p : ℕ → Bool) (n i : ℕ) → Tells p i n (first_from p i n)
first_tells p zero i = rw (first_none p i) (λ j l m. absurd (omega arith))
first_tells p (suc n) i = tells_by p i n (first_tells p n (suc i)) (p i) refl
