-- Digits read one a turn: what is left of a number, and that so few digits write no more than a word holds.
use Rattle.std.proofs.Common.{◌≡◌, ℕ, suc, ◌+◌, ◌*◌, ◌^◌, ◌≤◌, ◌<◌, Option, Some, None, List, length, drop, sym, ap, ◌∙◌, arith, add-one, pow-suc, drop-cons}
use native.Mathlib.Nat.{pow-zero, pow-le-pow_right, mul-le-mul_right}
use borrow.Author.Tests.{le-leb, lt-leb, lt-ltb, le-ltb, eq-eqb, ne_eqb}
use lib.ListN.{drop_of_length-le}
use Rattle.laws.specs.Pick.{pick_same}
use Rattle.laws.specs.Parts.{byte_at}
use Rattle.text.specs.Numbers.{value_from, number_of}

-- a number of at most `most` digits
module _ (digit : ℕ → ℕ) (base most : ℕ) (s : List ℕ) where
  pub none : length s ≡ 0 → None ≡ number_of digit base most s
  unfolding number_of
  none e = rw (eq-eqb (length s) 0 e)

  pub long : most < length s → None ≡ number_of digit base most s
  unfolding number_of
  long h = simp (lt-leb (length s) most h, pick_same)

  pub begins : (length s ≡ 0 → ⊥) → length s ≤ most → number_of digit base most s ≡ value_from digit base 0 s
  unfolding number_of
  begins f h = rw (ne_eqb (length s) 0 f, le-leb (length s) most h)

-- the whole is what the digits from the i-th on write behind the number so far
module _ (digit : ℕ → ℕ) (base : ℕ) (s : List ℕ) where
  module _ (n i : ℕ) {whole_of : Option ℕ} (same : whole_of ≡ value_from digit base n (drop i s)) where
    pub whole : length s ≤ i → Some n ≡ whole_of
    unfolding value_from
    whole h = sym (same ∙ ap (value_from digit base n) (drop_of_length-le s h))

    module _ (h : i < length s) where
      pub bad : (digit (byte_at s i) < base → ⊥) → None ≡ whole_of
      unfolding value_from
      bad f = let l : base ≤ digit (byte_at s i) = omega arith in sym (same ∙ ap (value_from digit base n) (drop-cons s i 0 h) ∙ rw (le-ltb (digit (byte_at s i)) base l))

      pub more : {k x d : ℕ} → k ≡ base → x ≡ d → (digit (byte_at s i) < base) × (d ≡ digit (byte_at s i)) → whole_of ≡ value_from digit base (n * k + x) (drop (i + 1) s)
      unfolding value_from
      more ek ex (l, e) = same ∙ ap (value_from digit base n) (drop-cons s i 0 h) ∙ rw (lt-ltb (digit (byte_at s i)) base l, add-one, ek, ex, e)

-- a number that i digits write, and one digit more
module _ (base n i : ℕ) (small : n < base ^ i) {k : ℕ} (ek : k ≡ base) (d : ℕ) (l : d < base) where
  pub one_more : n * k + d < base ^ (i + 1)
  one_more = rw (ek, add-one, pow-suc) (let m : suc n * base ≤ base ^ i * base = mul-le-mul_right base small in omega arith)

  pub in_word : (most : ℕ) → i < most → base ^ most ≤ 2 ^ 64 → n * k + d < 2 ^ 64
  in_word most h room = let m : base ^ (i + 1) ≤ base ^ most = pow-le-pow_right (omega arith) (omega arith) in let k = one_more in omega arith

pub starts : (base : ℕ) → 0 < base ^ 0
starts base = rw (pow-zero base) (omega arith)

-- what the goals of `number` need
pub ruleset digit_steps = (none, long, begins, whole, bad, more, one_more, in_word, starts)
