-- Pairs of hexadecimal digits: what each byte is, and what is written so far.
use Rattle.std.proofs.Common.{◌≡◌, ℕ, zero, suc, ◌+◌, ◌/◌, ◌%◌, ◌≤◌, ◌<◌, true, false, Some, None, List, [], ◌∷◌, length, get_or, set, ltb, refl, sym, ap, ◌∙◌, arith, zero-add}
use borrow.Author.Tests.{ltb-true, le-leb, lt-leb, eq-eqb, ne_eqb}
use Rattle.std.proofs.Math.Seq.{paste}
use Rattle.std.proofs.lemmas.List.Edits.{paste_more}
use Rattle.std.proofs.lemmas.Bool.Decides.{nat_tests}
use Rattle.std.specs.Char.{is_ascii_hexdigit}
use Rattle.std.specs.List.{list_all}
use Rattle.std.specs.Simd.{first_chunks}
use Rattle.laws.specs.Pick.{pick_same, both}
use Rattle.text.specs.Numbers.{hex_digit_of, BothDigits, byte_of, all_hex, pairs_of, hex_good, hex_bytes_of, hex_bytes_on}

-- is each byte a digit?
pub all_is : (s : List ℕ) → list_all is_ascii_hexdigit s ≡ all_hex s
unfolding all_hex hex_digit_of
all_is [] = refl
all_is (b ∷ s) = let e = all_is s in grind (arith, nat_tests)

-- the i-th of n pairs
abbrev pub first : ℕ → ℕ → List ℕ → ℕ
first n i s = get_or (get_or (first_chunks 2 n s) i []) 0 0

abbrev pub second : ℕ → ℕ → List ℕ → ℕ
second n i s = get_or (get_or (first_chunks 2 n s) i []) 1 0

pub digits_at : (s : List ℕ) (n i : ℕ) → i < n → n + n ≤ length s → all_hex s ≡ true → BothDigits (first n i s) (second n i s)
unfolding all_hex
digits_at [] n i h k a = absurd (omega arith)
digits_at (x ∷ []) n i h k a = absurd (omega arith)
digits_at (x ∷ y ∷ s) zero i h k a = absurd (omega arith)
digits_at (x ∷ y ∷ s) (suc n) zero h k a =
    let p = both (ltb (hex_digit_of x) 16) _ a in (ltb-true (hex_digit_of x) 16 p.0, ltb-true (hex_digit_of y) 16 (both (ltb (hex_digit_of y) 16) (all_hex s) p.1).0)
digits_at (x ∷ y ∷ s) (suc n) (suc i) h k a = digits_at s n i (omega arith) (omega arith) (both (ltb (hex_digit_of y) 16) (all_hex s) (both (ltb (hex_digit_of x) 16) _ a).1).1

pair_at : (s : List ℕ) (n i : ℕ) → i < n → n + n ≤ length s → get_or (pairs_of s) i 0 ≡ byte_of (first n i s) (second n i s)
unfolding pairs_of
pair_at [] n i h k = absurd (omega arith)
pair_at (x ∷ []) n i h k = absurd (omega arith)
pair_at (x ∷ y ∷ s) zero i h k = absurd (omega arith)
pair_at (x ∷ y ∷ s) (suc n) zero h k = refl
pair_at (x ∷ y ∷ s) (suc n) (suc i) h k = pair_at s n i (omega arith) (omega arith)

pairs_length : (s : List ℕ) (n : ℕ) → n + n ≡ length s → length (pairs_of s) ≡ n
unfolding pairs_of
pairs_length [] zero e = refl
pairs_length [] (suc n) e = absurd (omega arith)
pairs_length (x ∷ []) n e = absurd (omega arith)
pairs_length (x ∷ y ∷ s) zero e = absurd (omega arith)
pairs_length (x ∷ y ∷ s) (suc n) e = ap suc (pairs_length s n (omega arith))

-- the i-th pair: its byte is written where it belongs
pub pair_written : (d b s : List ℕ) (n i : ℕ) → i < n → n + n ≡ length s → n ≤ length d → b ≡ paste d 0 (pairs_of s) i → {x : ℕ} → x ≡ byte_of (first n i s) (second n i s)
    → set b i x ≡ paste d 0 (pairs_of s) (i + 1)
pair_written d b s n i h whole room e {x} ex =
    let l = pairs_length s n whole in
    let y : x ≡ get_or (pairs_of s) i 0 = ex ∙ sym (pair_at s n i h (omega arith)) in
    rw (e, y) (ap (λ (k : ℕ). set (paste d 0 (pairs_of s) i) k (get_or (pairs_of s) i 0)) (sym (zero-add i)) ∙ paste_more d 0 (pairs_of s) i 0 (omega arith) (omega arith))

-- the tests of `hex_bytes`, in their order
module _ (s : List ℕ) (room : ℕ) where
  pub odd : 1 ≤ length s % 2 → hex_good s room ≡ false
  unfolding hex_good
  odd h = rw (ne_eqb (length s % 2) 0 (λ z. omega arith))

  pub no_room : room < length s / 2 → hex_good s room ≡ false
  unfolding hex_good
  no_room h = simp (lt-leb (length s / 2) room h, pick_same)

  pub not_all : all_hex s ≡ false → hex_good s room ≡ false
  unfolding hex_good
  not_all f = simp (f, pick_same)

  pub is_good : length s % 2 < 1 → length s / 2 ≤ room → all_hex s ≡ true → hex_good s room ≡ true
  unfolding hex_good
  is_good e h t = let z : length s % 2 ≡ 0 = omega arith in rw (eq-eqb (length s % 2) 0 z, le-leb (length s / 2) room h) t

module _ (s d : List ℕ) where
  module _ (f : hex_good s (length d) ≡ false) where
    pub no_answer : None ≡ hex_bytes_of s (length d)
    unfolding hex_bytes_of
    no_answer = rw f

    pub unwritten : d ≡ hex_bytes_on s d
    unfolding hex_bytes_on
    unwritten = rw f

  module _ (t : hex_good s (length d) ≡ true) {n : ℕ} (e : n ≡ length s / 2) where
    pub answered : Some n ≡ hex_bytes_of s (length d)
    unfolding hex_bytes_of
    answered = rw (t, e)

    pub all_written : {b : List ℕ} → b ≡ paste d 0 (pairs_of s) n → b ≡ hex_bytes_on s d
    unfolding hex_bytes_on
    all_written f = rw (t, ← e) f

-- what the goals of `hex_bytes` need
pub ruleset pair_steps = (digits_at, pair_written, odd, no_room, not_all, is_good, no_answer, unwritten, answered, all_written)
