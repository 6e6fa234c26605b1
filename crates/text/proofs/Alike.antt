-- The digits of the rules are those of `char::to_digit`: the same value, or none in either.
use Rattle.std.proofs.Common.{◌≡◌, ℕ, ◌+◌, ◌*◌, ◌/◌, ◌%◌, ◌≤◌, ◌<◌, min, Bool, true, false, ltb, List, [], ◌∷◌, refl, arith}
use borrow.Author.Tests.{le-ltb, ltb-true, ltb-false}
use Rattle.std.proofs.lemmas.Bool.Decides.{nat_tests}
use Rattle.std.specs.Char.{digit_value}
use Rattle.text.specs.Numbers.{decimal_digit_of, hex_digit_of, value_from, number_of, hex_number_of, decimal_number_of}

pub hex_digit_is : (b : ℕ) → hex_digit_of b ≡ min (digit_value b) 16
unfolding hex_digit_of
hex_digit_is b = grind (arith, nat_tests)

-- a digit's low four bits are its value, but for a letter's nine
pub nibble_is : (b : ℕ) → hex_digit_of b < 16 → b % 16 + b / 64 * 9 ≡ hex_digit_of b
unfolding hex_digit_of
nibble_is b h = grind (arith, nat_tests)

decimal_digit_is : (b : ℕ) → decimal_digit_of b ≡ min (digit_value b) 10
unfolding decimal_digit_of
decimal_digit_is b = grind (arith, nat_tests)

-- two ways to read a digit, one of which says the base for what is none
module _ (f g : ℕ → ℕ) (base : ℕ) (capped : (b : ℕ) → g b ≡ min (f b) base) where
  digit_by : (n b : ℕ) (s : List ℕ) → ((m : ℕ) → value_from f base m s ≡ value_from g base m s) → (t : Bool) → ltb (f b) base ≡ t → value_from f base n (b ∷ s) ≡ value_from g base n (b ∷ s)
  unfolding value_from
  digit_by n b s rest true e =
      let l : f b < base = ltb-true (f b) base e in
      let c = capped b in
      let k : g b ≡ f b = omega arith in
      rw (e, k, e) (rest (n * base + f b))
  digit_by n b s rest false e =
      let l : base ≤ f b = ltb-false (f b) base e in
      let c = capped b in
      let k : base ≤ g b = omega arith in
      rw (e, le-ltb (g b) base k)

  value_same : (n : ℕ) (s : List ℕ) → value_from f base n s ≡ value_from g base n s
  unfolding value_from
  value_same n [] = refl
  value_same n (b ∷ s) = digit_by n b s (λ m. value_same m s) (ltb (f b) base) refl

  number_same : (most : ℕ) (s : List ℕ) → number_of f base most s ≡ number_of g base most s
  unfolding number_of
  number_same most s = rw (value_same 0 s)

pub hex_same : (s : List ℕ) → number_of digit_value 16 16 s ≡ hex_number_of s
unfolding hex_number_of
hex_same s = number_same digit_value hex_digit_of 16 hex_digit_is 16 s

pub decimal_same : (s : List ℕ) → number_of digit_value 10 19 s ≡ decimal_number_of s
unfolding decimal_number_of
decimal_same s = number_same digit_value decimal_digit_of 10 decimal_digit_is 19 s
