-- The digits that `io::decimal` spells, the fewest that hold a number, are the number in decimal.
use Prim.Native.Nat.{ℕ, zero, suc, ◌+◌, ◌-◌, ◌*◌, ◌/◌, ◌%◌, ◌^◌, ◌≤◌, ◌<◌}
use native.Mathlib.Nat.{pow-le-pow_right, pow-suc}
use native.Mathlib.Omega.{arith}
use borrow.Author.Tests.{ltb-true, ltb-false, lt-ltb}
use mathlib.Core.Path.{◌≡◌, refl, ap, ap₂, ◌∙◌}
use mathlib.Core.Bool.{Bool, true, false}
use mathlib.Core.List.{List, [], ◌∷◌, ◌++◌}
use lib.Dec.{ltb}
use Rattle.io.specs.Digits.{hex_digit_ascii, last_digits, IsDigitCount}
use Rattle.laws.specs.Pick.{pick}
use Rattle.text.specs.Put.{decimal_in, decimal_of}

glyph_of : (d : ℕ) → d < 10 → hex_digit_ascii d ≡ 48 + d
glyph_of d h = rw (lt-ltb d 10 h)

-- one digit
one : (n k : ℕ) → n < 10 → IsDigitCount 10 1 n k → last_digits 10 k n ≡ (48 + n) ∷ []
one n zero h f = absurd (let l = f.0 in omega arith)
one n (suc zero) h f = let e : n % 10 ≡ n = omega arith in ap (λ (d : ℕ). hex_digit_ascii d ∷ []) e ∙ ap (λ (g : ℕ). g ∷ []) (glyph_of n h)
one n (suc (suc k)) h f =
    absurd (let e : suc (suc k) - 1 ≡ suc k = omega arith in let l : 10 ^ suc k ≤ n = rw e at (f.2 (omega arith)) in let p : 10 ^ 1 ≤ 10 ^ suc k = pow-le-pow_right (omega arith) {i = 1} {j = suc k} (omega arith) in omega arith)

-- the digits but the last hold the number without it, and no fewer do
fewer : (n k : ℕ) → 10 ≤ n → IsDigitCount 10 1 n (suc k) → IsDigitCount 10 1 (n / 10) k
fewer n zero h f = absurd (let l : n < 10 ^ 1 = f.1 in omega arith)
fewer n (suc k) h f =
    let below : n < 10 ^ suc k * 10 = rw pow-suc at f.1 in
    let e : suc (suc k) - 1 ≡ suc k = omega arith in
    let g : suc k - 1 ≡ k = omega arith in
    let above : 10 ^ suc k ≤ n = rw e at (f.2 (omega arith)) in
    let above-ten : 10 ^ k * 10 ≤ n = rw pow-suc at above in
    (omega arith, omega arith, λ l. rw g (omega arith))

step : (f n k : ℕ) → n ≤ suc f → IsDigitCount 10 1 n k → ((m j : ℕ) → m ≤ f → IsDigitCount 10 1 m j → last_digits 10 j m ≡ decimal_in f m) → (t : Bool) → ltb n 10 ≡ t
    → last_digits 10 k n ≡ pick t ((48 + n) ∷ []) (decimal_in f (n / 10) ++ ((48 + n % 10) ∷ []))
step f n k h g rest true e = one n k (ltb-true n 10 e) g
step f n zero h g rest false e = absurd (let l = g.0 in omega arith)
step f n (suc k) h g rest false e =
    let l : 10 ≤ n = ltb-false n 10 e in
    ap₂ (λ (s : List ℕ) (d : ℕ). s ++ (d ∷ [])) (rest (n / 10) k (omega arith) (fewer n k l g)) (glyph_of (n % 10) (omega arith))

decimal_in_lem : (f n k : ℕ) → n ≤ f → IsDigitCount 10 1 n k → last_digits 10 k n ≡ decimal_in f n
unfolding decimal_in
decimal_in_lem zero n k h g = one n k (omega arith) g
decimal_in_lem (suc f) n k h g = step f n k h g (decimal_in_lem f) (ltb n 10) refl

pub decimal_is : (n k : ℕ) → IsDigitCount 10 1 n k → last_digits 10 k n ≡ decimal_of n
unfolding decimal_of
decimal_is n k = decimal_in_lem n n k (omega arith)
