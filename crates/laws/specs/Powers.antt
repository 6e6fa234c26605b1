-- Arithmetic modulo powers of two.
use Rattle.std.specs.Prelude.{ℕ, ◌+◌, ◌-◌, ◌*◌, ◌%◌, ◌^◌, ◌<◌, ◌≡◌}
use Rattle.std.proofs.Common.{arith, mod-lt, le_of_lt, lt_of_le_of_lt, mul-le-mul_left, mul-lt-mul_of_pos_right, sym, ap, ◌∙◌, pow_pos, pow-add}
use Rattle.std.proofs.Math.Nat.{add-mod-mod, mod-add-mod, add-mod_right}
use Rattle.std.proofs.Math.Path.{subst⁻¹}

-- a minus b, modulo 2^k
abbrev pub minus : ℕ → ℕ → ℕ → ℕ
minus k a b = (a + (2 ^ k - b % 2 ^ k)) % 2 ^ k

pub mod_below : (k n : ℕ) → n % 2 ^ k < 2 ^ k
mod_below k n = mod-lt n (pow_pos k)

-- the product of two numbers of k bits has at most k + k bits
pub product_below : (k : ℕ) {a b : ℕ} → a < 2 ^ k → b < 2 ^ k → a * b < 2 ^ (k + k)
product_below k {a} {b} ha hb =
    subst⁻¹ (λ (n : ℕ). a * b < n) (pow-add 2 k k)
    (lt_of_le_of_lt (mul-le-mul_left a (le_of_lt hb)) (mul-lt-mul_of_pos_right ha (pow_pos k)))

-- adding back what was taken away
pub minus_back : (k a b : ℕ) → (minus k a b + b) % 2 ^ k ≡ a % 2 ^ k
minus_back k a b =
    mod-add-mod (a + (2 ^ k - b % 2 ^ k)) (2 ^ k) b
    ∙ sym (add-mod-mod (a + (2 ^ k - b % 2 ^ k)) b (2 ^ k))
    ∙ ap (λ n. n % 2 ^ k) (let l : b % 2 ^ k < 2 ^ k = mod_below k b in omega arith)
    ∙ add-mod_right a (2 ^ k)
