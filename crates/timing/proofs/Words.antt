-- Numbers modulo 2^32 and 2^64. A sum, a difference and a product may be taken of numbers that were reduced before; a shifted number has room
-- for the bit below what was shifted in.
use Rattle.std.proofs.Common.{◌≡◌, ℕ, ◌+◌, ◌-◌, ◌*◌, ◌/◌, ◌%◌, ◌^◌, ◌<◌, ◌≤◌, eqb, add-zero, mod-lt, mod-eq_of_lt, one-mul, arith, pow_pos, pow-add}
use Rattle.std.proofs.lemmas.Nat.{mul-mod_first, mul-mod_second}
use native.Mathlib.Nat.{mod-add-mod, add-mod-mod, mul-mod_left}
use lib.Pow.{pow-lt, mod-pow-add, shl-shr}
use lib.Arith.{digits_lt}
use Rattle.timing.specs.declared.Field.{Field}
use Rattle.timing.specs.Timing.{minus_of, start_of, elapsed_of, continues_of, with_one_of}

-- the wrapping difference is the one number of 32 bits that b added to wraps back to a
pub minus_is : (a b r : ℕ) → r < 2 ^ 32 → (r + b % 2 ^ 32) % 2 ^ 32 ≡ a % 2 ^ 32 → r ≡ minus_of a b
minus_is a b r h e = omega arith

-- a start from its parts
pub start_is : (f : Field) (samples : ℕ) {t o u s : ℕ}
    → t ≡ f.timing % 2 ^ 32 → o ≡ f.output % 2 ^ 32 → u ≡ f.unit % 2 ^ 32 → s ≡ samples % 2 ^ 32
    → ((t * 65536 % 2 ^ 32 + o) % 2 ^ 32 + (2 ^ 32 - u * s % 2 ^ 32)) % 2 ^ 32 ≡ start_of f samples
unfolding start_of
start_is f samples et eo eu es = simp (et, eo, eu, es, mul-mod_first, mul-mod_second, mod-add-mod, add-mod-mod)

-- an elapsed time from its parts
pub elapsed_is : (unit : ℕ) (p : Field) (samples : ℕ) {u v s o : ℕ}
    → u ≡ unit % 2 ^ 32 → v ≡ p.unit % 2 ^ 32 → s ≡ samples % 2 ^ 32 → o ≡ p.output % 2 ^ 32
    → ((u + (2 ^ 32 - v)) % 2 ^ 32 * s % 2 ^ 32 + o) % 2 ^ 32 ≡ elapsed_of unit p samples
unfolding elapsed_of
elapsed_is unit p samples eu ev es eo = simp (eu, ev, es, eo, mul-mod_second, mod-add-mod, add-mod-mod)

-- the difference of two timings against an elapsed time
pub continues_is : (f p : Field) (samples : ℕ) {x y time : ℕ}
    → x ≡ f.timing % 2 ^ 32 → y ≡ p.timing % 2 ^ 32 → time ≡ elapsed_of f.unit p samples
    → eqb ((x + (2 ^ 32 - y)) % 2 ^ 32) (time / 65536) ≡ continues_of f p samples
unfolding continues_of
continues_is f p samples ex ey et = simp (ex, ey, et, mod-add-mod)

-- n zero bits below a shifted number are room for any number of n bits
shifted_room : (t j n : ℕ) {r : ℕ} → r < 2 ^ n → (t * 2 ^ n) % 2 ^ (j + n) + r < 2 ^ (j + n)
shifted_room t j n {r} h = rw (mod-pow-add, shl-shr, mul-mod_left, add-zero, pow-add) (digits_lt (mod-lt t (pow_pos j)) h)

one_bit : (n : ℕ) → n ≤ 5 → (1 * 2 ^ (n - 1)) % 2 ^ 64 ≡ 2 ^ (n - 1)
one_bit n h = rw one-mul (mod-eq_of_lt (pow-lt {i = n - 1} {j = 64} (omega arith)))

pub with_one_fits : (t n : ℕ) → 1 ≤ n → n ≤ 5 → (t * 2 ^ n) % 2 ^ 64 + (1 * 2 ^ (n - 1)) % 2 ^ 64 < 2 ^ 64
with_one_fits t n l h =
    let e : 64 - n + n ≡ 64 = omega arith in
    rw (one_bit n h) (rw e at (shifted_room t (64 - n) n (pow-lt {i = n - 1} {j = n} (omega arith))))

pub with_one_is : (t n : ℕ) → n ≤ 5 → (t * 2 ^ n) % 2 ^ 64 + (1 * 2 ^ (n - 1)) % 2 ^ 64 ≡ with_one_of t n
with_one_is t n h = rw (one_bit n h)
