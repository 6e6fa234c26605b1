-- XOR: the library has its commutativity and its halves; associativity and what follows from it are here.
use Rattle.std.specs.Prelude.{ℕ, zero, suc, ◌+◌, ◌*◌, ◌/◌, ◌%◌, ◌<◌, ◌≡◌, refl, List, [], ◌∷◌}
use Rattle.std.proofs.Common.{arith, mod-lt, sym, ap, ap₂, ◌∙◌}
use Rattle.std.proofs.Math.Arith.{bin_ind}
use Rattle.std.specs.Int.Bits.{bit_xor, differ, xor_step}
use Rattle.std.proofs.lemmas.Nat.{xor_shr, xor_comm}

differ_lt : (x y : ℕ) → x < 2 → y < 2 → differ x y < 2
differ_lt zero y h k = k
differ_lt (suc x) zero h k = h
differ_lt (suc zero) (suc y) h k = omega arith
differ_lt (suc (suc x)) (suc y) h k = absurd (omega arith)

differ_assoc : (x y z : ℕ) → x < 2 → y < 2 → z < 2 → differ (differ x y) z ≡ differ x (differ y z)
differ_assoc zero y z a b c = refl
differ_assoc (suc zero) zero z a b c = refl
differ_assoc (suc zero) (suc zero) zero a b c = refl
differ_assoc (suc zero) (suc zero) (suc zero) a b c = refl
differ_assoc (suc zero) (suc zero) (suc (suc z)) a b c = absurd (omega arith)
differ_assoc (suc zero) (suc (suc y)) z a b c = absurd (omega arith)
differ_assoc (suc (suc x)) y z a b c = absurd (omega arith)

bit_lt : (n : ℕ) → n % 2 < 2
bit_lt n = mod-lt n (omega arith)

pub xor_half : (a b : ℕ) → bit_xor a b / 2 ≡ bit_xor (a / 2) (b / 2)
xor_half a b = xor_shr a b 1

pub xor_bit : (a b : ℕ) → bit_xor a b % 2 ≡ differ (a % 2) (b % 2)
xor_bit a b =
    let e = xor_step a b in
    let h : differ (a % 2) (b % 2) < 2 = differ_lt (a % 2) (b % 2) (bit_lt a) (bit_lt b) in
    omega arith

-- by halves: the last bits are associative, and so are the rest
pub xor_assoc : (a b c : ℕ) → bit_xor (bit_xor a b) c ≡ bit_xor a (bit_xor b c)
xor_assoc =
    bin_ind (λ (n : ℕ). (b c : ℕ) → bit_xor (bit_xor n b) c ≡ bit_xor n (bit_xor b c))
    (λ b c. refl)
    (λ n ih b c.
    xor_step (bit_xor n b) c
    ∙ ap₂ (λ (x y : ℕ). bit_xor x (c / 2) * 2 + differ y (c % 2)) (xor_half n b) (xor_bit n b)
    ∙ ap₂ (λ (x y : ℕ). x * 2 + y) (ih (b / 2) (c / 2)) (differ_assoc (n % 2) (b % 2) (c % 2) (bit_lt n) (bit_lt b) (bit_lt c))
    ∙ sym (xor_step n (bit_xor b c) ∙ ap₂ (λ (x y : ℕ). bit_xor (n / 2) x * 2 + differ (n % 2) y) (xor_half b c) (xor_bit b c)))

-- four in any grouping: (a b) (c d) as (a c) (b d)
pub xor_four : (a b c d : ℕ) → bit_xor (bit_xor a b) (bit_xor c d) ≡ bit_xor (bit_xor a c) (bit_xor b d)
xor_four a b c d =
    xor_assoc a b (bit_xor c d)
    ∙ ap (bit_xor a) (sym (xor_assoc b c d) ∙ ap (λ x. bit_xor x d) (xor_comm b c) ∙ xor_assoc c b d)
    ∙ sym (xor_assoc a c (bit_xor b d))

-- the XOR of two messages, byte by byte; it ends with the shorter
unfoldable pub xor_bytes : List ℕ → List ℕ → List ℕ
xor_bytes [] t = []
xor_bytes (x ∷ s) [] = []
xor_bytes (x ∷ s) (y ∷ t) = bit_xor x y ∷ xor_bytes s t
