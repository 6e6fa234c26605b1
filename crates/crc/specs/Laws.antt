-- What holds of the check for every setting: a message in parts, and the register's width.
use Rattle.std.specs.Prelude.{ℕ, ◌+◌, ◌*◌, ◌%◌, ◌^◌, ◌<◌, ◌≡◌, refl, true, false, List, [], ◌∷◌, ◌++◌, leb, fold}
use Rattle.std.proofs.Common.{arith, sym, ap, ◌∙◌, append_assoc}
use Rattle.std.proofs.lemmas.Nat.{xor_lt}
use Rattle.laws.specs.Pick.{pick_holds}
use Rattle.crc.specs.Crc.{bit_step, run, byte_bits, bits_of, closing, update_of, closed_of, check_of}
use Rattle.crc.specs.declared.Algorithm.{Algorithm}

-- the register is carried from one run of bits into the next
pub run_append : (poly crc : ℕ) (bs cs : List ℕ) → run poly crc (bs ++ cs) ≡ run poly (run poly crc bs) cs
unfolding run
run_append poly crc [] cs = refl
run_append poly crc (b ∷ bs) cs = run_append poly (bit_step poly crc b) bs cs

pub bits_append : (s t : List ℕ) → bits_of (s ++ t) ≡ bits_of s ++ bits_of t
unfolding bits_of
bits_append [] t = refl
bits_append (x ∷ s) t = ap (λ bs. byte_bits x ++ bs) (bits_append s t) ∙ sym (append_assoc (byte_bits x) (bits_of s) (bits_of t))

pub bits_cons : (x : ℕ) (s : List ℕ) → bits_of (x ∷ s) ≡ byte_bits x ++ bits_of s
unfolding bits_of
bits_cons x s = refl

pub bits_none : bits_of [] ≡ []
unfolding bits_of
bits_none = refl

-- the register goes over a message a byte at a time
pub bits_fold : (poly crc : ℕ) (s : List ℕ) → run poly crc (bits_of s) ≡ fold (λ r x. run poly r (byte_bits x)) crc s
unfolding run bits_of
bits_fold poly crc [] = refl
bits_fold poly crc (x ∷ s) = run_append poly crc (byte_bits x) (bits_of s) ∙ bits_fold poly (run poly crc (byte_bits x)) s

-- a message in two parts: what the first leaves, the second takes up
pub update_append : (a : Algorithm) (crc : ℕ) (s t : List ℕ) → update_of a crc (s ++ t) ≡ update_of a (update_of a crc s) t
update_append a crc s t = ap (run a.poly crc) (bits_append s t) ∙ run_append a.poly crc (bits_of s) (bits_of t)

-- the check of a message is the update from the start, then the closing
pub check_closed : (a : Algorithm) (s : List ℕ) → check_of a s ≡ closed_of a (update_of a a.init s)
unfolding check_of
check_closed a s = run_append a.poly a.init (bits_of s) (closing a.zeros)

-- the empty message gives the start, with no closing zeros
pub check_empty : (a : Algorithm) → a.zeros ≡ false → check_of a [] ≡ a.init
unfolding check_of run bits_of
check_empty a e = rw e

-- sixteen zero bits are two zero bytes
pub closing_bytes : (poly crc : ℕ) → run poly (run poly crc (byte_bits 0)) (byte_bits 0) ≡ run poly crc (closing true)
unfolding run
closing_bytes poly crc = refl

-- a bit step stays within 16 bits
pub bit_step_lt : (poly crc b : ℕ) → poly < 2 ^ 16 → b < 2 → bit_step poly crc b < 2 ^ 16
unfolding bit_step
bit_step_lt poly crc b p l =
    pick_holds (λ (n : ℕ). n < 2 ^ 16) (leb 32768 crc) _ _ (λ t. xor_lt 16 ((crc * 2) % 65536 + b) poly (omega arith) p) (λ t. omega arith)
