-- Bytes of a list and parts of it. What stands inside a list stands there whatever is put behind it.
use Rattle.std.specs.Prelude.{◌≡◌, List, [], ◌∷◌, ◌++◌, ℕ, zero, suc, ◌+◌, ◌-◌, ◌≤◌, ◌<◌, length, replicate, get_or, take, drop}
use Rattle.std.proofs.Common.{sym, ap, ◌∙◌, arith, length-take, length-drop, take-take, drop-drop}
use Rattle.std.proofs.lemmas.List.{length-replicate, take-append-le, drop-append-le}
use Rattle.std.proofs.Math.ListN.{get_or-append}
use Rattle.std.proofs.Math.Seq.{take-nil}

-- the byte at a place, 0 past the end
abbrev pub byte_at : List ℕ → ℕ → ℕ
byte_at s i = get_or s i 0

-- the n bytes from a place on
abbrev pub part : List ℕ → ℕ → ℕ → List ℕ
part s at n = take n (drop at s)

-- each byte is one
pub Bytes : List ℕ → Type 0
Bytes s = (i : ℕ) → i < length s → byte_at s i < 256

pub byte_lt : (s : List ℕ) (i : ℕ) → Bytes s → byte_at s i < 256
unfolding Bytes
byte_lt [] i h = omega arith
byte_lt (x ∷ s) zero h = h 0 (omega arith)
byte_lt (x ∷ s) (suc i) h = byte_lt s i (λ k l. h (suc k) (omega arith))

-- how long a list of zeros is, whatever its length: a search would count
pub repeated : (n : ℕ) → n ≡ length {A = ℕ} (replicate {A = ℕ} n 0)
repeated n = sym (length-replicate n 0)

module _ (s : List ℕ) (at n : ℕ) (inside : at + n ≤ length s) where
  pub length_part : length (part s at n) ≡ n
  length_part = simp (length-take, length-drop) (omega arith)

  pub part_further : (v : List ℕ) → part (s ++ v) at n ≡ part s at n
  part_further v = ap (take n) (drop-append-le at s v (omega arith)) ∙ take-append-le n (drop at s) v (rw length-drop (omega arith))

pub byte_at_further : (s v : List ℕ) (i : ℕ) → i < length s → byte_at (s ++ v) i ≡ byte_at s i
byte_at_further s v i h = get_or-append s v 0 i h

-- what is left of the first n behind the first k of them
pub drop_take : (k n : ℕ) (t : List ℕ) → drop k (take n t) ≡ take (n - k) (drop k t)
drop_take zero n t = let e : n - 0 ≡ n = omega arith in rw e
drop_take (suc k) zero t = let e : 0 - suc k ≡ 0 = omega arith in rw e
drop_take (suc k) (suc n) [] = sym (take-nil (suc n - suc k))
drop_take (suc k) (suc n) (x ∷ t) = let e : suc n - suc k ≡ n - k = omega arith in drop_take k n t ∙ rw e

-- what is left of a part behind its first k bytes
pub drop_part : (s : List ℕ) (at n k : ℕ) → drop k (part s at n) ≡ part s (at + k) (n - k)
drop_part s at n k = drop_take k n (drop at s) ∙ ap (take (n - k)) (drop-drop k at s)

-- a part of a part, counted from the list's own beginning
pub part_part : (s : List ℕ) (at n i m : ℕ) → i + m ≤ n → part (part s at n) i m ≡ part s (at + i) m
part_part s at n i m h = ap (take m) (drop_part s at n i) ∙ take-take m (n - i) (drop (at + i) s) (omega arith)
