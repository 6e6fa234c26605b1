-- Big-endian words: the byte that comes first counts most.
use Rattle.std.specs.Prelude.{◌≡◌, refl, List, [], ◌∷◌, ◌++◌, ℕ, ◌+◌, ◌*◌, ◌<◌, length}
use Rattle.std.proofs.Common.{arith}
use Rattle.laws.specs.Parts.{byte_at, byte_at_further}

-- the number of a list of bytes, after those already read
unfoldable pub number_from : ℕ → List ℕ → ℕ
number_from n [] = n
number_from n (x ∷ s) = number_from (n * 256 + x) s

-- the number of a list of bytes
abbrev pub number : List ℕ → ℕ
number s = number_from 0 s

-- the word of two bytes
abbrev pub word : ℕ → ℕ → ℕ
word hi lo = hi * 256 + lo

-- the word at a place
abbrev pub word_at : List ℕ → ℕ → ℕ
word_at s i = word (byte_at s i) (byte_at s (i + 1))

pub number_from_append : (n : ℕ) (s t : List ℕ) → number_from n (s ++ t) ≡ number_from (number_from n s) t
unfolding number_from
number_from_append n [] t = refl
number_from_append n (x ∷ s) t = number_from_append (n * 256 + x) s t

pub word_at_further : (s v : List ℕ) (i : ℕ) → i + 1 < length s → word_at (s ++ v) i ≡ word_at s i
word_at_further s v i h = rw (byte_at_further s v i (omega arith), byte_at_further s v (i + 1) h)
