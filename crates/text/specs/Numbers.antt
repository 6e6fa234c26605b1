-- Numbers and bytes that digits write: definitions only.
use Rattle.std.specs.Prelude.{ℕ, ◌+◌, ◌-◌, ◌*◌, ◌/◌, ◌%◌, ◌<◌, Bool, true, false, Option, Some, None, List, [], ◌∷◌, leb, ltb, eqb, length}
use Rattle.std.proofs.Math.Seq.{paste}
use Rattle.laws.specs.Pick.{pick}

-- from one byte to another
abbrev pub between : ℕ → ℕ → ℕ → Bool
between low high b = pick (leb low b) (leb b high) false

-- the value of a decimal digit, `0` to `9`; 10 where it is none
unfoldable pub decimal_digit_of : ℕ → ℕ
decimal_digit_of b = pick (between 48 57 b) (b - 48) 10

-- the value of a hexadecimal digit, `0` to `9`, `A` to `F`, `a` to `f`; 16 where it is none
unfoldable pub hex_digit_of : ℕ → ℕ
hex_digit_of b = pick (between 48 57 b) (b - 48) (pick (between 65 70 b) (b - 55) (pick (between 97 102 b) (b - 87) 16))

-- the number that digits write behind a number already read, the one that comes first counting most; none where one is no digit of the base
unfoldable pub value_from : (ℕ → ℕ) → ℕ → ℕ → List ℕ → Option ℕ
value_from digit base n [] = Some n
value_from digit base n (b ∷ s) = pick (ltb (digit b) base) (value_from digit base (n * base + digit b) s) None

-- a number of one digit or more, and of no more than a word holds whatever they are
unfoldable pub number_of : (ℕ → ℕ) → ℕ → ℕ → List ℕ → Option ℕ
number_of digit base most s = pick (eqb (length s) 0) None (pick (leb (length s) most) (value_from digit base 0 s) None)

unfoldable pub hex_number_of : List ℕ → Option ℕ
hex_number_of s = number_of hex_digit_of 16 16 s

unfoldable pub decimal_number_of : List ℕ → Option ℕ
decimal_number_of s = number_of decimal_digit_of 10 19 s

-- is each byte a hexadecimal digit?
unfoldable pub all_hex : List ℕ → Bool
all_hex [] = true
all_hex (b ∷ s) = pick (ltb (hex_digit_of b) 16) (all_hex s) false

-- both are hexadecimal digits
abbrev pub BothDigits : ℕ → ℕ → Type 0
BothDigits high low = (hex_digit_of high < 16) × (hex_digit_of low < 16)

-- the byte that they write
abbrev pub byte_of : ℕ → ℕ → ℕ
byte_of high low = hex_digit_of high * 16 + hex_digit_of low

-- a byte for each pair of digits
unfoldable pub pairs_of : List ℕ → List ℕ
pairs_of [] = []
pairs_of (a ∷ []) = []
pairs_of (a ∷ b ∷ s) = byte_of a b ∷ pairs_of s

-- whole pairs of digits, whose bytes have room
unfoldable pub hex_good : List ℕ → ℕ → Bool
hex_good s room = pick (eqb (length s % 2) 0) (pick (leb (length s / 2) room) (all_hex s) false) false

-- how many bytes they write; none where they are not good
unfoldable pub hex_bytes_of : List ℕ → ℕ → Option ℕ
hex_bytes_of s room = pick (hex_good s room) (Some (length s / 2)) None

-- the lent slice afterwards: the bytes at its start, what lies behind them as it was; where they are not good, all as it was
unfoldable pub hex_bytes_on : List ℕ → List ℕ → List ℕ
hex_bytes_on s d = pick (hex_good s (length d)) (paste d 0 (pairs_of s) (length s / 2)) d
