-- Document 01, "The check".
use Rattle.std.specs.Prelude.{ℕ, ◌+◌, ◌*◌, ◌/◌, ◌%◌, List, [], ◌∷◌, ◌++◌, Bool, false, leb, replicate}
use Rattle.std.specs.Int.Bits.{bit_xor}
use Rattle.laws.specs.Pick.{pick}
use Rattle.crc.specs.declared.Algorithm.{Algorithm}

-- "the register is doubled modulo 65,536 and the bit added; if its old top bit was one, the polynomial is XORed in"
unfoldable pub bit_step : ℕ → ℕ → ℕ → ℕ
bit_step poly crc b = pick (leb 32768 crc) (bit_xor ((crc * 2) % 65536 + b) poly) ((crc * 2) % 65536 + b)

-- "For each bit": the register after a run of bits
unfoldable pub run : ℕ → ℕ → List ℕ → ℕ
run poly crc [] = crc
run poly crc (b ∷ bs) = run poly (bit_step poly crc b) bs

-- "highest first": the eight bits of a byte
abbrev pub byte_bits : ℕ → List ℕ
byte_bits x = x / 128 % 2 ∷ x / 64 % 2 ∷ x / 32 % 2 ∷ x / 16 % 2 ∷ x / 8 % 2 ∷ x / 4 % 2 ∷ x / 2 % 2 ∷ x % 2 ∷ []

-- the bits of a message
unfoldable pub bits_of : List ℕ → List ℕ
bits_of [] = []
bits_of (x ∷ s) = byte_bits x ++ bits_of s

-- "whether 16 zero bits follow"
abbrev pub closing : Bool → List ℕ
closing zeros = pick zeros (replicate 16 0) []

-- the register after a part of a message
abbrev pub update_of : Algorithm → ℕ → List ℕ → ℕ
update_of a crc s = run a.poly crc (bits_of s)

-- the register after the closing bits
abbrev pub closed_of : Algorithm → ℕ → ℕ
closed_of a crc = run a.poly crc (closing a.zeros)

-- "The register begins at start": the check of a message
unfoldable pub check_of : Algorithm → List ℕ → ℕ
check_of a s = run a.poly a.init (bits_of s ++ closing a.zeros)

-- "The expected setting is 002D hex, start 0, no zero bits"
abbrev pub major_sync : Algorithm
major_sync = record { poly = 0x002D; init = 0; zeros = false }
