-- `Timestamp::from_bytes` takes the flag word apart as the rule does. Left to the check, this goal takes twenty times as long.
use Rattle.std.proofs.Common.{◌≡◌, ℕ, ◌/◌, ◌%◌, arith}
use Rattle.timestamp.specs.Timestamp.{parse_of, fields_of, stamp_of}
use Rattle.timestamp.proofs.Timestamp.from_bytes.Goals as goal

-- the rate lies in the low byte
low_rate : (n : ℕ) → n % 256 / 4 % 16 ≡ n / 4 % 16
low_rate n = omega arith

pub returns : goal.returns
unfolding parse_of fields_of stamp_of
returns c = grind (arith, low_rate)
