-- Document 01, "Search (000, `resync`)": definitions only.
use Rattle.std.specs.Prelude.{ℕ, zero, suc, ◌+◌, ◌-◌, ◌*◌, ◌/◌, ◌%◌, Bool, ◌&&◌, ◌||◌, List, leb, ltb, eqb, length, Err, None, Ok, Option, Result, Some}
use Rattle.std.specs.Int.Bits.{bit_and}
use Rattle.laws.specs.Pick.{pick}
use Rattle.laws.specs.Parts.{byte_at, part}
use Rattle.laws.specs.Words.{word, word_at}
use Rattle.laws.specs.First.{Place, first_from}
use Rattle.machine.specs.Ask.{Ask, done, either, ◌>>=◌, peek, first, Eat, eat}
use Rattle.crc.specs.declared.Algorithm.{Algorithm}
use Rattle.crc.specs.Crc.{check_of}
use Rattle.timestamp.specs.Timestamp.{parse_of}
use Rattle.rules.specs.declared.Verdict.{Verdict}
use Rattle.rules.specs.declared.Verdict.TheVariants.{Lock, Short, Failed}
use Rattle.timestamp.specs.declared.Timestamp.{Timestamp}
use Rattle.timestamp.specs.declared.TimestampError.{TimestampError}

-- the sync words F8726FBA and F8726FBB
abbrev pub is_sync : ℕ → ℕ → ℕ → ℕ → Bool
is_sync a b c d = eqb a 0xF8 && (eqb b 0x72 && (eqb c 0x6F && (eqb d 0xBA || eqb d 0xBB)))

-- "the candidate starts 4 before it"
unfoldable pub candidate_at : List ℕ → ℕ → Bool
candidate_at u i = is_sync (byte_at u (i + 4)) (byte_at u (i + 5)) (byte_at u (i + 6)) (byte_at u (i + 7))

-- 1. "Find the first sync word at least 4 bytes after the read position": the place of its candidate, of which the last 7 bytes can't be one
unfoldable pub find : List ℕ → Place
find u = first_from (candidate_at u) 0 (length u - 7)

-- 2. "keep the last 23 bytes before any sync was ever seen, afterwards the last 7; consume the rest"
abbrev pub keep : Bool → ℕ
keep seen = pick seen 7 23

-- 3. "Consuming any byte drops a waiting timestamp"
abbrev pub kept : ℕ → Option Timestamp → Option Timestamp
kept zero w = w
kept (suc n) w = None

-- "read those 16 as timestamp"; "Where the fields don't parse, the reader .. holds none"
abbrev pub stamp_of : Result Timestamp TimestampError → Option Timestamp
stamp_of (Ok t) = Some t
stamp_of (Err e) = None

-- "Never seen before and at least 16 bytes precede the candidate": those 16; in every other case what was kept
unfoldable pub stamp_at : Bool → ℕ → List ℕ → Option Timestamp → Option Timestamp
stamp_at seen n u w = pick seen (kept n w) (pick (leb 16 n) (stamp_of (parse_of (part u (n - 16) 16))) (kept n w))

-- 4. "Sync length: 26 if byte 7 of the candidate is BB hex; else 26 if byte 29 is even; else 28 plus (byte 30 divided by 8, masked with 1E hex)"
unfoldable pub sync_length : Ask ℕ
sync_length = do
  b ← peek 7
  either (eqb b 0xBB) (done 26) do
    f ← peek 29
    either (eqb (f % 2) 0) (done 26) do
      x ← peek 30
      done (28 + bit_and (x / 8) 0x1E)

-- 5. "Unit length is twice the low 12 bits of the first word"
unfoldable pub unit_length : Ask ℕ
unit_length = do
  a ← peek 0
  b ← peek 1
  done (2 * (word a b % 4096))

-- 6. "check the sync bytes (from byte 4) against the big-endian word behind them"
unfoldable pub checks : Algorithm → ℕ → List ℕ → Bool
checks a m bs = eqb (check_of a (part bs 4 m)) (word_at bs (4 + m))

-- the sync length, the unit length, then the whole unit; "the substream count is the high nibble of byte 20"
unfoldable pub candidate : Algorithm → Ask (Eat Verdict)
candidate a = do
  m ← sync_length
  n ← unit_length
  either (ltb n (m + 8)) (eat 1 (Short n (m + 8))) do
    bs ← first n
    either (checks a m bs) (eat 0 (Lock (byte_at bs 20 / 16 % 16))) (eat n Failed)
