-- Document 01, "Timestamp (003)", and numbers 9 to 11 of "Numbers the desk will see".
use Rattle.std.specs.Prelude.{ℕ, ◌+◌, ◌*◌, ◌/◌, ◌%◌, List, length, ltb, eqb, codes, Err, None, Ok, Option, Result, Some}
use Rattle.laws.specs.Pick.{pick}
use Rattle.laws.specs.Words.{word_at}
use Rattle.timestamp.specs.declared.Framerate.{Framerate}
use Rattle.timestamp.specs.declared.Framerate.TheVariants.{R23_976, R24, R25, R29_97, R30, R50, R59_94, R60, Invalid}
use Rattle.timestamp.specs.declared.Timestamp.{Timestamp}
use Rattle.timestamp.specs.declared.TimestampError.{TimestampError}
use Rattle.timestamp.specs.declared.TimestampError.TheVariants.{InsufficientData, InvalidSyncBytes, InvalidBcdDigit}

-- the numbers of the table
abbrev pub number_of : TimestampError → ℕ
number_of InsufficientData = 9
number_of InvalidSyncBytes = 10
number_of InvalidBcdDigit = 11

-- what each of them prints
abbrev pub text_of : TimestampError → List ℕ
text_of InsufficientData = codes "too short for a timestamp"
text_of InvalidSyncBytes = codes "wrong sync bytes"
text_of InvalidBcdDigit = codes "a digit that is none"

-- the number of an answer, 0 where a timestamp is given
abbrev pub refusal : Result Timestamp TimestampError → ℕ
refusal (Ok t) = 0
refusal (Err e) = number_of e

-- "four BCD digits", "No range beyond digits"
unfoldable pub bcd_of : ℕ → Option ℕ
bcd_of w =
    pick (ltb 9 (w / 4096 % 16)) None
    (pick (ltb 9 (w / 256 % 16)) None
    (pick (ltb 9 (w / 16 % 16)) None
    (pick (ltb 9 (w % 16)) None
    (Some (1000 * (w / 4096 % 16) + 100 * (w / 256 % 16) + 10 * (w / 16 % 16) + w % 16)))))

-- "four bits of rate (1 to 8: 23.976, 24, 25, 29.97, 30, 50, 59.94, 60; else invalid with its number)"
unfoldable pub rate_of : ℕ → Framerate
rate_of n =
    pick (eqb n 1) R23_976
    (pick (eqb n 2) R24
    (pick (eqb n 3) R25
    (pick (eqb n 4) R29_97
    (pick (eqb n 5) R30
    (pick (eqb n 6) R50
    (pick (eqb n 7) R59_94
    (pick (eqb n 8) R60
    (Invalid n))))))))

-- and back: a code that names no rate is kept as it came
abbrev pub rate_code : Framerate → ℕ
rate_code R23_976 = 1
rate_code R24 = 2
rate_code R25 = 3
rate_code R29_97 = 4
rate_code R30 = 5
rate_code R50 = 6
rate_code R59_94 = 7
rate_code R60 = 8
rate_code (Invalid n) = n

-- "Flag word: ten reserved bits, four bits of rate, one reserved bit, drop frame"
unfoldable pub stamp_of : ℕ → ℕ → ℕ → ℕ → ℕ → ℕ → Timestamp
stamp_of hours minutes seconds frames samples flags =
    record {
      hours = hours;
      minutes = minutes;
      seconds = seconds;
      frames = frames;
      samples = samples;
      reserved1 = flags / 64;
      framerate = rate_of (flags / 4 % 16);
      reserved2 = eqb (flags / 2 % 2) 1;
      dropframe = eqb (flags % 2) 1;
    }

-- goes on with the number, or refuses: InvalidBcdDigit
abbrev pub with_digits : Option ℕ → (ℕ → Result Timestamp TimestampError) → Result Timestamp TimestampError
with_digits (Some n) k = k n
with_digits None k = Err InvalidBcdDigit

-- "hours, minutes, seconds, frames as four BCD digits each, samples, a flag word"
unfoldable pub fields_of : List ℕ → Result Timestamp TimestampError
fields_of s =
    with_digits (bcd_of (word_at s 2)) (λ hours.
    with_digits (bcd_of (word_at s 4)) (λ minutes.
    with_digits (bcd_of (word_at s 6)) (λ seconds.
    with_digits (bcd_of (word_at s 8)) (λ frames.
    Ok (stamp_of hours minutes seconds frames (word_at s 10) (word_at s 12))))))

-- "The first 16 bytes given, any more being ignored: 01 10, .., 80 00"; numbers 9, 10, 11 in this order
unfoldable pub parse_of : List ℕ → Result Timestamp TimestampError
parse_of s =
    pick (ltb (length s) 16) (Err InsufficientData)
    (pick (eqb (word_at s 0) 0x0110)
    (pick (eqb (word_at s 14) 0x8000) (fields_of s)
    (Err InvalidSyncBytes)) (Err InvalidSyncBytes))
