-- P1 to P9 with what document 01 says of each: definitions only. An outcome is written as the number of the answer and its values.
use Rattle.std.specs.Prelude.{ℕ, Bool, true, false, List, [], ◌∷◌, eqb, get_or, replicate, Err, Ok, Result, Option, Some, None}
use Rattle.laws.specs.Pick.{pick}
use Rattle.machine.specs.Scan as Scan
use Rattle.machine.specs.Scan.{request, ran_dry, spoke}
use Rattle.crc.specs.Crc.{major_sync}
use Rattle.timestamp.specs.declared.Framerate.{Framerate}
use Rattle.timestamp.specs.declared.Framerate.TheVariants.{R23_976, R24, R25, R29_97, R30, R50, R59_94, R60, Invalid}
use Rattle.timestamp.specs.Timestamp.{number_of, parse_of}
use Rattle.rules.specs.declared.Stream.{Stream}
use Rattle.rules.specs.Request.{Event, handed, too_short, failed, reader, lock, new}
use Rattle.timing.specs.Numbers.{Answer as TimingAnswer}
use Rattle.timing.specs.Timing.{fresh_of}
use Rattle.timing.specs.Units.{answers_of, units_from}
use Rattle.kinds.specs.declared.SampleTime.{SampleTime}
use Rattle.levels.specs.declared.Contribution.{Contribution}
use Rattle.levels.specs.declared.Refusal.{Refusal}
use Rattle.window_rules.specs.declared.Window.{Window}
use Rattle.window_rules.specs.Window as Window
use Rattle.window_rules.specs.Window.{pushed_of}
use Rattle.levels.specs.Questions.{buffered_of}
use Rattle.timestamp.specs.declared.Timestamp.{Timestamp}
use Rattle.timestamp.specs.declared.TimestampError.{TimestampError}

-- what a case is about
pub data Case : Type 0 where
  -- a request under a lock of one substream, on these unread bytes
  under_lock : List ℕ → Case
  -- a request of a new reader, on these unread bytes
  in_search : List ℕ → Case
  -- a timestamp
  stamp : List ℕ → Case
  -- the bits of units from unit 0 on, 40 samples a unit, output timing 1,000
  timing : List Bool → Case
  -- two steps of a fresh window: ten bytes removed at 5, then the playhead at so many samples
  playhead : ℕ → Case

pub record Row : Type 0 where
  pub case : Case
  pub outcome : List ℕ

-- locked, one substream
abbrev locked_one : Stream
locked_one = lock 1 (new major_sync)

-- 0 and the unit's length; 5, actual and minimum; 6; 7 or 8; each with the bytes consumed behind it
abbrev spoken_by : Scan.Answer Stream Event → List ℕ
spoken_by (ran_dry s u) = pick s.locked 7 8 ∷ s.consumed.0 ∷ []
spoken_by (spoke (handed x) s u) = 0 ∷ x.length ∷ s.consumed.0 ∷ []
spoken_by (spoke (too_short a m p) s u) = 5 ∷ a ∷ m ∷ s.consumed.0 ∷ []
spoken_by (spoke (failed p) s u) = 6 ∷ s.consumed.0 ∷ []

abbrev rate_by : Framerate → ℕ
rate_by R23_976 = 1
rate_by R24 = 2
rate_by R25 = 3
rate_by R29_97 = 4
rate_by R30 = 5
rate_by R50 = 6
rate_by R59_94 = 7
rate_by R60 = 8
rate_by (Invalid n) = n

-- 0, the time, the rate's code, drop frame; or the refusal's number
abbrev stamped_by : Result Timestamp TimestampError → List ℕ
stamped_by (Ok t) = 0 ∷ t.hours ∷ t.minutes ∷ t.seconds ∷ t.frames ∷ rate_by t.framerate ∷ pick t.dropframe 1 0 ∷ []
stamped_by (Err e) = number_of e ∷ []

-- the starts that are answered
abbrev started_by : List TimingAnswer → List ℕ
started_by [] = []
started_by (Ok None ∷ more) = started_by more
started_by (Ok (Some n) ∷ more) = n ∷ started_by more
started_by (Err refusal ∷ more) = 1 ∷ started_by more

abbrev bytes_of : ℕ → Contribution
bytes_of n = record { total = replicate 5 n; stream = replicate 5 n; substream = replicate 4 n }

abbrev at : ℕ → SampleTime
at n = record { 0 = n }

abbrev two_steps : ℕ → Window
two_steps head = (pushed_of (pushed_of Window.fresh_of (at 0) (at 5) (bytes_of 10)).window (at head) (at 100) (bytes_of 0)).window

-- units held, none where the question is refused
abbrev units_by : Result ℕ Refusal → ℕ
units_by (Ok n) = n
units_by (Err e) = 0

-- units held, and the first depth
abbrev held_by : Window → List ℕ
held_by w = units_by (buffered_of w.levels) ∷ (get_or w.levels.depth 0 (record { total = 0; stream = 0; peak = record { total = 0; stream = 0; overhead = 0 } })).total ∷ []

unfoldable pub outcome_of : Case → List ℕ
outcome_of (under_lock bytes) = spoken_by (request reader locked_one bytes)
outcome_of (in_search bytes) = spoken_by (request reader (new major_sync) bytes)
outcome_of (stamp bytes) = stamped_by (parse_of bytes)
outcome_of (timing bits) = started_by (answers_of fresh_of (units_from 0 (λ n. 40) (λ n. 1000) bits))
outcome_of (playhead head) = held_by (two_steps head)

abbrev O : Bool
O = false

abbrev I : Bool
I = true

-- THE TABLE
unfoldable pub table : List Row
table =
    -- P1: a unit of 6
    record { case = under_lock (0xC0 ∷ 0x03 ∷ 0 ∷ 0 ∷ 0 ∷ 0 ∷ []); outcome = 0 ∷ 6 ∷ 6 ∷ [] }
    -- P2: a quiet loss: answer 8, one byte consumed
    ∷ record { case = under_lock (0xD0 ∷ 0x03 ∷ 0 ∷ 0 ∷ 0 ∷ 0 ∷ []); outcome = 8 ∷ 1 ∷ [] }
    -- P3: number 5, actual 4, minimum 6
    ∷ record { case = under_lock (0xD0 ∷ 0x02 ∷ 0 ∷ 0 ∷ 0 ∷ 0 ∷ []); outcome = 5 ∷ 4 ∷ 6 ∷ 1 ∷ [] }
    -- "parity is tested first": both wrong is a quiet loss, not number 5
    ∷ record { case = under_lock (0xC0 ∷ 0x02 ∷ 0 ∷ 0 ∷ 0 ∷ 0 ∷ []); outcome = 8 ∷ 1 ∷ [] }
    -- P4: sync length 26, unit length 32: number 5, minimum 34
    ∷ record { case = in_search (0x00 ∷ 0x10 ∷ 0 ∷ 0 ∷ 0xF8 ∷ 0x72 ∷ 0x6F ∷ 0xBB ∷ []); outcome = 5 ∷ 32 ∷ 34 ∷ 1 ∷ [] }
    -- P5: 34 goes on: the whole unit is waited for
    ∷ record { case = in_search (0x00 ∷ 0x11 ∷ 0 ∷ 0 ∷ 0xF8 ∷ 0x72 ∷ 0x6F ∷ 0xBB ∷ []); outcome = 8 ∷ 0 ∷ [] }
    -- P6: 2:34:56:23, rate 23.976, no drop
    ∷ record {
      case = stamp (0x01 ∷ 0x10 ∷ 0x00 ∷ 0x02 ∷ 0x00 ∷ 0x34 ∷ 0x00 ∷ 0x56 ∷ 0x00 ∷ 0x23 ∷ 0x00 ∷ 0x00 ∷ 0x00 ∷ 0x04 ∷ 0x80 ∷ 0x00 ∷ []);
      outcome = 0 ∷ 2 ∷ 34 ∷ 56 ∷ 23 ∷ 1 ∷ 0 ∷ [];
    }
    -- P7: the same with 0A in byte 3: number 11
    ∷ record {
      case = stamp (0x01 ∷ 0x10 ∷ 0x00 ∷ 0x0A ∷ 0x00 ∷ 0x34 ∷ 0x00 ∷ 0x56 ∷ 0x00 ∷ 0x23 ∷ 0x00 ∷ 0x00 ∷ 0x00 ∷ 0x04 ∷ 0x80 ∷ 0x00 ∷ []);
      outcome = 11 ∷ [];
    }
    -- P8: start 197,408
    ∷ record { case = timing (O ∷ O ∷ O ∷ O ∷ O ∷ I ∷ I ∷ I ∷ I ∷ O ∷ O ∷ O ∷ O ∷ O ∷ []); outcome = 197408 ∷ [] }
    -- P9: playhead equal to removal drains nothing: both units held, and the bytes
    ∷ record { case = playhead 5; outcome = 2 ∷ 10 ∷ [] }
    -- .. and one sample later the first is drained
    ∷ record { case = playhead 6; outcome = 1 ∷ 0 ∷ [] }
    ∷ []

-- two lists of numbers are the same
unfoldable pub same : List ℕ → List ℕ → Bool
same [] [] = true
same [] (y ∷ ys) = false
same (x ∷ xs) [] = false
same (x ∷ xs) (y ∷ ys) = pick (eqb x y) (same xs ys) false

-- the test of a row
abbrev pub right : ℕ → Row → Bool
right k r = same (outcome_of r.case) r.outcome
