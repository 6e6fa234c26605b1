-- What each call answers, and what it leaves in the lent words: definitions only.
use Rattle.std.specs.Prelude.{ℕ, List, Some, None, Ok, Err}
use Rattle.timing.specs.declared.TimingContext.{TimingContext}
use Rattle.timing.specs.declared.Updated.{Updated}
use Rattle.laws.specs.Pick.{pick}
use Rattle.timing.specs.Timing.{fits_of}
use Rattle.timing.specs.Numbers.{Answer, number_of}
use Rattle.timing_exports.specs.declared.MvTimingAnswer.{MvTimingAnswer}
use Rattle.timing_exports.specs.Flat.{record_of, words_of}

-- what the parser knows of a unit
abbrev pub context_of : ℕ → ℕ → ℕ → TimingContext
context_of unit samples output = record { unit = unit; samples = samples; output = output }

-- the answer's number, and the start if there is one
abbrev pub answer_flat : Answer → MvTimingAnswer
answer_flat (Ok None) = record { number = number_of (Ok None); start = 0; present = 0 }
answer_flat (Ok (Some start)) = record { number = number_of (Ok (Some start)); start = start; present = 1 }
answer_flat (Err refusal) = record { number = number_of (Err refusal); start = 0; present = 0 }

-- the words that a call leaves where these were lent: unchanged where they don't fit, else the next record's
unfoldable pub left_by : List ℕ → Updated → List ℕ
left_by w u = pick (fits_of (record_of w)) (words_of u.next) w
