-- A step of the code in the rules' words: definitions only.
use Rattle.std.specs.Prelude.{ℕ, ◌+◌, ◌≤◌, ◌≡◌, true, false, List, length, drop, Option, Some, None}
use Rattle.laws.specs.First.{At}
use Rattle.rules.specs.Search.{find}
use Rattle.machine.specs.Step.{Step, dry, quiet, speak}
use Rattle.rules.specs.declared.Loss.TheVariants.{Length, Check}
use Rattle.rules.specs.declared.Stream.{Stream}
use Rattle.rules.specs.declared.Verdict.{Verdict}
use Rattle.rules.specs.declared.Verdict.TheVariants.{Lock, Lost, Short, Failed, Whole}
use Rattle.rules.specs.Request.{lose, lock, pass_on, unit_of, Event, handed, too_short, failed, step_by}
use Rattle.extract.specs.declared.step.Outcome.{Outcome}
use Rattle.extract.specs.declared.step.Outcome.TheVariants.{Dry, Quiet, Handed, TooShort, Failed as CheckFailed}
use Rattle.extract.specs.declared.step.Stepped.{Stepped}
use Rattle.judging.specs.declared.search.Judged.{Judged}
use Rattle.timestamp.specs.declared.Timestamp.{Timestamp}

-- n more bytes, one more frame or one more error fit the counts
pub record Roomy (s : Stream) (n : ℕ) : Type 0 where
  pub bytes : s.consumed.0 + n ≤ 281474976710656
  pub frames : s.frames ≤ 281474976710656
  pub errors : s.losses.errors ≤ 281474976710656

-- and the bytes consumed before and now are few enough to be added up
pub record Ready (s : Stream) (before n : ℕ) : Type 0 where
  pub roomy : Roomy s n
  pub behind : before ≤ 281474976710656
  pub whole : n ≤ 8190

-- at a candidate n bytes on, where w waits
abbrev pub arrived_of : ℕ → Stream → Option Timestamp → Stream
arrived_of n s w =
    record {
      consumed = record { 0 = s.consumed.0 + n };
      frames = s.frames;
      losses = s.losses;
      substreams = s.substreams;
      locked = false;
      seen = true;
      waiting = w;
      check = s.check;
    }

-- what a verdict that eats n bytes does, behind the bytes that the search consumed
unfoldable pub verdict_of : Stream → ℕ → ℕ → Verdict → Stepped
verdict_of s before n (Lock k) = record { stream = lock k s; eaten = before + n; outcome = Quiet }
verdict_of s before n (Lost w) = record { stream = lose w n s; eaten = before + n; outcome = Quiet }
verdict_of s before n (Short a m) = record { stream = lose Length n s; eaten = before + n; outcome = TooShort a m }
verdict_of s before n Failed = record { stream = lose Check n s; eaten = before + n; outcome = CheckFailed }
verdict_of s before n (Whole major) = record { stream = pass_on n s; eaten = before + n; outcome = Handed (unit_of s n major) }

unfoldable pub settled_of : Stream → ℕ → Option Judged → Stepped
settled_of s before (Some j) = verdict_of s before j.eaten j.verdict
settled_of s before None = record { stream = s; eaten = before; outcome = Dry }

-- the rules' step that an outcome is
abbrev pub outcome_of : Outcome → Stream → List ℕ → Step Stream Event
outcome_of Dry s u = dry s u
outcome_of Quiet s u = quiet s u
outcome_of (Handed x) s u = speak (handed x) s u
outcome_of (TooShort a m) s u = speak (too_short a m s.consumed) s u
outcome_of CheckFailed s u = speak (failed s.consumed) s u

abbrev pub stepped_of : Stepped → List ℕ → Step Stream Event
stepped_of r u = outcome_of r.outcome r.stream (drop r.eaten u)

-- a unit that is handed out lies within the bytes that were consumed
abbrev pub Within : Outcome → ℕ → Type 0
Within Dry n = Unit {0}
Within Quiet n = Unit {0}
Within (Handed x) n = x.length ≤ n
Within (TooShort a m) n = Unit {0}
Within CheckFailed n = Unit {0}

-- the code's step is the rules', on bytes that are there
pub record StepsAs (s : Stream) (u : List ℕ) (r : Stepped) : Type 0 where
  pub same : stepped_of r u ≡ step_by s.locked s u
  pub there : r.eaten ≤ length u
  pub within : Within r.outcome r.eaten

-- a candidate stands n bytes on, and it is the first
pub record FoundIn (n : ℕ) (s : Stream) (u : List ℕ) : Type 0 where
  pub found : find u ≡ At n
  pub inside : n + 8 ≤ length u
  pub searching : s.locked ≡ false
  pub roomy : Roomy s (length u)
