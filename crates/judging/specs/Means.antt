-- What the code's own answers mean in the rules' words: definitions only.
use Rattle.std.specs.Prelude.{ℕ, ◌≤◌, ◌≡◌, List, length, Some, None}
use Rattle.std.specs.Prelude.{Option as Answered}
use Rattle.std.proofs.Math.Option.{Option, none, some}
use Rattle.laws.specs.First.{Place, At, Nowhere}
use Rattle.machine.specs.Ask.{Eat, ask}
use Rattle.rules.specs.Search.{sync_length}
use Rattle.rules.specs.declared.Verdict.{Verdict}
use Rattle.rules.specs.Request.{End}
use Rattle.judging.specs.declared.unit.Walk.{Walk}
use Rattle.judging.specs.declared.search.Judged.{Judged}

-- a place
abbrev pub found_of : Answered ℕ → Place
found_of (Some i) = At i
found_of None = Nowhere

-- a sync's length, if it is known
abbrev pub length_of : Answered ℕ → Option ℕ
length_of (Some n) = some n
length_of None = none

-- a decision, if it is made
abbrev pub judged_of : Answered Judged → Option (Eat Verdict)
judged_of (Some j) = some (record { eaten = j.eaten; answer = j.verdict })
judged_of None = none

-- a front of 8 bytes at least, whose sync is m bytes long
pub record SyncIs (m : ℕ) (u : List ℕ) : Type 0 where
  pub said : ask sync_length u ≡ some m
  pub low : 26 ≤ m
  pub high : m ≤ 58
  pub there : 8 ≤ length u

-- a directory's end
abbrev pub end_of : ℕ → ℕ → End
end_of place parity = record { place = place; parity = parity }

-- a directory's end, if it is there
abbrev pub walk_of : Answered Walk → Option End
walk_of (Some w) = some (end_of w.place w.parity)
walk_of None = none
