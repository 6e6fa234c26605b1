-- What a window's levels keep after any steps and restarts from fresh: peaks cover depths, and a peak's parts are those of one moment.
use Rattle.std.specs.Prelude.{ℕ, ◌-◌, ◌≤◌, ◌<◌, ◌≡◌}
use Rattle.levels.specs.Levels.{depth_at, substream_at}
use Rattle.levels.specs.declared.Levels.{Levels}

-- "every peak's total is at least its accumulator's total, every substream peak at least its depth"
pub record Covered (l : Levels) : Type 0 where
  pub depths : (k : ℕ) → k < 5 → (depth_at l.depth k).total ≤ (depth_at l.depth k).peak.total
  pub substreams : (i : ℕ) → i < 4 → (substream_at l.substream i).bytes ≤ (substream_at l.substream i).peak

-- "a peak's other parts are those of its moment": the overhead is what the stream part left of the total, not below 0
unfoldable pub Moments : Levels → Type 0
Moments l = (k : ℕ) → k < 5 → (depth_at l.depth k).peak.overhead ≡ (depth_at l.depth k).peak.total - (depth_at l.depth k).peak.stream
