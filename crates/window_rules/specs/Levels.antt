-- All of a window but its rings: what one unit does to it, at every accumulator and substream.
use Rattle.std.specs.Prelude.{ℕ, ◌+◌, ◌%◌, List, ltb, get_or, Option}
use Rattle.levels.specs.Index.{five, four}
use Rattle.levels.specs.Levels.{no_depth, no_substream, depth_at, substream_at}
use Rattle.window_rules.specs.Index.{highest}
use Rattle.window_rules.specs.Depth.{emptied_of, emptied_substream_of, left_of, added_of, left_substream_of, added_substream_of}
use Rattle.levels.specs.declared.Contribution.{Contribution}
use Rattle.levels.specs.declared.Depth.{Depth}
use Rattle.levels.specs.declared.SubstreamDepth.{SubstreamDepth}
use Rattle.levels.specs.declared.Levels.{Levels}

-- one rule at each accumulator, with what the unit has for it
unfoldable pub each_depth : (Depth → ℕ → ℕ → Depth) → List Depth → Contribution → List Depth
each_depth rule depth c = five (λ k. rule (depth_at depth k) (get_or c.total k 0) (get_or c.stream k 0))

-- one rule at each substream
unfoldable pub each_substream : (SubstreamDepth → ℕ → SubstreamDepth) → List SubstreamDepth → Contribution → List SubstreamDepth
each_substream rule substream c = four (λ i. rule (substream_at substream i) (get_or c.substream i 0))

-- "drain it": the unit leaves every accumulator and substream, an underrun or not, and the read slot moves on
unfoldable pub drained_of : Levels → Contribution → Levels
drained_of l c = record {
  read = (l.read + 1) % 128;
  write = l.write;
  depth = each_depth left_of l.depth c;
  substream = each_substream left_substream_of l.substream c;
}

-- "the report names the highest one"
unfoldable pub underrun_of : List Depth → Contribution → Option ℕ
underrun_of depth c = highest 5 (λ k. ltb (depth_at depth k).total (get_or c.total k 0))

-- "Then add": the unit joins every accumulator and substream, and the write slot moves on
unfoldable pub added_levels_of : Levels → Contribution → Levels
added_levels_of l c = record {
  read = l.read;
  write = (l.write + 1) % 128;
  depth = each_depth added_of l.depth c;
  substream = each_substream added_substream_of l.substream c;
}

-- "The report has the five depths"
unfoldable pub totals_of : List Depth → List ℕ
totals_of depth = five (λ k. (depth_at depth k).total)

-- a window that never held a unit
unfoldable pub fresh_levels_of : Levels
fresh_levels_of = record { read = 0; write = 0; depth = five (λ k. no_depth); substream = four (λ i. no_substream) }

-- "Restart puts the window back as new, peaks excepted"
unfoldable pub emptied_depths_of : List Depth → List Depth
emptied_depths_of depth = five (λ k. emptied_of (depth_at depth k))

unfoldable pub emptied_substreams_of : List SubstreamDepth → List SubstreamDepth
emptied_substreams_of substream = four (λ i. emptied_substream_of (substream_at substream i))

unfoldable pub restarted_levels_of : Levels → Levels
restarted_levels_of l = record { read = 0; write = 0; depth = emptied_depths_of l.depth; substream = emptied_substreams_of l.substream }
