-- One accumulator and one substream of a window's levels, by its index.
use Rattle.std.specs.Prelude.{ℕ, List, get_or}
use Rattle.levels.specs.declared.Peak.{Peak}
use Rattle.levels.specs.declared.Depth.{Depth}
use Rattle.levels.specs.declared.SubstreamDepth.{SubstreamDepth}

-- an accumulator and a substream that never held a byte
abbrev pub no_peak : Peak
no_peak = record { total = 0; stream = 0; overhead = 0 }

abbrev pub no_depth : Depth
no_depth = record { total = 0; stream = 0; peak = no_peak }

abbrev pub no_substream : SubstreamDepth
no_substream = record { bytes = 0; peak = 0 }

abbrev pub depth_at : List Depth → ℕ → Depth
depth_at depth k = get_or depth k no_depth

abbrev pub substream_at : List SubstreamDepth → ℕ → SubstreamDepth
substream_at substream i = get_or substream i no_substream
