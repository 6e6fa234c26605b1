-- One accumulator, and one substream.
use Rattle.std.specs.Prelude.{ℕ, ◌+◌, ◌-◌, leb, ltb}
use Rattle.laws.specs.Pick.{pick}
use Rattle.levels.specs.declared.Peak.{Peak}
use Rattle.levels.specs.declared.Depth.{Depth}
use Rattle.levels.specs.declared.SubstreamDepth.{SubstreamDepth}

-- "A peak takes total, stream part and overhead (total minus stream part, not below 0) when total rises above it"
unfoldable pub sampled_of : ℕ → ℕ → Peak → Depth
sampled_of total stream peak =
    record { total = total; stream = stream; peak = pick (leb total peak.total) peak (record { total = total; stream = stream; overhead = total - stream }) }

-- "An underrun sets that accumulator and its stream part to 0 .. Stream and substream parts stop at 0 .. it is looked at after each drained accumulator"
unfoldable pub left_of : Depth → ℕ → ℕ → Depth
left_of d total stream = pick (ltb d.total total) (sampled_of 0 0 d.peak) (sampled_of (d.total - total) (d.stream - stream) d.peak)

-- "Then add .. looked at after each drained accumulator and after the add"
unfoldable pub added_of : Depth → ℕ → ℕ → Depth
added_of d total stream = sampled_of (d.total + total) (d.stream + stream) d.peak

-- "Restart puts the window back as new, peaks excepted": one accumulator
abbrev pub emptied_of : Depth → Depth
emptied_of d = record { total = 0; stream = 0; peak = d.peak }

-- "substream peaks likewise"
unfoldable pub sampled_substream_of : ℕ → ℕ → SubstreamDepth
sampled_substream_of bytes peak = record { bytes = bytes; peak = pick (leb bytes peak) peak bytes }

unfoldable pub left_substream_of : SubstreamDepth → ℕ → SubstreamDepth
left_substream_of d bytes = sampled_substream_of (d.bytes - bytes) d.peak

unfoldable pub added_substream_of : SubstreamDepth → ℕ → SubstreamDepth
added_substream_of d bytes = sampled_substream_of (d.bytes + bytes) d.peak

abbrev pub emptied_substream_of : SubstreamDepth → SubstreamDepth
emptied_substream_of d = record { bytes = 0; peak = d.peak }
