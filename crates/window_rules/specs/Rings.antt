-- The rings: a slot of each for a unit in flight.
use Rattle.std.specs.Prelude.{ℕ, List, [], map, set, get_or, replicate}
use Rattle.std.specs.List.{range_with_len}
use Rattle.kinds.specs.declared.SampleTime.{SampleTime}
use Rattle.levels.specs.declared.Contribution.{Contribution}
use Rattle.window_rules.specs.declared.Rings.{Rings}

-- "rings of 128 slots that begin as zeros"
abbrev pub zeros : List ℕ
zeros = replicate 128 0

unfoldable pub fresh_rings_of : Rings
fresh_rings_of = record { removal = zeros; total = replicate 5 zeros; stream = replicate 5 zeros; substream = replicate 4 zeros }

-- "Write the arriving record's slot": of n rings, each with its own of the bytes
unfoldable pub written_each : ℕ → List (List ℕ) → ℕ → List ℕ → List (List ℕ)
written_each n rings at bytes = map (λ k. set (get_or rings k []) at (get_or bytes k 0)) (range_with_len 0 n)

unfoldable pub written_of : Rings → ℕ → SampleTime → Contribution → Rings
written_of rings at removal c = record {
  removal = set rings.removal at removal.0;
  total = written_each 5 rings.total at c.total;
  stream = written_each 5 rings.stream at c.stream;
  substream = written_each 4 rings.substream at c.substream;
}

-- what stands at a slot: of n rings the bytes ..
unfoldable pub each_at : ℕ → List (List ℕ) → ℕ → List ℕ
each_at n rings at = map (λ k. get_or (get_or rings k []) at 0) (range_with_len 0 n)

abbrev pub contribution_at : Rings → ℕ → Contribution
contribution_at rings at = record {
  total = each_at 5 rings.total at;
  stream = each_at 5 rings.stream at;
  substream = each_at 4 rings.substream at;
}

-- .. and the removal time
abbrev pub removal_at : Rings → ℕ → SampleTime
removal_at rings at = record { 0 = get_or rings.removal at 0 }
