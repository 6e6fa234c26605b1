-- The conditions of numbers 1, 12 and 13.
use Rattle.std.specs.Prelude.{ℕ, ◌+◌, Bool, false, List, Result, Ok, Err, codes, leb, ltb, get_or}
use Rattle.laws.specs.Pick.{pick}
use Rattle.levels.specs.Index.{every}
use Rattle.levels.specs.Levels.{depth_at, substream_at}
use Rattle.levels.specs.declared.Contribution.{Contribution}
use Rattle.levels.specs.declared.Depth.{Depth}
use Rattle.levels.specs.declared.SubstreamDepth.{SubstreamDepth}
use Rattle.levels.specs.declared.Levels.{Levels}
use Rattle.levels.specs.declared.Refusal.{Refusal}
use Rattle.levels.specs.declared.Refusal.TheVariants.{RecordDoesNotFit, ContributionTooLarge, DepthTooLarge}

-- document 01's number of each refusal
abbrev pub refusal_number : Refusal → ℕ
refusal_number RecordDoesNotFit = 1
refusal_number ContributionTooLarge = 12
refusal_number DepthTooLarge = 13

-- what a refusal prints
abbrev pub text_of : Refusal → List ℕ
text_of RecordDoesNotFit = codes "the record does not fit"
text_of ContributionTooLarge = codes "a contribution is above 16,384 bytes"
text_of DepthTooLarge = codes "a depth would be above 4,294,967,295 bytes"

-- the number of each answer; 0 where the call is accepted
abbrev pub number_of : {A : Type 0} → Result A Refusal → ℕ
number_of (Ok a) = 0
number_of (Err refusal) = refusal_number refusal

-- "one of the fourteen depths above 4,294,967,295"
unfoldable pub depth_fits : Depth → Bool
depth_fits d = pick (leb d.total 4294967295) (leb d.stream 4294967295) false

unfoldable pub depths_fit : List Depth → Bool
depths_fit depth = every 5 (λ k. depth_fits (depth_at depth k))

unfoldable pub substreams_fit : List SubstreamDepth → Bool
substreams_fit substream = every 4 (λ i. leb (substream_at substream i).bytes 4294967295)

-- number 1 is given where this is false: "a slot number above 127, or one of the fourteen depths above 4,294,967,295"
unfoldable pub fits_of : Levels → Bool
fits_of l = pick (ltb 127 l.read) false (pick (ltb 127 l.write) false (pick (depths_fit l.depth) (substreams_fit l.substream) false))

unfoldable pub all_small : ℕ → List ℕ → Bool
all_small n bytes = every n (λ k. leb (get_or bytes k 0) 16384)

-- number 12 is given where this is false: "a contribution above 16,384"
unfoldable pub small_of : Contribution → Bool
small_of c = pick (all_small 5 c.total) (pick (all_small 5 c.stream) (all_small 4 c.substream) false) false

-- "a depth plus its contribution above 4,294,967,295"
unfoldable pub room_at : ℕ → ℕ → Bool
room_at depth bytes = leb (depth + bytes) 4294967295

unfoldable pub depth_room : Depth → ℕ → ℕ → Bool
depth_room d total stream = pick (room_at d.total total) (room_at d.stream stream) false

unfoldable pub depths_room : List Depth → Contribution → Bool
depths_room depth c = every 5 (λ k. depth_room (depth_at depth k) (get_or c.total k 0) (get_or c.stream k 0))

unfoldable pub substreams_room : List SubstreamDepth → Contribution → Bool
substreams_room substream c = every 4 (λ i. room_at (substream_at substream i).bytes (get_or c.substream i 0))

-- number 13 is given where this is false: "stream and substream depths too"
unfoldable pub room_of : Levels → Contribution → Bool
room_of l c = pick (depths_room l.depth c) (substreams_room l.substream c) false
