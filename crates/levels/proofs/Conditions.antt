-- The conditions of numbers 1, 12 and 13: a test of each element is the test at every index.
use Rattle.std.proofs.Common.{◌≡◌, ◌∙◌, refl, ℕ, List, length, arith}
use Rattle.std.specs.Prelude.{leb}
use Rattle.std.specs.List.{list_all, zip}
use Rattle.std.proofs.lemmas.Slice.Zip.{get_or-zip, length-zip}
use Rattle.levels.specs.IndexLaws.{all_every}
use Rattle.levels.specs.Levels.{no_depth, no_substream}
use Rattle.levels.specs.Numbers.{room_at, depth_room, depths_room, substreams_room, depth_fits, depths_fit, substreams_fit, all_small}
use Rattle.levels.specs.declared.Contribution.{Contribution}
use Rattle.levels.specs.declared.Depth.{Depth}
use Rattle.levels.specs.declared.SubstreamDepth.{SubstreamDepth}

pub depths_each : (depth : List Depth) → length depth ≡ 5 → list_all depth_fits depth ≡ depths_fit depth
unfolding depths_fit
depths_each depth n = all_every depth_fits depth no_depth _ 5 n (λ k h. refl)

pub substreams_each : (substream : List SubstreamDepth) → length substream ≡ 4
    → list_all (λ (d : SubstreamDepth). leb d.bytes 4294967295) substream ≡ substreams_fit substream
unfolding substreams_fit
substreams_each substream n = all_every (λ (d : SubstreamDepth). leb d.bytes 4294967295) substream no_substream _ 4 n (λ k h. refl)

pub small_each : (n : ℕ) (bytes : List ℕ) → length bytes ≡ n → list_all (λ b. leb b 16384) bytes ≡ all_small n bytes
unfolding all_small
small_each n bytes m = all_every (λ b. leb b 16384) bytes 0 _ n m (λ k h. refl)

module _ (c : Contribution) where
  pub depths_room_each : (depth : List Depth) → length depth ≡ 5 → length c.total ≡ 5 → length c.stream ≡ 5
      → list_all (λ (p : Depth × (ℕ × ℕ)). depth_room p.0 p.1.0 p.1.1) (zip depth (zip c.total c.stream)) ≡ depths_room depth c
  unfolding depths_room
  depths_room_each depth n m o =
      let parts = zip c.total c.stream in
      let same : length parts ≡ 5 = length-zip c.total c.stream ∙ rw (m, o) in
      all_every (λ (p : Depth × (ℕ × ℕ)). depth_room p.0 p.1.0 p.1.1) (zip depth parts) (no_depth, (0, 0)) _ 5 (length-zip depth parts ∙ rw (n, same))
      (λ k h. rw (get_or-zip depth parts k (no_depth, (0, 0)) (omega arith) (omega arith), get_or-zip c.total c.stream k (0, 0) (omega arith) (omega arith)))

  pub substreams_room_each : (substream : List SubstreamDepth) → length substream ≡ 4 → length c.substream ≡ 4
      → list_all (λ (p : SubstreamDepth × ℕ). room_at p.0.bytes p.1) (zip substream c.substream) ≡ substreams_room substream c
  unfolding substreams_room
  substreams_room_each substream n m =
      all_every (λ (p : SubstreamDepth × ℕ). room_at p.0.bytes p.1) (zip substream c.substream) (no_substream, 0) _ 4 (length-zip substream c.substream ∙ rw (n, m))
      (λ k h. rw (get_or-zip substream c.substream k (no_substream, 0) (omega arith) (omega arith)))
