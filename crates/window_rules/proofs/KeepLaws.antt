-- Which accumulator an underrun names, and what a drain keeps: whatever holds before it and is kept by each slot that leaves.
use Prim.Native.Nat.{ℕ, zero, suc, ◌+◌, ◌-◌, ◌≤◌, ◌<◌}
use Rattle.std.proofs.Common.{arith, ap, ◌∙◌, subst, le-leb, leb-true, eqb-true}
use Rattle.std.specs.Prelude.{◌≡◌, refl, Option, Some, None, Bool, true, false, List, leb, ltb, eqb, get_or}
use Rattle.std.proofs.lemmas.Bool.{eqb-false}
use Rattle.laws.specs.Pick.{pick, pick_holds, both, both_hold}
use Rattle.kinds.specs.declared.SampleTime.{SampleTime}
use Rattle.window_rules.specs.Index.{highest}
use Rattle.window_rules.specs.Depth.{sampled_of, left_of, sampled_substream_of, left_substream_of}
use Rattle.levels.specs.Levels.{no_depth, no_substream, depth_at, substream_at}
use Rattle.window_rules.specs.Levels.{each_depth, each_substream, drained_of, underrun_of}
use Rattle.levels.specs.Numbers.{room_at, depth_room, depths_room, substreams_room, room_of}
use Rattle.window_rules.specs.Rings.{contribution_at}
use Rattle.window_rules.specs.Window.{after_slot, passed_at, drain_of}
use Rattle.levels.specs.declared.Contribution.{Contribution}
use Rattle.levels.specs.declared.Peak.{Peak}
use Rattle.levels.specs.declared.Depth.{Depth}
use Rattle.levels.specs.declared.SubstreamDepth.{SubstreamDepth}
use Rattle.levels.specs.declared.Levels.{Levels}
use Rattle.window_rules.specs.declared.Rings.{Rings}
use Rattle.window_rules.specs.declared.Drained.{Drained}
use Rattle.levels.specs.IndexLaws.{every_holds, at_five, at_four}
use Rattle.levels.specs.NumberLaws.{depth_has_room, substream_has_room, room_of_depths, room_of_substreams}

-- what stands at an index after a rule was applied at each
pub each_depth_at : (rule : Depth → ℕ → ℕ → Depth) (depth : List Depth) (c : Contribution) (k : ℕ) → k < 5
    → depth_at (each_depth rule depth c) k ≡ rule (depth_at depth k) (get_or c.total k 0) (get_or c.stream k 0)
unfolding each_depth
each_depth_at rule depth c k h = at_five (λ j. rule (depth_at depth j) (get_or c.total j 0) (get_or c.stream j 0)) no_depth k h

pub each_substream_at : (rule : SubstreamDepth → ℕ → SubstreamDepth) (substream : List SubstreamDepth) (c : Contribution) (i : ℕ) → i < 4
    → substream_at (each_substream rule substream c) i ≡ rule (substream_at substream i) (get_or c.substream i 0)
unfolding each_substream
each_substream_at rule substream c i h = at_four (λ j. rule (substream_at substream j) (get_or c.substream j 0)) no_substream i h

-- "the report names the highest one": the test holds there, and at none above it
below_top : (n j : ℕ) → j < suc n → (j ≡ n → ⊥) → j < n
below_top n j h ne = omega arith

top_fails : (n j : ℕ) (p : ℕ → Bool) → p n ≡ false → (j < n → p j ≡ false) → j < suc n → (b : Bool) → eqb j n ≡ b → p j ≡ false
top_fails n j p f g h true e = ap p (eqb-true j n e) ∙ f
top_fails n j p f g h false e = g (below_top n j h (eqb-false j n e))

highest_by : (n : ℕ) (p : ℕ → Bool) (k : ℕ) → (highest n p ≡ Some k → (p k ≡ true) × ((j : ℕ) → k < j → j < n → p j ≡ false)) → (b : Bool) → p n ≡ b
    → pick b (Some n) (highest n p) ≡ Some k → (p k ≡ true) × ((j : ℕ) → k < j → j < suc n → p j ≡ false)
highest_by n p k rest true f e = let z : n ≡ k = cc in (subst (λ (m : ℕ). p m ≡ true) z f, λ j h i. absurd (omega arith))
highest_by n p k rest false f e = let w = rest e in (w.0, λ j h i. top_fails n j p f (w.1 j h) i (eqb j n) refl)

pub highest_means : (n : ℕ) (p : ℕ → Bool) (k : ℕ) → highest n p ≡ Some k → (p k ≡ true) × ((j : ℕ) → k < j → j < n → p j ≡ false)
unfolding highest
highest_means zero p k e = absurd (cc)
highest_means (suc n) p k e = highest_by n p k (highest_means n p k) (p n) refl e

-- the last levels of a drain are those it began with, or those after a slot left
drain_by : (P : Levels → Type 0) (b : Bool) (u : Option ℕ) (l m : Levels) (next : Drained) → P l → P m → P next.levels
    → P (pick b (after_slot u m next) (record { levels = l; underrun = None })).levels
drain_by P false u l m next p q r = p
drain_by P true None l m next p q r = r
drain_by P true (Some k) l m next p q r = q

module _ (P : Levels → Type 0) (keep : (l : Levels) (c : Contribution) → P l → P (drained_of l c)) (rings : Rings) (playhead : SampleTime) where
  pub drain_keeps : (n : ℕ) (l : Levels) → P l → P (drain_of n rings playhead l).levels
  unfolding drain_of
  drain_keeps zero l p = p
  drain_keeps (suc n) l p =
      let c : Contribution = contribution_at rings l.read in
      drain_by P (passed_at rings playhead l) (underrun_of l.depth c) l (drained_of l c) (drain_of n rings playhead (drained_of l c)) p (keep l c p) (drain_keeps n (drained_of l c) (keep l c p))

-- looked at, a peak covers; "it is looked at after each drained accumulator"
pub sampled_covers : (t s : ℕ) (p : Peak) → (sampled_of t s p).total ≤ (sampled_of t s p).peak.total
unfolding sampled_of
sampled_covers t s p = pick_holds (λ (q : Peak). t ≤ q.total) (leb t p.total) p (record { total = t; stream = s; overhead = t - s }) (leb-true t p.total) (λ e. omega arith)

pub left_covers : (d : Depth) (t s : ℕ) → (left_of d t s).total ≤ (left_of d t s).peak.total
unfolding left_of
left_covers d t s =
    pick_holds (λ (x : Depth). x.total ≤ x.peak.total) (ltb d.total t) (sampled_of 0 0 d.peak) (sampled_of (d.total - t) (d.stream - s) d.peak)
    (λ e. sampled_covers 0 0 d.peak) (λ e. sampled_covers (d.total - t) (d.stream - s) d.peak)

-- a slot that leaves makes no depth larger
pub left_lower : (d : Depth) (t s : ℕ) → ((left_of d t s).total ≤ d.total) × ((left_of d t s).stream ≤ d.stream)
unfolding left_of sampled_of
left_lower d t s =
    pick_holds (λ (x : Depth). (x.total ≤ d.total) × (x.stream ≤ d.stream)) (ltb d.total t) (sampled_of 0 0 d.peak) (sampled_of (d.total - t) (d.stream - s) d.peak)
    (λ e. (omega arith, omega arith)) (λ e. (omega arith, omega arith))

pub left_substream_lower : (d : SubstreamDepth) (b : ℕ) → (left_substream_of d b).bytes ≤ d.bytes
unfolding left_substream_of sampled_substream_of
left_substream_lower d b = omega arith

room_less : (x y bytes : ℕ) → x ≤ y → room_at y bytes ≡ true → room_at x bytes ≡ true
unfolding room_at
room_less x y bytes h e = let k : y + bytes ≤ 4294967295 = leb-true (y + bytes) 4294967295 e in le-leb (x + bytes) 4294967295 (omega arith)

depth_room_less : (d e : Depth) (t s : ℕ) → (e.total ≤ d.total) × (e.stream ≤ d.stream) → depth_room d t s ≡ true → depth_room e t s ≡ true
unfolding depth_room
depth_room_less d e t s h r =
    let w = both (room_at d.total t) (room_at d.stream s) r in
    both_hold (room_less e.total d.total t h.0 w.0) (room_less e.stream d.stream s h.1 w.1)

-- so where there is room before the drain there is room after it
pub drained_room : (x : Contribution) (l : Levels) (c : Contribution) → room_of l x ≡ true → room_of (drained_of l c) x ≡ true
unfolding room_of depths_room substreams_room drained_of
drained_room x l c r =
    both_hold
    (every_holds 5 (λ k. depth_room (depth_at (each_depth left_of l.depth c) k) (get_or x.total k 0) (get_or x.stream k 0))
    (λ k h. rw (each_depth_at left_of l.depth c k h)
    (depth_room_less (depth_at l.depth k) (left_of (depth_at l.depth k) (get_or c.total k 0) (get_or c.stream k 0)) (get_or x.total k 0) (get_or x.stream k 0)
    (left_lower (depth_at l.depth k) (get_or c.total k 0) (get_or c.stream k 0))
    (depth_has_room l.depth x k (room_of_depths l x r) h))))
    (every_holds 4 (λ i. room_at (substream_at (each_substream left_substream_of l.substream c) i).bytes (get_or x.substream i 0))
    (λ i h. rw (each_substream_at left_substream_of l.substream c i h)
    (room_less (left_substream_of (substream_at l.substream i) (get_or c.substream i 0)).bytes (substream_at l.substream i).bytes (get_or x.substream i 0)
    (left_substream_lower (substream_at l.substream i) (get_or c.substream i 0))
    (substream_has_room l.substream x i (room_of_substreams l x r) h))))

drained_write : (n : ℕ) (l : Levels) (c : Contribution) → l.write ≡ n → (drained_of l c).write ≡ n
unfolding drained_of
drained_write n l c e = e

-- what the add asks, after the drain
module _ (n : ℕ) (rings : Rings) (playhead : SampleTime) (l : Levels) where
  pub drain_room : (x : Contribution) → room_of l x ≡ true → room_of (drain_of n rings playhead l).levels x ≡ true
  drain_room x r = drain_keeps (λ m. room_of m x ≡ true) (drained_room x) rings playhead n l r

  pub drain_write : (drain_of n rings playhead l).levels.write ≡ l.write
  drain_write = drain_keeps (λ m. m.write ≡ l.write) (drained_write l.write) rings playhead n l refl
