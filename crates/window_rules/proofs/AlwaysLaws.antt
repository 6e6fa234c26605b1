-- What holds after any steps and restarts: a window that fits still fits, peaks cover depths, and a peak's parts are those of one moment.
use Rattle.std.specs.Prelude.{ℕ, ◌+◌, ◌-◌, ◌%◌, ◌≤◌, ◌<◌, ◌≡◌, refl, Result, Ok, Err, Bool, List, [], ◌∷◌, leb, ltb, get_or}
use Rattle.std.proofs.Common.{arith, mod-lt, le-leb, leb-true}
use Rattle.std.proofs.Math.Bool.{true, false}
use Rattle.laws.specs.Pick.{pick_holds, both_hold}
use Rattle.kinds.specs.declared.SampleTime.{SampleTime}
use Rattle.levels.specs.Index.{every}
use Rattle.window_rules.specs.Depth.{sampled_of, left_of, added_of, sampled_substream_of, added_substream_of, emptied_of, emptied_substream_of}
use Rattle.levels.specs.Levels.{no_depth, no_substream, depth_at, substream_at}
use Rattle.window_rules.specs.Levels.{each_depth, each_substream, drained_of, added_levels_of, fresh_levels_of, emptied_depths_of, emptied_substreams_of, restarted_levels_of}
use Rattle.levels.specs.Numbers.{room_at, depth_room, room_of, depth_fits, depths_fit, substreams_fit, fits_of, small_of, number_of}
use Rattle.window_rules.specs.Window.{answer_of, step_rings, stepped_of, refused_of, pushed_of, restarted_window_of, restarted_of, fresh_of, drain_of}
use Rattle.window_rules.specs.History.{Call, step, restart, called, after}
use Rattle.window_rules.specs.Always.{Covered, Moments}
use Rattle.levels.specs.declared.Contribution.{Contribution}
use Rattle.levels.specs.declared.Peak.{Peak}
use Rattle.levels.specs.declared.Depth.{Depth}
use Rattle.levels.specs.declared.SubstreamDepth.{SubstreamDepth}
use Rattle.levels.specs.declared.Levels.{Levels}
use Rattle.window_rules.specs.declared.Window.{Window}
use Rattle.levels.specs.declared.Refusal.{Refusal}
use Rattle.levels.specs.IndexLaws.{every_holds, at_five, at_four}
use Rattle.levels.specs.NumberLaws.{fits_holds, room_says, depth_room_says, depth_has_room, substream_has_room, room_of_depths, room_of_substreams, read_of_fit}
use Rattle.window_rules.proofs.KeepLaws.{sampled_covers, each_depth_at, each_substream_at, drain_keeps, drain_room}

-- A call hands back the window as it was, or the one that the rule gives where every test passed.
module _ (P : Window → Type 0) (w : Window) where
  push_by : (playhead removal : SampleTime) (c : Contribution) (x y z : Bool) → fits_of w.levels ≡ x → small_of c ≡ y → room_of w.levels c ≡ z → P w
      → (fits_of w.levels ≡ true → room_of w.levels c ≡ true → P (stepped_of w playhead removal c).window)
      → P (pushed_of w playhead removal c).window
  unfolding pushed_of answer_of refused_of
  push_by playhead removal c false y z e f g p q = rw e p
  push_by playhead removal c true false z e f g p q = rw (e, f) p
  push_by playhead removal c true true false e f g p q = rw (e, f, g) p
  push_by playhead removal c true true true e f g p q = rw (e, f, g) (q e g)

  pub push_gives : (playhead removal : SampleTime) (c : Contribution) → P w
      → (fits_of w.levels ≡ true → room_of w.levels c ≡ true → P (stepped_of w playhead removal c).window)
      → P (pushed_of w playhead removal c).window
  push_gives playhead removal c p q = push_by playhead removal c (fits_of w.levels) (small_of c) (room_of w.levels c) refl refl refl p q

  restart_by : (x : Bool) → fits_of w.levels ≡ x → P w → P (restarted_window_of w) → P (restarted_of w).window
  unfolding restarted_of
  restart_by false e p q = rw e p
  restart_by true e p q = rw e q

  pub restart_gives : P w → P (restarted_window_of w) → P (restarted_of w).window
  restart_gives p q = restart_by (fits_of w.levels) refl p q

-- What holds of a fresh window and is kept by an accepted step and by a restart holds after any calls.
module _ (P : Window → Type 0)
    (steps : (w : Window) (playhead removal : SampleTime) (c : Contribution) → P w → fits_of w.levels ≡ true → room_of w.levels c ≡ true
    → P (stepped_of w playhead removal c).window)
    (restarts : (w : Window) → P w → P (restarted_window_of w)) where
  call_keeps : (w : Window) (x : Call) → P w → P (called w x)
  call_keeps w (step playhead removal c) p = push_gives P w playhead removal c p (steps w playhead removal c p)
  call_keeps w restart p = restart_gives P w p (restarts w p)

  pub always : (w : Window) (calls : List Call) → P w → P (after w calls)
  always w [] p = p
  always w (x ∷ xs) p = always (called w x) xs (call_keeps w x p)

added_fits : (d : Depth) (t s : ℕ) → depth_room d t s ≡ true → depth_fits (added_of d t s) ≡ true
unfolding depth_fits added_of sampled_of
added_fits d t s e = let w = depth_room_says d t s e in both_hold (le-leb (d.total + t) 4294967295 w.0) (le-leb (d.stream + s) 4294967295 w.1)

added_substream_fits : (d : SubstreamDepth) (b : ℕ) → room_at d.bytes b ≡ true → leb (added_substream_of d b).bytes 4294967295 ≡ true
unfolding added_substream_of sampled_substream_of
added_substream_fits d b e = le-leb (d.bytes + b) 4294967295 (room_says d.bytes b e)

added_levels_fit : (l : Levels) (c : Contribution) → l.read < 128 → room_of l c ≡ true → fits_of (added_levels_of l c) ≡ true
unfolding added_levels_of depths_fit substreams_fit
added_levels_fit l c r e =
    let m : (l.write + 1) % 128 < 128 = mod-lt (l.write + 1) (omega arith) in
    fits_holds (added_levels_of l c) (omega arith) (omega arith)
    (every_holds 5 (λ k. depth_fits (depth_at (each_depth added_of l.depth c) k))
    (λ k h. rw (each_depth_at added_of l.depth c k h)
    (added_fits (depth_at l.depth k) (get_or c.total k 0) (get_or c.stream k 0) (depth_has_room l.depth c k (room_of_depths l c e) h))))
    (every_holds 4 (λ i. leb (substream_at (each_substream added_substream_of l.substream c) i).bytes 4294967295)
    (λ i h. rw (each_substream_at added_substream_of l.substream c i h)
    (added_substream_fits (substream_at l.substream i) (get_or c.substream i 0) (substream_has_room l.substream c i (room_of_substreams l c e) h))))

drained_read : (l : Levels) (c : Contribution) → l.read < 128 → (drained_of l c).read < 128
unfolding drained_of
drained_read l c h = mod-lt (l.read + 1) (omega arith)

pub stepped_fits : (w : Window) (playhead removal : SampleTime) (c : Contribution) → fits_of w.levels ≡ true → room_of w.levels c ≡ true
    → fits_of (stepped_of w playhead removal c).window.levels ≡ true
unfolding stepped_of
stepped_fits w playhead removal c f r =
    added_levels_fit (drain_of 128 (step_rings w removal c) playhead w.levels).levels c
    (drain_keeps (λ l. l.read < 128) drained_read (step_rings w removal c) playhead 128 w.levels (read_of_fit w.levels f))
    (drain_room 128 (step_rings w removal c) playhead w.levels c r)

pub restarted_fits : (w : Window) → fits_of (restarted_window_of w).levels ≡ true
unfolding fits_of depths_fit substreams_fit depth_fits every restarted_levels_of emptied_depths_of emptied_substreams_of
restarted_fits w = refl

pub fresh_fits : fits_of fresh_of.levels ≡ true
unfolding fits_of depths_fit substreams_fit depth_fits every fresh_of fresh_levels_of
fresh_fits = refl

-- "rings of 128 slots that begin as zeros", and no unit is held; "Restart puts the window back as new"
pub fresh_holds_nothing : (fresh_of.levels.read ≡ 0) × (fresh_of.levels.write ≡ 0)
unfolding fresh_of fresh_levels_of
fresh_holds_nothing = (refl, refl)

pub restart_slots : (w : Window) → (restarted_window_of w).rings ≡ fresh_of.rings
unfolding fresh_of
restart_slots w = refl

-- each call, one by one
pub push_fits : (w : Window) (playhead removal : SampleTime) (c : Contribution) → fits_of w.levels ≡ true → fits_of (pushed_of w playhead removal c).window.levels ≡ true
push_fits w playhead removal c f = push_gives (λ v. fits_of v.levels ≡ true) w playhead removal c f (stepped_fits w playhead removal c)

pub restart_fits : (w : Window) → fits_of w.levels ≡ true → fits_of (restarted_of w).window.levels ≡ true
restart_fits w f = restart_gives (λ v. fits_of v.levels ≡ true) w f (restarted_fits w)

-- and any list of them
pub fits_always : (calls : List Call) → fits_of (after fresh_of calls).levels ≡ true
fits_always calls =
    always (λ w. fits_of w.levels ≡ true) (λ w playhead removal c p f r. stepped_fits w playhead removal c f r) (λ w p. restarted_fits w) fresh_of calls fresh_fits

sampled_substream_covers : (t p : ℕ) → (sampled_substream_of t p).bytes ≤ (sampled_substream_of t p).peak
unfolding sampled_substream_of
sampled_substream_covers t p = pick_holds (λ (n : ℕ). t ≤ n) (leb t p) p t (leb-true t p) (λ e. omega arith)

added_covers : (l : Levels) (c : Contribution) → Covered (added_levels_of l c)
unfolding added_levels_of added_of added_substream_of
added_covers l c = record {
  depths = λ k h. rw (each_depth_at added_of l.depth c k h) (sampled_covers _ _ _);
  substreams = λ i h. rw (each_substream_at added_substream_of l.substream c i h) (sampled_substream_covers _ _);
}

stepped_covers : (w : Window) (playhead removal : SampleTime) (c : Contribution) → Covered (stepped_of w playhead removal c).window.levels
unfolding stepped_of
stepped_covers w playhead removal c = added_covers _ c

restarted_covers : (w : Window) → Covered (restarted_window_of w).levels
unfolding restarted_levels_of emptied_depths_of emptied_substreams_of
restarted_covers w = record {
  depths = λ k h. rw (at_five (λ j. emptied_of (depth_at w.levels.depth j)) no_depth k h) (omega arith);
  substreams = λ i h. rw (at_four (λ j. emptied_substream_of (substream_at w.levels.substream j)) no_substream i h) (omega arith);
}

fresh_covers : Covered fresh_of.levels
unfolding fresh_of fresh_levels_of
fresh_covers = record {
  depths = λ k h. rw (at_five (λ j. no_depth) no_depth k h) (omega arith);
  substreams = λ i h. rw (at_four (λ j. no_substream) no_substream i h) (omega arith);
}

pub peaks_cover : (calls : List Call) → Covered (after fresh_of calls).levels
peaks_cover calls =
    always (λ w. Covered w.levels) (λ w playhead removal c p f r. stepped_covers w playhead removal c) (λ w p. restarted_covers w) fresh_of calls fresh_covers

sampled_moment : (t s : ℕ) (p : Peak) → p.overhead ≡ p.total - p.stream
    → (sampled_of t s p).peak.overhead ≡ (sampled_of t s p).peak.total - (sampled_of t s p).peak.stream
unfolding sampled_of
sampled_moment t s p e = pick_holds (λ (q : Peak). q.overhead ≡ q.total - q.stream) (leb t p.total) p (record { total = t; stream = s; overhead = t - s }) (λ _. e) (λ _. refl)

left_moment : (d : Depth) (t s : ℕ) → d.peak.overhead ≡ d.peak.total - d.peak.stream
    → (left_of d t s).peak.overhead ≡ (left_of d t s).peak.total - (left_of d t s).peak.stream
unfolding left_of
left_moment d t s e =
    pick_holds (λ (x : Depth). x.peak.overhead ≡ x.peak.total - x.peak.stream) (ltb d.total t) (sampled_of 0 0 d.peak) (sampled_of (d.total - t) (d.stream - s) d.peak)
    (λ _. sampled_moment 0 0 d.peak e) (λ _. sampled_moment (d.total - t) (d.stream - s) d.peak e)

drained_moments : (l : Levels) (c : Contribution) → Moments l → Moments (drained_of l c)
unfolding drained_of Moments
drained_moments l c m k h = rw (each_depth_at left_of l.depth c k h) (left_moment (depth_at l.depth k) _ _ (m k h))

added_moments : (l : Levels) (c : Contribution) → Moments l → Moments (added_levels_of l c)
unfolding added_levels_of added_of Moments
added_moments l c m k h = rw (each_depth_at added_of l.depth c k h) (sampled_moment _ _ (depth_at l.depth k).peak (m k h))

stepped_moments : (w : Window) (playhead removal : SampleTime) (c : Contribution) → Moments w.levels → Moments (stepped_of w playhead removal c).window.levels
unfolding stepped_of
stepped_moments w playhead removal c m =
    added_moments (drain_of 128 (step_rings w removal c) playhead w.levels).levels c (drain_keeps Moments drained_moments (step_rings w removal c) playhead 128 w.levels m)

restarted_moments : (w : Window) → Moments w.levels → Moments (restarted_window_of w).levels
unfolding restarted_levels_of emptied_depths_of Moments
restarted_moments w m k h = rw (at_five (λ j. emptied_of (depth_at w.levels.depth j)) no_depth k h) (m k h)

fresh_moments : Moments fresh_of.levels
unfolding fresh_of fresh_levels_of Moments
fresh_moments k h = rw (at_five (λ j. no_depth) no_depth k h)

pub peaks_of_a_moment : (calls : List Call) → Moments (after fresh_of calls).levels
peaks_of_a_moment calls =
    always (λ w. Moments w.levels) (λ w playhead removal c m f r. stepped_moments w playhead removal c m) restarted_moments fresh_of calls fresh_moments

-- "unchanged": whatever is refused leaves the window as it was
unchanged_by : (w : Window) (playhead removal : SampleTime) (c : Contribution) (a : Result Unit Refusal) → answer_of w c ≡ a → (number_of a ≡ 0 → ⊥)
    → (pushed_of w playhead removal c).window ≡ w
unfolding pushed_of refused_of
unchanged_by w playhead removal c (Ok done) e n = absurd (n refl)
unchanged_by w playhead removal c (Err refusal) e n = rw e

pub refused_unchanged : (w : Window) (playhead removal : SampleTime) (c : Contribution) → (number_of (answer_of w c) ≡ 0 → ⊥) → (pushed_of w playhead removal c).window ≡ w
refused_unchanged w playhead removal c n = unchanged_by w playhead removal c (answer_of w c) refl n
