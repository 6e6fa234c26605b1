-- P9: a playhead equal to the removal time drains nothing, since strictly above is asked.
use Rattle.std.specs.Prelude.{ℕ, zero, suc, ◌≤◌, ◌≡◌, refl, Result, Ok, None, get_or}
use Rattle.std.proofs.Common.{arith, le-ltb}
use Rattle.kinds.specs.declared.SampleTime.{SampleTime}
use Rattle.window_rules.specs.Levels.{added_levels_of, totals_of}
use Rattle.window_rules.specs.Window.{answer_of, step_rings, drain_of, stepped_of, pushed_of}
use Rattle.levels.specs.declared.Contribution.{Contribution}
use Rattle.levels.specs.declared.Levels.{Levels}
use Rattle.window_rules.specs.declared.Rings.{Rings}
use Rattle.window_rules.specs.declared.Window.{Window}
use Rattle.window_rules.specs.declared.Report.{Report}
use Rattle.levels.specs.declared.Refusal.{Refusal}

-- at or below the removal time at the read slot
pub not_passed : (n : ℕ) (rings : Rings) (playhead : SampleTime) (l : Levels) → playhead.0 ≤ get_or rings.removal l.read 0
    → drain_of n rings playhead l ≡ record { levels = l; underrun = None }
unfolding drain_of
not_passed zero rings playhead l h = refl
not_passed (suc n) rings playhead l h = rw (le-ltb (get_or rings.removal l.read 0) playhead.0 h)

-- P9 of a step: what it leaves is the old levels with the unit added, and no underrun
module _ (w : Window) (playhead removal : SampleTime) (c : Contribution) (taken : answer_of w c ≡ Ok tt)
    (equal : playhead.0 ≡ get_or (step_rings w removal c).removal w.levels.read 0) where
  drains_nothing : drain_of 128 (step_rings w removal c) playhead w.levels ≡ record { levels = w.levels; underrun = None }
  drains_nothing = not_passed 128 (step_rings w removal c) playhead w.levels (omega arith)

  pub p9_levels : (pushed_of w playhead removal c).window.levels ≡ added_levels_of w.levels c
  unfolding pushed_of stepped_of
  p9_levels = rw (taken, drains_nothing)

  pub p9_underrun : ◌≡◌ {A = Result Report Refusal} (pushed_of w playhead removal c).answer (Ok (record { depths = totals_of (added_levels_of w.levels c).depth; underrun = None }))
  unfolding pushed_of stepped_of
  p9_underrun = rw (taken, drains_nothing)
