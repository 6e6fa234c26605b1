-- The window: fresh, a step, restart.
use Rattle.std.specs.Prelude.{ℕ, zero, suc, Bool, Option, Some, None, Result, Ok, Err}
use Rattle.laws.specs.Pick.{pick}
use Rattle.kinds.specs.Kinds.{passed_of}
use Rattle.kinds.specs.declared.SampleTime.{SampleTime}
use Rattle.window_rules.specs.Rings.{fresh_rings_of, written_of, contribution_at, removal_at}
use Rattle.window_rules.specs.Levels.{drained_of, underrun_of, added_levels_of, totals_of, fresh_levels_of, restarted_levels_of}
use Rattle.levels.specs.Questions.{fit_answer, on_accepted}
use Rattle.levels.specs.Numbers.{fits_of, small_of, room_of}
use Rattle.levels.specs.declared.Contribution.{Contribution}
use Rattle.levels.specs.declared.Levels.{Levels}
use Rattle.window_rules.specs.declared.Rings.{Rings}
use Rattle.window_rules.specs.declared.Window.{Window}
use Rattle.window_rules.specs.declared.Drained.{Drained}
use Rattle.window_rules.specs.declared.Pushed.{Pushed}
use Rattle.window_rules.specs.declared.Restarted.{Restarted}
use Rattle.levels.specs.declared.Refusal.{Refusal}
use Rattle.levels.specs.declared.Refusal.TheVariants.{RecordDoesNotFit, ContributionTooLarge, DepthTooLarge}

unfoldable pub fresh_of : Window
fresh_of = record { rings = fresh_rings_of; levels = fresh_levels_of }

-- "after a record with an underrun stop": that record is drained whole
abbrev pub after_slot : Option ℕ → Levels → Drained → Drained
after_slot None l next = next
after_slot (Some k) l next = record { levels = l; underrun = Some k }

-- "the playhead is strictly above the removal time at the read slot"
abbrev pub passed_at : Rings → SampleTime → Levels → Bool
passed_at rings playhead l = passed_of playhead (removal_at rings l.read)

-- "while" it is, "drain it, at most" so many
unfoldable pub drain_of : ℕ → Rings → SampleTime → Levels → Drained
drain_of zero rings playhead l = record { levels = l; underrun = None }
drain_of (suc n) rings playhead l =
    pick (passed_at rings playhead l)
    (after_slot (underrun_of l.depth (contribution_at rings l.read))
    (drained_of l (contribution_at rings l.read))
    (drain_of n rings playhead (drained_of l (contribution_at rings l.read))))
    (record { levels = l; underrun = None })

-- a step: the slot written, then "drain it, at most 128", "Then add"
abbrev pub step_rings : Window → SampleTime → Contribution → Rings
step_rings w removal c = written_of w.rings w.levels.write removal c

abbrev pub step_drain : Window → SampleTime → SampleTime → Contribution → Drained
step_drain w playhead removal c = drain_of 128 (step_rings w removal c) playhead w.levels

abbrev pub step_levels : Window → SampleTime → SampleTime → Contribution → Levels
step_levels w playhead removal c = added_levels_of (step_drain w playhead removal c).levels c

unfoldable pub stepped_of : Window → SampleTime → SampleTime → Contribution → Pushed
stepped_of w playhead removal c = record {
  window = record { rings = step_rings w removal c; levels = step_levels w playhead removal c };
  answer = Ok (record { depths = totals_of (step_levels w playhead removal c).depth; underrun = (step_drain w playhead removal c).underrun });
}

-- "unchanged", and no report
unfoldable pub refused_of : Window → Refusal → Pushed
refused_of w refusal = record { window = w; answer = Err refusal }

-- "tested in the order .. 1, 12, 13 for a window step"
unfoldable pub answer_of : Window → Contribution → Result Unit Refusal
answer_of w c = pick (fits_of w.levels) (pick (small_of c) (pick (room_of w.levels c) (Ok tt) (Err DepthTooLarge)) (Err ContributionTooLarge)) (Err RecordDoesNotFit)

-- a step is taken exactly where it is accepted
abbrev pub after_answer : Result Unit Refusal → Window → Pushed → Pushed
after_answer (Ok done) w stepped = stepped
after_answer (Err refusal) w stepped = refused_of w refusal

unfoldable pub pushed_of : Window → SampleTime → SampleTime → Contribution → Pushed
pushed_of w playhead removal c = after_answer (answer_of w c) w (stepped_of w playhead removal c)

-- "Restart puts the window back as new, peaks excepted"
abbrev pub restarted_window_of : Window → Window
restarted_window_of w = record { rings = fresh_rings_of; levels = restarted_levels_of w.levels }

unfoldable pub restarted_of : Window → Restarted
restarted_of w = record { window = on_accepted (fit_answer w.levels) (restarted_window_of w) w; answer = fit_answer w.levels }
