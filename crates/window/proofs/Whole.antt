-- The whole window: what each way out of a step comes to.
use Rattle.std.specs.Prelude.{ℕ, ◌<◌, ◌≡◌, refl, Bool, true, false, List, Result, Ok, Err}
use Rattle.std.proofs.Common.{sym, ◌∙◌}
use Rattle.laws.specs.Pick.{pick}
use Rattle.kinds.specs.declared.SampleTime.{SampleTime}
use Rattle.levels.specs.Numbers.{fits_of, small_of, room_of}
use Rattle.levels.specs.NumberLaws.{read_of_fit, write_of_fit}
use Rattle.levels.specs.declared.Contribution.{Contribution}
use Rattle.levels.specs.declared.Levels.{Levels}
use Rattle.levels.specs.declared.Refusal.{Refusal}
use Rattle.levels.specs.declared.Refusal.TheVariants.{RecordDoesNotFit, ContributionTooLarge, DepthTooLarge}
use Rattle.levels.specs.declared.Depth.{Depth}
use Rattle.levels.specs.declared.SubstreamDepth.{SubstreamDepth}
use Rattle.window_rules.specs.Levels.{added_levels_of, totals_of, emptied_depths_of, emptied_substreams_of, restarted_levels_of}
use Rattle.window_rules.specs.Rings.{written_of}
use Rattle.window_rules.specs.Window.{answer_of, drain_of, stepped_of, refused_of, pushed_of}
use Rattle.window_rules.specs.declared.Drained.{Drained}
use Rattle.window_rules.specs.declared.Pushed.{Pushed}
use Rattle.window_rules.specs.declared.Rings.{Rings}
use Rattle.window_rules.specs.declared.Window.{Window}
use Rattle.window_rules.proofs.KeepLaws.{drain_room, drain_write}

passed_all : {done : Unit} (x y z : Bool)
    → ◌≡◌ {A = Result Unit Refusal} (pick x (pick y (pick z (Ok tt) (Err DepthTooLarge)) (Err ContributionTooLarge)) (Err RecordDoesNotFit)) (Ok done)
    → (x ≡ true) × (z ≡ true)
passed_all true true true e = (refl, refl)
passed_all true true false e = cc
passed_all true false z e = cc
passed_all false y z e = cc

module _ (w : Window) (c : Contribution) where
  -- what the tests let through fits, and has room
  pub let_through : {a : Result Unit Refusal} → a ≡ answer_of w c → {done : Unit} → a ≡ Ok done → (fits_of w.levels ≡ true) × (room_of w.levels c ≡ true)
  unfolding answer_of
  let_through told taken = passed_all (fits_of w.levels) (small_of c) (room_of w.levels c) (sym told ∙ taken)

  module _ (holds : (fits_of w.levels ≡ true) × (room_of w.levels c ≡ true)) where
    pub reads_a_slot : w.levels.read < 128
    reads_a_slot = read_of_fit w.levels holds.0

    pub writes_a_slot : w.levels.write < 128
    writes_a_slot = write_of_fit w.levels holds.0

    -- what the add asks, after the drain
    pub drained_has_room : (rings : Rings) (playhead : SampleTime) {d : Drained} → d ≡ drain_of 128 rings playhead w.levels
        → (d.levels.write < 128) × (room_of d.levels c ≡ true)
    drained_has_room rings playhead e = (rw (e, drain_write 128 rings playhead w.levels) writes_a_slot, rw e (drain_room 128 rings playhead w.levels c holds.1))

  module _ (playhead removal : SampleTime) where
    pub step_taken : {rings : Rings} {d : Drained} {l : Levels} {depths : List ℕ} → rings ≡ written_of w.rings w.levels.write removal c
        → d ≡ drain_of 128 rings playhead w.levels → l ≡ added_levels_of d.levels c → depths ≡ totals_of l.depth
        → ◌≡◌ {A = Pushed} (record { window = record { rings = rings; levels = l }; answer = Ok (record { depths = depths; underrun = d.underrun }) }) (stepped_of w playhead removal c)
    unfolding stepped_of
    step_taken p q r s = rw (s, r, q, p)

    module _ {a : Result Unit Refusal} (told : a ≡ answer_of w c) where
      pub push_refused : {refusal : Refusal} → a ≡ Err refusal → ◌≡◌ {A = Pushed} (record { window = w; answer = Err refusal }) (pushed_of w playhead removal c)
      unfolding pushed_of refused_of
      push_refused e = rw (← told, e)

      pub push_taken : {done : Unit} → a ≡ Ok done → {p : Pushed} → p ≡ stepped_of w playhead removal c → p ≡ pushed_of w playhead removal c
      unfolding pushed_of
      push_taken taken e = rw (← told, taken) e

pub levels_restarted : (l : Levels) {d : List Depth} {s : List SubstreamDepth} → d ≡ emptied_depths_of l.depth → s ≡ emptied_substreams_of l.substream
    → ◌≡◌ {A = Levels} (record { read = 0; write = 0; depth = d; substream = s }) (restarted_levels_of l)
unfolding restarted_levels_of
levels_restarted l p q = rw (p, q)
