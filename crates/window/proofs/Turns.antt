-- The drain, one turn at a time.
use Rattle.std.specs.Prelude.{ℕ, suc, ◌+◌, ◌-◌, ◌≤◌, ◌<◌, ◌≡◌, Bool, true, false, Option, None, Some, is_some, refl}
use Rattle.std.proofs.Common.{arith, sym, ap, ◌∙◌, mod-lt}
use Rattle.laws.specs.Turns.{one_left}
use Rattle.kinds.specs.declared.SampleTime.{SampleTime}
use Rattle.window_rules.specs.Levels.{drained_of, underrun_of}
use Rattle.window_rules.specs.Rings.{contribution_at}
use Rattle.window_rules.specs.Window.{after_slot, passed_at, drain_of}
use Rattle.levels.specs.declared.Contribution.{Contribution}
use Rattle.levels.specs.declared.Levels.{Levels}
use Rattle.window_rules.specs.declared.Rings.{Rings}
use Rattle.window_rules.specs.declared.Drained.{Drained}

pub slot_read : (l : Levels) (c : Contribution) {m : Levels} → m ≡ drained_of l c → m.read < 128
unfolding drained_of
slot_read l c e = rw e (mod-lt (l.read + 1) (omega arith))

stops : (u : Option ℕ) → is_some u ≡ true → (m : Levels) (next : Drained) → ◌≡◌ {A = Drained} (after_slot u m next) (record { levels = m; underrun = u })
stops None h m next = cc
stops (Some k) h m next = refl

goes_on : (u : Option ℕ) → is_some u ≡ false → (m : Levels) (next : Drained) → after_slot u m next ≡ next
goes_on None h m next = refl
goes_on (Some k) h m next = cc

module _ {whole : Drained} (turns : ℕ) (rings : Rings) (playhead : SampleTime) (l : Levels) (same : whole ≡ drain_of (128 - turns) rings playhead l) where
  pub drain_end : 128 ≤ turns → ◌≡◌ {A = Drained} (record { levels = l; underrun = None }) whole
  unfolding drain_of
  drain_end h = let none_left : 128 - turns ≡ 0 = omega arith in sym (same ∙ rw none_left)

  module _ (more : turns < 128) {t : Bool} (p : t ≡ passed_at rings playhead l) where
    turn : whole ≡ drain_of (suc (128 - (turns + 1))) rings playhead l
    turn = same ∙ ap (λ (k : ℕ). drain_of k rings playhead l) (one_left turns 128 more)

    pub drain_stop : t ≡ false → ◌≡◌ {A = Drained} (record { levels = l; underrun = None }) whole
    unfolding drain_of
    drain_stop h = sym (turn ∙ rw (← p, h))

    module _ (yes : t ≡ true) {c : Contribution} (q : c ≡ contribution_at rings l.read) {u : Option ℕ} (r : u ≡ underrun_of l.depth c)
        {m : Levels} (s : m ≡ drained_of l c) where
      pub drain_under : {b : Bool} → b ≡ is_some u → b ≡ true → ◌≡◌ {A = Drained} (record { levels = m; underrun = u }) whole
      unfolding drain_of
      drain_under e h = sym (turn ∙ rw (← p, yes, ← q, ← r, ← s) (stops u (sym e ∙ h) m (drain_of (128 - (turns + 1)) rings playhead m)))

      pub drain_on : is_some u ≡ false → whole ≡ drain_of (128 - (turns + 1)) rings playhead m
      unfolding drain_of
      drain_on h = turn ∙ rw (← p, yes, ← q, ← r, ← s) (goes_on u h m (drain_of (128 - (turns + 1)) rings playhead m))
