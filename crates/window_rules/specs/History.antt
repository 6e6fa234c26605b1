-- "After any steps from fresh": steps and restarts, in any order, refused ones too.
use Rattle.std.specs.Prelude.{List, [], ◌∷◌}
use Rattle.kinds.specs.declared.SampleTime.{SampleTime}
use Rattle.window_rules.specs.Window.{pushed_of, restarted_of}
use Rattle.levels.specs.declared.Contribution.{Contribution}
use Rattle.window_rules.specs.declared.Window.{Window}

pub data Call : Type 0 where
  step : SampleTime → SampleTime → Contribution → Call
  restart : Call

-- the window that a call hands back
abbrev pub called : Window → Call → Window
called w (step playhead removal c) = (pushed_of w playhead removal c).window
called w restart = (restarted_of w).window

abbrev pub after : Window → List Call → Window
after w [] = w
after w (x ∷ xs) = after (called w x) xs
