-- The whole drain is what is left to drain from here; each turn is one turn of the definition.
use Rattle.std.proofs.Common.{◌≡◌, ◌<◌, ◌-◌}
use Rattle.window_rules.specs.Window.{drain_of}
use Rattle.window.proofs.slots.drain.Given as goal

abbrev pub invariant-loop : goal.invariant-loop
invariant-loop l = (l.levels.read < 128) × (drain_of 128 l.rings l.playhead l.initial.levels ≡ drain_of (128 - l.counter) l.rings l.playhead l.levels)
