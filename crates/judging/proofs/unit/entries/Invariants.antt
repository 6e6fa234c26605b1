-- `unit::entries` takes one entry a turn. The invariant: what the rule asks of all entries it asks of those that are left.
use Prim.Native.Nat.{◌-◌}
use mathlib.Core.Path.{◌≡◌}
use Rattle.machine.specs.Ask.{ask}
use Rattle.rules.specs.Request.{directory}
use Rattle.judging.proofs.unit.entries.Given as goal

abbrev pub invariant-loop : goal.invariant-loop
invariant-loop l = ask (directory l.count l.start l.first) l.u ≡ ask (directory (l.count - l.counter) l.walk.place l.walk.parity) l.u
