-- The whole drain is what is left to drain from here; each turn is one turn of the definition.
use Rattle.std.proofs.Common.{rules, arith, refl, ◌<◌}
use Rattle.window.proofs.Turns.{drain_end, drain_stop, drain_under, drain_on, slot_read}
use Rattle.window.proofs.slots.drain.Goals as goal

pub loop-init : goal.loop-init
loop-init c = (search rules, refl)

pub returns-then-is_some : goal.returns-then-is_some
returns-then-is_some c = let more : c.loop.counter < 128 = omega arith in search (rules, drain_under)

pub loop-preserved : goal.loop-preserved
loop-preserved c = let more : c.loop.counter < 128 = omega arith in (search (rules, slot_read), search (rules, drain_on))

pub returns-after-loop : goal.returns-after-loop
returns-after-loop c = search (rules, drain_end)

pub returns-then-not-passed : goal.returns-then-not-passed
returns-then-not-passed c = let more : c.loop.counter < 128 = omega arith in search (rules, drain_stop)
