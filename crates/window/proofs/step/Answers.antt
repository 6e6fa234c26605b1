-- A step that is accepted is the definition's, and what room there was before the drain is there after it.
use Rattle.window.proofs.Whole.{step_taken, reads_a_slot, writes_a_slot, drained_has_room}
use Rattle.window.proofs.step.Goals as goal

pub invariant_of-slot : goal.invariant_of-slot
invariant_of-slot c = record { below = writes_a_slot c.args.window _ c.requires }

pub drain-drained-requires : goal.drain-drained-requires
drain-drained-requires c = reads_a_slot c.args.window _ c.requires

pub add_slot-levels-requires : goal.add_slot-levels-requires
add_slot-levels-requires c = drained_has_room c.args.window _ c.requires _ _ c.drain-drained.ensures

pub returns : goal.returns
returns c = step_taken c.args.window _ _ _ c.write_slot-rings.ensures c.drain-drained.ensures c.add_slot-levels.ensures c.totals.ensures
