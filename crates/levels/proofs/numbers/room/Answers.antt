-- The two tests are the definition's own, one after the other.
use Rattle.std.proofs.Common.{rules, ◌∙◌}
use Rattle.laws.specs.Pick.{and_on, and_off}
use Rattle.levels.proofs.Conditions.{depths_room_each, substreams_room_each}
use Rattle.levels.specs.Numbers.{room_of}
use Rattle.levels.proofs.numbers.room.Goals as goal

pub returns-then-depths_room : goal.returns-then-depths_room
unfolding room_of
returns-then-depths_room c =
    let l = c.args.levels in
    let x = c.args.contribution in
    and_on _ (c.depths_room.ensures ∙ depths_room_each x l.depth (search rules) (search rules) (search rules)) c.if-depths_room.true
    (c.substreams_room.ensures ∙ substreams_room_each x l.substream (search rules) (search rules))

pub returns-else-depths_room : goal.returns-else-depths_room
unfolding room_of
returns-else-depths_room c = let x = c.args.contribution in let l = c.args.levels in
    c.if-depths_room.false ∙ and_off _ (c.depths_room.ensures ∙ depths_room_each x l.depth (search rules) (search rules) (search rules)) c.if-depths_room.false
