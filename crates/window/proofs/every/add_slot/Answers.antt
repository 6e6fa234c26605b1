use Rattle.std.proofs.Common.{rules}
use Rattle.std.proofs.iter.Serving.{serving}
use Rattle.levels.specs.NumberLaws.{depth_has_room, substream_has_room, room_of_depths, room_of_substreams}
use Rattle.window.proofs.every.add_slot.Goals as goal

pub from_fn-requires : goal.from_fn-requires
from_fn-requires c = search (serving, rules, room_of_depths, depth_has_room)

pub from_fn-requires-2 : goal.from_fn-requires-2
from_fn-requires-2 c = grind (serving, room_of_substreams, substream_has_room)
