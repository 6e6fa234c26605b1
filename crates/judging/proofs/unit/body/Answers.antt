-- The directory of any count ends within 1,084 bytes, 4 + 60 + 4 · 255.
use Rattle.judging.proofs.UnitWays.{place_bounded}
use Rattle.std.proofs.Common.{rules}
use Rattle.judging.proofs.unit.body.Goals as goal

pub closing-requires : goal.closing-requires
closing-requires c = place_bounded c.args.u.now c.args.count c.args.major c.args.skip c.requires.0 c.entries.ensures c.in_ok-entries.was (search rules) c.requires.1
