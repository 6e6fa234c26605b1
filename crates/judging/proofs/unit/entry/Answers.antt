-- `unit::entry` with its first bit one: four bytes that are there.
use Rattle.judging.proofs.UnitWays.{entry_of_four}
use Rattle.std.proofs.Common.{rules}
use Rattle.judging.proofs.unit.entry.Goals as goal

pub returns : goal.returns
returns c = search (rules, entry_of_four)
