-- `Front::locked_step` puts the rules' question and does what its verdict says.
use Rattle.extract.proofs.StepWays.{locked_waits, locked_ready, locked_acts}
use Rattle.std.proofs.Common.{rules}
use Rattle.extract.proofs.step.Front.locked_step.Goals as goal

pub returns-in_default : goal.returns-in_default
returns-in_default c = let s = c in locked_waits s.args.self.stream s.args.self.unread.now s.requires {j = c.unit.result} c.unit.ensures (search rules)

pub act-requires : goal.act-requires
act-requires c = let s = c in locked_ready s.args.self.stream s.args.self.unread.now s.requires c.unit.ensures c.in-Some.is s.args.self.fit

pub returns : goal.returns
returns c = let s = c in locked_acts s.args.self.stream s.args.self.unread.now s.requires c.unit.ensures c.in-Some.is s.args.self.fit.few c.act.ensures
