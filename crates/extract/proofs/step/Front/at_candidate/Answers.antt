-- `Front::at_candidate` consumes what precedes the candidate, puts the rules' question and does what its verdict says.
use Rattle.extract.proofs.StepWays.{search_waits, search_ready, search_acts}
use Rattle.std.proofs.Common.{rules}
use Rattle.extract.proofs.step.Front.at_candidate.Goals as goal

pub returns-in_default : goal.returns-in_default
returns-in_default c = let s = c in search_waits s.args.n s.args.self.stream s.args.self.unread.now s.requires c.stamp_at.ensures c.arrive-at.ensures c.candidate.result c.candidate.ensures (search rules)

pub act-requires : goal.act-requires
act-requires c = let s = c in search_ready s.args.n s.args.self.stream s.args.self.unread.now s.requires c.stamp_at.ensures c.arrive-at.ensures c.candidate.result c.candidate.ensures c.in-Some.is

pub returns : goal.returns
returns c = let s = c in search_acts s.args.n s.args.self.stream s.args.self.unread.now s.requires c.stamp_at.ensures c.arrive-at.ensures c.candidate.result c.candidate.ensures c.in-Some.is c.act.ensures
