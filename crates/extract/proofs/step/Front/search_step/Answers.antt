-- `Front::search_step` goes to the first candidate, or keeps what the rules keep.
use Rattle.extract.proofs.StepWays.{search_misses, found_in}
use Rattle.std.proofs.Common.{rules}
use Rattle.extract.proofs.step.Front.search_step.Goals as goal

pub returns-in_default : goal.returns-in_default
returns-in_default c = let s = c in search_misses s.args.self.stream s.args.self.unread.now s.requires {f = c.find.result} c.find.ensures (search rules) c.discarded-gone.ensures c.advance.ensures

pub at_candidate-requires : goal.at_candidate-requires
at_candidate-requires c = let s = c in found_in s.args.self.stream s.args.self.unread.now s.requires c.find.ensures c.in-Some.is s.args.self.fit
