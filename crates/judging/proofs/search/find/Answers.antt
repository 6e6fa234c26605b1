-- `search::find` looks at one place a turn. The invariant: the first of all places is the first of those that are left.
use Rattle.std.proofs.Common.{rules}
use Rattle.judging.proofs.SearchWays.{find_begins, none_left, found_here, found_later}
use Rattle.judging.proofs.search.find.Goals as goal

pub loop-i-init : goal.loop-i-init
loop-i-init c = (search rules, search (rules, find_begins))

pub loop-i-preserved : goal.loop-i-preserved
loop-i-preserved c = (search rules, search (rules, found_later))

pub returns-after-loop-i : goal.returns-after-loop-i
returns-after-loop-i c = search (rules, none_left)

pub returns-then-candidate_at : goal.returns-then-candidate_at
returns-then-candidate_at c = search (rules, found_here)
