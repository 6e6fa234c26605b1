-- `search::find` has no place yet, and looks for the first of those that are left.
use Rattle.std.proofs.Common.{◌≡◌, ◌-◌, length, None}
use Rattle.laws.specs.First.{first_from}
use Rattle.rules.specs.Search.{candidate_at, find as findIn}
use Rattle.judging.proofs.search.find.Given as goal

abbrev pub invariant-loop-i : goal.invariant-loop-i
invariant-loop-i l = (l.place ≡ None) × (findIn l.u ≡ first_from (candidate_at l.u) l.i (length l.u - 7 - l.i))
