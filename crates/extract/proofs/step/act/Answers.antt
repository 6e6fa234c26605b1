-- `step::act` does what the rules do, case by case.
use Rattle.extract.proofs.StepWays.{does_lock, does_lose}
use Rattle.std.proofs.Common.{rules}
use Rattle.extract.proofs.step.act.Goals as goal

pub returns-in-Lock : goal.returns-in-Lock
returns-in-Lock c = search (rules, does_lock)

pub returns-in-Lost : goal.returns-in-Lost
returns-in-Lost c = search (rules, does_lose)
