-- A step is taken exactly where the tests let it through, and what they refuse is handed back as it was.
use Rattle.window.proofs.Whole.{let_through, push_refused, push_taken}
use Rattle.window.proofs.push.Goals as goal

pub step-requires : goal.step-requires
step-requires c = let_through _ _ c.check.ensures c.in-Ok.is

pub returns-in-Ok : goal.returns-in-Ok
returns-in-Ok c = push_taken _ _ _ _ c.check.ensures c.in-Ok.is c.step.ensures

pub returns-in-Err : goal.returns-in-Err
returns-in-Err c = push_refused _ _ _ _ c.check.ensures c.in-Err.is
