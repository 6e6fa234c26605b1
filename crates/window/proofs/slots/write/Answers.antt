-- At the end every ring is one that was written.
use Rattle.std.proofs.Common.{arith}
use Rattle.window.proofs.RingLaws.{all_written}
use Rattle.window.proofs.slots.write.Goals as goal

pub returns : goal.returns
returns g c = all_written _ _ _ _ c.loop-k.invariant.0 (λ k h. c.loop-k.invariant.1 k (omega arith))
