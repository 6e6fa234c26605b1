-- `text::hex_bytes` writes one byte a turn; the invariant says how far it has come.
use Rattle.std.proofs.Common.{◌≡◌}
use Rattle.std.proofs.Math.Seq.{paste}
use Rattle.text.specs.Numbers.{pairs_of}
use Rattle.text.proofs.hex_bytes.Given as goal

abbrev pub invariant-loop-i : goal.invariant-loop-i
invariant-loop-i l = l.out ≡ paste l.initial.out 0 (pairs_of l.s) l.i
