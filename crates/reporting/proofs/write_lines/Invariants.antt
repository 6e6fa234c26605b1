-- What is left to write is the whole, a gathering at a time.
use Prim.Native.Nat.{◌-◌}
use mathlib.Core.Path.{◌≡◌}
use Rattle.reporting.specs.Reports.{wrote_of}
use Rattle.reporting.proofs.write_lines.Given as goal

abbrev pub invariant-loop : goal.invariant-loop
invariant-loop g l = wrote_of 18446744073709551615 l.initial.reader l.buf l.initial.out ≡ wrote_of (18446744073709551615 - l.counter) l.reader l.buf l.out
