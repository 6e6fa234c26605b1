-- The lines so far are put on the page that was lent, and what the whole comes to is what is left to gather.
use Rattle.std.specs.Prelude.{◌≡◌, ◌-◌}
use Rattle.lines.specs.Gather.{gathered_on, gathers}
use Rattle.lines.proofs.GatherWays.{Same, sheet_of}
use Rattle.lines.proofs.put_requests.Given as goal

abbrev pub invariant-loop : goal.invariant-loop
invariant-loop l = Same l.initial.page l.page × (gathered_on l.initial.reader l.buf l.initial.page ≡ gathers (65536 - l.counter) l.reader l.buf (sheet_of l.page))
