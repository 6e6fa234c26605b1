-- `Extractor::request` is the rules' request. The invariant: it will answer what it would have answered at its beginning; a quiet step makes the rules' size less.
use Rattle.rules.specs.Request.{size_of}
use Rattle.extract.proofs.NextWays.{Going, between}
use Rattle.extract.proofs.Extractor.request.Given as goal

abbrev pub invariant-request : goal.invariant-request
invariant-request l = Going l.self l.buf l.stream l.at

abbrev pub decreases-request : goal.decreases-request
decreases-request l = size_of l.stream (between l.buf l.at l.self.end)
