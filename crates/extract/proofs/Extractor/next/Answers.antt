-- `Extractor::next` tests number 1 first, then whether anything is unanswered.
use Rattle.extract.proofs.NextWays.{asks_not, asks_fit, asks_nothing, asks_on, some_unanswered}
use Rattle.std.proofs.Common.{rules}
use Rattle.extract.proofs.Extractor.next.Goals as goal

pub returns-then-not-fits : goal.returns-then-not-fits
returns-then-not-fits c = let a = c.args in asks_not a.self a.buf.now c.fits.ensures (search rules)

pub returns-then-self-eq0 : goal.returns-then-self-eq0
returns-then-self-eq0 c = let a = c.args in asks_nothing a.self a.buf.now c.fits.ensures (search rules) c.if-self-eq0.true

pub request-requires : goal.request-requires
request-requires c = let a = c.args in record { fits = asks_fit a.self a.buf.now c.fits.ensures (search rules); unanswered_nonzero = some_unanswered a.self.unanswered c.if-self-eq0.false }

pub returns : goal.returns
returns c = let a = c.args in asks_on a.self a.buf.now c.fits.ensures (search rules) c.if-self-eq0.false c.request.ensures
