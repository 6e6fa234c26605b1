-- `Extractor::request` is the rules' request. The invariant: it will answer what it would have answered at its beginning; a quiet step makes the rules' size less.
use native.Mathlib.Omega.{arith}
use Rattle.extract.proofs.NextWays.{going_begins, step_fit, stays_inside, going_on, going_less, ends_dry, handed_before, ends_handed, ends_short, ends_failed}
use Rattle.std.proofs.Common.{rules}
use Rattle.extract.proofs.Extractor.request.Goals as goal

pub request-init : goal.request-init
request-init c = let a = c.args in going_begins a.self a.buf.now c.requires.fits

pub overflow_add-at : goal.overflow_add-at
overflow_add-at c = omega (arith, let a = c.args in let l = c.request in stays_inside a.self a.buf.now l.stream l.at l.invariant c.step-stepped.ensures)

pub request-smaller : goal.request-smaller
request-smaller c = let a = c.args in let l = c.request in going_less a.self a.buf.now l.stream l.at l.invariant c.step-stepped.ensures (search rules)

pub request-preserved : goal.request-preserved
request-preserved c = let a = c.args in let l = c.request in going_on a.self a.buf.now l.stream l.at l.invariant c.step-stepped.ensures (search rules)

pub returns-in-Dry : goal.returns-in-Dry
returns-in-Dry c = let a = c.args in let l = c.request in ends_dry a.self a.buf.now l.stream l.at l.invariant c.step-stepped.ensures (search rules) c.dry.ensures

pub overflow_sub-start : goal.overflow_sub-start
overflow_sub-start c = let a = c.args in let l = c.request in rw c.from.ensures (handed_before a.self a.buf.now l.stream l.at l.invariant c.step-stepped.ensures c.in-Handed.is)

pub returns-in-Handed : goal.returns-in-Handed
returns-in-Handed c = let a = c.args in let l = c.request in ends_handed a.self a.buf.now l.stream l.at l.invariant c.step-stepped.ensures c.in-Handed.is (rw c.from.ensures at c.spoken.ensures)

pub returns-in-TooShort : goal.returns-in-TooShort
returns-in-TooShort c = let a = c.args in let l = c.request in ends_short a.self a.buf.now l.stream l.at l.invariant c.step-stepped.ensures c.in-TooShort.is c.spoken-in-TooShort.ensures

pub returns-in-Failed : goal.returns-in-Failed
returns-in-Failed c = let a = c.args in let l = c.request in ends_failed a.self a.buf.now l.stream l.at l.invariant c.step-stepped.ensures (search rules) c.spoken-in-Failed.ensures
