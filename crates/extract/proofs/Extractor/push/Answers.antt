-- `Extractor::push` makes the tests 1 to 4 in their order; the new end lies within the buffer, so no sum wraps.
use native.Mathlib.Omega.{arith}
use Rattle.buffer.specs.Laws.{placed_inside}
use Rattle.extract.proofs.PushWays.{fit_given, push_record, push_pushes, push_total, push_room, push_accepted}
use Rattle.std.proofs.Common.{rules, ◌≡◌, Some}
use Rattle.extract.proofs.Extractor.push.Goals as goal

pub returns-then-not-fits : goal.returns-then-not-fits
returns-then-not-fits c =
    let p = push_record c.args.self c.args.buf.now c.args.piece.now c.fits.ensures (search rules) in record { answer = p.0; holds = p.1 }

pub returns-then-self-ge65535 : goal.returns-then-self-ge65535
returns-then-self-ge65535 c =
    let f = fit_given c.args.self _ c.fits.ensures (search rules) in
    let p = push_pushes c.args.self c.args.buf.now c.args.piece.now f (omega arith) in record { answer = p.0; holds = p.1 }

pub overflow_sub-self : goal.overflow_sub-self
overflow_sub-self c = (fit_given c.args.self _ c.fits.ensures (search rules)).itself.total

pub returns-then-self-piece : goal.returns-then-self-piece
returns-then-self-piece c =
    let f = fit_given c.args.self _ c.fits.ensures (search rules) in
    let p = push_total c.args.self c.args.buf.now c.args.piece.now f (omega arith) (omega arith) in record { answer = p.0; holds = p.1 }

pub returns-in_err-start : goal.returns-in_err-start
returns-in_err-start c =
    let f = fit_given c.args.self _ c.fits.ensures (search rules) in
    let p = push_room c.args.self c.args.buf.now c.args.piece.now f (omega arith) (omega arith) c.place.ensures.answer c.place.ensures.holds (search rules) in let e = p.0 in record { answer = search rules; holds = p.1 }

pub overflow_sub-result : goal.overflow_sub-result
overflow_sub-result c = (fit_given c.args.self _ c.fits.ensures (search rules)).itself.order

pub overflow_add-result : goal.overflow_add-result
overflow_add-result c =
    let f = fit_given c.args.self _ c.fits.ensures (search rules) in
    let o = f.itself.order in let i = f.inside in
    let q : c.place.result ≡ Some c.in_ok-start.start = search rules in
    let l = placed_inside _ _ _ _ o i c.place.ensures.answer q in omega arith

pub overflow_add-result-2 : goal.overflow_add-result-2
overflow_add-result-2 c =
    let f = fit_given c.args.self _ c.fits.ensures (search rules) in
    let o = f.itself.order in let i = f.inside in
    let q : c.place.result ≡ Some c.in_ok-start.start = search rules in
    let l = placed_inside _ _ _ _ o i c.place.ensures.answer q in omega arith

pub returns : goal.returns
returns c =
    let f = fit_given c.args.self _ c.fits.ensures (search rules) in
    let p = push_accepted c.args.self c.args.buf.now c.args.piece.now f (omega arith) (omega arith) c.place.ensures.answer c.place.ensures.holds (search rules) in record { answer = p.0; holds = p.1 }
