-- A piece is refused by its number, or its lines are written.
use Rattle.reporting.proofs.Ways.{piece_refused, piece_accepted}
use Rattle.std.proofs.Common.{rules}
use Rattle.reporting.proofs.report_piece.Goals as goal

pub returns-in_err-pushed : goal.returns-in_err-pushed
returns-in_err-pushed g c =
    let a = c.args in let p = c.push_bytes-pushed.ensures in
    record { says = piece_refused a.reader a.buf.now a.piece.now a.out.now p.answer c.in_err-pushed.was (search rules); holds = p.holds }

pub returns : goal.returns
returns g c =
    let a = c.args in let p = c.push_bytes-pushed.ensures in
    record { says = piece_accepted a.reader a.buf.now a.piece.now a.out.now p.answer c.in_ok-pushed.was p.holds c.write_lines.result c.write_lines.ensures; holds = p.holds }
