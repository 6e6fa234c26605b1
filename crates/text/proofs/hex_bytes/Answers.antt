-- `text::hex_bytes` writes the byte of a pair a turn.
use Rattle.std.proofs.Common.{rules, ◌/◌, length, arith}
use Rattle.text.proofs.Pairs.{digits_at, pair_written}
use Rattle.text.proofs.hex_bytes.Goals as goal

-- each byte was found to be a digit
pub hex_byte-requires : goal.hex_byte-requires
hex_byte-requires c =
    rw c.as_chunks.ensures.front
    (digits_at c.args.s.now (length c.args.s.now / 2) c.loop-i.i (omega arith) (omega arith) (search rules))

pub loop-i-preserved : goal.loop-i-preserved
loop-i-preserved c =
    let s = c.args.s.now in
    pair_written c.args.out.now c.loop-i.out s (length s / 2) c.loop-i.i (omega arith) (omega arith) (omega arith) c.loop-i.invariant
    (rw c.as_chunks.ensures.front at c.hex_byte.ensures)
