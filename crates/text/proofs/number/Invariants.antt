-- `text::number` adds a digit a turn. The invariant: the number is what the digits from here on write behind what is read, and that is as small as so
-- few digits are.
use Rattle.std.proofs.Common.{◌≡◌, ◌^◌, ◌<◌, drop}
use Rattle.std.specs.Char.{digit_value}
use Rattle.text.specs.Numbers.{value_from, number_of}
use Rattle.text.proofs.number.Given as goal

abbrev pub invariant-loop-b : goal.invariant-loop-b
invariant-loop-b g l =
    record {
      same : number_of digit_value g.row.RADIX g.row.MOST l.s ≡ value_from digit_value g.row.RADIX l.n (drop l.b-index l.s);
      small : l.n < g.row.RADIX ^ l.b-index;
    }
