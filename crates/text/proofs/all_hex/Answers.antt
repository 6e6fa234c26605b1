-- `text::all_hex` asks `is_ascii_hexdigit` of each byte.
use Rattle.std.proofs.Common.{rules, ◌∙◌}
use Rattle.std.specs.Char.{is_ascii_hexdigit}
use Rattle.std.proofs.lemmas.Iterator.{YieldsList-from_slice}
use Rattle.std.proofs.lemmas.Iterator.Search.{all_from_yields_List}
use Rattle.text.proofs.Pairs.{all_is}
use Rattle.text.proofs.all_hex.Goals as goal

pub returns : goal.returns
returns c =
    all_from_yields_List is_ascii_hexdigit _ _ _ c.all.ensures.ran (YieldsList-from_slice c.args.s.now c.iter.ensures.rest) (λ x b q k. search rules) ∙ all_is c.args.s.now
