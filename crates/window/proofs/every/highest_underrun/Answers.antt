-- The search goes from the top, so the first that it finds is the highest.
use Rattle.std.proofs.Common.{rules, ◌∙◌, ltb, get_or, sym}
use Rattle.std.proofs.lemmas.Iterator.Search.{find_from_yields_List}
use Rattle.std.proofs.lemmas.Iterator.Adapters.{option_map_id}
use borrow.Author.Tests.{tests}
use Rattle.levels.specs.Levels.{depth_at}
use Rattle.window_rules.specs.Levels.{underrun_of}
use Rattle.window.proofs.Index.{down_from, first_is_highest}
use Rattle.window.proofs.every.highest_underrun.Goals as goal

pub returns : goal.returns
unfolding underrun_of
returns c =
    sym (option_map_id c.find.result)
    ∙ find_from_yields_List (λ k. ltb (depth_at c.args.depth k).total (get_or c.args.contribution.total k 0)) _ _ c.find.result c.find.ensures.ran (down_from 5 c.rev.ensures.source) (λ x b q k. search (rules, tests))
    ∙ first_is_highest _ 5
