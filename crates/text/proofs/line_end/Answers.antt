-- `text::line_end` looks at one byte a turn, up to the first line feed.
use Rattle.std.proofs.Common.{rules, tests}
use Rattle.text.specs.Text.{line_end_of, feed_at}
use Rattle.text.proofs.Stops.{stop_found}
use Rattle.text.proofs.line_end.Goals as goal

pub returns-clause-place : goal.returns-clause-place
unfolding line_end_of
returns-clause-place c =
    stop_found (feed_at c.args.s.now) _ _ _ _ c.find.result c.find.ensures.ran (λ k b q l. search (rules, tests)) c.unwrap_or.ensures
