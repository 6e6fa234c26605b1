-- `text::next_word` passes the spaces, then the word, and neither goes past the line's end.
use Rattle.std.proofs.Common.{rules, tests, not}
use Rattle.text.specs.Text.{space_at, word_from, word_to}
use Rattle.text.proofs.Stops.{stop_found, next_word_is}
use Rattle.text.proofs.next_word.Goals as goal

pub returns-clause-word : goal.returns-clause-word
unfolding word_from word_to
returns-clause-word c =
    let s = c.args.s.now in
    next_word_is s c.args.at c.args.end c.min-end.ensures
    (stop_found (λ i. not (space_at s i)) _ _ _ _ c.find.result c.find.ensures.ran (λ k b q l. search (rules, tests)) c.unwrap_or-from.ensures)
    (stop_found (space_at s) _ _ _ _ c.find-2.result c.find-2.ensures.ran (λ k b q l. search (rules, tests)) c.unwrap_or-to.ensures)
