-- Every accumulator and substream is emptied, and the slot numbers are 0.
use Rattle.std.proofs.Common.{rules}
use Rattle.std.proofs.lemmas.Grind.{common_steps}
use Rattle.window_rules.specs.Levels.{emptied_depths_of, emptied_substreams_of}
use Rattle.window.proofs.Whole.{levels_restarted}
use Rattle.window.proofs.every.restart_levels.Goals as goal

pub returns : goal.returns
unfolding emptied_depths_of emptied_substreams_of
returns c = levels_restarted _ (search (rules, common_steps)) (search (rules, common_steps))
