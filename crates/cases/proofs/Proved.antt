-- The table is right, row by row: one test that is computed over the whole of it, and one law that turns it into each case.
use Rattle.std.specs.Prelude.{ℕ, ◌<◌, ◌≡◌, refl, List, [], ◌∷◌, T, eqb, length, get_or}
use Rattle.std.proofs.Common.{ap₂, eqb→eq}
use Rattle.laws.specs.First.{first_from}
use Rattle.laws.specs.Table.{every, both_pass, at_each}
use Rattle.machine.specs.Loop.{within, looped}
use Rattle.machine.specs.Scan.{onward, request}
use Rattle.machine.specs.Ask.{ask, arrived, decide, moved, settle}
use Rattle.timestamp.specs.Timestamp.{bcd_of, rate_of, stamp_of, fields_of, parse_of}
use Rattle.rules.specs.Search.{candidate_at, find, stamp_at, sync_length, unit_length, checks, candidate}
use Rattle.rules.specs.Request.{directory, closing, body, unit, raise, act, search, step_by, size_of}
use Rattle.timing.specs.Timing.{fresh_of, counts_fit_of, fits_of, step_of, updated_of, start_of, elapsed_of, continues_of, state0_of, states1to4_of, state5_of, states6to10_of, states11to15_of, field_end_of}
use Rattle.timing.specs.Units.{answers_of, units_from}
use Rattle.cases.specs.Cases.{Row, outcome_of, table, same, right}
use Rattle.window_rules.specs.Depth.{sampled_of, left_of, added_of, sampled_substream_of, left_substream_of, added_substream_of}
use Rattle.levels.specs.Index.{every as everyIndex}
use Rattle.window_rules.specs.Index.{highest}
use Rattle.window_rules.specs.Levels.{each_depth, each_substream, drained_of, underrun_of, added_levels_of, totals_of, fresh_levels_of}
use Rattle.levels.specs.Questions.{held_of, buffered_of}
use Rattle.levels.specs.Numbers as Numbers
use Rattle.window_rules.specs.Rings.{fresh_rings_of, written_each, written_of, each_at}
use Rattle.window_rules.specs.Window as Window

right_table : T (every right 0 table)
unfolding table same outcome_of first_from within looped onward request ask arrived decide moved settle bcd_of rate_of stamp_of fields_of parse_of candidate_at find stamp_at sync_length unit_length checks candidate directory closing body unit raise act search step_by size_of fresh_of counts_fit_of fits_of step_of updated_of start_of elapsed_of continues_of state0_of states1to4_of state5_of states6to10_of states11to15_of field_end_of answers_of units_from sampled_of left_of added_of sampled_substream_of left_substream_of added_substream_of everyIndex highest each_depth each_substream drained_of underrun_of added_levels_of totals_of held_of fresh_levels_of Numbers.depth_fits Numbers.depths_fit Numbers.substreams_fit Numbers.fits_of Numbers.all_small Numbers.small_of Numbers.room_at Numbers.depth_room Numbers.depths_room Numbers.substreams_room Numbers.room_of fresh_rings_of written_each written_of each_at Window.fresh_of Window.drain_of Window.stepped_of Window.refused_of Window.answer_of Window.pushed_of buffered_of
right_table = tt

same_lists : (xs ys : List ℕ) → T (same xs ys) → xs ≡ ys
unfolding same
same_lists [] [] t = refl
same_lists [] (y ∷ ys) t = absurd t
same_lists (x ∷ xs) [] t = absurd t
same_lists (x ∷ xs) (y ∷ ys) t = ap₂ (λ a b. a ∷ b) (eqb→eq x y (both_pass (eqb x y) (same xs ys) t).0) (same_lists xs ys (both_pass (eqb x y) (same xs ys) t).1)

-- EACH CASE: what document 01 says of the k-th row is what the definitions give.
pub each_case : (k : ℕ) → k < length table → (d : Row) → outcome_of (get_or table k d).case ≡ (get_or table k d).outcome
each_case k h d = same_lists _ _ (at_each d right table right_table k h)
