-- What a call shows by whether its words could be read: they fit, or they don't.
use Rattle.std.proofs.Common.{◌≡◌, ◌<◌, arith, Bool, true, false, List, ℕ, None, Ok, Err}
use Rattle.std.proofs.lemmas.Bool.Decides.{nat_tests}
use Rattle.timing.specs.declared.TimingContext.{TimingContext}
use Rattle.timing.specs.declared.HiresOutputTimingState.{HiresOutputTimingState}
use Rattle.timing.specs.declared.RecordDoesNotFit.{RecordDoesNotFit}
use Rattle.timing.specs.declared.Updated.{Updated}
use Rattle.timing.specs.Timing.{fits_of, step_of, updated_of, reset_of, unfit}
use Rattle.timing.specs.Timing.{state0_of, states1to4_of, state5_of, states6to10_of, states11to15_of, field_end_of}
use Rattle.timing_exports.specs.Flat.{record_of, unfaulted, read_of, words_of}
use Rattle.timing_exports.specs.Calls.{left_by}
use Rattle.timing_exports.specs.FlatLaws.{left_unchanged, update_refused, reset_refused}

-- below state 15 no field ends: nothing is answered, and the previous field stays
record Unended (r : HiresOutputTimingState) (u : Updated) : Type 0 where
  pub silent : u.answer ≡ Ok None
  pub stays : u.next.previous ≡ r.previous

module _ (r : HiresOutputTimingState) (below : r.state < 15) (ctx : TimingContext) (bit : Bool) where
  step_unended : Unended r (step_of r ctx bit)
  unfolding step_of state0_of states1to4_of state5_of states6to10_of states11to15_of
  step_unended = grind (arith, nat_tests)

  update_unended : fits_of r ≡ true → Unended r (updated_of r ctx bit)
  unfolding updated_of
  update_unended e = grind (arith, step_unended)

-- words that are read fit, and the library's call doesn't ask what the fault was
module _ (w : List ℕ) {r : HiresOutputTimingState} (e : Ok r ≡ read_of w) where
  read : (fits_of (record_of w) ≡ true) × (r ≡ unfaulted (record_of w))
  unfolding read_of
  read = grind arith

  pub read_steps : (ctx : TimingContext) (bit : Bool) → updated_of r ctx bit ≡ updated_of (record_of w) ctx bit
  unfolding updated_of fits_of step_of state0_of states1to4_of state5_of states6to10_of states11to15_of field_end_of
  read_steps ctx bit = rw (read.1, read.0)

  pub read_resets : reset_of r ≡ reset_of (record_of w)
  unfolding reset_of fits_of
  read_resets = rw (read.1, read.0)

  pub read_leaves : (u : Updated) → left_by w u ≡ words_of u.next
  unfolding left_by
  read_leaves u = rw read.0

  read_fits : fits_of r ≡ true
  unfolding fits_of
  read_fits = rw read.1 read.0

  module _ (below : r.state < 15) (ctx : TimingContext) (bit : Bool) where
    pub read_answers : (updated_of r ctx bit).answer ≡ Ok None
    read_answers = (update_unended r below ctx bit read_fits).silent

    pub read_keeps : (updated_of r ctx bit).next.previous ≡ r.previous
    read_keeps = (update_unended r below ctx bit read_fits).stays

-- words that are not read don't fit: number 1, unchanged
module _ (w : List ℕ) {refusal : RecordDoesNotFit} (e : Err refusal ≡ read_of w) where
  unread : false ≡ fits_of (record_of w)
  unfolding read_of
  unread = grind arith

  pub unread_steps : (ctx : TimingContext) (bit : Bool) → (updated_of (record_of w) ctx bit).answer ≡ Err unfit
  unread_steps = update_refused w unread

  pub unread_resets : (reset_of (record_of w)).answer ≡ Err unfit
  unread_resets = reset_refused w unread

  pub unread_leaves : (u : Updated) → left_by w u ≡ w
  unread_leaves = left_unchanged w unread

-- all that a step and a reset show
pub ruleset steps = (read_steps, read_leaves, read_answers, read_keeps, unread_steps, unread_leaves)

pub ruleset resets = (read_resets, read_leaves, unread_resets, unread_leaves)
