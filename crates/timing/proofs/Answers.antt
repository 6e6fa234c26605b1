-- What a step answers, as one equation, and that number 1 is given exactly to a record that doesn't fit: read off the definition, test by test.
use Rattle.std.proofs.Common.{◌≡◌, Bool, false, Some, None, Ok, Err, eqb, arith}
use Rattle.std.proofs.lemmas.Bool.Decides.{nat_tests}
use Rattle.laws.specs.Pick.{pick}
use Rattle.timing.specs.declared.TimingContext.{TimingContext}
use Rattle.timing.specs.declared.HiresOutputTimingState.{HiresOutputTimingState}
use Rattle.timing.specs.Timing.{fits_of, step_of, updated_of, reset_of, raised_of, start_of, unfit}
use Rattle.timing.specs.Timing.{states11to15_of, field_end_of}
use Rattle.timing.specs.Numbers.{Answer, number_of}

-- does this bit end the first field since the counter was cleared?
abbrev pub ends_first : HiresOutputTimingState → Bool → Bool
ends_first r bit = pick bit false (pick (eqb r.state 15) (eqb (raised_of r.counter) 1) false)

module _ (r : HiresOutputTimingState) (ctx : TimingContext) (bit : Bool) where
  abbrev pub due : Answer
  due = pick (ends_first r bit) (Ok (Some (start_of r.field ctx.samples))) (Ok None)

  answer_of_step : (step_of r ctx bit).answer ≡ due
  unfolding step_of states11to15_of field_end_of
  answer_of_step = grind (arith, nat_tests)

  -- "Counter 1: start = ..": a step of a record that fits answers the start exactly where a bit 0 in state 15 ends a field that makes the
  -- counter 1, and nothing at any other step: never while a field's bits are read.
  pub update_answers : (updated_of r ctx bit).answer ≡ pick (fits_of r) due (Err unfit)
  unfolding updated_of
  update_answers = grind (arith, answer_of_step)

  -- number 1 exactly where the record doesn't fit
  pub update_number : number_of (updated_of r ctx bit).answer ≡ pick (fits_of r) 0 1
  update_number = grind (arith, update_answers)

  -- and then the record is unchanged
  pub update_unchanged : fits_of r ≡ false → (updated_of r ctx bit).next ≡ r
  unfolding updated_of
  update_unchanged e = grind arith

pub reset_number : (r : HiresOutputTimingState) → number_of (reset_of r).answer ≡ pick (fits_of r) 0 1
unfolding reset_of
reset_number r = grind arith

pub reset_unchanged : (r : HiresOutputTimingState) → fits_of r ≡ false → (reset_of r).next ≡ r
unfolding reset_of
reset_unchanged r e = grind arith
