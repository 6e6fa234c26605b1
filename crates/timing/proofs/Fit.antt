-- A record that fits still fits after any call, so number 1 is never given to who starts from a fresh record.
use Rattle.std.proofs.Common.{◌≡◌, ℕ, ◌≤◌, Bool, true, List, [], ◌∷◌, arith}
use Rattle.std.proofs.lemmas.Bool.Decides.{nat_tests}
use Rattle.timing.specs.declared.TimingContext.{TimingContext}
use Rattle.timing.specs.declared.HiresOutputTimingState.{HiresOutputTimingState}
use Rattle.timing.specs.Timing.{counts_fit_of, fits_of, fresh_of, step_of, updated_of, reset_of, count_of, raised_of, after_one_of}
use Rattle.timing.specs.Timing.{state0_of, states1to4_of, state5_of, states6to10_of, states11to15_of, field_end_of}
use Rattle.timing.specs.Units.{Unit, after_of}

pub record Fit (r : HiresOutputTimingState) : Type 0 where
  pub state : r.state ≤ 15
  pub counter : r.counter ≤ 3
  pub bits : r.bits ≤ 65535

pub fit_says : (r : HiresOutputTimingState) → fits_of r ≡ true → Fit r
unfolding fits_of counts_fit_of
fit_says r e = grind (arith, nat_tests)

pub fit_holds : (r : HiresOutputTimingState) → Fit r → fits_of r ≡ true
unfolding fits_of counts_fit_of
fit_holds r f = grind (arith, nat_tests)

count_small : (bits n : ℕ) → count_of bits n ≤ 65535
count_small bits n = grind (arith, nat_tests)

raised_small : (counter : ℕ) → counter ≤ 3 → raised_of counter ≤ 3
raised_small counter h = grind (arith, nat_tests)

after_small : (state last : ℕ) → after_one_of state last ≤ 15
after_small state last = grind (arith, nat_tests)

module _ (r : HiresOutputTimingState) (f : Fit r) where
  end_fits : (samples : ℕ) → Fit (field_end_of r samples).next
  unfolding field_end_of
  end_fits samples = grind (arith, raised_small)

  step_fits : (ctx : TimingContext) (bit : Bool) → Fit (step_of r ctx bit).next
  unfolding step_of state0_of states1to4_of state5_of states6to10_of states11to15_of
  step_fits ctx bit = grind (arith, nat_tests, count_small, after_small, end_fits)

  pub update_fits : (ctx : TimingContext) (bit : Bool) → Fit (updated_of r ctx bit).next
  unfolding updated_of
  update_fits ctx bit = grind (arith, step_fits)

  pub reset_fits : Fit (reset_of r).next
  unfolding reset_of
  reset_fits = grind arith

pub fresh_fits : Fit fresh_of
unfolding fresh_of
fresh_fits = grind arith

pub after_fits : (r : HiresOutputTimingState) (us : List Unit) → Fit r → Fit (after_of r us)
unfolding after_of
after_fits r [] f = f
after_fits r (u ∷ us) f = after_fits (updated_of r u.about u.bit).next us (update_fits r f u.about u.bit)
