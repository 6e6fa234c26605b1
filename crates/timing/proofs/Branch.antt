-- After a branch reset the first field that ends gives a start: the counter is 0 until then, and at counter 0 no field is held to another.
use Rattle.std.proofs.Common.{◌≡◌, ℕ, Bool, true, false, Option, Some, None, Ok, Err, List, [], ◌∷◌, arith}
use Rattle.std.proofs.lemmas.Bool.Decides.{nat_tests}
use Rattle.laws.specs.Pick.{pick, both}
use Rattle.timing.specs.declared.TimingContext.{TimingContext}
use Rattle.timing.specs.declared.HiresTimingFault.{HiresTimingFault}
use Rattle.timing.specs.declared.HiresTimingFault.TheVariants.{ExtraZeroAfterEnd, ExtraZeroInField, InvalidZeroInField, Sequence}
use Rattle.timing.specs.declared.HiresOutputTimingState.{HiresOutputTimingState}
use Rattle.timing.specs.declared.Updated.{Updated}
use Rattle.timing.specs.Timing.{fits_of, step_of, updated_of, reset_of, start_of, ended_at}
use Rattle.timing.specs.Timing.{state0_of, states1to4_of, state5_of, states6to10_of, states11to15_of, field_end_of}
use Rattle.timing.specs.Numbers.{Answer}
use Rattle.timing.specs.Units.{Unit, after_of, answers_of}
use Rattle.timing.proofs.Fit.{Fit, fit_says, fit_holds, update_fits, reset_fits, after_fits}

abbrev pub is_sequence : Option HiresTimingFault → Bool
is_sequence None = false
is_sequence (Some (ExtraZeroAfterEnd unit)) = false
is_sequence (Some (ExtraZeroInField unit)) = false
is_sequence (Some (InvalidZeroInField unit)) = false
is_sequence (Some (Sequence timing unit previous-timing previous-unit)) = true

-- were all units answered nothing?
abbrev pub is_nothing : Answer → Bool
is_nothing (Ok None) = true
is_nothing (Ok (Some start)) = false
is_nothing (Err refusal) = false

unfoldable pub all_nothing : List Answer → Bool
all_nothing [] = true
all_nothing (a ∷ rest) = pick (is_nothing a) (all_nothing rest) false

-- a step that leaves no Sequence fault, and the counter at 0 unless it answers a start
record Clear (u : Updated) : Type 0 where
  pub unbroken : is_sequence u.next.fault ≡ false
  pub waits : is_nothing u.answer ≡ true → u.next.counter ≡ 0

module _ (r : HiresOutputTimingState) (z : r.counter ≡ 0) where
  -- at counter 0 a field's end is a start
  pub end_starts : (samples : ℕ)
      → ◌≡◌ {A = Updated} (field_end_of r samples) (record { next = ended_at 1 r; answer = Ok (Some (start_of r.field samples)) })
  unfolding field_end_of
  end_starts samples = simp z

  step_clear : (ctx : TimingContext) (bit : Bool) → Clear (step_of r ctx bit)
  unfolding step_of state0_of states1to4_of state5_of states6to10_of states11to15_of
  step_clear ctx bit = grind (arith, nat_tests, end_starts)

  update_clear : Fit r → (ctx : TimingContext) (bit : Bool) → Clear (updated_of r ctx bit)
  unfolding updated_of
  update_clear f ctx bit = rw (fit_holds r f) (step_clear ctx bit)

-- as long as nothing is answered, the counter stays 0
waiting : (r : HiresOutputTimingState) (us : List Unit) → Fit r → r.counter ≡ 0 → all_nothing (answers_of r us) ≡ true → (after_of r us).counter ≡ 0
unfolding after_of answers_of all_nothing
waiting r [] f z n = z
waiting r (u ∷ us) f z n =
    let w = both _ _ n in
    waiting (updated_of r u.about u.bit).next us (update_fits r f u.about u.bit)
    ((update_clear r z f u.about u.bit).waits w.0)
    w.1

-- After a branch reset, and any units that were answered nothing: if the next unit ends a field, that gives a start, and no unit up to and
-- with it leaves a Sequence fault.
pub record OnlyStarts (r : HiresOutputTimingState) : Type 0 where
  pub starts : (samples : ℕ)
      → ◌≡◌ {A = Updated} (field_end_of r samples) (record { next = ended_at 1 r; answer = Ok (Some (start_of r.field samples)) })
  pub unbroken : (ctx : TimingContext) (bit : Bool) → is_sequence (updated_of r ctx bit).next.fault ≡ false

reset_counter : (r : HiresOutputTimingState) → fits_of r ≡ true → (reset_of r).next.counter ≡ 0
unfolding reset_of
reset_counter r e = simp e

pub reset_only_starts : (r : HiresOutputTimingState) (us : List Unit) → fits_of r ≡ true → all_nothing (answers_of (reset_of r).next us) ≡ true
    → OnlyStarts (after_of (reset_of r).next us)
reset_only_starts r us e n =
    let f = reset_fits r (fit_says r e) in
    let z = waiting (reset_of r).next us f (reset_counter r e) n in
    record {
      starts = end_starts (after_of (reset_of r).next us) z;
      unbroken = λ ctx bit. (update_clear (after_of (reset_of r).next us) z (after_fits (reset_of r).next us f) ctx bit).unbroken;
    }

-- "Branch reset sets state, counter and fault only."
pub reset_keeps : (r : HiresOutputTimingState)
    → ((reset_of r).next.bits ≡ r.bits) × ((reset_of r).next.field ≡ r.field) × ((reset_of r).next.previous ≡ r.previous)
unfolding reset_of
reset_keeps r = grind arith
