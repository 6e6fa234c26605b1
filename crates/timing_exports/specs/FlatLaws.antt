-- Laws: a record that a call left in the words is taken by the next call as the library left it, so a chain of exported calls is the chain of the
-- library's; and words that don't fit, however wide, are number 1 and unchanged.
use Rattle.std.specs.Prelude.{ℕ, ◌<◌, ◌≡◌, refl, Bool, true, false, Option, Some, None, Err, List, get_or}
use Rattle.std.proofs.Common.{lt-ltb}
use Rattle.laws.specs.Pick.{pick_same}
use Rattle.timing.specs.declared.TimingContext.{TimingContext}
use Rattle.timing.specs.declared.HiresTimingFault.{HiresTimingFault}
use Rattle.timing.specs.declared.HiresTimingFault.TheVariants.{ExtraZeroAfterEnd, ExtraZeroInField, InvalidZeroInField, Sequence}
use Rattle.timing.specs.declared.HiresOutputTimingState.{HiresOutputTimingState}
use Rattle.timing.specs.declared.Updated.{Updated}
use Rattle.timing.specs.Timing.{counts_fit_of, fits_of, updated_of, reset_of, unfit}
use Rattle.timing_exports.specs.Flat.{fault_of, record_of, fault_words, laid_with, words_of}
use Rattle.timing_exports.specs.Calls.{left_by}

fault_there_and_back : (f : Option HiresTimingFault)
    → fault_of (get_or (fault_words f) 0 0) (get_or (fault_words f) 1 0) (get_or (fault_words f) 2 0) (get_or (fault_words f) 3 0) (get_or (fault_words f) 4 0)
    ≡ f
unfolding fault_of
fault_there_and_back None = refl
fault_there_and_back (Some (ExtraZeroAfterEnd unit)) = refl
fault_there_and_back (Some (ExtraZeroInField unit)) = refl
fault_there_and_back (Some (InvalidZeroInField unit)) = refl
fault_there_and_back (Some (Sequence timing unit previous-timing previous-unit)) = refl

laid_there_and_back : (r : HiresOutputTimingState) (f : Option HiresTimingFault) → r.fault ≡ f → record_of (laid_with r f) ≡ r
unfolding record_of
laid_there_and_back r f e = rw (fault_there_and_back f, ← e)

-- a record laid out and read back is the record
pub record_there_and_back : (r : HiresOutputTimingState) → record_of (words_of r) ≡ r
unfolding words_of
record_there_and_back r = laid_there_and_back r r.fault refl

module _ (w : List ℕ) where
  -- after a call words that fit say the library's next record
  pub next_left : fits_of (record_of w) ≡ true → (u : Updated) → record_of (left_by w u) ≡ u.next
  unfolding left_by
  next_left e u = rw e (record_there_and_back u.next)

  -- "state above 15, field counter above 3 or bit count above 65,535", of words of 64 bits
  pub state_high : 15 < get_or w 0 0 → false ≡ fits_of (record_of w)
  unfolding fits_of record_of
  state_high h = simp (lt-ltb _ _ h)

  pub counter_high : 3 < get_or w 1 0 → false ≡ fits_of (record_of w)
  unfolding fits_of counts_fit_of record_of
  counter_high h = simp (lt-ltb _ _ h, pick_same)

  pub bits_high : 65535 < get_or w 2 0 → false ≡ fits_of (record_of w)
  unfolding fits_of counts_fit_of record_of
  bits_high h = simp (lt-ltb _ _ h, pick_same)

  -- number 1, "record, buffer unchanged"
  module _ (e : false ≡ fits_of (record_of w)) where
    pub left_unchanged : (u : Updated) → left_by w u ≡ w
    unfolding left_by
    left_unchanged u = rw (← e)

    pub update_refused : (ctx : TimingContext) (bit : Bool) → (updated_of (record_of w) ctx bit).answer ≡ Err unfit
    unfolding updated_of
    update_refused ctx bit = rw (← e)

    pub reset_refused : (reset_of (record_of w)).answer ≡ Err unfit
    unfolding reset_of
    reset_refused = rw (← e)
