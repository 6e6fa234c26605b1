-- Document 01, "Start timing (002)", its sentences in their order. A bit is `true` where it is one.
use Rattle.std.specs.Prelude.{ℕ, ◌+◌, ◌-◌, ◌*◌, ◌/◌, ◌%◌, ◌^◌, Bool, true, false, ◌==◌, nat_le, nat_lt, Some, None, Ok, Err}
use Rattle.laws.specs.Pick.{pick}
use Rattle.laws.specs.Powers.{minus}
use Rattle.timing.specs.declared.TimingContext.{TimingContext}
use Rattle.timing.specs.declared.Field.{Field}
use Rattle.timing.specs.declared.HiresTimingFault.{HiresTimingFault}
use Rattle.timing.specs.declared.HiresTimingFault.TheVariants.{ExtraZeroAfterEnd, ExtraZeroInField, InvalidZeroInField, Sequence}
use Rattle.timing.specs.declared.HiresOutputTimingState.{HiresOutputTimingState}
use Rattle.timing.specs.declared.RecordDoesNotFit.{RecordDoesNotFit}
use Rattle.timing.specs.declared.Updated.{Updated}

-- "For a timing record: state above 15, field counter above 3 or bit count above 65,535." Number 1 is given where the record doesn't fit.
unfoldable pub counts_fit_of : ℕ → ℕ → Bool
counts_fit_of counter bits = pick (nat_lt 3 counter) false (pick (nat_lt 65535 bits) false true)

unfoldable pub fits_of : HiresOutputTimingState → Bool
fits_of r = pick (nat_lt 15 r.state) false (counts_fit_of r.counter r.bits)

-- "A fresh record is all zeros."
abbrev pub no_field : Field
no_field = record { timing = 0; unit = 0; output = 0 }

unfoldable pub fresh_of : HiresOutputTimingState
fresh_of =
    record {
      state = 0;
      counter = 0;
      bits = 0;
      field = no_field;
      previous = no_field;
      fault = None;
    }

-- "Each step first drops the last fault": the record in another state, and no fault.
abbrev pub moved_to : ℕ → HiresOutputTimingState → HiresOutputTimingState
moved_to state r =
    record {
      state = state;
      counter = r.counter;
      bits = r.bits;
      field = r.field;
      previous = r.previous;
      fault = None;
    }

-- "a fault in the field's form .. to 0"
abbrev pub faulted_by : HiresTimingFault → HiresOutputTimingState → HiresOutputTimingState
faulted_by fault r =
    record {
      state = 0;
      counter = r.counter;
      bits = r.bits;
      field = r.field;
      previous = r.previous;
      fault = Some fault;
    }

-- "State 0: field counter cleared; 0 goes to 1."
unfoldable pub state0_of : HiresOutputTimingState → Bool → HiresOutputTimingState
state0_of r bit =
    record {
      state = pick bit 0 1;
      counter = 0;
      bits = r.bits;
      field = r.field;
      previous = r.previous;
      fault = None;
    }

-- "States 1 to 4: 0 goes up, 1 goes to 0."
unfoldable pub states1to4_of : HiresOutputTimingState → Bool → HiresOutputTimingState
states1to4_of r bit = pick bit (moved_to 0 r) (moved_to (r.state + 1) r)

-- "1 starts a field (timing 0, unit number and output timing kept, no bits yet), to 6"
abbrev pub started_by : TimingContext → HiresOutputTimingState → HiresOutputTimingState
started_by ctx r =
    record {
      state = 6;
      counter = r.counter;
      bits = 0;
      field = record { timing = 0; unit = ctx.unit; output = ctx.output };
      previous = r.previous;
      fault = None;
    }

-- "State 5: 1 starts a field .., to 6; 0 is a fault, "extra 0 after the data field end" if bits were counted, else "extra 0 in the datafield",
-- to 0."
unfoldable pub state5_of : HiresOutputTimingState → TimingContext → Bool → HiresOutputTimingState
state5_of r ctx bit =
    pick bit (started_by ctx r)
    (pick (r.bits == 0)
    (faulted_by (ExtraZeroInField r.field.unit) r)
    (faulted_by (ExtraZeroAfterEnd r.field.unit) r))

-- "Timing drops bits above 64."
abbrev pub shift_of : ℕ → ℕ → ℕ
shift_of timing n = (timing * 2 ^ n) % 2 ^ 64

-- "1 shifts by n .. and adds 2^(n−1)"
abbrev pub with_one_of : ℕ → ℕ → ℕ
with_one_of timing n = shift_of timing n + 2 ^ (n - 1)

-- "to 11 (from 10 to 6)", "to 11 (from 15 to 6)"
abbrev pub after_one_of : ℕ → ℕ → ℕ
after_one_of state last = pick (state == last) 6 11

-- "Each shift adds its width to the bit count, which stops at 65,535."
abbrev pub count_of : ℕ → ℕ → ℕ
count_of bits n = pick (nat_lt 65535 (bits + n)) 65535 (bits + n)

abbrev pub read_on : ℕ → ℕ → ℕ → HiresOutputTimingState → HiresOutputTimingState
read_on state timing n r =
    record {
      state = state;
      counter = r.counter;
      bits = count_of r.bits n;
      field = record { timing = timing; unit = r.field.unit; output = r.field.output };
      previous = r.previous;
      fault = None;
    }

-- "States 6 to 10: 1 shifts timing by state−6, to 11 (from 10 to 6); 0 goes up, from 10 a fault "invalid 0 in the datafield", to 0."
unfoldable pub states6to10_of : HiresOutputTimingState → Bool → HiresOutputTimingState
states6to10_of r bit =
    pick bit
    (read_on (after_one_of r.state 10) (shift_of r.field.timing (r.state - 6)) (r.state - 6) r)
    (pick (r.state == 10) (faulted_by (InvalidZeroInField r.field.unit) r) (moved_to (r.state + 1) r))

-- a step that answers nothing
abbrev pub quietly : HiresOutputTimingState → Updated
quietly r = record { next = r; answer = Ok None }

-- "A field's end raises the counter to at most 3."
abbrev pub raised_of : ℕ → ℕ
raised_of counter = pick (nat_lt counter 3) (counter + 1) counter

-- a − b modulo 2^32
abbrev pub minus_of : ℕ → ℕ → ℕ
minus_of a b = minus 32 a b

-- "start = timing × 65,536 + output timing − unit number × samples per unit, modulo 2^32"
unfoldable pub start_of : Field → ℕ → ℕ
start_of f samples = minus_of (f.timing * 65536 + f.output) (f.unit * samples)

-- "(unit difference × samples + previous output timing) modulo 2^32"
unfoldable pub elapsed_of : ℕ → Field → ℕ → ℕ
elapsed_of unit p samples = (minus_of unit p.unit * samples + p.output) % 2 ^ 32

-- "the difference of timings modulo 2^32 must equal (..) divided by 65,536, rounded down"
unfoldable pub continues_of : Field → Field → ℕ → Bool
continues_of f p samples = minus_of f.timing p.timing == elapsed_of f.unit p samples / 65536

-- a field that is the first, or that continues the previous one, is the previous one from here on
abbrev pub ended_at : ℕ → HiresOutputTimingState → HiresOutputTimingState
ended_at counter r =
    record {
      state = 5;
      counter = counter;
      bits = r.bits;
      field = r.field;
      previous = r.field;
      fault = None;
    }

-- "if not, a Sequence fault, counter 0, previous field kept"; "a Sequence fault [names] both timings and both units"
abbrev pub broken_at : HiresOutputTimingState → HiresOutputTimingState
broken_at r =
    record {
      state = 5;
      counter = 0;
      bits = r.bits;
      field = r.field;
      previous = r.previous;
      fault = Some (Sequence r.field.timing r.field.unit r.previous.timing r.previous.unit);
    }

-- "Counter 1: start .. Else the difference .."
unfoldable pub field_end_of : HiresOutputTimingState → ℕ → Updated
field_end_of r samples =
    pick (raised_of r.counter == 1)
    (record { next = ended_at 1 r; answer = Ok (Some (start_of r.field samples)) })
    (pick (continues_of r.field r.previous samples)
    (quietly (ended_at (raised_of r.counter) r))
    (quietly (broken_at r)))

-- "States 11 to 15: 1 shifts by n = state−10 and adds 2^(n−1), to 11 (from 15 to 6); 0 goes up, from 15 ends the field, to 5."
unfoldable pub states11to15_of : HiresOutputTimingState → ℕ → Bool → Updated
states11to15_of r samples bit =
    pick bit
    (quietly
    (read_on (after_one_of r.state 15) (with_one_of r.field.timing (r.state - 10)) (r.state - 10) r))
    (pick (r.state == 15) (field_end_of r samples) (quietly (moved_to (r.state + 1) r)))

-- what a refusal says: number 1 and nothing besides
abbrev pub unfit : RecordDoesNotFit
unfit = record {}

-- number 1, "record, buffer unchanged"
abbrev pub refused : HiresOutputTimingState → Updated
refused r = record { next = r; answer = Err unfit }

-- "One bit a unit": a step of a record that fits, by its state
unfoldable pub step_of : HiresOutputTimingState → TimingContext → Bool → Updated
step_of r ctx bit =
    pick (r.state == 0) (quietly (state0_of r bit))
    (pick (nat_le r.state 4) (quietly (states1to4_of r bit))
    (pick (r.state == 5) (quietly (state5_of r ctx bit))
    (pick (nat_le r.state 10) (quietly (states6to10_of r bit))
    (states11to15_of r ctx.samples bit))))

unfoldable pub updated_of : HiresOutputTimingState → TimingContext → Bool → Updated
updated_of r ctx bit = pick (fits_of r) (step_of r ctx bit) (refused r)

-- "Branch reset sets state, counter and fault only."
abbrev pub branched_from : HiresOutputTimingState → HiresOutputTimingState
branched_from r =
    record {
      state = 0;
      counter = 0;
      bits = r.bits;
      field = r.field;
      previous = r.previous;
      fault = None;
    }

unfoldable pub reset_of : HiresOutputTimingState → Updated
reset_of r = pick (fits_of r) (quietly (branched_from r)) (refused r)
