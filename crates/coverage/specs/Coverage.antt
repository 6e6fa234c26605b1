-- How many bytes of a stream are outside units, and where the first of them stands: definitions only.
use Rattle.std.specs.Prelude.{ℕ, ◌+◌, ◌-◌, List, [], ◌∷◌, ◌++◌, leb, eqb, None, Option, Some}
use Rattle.laws.specs.Pick.{pick}
use Rattle.laws.specs.Parts.{part}
use Rattle.rules.specs.declared.Unit.{Unit as TheUnit}
use Rattle.rules.specs.Request.{Event, handed, too_short, failed}
use Rattle.coverage.specs.declared.Coverage.{Coverage}
use Rattle.timestamp.specs.declared.Timestamp.{Timestamp}

-- 1. What is covered: the bytes of the units, and the 16 of a timestamp that one carries.

abbrev pub stamp_length : Option Timestamp → ℕ
stamp_length None = 0
stamp_length (Some t) = 16

-- where what a unit covers begins
abbrev pub begin_of : TheUnit → ℕ
begin_of x = x.position.0 - stamp_length x.waiting

-- how many bytes the units among some events cover
abbrev pub covered_by : List Event → ℕ
covered_by [] = 0
covered_by (handed x ∷ es) = stamp_length x.waiting + x.length + covered_by es
covered_by (too_short a m p ∷ es) = covered_by es
covered_by (failed p ∷ es) = covered_by es

-- those bytes themselves, one unit behind the other
abbrev pub units_of : List ℕ → List Event → List ℕ
units_of bytes [] = []
units_of bytes (handed x ∷ es) = part bytes (begin_of x) (stamp_length x.waiting) ++ (part bytes x.position.0 x.length ++ units_of bytes es)
units_of bytes (too_short a m p ∷ es) = units_of bytes es
units_of bytes (failed p ∷ es) = units_of bytes es

-- 2. What is outside, taken unit by unit.

-- as much as 64 bits hold
abbrev pub capped : ℕ → ℕ
capped n = pick (leb n 18446744073709551615) n 18446744073709551615

unfoldable pub nothing_yet : Coverage
nothing_yet = record { reached = 0; outside = 0; first = None }

-- the bytes up to a place are in no unit
unfoldable pub passed_of : ℕ → Coverage → Coverage
passed_of place c =
    pick (leb place c.reached) c
    (record {
      reached = place;
      outside = capped (c.outside + (place - c.reached));
      first = pick (eqb c.outside 0) (Some c.reached) c.first;
    })

-- a unit: what lies between is outside, and its own bytes are covered
unfoldable pub covered_of : TheUnit → Coverage → Coverage
covered_of x c =
    record {
      reached = capped (x.position.0 + x.length);
      outside = (passed_of (begin_of x) c).outside;
      first = (passed_of (begin_of x) c).first;
    }

-- all that was handed out, one after the other
abbrev pub taken : List Event → Coverage → Coverage
taken [] c = c
taken (handed x ∷ es) c = taken es (covered_of x c)
taken (too_short a m p ∷ es) c = taken es c
taken (failed p ∷ es) c = taken es c

-- THE BYTES OUTSIDE UNITS, of a stream of so many bytes in which these were handed out; and where the first of them stands
abbrev pub outside : List Event → ℕ → ℕ
outside es n = (passed_of n (taken es nothing_yet)).outside

abbrev pub first_outside : List Event → ℕ → Option ℕ
first_outside es n = (passed_of n (taken es nothing_yet)).first
