-- Document 01, "A request (000, `next`)": definitions only.
use Rattle.std.specs.Prelude.{ℕ, zero, suc, ◌+◌, ◌-◌, ◌*◌, ◌/◌, ◌%◌, Bool, true, false, ◌&&◌, List, leb, ltb, eqb, length, drop, None}
use Rattle.std.specs.Int.Bits.{bit_xor}
use Rattle.laws.specs.Pick.{pick}
use Rattle.laws.specs.First.{Place, At, Nowhere}
use Rattle.machine.specs.Step.{Step, dry, Machine}
use Rattle.machine.specs.Scan.{scan, Result}
use Rattle.machine.specs.Ask.{Ask, done, either, ◌>>=◌, peek, Eat, eat, decide, Move, silent, aloud, settle}
use Rattle.kinds.specs.declared.BytePosition.{BytePosition}
use Rattle.crc.specs.declared.Algorithm.{Algorithm}
use Rattle.rules.specs.Search.{find, keep, kept, stamp_at, sync_length, unit_length, candidate}
use Rattle.rules.specs.declared.Losses.{Losses}
use Rattle.rules.specs.declared.Loss.{Loss}
use Rattle.rules.specs.declared.Loss.TheVariants.{Length, Check, Mismatch, Parity}
use Rattle.rules.specs.declared.Stream.{Stream}
use Rattle.rules.specs.declared.Unit.{Unit as TheUnit}
use Rattle.rules.specs.declared.Verdict.{Verdict}
use Rattle.rules.specs.declared.Verdict.TheVariants.{Lock, Lost, Short, Failed, Whole}

-- where the directory ends, and the XOR of the first four bytes and all directory bytes
pub record End : Type 0 where
  pub place : ℕ
  pub parity : ℕ

-- "Then the directory: each entry is 2 bytes, or 4 if its first bit is one."
unfoldable pub directory : ℕ → ℕ → ℕ → Ask End
directory zero at p = done (record { place = at; parity = p })
directory (suc k) at p = do
  a ← peek at
  b ← peek (at + 1)
  either (leb 128 a)
      (do
        c ← peek (at + 2)
        d ← peek (at + 3)
        directory k (at + 4) (bit_xor (bit_xor (bit_xor (bit_xor p a) b) c) d))
      (directory k (at + 2) (bit_xor (bit_xor p a) b))

-- "the two nibbles XORed must be 15"
abbrev pub even : ℕ → Bool
even p = eqb (bit_xor (p / 16 % 16) (p % 16)) 15

-- "parity is tested first, then length against directory end (number 5, that end as minimum), then the whole unit is waited for"
unfoldable pub closing : Bool → End → Ask (Eat Verdict)
closing major e =
    either (even e.parity)
    (do
      n ← unit_length
      either (ltb n e.place) (eat 1 (Short n e.place)) (eat n (Whole major)))
    (eat 1 (Lost Parity))

-- the first four bytes, then the directory behind what is skipped
unfoldable pub body : ℕ → Bool → ℕ → Ask (Eat Verdict)
body k major skip = do
  a ← peek 0
  b ← peek 1
  c ← peek 2
  d ← peek 3
  e ← directory k (4 + skip) (bit_xor (bit_xor (bit_xor a b) c) d)
  closing major e

-- "If bytes 4 and 5 are F8 72, 21 bytes are needed and the count in byte 20 must equal the locked one; skip sync length + 2"
unfoldable pub unit : ℕ → Ask (Eat Verdict)
unit k = do
  a ← peek 4
  b ← peek 5
  either (eqb a 0xF8 && eqb b 0x72)
      (do
        x ← peek 20
        either (eqb (x / 16) k)
            (do
              m ← sync_length
              body k true (m + 2))
            (eat 1 (Lost Mismatch)))
      (body k false 0)

-- "error count +1": the one place where a loss is counted
unfoldable pub raise : Loss → Losses → Losses
raise w l = record { errors = l.errors + 1 }

-- n bytes consumed; any drops a waiting timestamp
abbrev pub advance : ℕ → Stream → Stream
advance n s =
    record {
      consumed = record { 0 = s.consumed.0 + n };
      frames = s.frames;
      losses = s.losses;
      substreams = s.substreams;
      locked = s.locked;
      seen = s.seen;
      waiting = kept n s.waiting;
      check = s.check;
    }

-- a loss of n bytes: counted, consumed, unlocked
abbrev pub lose : Loss → ℕ → Stream → Stream
lose w n s =
    record {
      consumed = record { 0 = s.consumed.0 + n };
      frames = s.frames;
      losses = raise w s.losses;
      substreams = s.substreams;
      locked = false;
      seen = s.seen;
      waiting = kept n s.waiting;
      check = s.check;
    }

-- at a candidate n bytes on: "all bytes before the candidate are consumed here", and a sync was seen
abbrev pub arrive : ℕ → List ℕ → Stream → Stream
arrive n u s =
    record {
      consumed = record { 0 = s.consumed.0 + n };
      frames = s.frames;
      losses = s.losses;
      substreams = s.substreams;
      locked = false;
      seen = true;
      waiting = stamp_at s.seen n u s.waiting;
      check = s.check;
    }

-- "Equal: locked"
abbrev pub lock : ℕ → Stream → Stream
lock k s =
    record {
      consumed = s.consumed;
      frames = s.frames;
      losses = s.losses;
      substreams = k;
      locked = true;
      seen = s.seen;
      waiting = s.waiting;
      check = s.check;
    }

-- "A unit carries index, position and timestamp if one waits."
abbrev pub unit_of : Stream → ℕ → Bool → TheUnit
unit_of s n major =
    record {
      index = s.frames;
      position = s.consumed;
      length = n;
      major = major;
      substreams = s.substreams;
      waiting = s.waiting;
    }

-- after a unit of n bytes: the timestamp went with it
abbrev pub pass_on : ℕ → Stream → Stream
pass_on n s =
    record {
      consumed = record { 0 = s.consumed.0 + n };
      frames = s.frames + 1;
      losses = s.losses;
      substreams = s.substreams;
      locked = s.locked;
      seen = s.seen;
      waiting = None;
      check = s.check;
    }

-- What is spoken: a unit, number 5 with actual, minimum and the position after it, number 6 with the position after it.
pub data Event : Type 0 where
  handed : TheUnit → Event
  too_short : ℕ → ℕ → BytePosition → Event
  failed : BytePosition → Event

-- "A count mismatch or a parity failure here is not spoken: error count +1, one byte consumed, search again within the same request, and if
-- that locks, go on."
unfoldable pub act : Stream → Verdict → ℕ → List ℕ → Move Stream Event
act s (Lock k) n bs = silent (lock k s)
act s (Lost w) n bs = silent (lose w n s)
act s (Short a m) n bs = aloud (too_short a m (lose Length n s).consumed) (lose Length n s)
act s Failed n bs = aloud (failed (lose Check n s).consumed) (lose Check n s)
act s (Whole major) n bs = aloud (handed (unit_of s n major)) (pass_on n s)

-- the search: at the first candidate, or dry with what has to be kept
unfoldable pub search : Stream → List ℕ → Place → Step Stream Event
search s u Nowhere = dry (advance (length u - keep s.seen) s) (drop (length u - keep s.seen) u)
search s u (At n) = settle (act (arrive n u s)) (arrive n u s) (drop n u) (decide (candidate s.check) (drop n u))

-- "If unlocked, search. Locked: .."
unfoldable pub step_by : Bool → Stream → List ℕ → Step Stream Event
step_by true s u = settle (act s) s u (decide (unit s.substreams) u)
step_by false s u = search s u (find u)

-- a step that isn't dry consumes bytes, or locks
unfoldable pub size_of : Stream → List ℕ → ℕ
size_of s u = 2 * length u + pick s.locked 0 1

abbrev pub reader : Machine Stream Event
reader = record { step = λ s u. step_by s.locked s u; size = size_of }

-- a new reader's stream
abbrev pub new : Algorithm → Stream
new a =
    record {
      consumed = record { 0 = 0 };
      frames = 0;
      losses = record { errors = 0 };
      substreams = 0;
      locked = false;
      seen = false;
      waiting = None;
      check = a;
    }

-- "A fresh scan of a byte list: a new reader of the same check setting, with the whole list unread and one push unanswered, no buffer bound,
-- asked by these rules until dry."
abbrev pub fresh_scan : Algorithm → List ℕ → Result Stream Event
fresh_scan a bytes = scan reader (new a) bytes
