-- What a unit is by its own bytes, and where it stands among the accepted bytes (document 01, "Search" and "A request"): definitions only.
use Rattle.std.specs.Prelude.{◌≡◌, Bool, true, false, ◌&&◌, List, [], ◌∷◌, ℕ, suc, ◌+◌, ◌-◌, ◌*◌, ◌/◌, ◌%◌, ◌≤◌, ◌<◌, leb, eqb, length, take, drop, Ok, Some}
use Rattle.std.proofs.Math.Option.{some}
use Rattle.std.specs.Int.Bits.{bit_xor}
use Rattle.laws.specs.Parts.{byte_at, part}
use Rattle.laws.specs.Words.{word_at}
use Rattle.machine.specs.Ask.{Ask, done, ◌>>=◌, ask}
use Rattle.timestamp.specs.declared.Timestamp.{Timestamp}
use Rattle.timestamp.specs.Timestamp.{parse_of}
use Rattle.rules.specs.Search.{sync_length}
use Rattle.rules.specs.Request.{End, directory, even, pass_on, Event, handed, too_short, failed}
use Rattle.rules.specs.declared.Stream.{Stream}
use Rattle.rules.specs.declared.Unit.{Unit as TheUnit}

-- "If bytes 4 and 5 are F8 72"
abbrev pub begins_major : List ℕ → Bool
begins_major u = eqb (byte_at u 4) 0xF8 && eqb (byte_at u 5) 0x72

-- a unit is major by its own bytes; "on a 4-byte unit .. the answer is no"
unfoldable pub is_major : List ℕ → Bool
is_major bytes = leb 6 (length bytes) && begins_major bytes

-- "Unit length is twice the low 12 bits of the first word"
abbrev pub length_at : List ℕ → ℕ
length_at u = 2 * (word_at u 0 % 4096)

-- "skip sync length + 2": what stands between the first four bytes and the directory
unfoldable pub skipped : Bool → Ask ℕ
skipped true = do
  m ← sync_length
  done (m + 2)
skipped false = done 0

-- "XOR the first four bytes"
abbrev pub opening : List ℕ → ℕ
opening bytes = bit_xor (bit_xor (bit_xor (byte_at bytes 0) (byte_at bytes 1)) (byte_at bytes 2)) (byte_at bytes 3)

-- .. "and all directory bytes"
unfoldable pub xor_onto : ℕ → List ℕ → ℕ
xor_onto p [] = p
xor_onto p (b ∷ bs) = xor_onto (bit_xor p b) bs

-- These bytes are a unit of so many substreams.
pub record IsUnit (bytes : List ℕ) (count : ℕ) : Type 0 where
  -- at least the first four bytes
  pub long : 4 ≤ length bytes
  -- an even length, twice the low 12 bits of the first word
  pub counted : length bytes ≡ length_at bytes
  -- "the count in byte 20 must equal the locked one"
  pub agrees : is_major bytes ≡ true → byte_at bytes 20 / 16 ≡ count
  pub skip : ℕ
  pub skips : ask (skipped (is_major bytes)) bytes ≡ some skip
  -- the directory is walked over the unit's own bytes, and ends inside it
  pub end : End
  pub walks : ask (directory count (4 + skip) (opening bytes)) bytes ≡ some end
  pub inside : end.place ≤ length bytes
  -- "XOR the first four bytes and all directory bytes; the two nibbles XORed must be 15"
  pub parity : even (xor_onto (opening bytes) (part bytes (4 + skip) (end.place - (4 + skip)))) ≡ true

-- A unit handed out stands among the accepted bytes: those at its position, so many as its length, are a unit, and of the kind that it says.
pub record Stands (accepted : List ℕ) (x : TheUnit) : Type 0 where
  pub there : x.position.0 + x.length ≤ length accepted
  pub unit : IsUnit (part accepted x.position.0 x.length) x.substreams
  pub major : x.major ≡ is_major (part accepted x.position.0 x.length)

-- A step on the stream s and the unread bytes u hands out x, and goes to s' and u': "A unit carries index, position and timestamp if one waits."
pub record Hands (s : Stream) (u : List ℕ) (x : TheUnit) (s' : Stream) (u' : List ℕ) : Type 0 where
  pub locked : s.locked ≡ true
  pub index : x.index ≡ s.frames
  pub position : x.position ≡ s.consumed
  pub substreams : x.substreams ≡ s.substreams
  pub waiting : x.waiting ≡ s.waiting
  -- its bytes are the first ones unread
  pub counted : x.length ≡ length_at u
  pub there : x.length ≤ length u
  pub unit : IsUnit (take x.length u) x.substreams
  pub major : x.major ≡ is_major (take x.length u)
  -- they are consumed, and the timestamp went with it
  pub state : s' ≡ pass_on x.length s
  pub rest : u' ≡ drop x.length u

-- A fact of a unit, said of an event that may be one.
abbrev pub IfUnit : (TheUnit → Type 0) → Event → Type 0
IfUnit P (handed x) = P x
IfUnit P (too_short a m p) = Unit {0}
IfUnit P (failed p) = Unit {0}

-- A later unit begins where an earlier one ends, or behind it, and has a higher number.
pub record Follows (x y : TheUnit) : Type 0 where
  pub apart : x.position.0 + x.length ≤ y.position.0
  pub later : x.index < y.index

-- The 16 bytes ahead of place n are this timestamp.
pub record Ahead (accepted : List ℕ) (n : ℕ) (t : Timestamp) : Type 0 where
  pub there : 16 ≤ n
  pub parsed : parse_of (part accepted (n - 16) 16) ≡ Ok t

-- A unit that carries a timestamp is the first one handed out, and the 16 bytes ahead of it are the timestamp.
pub record Carries (accepted : List ℕ) (x : TheUnit) (t : Timestamp) : Type 0 where
  pub first : x.index ≡ 0
  pub ahead : Ahead accepted x.position.0 t

-- What holds of a stream's timestamp at all times: no unit before a sync is seen or while a timestamp waits, and one that waits stands ahead of
-- the read position.
pub record Stamped (accepted : List ℕ) (s : Stream) : Type 0 where
  pub seen : s.locked ≡ true → s.seen ≡ true
  pub unseen : s.seen ≡ false → s.frames ≡ 0
  pub first : (t : Timestamp) → s.waiting ≡ Some t → s.frames ≡ 0
  pub ahead : (t : Timestamp) → s.waiting ≡ Some t → Ahead accepted s.consumed.0 t

-- What is promised of every unit handed out.
pub record Promised (accepted : List ℕ) (x : TheUnit) : Type 0 where
  pub stands : Stands accepted x
  pub carries : (t : Timestamp) → x.waiting ≡ Some t → Carries accepted x t

-- The units among some events are numbered one by one, from k on.
abbrev pub Indexed : ℕ → List Event → Type 0
Indexed k [] = Unit {0}
Indexed k (handed x ∷ es) = (x.index ≡ k) × Indexed (suc k) es
Indexed k (too_short a m p ∷ es) = Indexed k es
Indexed k (failed p ∷ es) = Indexed k es

-- How many units there are among some events.
abbrev pub units_in : List Event → ℕ
units_in [] = 0
units_in (handed x ∷ es) = suc (units_in es)
units_in (too_short a m p ∷ es) = units_in es
units_in (failed p ∷ es) = units_in es
