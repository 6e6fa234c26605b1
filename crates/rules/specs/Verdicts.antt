-- What the search, each verdict and each step mean, over the unread bytes (document 01, "Search", "A request" and the table's last column):
-- definitions only.
use Rattle.std.specs.Prelude.{◌≡◌, Bool, true, false, List, ◌⊎◌, ℕ, ◌+◌, ◌-◌, ◌/◌, ◌%◌, ◌≤◌, ◌<◌, length, take, drop}
use Rattle.std.proofs.Math.Option.{none, some}
use Rattle.laws.specs.Parts.{byte_at}
use Rattle.laws.specs.First.{Place, At, Nowhere}
use Rattle.machine.specs.Step.{Step, dry, quiet, speak}
use Rattle.machine.specs.Ask.{ask, decide}
use Rattle.kinds.specs.declared.BytePosition.{BytePosition}
use Rattle.crc.specs.declared.Algorithm.{Algorithm}
use Rattle.rules.specs.Search.{find, keep, sync_length, checks, candidate}
use Rattle.rules.specs.Request.{End, directory, even, unit, advance, arrive, lock, Event, handed, too_short, failed}
use Rattle.rules.specs.Units.{length_at, begins_major, skipped, opening, Hands}
use Rattle.rules.specs.declared.Loss.TheVariants.{Length, Check, Mismatch, Parity}
use Rattle.rules.specs.declared.Stream.{Stream}
use Rattle.rules.specs.declared.Verdict.{Verdict}
use Rattle.rules.specs.declared.Verdict.TheVariants.{Lock, Lost, Short, Failed, Whole}

-- 1. The search.

-- A sync word, F8726FBA or F8726FBB, stands at place i.
pub record SyncWord (u : List ℕ) (i : ℕ) : Type 0 where
  pub byte0 : byte_at u i ≡ 0xF8
  pub byte1 : byte_at u (i + 1) ≡ 0x72
  pub byte2 : byte_at u (i + 2) ≡ 0x6F
  pub byte3 : (byte_at u (i + 3) ≡ 0xBA) ⊎ (byte_at u (i + 3) ≡ 0xBB)

-- "the candidate starts 4 before it", and none is passed over; nothing found: there is none
abbrev pub FindMeans : List ℕ → Place → Type 0
FindMeans u (At n) = (n + 8 ≤ length u) × SyncWord u (n + 4) × ((i : ℕ) → i < n → SyncWord u (i + 4) → ⊥)
FindMeans u Nowhere = (i : ℕ) → i + 8 ≤ length u → SyncWord u (i + 4) → ⊥

-- 2. A candidate.

-- "Below sync length + 8: number 5", with the unit length as actual and that as minimum
pub record ShortCandidate (u : List ℕ) (actual minimum : ℕ) : Type 0 where
  pub sync : ℕ
  pub reads : ask sync_length u ≡ some sync
  pub long : actual ≡ length_at u
  pub needed : minimum ≡ sync + 8
  pub below : actual < minimum

-- "Wait for the whole unit, then check the sync bytes against the big-endian word behind them", and the check says this
pub record CheckedCandidate (a : Algorithm) (u : List ℕ) (equal : Bool) : Type 0 where
  pub sync : ℕ
  pub reads : ask sync_length u ≡ some sync
  pub long : sync + 8 ≤ length_at u
  pub there : length_at u ≤ length u
  pub checked : checks a sync (take (length_at u) u) ≡ equal

-- what is decided on a candidate at the front of u, and how many bytes n are eaten
abbrev pub CandidateMeans : Algorithm → List ℕ → ℕ → Verdict → Type 0
CandidateMeans a u n (Lock k) = CheckedCandidate a u true × (k ≡ byte_at u 20 / 16 % 16) × (n ≡ 0)
CandidateMeans a u n (Short x m) = ShortCandidate u x m × (n ≡ 1)
CandidateMeans a u n Failed = CheckedCandidate a u false × (n ≡ length_at u)
CandidateMeans a u n (Lost l) = ⊥
CandidateMeans a u n (Whole major) = ⊥

-- 3. A unit, while locked under k substreams.

-- The directory was walked behind what is skipped, and its parity is right or not.
pub record Walked (u : List ℕ) (k : ℕ) (major right : Bool) : Type 0 where
  pub begins : begins_major u ≡ major
  pub agrees : major ≡ true → byte_at u 20 / 16 ≡ k
  pub skip : ℕ
  pub skips : ask (skipped major) u ≡ some skip
  pub end : End
  pub walks : ask (directory k (4 + skip) (opening u)) u ≡ some end
  pub parity : even end.parity ≡ right

-- "then length against directory end (number 5, that end as minimum)"
pub record ShortUnit (u : List ℕ) (k actual minimum : ℕ) : Type 0 where
  pub major : Bool
  pub walk : Walked u k major true
  pub long : actual ≡ length_at u
  pub needed : minimum ≡ walk.end.place
  pub below : actual < minimum

-- "then the whole unit is waited for"
pub record WholeUnit (u : List ℕ) (k : ℕ) (major : Bool) (n : ℕ) : Type 0 where
  pub walk : Walked u k major true
  pub long : n ≡ length_at u
  pub inside : walk.end.place ≤ n

-- "the count in byte 20 must equal the locked one"
pub record OtherCount (u : List ℕ) (k : ℕ) : Type 0 where
  pub begins : begins_major u ≡ true
  pub differs : byte_at u 20 / 16 ≡ k → ⊥

-- "parity is tested first": a walk whose parity is wrong, whatever the unit's length
pub record WrongParity (u : List ℕ) (k : ℕ) : Type 0 where
  pub major : Bool
  pub walk : Walked u k major false

-- what is decided on a unit at the front of u, and how many bytes n are eaten
abbrev pub UnitMeans : List ℕ → ℕ → ℕ → Verdict → Type 0
UnitMeans u k n (Whole major) = WholeUnit u k major n
UnitMeans u k n (Short x m) = ShortUnit u k x m × (n ≡ 1)
UnitMeans u k n (Lost Mismatch) = OtherCount u k × (n ≡ 1)
UnitMeans u k n (Lost Parity) = WrongParity u k × (n ≡ 1)
UnitMeans u k n (Lost Length) = ⊥
UnitMeans u k n (Lost Check) = ⊥
UnitMeans u k n (Lock c) = ⊥
UnitMeans u k n Failed = ⊥

-- 4. A step, on the stream s and the unread bytes u.

-- "error count +1, unlocked": a loss of n bytes, with `before` bytes ahead of it consumed too
pub record Loses (s : Stream) (before n : ℕ) (s' : Stream) : Type 0 where
  pub consumed : s'.consumed.0 ≡ s.consumed.0 + before + n
  pub errors : s'.losses.errors ≡ s.losses.errors + 1
  pub frames : s'.frames ≡ s.frames
  pub unlocked : s'.locked ≡ false

-- number 5: "all before the candidate or unit and 1 byte of it consumed"
pub record Number5 (s : Stream) (u : List ℕ) (actual minimum : ℕ) (p : BytePosition) (s' : Stream) : Type 0 where
  pub before : ℕ
  pub cause : ((s.locked ≡ true) × (before ≡ 0) × ShortUnit u s.substreams actual minimum)
      ⊎ ((s.locked ≡ false) × (find u ≡ At before) × ShortCandidate (drop before u) actual minimum)
  pub loses : Loses s before 1 s'
  pub position : p ≡ s'.consumed

-- number 6: "all before the candidate and the whole of it consumed"
pub record Number6 (s : Stream) (u : List ℕ) (p : BytePosition) (s' : Stream) : Type 0 where
  pub before : ℕ
  pub searching : s.locked ≡ false
  pub found : find u ≡ At before
  pub unequal : CheckedCandidate s.check (drop before u) false
  pub loses : Loses s before (length_at (drop before u)) s'
  pub position : p ≡ s'.consumed

-- "Equal: locked; the substream count is the high nibble of byte 20"
pub record GainsLock (s : Stream) (u : List ℕ) (s' : Stream) : Type 0 where
  pub before : ℕ
  pub searching : s.locked ≡ false
  pub found : find u ≡ At before
  pub equal : CheckedCandidate s.check (drop before u) true
  pub state : s' ≡ lock (byte_at (drop before u) 20 / 16 % 16) (arrive before u s)

-- "A count mismatch or a parity failure here is not spoken: error count +1, one byte consumed"
pub record QuietLoss (s : Stream) (u : List ℕ) (s' : Stream) : Type 0 where
  pub locked : s.locked ≡ true
  pub cause : OtherCount u s.substreams ⊎ WrongParity u s.substreams
  pub loses : Loses s 0 1 s'

-- "(7)": locked, and what is needed for a verdict hasn't arrived; nothing is consumed
pub record UnitWaits (s : Stream) (u : List ℕ) (s' : Stream) (u' : List ℕ) : Type 0 where
  pub locked : s.locked ≡ true
  pub undecided : decide (unit s.substreams) u ≡ none
  pub state : s' ≡ s
  pub rest : u' ≡ u

-- "Wait (8)": the candidate is still arriving; "all bytes before the candidate are consumed here, also where 8 follows"
pub record CandidateWaits (s : Stream) (u : List ℕ) (s' : Stream) (u' : List ℕ) : Type 0 where
  pub before : ℕ
  pub searching : s.locked ≡ false
  pub found : find u ≡ At before
  pub undecided : decide (candidate s.check) (drop before u) ≡ none
  pub state : s' ≡ arrive before u s
  pub rest : u' ≡ drop before u

-- "None: keep the last 23 bytes before any sync was ever seen, afterwards the last 7; consume the rest. Answer 8."
pub record FindsNone (s : Stream) (u : List ℕ) (s' : Stream) (u' : List ℕ) : Type 0 where
  pub searching : s.locked ≡ false
  pub none_there : find u ≡ Nowhere
  pub state : s' ≡ advance (length u - keep s.seen) s
  pub rest : u' ≡ drop (length u - keep s.seen) u

-- what each step was for
abbrev pub StepMeans : Stream → List ℕ → Step Stream Event → Type 0
StepMeans s u (dry s' u') = UnitWaits s u s' u' ⊎ (CandidateWaits s u s' u' ⊎ FindsNone s u s' u')
StepMeans s u (quiet s' u') = GainsLock s u s' ⊎ QuietLoss s u s'
StepMeans s u (speak (handed x) s' u') = Hands s u x s' u'
StepMeans s u (speak (too_short a m p) s' u') = Number5 s u a m p s'
StepMeans s u (speak (failed p) s' u') = Number6 s u p s'
