-- A history is any list of pieces and requests, each call given what the last one left: definitions only.
-- The calls are those of any carrier C (a record and the lent buffer, say), and a view reads a carrier in the machine's words.
use Rattle.std.specs.Prelude.{◌≡◌, Bool, true, false, List, [], ◌∷◌, ◌++◌, ℕ, zero, suc}
use Rattle.machine.specs.Step.{Machine, Rests}
use Rattle.machine.specs.Scan.{Answer, ran_dry, spoke, Result, request, scan}

-- 1. The calls, and what is noted of them.

-- A piece is taken or refused, and leaves a carrier.
pub data Pushed (C : Type 0) : Type 0 where
  taken : C → Pushed C
  refused : C → Pushed C

-- A request is dry (numbers 7 and 8) or tells something, and leaves a carrier.
pub data Asked (C E : Type 0) : Type 0 where
  dried : C → Asked C E
  told : E → C → Asked C E

-- The two calls of a reader.
pub record Calls (C E : Type 0) : Type 0 where
  pub push : C → List ℕ → Pushed C
  pub next : C → Asked C E

-- What a caller may do, in any order.
pub data Call : Type 0 where
  piece : List ℕ → Call
  ask : Call

-- What is noted: the carrier that the last call left, all accepted bytes, all that was handed out, and whether a request has run dry since
-- the last accepted piece.
pub record Log (C E : Type 0) : Type 0 where
  pub now : C
  pub accepted : List ℕ
  pub out : List E
  pub idle : Bool

module _ {C E : Type 0} where
  -- Nothing happened yet.
  abbrev pub opened : C → Log C E
  opened c = record { now = c; accepted = []; out = []; idle = false }

  -- A piece taken joins the accepted bytes; one refused doesn't.
  unfoldable pub after_push : Log C E → List ℕ → Pushed C → Log C E
  after_push l p (taken c) = record { now = c; accepted = l.accepted ++ p; out = l.out; idle = false }
  after_push l p (refused c) = record { now = c; accepted = l.accepted; out = l.out; idle = l.idle }

  -- What is told joins what was handed out.
  unfoldable pub after_next : Log C E → Asked C E → Log C E
  after_next l (dried c) = record { now = c; accepted = l.accepted; out = l.out; idle = true }
  after_next l (told e c) = record { now = c; accepted = l.accepted; out = l.out ++ (e ∷ []); idle = l.idle }

  -- One call, given what the last one left.
  unfoldable pub turn : Calls C E → Log C E → Call → Log C E
  turn r l (piece p) = after_push l p (r.push l.now p)
  turn r l ask = after_next l (r.next l.now)

  -- One call after another.
  unfoldable pub play : Calls C E → Log C E → List Call → Log C E
  play r l [] = l
  play r l (c ∷ cs) = play r (turn r l c) cs

  -- The log of some calls, from opening with c.
  abbrev pub history : Calls C E → C → List Call → Log C E
  history r c cs = play r (opened c) cs

-- So many requests in a row.
abbrev pub requests : ℕ → List Call
requests zero = []
requests (suc n) = ask ∷ requests n

-- 2. What a reader owes to a machine.

-- A carrier in the machine's words: its state, its unread bytes, whether a piece waits for an answer; and when it fits (number 1 isn't given).
pub record View (C S : Type 0) : Type 1 where
  pub state : C → S
  pub unread : C → List ℕ
  pub waits : C → Bool
  pub Fits : C → Type 0

module _ {C S : Type 0} where
  -- The piece stands behind the unread bytes and waits for an answer; the state is as it was.
  pub record Grown (v : View C S) (c : C) (p : List ℕ) (c' : C) : Type 0 where
    pub fits : v.Fits c'
    pub state : v.state c' ≡ v.state c
    pub unread : v.unread c' ≡ v.unread c ++ p
    pub waits : v.waits c' ≡ true

  -- A piece that is refused changes nothing.
  abbrev pub Takes : View C S → C → List ℕ → Pushed C → Type 0
  Takes v c p (taken c') = Grown v c p c'
  Takes v c p (refused c') = c' ≡ c

module _ {C S E : Type 0} where
  -- An answer in the machine's words.
  abbrev pub heard : View C S → Asked C E → Answer S E
  heard v (dried c) = ran_dry (v.state c) (v.unread c)
  heard v (told e c) = spoke e (v.state c) (v.unread c)

  -- A request leaves a carrier that fits, and one that tells something leaves the piece waiting.
  abbrev pub Stays : View C S → Asked C E → Type 0
  Stays v (dried c) = v.Fits c
  Stays v (told e c) = (v.Fits c) × (v.waits c ≡ true)

  -- Where a piece waits, a request is the machine's; where none does, it is dry and changes nothing.
  abbrev pub Answers : Machine S E → View C S → C → Bool → Asked C E → Type 0
  Answers m v c true x = (heard v x ≡ request m (v.state c) (v.unread c)) × Stays v x
  Answers m v c false x = x ≡ dried c

  -- What the calls owe to the machine, on every carrier that fits.
  pub record Follows (m : Machine S E) (v : View C S) (r : Calls C E) : Type 0 where
    pub takes : (c : C) (p : List ℕ) → v.Fits c → Takes v c p (r.push c p)
    pub answers : (c : C) → v.Fits c → Answers m v c (v.waits c) (r.next c)

  -- A carrier at opening: the new state, nothing unread; a machine in the new state with no bytes rests.
  pub record Opens (m : Machine S E) (v : View C S) (new : S) (c : C) : Type 0 where
    pub fits : v.Fits c
    pub state : v.state c ≡ new
    pub unread : v.unread c ≡ []
    pub rests : Rests m new []

-- 3. Demand 3.

-- A list begins with another.
pub record Begins {A : Type 0} (part whole : List A) : Type 0 where
  pub more : List A
  pub joined : whole ≡ part ++ more

module _ {C S E : Type 0} where
  -- What a reader shows: what it handed out, its state, its unread bytes; as a scan gives them.
  abbrev pub shown : View C S → Log C E → Result S E
  shown v l = record { events = l.out; final = v.state l.now; rest = v.unread l.now }

  -- The machine's size where a reader stands.
  abbrev pub size_now : Machine S E → View C S → Log C E → ℕ
  size_now m v l = m.size (v.state l.now) (v.unread l.now)

  -- The machine rests where a reader stands.
  abbrev pub RestsNow : Machine S E → View C S → Log C E → Type 0
  RestsNow m v l = Rests m (v.state l.now) (v.unread l.now)

  -- What was handed out so far are the first ones that a fresh scan of all accepted bytes gives. Once a request has run dry after the last
  -- accepted piece they are all of them, and state and unread bytes equal the fresh scan's.
  pub record Demand3 (m : Machine S E) (v : View C S) (new : S) (l : Log C E) : Type 0 where
    pub first : Begins l.out (scan m new l.accepted).events
    pub whole : l.idle ≡ true → scan m new l.accepted ≡ shown v l
