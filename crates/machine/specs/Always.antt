-- What may hold of a reader at all times, and what a step must keep for it: definitions only.
-- A property speaks of the accepted bytes, the events so far, the state and the unread bytes.
use Rattle.std.specs.Prelude.{◌≡◌, List, [], ◌∷◌, ◌++◌, ℕ, suc, ◌+◌, ◌≤◌, length, drop}
use Rattle.machine.specs.Step.{Step, dry, quiet, speak, Machine}
use Rattle.machine.specs.Scan.{Answer, ran_dry, spoke}

module _ {S E : Type 0} where
  -- J of the events so far, the state and the unread bytes, after a step ..
  abbrev pub AfterStep : (List E → S → List ℕ → Type 0) → List E → Step S E → Type 0
  AfterStep J es (dry s u) = J es s u
  AfterStep J es (quiet s u) = J es s u
  AfterStep J es (speak e s u) = J (es ++ (e ∷ [])) s u

  -- .. and after a request.
  abbrev pub AfterRequest : (List E → S → List ℕ → Type 0) → List E → Answer S E → Type 0
  AfterRequest J es (ran_dry s u) = J es s u
  AfterRequest J es (spoke e s u) = J (es ++ (e ∷ [])) s u

  -- P of what a step speaks, and of the state and the unread bytes after it.
  abbrev pub OnSpeak : (E → S → List ℕ → Type 0) → Step S E → Type 0
  OnSpeak P (dry s u) = Unit {0}
  OnSpeak P (quiet s u) = Unit {0}
  OnSpeak P (speak e s u) = P e s u

  -- J is kept by every step.
  abbrev pub Kept : Machine S E → (List E → S → List ℕ → Type 0) → Type 0
  Kept m J = (es : List E) (s : S) (u : List ℕ) → J es s u → AfterStep J es (m.step s u)

  -- I is kept by every step, and by every piece that arrives.
  pub record Lasts (m : Machine S E) (I : List ℕ → List E → S → List ℕ → Type 0) : Type 0 where
    pub steps : (a : List ℕ) → Kept m (I a)
    pub grows : (a p : List ℕ) (es : List E) (s : S) (u : List ℕ) → I a es s u → I (a ++ p) es s (u ++ p)

-- Properties of lists of events.
module _ {E : Type 0} where
  -- P of every event and its number, counted from k.
  abbrev pub Numbered : (ℕ → E → Type 0) → ℕ → List E → Type 0
  Numbered P k [] = Unit {0}
  Numbered P k (e ∷ es) = P k e × Numbered P (suc k) es

  -- P of every event.
  abbrev pub Every : (E → Type 0) → List E → Type 0
  Every P es = Numbered (λ k. P) 0 es

  -- R of every event and every later one.
  abbrev pub Ordered : (E → E → Type 0) → List E → Type 0
  Ordered R [] = Unit {0}
  Ordered R (e ∷ es) = Every (R e) es × Ordered R es

-- Where a reader stands: `at` counts the consumed bytes.
module _ {S : Type 0} where
  -- From (s, u) to (s', u') some bytes at the front were consumed, and counted.
  pub record Consumed (at : S → ℕ) (s : S) (u : List ℕ) (s' : S) (u' : List ℕ) : Type 0 where
    pub bytes : ℕ
    pub there : bytes ≤ length u
    pub left : u' ≡ drop bytes u
    pub counted : at s' ≡ at s + bytes

  -- The unread bytes are the accepted ones from the position on, and consumed plus unread is the accepted total.
  pub record Placed (at : S → ℕ) (a : List ℕ) (s : S) (u : List ℕ) : Type 0 where
    pub unread : u ≡ drop (at s) a
    pub total : at s + length u ≡ length a

module _ {S E : Type 0} where
  -- Every step consumes bytes at the front, and counts them.
  abbrev pub Counts : Machine S E → (S → ℕ) → Type 0
  Counts m at = (s : S) (u : List ℕ) → AfterStep (λ es. Consumed at s u) [] (m.step s u)
