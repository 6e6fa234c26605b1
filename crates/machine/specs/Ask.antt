-- Questions to the unread bytes, as data: definitions only.
-- A format writes its decisions as questions, so that they read like its rules, and AskLaws shows once that more bytes change no answer.
use Rattle.std.specs.Prelude.{◌≡◌, Bool, true, false, List, ℕ, suc, ◌≤◌, max, leb, length, take, drop}
use Rattle.std.proofs.Math.Option.{Option, none, some}
use Rattle.laws.specs.Pick.{pick}
use Rattle.laws.specs.Parts.{byte_at}
use Rattle.machine.specs.Step.{Step, dry, quiet, speak}

-- A question, of which the bytes give the answer.
pub data Ask (A : Type 0) : Type 0 where
  -- the answer
  done : A → Ask A
  -- byte i, given to the rest; a missing byte means no answer yet
  byte : ℕ → (ℕ → Ask A) → Ask A
  -- the first n bytes, given to the rest; fewer mean no answer yet
  front : ℕ → (List ℕ → Ask A) → Ask A
  -- a test on what is known
  either : Bool → Ask A → Ask A → Ask A

module _ {A : Type 0} where
  -- What the bytes answer, if they do.
  unfoldable pub ask : Ask A → List ℕ → Option A
  ask (done a) u = some a
  ask (byte i k) u = pick (leb (suc i) (length u)) (ask (k (byte_at u i)) u) none
  ask (front n k) u = pick (leb n (length u)) (ask (k (take n u)) u) none
  ask (either b p q) u = pick b (ask p u) (ask q u)

-- The byte at a place.
abbrev pub peek : ℕ → Ask ℕ
peek i = byte i done

-- The first so many bytes.
abbrev pub first : ℕ → Ask (List ℕ)
first n = front n done

-- One question, then another that knows its answer.
module _ {A B : Type 0} where
  infixl 20 ◌>>=◌
  abbrev pub ◌>>=◌ : Ask A → (A → Ask B) → Ask B
  (done a) >>= f = f a
  (byte i k) >>= f = byte i (λ b. k b >>= f)
  (front n k) >>= f = front n (λ bs. k bs >>= f)
  (either b p q) >>= f = either b (p >>= f) (q >>= f)

-- A decision: an answer, and how many bytes it eats.
pub record Eat (A : Type 0) : Type 0 where
  pub eaten : ℕ
  pub answer : A

module _ {A : Type 0} where
  -- Eat n bytes and answer a.
  abbrev pub eat : ℕ → A → Ask (Eat A)
  eat n a = done (record { eaten = n; answer = a })

  -- The bytes that a decision eats are waited for.
  unfoldable pub arrived : List ℕ → Option (Eat A) → Option (Eat A)
  arrived u none = none
  arrived u (some g) = pick (leb g.eaten (length u)) (some g) none

  -- The decision, once it is made and the bytes that it eats are there.
  unfoldable pub decide : Ask (Eat A) → List ℕ → Option (Eat A)
  decide q u = arrived u (ask q u)

-- What a decision does: it goes to a state, silently or with an event. It can't look at the bytes behind those that it eats.
pub data Move (S E : Type 0) : Type 0 where
  silent : S → Move S E
  aloud : E → S → Move S E

module _ {S E : Type 0} where
  -- The state that a move goes to.
  abbrev pub goal : Move S E → S
  goal (silent s) = s
  goal (aloud e s) = s

  -- A move as a step, with the bytes that are left.
  unfoldable pub moved : Move S E → List ℕ → Step S E
  moved (silent s) u = quiet s u
  moved (aloud e s) u = speak e s u

module _ {A S E : Type 0} where
  -- The step that a decision makes: dry while there is none; else `act` is given the answer, how many bytes it eats, and these.
  unfoldable pub settle : (A → ℕ → List ℕ → Move S E) → S → List ℕ → Option (Eat A) → Step S E
  settle act s u none = dry s u
  settle act s u (some g) = moved (act g.answer g.eaten (take g.eaten u)) (drop g.eaten u)

  -- A reader that puts one question at every step, which its state chooses.
  unfoldable pub asking : (S → Ask (Eat A)) → (S → A → ℕ → List ℕ → Move S E) → S → List ℕ → Step S E
  asking question act s u = settle (act s) s u (decide (question s) u)

-- A rule that every answer of a question keeps, whatever the bytes: P r a, where r bytes were looked at before a was answered.
module _ {A : Type 0} where
  abbrev pub All : (ℕ → A → Type 0) → ℕ → Ask A → Type 0
  All P r (done a) = P r a
  All P r (byte i k) = (b : ℕ) → All P (max r (suc i)) (k b)
  All P r (front n k) = (bs : List ℕ) → All P (max r n) (k bs)
  All P r (either b p q) = (b ≡ true → All P r p) × (b ≡ false → All P r q)

  -- At most N bytes are waited for.
  abbrev pub Upto : ℕ → ℕ → Eat A → Type 0
  Upto N r g = max r g.eaten ≤ N

  -- A decision of the kind W looks at nothing past what it eats.
  abbrev pub Own : (A → Type 0) → ℕ → Eat A → Type 0
  Own W r g = W g.answer → r ≤ g.eaten
