-- What one step of a reader may be, and the two laws that a format's step must keep: definitions only.
-- Nothing here knows a format: S is any state, E whatever can be spoken, and bytes are numbers.
use Rattle.std.specs.Prelude.{◌≡◌, List, ◌++◌, ℕ, ◌<◌}

-- One step on the unread bytes is dry, quiet, or spoken; each carries the state and the unread bytes afterwards.
pub data Step (S E : Type 0) : Type 0 where
  dry : S → List ℕ → Step S E
  quiet : S → List ℕ → Step S E
  speak : E → S → List ℕ → Step S E

-- A machine is its step, and a size that every step makes less, unless it is dry.
pub record Machine (S E : Type 0) : Type 0 where
  pub step : S → List ℕ → Step S E
  pub size : S → List ℕ → ℕ

module _ {S E : Type 0} where
  -- What a step on u makes of u ++ v: a decision stands, and the further bytes stay unread; a dry step is taken again where it ended.
  unfoldable pub further : (S → List ℕ → Step S E) → Step S E → List ℕ → Step S E
  further step (dry s u) v = step s (u ++ v)
  further step (quiet s u) v = quiet s (u ++ v)
  further step (speak e s u) v = speak e s (u ++ v)

  -- A step that isn't dry leaves a size below n.
  abbrev pub Below : (S → List ℕ → ℕ) → ℕ → Step S E → Type 0
  Below size n (dry s u) = Unit {0}
  Below size n (quiet s u) = size s u < n
  Below size n (speak e s u) = size s u < n

  -- The two laws: more bytes change no decision, and every step that isn't dry makes the size less.
  pub record Laws (m : Machine S E) : Type 0 where
    pub cut : (s : S) (u v : List ℕ) → m.step s (u ++ v) ≡ further m.step (m.step s u) v
    pub less : (s : S) (u : List ℕ) → Below m.size (m.size s u) (m.step s u)

  -- The machine rests here: its step is dry, and leaves all as it is.
  abbrev pub Rests : Machine S E → S → List ℕ → Type 0
  Rests m s u = m.step s u ≡ dry s u
