-- A request and a scan, over any machine: definitions only.
-- Each is given twice, as a function and as a relation in document 01's words, and ScanLaws shows that the two are one.
use Rattle.std.specs.Prelude.{◌≡◌, List, [], ◌∷◌, ◌++◌, ℕ}
use Rattle.machine.specs.Step.{Step, dry, quiet, speak, Machine}
use Rattle.machine.specs.Loop.{looped}

-- A request answers that it ran dry, or speaks; with the state and the unread bytes afterwards.
pub data Answer (S E : Type 0) : Type 0 where
  ran_dry : S → List ℕ → Answer S E
  spoke : E → S → List ℕ → Answer S E

-- A scan gives all that is spoken, and the state and the unread bytes at its end.
pub record Result (S E : Type 0) : Type 0 where
  pub events : List E
  pub final : S
  pub rest : List ℕ

module _ {S E : Type 0} where
  -- A request goes on after a quiet step, in the same request; a dry or a spoken step ends it.
  unfoldable pub onward : (S → List ℕ → Answer S E) → Step S E → Answer S E
  onward again (dry s u) = ran_dry s u
  onward again (quiet s u) = again s u
  onward again (speak e s u) = spoke e s u

  -- A request: steps until one is dry or spoken.
  unfoldable pub request : Machine S E → S → List ℕ → Answer S E
  request m = looped m.size ran_dry (λ again s u. onward again (m.step s u))

  -- Nothing spoken.
  abbrev pub nothing : S → List ℕ → Result S E
  nothing s u = record { events = []; final = s; rest = u }

  -- Some events ahead of what a scan gives.
  abbrev pub before : List E → Result S E → Result S E
  before es r = record { events = es ++ r.events; final = r.final; rest = r.rest }

  -- A scan goes on after a spoken answer; a dry one ends it.
  unfoldable pub until_dry : (S → List ℕ → Result S E) → Answer S E → Result S E
  until_dry again (ran_dry s u) = nothing s u
  until_dry again (spoke e s u) = before (e ∷ []) (again s u)

  -- "asked by these rules until dry": requests until one runs dry. A fresh scan is the scan from the new reader's state.
  unfoldable pub scan : Machine S E → S → List ℕ → Result S E
  scan m = looped m.size nothing (λ again s u. until_dry again (request m s u))

  -- A request in document 01's words: a dry step ends it, after a quiet one it goes on within the same request, a spoken one is its answer.
  pub data Asks (m : Machine S E) : S → List ℕ → Answer S E → Type 0 where
    runs_dry : {s s' : S} {u u' : List ℕ} → m.step s u ≡ dry s' u' → Asks m s u (ran_dry s' u')
    goes_on : {s s' : S} {u u' : List ℕ} {a : Answer S E} → m.step s u ≡ quiet s' u' → Asks m s' u' a → Asks m s u a
    speaks : {s s' : S} {u u' : List ℕ} {e : E} → m.step s u ≡ speak e s' u' → Asks m s u (spoke e s' u')

  -- A scan in document 01's words: requests, until one runs dry.
  pub data Scans (m : Machine S E) : S → List ℕ → Result S E → Type 0 where
    ends : {s s' : S} {u u' : List ℕ} → request m s u ≡ ran_dry s' u' → Scans m s u (nothing s' u')
    one_more : {s s' : S} {u u' : List ℕ} {e : E} {r : Result S E} → request m s u ≡ spoke e s' u' → Scans m s' u' r → Scans m s u (before (e ∷ []) r)
