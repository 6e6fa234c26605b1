-- The part of the lent buffer that a request answers holds the unit's bytes.
use Prim.Native.Nat.{ℕ, ◌+◌, ◌-◌, ◌≤◌}
use native.Mathlib.Omega.{arith}
use Rattle.std.proofs.Math.Path.{◌≡◌, refl, sym, ap}
use Rattle.std.proofs.Common.{◌∙◌, subst, drop-drop, le-leb}
use Rattle.std.specs.Prelude.{Bool, take}
use Rattle.std.proofs.Math.Bool.{true, false}
use mathlib.Core.List.{List, []}
use Rattle.std.proofs.Math.Dec.{eqb}
use Rattle.std.proofs.Math.ListN.{length}
use Rattle.laws.specs.Pick.{pick}
use Rattle.laws.specs.Parts.{part, part_part}
use Rattle.machine.specs.Scan as Scan
use Rattle.machine.specs.Scan.{request, ran_dry, spoke, Asks, goes_on, speaks}
use Rattle.machine.proofs.ScanLaws.{request_asks}
use Rattle.machine.specs.Always.{AfterStep, OnSpeak, Consumed, Placed}
use Rattle.rules.specs.declared.Stream.{Stream}
use Rattle.rules.specs.declared.Unit.{Unit as TheUnit}
use Rattle.rules.specs.Request.{Event, handed, too_short, failed, reader}
use Rattle.rules.proofs.RulesLaws.{reader_laws}
use Rattle.rules.specs.States.{at}
use Rattle.rules.proofs.FitLaws.{reader_counts}
use Rattle.rules.specs.Units.{IfUnit, Hands}
use Rattle.rules.proofs.OutcomeLaws.{step_hands}
use Rattle.buffer.specs.Calls.{part_of}
use Rattle.extract.specs.declared.Extractor.{Extractor}
use Rattle.std.specs.Prelude.{Result, Ok}
use Rattle.extract.specs.declared.Answer.{Answer}
use Rattle.extract.specs.declared.Refusal.{Refusal}
use Rattle.extract.specs.declared.Answer.TheVariants.{Unit as AUnit, InsufficientData, Quiet}
use Rattle.extract.specs.Record.{unread_of, unread}
use Rattle.extract.specs.Fits.{Fits, fits_when}
use Rattle.extract.specs.Calls.{answered_of, asked_of}
use Rattle.history.specs.Held.{Held}
use Rattle.history.specs.HeldLaws.{leaves, left_length}

-- a unit is the last of what its request consumes
asks_hand : (s s' : Stream) (u u' : List ℕ) (x : TheUnit) → Asks reader s u (spoke (handed x) s' u') → (at s ≤ x.position.0) × (x.position.0 + x.length ≡ at s')
asks_hand s s' u u' x (goes_on {s' = s₁} {u' = u₁} p t) =
    let c : Consumed at s u s₁ u₁ = subst (AfterStep (λ es. Consumed at s u) []) p (reader_counts s u) in
    let n = c.counted in
    let w = asks_hand s₁ s' u₁ u' x t in
    (omega arith, w.1)
asks_hand s s' u u' x (speaks p) =
    let h : Hands s u x s' u' = subst (OnSpeak (λ e s₁ u₁. IfUnit (λ y. Hands s u y s₁ u₁) e)) p (step_hands s u) in
    let q : x.position.0 ≡ at s = ap (λ b. b.0) h.position in
    let z : at s' ≡ at s + x.length = ap at h.state in
    (omega arith, omega arith)

module _ (h : Held) (fit : Fits h.extractor (length h.buffer)) (accepted : List ℕ) (placed : Placed at accepted h.extractor.stream (unread h.extractor h.buffer))
    (x : TheUnit) (start : ℕ) where
  abbrev r : Extractor
  r = h.extractor

  abbrev Holds : Type 0
  Holds = part_of h.buffer start x.length ≡ part accepted x.position.0 x.length

  -- a unit that is handed out stands right before what is left
  holds : (s : Stream) (u : List ℕ) → request reader r.stream (unread r h.buffer) ≡ spoke (handed x) s u → start ≡ r.end - length u - x.length → Holds
  unfolding part_of
  holds s u e q =
      let l = leaves h fit (spoke (handed x) s u) e in
      let n = left_length h fit s u l in
      let c = l.consumed.counted in
      let w = asks_hand r.stream s (unread r h.buffer) u x (subst (Asks reader r.stream (unread r h.buffer)) e (request_asks reader reader_laws r.stream (unread r h.buffer))) in
      let o = fit.itself.order in
      let i = fit.inside in
      let d : ℕ = x.position.0 - at r.stream in
      let here : start ≡ r.start + d = omega arith in
      let there : at r.stream + d ≡ x.position.0 = omega arith in
      rw (le-leb (start + x.length) (length h.buffer) (omega arith))
      (ap (λ (k : ℕ). part h.buffer k x.length) here
      ∙ sym (part_part h.buffer r.start (unread_of r) d x.length (omega arith))
      ∙ ap (λ (t : List ℕ). part t d x.length) placed.unread
      ∙ ap (take x.length) (drop-drop d (at r.stream) accepted)
      ∙ ap (λ (k : ℕ). part accepted k x.length) there)

  by_answer : (a : Scan.Answer Stream Event) → request reader r.stream (unread r h.buffer) ≡ a → (answered_of r a).answer ≡ Ok (AUnit x start) → Holds
  unfolding answered_of
  by_answer (ran_dry s u) e q = absurd (never s.locked q)
    where
      never : (b : Bool) → ◌≡◌ {A = Result Answer Refusal} (Ok (pick b InsufficientData Quiet)) (Ok (AUnit x start)) → ⊥
      never true p = let z : ◌≡◌ {A = ℕ} 0 1 = cc in omega arith
      never false p = let z : ◌≡◌ {A = ℕ} 0 1 = cc in omega arith
  by_answer (spoke (handed y) s u) e q =
      let same : y ≡ x = cc in
      let at-it : start ≡ r.end - length u - y.length = cc in
      holds s u (e ∙ ap (λ z. spoke (handed z) s u) same) (at-it ∙ ap (λ z. r.end - length u - z.length) same)
  by_answer (spoke (too_short a m p) s u) e q = absurd (let z : ◌≡◌ {A = ℕ} 0 1 = cc in omega arith)
  by_answer (spoke (failed p) s u) e q = absurd (let z : ◌≡◌ {A = ℕ} 0 1 = cc in omega arith)

  -- Where a request answers a unit and its stretch, `part` gives the accepted bytes at the unit's position.
  pub part_is_the_unit : (asked_of r h.buffer).answer ≡ Ok (AUnit x start) → Holds
  unfolding asked_of
  part_is_the_unit q = go (eqb r.unanswered 0) refl (rw (fits_when r (length h.buffer) fit) at q)
    where
      go : (b : Bool) → eqb r.unanswered 0 ≡ b
          → (pick b (record { extractor = r; answer = Ok Quiet }) (answered_of r (request reader r.stream (unread r h.buffer)))).answer ≡ Ok (AUnit x start) → Holds
      go true e p = absurd (let z : ◌≡◌ {A = ℕ} 0 1 = cc in omega arith)
      go false e p = by_answer (request reader r.stream (unread r h.buffer)) refl p
