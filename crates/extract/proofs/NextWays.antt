-- A request, turn by turn: what each way of its loop shows.
use Prim.Native.Nat.{ℕ, zero, suc, ◌+◌, ◌-◌, ◌≤◌, ◌<◌}
use native.Mathlib.Omega.{arith}
use mathlib.Core.Path.{◌≡◌, refl, sym, ap, ◌∙◌, subst}
use mathlib.Core.Bool.{Bool, true, false}
use mathlib.Core.List.{List, []}
use lib.ListN.{length, drop, length-take, length-drop}
use borrow.Author.Tests.{eq-eqb, ne_eqb}
use Rattle.laws.specs.Parts.{part, drop_part}
use Rattle.machine.specs.Step.{speak, Below}
use Rattle.machine.specs.Always.{AfterStep}
use Rattle.machine.specs.Scan.{request}
use Rattle.machine.proofs.ScanLaws.{request_dry, request_quiet, request_speak}
use Rattle.rules.specs.declared.Stream.{Stream}
use Rattle.rules.specs.declared.Unit.{Unit as TheUnit}
use Rattle.rules.specs.Request.{Event, handed, too_short, failed, step_by, size_of, reader}
use Rattle.rules.proofs.RulesLaws.{reader_laws}
use Rattle.rules.specs.States.{Fit}
use Rattle.rules.proofs.FitLaws.{fit_step}
use Rattle.extract.specs.declared.Extractor.{Extractor}
use Rattle.extract.specs.declared.Answer.TheVariants.{Unit as AUnit, InvalidAccessUnitLength, ParityCheckFailed, InsufficientData, Quiet as AQuiet}
use Rattle.extract.specs.declared.Refusal.TheVariants.{Record}
use Rattle.std.specs.Prelude.{Ok, Err}
use Rattle.extract.specs.declared.Asked.{Asked}
use Rattle.extract.specs.declared.step.Outcome.{Outcome}
use Rattle.extract.specs.declared.step.Outcome.TheVariants.{Dry, Quiet, Handed, TooShort, Failed}
use Rattle.extract.specs.declared.step.Stepped.{Stepped}
use Rattle.extract.specs.Record.{fits_of, unread}
use Rattle.extract.specs.Fits.{Fits, fits_says}
use Rattle.extract.specs.Steps.{outcome_of, Within, StepsAs}
use Rattle.extract.specs.Calls.{left_at, dry_at, spoken_at, answer_of, answered_of, asked_of}

-- the answers that a request leaves
module _ (r : Extractor) (at : ℕ) (s : Stream) {x : Extractor} (e : x ≡ left_at r (r.unanswered - 1) at s) where
  pub dry_locked : s.locked ≡ true → ◌≡◌ {A = Asked} (record { extractor = x; answer = Ok InsufficientData }) (dry_at r at s)
  dry_locked t = rw (e, t)

  pub dry_searching : s.locked ≡ false → ◌≡◌ {A = Asked} (record { extractor = x; answer = Ok AQuiet }) (dry_at r at s)
  dry_searching f = rw (e, f)

-- the bytes between two places
abbrev pub between : List ℕ → ℕ → ℕ → List ℕ
between buf at end = part buf at (end - at)

between_length : (buf : List ℕ) (at end : ℕ) → at ≤ end → end ≤ length buf → length (between buf at end) ≡ end - at
between_length buf at end o i = simp (length-take, length-drop) (omega arith)

between_rest : (buf : List ℕ) (at end n : ℕ) → drop n (between buf at end) ≡ between buf (at + n) end
between_rest buf at end n = let e : end - at - n ≡ end - (at + n) = omega arith in drop_part buf at (end - at) n ∙ ap (part buf (at + n)) e

-- Where a request stands: it will answer what it would have answered at its beginning.
pub record Going (r : Extractor) (buf : List ℕ) (s : Stream) (at : ℕ) : Type 0 where
  pub order : at ≤ r.end
  pub inside : r.end ≤ length buf
  pub fit : Fit s (r.end - at)
  pub same : request reader r.stream (unread r buf) ≡ request reader s (between buf at r.end)

pub going_begins : (r : Extractor) (buf : List ℕ) → Fits r (length buf) → Going r buf r.stream r.start
going_begins r buf f =
    let i = f.itself in
    let a = i.adds in
    let t = i.total in
    record {
      order = i.order;
      inside = f.inside;
      fit = record { total = omega arith; counted = i.counted; few = i.few; seen = i.seen };
      same = refl;
    }

-- the step's bytes are those between the two places
pub step_fit : (r : Extractor) (buf : List ℕ) (s : Stream) (at : ℕ) → Going r buf s at → Fit s (length (between buf at r.end))
step_fit r buf s at g = rw (between_length buf at r.end g.order g.inside) g.fit

module _ (r : Extractor) (buf : List ℕ) (s : Stream) (at : ℕ) (g : Going r buf s at) {x : Stepped} (e : StepsAs s (between buf at r.end) x) where
  stepped : (o : Outcome) → x.outcome ≡ o → step_by s.locked s (between buf at r.end) ≡ outcome_of o x.stream (between buf (at + x.eaten) r.end)
  stepped o q =
      sym e.same
      ∙ ap (λ (y : Outcome). outcome_of y x.stream (drop x.eaten (between buf at r.end))) q
      ∙ ap (outcome_of o x.stream) (between_rest buf at r.end x.eaten)

  -- the step consumed bytes that are there
  pub stays_inside : at + x.eaten ≤ r.end
  stays_inside = let t = e.there in let l = between_length buf at r.end g.order g.inside in let o = g.order in omega arith

  rest_length : length (between buf (at + x.eaten) r.end) ≡ r.end - (at + x.eaten)
  rest_length = between_length buf (at + x.eaten) r.end stays_inside g.inside

  start_back : r.end - length (between buf (at + x.eaten) r.end) ≡ at + x.eaten
  start_back = let l = rest_length in let i = stays_inside in omega arith

  -- a quiet step: the request goes on, with less before it
  module _ (q : x.outcome ≡ Quiet) where
    pub going_on : Going r buf x.stream (at + x.eaten)
    going_on =
        record {
          order = stays_inside;
          inside = g.inside;
          fit = subst (Fit x.stream) rest_length
              (subst (AfterStep (λ es s' u'. Fit s' (length u')) []) (stepped Quiet q) (fit_step s (between buf at r.end) (step_fit r buf s at g)));
          same = g.same ∙ request_quiet reader reader_laws s x.stream (between buf at r.end) (between buf (at + x.eaten) r.end) (stepped Quiet q);
        }

    pub going_less : size_of x.stream (between buf (at + x.eaten) r.end) < size_of s (between buf at r.end)
    going_less = subst (Below size_of (size_of s (between buf at r.end))) (stepped Quiet q) (reader_laws.less s (between buf at r.end))

  -- a dry step ends it
  pub ends_dry : x.outcome ≡ Dry → {a : Asked} → a ≡ dry_at r (at + x.eaten) x.stream → a ≡ answered_of r (request reader r.stream (unread r buf))
  unfolding answered_of
  ends_dry q h =
      h
      ∙ ap (λ (k : ℕ). dry_at r k x.stream) (sym start_back)
      ∙ sym
      (ap (answered_of r)
      (g.same ∙ request_dry reader reader_laws s x.stream (between buf at r.end) (between buf (at + x.eaten) r.end) (stepped Dry q)))

  -- a spoken step ends it
  ends_spoken : (v : Event) → step_by s.locked s (between buf at r.end) ≡ speak v x.stream (between buf (at + x.eaten) r.end)
      → {a : Asked} → a ≡ spoken_at r (at + x.eaten) x.stream (answer_of (at + x.eaten) v) → a ≡ answered_of r (request reader r.stream (unread r buf))
  unfolding answered_of
  ends_spoken v p h =
      h
      ∙ ap (λ (k : ℕ). spoken_at r k x.stream (answer_of k v)) (sym start_back)
      ∙ sym
      (ap (answered_of r)
      (g.same ∙ request_speak reader reader_laws v s x.stream (between buf at r.end) (between buf (at + x.eaten) r.end) p))

  pub handed_before : {y : TheUnit} → x.outcome ≡ Handed y → y.length ≤ at + x.eaten
  handed_before {y} q = let l : y.length ≤ x.eaten = subst (λ o. Within o x.eaten) q e.within in omega arith

  pub ends_handed : {y : TheUnit} → x.outcome ≡ Handed y → {a : Asked} → a ≡ spoken_at r (at + x.eaten) x.stream (AUnit y (at + x.eaten - y.length))
      → a ≡ answered_of r (request reader r.stream (unread r buf))
  ends_handed {y} q h = ends_spoken (handed y) (stepped (Handed y) q) h

  pub ends_short : {n m : ℕ} → x.outcome ≡ TooShort n m → {a : Asked} → a ≡ spoken_at r (at + x.eaten) x.stream (InvalidAccessUnitLength n m)
      → a ≡ answered_of r (request reader r.stream (unread r buf))
  ends_short {n} {m} q h = ends_spoken (too_short n m x.stream.consumed) (stepped (TooShort n m) q) h

  pub ends_failed : x.outcome ≡ Failed → {a : Asked} → a ≡ spoken_at r (at + x.eaten) x.stream ParityCheckFailed
      → a ≡ answered_of r (request reader r.stream (unread r buf))
  ends_failed q h = ends_spoken (failed x.stream.consumed) (stepped Failed q) h

pub some_unanswered : (n : ℕ) → (n ≡ 0 → ⊥) → 0 < n
some_unanswered zero f = absurd (f refl)
some_unanswered (suc n) f = omega arith

-- number 1, and nothing unanswered
module _ (r : Extractor) (buf : List ℕ) {x : Bool} (e : x ≡ fits_of r (length buf)) where
  pub asks_not : x ≡ false → ◌≡◌ {A = Asked} (record { extractor = r; answer = Err Record }) (asked_of r buf)
  unfolding asked_of
  asks_not f = rw (← e, f)

  module _ (t : x ≡ true) where
    pub asks_fit : Fits r (length buf)
    asks_fit = fits_says r (length buf) (sym e ∙ t)

    pub asks_nothing : r.unanswered ≡ 0 → ◌≡◌ {A = Asked} (record { extractor = r; answer = Ok AQuiet }) (asked_of r buf)
    unfolding asked_of
    asks_nothing z = rw (← e, t, eq-eqb r.unanswered 0 z)

    pub asks_on : (r.unanswered ≡ 0 → ⊥) → {a : Asked} → a ≡ answered_of r (request reader r.stream (unread r buf)) → a ≡ asked_of r buf
    unfolding asked_of
    asks_on n h = h ∙ rw (← e, t, ne_eqb r.unanswered 0 n)
