-- The reader's calls follow the rules: a piece that is taken stands behind the unread bytes, a request is the rules' request, and a record that
-- fits still fits.
use Rattle.std.specs.Prelude.{ℕ, ◌+◌, ◌-◌, ◌≤◌, ◌<◌, ◌≡◌, Bool, List, [], ◌++◌, leb, ltb, take, drop, Result, Ok, Err}
use Rattle.std.proofs.Common.{arith, ap₂, ◌∙◌, subst, length-append, length-drop, leb-true, ltb-true, ne_eqb}
use Rattle.std.proofs.Math.Path.{refl, sym, ap}
use Rattle.std.proofs.Math.Bool.{true, false, not}
use Rattle.std.proofs.lemmas.Bool.{false≢true, eqb-false}
use Rattle.std.proofs.Math.Dec.{eqb}
use Rattle.std.proofs.Math.ListN.{length}
use Rattle.laws.specs.Pick.{pick}
use Rattle.laws.specs.Parts.{part, length_part, drop_part}
use Rattle.machine.specs.Step.{Rests}
use Rattle.machine.specs.Scan as Scan
use Rattle.machine.specs.Scan.{request, ran_dry, spoke, Asks, runs_dry, goes_on, speaks}
use Rattle.machine.proofs.ScanLaws.{request_asks}
use Rattle.machine.specs.History.{taken, refused, Grown, Takes, Answers, Follows, Opens, Log, after_next, turn, ask}
use Rattle.machine.specs.Ask.{moved}
use Rattle.machine.specs.Always.{AfterRequest, OnSpeak, Consumed}
use Rattle.machine.proofs.AlwaysLaws.{after_map, request_always, request_consumes}
use Rattle.machine.specs.Lent.{paste}
use Rattle.machine.proofs.LentLaws.{length_paste, part_pasted}
use Rattle.crc.specs.declared.Algorithm.{Algorithm}
use Rattle.rules.specs.declared.Stream.{Stream}
use Rattle.rules.specs.declared.Verdict.{Verdict}
use Rattle.rules.specs.declared.Verdict.TheVariants.{Lock, Lost, Short, Failed, Whole}
use Rattle.rules.specs.Request.{Event, handed, too_short, failed, arrive, act, search, step_by, reader, new}
use Rattle.rules.specs.Search.{find}
use Rattle.laws.specs.First.{first_from}
use Rattle.rules.proofs.StepLaws.{step_shows}
use Rattle.rules.proofs.RulesLaws.{reader_laws}
use Rattle.rules.specs.States.{Fit, at}
use Rattle.rules.proofs.FitLaws.{fit_step, reader_counts}
use Rattle.buffer.specs.Laws.{start_inside}
use Rattle.extract.specs.declared.Extractor.{Extractor}
use Rattle.extract.specs.declared.Refusal.{Refusal}
use Rattle.extract.specs.declared.Refusal.TheVariants.{Record, Pushes, Total, Room}
use Rattle.extract.specs.declared.Answer.{Answer}
use Rattle.extract.specs.declared.Answer.TheVariants.{Unit as AUnit, InvalidAccessUnitLength, ParityCheckFailed, InsufficientData, Quiet}
use Rattle.extract.specs.Record.{most, fits_of, unread_of, unread}
use Rattle.extract.specs.Fits.{Fits, fits_when}
use Rattle.extract.specs.Calls.{push_answer_of, place_of, grown, on_accepted, pushed_of, buffer_of, left_at, answer_of, answered_of, asked_of}
use Rattle.history.specs.Held.{Held, push_of, tell_of, next_of, calls, opened_on, view}

-- 1. A PIECE

-- a piece that is accepted fits: what the tests say
pub record Taken (r : Extractor) (n k : ℕ) : Type 0 where
  pub pushes : r.unanswered < 65535
  pub total : r.accepted + k ≤ most
  pub room : unread_of r + k ≤ n

accepted_by : (f u t m : Bool) → ◌≡◌ {A = Result (Unit {0}) Refusal} (pick f (pick u (pick t (pick m (Ok tt) (Err Room)) (Err Total)) (Err Pushes)) (Err Record)) (Ok tt) → (u ≡ true) × (t ≡ true) × (m ≡ true)
accepted_by true true true true e = (refl, refl, refl)
accepted_by true true true false e = (cc, cc, cc)
accepted_by true true false m e = (cc, cc, cc)
accepted_by true false t m e = (cc, cc, cc)
accepted_by false u t m e = (cc, cc, cc)

pub accepted_says : (r : Extractor) (n k : ℕ) → push_answer_of r n k ≡ Ok tt → Taken r n k
unfolding push_answer_of
accepted_says r n k e =
    let w = accepted_by (fits_of r n) (ltb r.unanswered 65535) (leb (r.accepted + k) most) (leb (unread_of r + k) n) e in
    record { pushes = ltb-true _ _ w.0; total = leb-true _ _ w.1; room = leb-true _ _ w.2 }

module _ (h : Held) (p : List ℕ) (fit : Fits h.extractor (length h.buffer)) where
  abbrev pub r : Extractor
  r = h.extractor

  abbrev pub n : ℕ
  n = length h.buffer

  abbrev pub k : ℕ
  k = length p

  -- the new stretch lies within the buffer
  place_inside : unread_of r + k ≤ n → place_of r n k + (unread_of r + k) ≤ n
  place_inside = start_inside r.start r.end n k fit.itself.order fit.inside

  abbrev grown_held : Held
  grown_held = record { extractor = grown r (place_of r n k) k; buffer = paste h.buffer (place_of r n k) (unread r h.buffer ++ p) }

  pub unread_length : length (unread r h.buffer) ≡ unread_of r
  unread_length = let o = fit.itself.order in let i = fit.inside in length_part h.buffer r.start (unread_of r) (omega arith)

  joined_length : length (unread r h.buffer ++ p) ≡ unread_of r + k
  joined_length = length-append (unread r h.buffer) p ∙ ap (λ (m : ℕ). m + k) unread_length

  grows : Taken r n k → Grown view h p grown_held
  grows t =
      let l = place_inside t.room in
      let j = joined_length in
      let same : length grown_held.buffer ≡ n = length_paste h.buffer (place_of r n k) (unread r h.buffer ++ p) (omega arith) in
      let span : place_of r n k + unread_of r + k - place_of r n k ≡ length (unread r h.buffer ++ p) = omega arith in
      let i = fit.itself in
      let a = i.adds in
      let c = t.pushes in
      let m = t.total in
      record {
        fits = record {
          itself = record {
            order = omega arith;
            adds = omega arith;
            total = m;
            counted = i.counted;
            pushes = omega arith;
            few = i.few;
            seen = i.seen;
          };
          low = rw same fit.low;
          high = rw same fit.high;
          inside = rw same (omega arith);
        };
        state = refl;
        unread = ap (part grown_held.buffer (place_of r n k)) span ∙ part_pasted h.buffer (place_of r n k) (unread r h.buffer ++ p) (omega arith);
        waits = ap not (ne_eqb (r.unanswered + 1) 0 (λ z. omega arith));
      }

  pub takes : Takes view h p (push_of h p)
  unfolding push_of pushed_of buffer_of
  takes = go (push_answer_of r n k) refl
    where
      go : (a : Result (Unit {0}) Refusal) → push_answer_of r n k ≡ a
          → Takes view h p
          (on_accepted a (taken (record { extractor = on_accepted a (grown r (place_of r n k) k) r; buffer = on_accepted a (paste h.buffer (place_of r n k) (unread r h.buffer ++ p)) h.buffer }))
          (refused (record { extractor = on_accepted a (grown r (place_of r n k) k) r; buffer = on_accepted a (paste h.buffer (place_of r n k) (unread r h.buffer ++ p)) h.buffer })))
      go (Ok tt) e = grows (accepted_says r n k e)
      go (Err x) e = refl

-- 2. A REQUEST

-- a spoken error gives the position after it
abbrev SpokenAt : Event → Stream → Type 0
SpokenAt (handed x) s = Unit {0}
SpokenAt (too_short a m p) s = p ≡ s.consumed
SpokenAt (failed p) s = p ≡ s.consumed

act_speaks_at : (s : Stream) (v : Verdict) (k : ℕ) (bs w : List ℕ) → OnSpeak (λ e s' u'. SpokenAt e s') (moved (act s v k bs) w)
unfolding act moved
act_speaks_at s (Lock c) k bs w = tt
act_speaks_at s (Lost l) k bs w = tt
act_speaks_at s (Short a m) k bs w = refl
act_speaks_at s Failed k bs w = refl
act_speaks_at s (Whole major) k bs w = tt

step_speaks_at : (s : Stream) (u : List ℕ) → OnSpeak (λ e s' u'. SpokenAt e s') (step_by s.locked s u)
step_speaks_at s u =
    step_shows (OnSpeak (λ e s' u'. SpokenAt e s')) s u
    (record {
      waits = λ e d. tt;
      decides = λ e r g k l d. act_speaks_at s g.answer g.eaten (take g.eaten u) (drop g.eaten u);
      misses = λ e f. tt;
      finds = λ e n f d. tt;
      judges = λ e n f r g k l d. act_speaks_at (arrive n u s) g.answer g.eaten (take g.eaten (drop n u)) (drop g.eaten (drop n u));
    })

abbrev AnswerAt : Scan.Answer Stream Event → Type 0
AnswerAt (ran_dry s u) = Unit {0}
AnswerAt (spoke e s u) = SpokenAt e s

asks_speak_at : (s : Stream) (u : List ℕ) (a : Scan.Answer Stream Event) → Asks reader s u a → AnswerAt a
asks_speak_at s u a (runs_dry p) = tt
asks_speak_at s u a (goes_on {s' = s'} {u' = u'} p t) = asks_speak_at s' u' a t
asks_speak_at s u a (speaks p) = subst (OnSpeak (λ e s' u'. SpokenAt e s')) p (step_speaks_at s u)

module _ (h : Held) (fit : Fits h.extractor (length h.buffer)) where
  abbrev pub r₁ : Extractor
  r₁ = h.extractor

  -- where a request leaves the stream and the unread bytes
  pub record Left (s : Stream) (u : List ℕ) : Type 0 where
    pub consumed : Consumed at r₁.stream (unread r₁ h.buffer) s u
    pub fits : Fit s (length u)

  abbrev pub LeftBy : Scan.Answer Stream Event → Type 0
  LeftBy (ran_dry s u) = Left s u
  LeftBy (spoke e s u) = Left s u

  stream_fits : Fit r₁.stream (length (unread r₁ h.buffer))
  stream_fits =
      let i = fit.itself in
      let a = i.adds in
      let t = i.total in
      rw (unread_length h [] fit) (record { total = omega arith; counted = i.counted; few = i.few; seen = i.seen })

  pub leaves : (a : Scan.Answer Stream Event) → request reader r₁.stream (unread r₁ h.buffer) ≡ a → LeftBy a
  leaves a e =
      both a
      (subst (AfterRequest (λ es. Consumed at r₁.stream (unread r₁ h.buffer)) []) e (request_consumes reader at reader_counts reader_laws r₁.stream (unread r₁ h.buffer)))
      (subst (AfterRequest (λ es s u. Fit s (length u)) []) e (request_always reader reader_laws (λ es s u. Fit s (length u)) (λ es s u f. after_map (λ fs s' u'. Fit s' (length u')) (λ fs s' u'. Fit s' (length u')) [] es (λ fs s' u' x. x) (step_by s.locked s u) (fit_step s u f)) [] r₁.stream (unread r₁ h.buffer) stream_fits))
    where
      both : (a : Scan.Answer Stream Event) → AfterRequest (λ es. Consumed at r₁.stream (unread r₁ h.buffer)) [] a → AfterRequest (λ es s u. Fit s (length u)) [] a → LeftBy a
      both (ran_dry s u) c f = record { consumed = c; fits = f }
      both (spoke e s u) c f = record { consumed = c; fits = f }

  abbrev held_at : Stream → List ℕ → ℕ → Held
  held_at s u pushes = record { extractor = left_at r₁ pushes (r₁.end - length u) s; buffer = h.buffer }

  module _ (s : Stream) (u : List ℕ) (l : Left s u) where
    -- what is left stands at the end of the stretch
    pub left_length : length u + l.consumed.bytes ≡ unread_of r₁
    left_length =
        let c = l.consumed.there in
        let m : length u ≡ length (unread r₁ h.buffer) - l.consumed.bytes = ap length l.consumed.left ∙ length-drop l.consumed.bytes (unread r₁ h.buffer) in
        let v = unread_length h [] fit in
        omega arith

    left_unread : (pushes : ℕ) → unread (left_at r₁ pushes (r₁.end - length u) s) h.buffer ≡ u
    left_unread pushes =
        let o = fit.itself.order in
        let n = left_length in
        let start : r₁.end - length u ≡ r₁.start + l.consumed.bytes = omega arith in
        let span : r₁.end - (r₁.end - length u) ≡ unread_of r₁ - l.consumed.bytes = omega arith in
        ap₂ (part h.buffer) start span ∙ sym (drop_part h.buffer r₁.start (unread_of r₁) l.consumed.bytes) ∙ sym l.consumed.left

    left_fits : (pushes : ℕ) → pushes ≤ 65535 → Fits (left_at r₁ pushes (r₁.end - length u) s) (length h.buffer)
    left_fits pushes few =
        let i = fit.itself in
        let o = i.order in
        let a = i.adds in
        let n = left_length in
        let c = l.consumed.counted in
        let f = l.fits in
        record {
          itself = record {
            order = omega arith;
            adds = omega arith;
            total = i.total;
            counted = f.counted;
            pushes = few;
            few = f.few;
            seen = f.seen;
          };
          low = fit.low;
          high = fit.high;
          inside = fit.inside;
        }

  -- the answers, by what the rules' request answers
  answers_by : (some : (r₁.unanswered ≡ 0 → ⊥)) (a : Scan.Answer Stream Event) → request reader r₁.stream (unread r₁ h.buffer) ≡ a → LeftBy a → AnswerAt a
      → Answers reader view h true (tell_of (answered_of r₁ a).answer (record { extractor = (answered_of r₁ a).extractor; buffer = h.buffer }))
  unfolding answered_of
  answers_by some (ran_dry s u) e l p = dry_by s.locked
    where
      dry_by : (b : Bool) → Answers reader view h true (tell_of (Ok (pick b InsufficientData Quiet)) (held_at s u (r₁.unanswered - 1)))
      dry_by true = (ap (ran_dry s) (left_unread s u l (r₁.unanswered - 1)) ∙ sym e, left_fits s u l (r₁.unanswered - 1) (let q = fit.itself.pushes in omega arith))
      dry_by false = (ap (ran_dry s) (left_unread s u l (r₁.unanswered - 1)) ∙ sym e, left_fits s u l (r₁.unanswered - 1) (let q = fit.itself.pushes in omega arith))
  answers_by some (spoke x s u) e l p = spoken_by_lem x e p
    where
      stays : (Fits (left_at r₁ r₁.unanswered (r₁.end - length u) s) (length h.buffer)) × (not (eqb r₁.unanswered 0) ≡ true)
      stays = (left_fits s u l r₁.unanswered fit.itself.pushes, ap not (ne_eqb r₁.unanswered 0 some))

      spoken_by_lem : (x : Event) → request reader r₁.stream (unread r₁ h.buffer) ≡ spoke x s u → SpokenAt x s
          → Answers reader view h true (tell_of (Ok (answer_of (r₁.end - length u) x)) (held_at s u r₁.unanswered))
      spoken_by_lem (handed y) e p = (ap (spoke (handed y) s) (left_unread s u l r₁.unanswered) ∙ sym e, stays)
      spoken_by_lem (too_short a m q) e p =
          (ap₂ (λ z w. spoke (too_short a m z) s w) (sym p) (left_unread s u l r₁.unanswered) ∙ sym e, stays)
      spoken_by_lem (failed q) e p = (ap₂ (λ z w. spoke (failed z) s w) (sym p) (left_unread s u l r₁.unanswered) ∙ sym e, stays)

  -- what the rules' request answers
  abbrev whole : Scan.Answer Stream Event
  whole = request reader r₁.stream (unread r₁ h.buffer)

  pub answers : Answers reader view h (not (eqb r₁.unanswered 0)) (next_of h)
  unfolding next_of asked_of
  answers = rw (fits_when r₁ (length h.buffer) fit) (go (eqb r₁.unanswered 0) refl)
    where
      go : (b : Bool) → eqb r₁.unanswered 0 ≡ b
          → Answers reader view h (not b)
          (tell_of (pick b (record { extractor = r₁; answer = Ok Quiet }) (answered_of r₁ whole)).answer
          (record { extractor = (pick b (record { extractor = r₁; answer = Ok Quiet }) (answered_of r₁ whole)).extractor; buffer = h.buffer }))
      go true e = refl
      go false e =
          answers_by (eqb-false r₁.unanswered 0 e) whole refl (leaves whole refl) (asks_speak_at r₁.stream (unread r₁ h.buffer) whole (request_asks reader reader_laws r₁.stream (unread r₁ h.buffer)))

-- 3. THE WHOLE

pub follows : Follows reader view calls
follows = record { takes = takes; answers = answers }

new_rests : (a : Algorithm) → Rests reader (new a) []
unfolding step_by search find first_from
new_rests a = refl

-- a new reader with nothing unread rests, and fits its buffer
pub opens : (a : Algorithm) (buffer : List ℕ) → 8192 ≤ length buffer → length buffer ≤ 1048576 → Opens reader view (new a) (opened_on a buffer)
opens a buffer low high =
    record {
      fits = record {
        itself = record {
          order = omega arith;
          adds = refl;
          total = omega arith;
          counted = omega arith;
          pushes = omega arith;
          few = omega arith;
          seen = λ e. absurd (false≢true e);
        };
        low = low;
        high = high;
        inside = omega arith;
      };
      state = refl;
      unread = refl;
      rests = new_rests a;
    }

-- a request leaves the buffer as it was
tells_on : (l : Log Held Event) (b : List ℕ) (a : Result Answer Refusal) (x : Held) → x.buffer ≡ b → (after_next l (tell_of a x)).now.buffer ≡ b
unfolding after_next
tells_on l b (Ok (AUnit u s)) x e = e
tells_on l b (Ok (InvalidAccessUnitLength n m)) x e = e
tells_on l b (Ok ParityCheckFailed) x e = e
tells_on l b (Ok InsufficientData) x e = e
tells_on l b (Ok Quiet) x e = e
tells_on l b (Err r) x e = e

pub next_writes_nothing : (l : Log Held Event) → (turn calls l ask).now.buffer ≡ l.now.buffer
unfolding turn next_of
next_writes_nothing l = tells_on l l.now.buffer (asked_of l.now.extractor l.now.buffer).answer _ refl
