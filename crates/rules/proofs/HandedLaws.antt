-- Every unit handed out, in every history and every fresh scan: it stands among the accepted bytes, its timestamp stands ahead of it, units don't
-- overlap, and they are numbered one by one.
use Rattle.std.specs.Prelude.{◌≡◌, refl, List, [], ◌∷◌, ◌++◌, ℕ, suc, ◌+◌, ◌-◌, ◌≤◌, take, drop, Some}
use Rattle.std.proofs.Common.{sym, ap, ◌∙◌, subst, arith, zero-add, length-append}
use Rattle.std.proofs.lemmas.Bool.{false≢true}
use Rattle.laws.specs.Parts.{part, part_further}
use Rattle.machine.specs.Ask.{Eat, goal, moved}
use Rattle.machine.specs.Always.{AfterStep, OnSpeak, Placed, Lasts, Every, Ordered}
use Rattle.machine.proofs.AlwaysLaws.{after_map, speak_map, numbered_lasts, ordered_lasts, fresh_always}
use Rattle.crc.specs.declared.Algorithm.{Algorithm}
use Rattle.timestamp.specs.declared.Timestamp.{Timestamp}
use Rattle.rules.specs.Request.{arrive, Event, handed, too_short, failed, act, reader, new, fresh_scan}
use Rattle.rules.proofs.RulesLaws.{reader_laws}
use Rattle.rules.proofs.StepLaws.{step, verdict_step, step_shows, moved_shows}
use Rattle.rules.specs.States.{at, Standing, Passed, Numbers}
use Rattle.rules.specs.Units.{Stands, Hands, IfUnit, Follows, Carries, Stamped, Promised, Indexed, units_in}
use Rattle.rules.proofs.OutcomeLaws.{step_hands}
use Rattle.rules.proofs.StampLaws.{nothing_waits, standing_lasts}
use Rattle.rules.specs.declared.Stream.{Stream}
use Rattle.rules.specs.declared.Unit.{Unit as TheUnit}
use Rattle.rules.specs.declared.Verdict.{Verdict}
use Rattle.rules.specs.declared.Verdict.TheVariants.{Lock, Lost, Short, Failed, Whole}

-- 1. What a step hands out stands among the accepted bytes, and stays there.

hands_stands : (a : List ℕ) (s s' : Stream) (u u' : List ℕ) (x : TheUnit) → Placed at a s u → Hands s u x s' u' → Stands a x
hands_stands a s s' u u' x p h =
    record {
      there = rw h.position (let t = p.total in let l = h.there in omega arith);
      unit = rw same h.unit;
      major = rw same h.major;
    }
  where
    same : part a x.position.0 x.length ≡ take x.length u
    same = ap (λ q. part a q.0 x.length) h.position ∙ sym (ap (take x.length) p.unread)

hands_carries : (a : List ℕ) (s s' : Stream) (u u' : List ℕ) (x : TheUnit) → Stamped a s → Hands s u x s' u' → (t : Timestamp) → x.waiting ≡ Some t → Carries a x t
hands_carries a s s' u u' x q h t e =
    let w : s.waiting ≡ Some t = sym h.waiting ∙ e in
    record { first = h.index ∙ q.first t w; ahead = rw h.position (q.ahead t w) }

promised_grows : (a p : List ℕ) (x : TheUnit) → Promised a x → Promised (a ++ p) x
promised_grows a p x h =
    let l = h.stands.there in
    let same : part (a ++ p) x.position.0 x.length ≡ part a x.position.0 x.length = part_further a x.position.0 x.length l p in
    record {
      stands = record { there = rw (length-append a p) (omega arith); unit = rw same h.stands.unit; major = rw same h.stands.major };
      carries = λ t e.
          let c = h.carries t e in
          let m = c.ahead.there in
          record { first = c.first; ahead = record { there = m; parsed = rw (part_further a (x.position.0 - 16) 16 (omega arith) p) c.ahead.parsed } };
    }

if_unit : (P Q : TheUnit → Type 0) → ((x : TheUnit) → P x → Q x) → (e : Event) → IfUnit P e → IfUnit Q e
if_unit P Q f (handed x) h = f x h
if_unit P Q f (too_short a m p) h = tt
if_unit P Q f (failed p) h = tt

pub units_stand : Lasts reader (λ a es s u. Standing a s u × Every (IfUnit (Promised a)) es)
units_stand =
    numbered_lasts reader (λ a es s u. Standing a s u) standing_lasts (λ a k. IfUnit (Promised a))
    (λ a es s u h.
    speak_map _ _
    (λ e s' u'. if_unit (λ x. Hands s u x s' u') (Promised a)
    (λ x g. record { stands = hands_stands a s s' u u' x h.0 g; carries = hands_carries a s s' u u' x h.1 g }) e)
    (step s u) (step_hands s u))
    (λ a p k. if_unit (Promised a) (Promised (a ++ p)) (promised_grows a p))

-- 2. Units don't overlap.

abbrev Onward : Stream → Stream → Type 0
Onward s s' = (at s ≤ at s') × (s.frames ≤ s'.frames)

act_goes_on : (s₀ s : Stream) (w : Verdict) (n : ℕ) (bs : List ℕ) → Onward s₀ s → Onward s₀ (goal (act s w n bs))
unfolding act
act_goes_on s₀ s (Lock k) n bs h = h
act_goes_on s₀ s (Lost l) n bs h = (omega arith, h.1)
act_goes_on s₀ s (Short a m) n bs h = (omega arith, h.1)
act_goes_on s₀ s Failed n bs h = (omega arith, h.1)
act_goes_on s₀ s (Whole major) n bs h = (omega arith, omega arith)

verdict_goes_on : (s₀ s : Stream) (v : List ℕ) (g : Eat Verdict) → Onward s₀ s → AfterStep (λ es s' u'. Onward s₀ s') [] (verdict_step s v g)
verdict_goes_on s₀ s v g h =
    moved_shows (λ s' u'. Onward s₀ s') (act s g.answer g.eaten (take g.eaten v)) (drop g.eaten v) (act_goes_on s₀ s g.answer g.eaten (take g.eaten v) h)

step_goes_on : (s : Stream) (u : List ℕ) → AfterStep (λ es s' u'. Onward s s') [] (step s u)
step_goes_on s u =
    step_shows (AfterStep (λ es s' u'. Onward s s') []) s u
    (record {
      waits = λ e d. (omega arith, omega arith);
      decides = λ e r g k l d. verdict_goes_on s s u g (omega arith, omega arith);
      misses = λ e f. (omega arith, omega arith);
      finds = λ e n f d. (omega arith, omega arith);
      judges = λ e n f r g k l d. verdict_goes_on s (arrive n u s) (drop n u) g (omega arith, omega arith);
    })

pub units_apart : Lasts reader (λ a es s u. Standing a s u × Every (IfUnit (Passed s)) es × Ordered (λ d e. IfUnit (λ x. IfUnit (Follows x) e) d) es)
units_apart =
    ordered_lasts reader (λ a es s u. Standing a s u) standing_lasts (λ d e. IfUnit (λ x. IfUnit (Follows x) e) d) (λ d s. IfUnit (Passed s) d)
    stays
    (λ a es s u h. speak_map _ _ (λ e s' u'. if_unit (λ x. Hands s u x s' u') (Passed s') (passes s s' u u') e) (step s u) (step_hands s u))
    (λ a es d s u h b. relates d s u b)
  where
    stays : (d : Event) (s : Stream) (u : List ℕ) → IfUnit (Passed s) d → AfterStep (λ es s' u'. IfUnit (Passed s') d) [] (step s u)
    stays d s u b =
        after_map (λ fs s' u'. Onward s s') (λ fs s' u'. IfUnit (Passed s') d) [] [] (λ fs s' u' o. if_unit (Passed s) (Passed s') (λ x p. (omega arith, omega arith)) d b) (step s u) (step_goes_on s u)

    passes : (s s' : Stream) (u u' : List ℕ) (x : TheUnit) → Hands s u x s' u' → Passed s' x
    passes s s' u u' x h = rw (h.state, h.position, h.index) (omega arith, omega arith)

    follows : (s s' : Stream) (u u' : List ℕ) (x y : TheUnit) → Passed s x → Hands s u y s' u' → Follows x y
    follows s s' u u' x y p h = record { apart = rw h.position p.0; later = rw h.index p.1 }

    relates : (d : Event) (s : Stream) (u : List ℕ) → IfUnit (Passed s) d → OnSpeak (λ e s' u'. IfUnit (λ x. IfUnit (Follows x) e) d) (step s u)
    relates (handed x) s u p = speak_map _ _ (λ e s' u'. if_unit (λ y. Hands s u y s' u') (Follows x) (λ y. follows s s' u u' x y p) e) (step s u) (step_hands s u)
    relates (too_short a m q) s u p = speak_map _ _ (λ e s' u' h. tt) (step s u) (step_hands s u)
    relates (failed q) s u p = speak_map _ _ (λ e s' u' h. tt) (step s u) (step_hands s u)

-- 3. Units are numbered one by one, and the stream's count is their number.

units_in_snoc : (es : List Event) (e : Event) → units_in (es ++ (e ∷ [])) ≡ units_in es + units_in (e ∷ [])
units_in_snoc [] e = sym (zero-add _)
units_in_snoc (handed x ∷ es) e = let h = units_in_snoc es e in omega arith
units_in_snoc (too_short a m p ∷ es) e = units_in_snoc es e
units_in_snoc (failed p ∷ es) e = units_in_snoc es e

indexed_snoc : (k : ℕ) (es : List Event) (e : Event) → Indexed k es → Indexed (k + units_in es) (e ∷ []) → Indexed k (es ++ (e ∷ []))
indexed_snoc k [] e h g = subst (λ j. Indexed j (e ∷ [])) (omega arith) g
indexed_snoc k (handed x ∷ es) e h g = (h.0, indexed_snoc (suc k) es e h.1 (subst (λ j. Indexed j (e ∷ [])) (omega arith) g))
indexed_snoc k (too_short a m p ∷ es) e h g = indexed_snoc k es e h g
indexed_snoc k (failed p ∷ es) e h g = indexed_snoc k es e h g

verdict_numbers : (es : List Event) (s : Stream) (w : Verdict) (n : ℕ) (bs v : List ℕ) → Numbers es s → AfterStep (λ fs s' u'. Numbers fs s') es (moved (act s w n bs) v)
unfolding act moved
verdict_numbers es s (Lock k) n bs v h = h
verdict_numbers es s (Lost l) n bs v h = h
verdict_numbers es s (Short a m) n bs v h = let z = h.0 in (rw units_in_snoc (omega arith), indexed_snoc 0 es _ h.1 tt)
verdict_numbers es s Failed n bs v h = let z = h.0 in (rw units_in_snoc (omega arith), indexed_snoc 0 es _ h.1 tt)
verdict_numbers es s (Whole major) n bs v h = let z = h.0 in (rw units_in_snoc (omega arith), indexed_snoc 0 es _ h.1 (omega arith, tt))

pub units_numbered : Lasts reader (λ a es s u. Numbers es s)
units_numbered = record { steps = λ a es s u h. keeps es s u h; grows = λ a p es s u h. h }
  where
    keeps : (es : List Event) (s : Stream) (u : List ℕ) → Numbers es s → AfterStep (λ fs s' u'. Numbers fs s') es (step s u)
    keeps es s u h =
        step_shows (AfterStep (λ fs s' u'. Numbers fs s') es) s u
        (record {
          waits = λ e d. h;
          decides = λ e r g k l d. verdict_numbers es s g.answer g.eaten (take g.eaten u) (drop g.eaten u) h;
          misses = λ e f. h;
          finds = λ e n f d. h;
          judges = λ e n f r g k l d. verdict_numbers es (arrive n u s) g.answer g.eaten (take g.eaten (drop n u)) (drop g.eaten (drop n u)) h;
        })

-- 4. So it is of every fresh scan (and, by `history_always`, in every history).

pub new_stands : (a : Algorithm) → Standing [] (new a) []
new_stands a = (
  record { unread = refl; total = refl },
  record { seen = λ e. absurd (false≢true e); unseen = λ e. refl; first = λ t e. refl; ahead = λ t e. nothing_waits t e },
)

pub fresh_units_stand : (a : Algorithm) (bytes : List ℕ) → Every (IfUnit (Promised bytes)) (fresh_scan a bytes).events
fresh_units_stand a bytes = (fresh_always reader reader_laws _ units_stand (new a) (new_stands a, tt) bytes).1

pub fresh_units_apart : (a : Algorithm) (bytes : List ℕ) → Ordered (λ d e. IfUnit (λ x. IfUnit (Follows x) e) d) (fresh_scan a bytes).events
fresh_units_apart a bytes = (fresh_always reader reader_laws _ units_apart (new a) (new_stands a, tt, tt) bytes).2

pub fresh_units_numbered : (a : Algorithm) (bytes : List ℕ) → Indexed 0 (fresh_scan a bytes).events
fresh_units_numbered a bytes = (fresh_always reader reader_laws _ units_numbered (new a) (refl, tt) bytes).1
