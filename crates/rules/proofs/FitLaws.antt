-- The conditions of number 1 that speak of the stream and the unread bytes, with the laws that every step keeps them, and that a step consumes
-- bytes at the front and counts them.
use Rattle.std.specs.Prelude.{◌≡◌, refl, true, List, [], ℕ, ◌+◌, ◌-◌, ◌≤◌, length, take, drop}
use Rattle.std.proofs.Common.{ap, ◌∙◌, arith, length-drop}
use Rattle.std.proofs.lemmas.Bool.{false≢true}
use Rattle.laws.specs.First.{At}
use Rattle.machine.specs.Ask.{Eat, goal}
use Rattle.machine.specs.Always.{AfterStep, Consumed, Counts, Lasts}
use Rattle.machine.proofs.AlwaysLaws.{after_map, consumed_none, consumed_trans}
use Rattle.crc.specs.declared.Algorithm.{Algorithm}
use Rattle.rules.specs.Search.{find, keep}
use Rattle.rules.specs.Request.{raise, lose, arrive, act, step_by, reader, new}
use Rattle.rules.specs.States.{Fit, at, Sound}
use Rattle.rules.proofs.FindLaws.{found_fits}
use Rattle.rules.proofs.VerdictLaws.{Says}
use Rattle.rules.proofs.StepLaws.{step, verdict_step, step_shows, moved_shows, after_both}
use Rattle.rules.specs.declared.Stream.{Stream}
use Rattle.rules.specs.declared.Loss.{Loss}
use Rattle.rules.specs.declared.Loss.TheVariants.{Length, Check}
use Rattle.rules.specs.declared.Losses.{Losses}
use Rattle.rules.specs.declared.Verdict.{Verdict}
use Rattle.rules.specs.declared.Verdict.TheVariants.{Lock, Lost, Short, Failed, Whole}

-- A loss raises the error count by one.
pub raise_errors : (w : Loss) (l : Losses) → (raise w l).errors ≡ l.errors + 1
unfolding raise
raise_errors w l = refl

-- A quiet loss is a loss as every other: counted, consumed, unlocked.
quiet_loss_loses : (w : Loss) (s : Stream) (n : ℕ) (bs : List ℕ) → goal (act s (Lost w) n bs) ≡ lose w n s
unfolding act
quiet_loss_loses w s n bs = refl

-- 1. Every step consumes bytes at the front, and counts them.

act_consumes : (w : Verdict) (M : ℕ) (s : Stream) (n : ℕ) (bs : List ℕ) → Says s.locked M n w → at (goal (act s w n bs)) ≡ at s + n
unfolding act
act_consumes (Lock k) M s n bs h = omega arith
act_consumes (Lost w) M s n bs h = refl
act_consumes (Short a m) M s n bs h = refl
act_consumes Failed M s n bs h = refl
act_consumes (Whole major) M s n bs h = refl

verdict_consumes : (s₀ s : Stream) (u w : List ℕ) (M : ℕ) (g : Eat Verdict) → Consumed at s₀ u s w → Says s.locked M g.eaten g.answer → g.eaten ≤ length w
    → AfterStep (λ es. Consumed at s₀ u) [] (verdict_step s w g)
verdict_consumes s₀ s u w M g c h l =
    moved_shows (Consumed at s₀ u) (act s g.answer g.eaten (take g.eaten w)) (drop g.eaten w)
    (consumed_trans at s₀ s _ u w (drop g.eaten w) c
    (record { bytes = g.eaten; there = l; left = refl; counted = act_consumes g.answer M s g.eaten (take g.eaten w) h }))

arrive_consumes : (s : Stream) (u : List ℕ) (n : ℕ) → find u ≡ At n → Consumed at s u (arrive n u s) (drop n u)
arrive_consumes s u n f = record { bytes = n; there = (let l = found_fits u n f in omega arith); left = refl; counted = refl }

pub reader_counts : Counts reader at
reader_counts s u =
    step_shows (AfterStep (λ es. Consumed at s u) []) s u
    (record {
      waits = λ e d. consumed_none at s u;
      decides = λ e r g k l d. verdict_consumes s s u u _ g (consumed_none at s u) k.says l;
      misses = λ e f. record { bytes = length u - keep s.seen; there = omega arith; left = refl; counted = refl };
      finds = λ e n f d. arrive_consumes s u n f;
      judges = λ e n f r g k l d. verdict_consumes s (arrive n u s) u (drop n u) 66 g (arrive_consumes s u n f) k.says l;
    })

-- Consumed plus unread stays what it was.
pub consumed_plus_unread_stays : (s : Stream) (u : List ℕ) → AfterStep (λ es s' u'. at s' + length u' ≡ at s + length u) [] (step s u)
consumed_plus_unread_stays s u =
    after_map (λ fs. Consumed at s u) (λ fs s' u'. at s' + length u' ≡ at s + length u) [] []
    (λ fs s' u' c.
    let m : length u' ≡ length u - c.bytes = ap length c.left ∙ length-drop c.bytes u in
    let t = c.there in
    let k = c.counted in
    omega arith) (step s u) (reader_counts s u)

-- 2. Every step keeps the stream's own conditions, whatever the bytes ..

lose_sound : (w : Loss) (s : Stream) (n : ℕ) → 1 ≤ n → Sound s → Sound (lose w n s)
lose_sound w s n l h =
    record { counted = rw (raise_errors w s.losses) (let c = h.counted in omega arith); few = h.few; seen = λ x. absurd (false≢true x) }

-- An error or a unit eats a byte at least, so that frames plus errors stay at most what is consumed.
act_sound : (w : Verdict) (M : ℕ) (s : Stream) (n : ℕ) (bs : List ℕ) → Says s.locked M n w → s.seen ≡ true → Sound s → Sound (goal (act s w n bs))
unfolding act
act_sound (Lock k) M s n bs h e f = record { counted = f.counted; few = h.2; seen = λ x. e }
act_sound (Lost w) M s n bs h e f = lose_sound w s n (omega arith) f
act_sound (Short a b) M s n bs h e f = lose_sound Length s n (omega arith) f
act_sound Failed M s n bs h e f = lose_sound Check s n (omega arith) f
act_sound (Whole major) M s n bs h e f = record { counted = (let c = f.counted in omega arith); few = f.few; seen = f.seen }

verdict_sound : (s : Stream) (w : List ℕ) (M : ℕ) (g : Eat Verdict) → Says s.locked M g.eaten g.answer → s.seen ≡ true → Sound s
    → AfterStep (λ es s' u'. Sound s') [] (verdict_step s w g)
verdict_sound s w M g h e f =
    moved_shows (λ s' u'. Sound s') (act s g.answer g.eaten (take g.eaten w)) (drop g.eaten w) (act_sound g.answer M s g.eaten (take g.eaten w) h e f)

-- A sync was seen where a candidate is found, before anything is decided on it.
arrive_seen : (s : Stream) (u : List ℕ) (n : ℕ) → (arrive n u s).seen ≡ true
arrive_seen s u n = refl

arrive_sound : (s : Stream) (u : List ℕ) (n : ℕ) → Sound s → Sound (arrive n u s)
arrive_sound s u n h = record { counted = (let c = h.counted in omega arith); few = h.few; seen = λ x. arrive_seen s u n }

pub sound_step : (s : Stream) (u : List ℕ) → Sound s → AfterStep (λ es s' u'. Sound s') [] (step s u)
sound_step s u h =
    step_shows (AfterStep (λ es s' u'. Sound s') []) s u
    (record {
      waits = λ e d. h;
      decides = λ e r g k l d. verdict_sound s u _ g k.says (h.seen e) h;
      misses = λ e f. record { counted = (let c = h.counted in omega arith); few = h.few; seen = h.seen };
      finds = λ e n f d. arrive_sound s u n h;
      judges = λ e n f r g k l d. verdict_sound (arrive n u s) (drop n u) 66 g k.says (arrive_seen s u n) (arrive_sound s u n h);
    })

-- .. so they hold in every history and every fresh scan.
pub sound_lasts : Lasts reader (λ a es s u. Sound s)
sound_lasts =
    record {
      steps = λ a es s u h. after_map (λ fs s' u'. Sound s') (λ fs s' u'. Sound s') [] es (λ fs s' u' k. k) (step s u) (sound_step s u h);
      grows = λ a p es s u h. h;
    }

pub new_sound : (a : Algorithm) → Sound (new a)
new_sound a = record { counted = omega arith; few = omega arith; seen = λ e. absurd (false≢true e) }

-- 3. Every step keeps the stream and its unread bytes fit.

pub fit_step : (s : Stream) (u : List ℕ) → Fit s (length u) → AfterStep (λ es s' u'. Fit s' (length u')) [] (step_by s.locked s u)
fit_step s u f =
    after_map (λ fs s' u'. (at s' + length u' ≡ at s + length u) × Sound s') (λ fs s' u'. Fit s' (length u')) [] []
    (λ fs s' u' k.
    let e = k.0 in
    let t = f.total in
    record { total = omega arith; counted = k.1.counted; few = k.1.few; seen = k.1.seen }) (step s u)
    (after_both (λ s' u'. at s' + length u' ≡ at s + length u) (λ s' u'. Sound s') [] [] (step s u) (consumed_plus_unread_stays s u)
    (sound_step s u (record { counted = f.counted; few = f.few; seen = f.seen })))
