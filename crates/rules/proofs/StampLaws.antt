-- The waiting timestamp: where it is stored, that it stands ahead of the read position until it goes, and that the first unit alone carries one.
use Rattle.std.specs.Prelude.{◌≡◌, Bool, true, false, List, [], ◌++◌, ℕ, zero, suc, ◌+◌, ◌-◌, ◌≤◌, leb, length, take, drop, Err, None, Ok, Option, Result, Some}
use Rattle.std.proofs.Math.Path.{refl}
use Rattle.std.proofs.Common.{sym, ap, ◌∙◌, subst, true≢false, arith, add-zero, drop-drop, leb-true}
use Rattle.std.proofs.lemmas.Bool.{false≢true}
use Rattle.laws.specs.Pick.{pick}
use Rattle.laws.specs.Parts.{part, part_further}
use Rattle.laws.specs.First.{At}
use Rattle.machine.specs.Ask.{Eat, goal}
use Rattle.machine.specs.Always.{AfterStep, Placed, Lasts}
use Rattle.machine.proofs.AlwaysLaws.{placed_lasts}
use Rattle.timestamp.specs.declared.Timestamp.{Timestamp}
use Rattle.timestamp.specs.Timestamp.{parse_of}
use Rattle.rules.specs.Search.{find, keep, kept, stamp_of, stamp_at}
use Rattle.rules.specs.Request.{advance, lose, arrive, lock, act, reader}
use Rattle.rules.proofs.VerdictLaws.{Says}
use Rattle.rules.proofs.RulesLaws.{stamp_read}
use Rattle.rules.proofs.StepLaws.{step, verdict_step, step_shows, moved_shows, after_both}
use Rattle.rules.specs.States.{at, Standing}
use Rattle.rules.proofs.FitLaws.{reader_counts}
use Rattle.rules.specs.Units.{Ahead, Stamped}
use Rattle.rules.specs.declared.Stream.{Stream}
use Rattle.rules.specs.declared.Loss.TheVariants.{Length, Check}
use Rattle.rules.specs.declared.Verdict.{Verdict}
use Rattle.rules.specs.declared.Verdict.TheVariants.{Lock, Lost, Short, Failed, Whole}
use Rattle.timestamp.specs.declared.TimestampError.{TimestampError}

-- 1. What waits after bytes were consumed, and after arriving at a candidate.

pub nothing_waits : {P : Type 0} (t : Timestamp) → None ≡ Some t → P
nothing_waits t e = absurd (let z : ◌≡◌ {A = ℕ} 0 1 = cc in omega arith)

-- "Consuming any byte drops a waiting timestamp"
pub kept_tells : (n : ℕ) (w : Option Timestamp) (t : Timestamp) → kept n w ≡ Some t → (n ≡ 0) × (w ≡ Some t)
kept_tells zero w t e = (refl, e)
kept_tells (suc n) w t e = nothing_waits t e

stamp_of_tells : (p : Result Timestamp TimestampError) (t : Timestamp) → stamp_of p ≡ Some t → p ≡ Ok t
stamp_of_tells (Ok x) t e = let y : x ≡ t = cc in ap Ok y
stamp_of_tells (Err r) t e = nothing_waits t e

-- Where no sync was seen before and 16 bytes precede the candidate, what waits then is the parse of those 16.
pub stamp_stored : (s : Stream) (u : List ℕ) (n : ℕ) → s.seen ≡ false → 16 ≤ n → (arrive n u s).waiting ≡ stamp_of (parse_of (part u (n - 16) 16))
stamp_stored s u n e l = rw e (stamp_read n u s.waiting l)

-- What waits at a candidate was stored there, or waited before and no byte was consumed.
pub stamp_at_tells : (P : Type 0) (seen : Bool) (n : ℕ) (u : List ℕ) (w : Option Timestamp) (t : Timestamp)
    → (seen ≡ false → 16 ≤ n → parse_of (part u (n - 16) 16) ≡ Ok t → P) → (n ≡ 0 → w ≡ Some t → P) → stamp_at seen n u w ≡ Some t → P
unfolding stamp_at
stamp_at_tells P true n u w t f g e = let k = kept_tells n w t e in g k.0 k.1
stamp_at_tells P false n u w t f g e = go (leb 16 n) refl e
  where
    go : (b : Bool) → leb 16 n ≡ b → pick b (stamp_of (parse_of (part u (n - 16) 16))) (kept n w) ≡ Some t → P
    go true l x = f refl (leb-true 16 n l) (stamp_of_tells _ t x)
    go false l x = let k = kept_tells n w t x in g k.0 k.1

-- 2. Every step keeps it.

module _ (a : List ℕ) where
  -- n bytes consumed, no unit handed out
  consumed_stamped : (s s' : Stream) (n : ℕ) → s'.waiting ≡ kept n s.waiting → at s' ≡ at s + n → s'.frames ≡ s.frames → s'.seen ≡ s.seen
      → (s'.locked ≡ true → s'.seen ≡ true) → Stamped a s → Stamped a s'
  consumed_stamped s s' n w c f e l h =
      record {
        seen = l;
        unseen = λ x. f ∙ h.unseen (sym e ∙ x);
        first = λ t x. f ∙ h.first t (kept_tells n s.waiting t (sym w ∙ x)).1;
        ahead = λ t x. let k = kept_tells n s.waiting t (sym w ∙ x) in let z = k.0 in let p : at s ≡ at s' = omega arith in subst (λ m. Ahead a m t) p (h.ahead t k.1);
      }

  arrive_stamped : (s : Stream) (u : List ℕ) (n : ℕ) → find u ≡ At n → Placed at a s u → Stamped a s → Stamped a (arrive n u s)
  arrive_stamped s u n f p h =
      record {
        seen = λ x. refl;
        unseen = λ x. absurd (true≢false x);
        first = λ t. stamp_at_tells _ s.seen n u s.waiting t (λ e l x. h.unseen e) (λ z. h.first t);
        ahead = λ t. stamp_at_tells _ s.seen n u s.waiting t stored (λ z x. subst (λ m. Ahead a m t) (omega arith) (h.ahead t x));
      }
    where
      -- the 16 bytes ahead of the candidate, counted from the beginning
      same : 16 ≤ n → part a (at s + n - 16) 16 ≡ part u (n - 16) 16
      same l = let z : at s + n - 16 ≡ at s + (n - 16) = omega arith in rw (p.unread, z, drop-drop (n - 16) (at s) a)

      stored : {t : Timestamp} → s.seen ≡ false → 16 ≤ n → parse_of (part u (n - 16) 16) ≡ Ok t → Ahead a (at s + n) t
      stored e l x = record { there = omega arith; parsed = ap parse_of (same l) ∙ x }

  act_stamped : (w : Verdict) (M : ℕ) (s : Stream) (n : ℕ) (bs : List ℕ) → Says s.locked M n w → s.seen ≡ true → Stamped a s → Stamped a (goal (act s w n bs))
  unfolding act
  act_stamped (Lock k) M s n bs h e f = consumed_stamped s (lock k s) 0 refl (sym (add-zero (at s))) refl refl (λ x. e) f
  act_stamped (Lost w) M s n bs h e f = consumed_stamped s (lose w n s) n refl refl refl refl (λ x. absurd (false≢true x)) f
  act_stamped (Short x m) M s n bs h e f = consumed_stamped s (lose Length n s) n refl refl refl refl (λ x. absurd (false≢true x)) f
  act_stamped Failed M s n bs h e f = consumed_stamped s (lose Check n s) n refl refl refl refl (λ x. absurd (false≢true x)) f
  act_stamped (Whole major) M s n bs h e f =
      record { seen = f.seen; unseen = λ x. absurd (true≢false (sym e ∙ x)); first = λ t. nothing_waits t; ahead = λ t. nothing_waits t }

  verdict_stamped : (s : Stream) (w : List ℕ) (M : ℕ) (g : Eat Verdict) → Says s.locked M g.eaten g.answer → s.seen ≡ true → Stamped a s
      → AfterStep (λ es s' u'. Stamped a s') [] (verdict_step s w g)
  verdict_stamped s w M g h e f =
      moved_shows (λ s' u'. Stamped a s') (act s g.answer g.eaten (take g.eaten w)) (drop g.eaten w)
      (act_stamped g.answer M s g.eaten (take g.eaten w) h e f)

  pub stamped_step : (s : Stream) (u : List ℕ) → Placed at a s u → Stamped a s → AfterStep (λ es s' u'. Stamped a s') [] (step s u)
  stamped_step s u p h =
      step_shows (AfterStep (λ es s' u'. Stamped a s') []) s u
      (record {
        waits = λ e d. h;
        decides = λ e r g k l d. verdict_stamped s u _ g k.says (h.seen e) h;
        misses = λ e f. consumed_stamped s (advance (length u - keep s.seen) s) (length u - keep s.seen) refl refl refl refl h.seen h;
        finds = λ e n f d. arrive_stamped s u n f p h;
        judges = λ e n f r g k l d. verdict_stamped (arrive n u s) (drop n u) 66 g k.says refl (arrive_stamped s u n f p h);
      })

-- 3. At all times.

stamped_grows : (a p : List ℕ) (s : Stream) (u : List ℕ) → Placed at a s u → Stamped a s → Stamped (a ++ p) s
stamped_grows a p s u q h =
    record {
      seen = h.seen;
      unseen = h.unseen;
      first = h.first;
      ahead = λ t x.
          let k = h.ahead t x in
          let l = k.there in
          let z = q.total in
          record { there = l; parsed = rw (part_further a (at s - 16) 16 (omega arith) p) k.parsed };
    }

pub standing_lasts : Lasts reader (λ a es s u. Standing a s u)
standing_lasts =
    record {
      steps = λ a es s u h. after_both (Placed at a) (λ s' u'. Stamped a s') es [] (step s u)
          ((placed_lasts reader at reader_counts).steps a es s u h.0) (stamped_step a s u h.0 h.1);
      grows = λ a p es s u h. ((placed_lasts reader at reader_counts).grows a p es s u h.0, stamped_grows a p s u h.0 h.1);
    }
