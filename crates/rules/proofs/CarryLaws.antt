-- What a reader carries through every request: the check's setting, and as a waiting timestamp only what a parse gave.
use Rattle.std.specs.Prelude.{◌≡◌, List, [], ℕ, ◌-◌, length, take, drop, Ok, Some}
use Rattle.std.proofs.Math.Path.{refl}
use Rattle.machine.specs.Ask.{Eat, goal}
use Rattle.machine.specs.Always.{AfterStep, AfterRequest}
use Rattle.machine.proofs.AlwaysLaws.{after_map, request_always}
use Rattle.machine.specs.Scan.{request}
use Rattle.crc.specs.declared.Algorithm.{Algorithm}
use Rattle.timestamp.specs.declared.Timestamp.{Timestamp}
use Rattle.timestamp.specs.Timestamp.{parse_of}
use Rattle.rules.specs.Search.{kept, keep}
use Rattle.rules.specs.Request.{act, arrive, reader}
use Rattle.rules.proofs.RulesLaws.{reader_laws}
use Rattle.rules.proofs.StepLaws.{step, verdict_step, step_shows, moved_shows}
use Rattle.rules.proofs.StampLaws.{nothing_waits, kept_tells, stamp_at_tells}
use Rattle.rules.specs.declared.Stream.{Stream}
use Rattle.rules.specs.declared.Verdict.{Verdict}
use Rattle.rules.specs.declared.Verdict.TheVariants.{Lock, Lost, Short, Failed, Whole}

-- P of every timestamp that a parse gives; then P of every one that waits.
module _ (P : Timestamp → Type 0) (parses : (bs : List ℕ) (t : Timestamp) → parse_of bs ≡ Ok t → P t) (c : Algorithm) where
  pub record Carried (s : Stream) : Type 0 where
    pub check : s.check ≡ c
    pub waits : (t : Timestamp) → s.waiting ≡ Some t → P t

  -- n bytes consumed
  consumed_carried : (s s' : Stream) (n : ℕ) → s'.check ≡ s.check → s'.waiting ≡ kept n s.waiting → Carried s → Carried s'
  consumed_carried s s' n e w h = record { check = rw (e, h.check); waits = λ t x. h.waits t (kept_tells n s.waiting t (rw (← w) x)).1 }

  act_carried : (w : Verdict) (s : Stream) (n : ℕ) (bs : List ℕ) → Carried s → Carried (goal (act s w n bs))
  unfolding act
  act_carried (Lock k) s n bs h = record { check = h.check; waits = h.waits }
  act_carried (Lost w) s n bs h = consumed_carried s _ n refl refl h
  act_carried (Short a m) s n bs h = consumed_carried s _ n refl refl h
  act_carried Failed s n bs h = consumed_carried s _ n refl refl h
  act_carried (Whole major) s n bs h = record { check = h.check; waits = λ t x. nothing_waits t x }

  verdict_carried : (s : Stream) (w : List ℕ) (g : Eat Verdict) → Carried s → AfterStep (λ es s' u'. Carried s') [] (verdict_step s w g)
  verdict_carried s w g h =
      moved_shows (λ s' u'. Carried s') (act s g.answer g.eaten (take g.eaten w)) (drop g.eaten w) (act_carried g.answer s g.eaten (take g.eaten w) h)

  arrive_carried : (s : Stream) (u : List ℕ) (n : ℕ) → Carried s → Carried (arrive n u s)
  arrive_carried s u n h =
      record { check = h.check; waits = λ t. stamp_at_tells (P t) s.seen n u s.waiting t (λ e l x. parses _ t x) (λ z x. h.waits t x) }

  carried_step : (s : Stream) (u : List ℕ) → Carried s → AfterStep (λ es s' u'. Carried s') [] (step s u)
  carried_step s u h =
      step_shows (AfterStep (λ es s' u'. Carried s') []) s u
      (record {
        waits = λ e d. h;
        decides = λ e r g k l d. verdict_carried s u g h;
        misses = λ e f. consumed_carried s _ (length u - keep s.seen) refl refl h;
        finds = λ e n f d. arrive_carried s u n h;
        judges = λ e n f r g k l d. verdict_carried (arrive n u s) (drop n u) g (arrive_carried s u n h);
      })

  pub carried_request : (s : Stream) (u : List ℕ) → Carried s → AfterRequest (λ es s' u'. Carried s') [] (request reader s u)
  carried_request s u h =
      request_always reader reader_laws (λ es s' u'. Carried s')
      (λ es s u h. after_map (λ fs s' u'. Carried s') (λ fs s' u'. Carried s') [] es (λ fs s' u' k. k) (step s u) (carried_step s u h)) [] s u h
