-- Every step means what Verdicts says: a wait, a lock, a quiet loss, a unit, number 5 or number 6, each on its condition and with its effect.
use Rattle.std.specs.Prelude.{◌≡◌, true, false, List, ℕ, take, drop}
use Rattle.std.proofs.Math.Path.{refl}
use Rattle.std.proofs.Math.Option.{some}
use Rattle.std.proofs.Math.Logic.{inl, inr}
use Rattle.std.proofs.Common.{add-zero}
use Rattle.laws.specs.First.{At}
use Rattle.machine.specs.Step.{Step, dry, quiet, speak}
use Rattle.machine.specs.Ask.{Eat, decide, moved}
use Rattle.machine.proofs.AskLaws.{decide_fits}
use Rattle.machine.specs.Always.{OnSpeak}
use Rattle.rules.specs.Search.{find}
use Rattle.rules.specs.Request.{unit, lose, arrive, Event, handed, too_short, failed, act}
use Rattle.rules.specs.Units.{Hands, IfUnit}
use Rattle.rules.specs.Verdicts.{CandidateMeans, UnitMeans, Loses, StepMeans}
use Rattle.rules.proofs.StepLaws.{step, step_shows}
use Rattle.rules.proofs.FitLaws.{raise_errors}
use Rattle.rules.proofs.MeaningLaws.{candidate_means, unit_means}
use Rattle.rules.proofs.UnitLaws.{whole_is_unit}
use Rattle.rules.specs.declared.Stream.{Stream}
use Rattle.rules.specs.declared.Loss.{Loss}
use Rattle.rules.specs.declared.Loss.TheVariants.{Length, Check, Mismatch, Parity}
use Rattle.rules.specs.declared.Verdict.{Verdict}
use Rattle.rules.specs.declared.Verdict.TheVariants.{Lock, Lost, Short, Failed, Whole}

loss_at_front : (w : Loss) (s : Stream) (n : ℕ) → Loses s 0 n (lose w n s)
loss_at_front w s n = record { consumed = rw add-zero; errors = raise_errors w s.losses; frames = refl; unlocked = refl }

loss_behind : (w : Loss) (s : Stream) (u : List ℕ) (before n : ℕ) → Loses s before n (lose w n (arrive before u s))
loss_behind w s u before n = record { consumed = refl; errors = raise_errors w s.losses; frames = refl; unlocked = refl }

module _ (s : Stream) (u : List ℕ) where
  unit_step_means : s.locked ≡ true → (g : Eat Verdict) → decide (unit s.substreams) u ≡ some g → (v : Verdict) → g.answer ≡ v
      → UnitMeans u s.substreams g.eaten v → StepMeans s u (moved (act s v g.eaten (take g.eaten u)) (drop g.eaten u))
  unfolding act moved
  unit_step_means l g e (Lock k) w h = absurd h
  unit_step_means l g e (Lost Length) w h = absurd h
  unit_step_means l g e (Lost Check) w h = absurd h
  unit_step_means l g e (Lost Mismatch) w h = rw h.1 (inr (record { locked = l; cause = inl h.0; loses = loss_at_front Mismatch s 1 }))
  unit_step_means l g e (Lost Parity) w h = rw h.1 (inr (record { locked = l; cause = inr h.0; loses = loss_at_front Parity s 1 }))
  unit_step_means l g e (Short a m) w h =
      rw h.1 (record { before = 0; cause = inl (l, refl, h.0); loses = loss_at_front Length s 1; position = refl })
  unit_step_means l g e Failed w h = absurd h
  unit_step_means l g e (Whole major) w h =
      let x = whole_is_unit s.substreams u g major e w in
      record {
        locked = l;
        index = refl;
        position = refl;
        substreams = refl;
        waiting = refl;
        counted = x.2;
        there = decide_fits (unit s.substreams) u g e;
        unit = x.0;
        major = x.1;
        state = refl;
        rest = refl;
      }

  candidate_step_means : s.locked ≡ false → (n : ℕ) → find u ≡ At n → (m : ℕ) (bs : List ℕ) (v : Verdict) → CandidateMeans s.check (drop n u) m v
      → StepMeans s u (moved (act (arrive n u s) v m bs) (drop m (drop n u)))
  unfolding act moved
  candidate_step_means l n f m bs (Lock k) h =
      rw h.1 (inl (record { before = n; searching = l; found = f; equal = h.0; state = refl }))
  candidate_step_means l n f m bs (Lost w) h = absurd h
  candidate_step_means l n f m bs (Short a b) h =
      rw h.1 (record { before = n; cause = inr (l, f, h.0); loses = loss_behind Length s u n 1; position = refl })
  candidate_step_means l n f m bs Failed h =
      rw h.1 (record { before = n; searching = l; found = f; unequal = h.0; loses = loss_behind Check s u n _; position = refl })
  candidate_step_means l n f m bs (Whole major) h = absurd h

  pub step_means : StepMeans s u (step s u)
  step_means =
      step_shows (StepMeans s u) s u
      (record {
        waits = λ e d. inl (record { locked = e; undecided = d; state = refl; rest = refl });
        decides = λ e r g k l d. unit_step_means e g d g.answer refl (unit_means s.substreams u g d);
        misses = λ e f. inr (inr (record { searching = e; none_there = f; state = refl; rest = refl }));
        finds = λ e n f d. inr (inl (record { before = n; searching = e; found = f; undecided = d; state = refl; rest = refl }));
        judges = λ e n f r g k l d. candidate_step_means e n f g.eaten (take g.eaten (drop n u)) g.answer (candidate_means s.check (drop n u) g d);
      })

  -- What is handed out is a unit.
  pub step_hands : OnSpeak (λ e s' u'. IfUnit (λ x. Hands s u x s' u') e) (step s u)
  step_hands = go (step s u) step_means
    where
      go : (x : Step Stream Event) → StepMeans s u x → OnSpeak (λ e s' u'. IfUnit (λ y. Hands s u y s' u') e) x
      go (dry s' u') h = tt
      go (quiet s' u') h = tt
      go (speak (handed x) s' u') h = h
      go (speak (too_short a m p) s' u') h = tt
      go (speak (failed p) s' u') h = tt
