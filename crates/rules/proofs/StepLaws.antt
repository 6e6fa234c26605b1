-- The five ways that a step may go: what holds of each holds of every step.
use Rattle.std.specs.Prelude.{◌≡◌, refl, Bool, true, false, List, [], ℕ, ◌+◌, ◌-◌, ◌*◌, ◌≤◌, length, take, drop}
use Rattle.std.proofs.Common.{ap}
use Rattle.std.proofs.Math.Option.{none, some}
use Rattle.laws.specs.First.{Place, At, Nowhere}
use Rattle.machine.specs.Step.{Step, dry, quiet, speak}
use Rattle.machine.specs.Ask.{Eat, decide, Move, silent, aloud, goal, moved, settle}
use Rattle.machine.proofs.AskLaws.{settle_shows}
use Rattle.machine.specs.Always.{AfterStep}
use Rattle.rules.specs.Search.{find, keep, candidate}
use Rattle.rules.specs.Request.{unit, advance, arrive, Event, act, search, step_by}
use Rattle.rules.proofs.VerdictLaws.{Keeps, candidate_all, unit_all}
use Rattle.rules.specs.declared.Stream.{Stream}
use Rattle.rules.specs.declared.Verdict.{Verdict}

abbrev pub step : Stream → List ℕ → Step Stream Event
step s u = step_by s.locked s u

pub step_locked : (s : Stream) (u : List ℕ) → s.locked ≡ true → step s u ≡ settle (act s) s u (decide (unit s.substreams) u)
unfolding step_by
step_locked s u e = ap (λ b. step_by b s u) e

pub step_searching : (s : Stream) (u : List ℕ) → s.locked ≡ false → step s u ≡ search s u (find u)
unfolding step_by
step_searching s u e = ap (λ b. step_by b s u) e

-- the step of a verdict that was given on the bytes w
abbrev pub verdict_step : Stream → List ℕ → Eat Verdict → Step Stream Event
verdict_step s w g = moved (act s g.answer g.eaten (take g.eaten w)) (drop g.eaten w)

-- T holds of each way: locked and waiting, locked with a verdict, nothing found, a candidate that is waited for, a candidate with a verdict.
pub record Ways (T : Step Stream Event → Type 0) (s : Stream) (u : List ℕ) : Type 0 where
  pub waits : s.locked ≡ true → decide (unit s.substreams) u ≡ none → T (dry s u)
  pub decides : s.locked ≡ true → (r : ℕ) (g : Eat Verdict) → Keeps s.locked s.substreams (64 + 4 * s.substreams) r g → g.eaten ≤ length u
      → decide (unit s.substreams) u ≡ some g → T (verdict_step s u g)
  pub misses : s.locked ≡ false → find u ≡ Nowhere → T (dry (advance (length u - keep s.seen) s) (drop (length u - keep s.seen) u))
  pub finds : s.locked ≡ false → (n : ℕ) → find u ≡ At n → decide (candidate s.check) (drop n u) ≡ none → T (dry (arrive n u s) (drop n u))
  pub judges : s.locked ≡ false → (n : ℕ) → find u ≡ At n → (r : ℕ) (g : Eat Verdict) → Keeps false 0 66 r g → g.eaten ≤ length (drop n u)
      → decide (candidate s.check) (drop n u) ≡ some g → T (verdict_step (arrive n u s) (drop n u) g)

pub step_shows : (T : Step Stream Event → Type 0) (s : Stream) (u : List ℕ) → Ways T s u → T (step s u)
unfolding search
step_shows T s u h = go s.locked refl
  where
    look : s.locked ≡ false → (x : Place) → find u ≡ x → T (search s u x)
    look e Nowhere f = h.misses e f
    look e (At n) f =
        settle_shows (act (arrive n u s)) (arrive n u s) (candidate s.check) T (Keeps false 0 66) (drop n u) (candidate_all s.check 0)
        (h.finds e n f) (h.judges e n f)

    go : (b : Bool) → s.locked ≡ b → T (step s u)
    go true e =
        rw (step_locked s u e)
        (settle_shows (act s) s (unit s.substreams) T (Keeps s.locked s.substreams (64 + 4 * s.substreams)) u (rw e (unit_all s.substreams)) (h.waits e) (h.decides e))
    go false e = rw (step_searching s u e) (look e (find u) refl)

-- What holds of the state that a verdict goes to holds after its step.
pub moved_shows : (J : Stream → List ℕ → Type 0) (x : Move Stream Event) (w : List ℕ) → J (goal x) w → AfterStep (λ es. J) [] (moved x w)
unfolding moved
moved_shows J (silent s) w h = h
moved_shows J (aloud e s) w h = h

-- Two facts of the state and the unread bytes hold together after a step.
pub after_both : (J K : Stream → List ℕ → Type 0) (es ds : List Event) (x : Step Stream Event) → AfterStep (λ fs. J) es x → AfterStep (λ fs. K) ds x
    → AfterStep (λ fs s u. J s u × K s u) es x
after_both J K es ds (dry s u) h k = (h, k)
after_both J K es ds (quiet s u) h k = (h, k)
after_both J K es ds (speak e s u) h k = (h, k)
