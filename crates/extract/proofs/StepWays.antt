-- What each way out of a step shows.
use Rattle.std.specs.Prelude.{Option, Some, None}
use Prim.Native.Nat.{ℕ, ◌+◌, ◌-◌, ◌≤◌}
use native.Mathlib.Omega.{arith}
use mathlib.Core.Path.{◌≡◌, refl, sym, ap, ◌∙◌}
use mathlib.Core.Bool.{Bool, true, false}
use mathlib.Core.Option.{some}
use mathlib.Core.List.{List}
use lib.ListN.{length, take, drop, length-drop}
use lib.Seq.{drop-drop, take_all}
use Rattle.laws.specs.First.{At}
use Rattle.machine.specs.Ask.{decide, settle, moved}
use Rattle.rules.specs.declared.Loss.{Loss}
use Rattle.rules.specs.declared.Loss.TheVariants.{Length, Check}
use Rattle.rules.specs.declared.Stream.{Stream}
use Rattle.rules.specs.declared.Verdict.{Verdict}
use Rattle.rules.specs.declared.Verdict.TheVariants.{Lock, Lost, Short, Failed, Whole}
use Rattle.rules.specs.Search.{find, keep, stamp_at, candidate}
use Rattle.rules.specs.Request.{lose, lock, pass_on, unit_of, advance, arrive, unit, act, search, step_by}
use Rattle.machine.proofs.AskLaws.{decide_fits, decide_all}
use Rattle.rules.proofs.VerdictLaws.{candidate_all, unit_all}
use Rattle.rules.proofs.StepLaws.{step_locked, step_searching}
use Rattle.rules.proofs.FindLaws.{found_fits}
use Rattle.rules.specs.States.{Fit}
use Rattle.extract.specs.declared.step.Outcome.TheVariants.{Dry, Quiet, Handed, TooShort, Failed as CheckFailed}
use Rattle.extract.specs.declared.step.Stepped.{Stepped}
use Rattle.judging.specs.declared.search.Judged.{Judged}
use Rattle.judging.specs.Means.{found_of, judged_of}
use Rattle.extract.specs.Steps.{Roomy, Ready, arrived_of, verdict_of, stepped_of, Within, StepsAs, FoundIn}
use Rattle.timestamp.specs.declared.Timestamp.{Timestamp}

-- a verdict, by its case
module _ (s : Stream) (before n : ℕ) {v : Verdict} {x : Stream} where
  pub does_lock : {k : ℕ} → v ≡ Lock k → x ≡ lock k s → ◌≡◌ {A = Stepped} (record { stream = x; eaten = before + n; outcome = Quiet }) (verdict_of s before n v)
  unfolding verdict_of
  does_lock q e = rw (q, e)

  pub does_lose : {w : Loss} → v ≡ Lost w → x ≡ lose w n s → ◌≡◌ {A = Stepped} (record { stream = x; eaten = before + n; outcome = Quiet }) (verdict_of s before n v)
  unfolding verdict_of
  does_lose q e = rw (q, e)

  pub does_shorten : {a m : ℕ} → v ≡ Short a m → x ≡ lose Length n s
      → ◌≡◌ {A = Stepped} (record { stream = x; eaten = before + n; outcome = TooShort a m }) (verdict_of s before n v)
  unfolding verdict_of
  does_shorten q e = rw (q, e)

  pub does_fail : v ≡ Failed → x ≡ lose Check n s → ◌≡◌ {A = Stepped} (record { stream = x; eaten = before + n; outcome = CheckFailed }) (verdict_of s before n v)
  unfolding verdict_of
  does_fail q e = rw (q, e)

  pub does_hand : {major : Bool} → v ≡ Whole major → x ≡ pass_on n s
      → ◌≡◌ {A = Stepped} (record { stream = x; eaten = before + n; outcome = Handed (unit_of s n major) }) (verdict_of s before n v)
  unfolding verdict_of
  does_hand q e = rw (q, e)

-- a verdict's outcome is the rules' move, behind the bytes that were consumed before
act_moves : (s : Stream) (before n : ℕ) (u bs : List ℕ) (v : Verdict) → stepped_of (verdict_of s before n v) u ≡ moved (act s v n bs) (drop n (drop before u))
unfolding verdict_of act moved
act_moves s before n u bs (Lock k) = rw (drop-drop n before u)
act_moves s before n u bs (Lost w) = rw (drop-drop n before u)
act_moves s before n u bs (Short a m) = rw (drop-drop n before u)
act_moves s before n u bs Failed = rw (drop-drop n before u)
act_moves s before n u bs (Whole major) = rw (drop-drop n before u)

act_eats : (s : Stream) (before n : ℕ) (v : Verdict) → (verdict_of s before n v).eaten ≡ before + n
unfolding verdict_of
act_eats s before n (Lock k) = refl
act_eats s before n (Lost w) = refl
act_eats s before n (Short a m) = refl
act_eats s before n Failed = refl
act_eats s before n (Whole major) = refl

act_within : (s : Stream) (before n : ℕ) (v : Verdict) → Within (verdict_of s before n v).outcome (verdict_of s before n v).eaten
unfolding verdict_of
act_within s before n (Lock k) = tt
act_within s before n (Lost w) = tt
act_within s before n (Short a m) = tt
act_within s before n Failed = tt
act_within s before n (Whole major) = omega arith

-- room for what a fit stream consumes
pub fit_roomy : (s : Stream) (n m : ℕ) → Fit s m → n ≤ m → Roomy s n
fit_roomy s n m f l =
    let t = f.total in
    let c = f.counted in
    record { bytes = omega arith; frames = omega arith; errors = omega arith }

-- under the lock
module _ (s : Stream) (u : List ℕ) (locked : s.locked ≡ true) {j : Option Judged} (ej : judged_of j ≡ decide (unit s.substreams) u) where
  pub locked_waits : j ≡ None → StepsAs s u (record { stream = s; eaten = 0; outcome = Dry })
  unfolding settle
  locked_waits q =
      record {
        same = sym (step_locked s u locked ∙ ap (settle (act s) s u) (sym ej ∙ ap judged_of q));
        there = omega arith;
        within = tt;
      }

  module _ {n : ℕ} {v : Verdict} (q : j ≡ Some (record { eaten = n; verdict = v })) where
    decided : decide (unit s.substreams) u ≡ some (record { eaten = n; answer = v })
    decided = sym ej ∙ ap judged_of q

    pub unit_eats : s.substreams ≤ 15 → (n ≤ length u) × (n ≤ 8190)
    unit_eats few =
        let l = decide_fits (unit s.substreams) u _ decided in
        let k = decide_all _ (unit s.substreams) u _ (unit_all s.substreams) decided in
        let b = k.rule.within few in
        (l, omega arith)

    pub locked_ready : Fit s (length u) → Ready s 0 n
    locked_ready f = let b = unit_eats f.few in record { roomy = fit_roomy s n (length u) f b.0; behind = omega arith; whole = b.1 }

    pub locked_acts : s.substreams ≤ 15 → {r : Stepped} → r ≡ verdict_of s 0 n v → StepsAs s u r
    unfolding settle
    locked_acts few e =
        let b = unit_eats few in
        rw e
        (record {
          same = act_moves s 0 n u _ v ∙ sym (step_locked s u locked ∙ ap (settle (act s) s u) decided);
          there = rw (act_eats s 0 n v) (omega arith);
          within = act_within s 0 n v;
        })

-- in search
module _ (s : Stream) (u : List ℕ) (searching : s.locked ≡ false) {f : Option ℕ} (ef : found_of f ≡ find u) where
  pub search_misses : f ≡ None → {gone : ℕ} → gone ≡ length u - keep s.seen → {x : Stream} → x ≡ advance gone s
      → StepsAs s u (record { stream = x; eaten = gone; outcome = Dry })
  unfolding search
  search_misses q {gone} g e =
      record {
        same = rw e (rw g (sym (step_searching s u searching ∙ ap (search s u) (sym ef ∙ ap found_of q))));
        there = omega arith;
        within = tt;
      }

  pub found_in : {n : ℕ} → f ≡ Some n → Fit s (length u) → FoundIn n s u
  found_in {n} q fit =
      let e : find u ≡ At n = sym ef ∙ ap found_of q in
      record { found = e; inside = found_fits u n e; searching = searching; roomy = fit_roomy s (length u) (length u) fit (omega arith) }

-- at a candidate
module _ (n : ℕ) (s : Stream) (u : List ℕ) (f : FoundIn n s u) where
  searched : step_by s.locked s u ≡ settle (act (arrive n u s)) (arrive n u s) (drop n u) (decide (candidate s.check) (drop n u))
  unfolding search
  searched = step_searching s u f.searching ∙ ap (search s u) f.found

  module _ {w : Option Timestamp} (ew : w ≡ stamp_at s.seen n u s.waiting) {at : Stream} (ea : at ≡ arrived_of n s w) where
    arrived : at ≡ arrive n u s
    arrived = ea ∙ rw ew

    behind : (j : Option Judged) → judged_of j ≡ decide (candidate s.check) (take (length u - n) (drop n u)) → judged_of j ≡ decide (candidate s.check) (drop n u)
    behind j e = e ∙ ap (decide (candidate s.check)) (take_all (length u - n) (drop n u) (rw (length-drop n u) (omega arith)))

    module _ (j : Option Judged) (ej : judged_of j ≡ decide (candidate s.check) (take (length u - n) (drop n u))) where
      pub search_waits : j ≡ None → StepsAs s u (record { stream = at; eaten = n; outcome = Dry })
      unfolding settle
      search_waits p =
          let l = f.inside in
          record {
            same = rw arrived (sym (searched ∙ ap (settle (act (arrive n u s)) (arrive n u s) (drop n u)) (sym (behind j ej) ∙ ap judged_of p)));
            there = omega arith;
            within = tt;
          }

      module _ {k : ℕ} {v : Verdict} (p : j ≡ Some (record { eaten = k; verdict = v })) where
        judged : decide (candidate s.check) (drop n u) ≡ some (record { eaten = k; answer = v })
        judged = sym (behind j ej) ∙ ap judged_of p

        candidate_eats : (k ≤ length u - n) × (k ≤ 8190)
        candidate_eats =
            let l = decide_fits (candidate s.check) (drop n u) _ judged in
            let m = length-drop n u in
            let x = decide_all _ (candidate s.check) (drop n u) _ (candidate_all s.check 0) judged in
            let b = x.rule.within (omega arith) in
            (omega arith, omega arith)

        pub search_ready : Ready at n k
        search_ready =
            let b = candidate_eats in
            let l = f.inside in
            let r = f.roomy in
            rw ea (record { roomy = record { bytes = omega arith; frames = r.frames; errors = r.errors }; behind = omega arith; whole = b.1 })

        pub search_acts : {r : Stepped} → r ≡ verdict_of at n k v → StepsAs s u r
        unfolding settle
        search_acts e =
            let b = candidate_eats in
            let l = f.inside in
            rw (e, arrived)
            (record {
              same = act_moves (arrive n u s) n k u _ v ∙ sym (searched ∙ ap (settle (act (arrive n u s)) (arrive n u s) (drop n u)) judged);
              there = rw (act_eats (arrive n u s) n k v) (omega arith);
              within = act_within (arrive n u s) n k v;
            })
