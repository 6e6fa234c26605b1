-- Bounds of what is answered and decided, whatever the bytes, so that the code's sums and casts hold: one law for each kind of verdict.
use Rattle.std.specs.Prelude.{◌≡◌, Bool, true, false, List, ℕ, ◌+◌, ◌*◌, ◌≤◌, ◌<◌}
use Rattle.std.proofs.Common.{subst, arith}
use Rattle.std.proofs.Math.Option.{some}
use Rattle.machine.specs.Ask.{ask, Eat, decide}
use Rattle.machine.proofs.AskLaws.{ask_all, decide_all}
use Rattle.crc.specs.declared.Algorithm.{Algorithm}
use Rattle.rules.specs.Search.{sync_length, unit_length, candidate}
use Rattle.rules.specs.Request.{End, directory, unit}
use Rattle.rules.proofs.VerdictLaws.{Says, Keeps, sync_length_all, unit_length_all, directory_all, candidate_all, unit_all}
use Rattle.rules.specs.declared.Loss.{Loss}
use Rattle.rules.specs.declared.Verdict.{Verdict}
use Rattle.rules.specs.declared.Verdict.TheVariants.{Lock, Lost, Short, Failed, Whole}

-- 1. The parts.

pub sync_length_bounded : (u : List ℕ) (m : ℕ) → ask sync_length u ≡ some m → (26 ≤ m) × (m ≤ 58)
sync_length_bounded u m e = let k = ask_all _ 0 sync_length u m (sync_length_all 0) e in (k.rule.0, k.rule.1)

pub unit_length_bounded : (u : List ℕ) (n : ℕ) → ask unit_length u ≡ some n → n ≤ 8190
unit_length_bounded u n e = let k = ask_all _ 0 unit_length u n (unit_length_all 0) e in k.rule.0

-- A directory's end: 2 to 4 bytes for each entry.
pub directory_bounded : (k at p : ℕ) (u : List ℕ) (x : End) → ask (directory k at p) u ≡ some x → (at + 2 * k ≤ x.place) × (x.place ≤ at + 4 * k)
directory_bounded k at p u x e = let h = ask_all _ 0 (directory k at p) u x (directory_all k at p 0 0 (omega arith)) e in (h.rule.0, h.rule.1)

-- 2. The verdict on a candidate.

module _ (a : Algorithm) (u : List ℕ) (g : Eat Verdict) (e : decide (candidate a) u ≡ some g) where
  -- A candidate locks, is too short, or fails its check.
  pub candidate_says : Says false 66 g.eaten g.answer
  candidate_says = (decide_all (Keeps false 0 66) (candidate a) u g (candidate_all a 0) e).rule.says

  says_of : (w : Verdict) → g.answer ≡ w → Says false 66 g.eaten w
  says_of w p = subst (Says false 66 g.eaten) p candidate_says

  pub lock_at_most_15 : (k : ℕ) → g.answer ≡ Lock k → k ≤ 15
  lock_at_most_15 k p = (says_of (Lock k) p).2

  pub lock_eats_nothing : (k : ℕ) → g.answer ≡ Lock k → g.eaten ≡ 0
  lock_eats_nothing k p = (says_of (Lock k) p).1

  pub failed_eats_34_to_8190 : g.answer ≡ Failed → (34 ≤ g.eaten) × (g.eaten ≤ 8190)
  failed_eats_34_to_8190 p = let h = says_of Failed p in (h.1, h.2)

  -- "Below sync length + 8", which is at most 66
  pub candidate_short_bounded : (n m : ℕ) → g.answer ≡ Short n m → (g.eaten ≡ 1) × (n ≤ 8190) × (n < m) × (m ≤ 66)
  candidate_short_bounded n m p = says_of (Short n m) p

-- 3. The verdict on a unit.

module _ (k : ℕ) (few : k ≤ 15) (u : List ℕ) (g : Eat Verdict) (e : decide (unit k) u ≡ some g) where
  -- A unit is whole, too short for its directory, or quietly lost; each eats a byte at least.
  pub unit_says : Says true 124 g.eaten g.answer
  unit_says = wider g.answer (decide_all (Keeps true k (64 + 4 * k)) (unit k) u g (unit_all k) e).rule.says
    where
      wider : (w : Verdict) → Says true (64 + 4 * k) g.eaten w → Says true 124 g.eaten w
      wider (Lock c) h = h
      wider (Lost w) h = h
      wider (Short n m) h = (h.0, h.1, h.2, omega arith)
      wider Failed h = h
      wider (Whole major) h = h

  of_unit : (w : Verdict) → g.answer ≡ w → Says true 124 g.eaten w
  of_unit w p = subst (Says true 124 g.eaten) p unit_says

  pub whole_eats_4_to_8190 : (major : Bool) → g.answer ≡ Whole major → (4 ≤ g.eaten) × (g.eaten ≤ 8190)
  whole_eats_4_to_8190 major p = let h = of_unit (Whole major) p in (h.1, h.2)

  -- The directory's end is at most 4 + 60 + 4 · 15.
  pub unit_short_bounded : (n m : ℕ) → g.answer ≡ Short n m → (g.eaten ≡ 1) × (n ≤ 8190) × (n < m) × (m ≤ 124)
  unit_short_bounded n m p = of_unit (Short n m) p

  pub lost_eats_one : (w : Loss) → g.answer ≡ Lost w → g.eaten ≡ 1
  lost_eats_one w p = (of_unit (Lost w) p).1
