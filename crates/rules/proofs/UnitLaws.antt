-- A verdict `Whole` eats a unit: its own bytes show it, and with one substream or more they give the verdict again, whatever stands behind them.
use Rattle.std.specs.Prelude.{◌≡◌, Bool, true, false, List, ◌++◌, ℕ, ◌+◌, ◌*◌, ◌≤◌, ◌<◌, leb, length, take}
use Rattle.std.proofs.Math.Path.{refl}
use Rattle.std.proofs.Common.{sym, ap, ◌∙◌, subst, arith, length-take-le, get_or-take}
use Rattle.std.proofs.Math.Option.{some}
use borrow.Author.Tests.{leb-true, le-leb}
use Rattle.laws.specs.Parts.{byte_at}
use Rattle.machine.specs.Ask.{ask, Eat, decide, All, Own}
use Rattle.machine.proofs.AskLaws.{all_map, all_then, ask_all, ask_front_alone, decide_fits, decide_own}
use Rattle.rules.specs.Search.{sync_length}
use Rattle.rules.specs.Request.{directory, unit}
use Rattle.rules.specs.Units.{is_major, length_at, skipped, opening, IsUnit}
use Rattle.rules.proofs.VerdictLaws.{IsWhole, Keeps, sync_length_all, directory_all, unit_all}
use Rattle.rules.specs.Verdicts.{WholeUnit, UnitMeans}
use Rattle.rules.proofs.MeaningLaws.{directory_tells, skips_minor, unit_means}
use Rattle.rules.proofs.BoundLaws.{directory_bounded}
use Rattle.rules.specs.declared.Verdict.{Verdict}
use Rattle.rules.specs.declared.Verdict.TheVariants.{Whole}

-- what is skipped is 28 at least behind a major sync, and lies within the unit
skipped_all : All (λ r m. (28 ≤ m) × (r ≤ 31)) 0 (skipped true)
unfolding skipped
skipped_all = all_then _ _ 0 sync_length _ (sync_length_all 0) (λ r m h. (omega arith, omega arith))

pub skips_much : (u : List ℕ) (m : ℕ) → ask (skipped true) u ≡ some m → 28 ≤ m
skips_much u m e = (ask_all (λ r x. (28 ≤ x) × (r ≤ 31)) 0 (skipped true) u m skipped_all e).rule.0

module _ (k : ℕ) (u : List ℕ) (major : Bool) (n : ℕ) (h : WholeUnit u k major n) (fits : n ≤ length u) where
  own_length : length (take n u) ≡ n
  own_length = length-take-le n u fits

  own_byte : (i : ℕ) → i < n → byte_at (take n u) i ≡ byte_at u i
  own_byte i l = get_or-take n u i 0 l

  directory_behind : 4 + h.walk.skip ≤ n
  directory_behind = let b = directory_bounded k (4 + h.walk.skip) (opening u) u h.walk.end h.walk.walks in let i = h.inside in omega arith

  major_long : major ≡ true → 32 ≤ n
  major_long e =
      let m = skips_much u h.walk.skip (subst (λ b. ask (skipped b) u ≡ some h.walk.skip) e h.walk.skips) in omega (arith, directory_behind)

  own_major : is_major (take n u) ≡ major
  unfolding is_major
  own_major = go major refl
    where
      same : 6 ≤ n → is_major (take n u) ≡ major
      same l = rw (own_length, le-leb 6 n l, own_byte 4 (omega arith), own_byte 5 (omega arith)) h.walk.begins

      short : (b : Bool) → major ≡ false → leb 6 n ≡ b → is_major (take n u) ≡ major
      short true e t = same (leb-true 6 n t)
      short false e t = rw (own_length, t, e)

      go : (b : Bool) → major ≡ b → is_major (take n u) ≡ major
      go true e = same (let l = major_long e in omega arith)
      go false e = short (leb 6 n) e refl

  own_skips : ask (skipped major) (take n u) ≡ some h.walk.skip
  own_skips = go major refl h.walk.skips
    where
      go : (b : Bool) → major ≡ b → ask (skipped b) u ≡ some h.walk.skip → ask (skipped b) (take n u) ≡ some h.walk.skip
      go true e x =
          ask_front_alone n 0 (skipped true) u h.walk.skip fits
          (all_map (λ r m. (28 ≤ m) × (r ≤ 31)) (λ r m. m ≡ h.walk.skip → r ≤ n) 0 (skipped true) (λ r m b y. let l = major_long e in omega arith) skipped_all) x
      go false e x = skips_minor (take n u) ∙ sym (skips_minor u) ∙ x

  own_walks : ask (directory k (4 + h.walk.skip) (opening (take n u))) (take n u) ≡ some h.walk.end
  own_walks =
      rw (own_byte 0 (omega (arith, directory_behind)), own_byte 1 (omega (arith, directory_behind)), own_byte 2 (omega (arith, directory_behind)), own_byte 3 (omega (arith, directory_behind)))
      (ask_front_alone n 0 (directory k (4 + h.walk.skip) (opening u)) u h.walk.end fits
      (all_map _ (λ r x. x ≡ h.walk.end → r ≤ n) 0 (directory k (4 + h.walk.skip) (opening u)) (λ r x b y. let p : x.place ≡ h.walk.end.place = ap (λ z. z.place) y in let i = h.inside in omega arith)
      (directory_all k (4 + h.walk.skip) (opening u) 0 0 (omega arith))) h.walk.walks)

  -- A unit that was walked over the unread bytes is a unit by its own.
  walked_is_unit : IsUnit (take n u) k
  walked_is_unit =
      record {
        long = rw own_length (omega (arith, directory_behind));
        counted = rw (own_length, own_byte 0 (omega (arith, directory_behind)), own_byte 1 (omega (arith, directory_behind))) h.long;
        agrees = λ e. let t : major ≡ true = sym own_major ∙ e in let l = major_long t in rw (own_byte 20 (omega arith)) (h.walk.agrees t);
        skip = h.walk.skip;
        skips = rw own_major own_skips;
        end = h.walk.end;
        walks = own_walks;
        inside = rw own_length h.inside;
        parity = rw (← (directory_tells k (4 + h.walk.skip) (opening (take n u)) (take n u) h.walk.end (rw own_length directory_behind) own_walks).1) h.walk.parity;
      }

-- A verdict `Whole` eats a unit, major if it says so.
pub whole_is_unit : (k : ℕ) (u : List ℕ) (g : Eat Verdict) (major : Bool) → decide (unit k) u ≡ some g → g.answer ≡ Whole major
    → IsUnit (take g.eaten u) k × (major ≡ is_major (take g.eaten u)) × (g.eaten ≡ length_at u)
whole_is_unit k u g major e w =
    let h : WholeUnit u k major g.eaten = subst (UnitMeans u k g.eaten) w (unit_means k u g e) in
    let l = decide_fits (unit k) u g e in
    (walked_is_unit k u major g.eaten h l, sym (own_major k u major g.eaten h l), h.long)

-- A unit of one substream or more has looked at no byte but its own.
pub whole_decided_alone : (k : ℕ) (u v : List ℕ) (g : Eat Verdict) → 1 ≤ k → decide (unit k) u ≡ some g → IsWhole g.answer
    → decide (unit k) (take g.eaten u ++ v) ≡ some g
whole_decided_alone k u v g l e w =
    decide_own IsWhole (unit k) u v g (all_map (Keeps true k (64 + 4 * k)) (Own IsWhole) 0 (unit k) (λ r x h. h.own l) (unit_all k)) e w
