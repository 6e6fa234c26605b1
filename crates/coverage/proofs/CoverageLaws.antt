-- WHAT THE NUMBER MEANS. Of every stream of up to 2^64 - 1 bytes: the bytes outside units and those that the units of a fresh scan cover are all of them;
-- none is outside exactly if the stream is the units one behind the other, a carried timestamp ahead of the first; and every loss that was
-- counted took a byte that is outside, so that no quiet loss hides behind a stream with none.
use Rattle.std.specs.Prelude.{ℕ, zero, suc, ◌+◌, ◌-◌, ◌≤◌, ◌≡◌, refl, Bool, true, false, List, [], ◌∷◌, ◌++◌, leb, eqb, length, take, drop, Err, None, Ok, Option, Result, Some}
use native.Mathlib.Omega.{arith}
use Rattle.std.proofs.Common.{zero-add, sym, ap, ◌∙◌, subst, length-append, take-append-drop, drop-drop, leb-true, le-leb}
use Rattle.std.proofs.Math.Seq.{drop-length}
use Rattle.laws.specs.Pick.{pick}
use Rattle.laws.specs.Parts.{part, length_part}
use Rattle.machine.specs.Ask.{moved}
use Rattle.machine.specs.Always.{AfterStep, Lasts, Numbered, Ordered}
use Rattle.machine.proofs.AlwaysLaws.{fresh_always}
use Rattle.crc.specs.declared.Algorithm.{Algorithm}
use Rattle.timestamp.specs.Timestamp.{parse_of}
use Rattle.rules.specs.Search.{keep, kept, stamp_of, stamp_at}
use Rattle.rules.specs.Request.{Event, handed, too_short, failed, arrive, act, lose, reader, new, fresh_scan}
use Rattle.rules.proofs.RulesLaws.{reader_laws}
use Rattle.rules.proofs.StepLaws.{step, step_shows}
use Rattle.rules.proofs.VerdictLaws.{Says}
use Rattle.rules.specs.States.{at, Standing}
use Rattle.rules.proofs.FitLaws.{raise_errors}
use Rattle.rules.specs.Units.{IfUnit, Follows, Promised}
use Rattle.rules.proofs.StampLaws.{standing_lasts}
use Rattle.rules.proofs.HandedLaws.{fresh_units_stand, fresh_units_apart, new_stands}
use Rattle.rules.specs.declared.Unit.{Unit as TheUnit}
use Rattle.rules.specs.declared.Stream.{Stream}
use Rattle.rules.specs.declared.Loss.{Loss}
use Rattle.rules.specs.declared.Loss.TheVariants.{Length, Check}
use Rattle.rules.specs.declared.Verdict.{Verdict}
use Rattle.rules.specs.declared.Verdict.TheVariants.{Lock, Lost, Short, Failed, Whole}
use Rattle.coverage.specs.declared.Coverage.{Coverage}
use Rattle.coverage.specs.Coverage.{stamp_length, begin_of, covered_by, units_of, capped, nothing_yet, passed_of, covered_of, taken, outside}
use Rattle.timestamp.specs.declared.Timestamp.{Timestamp}
use Rattle.timestamp.specs.declared.TimestampError.{TimestampError}

-- 1. Units that lie apart: each behind the one before it, with room for the timestamp that it carries, and all before an end.

abbrev pub Apart : ℕ → List Event → ℕ → Type 0
Apart n [] end = n ≤ end
Apart n (handed x ∷ es) end = (n + stamp_length x.waiting ≤ x.position.0) × Apart (x.position.0 + x.length) es end
Apart n (too_short a m p ∷ es) end = Apart n es end
Apart n (failed p ∷ es) end = Apart n es end

-- they cover no more than there is
apart_bounded : (n : ℕ) (es : List Event) (end : ℕ) → Apart n es end → n + covered_by es ≤ end
apart_bounded n [] end h = omega arith
apart_bounded n (handed x ∷ es) end h = let r = apart_bounded (x.position.0 + x.length) es end h.1 in let l = h.0 in omega arith
apart_bounded n (too_short a m p ∷ es) end h = apart_bounded n es end h
apart_bounded n (failed p ∷ es) end h = apart_bounded n es end h

-- a unit at place n or later, numbered k or higher
abbrev Later : ℕ → ℕ → TheUnit → Type 0
Later n k x = (n ≤ x.position.0) × (k ≤ x.index)

behind : (x : TheUnit) (i j : ℕ) (es : List Event) → Numbered (λ k. IfUnit (Follows x)) i es → Numbered (λ k. IfUnit (Later (x.position.0 + x.length) (suc x.index))) j es
behind x i j [] h = tt
behind x i j (handed y ∷ es) h = ((h.0.apart, h.0.later), behind x (suc i) (suc j) es h.1)
behind x i j (too_short a m p ∷ es) h = (tt, behind x (suc i) (suc j) es h.1)
behind x i j (failed p ∷ es) h = (tt, behind x (suc i) (suc j) es h.1)

-- a carried timestamp has its 16 bytes before the first unit, and later units carry none
room_ahead : (bytes : List ℕ) (x : TheUnit) (w : Option Timestamp) → x.waiting ≡ w → Promised bytes x → (n k : ℕ) → Later n k x → (k ≡ 0 → n ≡ 0) → n + stamp_length w ≤ x.position.0
room_ahead bytes x None e h n k l z = let m = l.0 in omega arith
room_ahead bytes x (Some t) e h n k l z =
    let c = h.carries t e in
    let f = c.first in
    let r = c.ahead.there in
    let j = l.1 in
    let o = z (omega arith) in
    omega arith

lie_apart : (bytes : List ℕ) (es : List Event) (i j n k : ℕ) → Numbered (λ m. IfUnit (Promised bytes)) i es → Ordered (λ d e. IfUnit (λ x. IfUnit (Follows x) e) d) es
    → Numbered (λ m. IfUnit (Later n k)) j es → (k ≡ 0 → n ≡ 0) → n ≤ length bytes → Apart n es (length bytes)
lie_apart bytes [] i j n k h o l z b = b
lie_apart bytes (handed x ∷ es) i j n k h o l z b = (
  room_ahead bytes x x.waiting refl h.0 n k l.0 z,
  lie_apart bytes es (suc i) 0 (x.position.0 + x.length) (suc x.index) h.1 o.1 (behind x 0 0 es o.0) (λ e. absurd (omega arith)) h.0.stands.there,
)
lie_apart bytes (too_short a m p ∷ es) i j n k h o l z b = lie_apart bytes es (suc i) (suc j) n k h.1 o.1 l.1 z b
lie_apart bytes (failed p ∷ es) i j n k h o l z b = lie_apart bytes es (suc i) (suc j) n k h.1 o.1 l.1 z b

from_the_start : (j : ℕ) (es : List Event) → Numbered (λ m. IfUnit (Later 0 0)) j es
from_the_start j [] = tt
from_the_start j (handed x ∷ es) = ((omega arith, omega arith), from_the_start (suc j) es)
from_the_start j (too_short a m p ∷ es) = (tt, from_the_start (suc j) es)
from_the_start j (failed p ∷ es) = (tt, from_the_start (suc j) es)

pub fresh_units_lie_apart : (a : Algorithm) (bytes : List ℕ) → Apart 0 (fresh_scan a bytes).events (length bytes)
fresh_units_lie_apart a bytes =
    lie_apart bytes (fresh_scan a bytes).events 0 0 0 0 (fresh_units_stand a bytes) (fresh_units_apart a bytes) (from_the_start 0 (fresh_scan a bytes).events) (λ e. refl) (omega arith)

-- 2. What is taken unit by unit counts what lies between them.

capped_small : (n : ℕ) → n ≤ 18446744073709551615 → capped n ≡ n
capped_small n h = rw (le-leb n 18446744073709551615 h)

passed_counts : (place : ℕ) (c : Coverage) → c.reached ≤ place → c.outside ≤ c.reached → place ≤ 18446744073709551615
    → (passed_of place c).outside ≡ c.outside + (place - c.reached)
unfolding passed_of
passed_counts place c h o b = go (leb place c.reached) refl
  where
    go : (t : Bool) → leb place c.reached ≡ t
        → (pick t c (record { reached = place; outside = capped (c.outside + (place - c.reached)); first = pick (eqb c.outside 0) (Some c.reached) c.first })).outside
        ≡ c.outside + (place - c.reached)
    go true e = let l = leb-true place c.reached e in omega arith
    go false e = capped_small (c.outside + (place - c.reached)) (omega arith)

covered_reaches : (x : TheUnit) (c : Coverage) → x.position.0 + x.length ≤ 18446744073709551615 → (covered_of x c).reached ≡ x.position.0 + x.length
unfolding covered_of
covered_reaches x c h = capped_small (x.position.0 + x.length) h

covered_outside : (x : TheUnit) (c : Coverage) → (covered_of x c).outside ≡ (passed_of (begin_of x) c).outside
unfolding covered_of
covered_outside x c = refl

taken_counts : (es : List Event) (c : Coverage) (end : ℕ) → end ≤ 18446744073709551615 → c.outside ≤ c.reached → Apart c.reached es end
    → (passed_of end (taken es c)).outside + covered_by es + c.reached ≡ c.outside + end
taken_counts [] c end b o h = let p = passed_counts end c h o b in omega arith
taken_counts (handed x ∷ es) c end b o h =
    let l = h.0 in
    let m = apart_bounded (x.position.0 + x.length) es end h.1 in
    let q : (passed_of (begin_of x) c).outside ≡ c.outside + (begin_of x - c.reached) = passed_counts (begin_of x) c (omega arith) o (omega arith) in
    let r : (covered_of x c).reached ≡ x.position.0 + x.length = covered_reaches x c (omega arith) in
    let s : (covered_of x c).outside ≡ (passed_of (begin_of x) c).outside = covered_outside x c in
    let i = taken_counts es (covered_of x c) end b (omega arith) (subst (λ n. Apart n es end) (sym r) h.1) in
    omega arith
taken_counts (too_short a m p ∷ es) c end b o h = taken_counts es c end b o h
taken_counts (failed p ∷ es) c end b o h = taken_counts es c end b o h

-- 3. The units one behind the other.

-- so many bytes as they cover
units_long : (bytes : List ℕ) (n : ℕ) (es : List Event) → Apart n es (length bytes) → length (units_of bytes es) ≡ covered_by es
units_long bytes n [] h = refl
units_long bytes n (handed x ∷ es) h =
    let l = h.0 in
    let m = apart_bounded (x.position.0 + x.length) es (length bytes) h.1 in
    let r = units_long bytes (x.position.0 + x.length) es h.1 in
    let s = length_part bytes (begin_of x) (stamp_length x.waiting) (omega arith) in
    let t = length_part bytes x.position.0 x.length (omega arith) in
    length-append (part bytes (begin_of x) (stamp_length x.waiting)) (part bytes x.position.0 x.length ++ units_of bytes es)
    ∙ ap (λ (k : ℕ). length (part bytes (begin_of x) (stamp_length x.waiting)) + k) (length-append (part bytes x.position.0 x.length) (units_of bytes es))
    ∙ omega arith
units_long bytes n (too_short a m p ∷ es) h = units_long bytes n es h
units_long bytes n (failed p ∷ es) h = units_long bytes n es h

-- a part, and what lies behind it
part_then_rest : (bytes : List ℕ) (n k : ℕ) → drop n bytes ≡ part bytes n k ++ drop (n + k) bytes
part_then_rest bytes n k = sym (take-append-drop k (drop n bytes)) ∙ ap (λ (r : List ℕ). part bytes n k ++ r) (drop-drop k n bytes)

-- where they cover all that is left, what is left is the units
units_join : (bytes : List ℕ) (n : ℕ) (es : List Event) → Apart n es (length bytes) → n + covered_by es ≡ length bytes → drop n bytes ≡ units_of bytes es
units_join bytes n [] h e = (let z : n ≡ length bytes = omega arith in ap (λ k. drop k bytes) z) ∙ drop-length bytes
units_join bytes n (handed x ∷ es) h e =
    let l = h.0 in
    let m = apart_bounded (x.position.0 + x.length) es (length bytes) h.1 in
    let b : n ≡ begin_of x = omega arith in
    let p : begin_of x + stamp_length x.waiting ≡ x.position.0 = omega arith in
    let r = units_join bytes (x.position.0 + x.length) es h.1 (omega arith) in
    ap (λ k. drop k bytes) b
    ∙ part_then_rest bytes (begin_of x) (stamp_length x.waiting)
    ∙ ap (λ (v : List ℕ). part bytes (begin_of x) (stamp_length x.waiting) ++ v)
    (ap (λ k. drop k bytes) p ∙ part_then_rest bytes x.position.0 x.length ∙ ap (λ (v : List ℕ). part bytes x.position.0 x.length ++ v) r)
units_join bytes n (too_short a m p ∷ es) h e = units_join bytes n es h e
units_join bytes n (failed p ∷ es) h e = units_join bytes n es h e

-- 4. Every loss that was counted took a byte that no unit has.

covered_snoc : (es : List Event) (e : Event) → covered_by (es ++ (e ∷ [])) ≡ covered_by es + covered_by (e ∷ [])
covered_snoc [] e = sym (zero-add _)
covered_snoc (handed x ∷ es) e = let h = covered_snoc es e in omega arith
covered_snoc (too_short a m p ∷ es) e = covered_snoc es e
covered_snoc (failed p ∷ es) e = covered_snoc es e

-- what the units cover, a byte for each loss and the timestamp that waits lie before the read position
abbrev Spent : List Event → Stream → Type 0
Spent es s = covered_by es + s.losses.errors + stamp_length s.waiting ≤ at s

kept_shorter : (n : ℕ) (w : Option Timestamp) → stamp_length (kept n w) ≤ stamp_length w
kept_shorter zero w = omega arith
kept_shorter (suc n) w = omega arith

kept_none : (n : ℕ) (w : Option Timestamp) → 1 ≤ n → stamp_length (kept n w) ≡ 0
kept_none zero w h = absurd (omega arith)
kept_none (suc n) w h = refl

stamp_shorter : (p : Result Timestamp TimestampError) → stamp_length (stamp_of p) ≤ 16
stamp_shorter (Ok t) = omega arith
stamp_shorter (Err e) = omega arith

stored_shorter : (seen : Bool) (n : ℕ) (u : List ℕ) (w : Option Timestamp) → stamp_length (stamp_at seen n u w) ≤ stamp_length w + n
unfolding stamp_at
stored_shorter true n u w = let k = kept_shorter n w in omega arith
stored_shorter false n u w = go (leb 16 n) refl
  where
    go : (t : Bool) → leb 16 n ≡ t → stamp_length (pick t (stamp_of (parse_of (part u (n - 16) 16))) (kept n w)) ≤ stamp_length w + n
    go true e = let l = leb-true 16 n e in let k = stamp_shorter (parse_of (part u (n - 16) 16)) in omega arith
    go false e = let k = kept_shorter n w in omega arith

lose_spent : (es : List Event) (w : Loss) (s : Stream) (n : ℕ) → 1 ≤ n → Spent es s → Spent es (lose w n s)
lose_spent es w s n l h = rw (raise_errors w s.losses, kept_none n s.waiting l) (omega arith)

verdict_spent : (es : List Event) (M : ℕ) (s : Stream) (w : Verdict) (n : ℕ) (bs v : List ℕ) → Says s.locked M n w → Spent es s
    → AfterStep (λ fs s' u'. Spent fs s') es (moved (act s w n bs) v)
unfolding act moved
verdict_spent es M s (Lock k) n bs v g h = h
verdict_spent es M s (Lost w) n bs v g h = lose_spent es w s n (omega arith) h
verdict_spent es M s (Short a m) n bs v g h = rw covered_snoc (let z = lose_spent es Length s n (omega arith) h in omega arith)
verdict_spent es M s Failed n bs v g h = rw covered_snoc (let z = lose_spent es Check s n (omega arith) h in omega arith)
verdict_spent es M s (Whole major) n bs v g h = rw covered_snoc (omega arith)

arrive_spent : (es : List Event) (s : Stream) (u : List ℕ) (n : ℕ) → Spent es s → Spent es (arrive n u s)
arrive_spent es s u n h = let k = stored_shorter s.seen n u s.waiting in omega arith

losses_spend : Lasts reader (λ a es s u. Spent es s)
losses_spend = record { steps = λ a es s u h. keeps es s u h; grows = λ a p es s u h. h }
  where
    keeps : (es : List Event) (s : Stream) (u : List ℕ) → Spent es s → AfterStep (λ fs s' u'. Spent fs s') es (step s u)
    keeps es s u h =
        step_shows (AfterStep (λ fs s' u'. Spent fs s') es) s u
        (record {
          waits = λ e d. h;
          decides = λ e r g k l d. verdict_spent es _ s g.answer g.eaten (take g.eaten u) (drop g.eaten u) k.says h;
          misses = λ e f. (let k = kept_shorter (length u - keep s.seen) s.waiting in omega arith);
          finds = λ e n f d. arrive_spent es s u n h;
          judges = λ e n f r g k l d. verdict_spent es 66 (arrive n u s) g.answer g.eaten (take g.eaten (drop n u)) (drop g.eaten (drop n u)) k.says (arrive_spent es s u n h);
        })

-- 5. THE PROMISES, of a fresh scan of any bytes; what a history or a report has is a fresh scan's.

module _ (a : Algorithm) (bytes : List ℕ) (few : length bytes ≤ 18446744073709551615) where
  abbrev events : List Event
  events = (fresh_scan a bytes).events

  -- The bytes outside units and the bytes that the units cover are all of the stream.
  pub outside_and_covered : outside events (length bytes) + covered_by events ≡ length bytes
  unfolding nothing_yet
  outside_and_covered = let t = taken_counts events nothing_yet (length bytes) few (omega arith) (fresh_units_lie_apart a bytes) in omega arith

  -- None is outside exactly if the stream is its units, one behind the other.
  pub none_outside : outside events (length bytes) ≡ 0 → bytes ≡ units_of bytes events
  none_outside z = let t = outside_and_covered in units_join bytes 0 events (fresh_units_lie_apart a bytes) (omega arith)

  pub all_in_units : bytes ≡ units_of bytes events → outside events (length bytes) ≡ 0
  all_in_units e =
      let l : length bytes ≡ covered_by events = ap length e ∙ units_long bytes 0 events (fresh_units_lie_apart a bytes) in
      let t = outside_and_covered in
      omega arith

  -- Every loss took a byte that is outside, spoken or quiet: where none is outside, nothing was counted.
  pub losses_are_outside : (fresh_scan a bytes).final.losses.errors ≤ outside events (length bytes)
  losses_are_outside =
      let p = (fresh_always reader reader_laws (λ b es s u. Standing b s u) standing_lasts (new a) (new_stands a) bytes).0.total in
      let s = fresh_always reader reader_laws (λ b es s u. Spent es s) losses_spend (new a) (omega arith) bytes in
      let t = outside_and_covered in
      omega arith
