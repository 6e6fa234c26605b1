-- The reader's step keeps the machine's two laws: more bytes change no decision, a dry step may be resumed, and a step that isn't dry makes the size less.
use Rattle.std.specs.Prelude.{◌≡◌, Bool, List, ◌++◌, leb, drop, None, Option}
use Rattle.std.proofs.Math.Path.{refl, sym, ap}
use Rattle.std.proofs.Common.{◌∙◌, true≢false, add_assoc, add-zero, zero-add, suc-add, drop-drop}
use Rattle.std.proofs.Math.Bool.{true, false}
use Prim.Native.Nat.{ℕ, zero, suc, ◌+◌, ◌-◌, ◌*◌, ◌≤◌, ◌<◌}
use native.Mathlib.Omega.{arith}
use Rattle.std.proofs.Math.ListN.{length, length-append, length-drop}
use Rattle.std.proofs.lemmas.List.{drop-append-le}
use borrow.Author.Tests.{leb-true, leb-false, le-leb}
use Rattle.laws.specs.Pick.{pick}
use Rattle.laws.specs.Parts.{part, part_further}
use Rattle.laws.specs.First.{Place, At, Nowhere}
use Rattle.machine.specs.Step.{dry, further, Below, Laws}
use Rattle.machine.specs.Ask.{Ask, Eat, decide, moved, settle}
use Rattle.machine.proofs.AskLaws.{settle_further}
use Rattle.timestamp.specs.Timestamp.{parse_of}
use Rattle.rules.specs.Search.{find, keep, kept, stamp_of, stamp_at, candidate}
use Rattle.rules.specs.Request.{unit, advance, arrive, act, search, size_of, reader}
use Rattle.rules.proofs.FindLaws.{found_fits, found_further, found_again, found_late, shift, found_behind}
use Rattle.rules.proofs.VerdictLaws.{Says}
use Rattle.rules.proofs.StepLaws.{step, step_locked, step_searching, step_shows}
use Rattle.rules.specs.declared.Stream.{Stream}
use Rattle.rules.specs.declared.Verdict.{Verdict}
use Rattle.rules.specs.declared.Verdict.TheVariants.{Lock, Lost, Short, Failed, Whole}
use Rattle.timestamp.specs.declared.Timestamp.{Timestamp}

-- 1. A step that isn't dry makes the size less.

act_less : (w : Verdict) (M N : ℕ) (s : Stream) (n : ℕ) (bs u : List ℕ) → Says s.locked M n w → 2 * (n + length u) + pick s.locked 0 1 ≤ N
    → Below size_of N (moved (act s w n bs) u)
unfolding act moved size_of
act_less (Lock k) M N s n bs u h l = let f : 2 * (n + length u) + 1 ≤ N = rw h.0 at l in omega arith
act_less (Lost w) M N s n bs u h l = omega arith
act_less (Short a m) M N s n bs u h l = omega arith
act_less Failed M N s n bs u h l = omega arith
act_less (Whole major) M N s n bs u h l = omega arith

step_less : (s : Stream) (u : List ℕ) → Below size_of (size_of s u) (step s u)
unfolding size_of
step_less s u =
    step_shows (Below size_of (size_of s u)) s u
    (record {
      waits = λ e d. tt;
      decides = λ e r g k l d. act_less g.answer _ (size_of s u) s g.eaten _ (drop g.eaten u) k.says (rw (length-drop g.eaten u) (omega arith));
      misses = λ e f. tt;
      finds = λ e n f d. tt;
      judges = λ e n f r g k l d. act_less g.answer _ (size_of s u) (arrive n u s) g.eaten _ (drop g.eaten (drop n u)) k.says
          (rw (length-drop g.eaten (drop n u), e) (let m = length-drop n u in omega arith));
    })

-- 2. More bytes, where something was found.

locked_further : (s : Stream) (u v : List ℕ) → s.locked ≡ true → step s (u ++ v) ≡ further step (step s u) v
locked_further s u v e =
    step_locked s (u ++ v) e ∙ settle_further (act s) s (unit s.substreams) step u v (sym (step_locked s (u ++ v) e))
    ∙ ap (λ x. further step x v) (sym (step_locked s u e))

-- Arriving where one has arrived changes nothing, so that a waiting timestamp stays while its unit is still arriving.
arrive_again : (n : ℕ) (u w : List ℕ) (s : Stream) → arrive 0 w (arrive n u s) ≡ arrive n u s
unfolding stamp_at
arrive_again n u w s = rw add-zero

-- "Never seen before and at least 16 bytes precede the candidate: read those 16 as timestamp."
pub stamp_read : (n : ℕ) (u : List ℕ) (w : Option Timestamp) → 16 ≤ n → stamp_at false n u w ≡ stamp_of (parse_of (part u (n - 16) 16))
unfolding stamp_at
stamp_read n u w l = rw (le-leb 16 n l)

-- The 16 bytes before the candidate are there.
stamp_at_further : (seen : Bool) (n : ℕ) (u v : List ℕ) (w : Option Timestamp) → n ≤ length u → stamp_at seen n (u ++ v) w ≡ stamp_at seen n u w
unfolding stamp_at
stamp_at_further true n u v w l = refl
stamp_at_further false n u v w l = go (leb 16 n) refl
  where
    go : (b : Bool) → leb 16 n ≡ b
        → pick b (stamp_of (parse_of (part (u ++ v) (n - 16) 16))) (kept n w) ≡ pick b (stamp_of (parse_of (part u (n - 16) 16))) (kept n w)
    go true e = ap (λ t. stamp_of (parse_of t)) (part_further u (n - 16) 16 (let k = leb-true 16 n e in omega arith) v)
    go false e = refl

candidate_further : (s : Stream) (u v : List ℕ) (n : ℕ) → s.locked ≡ false → find u ≡ At n → step s (u ++ v) ≡ further step (step s u) v
unfolding search
candidate_further s u v n e f =
    let l : n ≤ length u = (let k = found_fits u n f in omega arith) in
    let w : List ℕ = drop n u in
    let s₁ : Stream = arrive n u s in
    let q : Ask (Eat Verdict) = candidate s.check in
    let again : settle (act s₁) s₁ (w ++ v) (decide q (w ++ v)) ≡ step s₁ (w ++ v) =
    sym (step_searching s₁ (w ++ v) refl ∙ ap (search s₁ (w ++ v)) (found_again u v n f)
    ∙ ap (λ (x : Stream). settle (act x) x (w ++ v) (decide q (w ++ v))) (arrive_again n u (w ++ v) s)) in
    let reached : search s (u ++ v) (At n) ≡ settle (act s₁) s₁ (w ++ v) (decide q (w ++ v)) =
    rw (stamp_at_further s.seen n u v s.waiting l, drop-append-le n u v l) in
    step_searching s (u ++ v) e ∙ ap (search s (u ++ v)) (found_further u v n f) ∙ reached ∙ settle_further (act s₁) s₁ q step w v again
    ∙ ap (λ x. further step x v) (sym (step_searching s u e ∙ ap (search s u) f))

-- 3. More bytes, where nothing was found: what was consumed is missed by no later search.

-- "Consuming any byte drops a waiting timestamp."
kept_drops : (n : ℕ) (w : Option Timestamp) → kept (suc n) w ≡ None
kept_drops n w = refl

kept_nothing : (n : ℕ) → kept n None ≡ None
kept_nothing zero = refl
kept_nothing (suc n) = refl

kept_kept : (d n : ℕ) (w : Option Timestamp) → kept (d + n) w ≡ kept n (kept d w)
kept_kept zero n w = rw (zero-add n)
kept_kept (suc d) n w = rw (suc-add d n) (sym (kept_nothing n))

advance_none : (s : Stream) → advance 0 s ≡ s
advance_none s = rw add-zero

advance_advance : (d n : ℕ) (s : Stream) → advance (d + n) s ≡ advance n (advance d s)
advance_advance d n s = rw (← (add_assoc s.consumed.0 d n), kept_kept d n s.waiting)

-- A candidate of which a byte is still to come begins in the last 7 bytes: these are kept ..
keep_seven : (seen : Bool) → 7 ≤ keep seen
keep_seven true = omega arith
keep_seven false = omega arith

-- .. and before the first sync the 16 ahead of them too, which may be its timestamp.
keep_sixteen_more : (seen : Bool) → seen ≡ false → 16 + 7 ≤ keep seen
keep_sixteen_more true e = absurd (true≢false e)
keep_sixteen_more false e = omega arith

module _ (u v : List ℕ) where
  drop_further : (d n : ℕ) → d ≤ length u → drop (d + n) (u ++ v) ≡ drop n (drop d u ++ v)
  drop_further d n h = sym (ap (drop n) (sym (drop-append-le d u v h)) ∙ drop-drop n d (u ++ v))

  stamp_at_behind : (seen : Bool) (d m : ℕ) (w : Option Timestamp) → d ≤ length u → (seen ≡ false → 16 ≤ m)
      → stamp_at seen (d + m) (u ++ v) w ≡ stamp_at seen m (drop d u ++ v) (kept d w)
  unfolding stamp_at
  stamp_at_behind true d m w h g = kept_kept d m w
  stamp_at_behind false d m w h g =
      let k : 16 ≤ m = g refl in
      let z : d + m - 16 ≡ d + (m - 16) = omega arith in
      rw (le-leb 16 m k, le-leb 16 (d + m) (omega arith), z, drop_further d (m - 16) h)

  arrive_behind : (s : Stream) (d m : ℕ) → d ≤ length u → (s.seen ≡ false → 16 ≤ m) → arrive (d + m) (u ++ v) s ≡ arrive m (drop d u ++ v) (advance d s)
  arrive_behind s d m h g = rw (← (add_assoc s.consumed.0 d m), stamp_at_behind s.seen d m s.waiting h g)

  module _ (s : Stream) (f : find u ≡ Nowhere) where
    -- A search that resumes on the bytes kept goes as one that had them all.
    search_behind : (d : ℕ) → d + keep s.seen ≡ length u → (x : Place) → find (drop d u ++ v) ≡ x
        → search s (u ++ v) (shift d x) ≡ search (advance d s) (drop d u ++ v) x
    unfolding search
    search_behind d z Nowhere e =
        let n : ℕ = length (drop d u ++ v) - keep s.seen in
        let h : d ≤ length u = omega arith in
        let q : length (u ++ v) - keep s.seen ≡ d + n = rw (length-append u v, length-append (drop d u) v, length-drop d u) (omega arith) in
        ap (λ (x : ℕ). dry (advance x s) (drop x (u ++ v))) q ∙ ap (λ (x : Stream). dry x (drop (d + n) (u ++ v))) (advance_advance d n s)
        ∙ ap (dry (advance n (advance d s))) (drop_further d n h)
    search_behind d z (At m) e =
        let h : d ≤ length u = omega arith in
        let c : find (u ++ v) ≡ At (d + m) = found_behind u v d f (let k = keep_seven s.seen in omega arith) ∙ ap (shift d) e in
        let l : length u < d + m + 8 = found_late u v (d + m) f c in
        let late : s.seen ≡ false → 16 ≤ m = (λ b. let k = keep_sixteen_more s.seen b in omega arith) in
        rw (drop_further d m h)
        (ap (λ (x : Stream). settle (act x) x (drop m (drop d u ++ v)) (decide (candidate s.check) (drop m (drop d u ++ v)))) (arrive_behind s d m h late))

    nowhere_further : s.locked ≡ false → step s (u ++ v) ≡ further step (step s u) v
    unfolding search further
    nowhere_further e =
        step_searching s (u ++ v) e ∙ go (leb (keep s.seen) (length u)) refl ∙ sym (step_searching (advance d s) (drop d u ++ v) e)
        ∙ ap (λ x. further step x v) (sym (step_searching s u e ∙ ap (search s u) f))
      where
        d : ℕ
        d = length u - keep s.seen

        go : (b : Bool) → leb (keep s.seen) (length u) ≡ b → search s (u ++ v) (find (u ++ v)) ≡ search (advance d s) (drop d u ++ v) (find (drop d u ++ v))
        go true t =
            ap (search s (u ++ v)) (found_behind u v d f (let k = keep_seven s.seen in omega (arith, leb-true)))
            ∙ search_behind d (omega (arith, leb-true)) (find (drop d u ++ v)) refl
        go false t = let z : d ≡ 0 = omega (arith, leb-false) in rw (z, advance_none s)

-- 4. The two laws.

step_further : (s : Stream) (u v : List ℕ) → step s (u ++ v) ≡ further step (step s u) v
step_further s u v = go s.locked refl
  where
    look : s.locked ≡ false → (x : Place) → find u ≡ x → step s (u ++ v) ≡ further step (step s u) v
    look e Nowhere f = nowhere_further u v s f e
    look e (At n) f = candidate_further s u v n e f

    go : (b : Bool) → s.locked ≡ b → step s (u ++ v) ≡ further step (step s u) v
    go true e = locked_further s u v e
    go false e = look e (find u) refl

pub reader_laws : Laws reader
reader_laws = record { cut = step_further; less = step_less }
