-- What each way out of the search's functions shows.
use Rattle.std.specs.Prelude.{Err, None, Ok, Option, Result, Some}
use Prim.Native.Nat.{ℕ, zero, suc, ◌+◌, ◌-◌, ◌*◌, ◌/◌, ◌%◌, ◌≤◌, ◌<◌}
use native.Mathlib.Omega.{arith}
use mathlib.Core.Path.{◌≡◌, refl, sym, ap, ap₂, ◌∙◌}
use mathlib.Core.Bool.{Bool, true, false}
use mathlib.Core.Option.{none, some, some-ne-none}
use mathlib.Core.List.{List}
use lib.Bits.{bit_and}
use lib.Dec.{leb, ltb, eqb}
use lib.ListN.{length, take, drop, length-take, length-drop}
use lib.Seq.{get_or-take}
use borrow.Author.Tests.{eq-eqb, ne_eqb, le-leb, lt-leb, lt-ltb, le-ltb, leb-true, leb-false}
use Rattle.laws.specs.Parts.{byte_at, part, part_part}
use Rattle.laws.specs.First.{Place, At, Nowhere, first_from, scan_end, scan_here, scan_later}
use Rattle.laws.specs.Words.{word}
use Rattle.machine.specs.Ask.{Ask, either, first, ◌>>=◌, Eat, eat, ask, decide}
use Rattle.machine.proofs.AskLaws.{ask_done, ask_byte, ask_byte_missing, ask_front, ask_front_missing, ask_true, ask_false, then_ask, ask_then, decide_made, decide_unasked}
use Rattle.crc.specs.declared.Algorithm.{Algorithm}
use Rattle.crc.specs.Crc.{check_of}
use Rattle.timestamp.specs.declared.Timestamp.{Timestamp}
use Rattle.timestamp.specs.declared.TimestampError.{TimestampError}
use Rattle.timestamp.specs.Timestamp.{parse_of}
use Rattle.rules.specs.declared.Verdict.{Verdict}
use Rattle.rules.specs.declared.Verdict.TheVariants.{Lock, Short, Failed}
use Rattle.rules.specs.Search.{candidate_at, find, kept, stamp_at, sync_length, unit_length, checks, candidate}
use Rattle.rules.proofs.BoundLaws.{sync_length_bounded}
use Rattle.judging.specs.Means.{length_of, SyncIs}

-- the scan: the first of all places is the first of those from i on
module _ (p : ℕ → Bool) (places i : ℕ) {x : Place} (same : x ≡ first_from p i (places - i)) where
  pub none_left : places ≤ i → Nowhere ≡ x
  none_left h = sym (same ∙ scan_end p i places h)

  module _ (h : i < places) {b : Bool} (eb : b ≡ p i) where
    pub found_here : b ≡ true → At i ≡ x
    found_here t = sym (same ∙ scan_here p i places h (sym eb ∙ t))

    pub found_later : b ≡ false → x ≡ first_from p (i + 1) (places - (i + 1))
    found_later f = same ∙ scan_later p i places h (sym eb ∙ f)

pub find_begins : (u : List ℕ) → find u ≡ first_from (candidate_at u) 0 (length u - 7 - 0)
unfolding find
find_begins u = ap (first_from (candidate_at u) 0) (omega arith)

-- a waiting timestamp
pub kept_gone : (n : ℕ) (w : Option Timestamp) → (n ≡ 0 → ⊥) → None ≡ kept n w
kept_gone zero w f = absurd (f refl)
kept_gone (suc n) w f = refl

module _ (seen : Bool) (n : ℕ) (u : List ℕ) (w : Option Timestamp) where
  pub stamp_seen : seen ≡ true → {r : Option Timestamp} → r ≡ kept n w → r ≡ stamp_at seen n u w
  unfolding stamp_at
  stamp_seen t e = e ∙ rw t

  module _ (f : seen ≡ false) where
    pub stamp_near : n < 16 → {r : Option Timestamp} → r ≡ kept n w → r ≡ stamp_at seen n u w
    unfolding stamp_at
    stamp_near h e = e ∙ rw (f, lt-leb 16 n h)

    -- a part that ends behind the bytes is shorter than a timestamp
    pub stamp_cut : 16 ≤ n → length u < n → None ≡ stamp_at seen n u w
    unfolding stamp_at parse_of
    stamp_cut h l =
        let k : length (part u (n - 16) 16) < 16 = simp (length-take, length-drop) (omega arith) in
        rw (f, le-leb 16 n h, lt-ltb (length (part u (n - 16) 16)) 16 k)

    module _ (h : 16 ≤ n) {p : Result Timestamp TimestampError} (ep : p ≡ parse_of (take (n - (n - 16)) (drop (n - 16) u))) where
      read : p ≡ parse_of (part u (n - 16) 16)
      read = let k : n - (n - 16) ≡ 16 = omega arith in ep ∙ ap (λ (m : ℕ). parse_of (take m (drop (n - 16) u))) k

      pub stamp_none : {e : TimestampError} → p ≡ Err e → None ≡ stamp_at seen n u w
      unfolding stamp_at
      stamp_none q = rw (f, le-leb 16 n h, ← read, q)

      pub stamp_one : {t : Timestamp} → p ≡ Ok t → Some t ≡ stamp_at seen n u w
      unfolding stamp_at
      stamp_one q = rw (f, le-leb 16 n h, ← read, q)

-- the sync's length: only the bytes that the rule reads
module _ (u : List ℕ) where
  pub length_unsaid_7 : length u < 8 → none ≡ ask sync_length u
  unfolding sync_length
  length_unsaid_7 h = sym (ask_byte_missing 7 _ u (omega arith))

  module _ (h : 8 ≤ length u) where
    pub length_fbb : byte_at u 7 ≡ 0xBB → some 26 ≡ ask sync_length u
    unfolding sync_length
    length_fbb e = sym (ask_byte 7 _ u (omega arith) ∙ ask_true _ _ _ u (eq-eqb _ _ e) ∙ ask_done _ u)

    module _ (n : byte_at u 7 ≡ 0xBB → ⊥) where
      pub length_unsaid_29 : length u < 30 → none ≡ ask sync_length u
      unfolding sync_length
      length_unsaid_29 l = sym (ask_byte 7 _ u (omega arith) ∙ ask_false _ _ _ u (ne_eqb _ _ n) ∙ ask_byte_missing 29 _ u (omega arith))

      module _ (l : 30 ≤ length u) where
        pub length_even : byte_at u 29 % 2 ≡ 0 → some 26 ≡ ask sync_length u
        unfolding sync_length
        length_even e =
            sym (ask_byte 7 _ u (omega arith) ∙ ask_false _ _ _ u (ne_eqb _ _ n) ∙ ask_byte 29 _ u (omega arith) ∙ ask_true _ _ _ u (eq-eqb _ _ e) ∙ ask_done _ u)

        module _ (o : byte_at u 29 % 2 ≡ 0 → ⊥) where
          pub length_unsaid_30 : length u < 31 → none ≡ ask sync_length u
          unfolding sync_length
          length_unsaid_30 k =
              sym
              (ask_byte 7 _ u (omega arith) ∙ ask_false _ _ _ u (ne_eqb _ _ n) ∙ ask_byte 29 _ u (omega arith) ∙ ask_false _ _ _ u (ne_eqb _ _ o) ∙ ask_byte_missing 30 _ u (omega arith))

          pub length_long : 31 ≤ length u → {x : ℕ} → x ≡ byte_at u 30 → some (28 + bit_and (x / 8) 0x1E) ≡ ask sync_length u
          unfolding sync_length
          length_long k e =
              rw e
              (sym
              (ask_byte 7 _ u (omega arith) ∙ ask_false _ _ _ u (ne_eqb _ _ n) ∙ ask_byte 29 _ u (omega arith) ∙ ask_false _ _ _ u (ne_eqb _ _ o) ∙ ask_byte 30 _ u (omega arith) ∙ ask_done _ u))

-- the check
module _ (a : Algorithm) (m : ℕ) (bs : List ℕ) where
  pub check_asked : {found stored : ℕ} → found ≡ check_of a (take (4 + m - 4) (drop 4 bs)) → stored ≡ word (byte_at bs (4 + m)) (byte_at bs (4 + m + 1)) → eqb found stored ≡ checks a m bs
  unfolding checks
  check_asked ef es = let k : 4 + m - 4 ≡ m = omega arith in rw (ef, es, k)

-- the check reads within the unit
checks_front : (a : Algorithm) (m n : ℕ) (u : List ℕ) → m + 6 ≤ n → checks a m (take n u) ≡ checks a m u
unfolding checks
checks_front a m n u h =
    ap₂ (λ (bs : List ℕ) (w : ℕ). eqb (check_of a bs) w) (part_part u 0 n 4 m (omega arith))
    (ap₂ word (get_or-take n u (4 + m) 0 (omega arith)) (get_or-take n u (4 + m + 1) 0 (omega arith)))

-- the candidate: where the sync's length is said, byte 7 is there
said_there : (u : List ℕ) (m : ℕ) → ask sync_length u ≡ some m → 8 ≤ length u
said_there u m s = go (leb 8 (length u)) refl
  where
    go : (b : Bool) → leb 8 (length u) ≡ b → 8 ≤ length u
    go true e = leb-true _ _ e
    go false e = absurd (some-ne-none _ (sym s ∙ sym (length_unsaid_7 u (omega (arith, leb-false)))))

pub sync_is : (u : List ℕ) (m : ℕ) {r : Option ℕ} → length_of r ≡ ask sync_length u → r ≡ Some m → SyncIs m u
sync_is u m e q =
    let s : ask sync_length u ≡ some m = sym e ∙ ap length_of q in
    let b = sync_length_bounded u m s in
    record { said = s; low = b.0; high = b.1; there = said_there u m s }

module _ (a : Algorithm) (u : List ℕ) where
  -- the rule after its first question
  abbrev after_sync : ℕ → Ask (Eat Verdict)
  after_sync m = unit_length >>= (λ n. either (ltb n (m + 8)) (eat 1 (Short n (m + 8))) (first n >>= (λ bs. either (checks a m bs) (eat 0 (Lock (byte_at bs 20 / 16 % 16))) (eat n Failed))))

  pub candidate_unsaid : {r : Option ℕ} → length_of r ≡ ask sync_length u → r ≡ None → none ≡ decide (candidate a) u
  unfolding candidate
  candidate_unsaid e q = sym (decide_unasked (candidate a) u (ask_then sync_length after_sync u ∙ ap (then_ask after_sync u) (sym e ∙ ap length_of q)))

  module _ (m : ℕ) (s : SyncIs m u) {n : ℕ} (en : n ≡ 2 * (word (byte_at u 0) (byte_at u 1) % 4096)) where
    length_said : ask unit_length u ≡ some n
    unfolding unit_length
    length_said = let h = s.there in ask_byte 0 _ u (omega arith) ∙ ask_byte 1 _ u (omega arith) ∙ ask_done _ u ∙ ap some (sym en)

    asked : ask (candidate a) u ≡ ask (either (ltb n (m + 8)) (eat 1 (Short n (m + 8))) (first n >>= (λ bs. either (checks a m bs) (eat 0 (Lock (byte_at bs 20 / 16 % 16))) (eat n Failed)))) u
    unfolding candidate
    asked = ask_then sync_length after_sync u ∙ ap (then_ask after_sync u) s.said ∙ ask_then unit_length _ u ∙ ap (then_ask _ u) length_said

    pub candidate_short : n < m + 8 → some (record { eaten = 1; answer = Short n (m + 8) }) ≡ decide (candidate a) u
    candidate_short h =
        let l = s.there in sym (decide_made (candidate a) u _ (asked ∙ ask_true _ _ _ u (lt-ltb n (m + 8) h) ∙ ask_done _ u) (omega arith))

    module _ (h : m + 8 ≤ n) where
      pub candidate_waits : length u < n → none ≡ decide (candidate a) u
      candidate_waits l = sym (decide_unasked (candidate a) u (asked ∙ ask_false _ _ _ u (le-ltb n (m + 8) h) ∙ ask_front_missing n _ u l))

      module _ (l : n ≤ length u) {b : Bool} (eb : b ≡ checks a m u) where
        judged : ask (candidate a) u ≡ ask (either (checks a m u) (eat 0 (Lock (byte_at u 20 / 16 % 16))) (eat n Failed)) u
        judged =
            asked
            ∙ ask_false _ _ _ u (le-ltb n (m + 8) h)
            ∙ ask_front n _ u l
            ∙ ap₂ (λ (t : Bool) (x : ℕ). ask (either t (eat 0 (Lock (x / 16 % 16))) (eat n Failed)) u) (checks_front a m n u (omega arith))
            (let k = s.low in get_or-take n u 20 0 (omega arith))

        pub candidate_locks : b ≡ true → some (record { eaten = 0; answer = Lock (byte_at u 20 / 16 % 16) }) ≡ decide (candidate a) u
        candidate_locks t = sym (decide_made (candidate a) u _ (judged ∙ ask_true _ _ _ u (sym eb ∙ t) ∙ ask_done _ u) (omega arith))

        pub candidate_fails : b ≡ false → some (record { eaten = n; answer = Failed }) ≡ decide (candidate a) u
        candidate_fails f = sym (decide_made (candidate a) u _ (judged ∙ ask_false _ _ _ u (sym eb ∙ f) ∙ ask_done _ u) l)
