-- What each turn and each way out of the unit's functions shows.
use Prim.Native.Nat.{ℕ, suc, ◌+◌, ◌-◌, ◌*◌, ◌/◌, ◌%◌, ◌≤◌, ◌<◌}
use native.Mathlib.Omega.{arith}
use mathlib.Core.Path.{◌≡◌, refl, sym, ap, ◌∙◌}
use mathlib.Core.Bool.{Bool, true, false, ◌&&◌, and-false}
use mathlib.Core.Option.{Option, none, some}
use mathlib.Core.List.{List}
use lib.Bits.{bit_xor}
use lib.Dec.{leb, ltb, eqb}
use lib.ListN.{length}
use borrow.Author.Tests.{eq-eqb, ne_eqb, le-leb, lt-leb, lt-ltb, le-ltb, leb-true, leb-false}
use Rattle.laws.specs.Parts.{byte_at}
use Rattle.laws.specs.Words.{word}
use Rattle.laws.specs.Turns.{less_one}
use Rattle.machine.specs.Ask.{Ask, byte, either, ◌>>=◌, Eat, eat, ask, arrived, decide}
use Rattle.machine.proofs.AskLaws.{ask_done, ask_byte, ask_byte_missing, ask_true, ask_false, then_ask, ask_then, decide_made, decide_waits, decide_unasked}
use Rattle.rules.specs.declared.Loss.TheVariants.{Mismatch, Parity}
use Rattle.rules.specs.declared.Verdict.{Verdict}
use Rattle.rules.specs.declared.Verdict.TheVariants.{Lost, Short, Whole}
use Rattle.rules.specs.Search.{sync_length, unit_length}
use Rattle.rules.specs.Request.{End, directory, even, closing, body, unit}
use Rattle.rules.specs.Units.{is_major}
use Rattle.rules.proofs.BoundLaws.{sync_length_bounded, directory_bounded}
use Rattle.std.specs.Prelude.{Some, None}
use Rattle.std.specs.Prelude.{Option as Answered}
use Rattle.judging.specs.declared.unit.Walk.{Walk}
use Rattle.judging.specs.Means.{length_of, walk_of, end_of}

-- ONE ENTRY of the directory
module _ (u : List ℕ) (at p : ℕ) where
  pub entry_cut : length u < at + 2 → none ≡ ask (directory 1 at p) u
  unfolding directory
  entry_cut l = sym (go (leb (suc at) (length u)) refl)
    where
      go : (b : Bool) → leb (suc at) (length u) ≡ b → ask (directory 1 at p) u ≡ none
      go true e = ask_byte at _ u (leb-true _ _ e) ∙ ask_byte_missing (at + 1) _ u (omega arith)
      go false e = ask_byte_missing at _ u (omega (arith, leb-false))

  module _ (there : at + 2 ≤ length u) where
    pub entry_of_two : byte_at u at < 128 → some (end_of (at + 2) (bit_xor (bit_xor p (byte_at u at)) (byte_at u (at + 1)))) ≡ ask (directory 1 at p) u
    unfolding directory
    entry_of_two s = sym (ask_byte at _ u (omega arith) ∙ ask_byte (at + 1) _ u (omega arith) ∙ ask_false _ _ _ u (lt-leb 128 (byte_at u at) s) ∙ ask_done _ u)

    module _ (s : 128 ≤ byte_at u at) where
      abbrev last_two : Ask End
      last_two = byte (at + 2) (λ c. byte (at + 3) (λ d. directory 0 (at + 4) (bit_xor (bit_xor (bit_xor (bit_xor p (byte_at u at)) (byte_at u (at + 1))) c) d)))

      long : ask (directory 1 at p) u ≡ ask last_two u
      unfolding directory
      long = ask_byte at _ u (omega arith) ∙ ask_byte (at + 1) _ u (omega arith) ∙ ask_true _ _ _ u (le-leb 128 (byte_at u at) s)

      pub long_entry_cut : length u < at + 4 → none ≡ ask (directory 1 at p) u
      long_entry_cut l = sym (long ∙ go (leb (at + 3) (length u)) refl)
        where
          go : (b : Bool) → leb (at + 3) (length u) ≡ b → ask last_two u ≡ none
          go true e = ask_byte (at + 2) _ u (omega (arith, leb-true)) ∙ ask_byte_missing (at + 3) _ u (omega arith)
          go false e = ask_byte_missing (at + 2) _ u (omega (arith, leb-false))

      pub entry_of_four : at + 4 ≤ length u → {a b c d : ℕ} → a ≡ byte_at u at → b ≡ byte_at u (at + 1) → c ≡ byte_at u (at + 2) → d ≡ byte_at u (at + 3)
          → some (end_of (at + 4) (bit_xor (bit_xor (bit_xor (bit_xor p a) b) c) d)) ≡ ask (directory 1 at p) u
      unfolding directory
      entry_of_four l ea eb ec ed = rw (ea, eb, ec, ed) (sym (long ∙ ask_byte (at + 2) _ u (omega arith) ∙ ask_byte (at + 3) _ u (omega arith) ∙ ask_done _ u))

-- THE DIRECTORY: one entry, and then the others
module _ (u : List ℕ) where
  entry_then : (k at p : ℕ) → ask (directory (suc k) at p) u ≡ then_ask (λ e. directory k e.place e.parity) u (ask (directory 1 at p) u)
  unfolding directory
  entry_then k at p = ask_then (directory 1 at p) (λ e. directory k e.place e.parity) u

  -- what is asked of all entries is asked of those that are left
  module _ (at p k : ℕ) {x : Option End} (same : x ≡ ask (directory k at p) u) where
    pub no_entries_left : k ≤ 0 → some (end_of at p) ≡ x
    unfolding directory
    no_entries_left h = let z : k ≡ 0 = omega arith in sym (same ∙ ap (λ (n : ℕ). ask (directory n at p) u) z ∙ ask_done _ u)

    module _ (more : 0 < k) (w : Answered Walk) (ew : walk_of w ≡ ask (directory 1 at p) u) where
      entry_first : x ≡ then_ask (λ e. directory (k - 1) e.place e.parity) u (walk_of w)
      entry_first = same ∙ ap (λ (n : ℕ). ask (directory n at p) u) (less_one k more) ∙ entry_then (k - 1) at p ∙ ap (then_ask (λ e. directory (k - 1) e.place e.parity) u) (sym ew)

      pub entries_cut : w ≡ None → none ≡ x
      entries_cut q = sym (entry_first ∙ ap (λ y. then_ask (λ e. directory (k - 1) e.place e.parity) u (walk_of y)) q)

      pub entries_later : {v : Walk} → w ≡ Some v → {n : ℕ} → n ≡ k - 1 → x ≡ ask (directory n v.place v.parity) u
      entries_later q en = rw en (entry_first ∙ ap (λ y. then_ask (λ e. directory (k - 1) e.place e.parity) u (walk_of y)) q)

-- THE UNIT'S LENGTH AND THE CLOSING
module _ (u : List ℕ) (major : Bool) (place p : ℕ) {b : Bool} (eb : b ≡ even p) where
  abbrev lengths : Ask (Eat Verdict)
  lengths = unit_length >>= (λ n. either (ltb n place) (eat 1 (Short n place)) (eat n (Whole major)))

  pub closing_odd : 2 ≤ length u → b ≡ false → some (record { eaten = 1; answer = Lost Parity }) ≡ decide (closing major (end_of place p)) u
  unfolding closing
  closing_odd h f = sym (decide_made (closing major (end_of place p)) u _ (ask_false (even p) lengths _ u (sym eb ∙ f) ∙ ask_done _ u) (omega arith))

  module _ (h : 2 ≤ length u) (t : b ≡ true) {n : ℕ} (en : n ≡ 2 * (word (byte_at u 0) (byte_at u 1) % 4096)) where
    asked : ask (closing major (end_of place p)) u ≡ ask (either (ltb n place) (eat 1 (Short n place)) (eat n (Whole major))) u
    unfolding closing unit_length
    asked =
        ask_true (even p) lengths _ u (sym eb ∙ t)
        ∙ ask_byte 0 _ u (omega arith)
        ∙ ask_byte 1 _ u (omega arith)
        ∙ ap (λ (m : ℕ). ask (either (ltb m place) (eat 1 (Short m place)) (eat m (Whole major))) u) (sym en)

    pub closing_short : n < place → some (record { eaten = 1; answer = Short n place }) ≡ decide (closing major (end_of place p)) u
    closing_short l = sym (decide_made (closing major (end_of place p)) u _ (asked ∙ ask_true _ _ _ u (lt-ltb n place l) ∙ ask_done _ u) (omega arith))

    module _ (l : place ≤ n) where
      whole : ask (closing major (end_of place p)) u ≡ some (record { eaten = n; answer = Whole major })
      whole = asked ∙ ask_false _ _ _ u (le-ltb n place l) ∙ ask_done _ u

      pub closing_waits : length u < n → none ≡ decide (closing major (end_of place p)) u
      closing_waits s = sym (decide_waits (closing major (end_of place p)) u _ whole s)

      pub closing_whole : n ≤ length u → some (record { eaten = n; answer = Whole major }) ≡ decide (closing major (end_of place p)) u
      closing_whole s = sym (decide_made (closing major (end_of place p)) u _ whole s)

-- THE BODY: the first four bytes, the directory, the closing
module _ (u : List ℕ) (k : ℕ) (major : Bool) (skip : ℕ) (h : 4 ≤ length u) where
  abbrev first4 : ℕ
  first4 = bit_xor (bit_xor (bit_xor (byte_at u 0) (byte_at u 1)) (byte_at u 2)) (byte_at u 3)

  begun : ask (body k major skip) u ≡ then_ask (closing major) u (ask (directory k (4 + skip) first4) u)
  unfolding body
  begun =
      ask_byte 0 _ u (omega arith)
      ∙ ask_byte 1 _ u (omega arith)
      ∙ ask_byte 2 _ u (omega arith)
      ∙ ask_byte 3 _ u (omega arith)
      ∙ ask_then (directory k (4 + skip) first4) (closing major) u

  module _ {w : Answered Walk} (ew : walk_of w ≡ ask (directory k (4 + skip) first4) u) where
    pub body_cut : w ≡ None → none ≡ decide (body k major skip) u
    body_cut q = sym (decide_unasked (body k major skip) u (begun ∙ ap (then_ask (closing major) u) (sym ew ∙ ap walk_of q)))

    module _ {end : Walk} (q : w ≡ Some end) where
      ended : ask (directory k (4 + skip) first4) u ≡ some (end_of end.place end.parity)
      ended = sym ew ∙ ap walk_of q

      pub place_bounded : k < 256 → skip ≤ 60 → (2 ≤ length u) × (end.place ≤ 1084)
      place_bounded f g = let b = directory_bounded k (4 + skip) first4 u (end_of end.place end.parity) ended in (omega arith, omega arith)

      pub body_closes : {r : Option (Eat Verdict)} → r ≡ decide (closing major (end_of end.place end.parity)) u → r ≡ decide (body k major skip) u
      unfolding decide
      body_closes e = e ∙ sym (ap (arrived u) (begun ∙ ap (then_ask (closing major) u) ended))

-- THE UNIT
module _ (k : ℕ) (u : List ℕ) where
  pub unit_unseen : length u < 6 → none ≡ decide (unit k) u
  unfolding unit
  unit_unseen l = sym (decide_unasked (unit k) u (go (leb 5 (length u)) refl))
    where
      go : (b : Bool) → leb 5 (length u) ≡ b → ask (unit k) u ≡ none
      go true e = ask_byte 4 _ u (omega (arith, leb-true)) ∙ ask_byte_missing 5 _ u (omega arith)
      go false e = ask_byte_missing 4 _ u (omega (arith, leb-false))

  module _ (h : 6 ≤ length u) where
    minor : (eqb (byte_at u 4) 0xF8 && eqb (byte_at u 5) 0x72) ≡ false → ask (unit k) u ≡ ask (body k false 0) u
    unfolding unit
    minor e = ask_byte 4 _ u (omega arith) ∙ ask_byte 5 _ u (omega arith) ∙ ask_false _ _ _ u e

    pub unit_minor_4 : (byte_at u 4 ≡ 0xF8 → ⊥) → {r : Option (Eat Verdict)} → r ≡ decide (body k false 0) u → r ≡ decide (unit k) u
    unfolding decide
    unit_minor_4 n e = e ∙ sym (ap (arrived u) (minor (rw (ne_eqb (byte_at u 4) 0xF8 n))))

    module _ (e4 : byte_at u 4 ≡ 0xF8) where
      pub unit_minor_5 : (byte_at u 5 ≡ 0x72 → ⊥) → {r : Option (Eat Verdict)} → r ≡ decide (body k false 0) u → r ≡ decide (unit k) u
      unfolding decide
      unit_minor_5 n e = e ∙ sym (ap (arrived u) (minor (rw (e4, ne_eqb (byte_at u 5) 0x72 n))))

      module _ (e5 : byte_at u 5 ≡ 0x72) where
        abbrev counted : ℕ → Ask (Eat Verdict)
        counted x = either (eqb (x / 16) k) (sync_length >>= (λ m. body k true (m + 2))) (eat 1 (Lost Mismatch))

        major : ask (unit k) u ≡ ask (byte 20 counted) u
        unfolding unit
        major = ask_byte 4 _ u (omega arith) ∙ ask_byte 5 _ u (omega arith) ∙ ask_true _ _ _ u (rw (e4, e5))

        pub unit_uncounted : length u < 21 → none ≡ decide (unit k) u
        unit_uncounted l = sym (decide_unasked (unit k) u (major ∙ ask_byte_missing 20 counted u (omega arith)))

        module _ (l : 21 ≤ length u) where
          pub unit_mismatched : (byte_at u 20 / 16 ≡ k → ⊥) → some (record { eaten = 1; answer = Lost Mismatch }) ≡ decide (unit k) u
          unit_mismatched n =
              sym (decide_made (unit k) u _ (major ∙ ask_byte 20 counted u (omega arith) ∙ ask_false _ _ _ u (ne_eqb (byte_at u 20 / 16) k n) ∙ ask_done _ u) (omega arith))

          module _ (e20 : byte_at u 20 / 16 ≡ k) where
            matched : ask (unit k) u ≡ then_ask (λ m. body k true (m + 2)) u (ask sync_length u)
            matched =
                major
                ∙ ask_byte 20 counted u (omega arith)
                ∙ ask_true _ _ _ u (eq-eqb (byte_at u 20 / 16) k e20)
                ∙ ask_then sync_length (λ m. body k true (m + 2)) u

            pub unit_unsaid : {r : Answered ℕ} → length_of r ≡ ask sync_length u → r ≡ None → none ≡ decide (unit k) u
            unit_unsaid er q = sym (decide_unasked (unit k) u (matched ∙ ap (then_ask (λ m. body k true (m + 2)) u) (sym er ∙ ap length_of q)))

            pub unit_major : {r : Answered ℕ} {m : ℕ} → length_of r ≡ ask sync_length u → r ≡ Some m → {x : Option (Eat Verdict)} → x ≡ decide (body k true (m + 2)) u → x ≡ decide (unit k) u
            unfolding decide
            unit_major er q e = e ∙ sym (ap (arrived u) (matched ∙ ap (then_ask (λ n. body k true (n + 2)) u) (sym er ∙ ap length_of q)))

-- a sync's length, as it was answered, leaves at most 60 bytes to skip
pub skip_bounded : (u : List ℕ) {r : Answered ℕ} {m : ℕ} → length_of r ≡ ask sync_length u → r ≡ Some m → m ≤ 58
skip_bounded u {r} {m} er q = (sync_length_bounded u m (sym er ∙ ap length_of q)).1

-- WHETHER A UNIT IS MAJOR: another byte 4 or 5 says no, however long the unit is
module _ (u : List ℕ) where
  pub minor_short : length u < 6 → false ≡ is_major u
  unfolding is_major
  minor_short l = rw (lt-leb 6 (length u) l)

  pub minor_by_4 : (byte_at u 4 ≡ 0xF8 → ⊥) → false ≡ is_major u
  unfolding is_major
  minor_by_4 n = sym (rw (ne_eqb (byte_at u 4) 0xF8 n) (and-false (leb 6 (length u))))

  module _ (e4 : byte_at u 4 ≡ 0xF8) where
    pub minor_by_5 : (byte_at u 5 ≡ 0x72 → ⊥) → false ≡ is_major u
    unfolding is_major
    minor_by_5 n = sym (rw (eq-eqb (byte_at u 4) 0xF8 e4, ne_eqb (byte_at u 5) 0x72 n) (and-false (leb 6 (length u))))

    pub major_by_both : byte_at u 5 ≡ 0x72 → 6 ≤ length u → true ≡ is_major u
    unfolding is_major
    major_by_both e5 l = rw (le-leb 6 (length u) l, eq-eqb (byte_at u 4) 0xF8 e4, eq-eqb (byte_at u 5) 0x72 e5)
