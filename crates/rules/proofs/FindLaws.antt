-- Laws of the search: what is found on some bytes is found with more behind them, what was thrown away hides no candidate, and a candidate
-- that is found later reaches past the bytes searched before.
use Rattle.std.specs.Prelude.{◌≡◌, refl, Bool, true, false, ◌||◌, List, ◌++◌, ◌⊎◌, ℕ, ◌+◌, ◌-◌, ◌≤◌, ◌<◌, length, drop}
use Rattle.std.proofs.Common.{sym, ap, ◌∙◌, subst, true≢false, inl, inr, ⊎_elim, arith, add_assoc, eq-zero-or-pos, length-append, length-drop, get_or-drop, eqb-true}
use Rattle.std.proofs.lemmas.List.{drop-append-le}
use Rattle.laws.specs.Pick.{both_joined}
use Rattle.laws.specs.Parts.{byte_at, byte_at_further}
use Rattle.laws.specs.First.{Place, At, Nowhere, IsFirst, Tells, first_tells, first_unique, first_nowhere}
use Rattle.rules.specs.Search.{is_sync, candidate_at, find}
use Rattle.rules.specs.Verdicts.{SyncWord, FindMeans}

le_or_lt : (a b : ℕ) → (a ≤ b) ⊎ (b < a)
le_or_lt a b = ⊎_elim (λ (e : a - b ≡ 0). inl (omega arith)) (λ (e : 0 < a - b). inr (omega arith)) (eq-zero-or-pos (a - b))

-- 1. A candidate's eight bytes.

is_sync_lem : (a b c d : ℕ) → a ≡ 0xF8 → b ≡ 0x72 → c ≡ 0x6F → (d ≡ 0xBA) ⊎ (d ≡ 0xBB) → is_sync a b c d ≡ true
is_sync_lem a b c d p q r t = rw (p, q, r) (⊎_elim (λ (e : d ≡ 0xBA). rw e) (λ (e : d ≡ 0xBB). rw e) t)

-- Where a sync word stands 4 bytes on, a candidate is ..
pub sync_has_candidate : (u : List ℕ) (i : ℕ) → SyncWord u (i + 4) → candidate_at u i ≡ true
unfolding candidate_at
sync_has_candidate u i w =
    is_sync_lem (byte_at u (i + 4)) (byte_at u (i + 5)) (byte_at u (i + 6)) (byte_at u (i + 7)) w.byte0 (rw (add_assoc i 4 1) at w.byte1) (rw (add_assoc i 4 2) at w.byte2)
    (rw (add_assoc i 4 3) at w.byte3)

one_of : (a b : Bool) → (a || b) ≡ true → (a ≡ true) ⊎ (b ≡ true)
one_of true b e = inl refl
one_of false b e = inr e

-- .. and nowhere else.
pub candidate_has_sync : (u : List ℕ) (i : ℕ) → candidate_at u i ≡ true → SyncWord u (i + 4)
unfolding candidate_at
candidate_has_sync u i e =
    let (p, e₁) = both_joined _ _ e in
    let (q, e₂) = both_joined _ _ e₁ in
    let (r, e₃) = both_joined _ _ e₂ in
    record {
      byte0 = eqb-true (byte_at u (i + 4)) 0xF8 p;
      byte1 = ap (byte_at u) (add_assoc i 4 1) ∙ eqb-true (byte_at u (i + 5)) 0x72 q;
      byte2 = ap (byte_at u) (add_assoc i 4 2) ∙ eqb-true (byte_at u (i + 6)) 0x6F r;
      byte3 = ⊎_elim (λ x. inl (ap (byte_at u) (add_assoc i 4 3) ∙ eqb-true (byte_at u (i + 7)) 0xBA x))
          (λ x. inr (ap (byte_at u) (add_assoc i 4 3) ∙ eqb-true (byte_at u (i + 7)) 0xBB x)) (one_of _ _ e₃);
    }

-- Where its eight bytes are there, more bytes change nothing.
pub candidate_at_further : (u v : List ℕ) (i : ℕ) → i + 8 ≤ length u → candidate_at (u ++ v) i ≡ candidate_at u i
unfolding candidate_at
candidate_at_further u v i h =
    rw (byte_at_further u v (i + 4) (omega arith), byte_at_further u v (i + 5) (omega arith), byte_at_further u v (i + 6) (omega arith), byte_at_further u v (i + 7) (omega arith))

-- Behind dropped bytes a place counts from there on.
pub candidate_at_drop : (u : List ℕ) (d i : ℕ) → candidate_at (drop d u) i ≡ candidate_at u (d + i)
unfolding candidate_at
candidate_at_drop u d i =
    rw (get_or-drop d u (i + 4) 0, get_or-drop d u (i + 5) 0, get_or-drop d u (i + 6) 0, get_or-drop d u (i + 7) 0, ← (add_assoc d i 4), ← (add_assoc d i 5), ← (add_assoc d i 6), ← (add_assoc d i 7))

-- 2. What the search tells.

-- A place found is the first, and its eight bytes are there.
pub found_is_first : (u : List ℕ) (n : ℕ) → find u ≡ At n → IsFirst (candidate_at u) 0 (length u - 7) n
unfolding find
found_is_first u n e = subst (Tells (candidate_at u) 0 (length u - 7)) e (first_tells (candidate_at u) (length u - 7) 0)

pub found_fits : (u : List ℕ) (n : ℕ) → find u ≡ At n → n + 8 ≤ length u
found_fits u n e = let w = (found_is_first u n e).within in omega arith

-- Where nothing is found no place has a candidate.
pub none_found : (u : List ℕ) → find u ≡ Nowhere → (i : ℕ) → i + 8 ≤ length u → candidate_at u i ≡ false
unfolding find
none_found u e i l = subst (Tells (candidate_at u) 0 (length u - 7)) e (first_tells (candidate_at u) (length u - 7) 0) i (omega arith) (omega arith)

-- A first candidate is found, and where there is none nothing is.
pub found_at : (u : List ℕ) (n : ℕ) → n + 8 ≤ length u → candidate_at u n ≡ true → ((i : ℕ) → i < n → candidate_at u i ≡ false) → find u ≡ At n
unfolding find
found_at u n l p none =
    first_unique (candidate_at u) (length u - 7) 0 n (record { from = omega arith; within = omega arith; passes = p; none_before = λ j m. none j })

pub nowhere_found : (u : List ℕ) → ((i : ℕ) → i + 8 ≤ length u → candidate_at u i ≡ false) → find u ≡ Nowhere
unfolding find
nowhere_found u none = first_nowhere (candidate_at u) (length u - 7) 0 (λ j m l. none j (omega arith))

-- The search finds the first sync word at least 4 bytes on, and its candidate.
pub find_means : (u : List ℕ) → FindMeans u (find u)
find_means u = go (find u) refl
  where
    go : (x : Place) → find u ≡ x → FindMeans u x
    go (At n) e = (
      found_fits u n e,
      candidate_has_sync u n (found_is_first u n e).passes,
      λ i l w. true≢false (sym (sync_has_candidate u i w) ∙ (found_is_first u n e).none_before i (omega arith) l),
    )
    go Nowhere e = λ i l w. true≢false (sym (sync_has_candidate u i w) ∙ none_found u e i l)

-- 3. More bytes.

module _ (u v : List ℕ) where
  -- What is found is found at the same place.
  pub found_further : (n : ℕ) → find u ≡ At n → find (u ++ v) ≡ At n
  found_further n e =
      let l = found_fits u n e in
      let f = found_is_first u n e in
      found_at (u ++ v) n (rw (length-append u v) (omega arith)) (candidate_at_further u v n l ∙ f.passes)
      (λ i m. candidate_at_further u v i (omega arith) ∙ f.none_before i (omega arith) m)

  -- A search that resumes at the candidate finds it at once.
  pub found_again : (n : ℕ) → find u ≡ At n → find (drop n u ++ v) ≡ At 0
  found_again n e =
      let l = found_fits u n e in
      let k : 0 + 8 ≤ length (drop n u) = rw (length-drop n u) (omega arith) in
      let same : candidate_at (drop n u) 0 ≡ candidate_at u n = candidate_at_drop u n 0 ∙ ap (candidate_at u) (omega arith) in
      found_at (drop n u ++ v) 0 (rw (length-append (drop n u) v) (omega arith))
      (candidate_at_further (drop n u) v 0 k ∙ same ∙ (found_is_first u n e).passes) (λ i m. absurd (omega arith))

  -- A candidate found later reaches past the bytes that had none.
  pub found_late : (n : ℕ) → find u ≡ Nowhere → find (u ++ v) ≡ At n → length u < n + 8
  found_late n none e =
      ⊎_elim (λ (l : n + 8 ≤ length u). absurd (true≢false (sym (found_is_first (u ++ v) n e).passes ∙ candidate_at_further u v n l ∙ none_found u none n l)))
      (λ (l : length u < n + 8). l) (le_or_lt (n + 8) (length u))

-- A place, d further on.
abbrev pub shift : ℕ → Place → Place
shift d (At n) = At (d + n)
shift d Nowhere = Nowhere

-- Nothing found: all but the last 7 bytes may go, and a later search finds what it would have found.
pub found_behind : (u v : List ℕ) (d : ℕ) → find u ≡ Nowhere → d + 7 ≤ length u → find (u ++ v) ≡ shift d (find (drop d u ++ v))
found_behind u v d none h = go (find (drop d u ++ v)) refl
  where
    w : List ℕ
    w = drop d u ++ v

    lengths : d + length w ≡ length (u ++ v)
    lengths = rw (length-append (drop d u) v, length-append u v, length-drop d u) (omega arith)

    front : (i : ℕ) → i < d → candidate_at (u ++ v) i ≡ false
    front i l = candidate_at_further u v i (omega arith) ∙ none_found u none i (omega arith)

    back : (i : ℕ) → candidate_at (u ++ v) (d + i) ≡ candidate_at w i
    back i = sym (candidate_at_drop (u ++ v) d i) ∙ ap (λ t. candidate_at t i) (drop-append-le d u v (omega arith))

    behind : (i : ℕ) → d ≤ i → candidate_at (u ++ v) i ≡ candidate_at w (i - d)
    behind i l = ap (candidate_at (u ++ v)) (omega arith) ∙ back (i - d)

    go : (x : Place) → find w ≡ x → find (u ++ v) ≡ shift d x
    go (At m) e =
        let l = found_fits w m e in
        let f = found_is_first w m e in
        found_at (u ++ v) (d + m) (omega (arith, lengths)) (back m ∙ f.passes)
        (λ i b. ⊎_elim (λ (p : d ≤ i). behind i p ∙ f.none_before (i - d) (omega arith) (omega arith)) (λ (p : i < d). front i p) (le_or_lt d i))
    go Nowhere e =
        nowhere_found (u ++ v) (λ i b. ⊎_elim (λ (p : d ≤ i). behind i p ∙ none_found w e (i - d) (omega (arith, lengths))) (λ (p : i < d). front i p) (le_or_lt d i))
