-- Every verdict means what Verdicts says: the questions are followed back to the bytes that they read.
use Rattle.std.specs.Prelude.{◌≡◌, Bool, List, ℕ, zero, suc, ◌+◌, ◌-◌, ◌/◌, ◌%◌, ◌≤◌, ◌<◌, leb, length, take}
use Rattle.std.proofs.Math.Path.{refl, ap, subst}
use Rattle.std.proofs.Common.{sym, ◌∙◌, arith, get_or-take, drop-cons, add-one}
use Rattle.std.proofs.Math.Bool.{true, false}
use Rattle.std.proofs.lemmas.Bool.{false≢true}
use Rattle.std.proofs.Math.Option.{Option, none, some, none-ne-some, some-injective}
use Rattle.std.specs.Int.Bits.{bit_xor}
use borrow.Author.Tests.{leb-true, ltb-true, ltb-false, eqb-true, eqb-false}
use Rattle.laws.specs.Parts.{byte_at, part}
use Rattle.laws.specs.Turns.{less_one}
use Rattle.machine.specs.Ask.{Ask, done, byte, front, either, ◌>>=◌, ask, Eat, arrived, decide}
use Rattle.machine.proofs.AskLaws.{pick_some, ask_then, then_ask}
use Rattle.crc.specs.declared.Algorithm.{Algorithm}
use Rattle.rules.specs.Search.{sync_length, unit_length, candidate}
use Rattle.rules.specs.Request.{End, directory, even, closing, body, unit}
use Rattle.rules.specs.Units.{length_at, begins_major, skipped, opening, xor_onto}
use Rattle.rules.specs.Verdicts.{CandidateMeans, Walked, UnitMeans}
use Rattle.rules.proofs.BoundLaws.{sync_length_bounded, directory_bounded}
use Rattle.rules.specs.declared.Loss.TheVariants.{Mismatch}
use Rattle.rules.specs.declared.Verdict.{Verdict}
use Rattle.rules.specs.declared.Verdict.TheVariants.{Lost}

-- 1. What an answer tells of the bytes.

module _ {A : Type 0} (P : Type 0) where
  pub done_tells : (x a : A) (u : List ℕ) → (x ≡ a → P) → ask (done x) u ≡ some a → P
  unfolding ask
  done_tells x a u f e = f (some-injective _ _ e)

  byte_tells : (i : ℕ) (k : ℕ → Ask A) (a : A) (u : List ℕ) → (i < length u → ask (k (byte_at u i)) u ≡ some a → P) → ask (byte i k) u ≡ some a → P
  unfolding ask
  byte_tells i k a u f = pick_some P (leb (suc i) (length u)) (ask (k (byte_at u i)) u) a (λ t. f (leb-true _ _ t))

  front_tells : (n : ℕ) (k : List ℕ → Ask A) (a : A) (u : List ℕ) → (n ≤ length u → ask (k (take n u)) u ≡ some a → P) → ask (front n k) u ≡ some a → P
  unfolding ask
  front_tells n k a u f = pick_some P (leb n (length u)) (ask (k (take n u)) u) a (λ t. f (leb-true _ _ t))

  either_tells : (b : Bool) (p q : Ask A) (a : A) (u : List ℕ) → (b ≡ true → ask p u ≡ some a → P) → (b ≡ false → ask q u ≡ some a → P) → ask (either b p q) u ≡ some a → P
  unfolding ask
  either_tells true p q a u f g e = f refl e
  either_tells false p q a u f g e = g refl e

module _ {A B : Type 0} (P : Type 0) where
  pub then_tells : (q : Ask A) (f : A → Ask B) (b : B) (u : List ℕ) → ((a : A) → ask q u ≡ some a → ask (f a) u ≡ some b → P) → ask (q >>= f) u ≡ some b → P
  then_tells q f b u g e = go (ask q u) refl (sym (ask_then q f u) ∙ e)
    where
      go : (o : Option A) → ask q u ≡ o → then_ask f u o ≡ some b → P
      go none p x = absurd (none-ne-some b x)
      go (some a) p x = g a p x

-- A decision was answered.
decided_asked : {A : Type 0} (q : Ask (Eat A)) (u : List ℕ) (g : Eat A) → decide q u ≡ some g → ask q u ≡ some g
unfolding decide arrived
decided_asked {A} q u g e = go (ask q u) e
  where
    go : (o : Option (Eat A)) → arrived u o ≡ some g → o ≡ some g
    go none x = absurd (none-ne-some g x)
    go (some d) x = pick_some _ (leb d.eaten (length u)) (some d) g (λ t y. y) x

-- 2. The directory: all its bytes are there, and its parity is theirs.

xor_one : (p at n : ℕ) (u : List ℕ) → at < length u → 1 ≤ n → xor_onto p (part u at n) ≡ xor_onto (bit_xor p (byte_at u at)) (part u (at + 1) (n - 1))
unfolding xor_onto
xor_one p at n u l m =
    ap (λ k. xor_onto p (part u at k)) (less_one n m) ∙ rw (drop-cons u at 0 l, add-one at)

xor_two : (p at n : ℕ) (u : List ℕ) → at + 1 < length u → 2 ≤ n
    → xor_onto p (part u at n) ≡ xor_onto (bit_xor (bit_xor p (byte_at u at)) (byte_at u (at + 1))) (part u (at + 2) (n - 2))
xor_two p at n u l m =
    let y : at + 1 + 1 ≡ at + 2 = omega arith in
    let z : n - 1 - 1 ≡ n - 2 = omega arith in
    xor_one p at n u (omega arith) (omega arith) ∙ rw (← y, ← z) (xor_one (bit_xor p (byte_at u at)) (at + 1) (n - 1) u l (omega arith))

xor_four : (p at n : ℕ) (u : List ℕ) → at + 3 < length u → 4 ≤ n
    → xor_onto p (part u at n)
    ≡ xor_onto (bit_xor (bit_xor (bit_xor (bit_xor p (byte_at u at)) (byte_at u (at + 1))) (byte_at u (at + 2))) (byte_at u (at + 3))) (part u (at + 4) (n - 4))
xor_four p at n u l m =
    let x : at + 2 + 1 ≡ at + 3 = omega arith in
    let y : at + 2 + 2 ≡ at + 4 = omega arith in
    let z : n - 2 - 2 ≡ n - 4 = omega arith in
    xor_two p at n u (omega arith) (omega arith) ∙ rw (← x, ← y, ← z) (xor_two (bit_xor (bit_xor p (byte_at u at)) (byte_at u (at + 1))) (at + 2) (n - 2) u (omega arith) (omega arith))

pub directory_tells : (k at p : ℕ) (u : List ℕ) (x : End) → at ≤ length u → ask (directory k at p) u ≡ some x
    → (x.place ≤ length u) × (x.parity ≡ xor_onto p (part u at (x.place - at)))
unfolding directory xor_onto
directory_tells zero at p u x l =
    done_tells _ _ x u λ e.
    let z : at - at ≡ 0 = omega arith in
    subst (λ (y : End). (y.place ≤ length u) × (y.parity ≡ xor_onto p (part u at (y.place - at)))) e (l, rw z)
directory_tells (suc k) at p u x l =
    byte_tells _ _ _ x u λ l₀. byte_tells _ _ _ x u λ l₁. either_tells _ _ _ _ x u
    (λ t. byte_tells _ _ _ x u λ l₂. byte_tells _ _ _ x u λ l₃ e.
    let h = directory_tells k (at + 4) _ u x (omega arith) e in
    let b = directory_bounded k (at + 4) _ u x e in
    let z : x.place - at - 4 ≡ x.place - (at + 4) = omega arith in
    (h.0, h.1 ∙ sym (rw z at (xor_four p at (x.place - at) u (omega arith) (omega arith)))))
    (λ t e.
    let h = directory_tells k (at + 2) _ u x (omega arith) e in
    let b = directory_bounded k (at + 2) _ u x e in
    let z : x.place - at - 2 ≡ x.place - (at + 2) = omega arith in
    (h.0, h.1 ∙ sym (rw z at (xor_two p at (x.place - at) u (omega arith) (omega arith)))))

-- 3. A candidate.

module _ (a : Algorithm) (u : List ℕ) (g : Eat Verdict) where
  abbrev MeansCandidate : Eat Verdict → Type 0
  MeansCandidate d = CandidateMeans a u d.eaten d.answer

  candidate_asked : ask (candidate a) u ≡ some g → MeansCandidate g
  unfolding candidate unit_length
  candidate_asked =
      then_tells _ sync_length _ g u λ m reads. byte_tells _ _ _ g u λ l₀. byte_tells _ _ _ g u λ l₁. either_tells _ _ _ _ g u
      (λ t. done_tells _ _ g u λ e. subst MeansCandidate e (record { sync = m; reads = reads; long = refl; needed = refl; below = ltb-true _ _ t }, refl))
      (λ t. front_tells _ _ _ g u λ there.
      let b = sync_length_bounded u m reads in
      let l : m + 8 ≤ length_at u = ltb-false _ _ t in
      either_tells _ _ _ _ g u
      (λ c. done_tells _ _ g u λ e. subst MeansCandidate e
      (record { sync = m; reads = reads; long = l; there = there; checked = c }, ap (λ x. x / 16 % 16) (get_or-take (length_at u) u 20 0 (omega arith)), refl))
      (λ c. done_tells _ _ g u λ e. subst MeansCandidate e (record { sync = m; reads = reads; long = l; there = there; checked = c }, refl)))

  pub candidate_means : decide (candidate a) u ≡ some g → CandidateMeans a u g.eaten g.answer
  candidate_means e = candidate_asked (decided_asked (candidate a) u g e)

-- 4. A unit.

skips_major : (u : List ℕ) (m : ℕ) → ask sync_length u ≡ some m → ask (skipped true) u ≡ some (m + 2)
unfolding skipped ask
skips_major u m e = ask_then sync_length (λ x. done (x + 2)) u ∙ ap (then_ask (λ x. done (x + 2)) u) e

pub skips_minor : (u : List ℕ) → ask (skipped false) u ≡ some 0
unfolding skipped ask
skips_minor u = refl

module _ (k : ℕ) (u : List ℕ) (g : Eat Verdict) where
  abbrev MeansUnit : Eat Verdict → Type 0
  MeansUnit d = UnitMeans u k d.eaten d.answer

  closing_asked : (major : Bool) (skip : ℕ) (x : End) → begins_major u ≡ major → (major ≡ true → byte_at u 20 / 16 ≡ k)
      → ask (skipped major) u ≡ some skip → ask (directory k (4 + skip) (opening u)) u ≡ some x → ask (closing major x) u ≡ some g → MeansUnit g
  unfolding closing unit_length
  closing_asked major skip x begins agrees skips walks =
      either_tells _ _ _ _ g u
      (λ p. byte_tells _ _ _ g u λ l₀. byte_tells _ _ _ g u λ l₁. either_tells _ _ _ _ g u
      (λ t. done_tells _ _ g u λ e. subst MeansUnit e (record { major = major; walk = walk true p; long = refl; needed = refl; below = ltb-true _ _ t }, refl))
      (λ t. done_tells _ _ g u λ e. subst MeansUnit e (record { walk = walk true p; long = refl; inside = ltb-false _ _ t })))
      (λ p. done_tells _ _ g u λ e. subst MeansUnit e (record { major = major; walk = walk false p }, refl))
    where
      walk : (right : Bool) → even x.parity ≡ right → Walked u k major right
      walk right p = record { begins = begins; agrees = agrees; skip = skip; skips = skips; end = x; walks = walks; parity = p }

  body_asked : (major : Bool) (skip : ℕ) → begins_major u ≡ major → (major ≡ true → byte_at u 20 / 16 ≡ k)
      → ask (skipped major) u ≡ some skip → ask (body k major skip) u ≡ some g → MeansUnit g
  unfolding body
  body_asked major skip begins agrees skips =
      byte_tells _ _ _ g u λ l₀. byte_tells _ _ _ g u λ l₁. byte_tells _ _ _ g u λ l₂. byte_tells _ _ _ g u λ l₃.
      then_tells _ _ _ g u λ x walks. closing_asked major skip x begins agrees skips walks

  other_count : begins_major u ≡ true → (byte_at u 20 / 16 ≡ k → ⊥) → record { eaten = 1; answer = Lost Mismatch } ≡ g → MeansUnit g
  other_count begins differs e = subst MeansUnit e (record { begins = begins; differs = differs }, refl)

  unit_asked : ask (unit k) u ≡ some g → MeansUnit g
  unfolding unit
  unit_asked =
      byte_tells _ _ _ g u λ l₄. byte_tells _ _ _ g u λ l₅. either_tells _ _ _ _ g u
      (λ t. byte_tells _ _ _ g u λ l₂₀. either_tells _ _ _ _ g u
      (λ c. then_tells _ sync_length _ g u λ m x. body_asked true (m + 2) t (λ y. eqb-true (byte_at u 20 / 16) k c) (skips_major u m x))
      (λ c. done_tells _ _ g u (other_count t (eqb-false (byte_at u 20 / 16) k c))))
      (λ t. body_asked false 0 t (λ y. absurd (false≢true y)) (skips_minor u))

  pub unit_means : decide (unit k) u ≡ some g → UnitMeans u k g.eaten g.answer
  unit_means e = unit_asked (decided_asked (unit k) u g e)
