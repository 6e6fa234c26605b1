-- Laws of questions: more bytes change no answer, what a decision eats is there, and a rule shown of all answers holds of the one given.
-- A step made by a question keeps the machine's first law, with nothing to show.
use Rattle.std.proofs.Math.Path.{◌≡◌, refl, ap, subst, fun_ext}
use Rattle.std.proofs.Common.{◌∙◌, length-append, length-drop, length-take-le}
use Rattle.std.specs.Prelude.{Bool, leb, take, drop}
use Rattle.std.proofs.Math.Bool.{true, false}
use Rattle.std.proofs.Math.Option.{Option, none, some, none-ne-some, some-ne-none, some-injective}
use mathlib.Core.List.{List, [], ◌++◌}
use Prim.Native.Nat.{ℕ, suc, ◌≤◌, ◌<◌, max}
use native.Mathlib.Omega.{arith}
use Rattle.std.proofs.Math.ListN.{length}
use Rattle.std.proofs.lemmas.List.{take-append-le}
use Rattle.std.proofs.Math.Seq.{drop-append-le, take-take, get_or-take}
use borrow.Author.Tests.{leb-true, leb-false, le-leb, lt-leb}
use Rattle.laws.specs.Pick.{pick}
use Rattle.laws.specs.Parts.{byte_at, byte_at_further}
use Rattle.machine.specs.Step.{Step, dry, further, Below, Laws}
use Rattle.machine.specs.Ask.{Ask, done, byte, front, either, ask, ◌>>=◌, Eat, arrived, decide, Move, silent, aloud, goal, moved, settle, asking, All, Upto, Own}

-- 1. What is waited for.

-- Bytes that are there are there with more behind them.
there_further : (n : ℕ) (u v : List ℕ) → leb n (length u) ≡ true → leb n (length (u ++ v)) ≡ true
there_further n u v t = le-leb n (length (u ++ v)) (rw (length-append u v) (omega (arith, leb-true)))

module _ {A : Type 0} where
  -- An answer that waits for a test was given where the test holds.
  pub pick_some : (P : Type 0) (b : Bool) (x : Option A) (a : A) → (b ≡ true → x ≡ some a → P) → pick b x none ≡ some a → P
  pick_some P true x a h e = h refl e
  pick_some P false x a h e = absurd (none-ne-some a e)

  -- No answer: the test fails, or there was none.
  pick_none : (P : Type 0) (b : Bool) (x : Option A) → (b ≡ false → P) → (x ≡ none → P) → pick b x none ≡ none → P
  pick_none P true x h g e = g e
  pick_none P false x h g e = h refl

  pick_true : (b : Bool) (x : Option A) → b ≡ true → pick b x none ≡ x
  pick_true b x e = rw e

  pick_false : (b : Bool) (x : Option A) → b ≡ false → pick b x none ≡ none
  pick_false b x e = rw e

-- 2. Questions.

module _ {A : Type 0} where
  -- More bytes change no answer.
  pub ask_further : (q : Ask A) (u v : List ℕ) (a : A) → ask q u ≡ some a → ask q (u ++ v) ≡ some a
  unfolding ask
  ask_further (done a) u v g e = e
  ask_further (byte i k) u v g e =
      pick_some _ _ (ask (k (byte_at u i)) u) g
      (λ t x. pick_true _ _ (there_further _ u v t) ∙ rw (byte_at_further u v i (leb-true _ _ t)) (ask_further (k (byte_at u i)) u v g x)) e
  ask_further (front n k) u v g e =
      pick_some _ _ (ask (k (take n u)) u) g
      (λ t x. pick_true _ _ (there_further _ u v t) ∙ rw (take-append-le n u v (leb-true _ _ t)) (ask_further (k (take n u)) u v g x)) e
  ask_further (either true p q) u v g e = ask_further p u v g e
  ask_further (either false p q) u v g e = ask_further q u v g e

  pub ask_done : (a : A) (u : List ℕ) → ask (done a) u ≡ some a
  unfolding ask
  ask_done a u = refl

  -- A byte that is there is given to the rest.
  pub ask_byte : (i : ℕ) (k : ℕ → Ask A) (u : List ℕ) → i < length u → ask (byte i k) u ≡ ask (k (byte_at u i)) u
  unfolding ask
  ask_byte i k u h = pick_true _ _ (le-leb (suc i) (length u) h)

  -- A byte that is missing means no answer.
  pub ask_byte_missing : (i : ℕ) (k : ℕ → Ask A) (u : List ℕ) → length u ≤ i → ask (byte i k) u ≡ none
  unfolding ask
  ask_byte_missing i k u h = pick_false _ _ (lt-leb (suc i) (length u) (omega arith))

  -- A front that is there is given to the rest.
  pub ask_front : (n : ℕ) (k : List ℕ → Ask A) (u : List ℕ) → n ≤ length u → ask (front n k) u ≡ ask (k (take n u)) u
  unfolding ask
  ask_front n k u h = pick_true _ _ (le-leb n (length u) h)

  -- A front that is not all there means no answer.
  pub ask_front_missing : (n : ℕ) (k : List ℕ → Ask A) (u : List ℕ) → length u < n → ask (front n k) u ≡ none
  unfolding ask
  ask_front_missing n k u h = pick_false _ _ (lt-leb n (length u) h)

  pub ask_true : (b : Bool) (p q : Ask A) (u : List ℕ) → b ≡ true → ask (either b p q) u ≡ ask p u
  unfolding ask
  ask_true b p q u e = rw e

  pub ask_false : (b : Bool) (p q : Ask A) (u : List ℕ) → b ≡ false → ask (either b p q) u ≡ ask q u
  unfolding ask
  ask_false b p q u e = rw e

  all_any : (r : ℕ) (q : Ask A) → All (λ r' a. Unit {0}) r q
  all_any r (done a) = tt
  all_any r (byte i k) = λ b. all_any (max r (suc i)) (k b)
  all_any r (front n k) = λ bs. all_any (max r n) (k bs)
  all_any r (either b p q) = (λ e. all_any r p, λ e. all_any r q)

  -- A rule that implies another.
  pub all_map : (P Q : ℕ → A → Type 0) (r : ℕ) (q : Ask A) → ((r' : ℕ) (a : A) → P r' a → Q r' a) → All P r q → All Q r q
  all_map P Q r (done a) f h = f r a h
  all_map P Q r (byte i k) f h = λ b. all_map P Q (max r (suc i)) (k b) f (h b)
  all_map P Q r (front n k) f h = λ bs. all_map P Q (max r n) (k bs) f (h bs)
  all_map P Q r (either b p q) f h = (λ e. all_map P Q r p f (h.0 e), λ e. all_map P Q r q f (h.1 e))

  -- The rule holds of an answer, with some number of bytes looked at, all of them there.
  pub record Ruled (P : ℕ → A → Type 0) (r : ℕ) (u : List ℕ) (a : A) : Type 0 where
    pub looked : ℕ
    pub from : r ≤ looked
    pub there : looked ≤ max r (length u)
    pub rule : P looked a

  ruled_from : (P : ℕ → A → Type 0) (r n : ℕ) (u : List ℕ) (a : A) → n ≤ length u → Ruled P (max r n) u a → Ruled P r u a
  ruled_from P r n u a l k = record { looked = k.looked; from = (let f = k.from in omega arith); there = (let t = k.there in omega arith); rule = k.rule }

  -- A rule that every answer keeps is kept by the answer given.
  pub ask_all : (P : ℕ → A → Type 0) (r : ℕ) (q : Ask A) (u : List ℕ) (a : A) → All P r q → ask q u ≡ some a → Ruled P r u a
  unfolding ask
  ask_all P r (done x) u a h e = subst (Ruled P r u) (some-injective _ _ e) (record { looked = r; from = omega arith; there = omega arith; rule = h })
  ask_all P r (byte i k) u a h e =
      pick_some _ (leb (suc i) (length u)) _ a (λ t x. ruled_from P r (suc i) u a (leb-true _ _ t) (ask_all P (max r (suc i)) (k (byte_at u i)) u a (h _) x)) e
  ask_all P r (front n k) u a h e =
      pick_some _ (leb n (length u)) _ a (λ t x. ruled_from P r n u a (leb-true _ _ t) (ask_all P (max r n) (k (take n u)) u a (h _) x)) e
  ask_all P r (either true p q) u a h e = ask_all P r p u a (h.0 refl) e
  ask_all P r (either false p q) u a h e = ask_all P r q u a (h.1 refl) e

  all_le : (N r : ℕ) (q : Ask A) → All (λ r' a. r' ≤ N) r q → r ≤ N
  all_le N r (done a) h = h
  all_le N r (byte i k) h = let l = all_le N (max r (suc i)) (k 0) (h 0) in omega arith
  all_le N r (front n k) h = let l = all_le N (max r n) (k []) (h []) in omega arith
  all_le N r (either true p q) h = all_le N r p (h.0 refl)
  all_le N r (either false p q) h = all_le N r q (h.1 refl)

  -- A question that looks at N bytes at most, and isn't answered, has fewer.
  pub ask_none : (N r : ℕ) (q : Ask A) (u : List ℕ) → All (λ r' a. r' ≤ N) r q → ask q u ≡ none → length u < N
  unfolding ask
  ask_none N r (done a) u h e = absurd (some-ne-none _ e)
  ask_none N r (byte i k) u h e =
      pick_none _ (leb (suc i) (length u)) _ (λ f. let l = all_le N (max r (suc i)) (k 0) (h 0) in omega (arith, leb-false)) (λ x. ask_none N (max r (suc i)) (k (byte_at u i)) u (h _) x) e
  ask_none N r (front n k) u h e =
      pick_none _ (leb n (length u)) _ (λ f. let l = all_le N (max r n) (k []) (h []) in omega (arith, leb-false)) (λ x. ask_none N (max r n) (k (take n u)) u (h _) x) e
  ask_none N r (either true p q) u h e = ask_none N r p u (h.0 refl) e
  ask_none N r (either false p q) u h e = ask_none N r q u (h.1 refl) e

  -- An answer that looked at n bytes at most is given on the first n alone.
  pub ask_front_alone : (n r : ℕ) (q : Ask A) (u : List ℕ) (a : A) → n ≤ length u → All (λ r' x. x ≡ a → r' ≤ n) r q → ask q u ≡ some a → ask q (take n u) ≡ some a
  unfolding ask
  ask_front_alone n r (done x) u a l h e = e
  ask_front_alone n r (byte i k) u a l h e =
      pick_some _ (leb (suc i) (length u)) _ a
      (λ t x.
      let c = ask_all (λ r' y. y ≡ a → r' ≤ n) (max r (suc i)) (k (byte_at u i)) u a (h _) x in
      let m : suc i ≤ n = (let f = c.from in let g = c.rule refl in omega arith) in
      rw (length-take-le n u l, le-leb (suc i) n m, get_or-take n u i 0 m) (ask_front_alone n (max r (suc i)) (k (byte_at u i)) u a l (h _) x)) e
  ask_front_alone n r (front j k) u a l h e =
      pick_some _ (leb j (length u)) _ a
      (λ t x.
      let c = ask_all (λ r' y. y ≡ a → r' ≤ n) (max r j) (k (take j u)) u a (h _) x in
      let m : j ≤ n = (let f = c.from in let g = c.rule refl in omega arith) in
      rw (length-take-le n u l, le-leb j n m, take-take j n u m) (ask_front_alone n (max r j) (k (take j u)) u a l (h _) x)) e
  ask_front_alone n r (either true p q) u a l h e = ask_front_alone n r p u a l (h.0 refl) e
  ask_front_alone n r (either false p q) u a l h e = ask_front_alone n r q u a l (h.1 refl) e

-- 3. One question after another.

module _ {A B : Type 0} where
  -- The answer of the first goes to the second.
  abbrev pub then_ask : (A → Ask B) → List ℕ → Option A → Option B
  then_ask f u none = none
  then_ask f u (some a) = ask (f a) u

  pick_then : (f : A → Ask B) (u : List ℕ) (b : Bool) (x : Option A) → pick b (then_ask f u x) none ≡ then_ask f u (pick b x none)
  pick_then f u true x = refl
  pick_then f u false x = refl

  -- Two questions in a row are answered in a row.
  pub ask_then : (q : Ask A) (f : A → Ask B) (u : List ℕ) → ask (q >>= f) u ≡ then_ask f u (ask q u)
  unfolding ask
  ask_then (done a) f u = refl
  ask_then (byte i k) f u =
      ap (λ x. pick (leb (suc i) (length u)) x none) (ask_then (k (byte_at u i)) f u) ∙ pick_then f u (leb (suc i) (length u)) (ask (k (byte_at u i)) u)
  ask_then (front n k) f u = ap (λ x. pick (leb n (length u)) x none) (ask_then (k (take n u)) f u) ∙ pick_then f u (leb n (length u)) (ask (k (take n u)) u)
  ask_then (either true p q) f u = ask_then p f u
  ask_then (either false p q) f u = ask_then q f u

  -- A rule for the second, shown under what is known of the first, holds of the two in a row.
  pub all_then : (K : ℕ → A → Type 0) (P : ℕ → B → Type 0) (r : ℕ) (q : Ask A) (f : A → Ask B) → All K r q
      → ((r' : ℕ) (a : A) → K r' a → All P r' (f a)) → All P r (q >>= f)
  all_then K P r (done a) f h g = g r a h
  all_then K P r (byte i k) f h g = λ b. all_then K P (max r (suc i)) (k b) f (h b) g
  all_then K P r (front n k) f h g = λ bs. all_then K P (max r n) (k bs) f (h bs) g
  all_then K P r (either b p q) f h g = (λ e. all_then K P r p f (h.0 e) g, λ e. all_then K P r q f (h.1 e) g)

module _ {A B : Type 0} where
  -- An answer asked further is the question that it is asked.
  pub done_then : (a : A) (f : A → Ask B) → done a >>= f ≡ f a
  done_then a f = refl

module _ {A : Type 0} where
  -- A question whose answer is given as it is, is the question.
  pub then_done : (q : Ask A) → q >>= done ≡ q
  then_done (done a) = refl
  then_done (byte i k) = ap (byte i) (fun_ext (λ b. then_done (k b)))
  then_done (front n k) = ap (front n) (fun_ext (λ bs. then_done (k bs)))
  then_done (either b p q) = ap (λ x. either b x (q >>= done)) (then_done p) ∙ ap (either b p) (then_done q)

module _ {A B C : Type 0} where
  -- Three in a row, grouped either way.
  pub then_then : (q : Ask A) (f : A → Ask B) (g : B → Ask C) → (q >>= f) >>= g ≡ q >>= (λ a. f a >>= g)
  then_then (done a) f g = refl
  then_then (byte i k) f g = ap (byte i) (fun_ext (λ b. then_then (k b) f g))
  then_then (front n k) f g = ap (front n) (fun_ext (λ bs. then_then (k bs) f g))
  then_then (either b p q) f g = ap (λ x. either b x ((q >>= f) >>= g)) (then_then p f g) ∙ ap (either b (p >>= (λ a. f a >>= g))) (then_then q f g)

-- 4. Decisions.

module _ {A : Type 0} where
  -- A decision that is made was answered, and what it eats is there.
  decide_asked : (q : Ask (Eat A)) (u : List ℕ) (g : Eat A) → decide q u ≡ some g → (ask q u ≡ some g) × (g.eaten ≤ length u)
  unfolding decide arrived
  decide_asked q u g e = go (ask q u) refl e
    where
      go : (o : Option (Eat A)) → ask q u ≡ o → arrived u o ≡ some g → (o ≡ some g) × (g.eaten ≤ length u)
      go none a x = absurd (none-ne-some g x)
      go (some d) a x = pick_some _ _ (some d) g (λ t y.
          let z : d.eaten ≡ g.eaten = ap (λ o. o.eaten) (some-injective _ _ y) in (y, rw (← z) (leb-true _ _ t))) x

  -- An answer whose bytes are there is a decision.
  pub decide_made : (q : Ask (Eat A)) (u : List ℕ) (g : Eat A) → ask q u ≡ some g → g.eaten ≤ length u → decide q u ≡ some g
  unfolding decide arrived
  decide_made q u g e l = ap (arrived u) e ∙ pick_true (leb g.eaten (length u)) (some g) (le-leb _ _ l)

  -- An answer whose bytes are not all there is none yet.
  pub decide_waits : (q : Ask (Eat A)) (u : List ℕ) (g : Eat A) → ask q u ≡ some g → length u < g.eaten → decide q u ≡ none
  unfolding decide arrived
  decide_waits q u g e l = ap (arrived u) e ∙ rw (lt-leb g.eaten (length u) l)

  -- A question not answered is no decision.
  pub decide_unasked : (q : Ask (Eat A)) (u : List ℕ) → ask q u ≡ none → decide q u ≡ none
  unfolding decide arrived
  decide_unasked q u e = ap (arrived u) e

  -- More bytes change no decision.
  pub decide_further : (q : Ask (Eat A)) (u v : List ℕ) (g : Eat A) → decide q u ≡ some g → decide q (u ++ v) ≡ some g
  decide_further q u v g e =
      let a = decide_asked q u g e in decide_made q (u ++ v) g (ask_further q u v g a.0) (rw (length-append u v) (let l = a.1 in omega arith))

  -- What a decision eats is there.
  pub decide_fits : (q : Ask (Eat A)) (u : List ℕ) (g : Eat A) → decide q u ≡ some g → g.eaten ≤ length u
  decide_fits q u g e = (decide_asked q u g e).1

  -- A rule that every answer keeps is kept by the decision.
  pub decide_all : (P : ℕ → Eat A → Type 0) (q : Ask (Eat A)) (u : List ℕ) (g : Eat A) → All P 0 q → decide q u ≡ some g → Ruled P 0 u g
  decide_all P q u g h e = ask_all P 0 q u g h (decide_asked q u g e).0

  -- Where at most N bytes are waited for and nothing is decided, there are fewer.
  pub decide_none : (N : ℕ) (q : Ask (Eat A)) (u : List ℕ) → All (Upto N) 0 q → decide q u ≡ none → length u < N
  unfolding decide arrived
  decide_none N q u h e = go (ask q u) refl e
    where
      go : (o : Option (Eat A)) → ask q u ≡ o → arrived u o ≡ none → length u < N
      go none a x = ask_none N 0 q u (all_map (Upto N) (λ r g. r ≤ N) 0 q (λ r g l. omega arith) h) a
      go (some g) a x =
          let k = ask_all (Upto N) 0 q u g h a in
          let l : max k.looked g.eaten ≤ N = k.rule in
          pick_none _ (leb g.eaten (length u)) (some g) (λ f. omega (arith, leb-false)) (λ y. absurd (some-ne-none _ y)) x

  -- A decision of a kind that looks at nothing past what it eats is made on those bytes alone, whatever stands behind them.
  pub decide_own : (W : A → Type 0) (q : Ask (Eat A)) (u v : List ℕ) (g : Eat A) → All (Own W) 0 q → decide q u ≡ some g → W g.answer
      → decide q (take g.eaten u ++ v) ≡ some g
  decide_own W q u v g h e w =
      let a = decide_asked q u g e in
      let l : g.eaten ≤ length u = a.1 in
      let own : All (λ r x. x ≡ g → r ≤ g.eaten) 0 q =
      all_map (Own W) (λ r x. x ≡ g → r ≤ g.eaten) 0 q (λ r x o p. subst (λ (y : Eat A). Own W r y) p o w) h in
      decide_further q (take g.eaten u) v g
      (decide_made q (take g.eaten u) g (ask_front_alone g.eaten 0 q u g l own a.0) (rw (length-take-le g.eaten u l) (omega arith)))

-- 5. Steps made by a question.

module _ {S E : Type 0} where
  moved_further : (step : S → List ℕ → Step S E) (x : Move S E) (u v : List ℕ) → moved x (u ++ v) ≡ further step (moved x u) v
  unfolding moved further
  moved_further step (silent s) u v = refl
  moved_further step (aloud e s) u v = refl

module _ {A S E : Type 0} (act : A → ℕ → List ℕ → Move S E) (s : S) (q : Ask (Eat A)) where
  -- What holds of a dry step and of every decision's holds of the step. P is a rule that all answers keep.
  pub settle_shows : (T : Step S E → Type 0) (P : ℕ → Eat A → Type 0) (u : List ℕ) → All P 0 q → (decide q u ≡ none → T (dry s u))
      → ((r : ℕ) (g : Eat A) → P r g → g.eaten ≤ length u → decide q u ≡ some g → T (moved (act g.answer g.eaten (take g.eaten u)) (drop g.eaten u)))
      → T (settle act s u (decide q u))
  unfolding settle
  settle_shows T P u h none_yet made = go (decide q u) refl
    where
      go : (o : Option (Eat A)) → decide q u ≡ o → T (settle act s u o)
      go none e = none_yet e
      go (some g) e = let k = decide_all P q u g h e in made k.looked g k.rule (decide_fits q u g e) e

  -- The same, with no rule of the answers: what holds of a dry step and of every decision whose bytes are there holds of the step.
  pub settle_cases : (T : Step S E → Type 0) (u : List ℕ) → T (dry s u)
      → ((g : Eat A) → g.eaten ≤ length u → T (moved (act g.answer g.eaten (take g.eaten u)) (drop g.eaten u)))
      → T (settle act s u (decide q u))
  settle_cases T u none_yet made = settle_shows T (λ r g. Unit {0}) u (all_any 0 q) (λ e. none_yet) (λ r g h l e. made g l)

  -- A step made by a decision leaves a size below n, if the state that every decision goes to does, with the bytes that it leaves.
  pub settle_less : (size : S → List ℕ → ℕ) (n : ℕ) (P : ℕ → Eat A → Type 0) (u : List ℕ) → All P 0 q
      → ((r : ℕ) (g : Eat A) → P r g → g.eaten ≤ length u → size (goal (act g.answer g.eaten (take g.eaten u))) (drop g.eaten u) < n)
      → Below size n (settle act s u (decide q u))
  unfolding moved
  settle_less size n P u h less =
      settle_shows (Below size n) P u h (λ e. tt) (λ r g p l e. go (act g.answer g.eaten (take g.eaten u)) (drop g.eaten u) (less r g p l))
    where
      go : (x : Move S E) (w : List ℕ) → size (goal x) w < n → Below size n (moved x w)
      go (silent t) w l = l
      go (aloud e t) w l = l

  -- A step is dry only where nothing is decided, and then it leaves all as it is.
  pub settle_dry : (s' : S) (u u' : List ℕ) → settle act s u (decide q u) ≡ dry s' u' → (decide q u ≡ none) × (s ≡ s') × (u ≡ u')
  unfolding settle moved
  settle_dry s' u u' = go (decide q u)
    where
      never : (x : Move S E) (w : List ℕ) → moved x w ≡ dry s' u' → ⊥
      never (silent t) w e = let z : ◌≡◌ {A = ℕ} 0 1 = cc in omega arith
      never (aloud x t) w e = let z : ◌≡◌ {A = ℕ} 0 1 = cc in omega arith

      go : (o : Option (Eat A)) → settle act s u o ≡ dry s' u' → (o ≡ none) × (s ≡ s') × (u ≡ u')
      go none e = (refl, cc, cc)
      go (some g) e = absurd (never (act g.answer g.eaten (take g.eaten u)) (drop g.eaten u) e)

  -- A decision stands with more bytes; a question not decided is put again, if that is what the machine's step does there.
  pub settle_further : (step : S → List ℕ → Step S E) (u v : List ℕ) → settle act s (u ++ v) (decide q (u ++ v)) ≡ step s (u ++ v)
      → settle act s (u ++ v) (decide q (u ++ v)) ≡ further step (settle act s u (decide q u)) v
  unfolding settle further
  settle_further step u v again = go (decide q u) refl
    where
      go : (o : Option (Eat A)) → decide q u ≡ o → settle act s (u ++ v) (decide q (u ++ v)) ≡ further step (settle act s u o) v
      go none e = again
      go (some g) e =
          let l : g.eaten ≤ length u = decide_fits q u g e in
          ap (settle act s (u ++ v)) (decide_further q u v g e)
          ∙ rw (take-append-le g.eaten u v l, drop-append-le g.eaten u v l) (moved_further step (act g.answer g.eaten (take g.eaten u)) (drop g.eaten u) v)

module _ {A S E : Type 0} (question : S → Ask (Eat A)) (act : S → A → ℕ → List ℕ → Move S E) where
  -- A reader that puts a question at every step: more bytes change no decision.
  pub asking_cut : (s : S) (u v : List ℕ) → asking question act s (u ++ v) ≡ further (asking question act) (asking question act s u) v
  unfolding asking
  asking_cut s u v = settle_further (act s) s (question s) (asking question act) u v refl

  -- .. and where every decision eats a byte at least, it is a machine that keeps both laws, with the number of unread bytes as its size.
  pub asking_laws : ((s : S) → All (λ r g. 1 ≤ g.eaten) 0 (question s)) → Laws (record { step = asking question act; size = λ s u. length u })
  unfolding asking
  asking_laws eats = record {
    cut = asking_cut;
    less = λ s u. settle_less (act s) s (question s) (λ s' w. length w) (length u) (λ r g. 1 ≤ g.eaten) u (eats s)
        (λ r g h l. rw (length-drop g.eaten u) (omega arith));
  }
