-- Laws of the loop: it is its body with itself inside, and nothing else is.
-- No law outside this file speaks of fuel.
use Rattle.std.specs.Prelude.{◌≡◌, List}
use Rattle.std.proofs.Common.{sym, ◌∙◌, not-suc-le-zero, arith}
use Prim.Native.Nat.{ℕ, zero, suc, ◌<◌}
use Rattle.machine.specs.Loop.{within, looped, Falls}

module _ {S R : Type 0} (size : S → List ℕ → ℕ) (end : S → List ℕ → R) (body : (S → List ℕ → R) → S → List ℕ → R) (falls : Falls size body) where
  -- Any two amounts of fuel above the size give the same.
  within_enough : (k n : ℕ) (s : S) (u : List ℕ) → size s u < k → size s u < n → within end body k s u ≡ within end body n s u
  unfolding within
  within_enough zero n s u h g = absurd (not-suc-le-zero h)
  within_enough (suc k) zero s u h g = absurd (not-suc-le-zero g)
  within_enough (suc k) (suc n) s u h g =
      falls (within end body k) (within end body n) s u (λ s' u' l. within_enough k n s' u' (omega arith) (omega arith))

  -- The loop is its body, with the loop inside.
  pub looped_step : (s : S) (u : List ℕ) → looped size end body s u ≡ body (looped size end body) s u
  unfolding looped within
  looped_step s u =
      falls (within end body (size s u)) (looped size end body) s u (λ s' u' l. within_enough (size s u) (suc (size s' u')) s' u' l (omega arith))

  -- Two that are the body with themselves inside agree below every size.
  only_below : (f g : S → List ℕ → R) → ((s : S) (u : List ℕ) → f s u ≡ body f s u) → ((s : S) (u : List ℕ) → g s u ≡ body g s u)
      → (n : ℕ) (s : S) (u : List ℕ) → size s u < n → f s u ≡ g s u
  only_below f g p q zero s u l = absurd (not-suc-le-zero l)
  only_below f g p q (suc n) s u l = p s u ∙ falls f g s u (λ s' u' b. only_below f g p q n s' u' (omega arith)) ∙ sym (q s u)

  -- Whatever is its body with itself inside is the loop.
  pub looped_only : (f : S → List ℕ → R) → ((s : S) (u : List ℕ) → f s u ≡ body f s u) → (s : S) (u : List ℕ) → f s u ≡ looped size end body s u
  looped_only f p s u = only_below f (looped size end body) p looped_step (suc (size s u)) s u (omega arith)
