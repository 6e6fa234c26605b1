-- A loop over state and unread bytes that ends because a size falls: definitions only.
-- Fuel is spoken of here and in LoopLaws alone.
use Rattle.std.specs.Prelude.{◌≡◌, List, ℕ, zero, suc, ◌<◌}

module _ {S R : Type 0} where
  -- The body, nested as deep as the fuel, and `end` at the bottom.
  unfoldable pub within : (S → List ℕ → R) → ((S → List ℕ → R) → S → List ℕ → R) → ℕ → S → List ℕ → R
  within end body zero s u = end s u
  within end body (suc k) s u = body (within end body k) s u

  -- The loop: nested one deeper than the size, so that the bottom is never reached.
  unfoldable pub looped : (S → List ℕ → ℕ) → (S → List ℕ → R) → ((S → List ℕ → R) → S → List ℕ → R) → S → List ℕ → R
  looped size end body s u = within end body (suc (size s u)) s u

  -- The body goes on only where the size is less.
  abbrev pub Falls : (S → List ℕ → ℕ) → ((S → List ℕ → R) → S → List ℕ → R) → Type 0
  Falls size body =
      (f g : S → List ℕ → R) (s : S) (u : List ℕ) → ((s' : S) (u' : List ℕ) → size s' u' < size s u → f s' u' ≡ g s' u')
      → body f s u ≡ body g s u
