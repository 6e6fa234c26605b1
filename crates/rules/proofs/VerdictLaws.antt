-- What every verdict keeps, whatever the bytes: how many bytes it eats, its numbers' bounds, and how far it looked. One walk over each question.
use Rattle.std.specs.Prelude.{◌≡◌, refl, Bool, true, false, ℕ, zero, suc, ◌+◌, ◌*◌, ◌/◌, ◌≤◌, ◌<◌, max}
use Rattle.std.proofs.Common.{arith, ltb-true, ltb-false}
use Rattle.std.proofs.lemmas.Nat.{and_le_r}
use Rattle.machine.specs.Ask.{All, Eat}
use Rattle.machine.proofs.AskLaws.{all_map, all_then}
use Rattle.crc.specs.declared.Algorithm.{Algorithm}
use Rattle.rules.specs.Search.{sync_length, unit_length, candidate}
use Rattle.rules.specs.Request.{End, directory, closing, body, unit}
use Rattle.rules.specs.declared.Verdict.{Verdict}
use Rattle.rules.specs.declared.Verdict.TheVariants.{Lock, Lost, Short, Failed, Whole}

-- What a verdict eats and says, in search (locked is false) and while locked; M bounds the minimum of number 5.
abbrev pub Says : Bool → ℕ → ℕ → Verdict → Type 0
Says locked M n (Lock k) = (locked ≡ false) × (n ≡ 0) × (k ≤ 15)
Says locked M n (Lost w) = (locked ≡ true) × (n ≡ 1)
Says locked M n (Short a m) = (n ≡ 1) × (a ≤ 8190) × (a < m) × (m ≤ M)
Says locked M n Failed = (locked ≡ false) × (34 ≤ n) × (n ≤ 8190)
Says locked M n (Whole major) = (locked ≡ true) × (4 ≤ n) × (n ≤ 8190)

abbrev pub IsWhole : Verdict → Type 0
IsWhole (Lock k) = ⊥
IsWhole (Lost w) = ⊥
IsWhole (Short a m) = ⊥
IsWhole Failed = ⊥
IsWhole (Whole major) = Unit {0}

-- What is kept by a verdict given after r bytes were looked at: what it says, how far was looked (with at most 15 substreams no further than
-- 8,190 bytes), and that a unit of one substream or more has looked at no byte but its own.
pub record Keeps (locked : Bool) (k M r : ℕ) (g : Eat Verdict) : Type 0 where
  pub says : Says locked M g.eaten g.answer
  pub within : k ≤ 15 → max r g.eaten ≤ 8190
  pub own : 1 ≤ k → IsWhole g.answer → r ≤ g.eaten

-- 1. The parts.

pub sync_length_all : (r : ℕ) → All (λ r' m. (26 ≤ m) × (m ≤ 58) × (r' ≤ max r 31)) r sync_length
unfolding sync_length
sync_length_all r = λ b. (λ e. omega arith, λ e f. (λ e. omega arith, λ e x. omega (arith, and_le_r (x / 8) 0x1E)))

pub unit_length_all : (r : ℕ) → All (λ r' n. (n ≤ 8190) × (r' ≤ max r 2)) r unit_length
unfolding unit_length
unit_length_all r = λ a b. omega arith

-- A directory of k entries is 2 to 4 bytes for each, and nothing behind its end is looked at.
pub directory_all : (k at p r s : ℕ) → r ≤ s → All (λ r' e. (at + 2 * k ≤ e.place) × (e.place ≤ at + 4 * k) × (r' ≤ max s e.place)) r (directory k at p)
unfolding directory
directory_all zero at p r s l = omega arith
directory_all (suc k) at p r s l = λ a b. (
  λ e c d. all_map _ _ _ (directory k (at + 4) _) (λ r' e h. omega arith) (directory_all k (at + 4) _ _ (max s (at + 4)) (omega arith)),
  λ e. all_map _ _ _ (directory k (at + 2) _) (λ r' e h. omega arith) (directory_all k (at + 2) _ _ (max s (at + 2)) (omega arith)),
)

-- 2. The questions.

pub candidate_all : (a : Algorithm) (k : ℕ) → All (Keeps false k 66) 0 (candidate a)
unfolding candidate
candidate_all a k =
    all_then _ (Keeps false k 66) 0 sync_length _ (sync_length_all 0) λ r m h. all_then _ (Keeps false k 66) _ unit_length _ (unit_length_all _) λ r₂ n h₂. (
      λ e. record { says = omega (arith, ltb-true); within = λ y. omega arith; own = λ o w. absurd w },
      λ e bs. (
        λ f. record { says = (refl, refl, omega arith); within = λ y. omega arith; own = λ o w. absurd w },
        λ f. record { says = (refl, omega (arith, ltb-false), omega arith); within = λ y. omega arith; own = λ o w. absurd w },
      ),
    )

closing_all : (k M : ℕ) (major : Bool) (e : End) (r : ℕ) → 4 ≤ e.place → e.place ≤ M → (k ≤ 15 → r ≤ 124) → (1 ≤ k → r ≤ e.place)
    → All (Keeps true k M) r (closing major e)
unfolding closing
closing_all k M major e r f g t o = (
  λ x. all_then _ (Keeps true k M) _ unit_length _ (unit_length_all _) λ r₃ n h₃. (
    λ y. record { says = (refl, omega arith, omega (arith, ltb-true), g); within = λ z. let b = t z in omega arith; own = λ z w. absurd w },
    λ y. record { says = (refl, omega (arith, ltb-false), omega (arith, ltb-false)); within = λ z. let b = t z in omega (arith, ltb-false); own = λ z w. let b = o z in omega (arith, ltb-false) },
  ),
  λ x. record { says = (refl, refl); within = λ z. let b = t z in omega arith; own = λ z w. absurd w },
)

body_all : (k : ℕ) (major : Bool) (skip r : ℕ) → skip ≤ 60 → r ≤ 31 → (1 ≤ k → r ≤ 4 + skip + 2 * k) → All (Keeps true k (64 + 4 * k)) r (body k major skip)
unfolding body
body_all k major skip r g l o = λ a b c d.
    all_then _ (Keeps true k (64 + 4 * k)) _ (directory k (4 + skip) _) _ (directory_all k (4 + skip) _ _ (max r 4) (omega arith)) λ r₂ e h₂.
    closing_all k (64 + 4 * k) major e r₂ (omega arith) (omega arith) (λ y. omega arith) (λ y. let z = o y in omega arith)

pub unit_all : (k : ℕ) → All (Keeps true k (64 + 4 * k)) 0 (unit k)
unfolding unit
unit_all k = λ a b. (
  λ e x. (
    λ f. all_then _ (Keeps true k (64 + 4 * k)) _ sync_length _ (sync_length_all _) λ r m h. body_all k true (m + 2) _ (omega arith) (omega arith) (λ o. omega arith),
    λ f. record { says = (refl, refl); within = λ y. omega arith; own = λ o w. absurd w },
  ),
  λ e. body_all k false 0 _ (omega arith) (omega arith) (λ o. omega arith),
)
