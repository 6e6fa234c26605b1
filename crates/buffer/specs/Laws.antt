-- What an answer of `place` tells of the lengths.
use Rattle.std.specs.Prelude.{ℕ, ◌+◌, ◌-◌, ◌≤◌, ◌≡◌, refl, Bool, true, false, leb, None, Option, Some}
use Rattle.std.proofs.Common.{arith, sym, ◌∙◌}
use borrow.Author.Tests.{leb-true, le-leb}
use Rattle.laws.specs.Pick.{pick, pick_holds}
use Rattle.buffer.specs.Calls.{room_for, start_of, placed_of}

-- the answer tells the test
answered_at : (t : Bool) (s : ℕ) {at : ℕ} → pick t (Some s) None ≡ Some at → (t ≡ true) × (at ≡ s)
answered_at true s e = (refl, cc)
answered_at false s e = (cc, cc)

answered_not : (t : Bool) (s : ℕ) → pick t (Some s) None ≡ None → t ≡ false
answered_not true s e = cc
answered_not false s e = refl

-- for unread bytes that stand in the buffer
module _ (start end n k : ℕ) (order : start ≤ end) (inside : end ≤ n) where
  -- number 4 alone is tested
  pub placed_by_room : placed_of start end n k ≡ pick (leb (end - start + k) n) (Some (start_of start end n k)) None
  unfolding placed_of room_for
  placed_by_room = rw (le-leb start end order, le-leb end n inside)

  -- from their start on they and the piece lie within it
  pub start_inside : end - start + k ≤ n → start_of start end n k + (end - start + k) ≤ n
  unfolding start_of
  start_inside room =
      pick_holds (λ (a : ℕ). a + (end - start + k) ≤ n) (leb (end + k) n) start 0
      (λ y. omega (arith, leb-true))
      (λ y. omega arith)

  module _ {p : Option ℕ} (e : p ≡ placed_of start end n k) where
    pub no_room : p ≡ None → leb (end - start + k) n ≡ false
    no_room q = answered_not (leb (end - start + k) n) (start_of start end n k) (sym placed_by_room ∙ sym e ∙ q)

    module _ {at : ℕ} (q : p ≡ Some at) where
      told : (leb (end - start + k) n ≡ true) × (at ≡ start_of start end n k)
      told = answered_at (leb (end - start + k) n) (start_of start end n k) (sym placed_by_room ∙ sym e ∙ q)

      pub has_room : leb (end - start + k) n ≡ true
      has_room = told.0

      pub starts_at : at ≡ start_of start end n k
      starts_at = told.1

      pub placed_inside : at + (end - start) + k ≤ n
      placed_inside = let s = starts_at in let l = start_inside (leb-true (end - start + k) n has_room) in omega arith
