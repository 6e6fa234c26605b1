-- A piece written behind the unread bytes: it and they stand where they stood.
use Rattle.std.proofs.Common.{◌≡◌, ℕ, ◌+◌, ◌-◌, ◌≤◌, List, ◌++◌, take, length, refl, sym, ap, ◌∙◌, arith, append_assoc, length-append}
use Rattle.std.proofs.Math.Seq.{take-add, take-length}
use Rattle.std.proofs.lemmas.Slice.{put_mid-paste}
use borrow.Author.Tests.{le-leb}
use borrow.Rule.Slice.PartMut.{put_mid}
use Rattle.laws.specs.Parts.{part, length_part}
use Rattle.buffer.specs.Calls.{held_of, placed_of, room_for, start_of}

module _ (d p : List ℕ) (start end : ℕ) (order : start ≤ end) (inside : end ≤ length d) where
  up_to_end : take end d ≡ take start d ++ part d start (end - start)
  up_to_end = let far : end ≡ start + (end - start) = omega arith in ap (λ (e : ℕ). take e d) far ∙ take-add start (end - start) d

  pub behind : {new : List ℕ} {k : ℕ} → length p ≤ length d - end → new ≡ p → k ≡ length p → put_mid end k d new ≡ held_of start end d p
  unfolding held_of placed_of room_for start_of
  behind {new} {k} room same long =
      let far : start + length (part d start (end - start) ++ p) ≡ end + length p = simp (length-append, length_part d start (end - start) (omega arith)) (omega arith) in
      put_mid-paste end k d new p (length p) same (sym long) refl
      ∙ simp
      (le-leb start end order, le-leb end (length d) inside, le-leb (end - start + length p) (length d) (omega arith), le-leb (end + length p) (length d) (omega arith), take-length, far, up_to_end, append_assoc)
