-- Laws of a lent buffer: a piece put behind the unread part makes it longer by that piece, and a request only moves its start.
-- They turn the buffer's contracts into what `Follows` asks of the unread bytes.
use Rattle.std.specs.Prelude.{◌≡◌, List, ◌++◌, ℕ, ◌+◌, ◌-◌, ◌≤◌, length, take, drop}
use Rattle.std.proofs.Common.{sym, ap, ◌∙◌, append_assoc, arith, length-append, length-take, length-drop, take_at, drop_at, length-take-le}
use Rattle.std.proofs.lemmas.List.{drop-append-le}
use Rattle.std.proofs.Math.Seq.{take-append_seam}
use Rattle.laws.specs.Parts.{part, length_part, drop_take, drop_part}
use Rattle.machine.specs.Always.{Consumed}
use Rattle.machine.specs.Lent.{paste}

-- What is put inside a buffer leaves its length.
pub length_paste : (b : List ℕ) (at : ℕ) (xs : List ℕ) → at + length xs ≤ length b → length (paste b at xs) ≡ length b
length_paste b at xs h = simp (length-append, length-take, length-drop) (omega arith)

-- What is put into a buffer stands there.
pub part_pasted : (b : List ℕ) (at : ℕ) (xs : List ℕ) → at ≤ length b → part (paste b at xs) at (length xs) ≡ xs
part_pasted b at xs h = ap (take (length xs)) (drop_at (take at b) (xs ++ drop (at + length xs) b) at (length-take-le at b h)) ∙ take-append_seam xs (drop (at + length xs) b)

module _ (b : List ℕ) (at n : ℕ) (inside : at + n ≤ length b) where
  -- A piece put right behind a part makes it longer by that piece.
  pub part_grows_behind : (p : List ℕ) → part (paste b (at + n) p) at (n + length p) ≡ part b at n ++ p
  part_grows_behind p =
      let z : List ℕ = drop (at + n + length p) b in
      let w : List ℕ = part b at n in
      let l : length w ≡ n = length_part b at n inside in
      let rest : at + n - at ≡ n = omega arith in
      let back : drop at (take (at + n) b ++ (p ++ z)) ≡ (w ++ p) ++ z =
      drop-append-le at (take (at + n) b) (p ++ z) (rw (length-take-le (at + n) b inside) (omega arith))
      ∙ ap (λ x. x ++ (p ++ z)) (drop_take at (at + n) b ∙ ap (λ k. take k (drop at b)) rest) ∙ sym (append_assoc w p z) in
      ap (take (n + length p)) back ∙ take_at (w ++ p) z (n + length p) (length-append w p ∙ ap (λ k. k + length p) l)

  -- A part moved to the buffer's start with a piece behind it is the part and the piece.
  pub part_grows_in_front : (p : List ℕ) → part (paste b 0 (part b at n ++ p)) 0 (n + length p) ≡ part b at n ++ p
  part_grows_in_front p =
      let l : length (part b at n ++ p) ≡ n + length p = length-append (part b at n) p ∙ ap (λ k. k + length p) (length_part b at n inside) in
      ap (part (paste b 0 (part b at n ++ p)) 0) (sym l) ∙ part_pasted b 0 (part b at n ++ p) (omega arith)

  -- What a request leaves of a part is the part with its start moved by what was consumed.
  module _ {S : Type 0} (position : S → ℕ) (s s' : S) (u' : List ℕ) (c : Consumed position s (part b at n) s' u') where
    pub consumed_inside : c.bytes ≤ n
    consumed_inside = rw (length_part b at n inside) at c.there

    pub part_start_moves : u' ≡ part b (at + c.bytes) (n - c.bytes)
    part_start_moves = c.left ∙ drop_part b at n c.bytes
