-- A word and a number put into a lent slice: definitions only.
use Rattle.std.specs.Prelude.{ℕ, zero, suc, ◌+◌, ◌/◌, ◌%◌, List, [], ◌∷◌, ◌++◌, leb, ltb, length}
use Rattle.std.proofs.Math.Seq.{paste}
use Rattle.laws.specs.Pick.{pick}
use Rattle.text.specs.declared.Page.{Page}

-- the slice afterwards: the word at its place, the bytes outside as they were; where there is no room, all as it was
unfoldable pub put_of : List ℕ → ℕ → List ℕ → List ℕ
put_of d at w = pick (leb (at + length w) (length d)) (paste d at w (length w)) d

-- where a word of k bytes ends in a slice of n; where there is no room, the place itself
unfoldable pub put_end : ℕ → ℕ → ℕ → ℕ
put_end n at k = pick (leb (at + k) n) (at + k) at

-- the page afterwards, over the same lent slice: the word behind what was written; where there is no room, the page as it was
abbrev pub page_with : Page → List ℕ → Page
page_with p w = record p { bytes = record p.bytes { now = put_of p.bytes.now p.end w }; end = put_end (length p.bytes.now) p.end (length w) }

-- a number of at most f + 1 decimal digits, in the fewest that hold it: `0` is byte 48
unfoldable pub decimal_in : ℕ → ℕ → List ℕ
decimal_in zero n = (48 + n) ∷ []
decimal_in (suc f) n = pick (ltb n 10) ((48 + n) ∷ []) (decimal_in f (n / 10) ++ ((48 + n % 10) ∷ []))

-- a number in decimal; it has no more digits than itself and one
unfoldable pub decimal_of : ℕ → List ℕ
decimal_of n = decimal_in n n
