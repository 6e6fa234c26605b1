-- The lines of a report: document 01, "Cases by hand". Definitions only.
use Rattle.std.specs.Prelude.{ℕ, Bool, true, false, List, [], ◌∷◌, ◌++◌, length, None, Option, Some}
use Rattle.rules.specs.declared.Unit.{Unit as TheUnit}
use Rattle.text.specs.Put.{put_of, put_end, decimal_of}
use Rattle.text.specs.declared.Page.{Page}
use Rattle.timestamp.specs.declared.Timestamp.{Timestamp}

-- "AU ", "BAD ", "END ", a space and the line's end, byte by byte
abbrev pub au_text : List ℕ
au_text = 65 ∷ 85 ∷ 32 ∷ []

abbrev pub bad_text : List ℕ
bad_text = 66 ∷ 65 ∷ 68 ∷ 32 ∷ []

abbrev pub end_text : List ℕ
end_text = 69 ∷ 78 ∷ 68 ∷ 32 ∷ []

abbrev pub space : List ℕ
space = 32 ∷ []

abbrev pub line_end : List ℕ
line_end = 10 ∷ []

-- " major" or " minor"
abbrev pub kind_text : Bool → List ℕ
kind_text true = 32 ∷ 109 ∷ 97 ∷ 106 ∷ 111 ∷ 114 ∷ []
kind_text false = 32 ∷ 109 ∷ 105 ∷ 110 ∷ 111 ∷ 114 ∷ []

-- " ts" or " -", and the line's end
abbrev pub stamp_text : Option Timestamp → List ℕ
stamp_text (Some t) = 32 ∷ 116 ∷ 115 ∷ 10 ∷ []
stamp_text None = 32 ∷ 45 ∷ 10 ∷ []

-- a label and two numbers
abbrev pub pair_words : List ℕ → ℕ → ℕ → List (List ℕ)
pair_words label a b = label ∷ decimal_of a ∷ space ∷ decimal_of b ∷ []

-- the same as a line of its own
abbrev pub pair_line_words : List ℕ → ℕ → ℕ → List (List ℕ)
pair_line_words label a b = pair_words label a b ++ (line_end ∷ [])

-- "AU index position length major|minor ts|-"
abbrev pub unit_words : TheUnit → List (List ℕ)
unit_words u = pair_words au_text u.index u.position.0 ++ (space ∷ decimal_of u.length ∷ kind_text u.major ∷ stamp_text u.waiting ∷ [])

-- words, one behind the other
abbrev pub joined : List (List ℕ) → List ℕ
joined [] = []
joined (w ∷ ws) = w ++ joined ws

-- a unit's line; "numbers 5 and 6 print `BAD` with number and position after"; "END gives position and error count"
unfoldable pub unit_line : TheUnit → List ℕ
unit_line u = joined (unit_words u)

unfoldable pub bad_line : ℕ → ℕ → List ℕ
bad_line number position = joined (pair_line_words bad_text number position)

unfoldable pub end_line : ℕ → ℕ → List ℕ
end_line position errors = joined (pair_line_words end_text position errors)

-- a lent slice, and the place up to which it is written
pub record Sheet : Type 0 where
  pub holds : List ℕ
  pub at : ℕ

-- words put one behind the other from a place on; one that has no room is left out
unfoldable pub puts : List ℕ → ℕ → List (List ℕ) → Sheet
puts d at [] = record { holds = d; at = at }
puts d at (w ∷ ws) = puts (put_of d at w) (put_end (length d) at (length w)) ws

-- a page after these words
abbrev pub page_of : Page → List (List ℕ) → Page
page_of p ws = record p { bytes = record p.bytes { now = (puts p.bytes.now p.end ws).holds }; end = (puts p.bytes.now p.end ws).at }
