-- Where a line ends and a word lies.
use Rattle.std.specs.Prelude.{ℕ, ◌-◌, ◌≤◌, min, Bool, not, List, eqb, length}
use Rattle.laws.specs.Parts.{byte_at}
use Rattle.laws.specs.First.{Place, At, Nowhere, first_from}
use Rattle.text.specs.declared.Word.{Word}

-- a stretch of a slice of n bytes
pub record Within (from to n : ℕ) : Type 0 where
  pub ordered : from ≤ to
  pub inside : to ≤ n

abbrev pub place_or : ℕ → Place → ℕ
place_or end (At i) = i
place_or end Nowhere = end

-- the first place at or after `at`, and before the end, that passes the test; else the end
unfoldable pub stop : (ℕ → Bool) → ℕ → ℕ → ℕ
stop p at end = place_or end (first_from p at (end - at))

-- a line feed
abbrev pub feed_at : List ℕ → ℕ → Bool
feed_at s i = eqb (byte_at s i) 10

abbrev pub space_at : List ℕ → ℕ → Bool
space_at s i = eqb (byte_at s i) 32

-- the line's end: its line feed, or past the last byte
unfoldable pub line_end_of : List ℕ → ℕ → ℕ
line_end_of s at = stop (feed_at s) at (length s)

-- the next word's first place: the spaces before it are passed
unfoldable pub word_from : List ℕ → ℕ → ℕ → ℕ
word_from s at end = stop (λ i. not (space_at s i)) at end

-- the place behind a word: the next space, or the line's end
unfoldable pub word_to : List ℕ → ℕ → ℕ → ℕ
word_to s at end = stop (space_at s) at end

-- the next word of the line that ends at `end`, or with the slice; empty at the line's end
unfoldable pub next_word_of : List ℕ → ℕ → ℕ → Word
next_word_of s at end =
    let last = min end (length s) in
    let from = word_from s at last in
    record { from = from; to = word_to s from last }
