-- A lent buffer: the word for putting bytes into it: definitions only.
-- The unread bytes of a reader over a lent buffer b are `part b at n`, a part of the buffer itself.
use Rattle.std.specs.Prelude.{List, ◌++◌, ℕ, ◌+◌, length, take, drop}

-- xs put into b at a place; the bytes outside keep what they held.
abbrev pub paste : List ℕ → ℕ → List ℕ → List ℕ
paste b at xs = take at b ++ (xs ++ drop (at + length xs) b)
