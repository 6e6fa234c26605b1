-- What the calls on a lent buffer answer, and what they leave in it: definitions only. The unread bytes are those from start to end.
use Rattle.std.specs.Prelude.{ℕ, ◌+◌, ◌-◌, Bool, ◌&&◌, List, [], ◌++◌, leb, length, None, Option, Some}
use Rattle.laws.specs.Pick.{pick}
use Rattle.laws.specs.Parts.{part}
use Rattle.machine.specs.Lent.{paste}

-- A PIECE of k bytes behind the unread bytes of a buffer of n

-- they stand in the buffer, and there is room for both: no room is number 4's "unread plus piece exceeds the buffer"
unfoldable pub room_for : ℕ → ℕ → ℕ → ℕ → Bool
room_for start end n k = leb start end && (leb end n && leb (end - start + k) n)

-- "If the piece doesn't fit behind the unread bytes they are first moved to the buffer's start."
unfoldable pub start_of : ℕ → ℕ → ℕ → ℕ → ℕ
start_of start end n k = pick (leb (end + k) n) start 0

unfoldable pub placed_of : ℕ → ℕ → ℕ → ℕ → Option ℕ
placed_of start end n k = pick (room_for start end n k) (Some (start_of start end n k)) None

-- the unread bytes and the piece at a place, and "Bytes outside the new unread stretch keep what they held"
abbrev pub filled : ℕ → ℕ → List ℕ → List ℕ → ℕ → List ℕ
filled start end buf piece at = paste buf at (part buf start (end - start) ++ piece)

-- what the buffer holds after an answer: without room it is as it was
abbrev pub afterwards : ℕ → ℕ → List ℕ → List ℕ → Option ℕ → List ℕ
afterwards start end buf piece (Some at) = filled start end buf piece at
afterwards start end buf piece None = buf

unfoldable pub held_of : ℕ → ℕ → List ℕ → List ℕ → List ℕ
held_of start end buf piece = afterwards start end buf piece (placed_of start end (length buf) (length piece))

-- A PART: "a stretch not wholly inside the buffer gives the empty part"

unfoldable pub part_of : List ℕ → ℕ → ℕ → List ℕ
part_of buf start n = pick (leb (start + n) (length buf)) (part buf start n) []
