-- The rings before k have their slot written, the others are as they were.
use Rattle.std.proofs.Common.{◌≡◌, ◌<◌, ◌≤◌, [], length, get_or, set, ℕ}
use Rattle.window.proofs.slots.write.Given as goal

abbrev pub invariant-loop-k : goal.invariant-loop-k
invariant-loop-k g l =
    (length l.rings ≡ g.row.N)
    × ((j : ℕ) → j < l.k → get_or l.rings j [] ≡ set (get_or l.initial.rings j []) l.slot.number (get_or l.bytes j 0))
    × ((j : ℕ) → l.k ≤ j → get_or l.rings j [] ≡ get_or l.initial.rings j [])
