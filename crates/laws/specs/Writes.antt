-- A list written into another at a place, an element a turn: none yet, one more, and the whole.
use Rattle.std.specs.Prelude.{ℕ, ◌+◌, ◌≤◌, ◌<◌, ◌≡◌, List, length, get_or, set}
use Rattle.std.proofs.Common.{add-one, arith, ap, ◌∙◌}
use Rattle.std.proofs.Math.Seq.{paste, paste-zero, paste-suc}

-- the first i bytes of a word written at a place; `paste` itself would be seen through, and no law found by its shape
unfoldable pub written : List ℕ → ℕ → List ℕ → ℕ → List ℕ
written d at s i = paste d at s i

pub written_none : (d : List ℕ) (at : ℕ) (s : List ℕ) → d ≡ written d at s 0
unfolding written
written_none d at s = paste-zero d at s

pub written_more : (d b s : List ℕ) (at i : ℕ) → at + length s ≤ length d → i < length s → b ≡ written d at s i → set b (at + i) (get_or s i 0) ≡ written d at s (i + 1)
unfolding written
written_more d b s at i room more e = let h : at + i < length d = omega arith in rw (e, add-one) (paste-suc d at s i 0 h more)

pub written_whole : (d b s : List ℕ) (at i : ℕ) → i ≤ length s → length s ≤ i → b ≡ written d at s i → b ≡ paste d at s (length s)
unfolding written
written_whole d b s at i u v e = let k : i ≡ length s = omega arith in e ∙ ap (paste d at s) k
