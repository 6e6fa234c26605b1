-- A ring after the other is written, each with its own bytes.
use Rattle.std.specs.Prelude.{ℕ, ◌<◌, ◌≡◌, List, [], length, set, get_or}
use Rattle.std.proofs.lemmas.List.FromFn.{fill_by_all}
use Rattle.window_rules.specs.Rings.{written_each}

pub all_written : (n : ℕ) (rings : List (List ℕ)) (at : ℕ) (bytes : List ℕ) {after : List (List ℕ)} → length after ≡ n
    → ((k : ℕ) → k < n → get_or after k [] ≡ set (get_or rings k []) at (get_or bytes k 0)) → after ≡ written_each n rings at bytes
unfolding written_each
all_written n rings at bytes {after} long each = fill_by_all (λ k. set (get_or rings k []) at (get_or bytes k 0)) after n [] long each
