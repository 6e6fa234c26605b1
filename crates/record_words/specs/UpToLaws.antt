-- A word that is read whole up to a limit: itself below it, the limit from there on.
use Rattle.std.specs.Prelude.{ℕ, ◌≤◌, ◌<◌, ◌≡◌}
use Rattle.std.proofs.Common.{lt-ltb, le-ltb}
use Rattle.record_words.specs.Words.{up_to}

-- what is below its limit is read as it is, and what isn't as the limit
pub up_to_lem : (limit n : ℕ) → n < limit → n ≡ up_to limit n
up_to_lem limit n h = rw (lt-ltb n limit h)

pub capped : (limit n : ℕ) → limit ≤ n → limit ≡ up_to limit n
capped limit n h = rw (le-ltb n limit h)
