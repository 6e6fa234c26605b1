-- What a loop has left to do, with one turn of it taken off: counted down to nothing, or up to an end.
use Rattle.std.specs.Prelude.{ℕ, suc, ◌+◌, ◌-◌, ◌<◌, ◌≡◌}
use Rattle.std.proofs.Common.{arith}

pub less_one : (n : ℕ) → 0 < n → n ≡ suc (n - 1)
less_one n h = omega arith

pub one_left : (i end : ℕ) → i < end → end - i ≡ suc (end - (i + 1))
one_left i end h = omega arith
