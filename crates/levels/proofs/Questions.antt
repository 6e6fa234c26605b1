-- What is asked of a window: the units held are below 128.
use Prim.Native.Nat.{ℕ, ◌+◌, ◌-◌, ◌<◌}
use native.Mathlib.Omega.{arith}
use native.Mathlib.Nat.{mod-lt}
use mathlib.Core.Path.{◌≡◌, refl}
use mathlib.Core.Bool.{Bool, true, false}
use Rattle.std.specs.Prelude.{IfOk}
use Rattle.levels.specs.Numbers.{fits_of}
use Rattle.levels.specs.Questions.{held_of, buffered_of}
use Rattle.levels.specs.declared.Levels.{Levels}

-- "Units held: write minus read, modulo 128"
pub held_below : (read write : ℕ) → held_of read write < 128
unfolding held_of
held_below read write = mod-lt (write + 128 - read) (omega arith)

buffered_by : (l : Levels) (x : Bool) → fits_of l ≡ x → IfOk (buffered_of l) (λ units. units < 128)
unfolding buffered_of
buffered_by l true e = rw e (held_below l.read l.write)
buffered_by l false e = rw e tt

pub buffered_below : (l : Levels) → IfOk (buffered_of l) (λ units. units < 128)
buffered_below l = buffered_by l (fits_of l) refl
