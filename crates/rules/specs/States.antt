-- What is said of a reader's state at any time: that it fits, where it stands, that what waits stands ahead, what it has passed, how many units it numbered.
use Rattle.std.specs.Prelude.{◌≡◌, true, List, ℕ, ◌+◌, ◌≤◌, ◌<◌}
use Rattle.machine.specs.Always.{Placed}
use Rattle.rules.specs.Request.{Event}
use Rattle.rules.specs.Units.{Stamped, Indexed, units_in}
use Rattle.rules.specs.declared.Stream.{Stream}
use Rattle.rules.specs.declared.Unit.{Unit as TheUnit}

-- "accepted total .. above 2^48; frames plus errors above consumed; .. substream count above 15; locked though no sync was ever seen":
-- none of these, with n bytes unread.
pub record Fit (s : Stream) (n : ℕ) : Type 0 where
  pub total : s.consumed.0 + n ≤ 281474976710656
  pub counted : s.frames + s.losses.errors ≤ s.consumed.0
  pub few : s.substreams ≤ 15
  pub seen : s.locked ≡ true → s.seen ≡ true

-- what Fit says of the stream alone
pub record Sound (s : Stream) : Type 0 where
  pub counted : s.frames + s.losses.errors ≤ s.consumed.0
  pub few : s.substreams ≤ 15
  pub seen : s.locked ≡ true → s.seen ≡ true

abbrev pub at : Stream → ℕ
at s = s.consumed.0

abbrev pub Standing : List ℕ → Stream → List ℕ → Type 0
Standing a s u = Placed at a s u × Stamped a s

-- the stream has passed the unit
abbrev pub Passed : Stream → TheUnit → Type 0
Passed s x = (x.position.0 + x.length ≤ at s) × (x.index < s.frames)

abbrev pub Numbers : List Event → Stream → Type 0
Numbers es s = (s.frames ≡ units_in es) × Indexed 0 es
