-- "Byte counts and sample times are kinds that must not be mixed."
use Rattle.std.specs.Prelude.{Bool, ltb}
use Rattle.kinds.specs.declared.SampleTime.{SampleTime}

-- strictly above: "while the playhead is strictly above the removal time"
abbrev pub passed_of : SampleTime → SampleTime → Bool
passed_of playhead removal = ltb removal.0 playhead.0
