-- Laws of one choice each, which the rules' older proofs went through; what stands on the rules today goes by the general law of a choice
-- (crates/laws/specs/Pick.antt). No contract needs them.
use Rattle.std.specs.Prelude.{ℕ, ◌-◌, ◌≤◌, ◌≡◌, refl, Bool, true, false, leb}
use Rattle.std.proofs.Common.{arith, leb-true}
use Rattle.laws.specs.Pick.{pick}
use Rattle.levels.specs.declared.Depth.{Depth}
use Rattle.levels.specs.declared.Peak.{Peak}
use Rattle.window_rules.specs.Depth.{sampled_of}

pub sampled_by : (t s : ℕ) (p : Peak) (b : Bool) → leb t p.total ≡ b → t ≤ (pick b p (record { total = t; stream = s; overhead = t - s })).total
sampled_by t s p true e = leb-true t p.total e
sampled_by t s p false e = omega arith

pub left_covers_by : (b : Bool) (x y : Depth) → x.total ≤ x.peak.total → y.total ≤ y.peak.total → (pick b x y).total ≤ (pick b x y).peak.total
left_covers_by true x y p q = p
left_covers_by false x y p q = q

pub left_by : (b : Bool) (x y t s : ℕ) (p : Peak) → ((pick b (sampled_of 0 0 p) (sampled_of (x - t) (y - s) p)).total ≤ x)
    × ((pick b (sampled_of 0 0 p) (sampled_of (x - t) (y - s) p)).stream ≤ y)
unfolding sampled_of
left_by true x y t s p = (omega arith, omega arith)
left_by false x y t s p = (omega arith, omega arith)

pub substream_by : (t p : ℕ) (b : Bool) → leb t p ≡ b → t ≤ pick b p t
substream_by t p true e = leb-true t p e
substream_by t p false e = omega arith

pub moment_by : (t s : ℕ) (p : Peak) (b : Bool) → p.overhead ≡ p.total - p.stream
    → (pick b p (record { total = t; stream = s; overhead = t - s })).overhead
    ≡ (pick b p (record { total = t; stream = s; overhead = t - s })).total - (pick b p (record { total = t; stream = s; overhead = t - s })).stream
moment_by t s p true e = e
moment_by t s p false e = refl

pub left_moment_by : (b : Bool) (x y : Depth) → (x.peak.overhead ≡ x.peak.total - x.peak.stream) → (y.peak.overhead ≡ y.peak.total - y.peak.stream)
    → (pick b x y).peak.overhead ≡ (pick b x y).peak.total - (pick b x y).peak.stream
left_moment_by true x y p q = p
left_moment_by false x y p q = q
