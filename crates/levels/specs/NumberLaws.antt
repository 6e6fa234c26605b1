-- What the conditions of numbers 1 and 13 say: of the slot numbers, and of each sum.
use Rattle.std.specs.Prelude.{ℕ, ◌+◌, ◌≤◌, ◌<◌, ◌≡◌, Bool, true, List, get_or}
use Rattle.std.proofs.Common.{arith, sym, ◌∙◌, le-ltb, ltb-false, leb-true}
use Rattle.laws.specs.Pick.{both, passed}
use Rattle.levels.specs.Levels.{depth_at, substream_at}
use Rattle.levels.specs.Numbers.{room_at, depth_room, depths_room, substreams_room, room_of, depths_fit, substreams_fit, fits_of}
use Rattle.levels.specs.IndexLaws.{every_says}
use Rattle.levels.specs.declared.Contribution.{Contribution}
use Rattle.levels.specs.declared.Depth.{Depth}
use Rattle.levels.specs.declared.SubstreamDepth.{SubstreamDepth}
use Rattle.levels.specs.declared.Levels.{Levels}

-- a record that fits has both slot numbers below 128
slots_fit : (l : Levels) → fits_of l ≡ true → (l.read < 128) × (l.write < 128)
unfolding fits_of
slots_fit l e =
    let a = passed _ _ e in
    let b = passed _ _ a.1 in
    let u : l.read ≤ 127 = ltb-false 127 l.read a.0 in
    let v : l.write ≤ 127 = ltb-false 127 l.write b.0 in
    (omega arith, omega arith)

module _ (l : Levels) {x : Bool} (e : x ≡ fits_of l) (yes : x ≡ true) where
  pub read_fits : l.read < 128
  read_fits = (slots_fit l (sym e ∙ yes)).0

  pub write_fits : l.write < 128
  write_fits = (slots_fit l (sym e ∙ yes)).1

pub read_of_fit : (l : Levels) → fits_of l ≡ true → l.read < 128
read_of_fit l e = (slots_fit l e).0

pub write_of_fit : (l : Levels) → fits_of l ≡ true → l.write < 128
write_of_fit l e = (slots_fit l e).1

-- and what it takes to fit
pub fits_holds : (l : Levels) → l.read ≤ 127 → l.write ≤ 127 → depths_fit l.depth ≡ true → substreams_fit l.substream ≡ true → fits_of l ≡ true
unfolding fits_of
fits_holds l r w d s = rw (le-ltb 127 l.read r, le-ltb 127 l.write w, d, s)

-- what room says of the sums
pub room_says : (depth bytes : ℕ) → room_at depth bytes ≡ true → depth + bytes ≤ 4294967295
unfolding room_at
room_says depth bytes e = leb-true _ _ e

pub depth_room_says : (d : Depth) (total stream : ℕ) → depth_room d total stream ≡ true → (d.total + total ≤ 4294967295) × (d.stream + stream ≤ 4294967295)
unfolding depth_room
depth_room_says d total stream e =
    let w = both (room_at d.total total) (room_at d.stream stream) e in
    (room_says d.total total w.0, room_says d.stream stream w.1)

-- room for all is room at each
pub depth_has_room : (depth : List Depth) (x : Contribution) (k : ℕ) → depths_room depth x ≡ true → k < 5
    → depth_room (depth_at depth k) (get_or x.total k 0) (get_or x.stream k 0) ≡ true
unfolding depths_room
depth_has_room depth x k e h = every_says 5 (λ j. depth_room (depth_at depth j) (get_or x.total j 0) (get_or x.stream j 0)) e k h

pub substream_has_room : (substream : List SubstreamDepth) (x : Contribution) (i : ℕ) → substreams_room substream x ≡ true → i < 4
    → room_at (substream_at substream i).bytes (get_or x.substream i 0) ≡ true
unfolding substreams_room
substream_has_room substream x i e h = every_says 4 (λ j. room_at (substream_at substream j).bytes (get_or x.substream j 0)) e i h

module _ (l : Levels) (x : Contribution) where
  pub room_says_both : room_of l x ≡ true → (depths_room l.depth x ≡ true) × (substreams_room l.substream x ≡ true)
  unfolding room_of
  room_says_both e = both _ _ e

  pub room_of_depths : room_of l x ≡ true → depths_room l.depth x ≡ true
  room_of_depths e = (room_says_both e).0

  pub room_of_substreams : room_of l x ≡ true → substreams_room l.substream x ≡ true
  room_of_substreams e = (room_says_both e).1
