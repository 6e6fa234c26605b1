-- What `put` makes of its tests: where there is room the word stands at its place, and where there is none all is as it was.
use Rattle.std.specs.Prelude.{ℕ, ◌+◌, ◌≤◌, ◌<◌, ◌≡◌, List, length}
use Rattle.std.proofs.Common.{le-leb}
use Rattle.std.proofs.lemmas.Bool.{lt-leb}
use Rattle.std.proofs.Math.Seq.{paste}
use Rattle.text.specs.Put.{put_of, put_end}

module _ (d w : List ℕ) (at : ℕ) where
  pub put_room : at + length w ≤ length d → paste d at w (length w) ≡ put_of d at w
  unfolding put_of
  put_room h = simp (le-leb _ _ h)

  pub put_none : length d < at + length w → d ≡ put_of d at w
  unfolding put_of
  put_none h = simp (lt-leb _ _ h)

module _ (n at k : ℕ) where
  pub end_room : at + k ≤ n → at + k ≡ put_end n at k
  unfolding put_end
  end_room h = simp (le-leb _ _ h)

  pub end_none : n < at + k → at ≡ put_end n at k
  unfolding put_end
  end_none h = simp (lt-leb _ _ h)
