-- The writing, one gathering at a time, and what each answer of a push comes to.
use Rattle.std.specs.Prelude.{Ok, Err}
use Prim.Native.Nat.{ℕ, suc, ◌-◌, ◌≤◌, ◌<◌}
use native.Mathlib.Omega.{arith}
use mathlib.Core.Path.{◌≡◌, sym, ap, ◌∙◌, subst}
use mathlib.Core.List.{List}
use lib.ListN.{length}
use Rattle.laws.specs.Turns.{less_one}
use Rattle.extract.specs.declared.Extractor.{Extractor}
use Rattle.extract.specs.declared.Pushed.{Pushed}
use Rattle.extract.specs.declared.Refusal.{Refusal}
use Rattle.extract.specs.declared.Refusal.TheVariants.{Record}
use Rattle.extract.specs.Calls.{pushed_of, buffer_of}
use Rattle.lines.specs.Gather.{gathered_of}
use Rattle.lines.specs.declared.Gathered.{Gathered}
use Rattle.lines.specs.declared.Ended.TheVariants.{Dry, Full}
use Rattle.lines.specs.declared.Ended.TheVariants as Ended
use Rattle.reporting.specs.Reports.{Reported, Written, wrote_of, piece_of}
use Rattle.reporting.specs.declared.Failure.TheVariants.{Refused}

-- what is left to write is the whole
module _ {whole : Reported} (n : ℕ) (r : Extractor) (buf d : List ℕ) (same : whole ≡ wrote_of n r buf d) where
  pub wrote_spent : n ≤ 0 → Ok r ≡ whole
  unfolding wrote_of
  wrote_spent h = let k : n ≡ 0 = omega arith in sym (same ∙ rw k)

  module _ (more : 0 < n) {x : Gathered} (says : x ≡ (gathered_of r buf d).gathered) where
    turn : whole ≡ wrote_of (suc (n - 1)) r buf d
    turn = same ∙ ap (λ (k : ℕ). wrote_of k r buf d) (less_one n more)

    pub wrote_dry : x.ended ≡ Dry → Ok x.reader ≡ whole
    unfolding wrote_of
    wrote_dry z = sym (turn ∙ rw (← says, z))

    pub wrote_refused : x.ended ≡ Ended.Refused → Err (Refused Record) ≡ whole
    unfolding wrote_of
    wrote_refused z = sym (turn ∙ rw (← says, z))

    pub wrote_on : x.ended ≡ Full → {d' : List ℕ} → d' ≡ (gathered_of r buf d).holds → {m : ℕ} → m ≡ n - 1 → whole ≡ wrote_of m x.reader buf d'
    unfolding wrote_of
    wrote_on z q e = rw e (turn ∙ rw (← says, z, ← q))

-- a piece
module _ (r : Extractor) (buf piece d : List ℕ) {x : Pushed} (says : x ≡ pushed_of r (length buf) (length piece)) where
  pub piece_refused : {e : Refusal} → x.answer ≡ Err e → {y : Reported} → y ≡ Err (Refused e) → Written y (piece_of r buf piece d)
  unfolding piece_of
  piece_refused z q = rw (q, ← says, z)

  pub piece_accepted : {u : Unit {0}} → x.answer ≡ Ok u → {buf' : List ℕ} → buf' ≡ buffer_of r buf piece → (y : Reported)
      → Written y (wrote_of 18446744073709551615 x.extractor buf' d) → Written y (piece_of r buf piece d)
  unfolding piece_of
  piece_accepted z q y w = subst (Written y) (ap (λ (b : List ℕ). wrote_of 18446744073709551615 x.extractor b d) q ∙ rw (← says, z)) w
