-- The gathering, one request at a time.
use Prim.Native.Nat.{ℕ, suc, ◌-◌, ◌≤◌, ◌<◌}
use native.Mathlib.Omega.{arith}
use mathlib.Core.Path.{◌≡◌, refl, ap, ◌∙◌}
use mathlib.Core.Bool.{Bool, true, false}
use mathlib.Core.List.{List}
use lib.Dec.{leb}
use Rattle.laws.specs.Turns.{less_one}
use Rattle.extract.specs.declared.Extractor.{Extractor}
use Rattle.extract.specs.declared.Asked.{Asked}
use Rattle.extract.specs.Calls.{asked_of}
use Rattle.text.specs.declared.Page.{Page}
use Rattle.lines.specs.Lines.{Sheet, page_of}
use Rattle.lines.specs.Gather.{words_of, heard_of, Gathering, sheet, ends, gathers, page_by}
use Rattle.lines.specs.declared.Heard.{Heard}
use Rattle.lines.specs.declared.Ended.{Ended}
use Rattle.lines.specs.declared.Ended.TheVariants.{Dry, Full, Refused}
use Rattle.lines.specs.declared.Gathered.{Gathered}

-- the gathering: what it comes to is what is left to gather
abbrev Comes : Gathering → Page → Extractor → Page → Ended → Type 0
Comes whole o r p e = (◌≡◌ {A = Gathered} (record { reader = r; used = p.end; ended = e }) whole.gathered) × (p ≡ page_by whole o)

-- a page as a sheet
abbrev pub sheet_of : Page → Sheet
sheet_of p = sheet p.bytes.now p.end

-- the page is the one that was lent, over the same slice
abbrev pub Same : Page → Page → Type 0
Same o p = p ≡ record o { bytes = record o.bytes { now = p.bytes.now }; end = p.end }

module _ {whole : Gathering} (n : ℕ) (r : Extractor) (buf : List ℕ) (o p : Page) (over : Same o p) (same : whole ≡ gathers n r buf (sheet_of p)) where
  comes : (r' : Extractor) (e : Ended) → whole ≡ ends r' (sheet_of p) e → Comes whole o r' p e
  comes r' e h = rw h (refl, over)

  pub gather_spent : n ≤ 0 → Comes whole o r p Full
  unfolding gathers
  gather_spent h = let k : n ≡ 0 = omega arith in comes r Full (same ∙ rw k)

  module _ (more : 0 < n) {b : Bool} (e : b ≡ leb p.end 65456) where
    turn : whole ≡ gathers (suc (n - 1)) r buf (sheet_of p)
    turn = same ∙ ap (λ (k : ℕ). gathers k r buf (sheet_of p)) (less_one n more)

    pub gather_full : b ≡ false → Comes whole o r p Full
    unfolding gathers
    gather_full h = comes r Full (turn ∙ rw (← e, h))

    module _ (yes : b ≡ true) {x : Asked} (a : x ≡ asked_of r buf) {h : Heard} (k : h ≡ heard_of x.answer) where
      pub gather_dry : h ≡ Heard.Dry → Comes whole o x.extractor p Dry
      unfolding gathers
      gather_dry z = comes x.extractor Dry (turn ∙ rw (← e, yes, ← a, ← k, z))

      pub gather_refused : h ≡ Heard.Refused → Comes whole o x.extractor p Refused
      unfolding gathers
      gather_refused z = comes x.extractor Refused (turn ∙ rw (← e, yes, ← a, ← k, z))

      pub gather_on : h ≡ Heard.Line → {q : Page} → q ≡ page_of p (words_of x.answer x.extractor.stream.consumed.0) → {m : ℕ} → m ≡ n - 1
          → Same o q × (whole ≡ gathers m x.extractor buf (sheet_of q))
      unfolding gathers
      gather_on z w em = (rw w (rw over refl), rw (em, w) (turn ∙ rw (← e, yes, ← a, ← k, z)))
