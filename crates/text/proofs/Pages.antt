-- A word put on a page: where it has room the page is longer by it, and where it has none the page is as it was.
use Rattle.std.proofs.Common.{◌≡◌, ℕ, ◌+◌, ◌-◌, ◌≤◌, ◌<◌, List, ◌++◌, length, take, drop, refl, sym, ap, ap₂, ◌∙◌, arith, drop-drop}
use Rattle.std.proofs.Math.Seq.{paste}
use Rattle.std.proofs.lemmas.List.Edits.{paste_all}
use Rattle.text.specs.declared.Page.{Page}
use Rattle.text.specs.Put.{page_with}
use Rattle.text.specs.PutLaws.{put_room, put_none, end_room, end_none}

module _ (p : Page) (w : List ℕ) where
  on_page : List ℕ → ℕ → Page
  on_page d end = record p { bytes = record p.bytes { now = d }; end = end }

  pub no_room : length p.bytes.now < p.end + length w → p ≡ page_with p w
  unfolding on_page
  no_room h = ap₂ on_page (put_none p.bytes.now w p.end h) (end_none (length p.bytes.now) p.end (length w) h)

  pub has_room : {end : ℕ} → end ≡ p.end + length w → end ≤ length p.bytes.now → {b : List ℕ} → b ≡ w
      → ◌≡◌ {A = Page} (record p { bytes = record p.bytes { now = take p.end p.bytes.now ++ (b ++ drop (end - p.end) (drop p.end p.bytes.now)) }; end = end }) (page_with p w)
  unfolding on_page
  has_room {end} e h {b} f =
      let d = p.bytes.now in
      let k : end - p.end ≡ length w = omega arith in
      let room : p.end + length w ≤ length d = omega arith in
      let same : take p.end d ++ (b ++ drop (end - p.end) (drop p.end d)) ≡ paste d p.end w (length w) =
      rw (f, k) (ap (λ (t : List ℕ). take p.end d ++ (w ++ t)) (drop-drop (length w) p.end d) ∙ sym (paste_all d p.end w (length w) refl)) in
      ap₂ on_page (same ∙ put_room d w p.end room) (e ∙ end_room (length d) p.end (length w) room)

-- what the goals of `Page::put` need
pub ruleset put_steps = (no_room, has_room)
