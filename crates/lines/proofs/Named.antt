-- Laws that the documents name: words put behind words, and where a line ends. No contract needs them.
use Rattle.std.specs.Prelude.{◌≡◌, ℕ, ◌≤◌, List, [], ◌∷◌, ◌++◌, length}
use Rattle.std.proofs.Common.{refl, sym, ap, ◌∙◌}
use Rattle.laws.specs.First.{scan_end}
use Rattle.text.specs.Text.{place_or, stop, feed_at, line_end_of}
use Rattle.text.specs.Put.{put_of, put_end}
use Rattle.lines.specs.Lines.{puts}

-- up to where the slice is written after some words, and what it holds
abbrev pub Puts : List ℕ → ℕ → List (List ℕ) → ℕ → List ℕ → Type 0
Puts d at ws at' d' = (at' ≡ (puts d at ws).at) × (d' ≡ (puts d at ws).holds)

abbrev pub PutsOne : List ℕ → ℕ → List ℕ → ℕ → List ℕ → Type 0
PutsOne d at w at' d' = (at' ≡ put_end (length d) at (length w)) × (d' ≡ put_of d at w)

pub one : (d : List ℕ) (at : ℕ) (w : List ℕ) {r : ℕ} {z : List ℕ} → PutsOne d at w r z → Puts d at (w ∷ []) r z
unfolding puts
one d at w p = p

-- words behind words
pub then_puts : (ws vs : List (List ℕ)) (d : List ℕ) (at : ℕ) {e : ℕ} {m : List ℕ} → Puts d at ws e m → {r : ℕ} {z : List ℕ} → Puts m e vs r z → Puts d at (ws ++ vs) r z
unfolding puts
then_puts [] vs d at p q = rw (p.0, p.1) at q
then_puts (w ∷ ws) vs d at p q = then_puts ws vs (put_of d at w) (put_end (length d) at (length w)) p q

pub puts_nothing : (d : List ℕ) (at : ℕ) (ws : List (List ℕ)) → ws ≡ [] → Puts d at ws at d
unfolding puts
puts_nothing d at ws e = rw e (refl, refl)

-- a line that begins past the last byte ends there
pub line_end_lem : (s : List ℕ) (i : ℕ) {x : ℕ} → x ≡ line_end_of s i → length s ≤ i → length s ≡ x
unfolding line_end_of stop
line_end_lem s i same h = sym (same ∙ ap (place_or (length s)) (scan_end (feed_at s) i (length s) h))
