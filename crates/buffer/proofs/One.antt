-- Any two outcomes that a public call's contract allows are equal: each contract is an equation.
use mathlib.Core.Path.{◌≡◌, sym, ◌∙◌}
use Rattle.buffer.proofs.place.Reads as place
use Rattle.buffer.proofs.part.Reads as part

-- the answer, and what the lent buffer holds
pub place_one : (κs : _) (a : _) (r r' : _) (e e' : _) → place.Post κs a r e → place.Post κs a r' e' → (r ≡ r') × (e.0.now ≡ e'.0.now)
place_one κs a r r' e e' p q = (p.0 ∙ sym q.0, p.1 ∙ sym q.1)

pub part_one : (κs : _) (a : _) (r r' : _) (e e' : _) → part.Post κs a r e → part.Post κs a r' e' → r.now ≡ r'.now
part_one κs a r r' e e' p q = p ∙ sym q
