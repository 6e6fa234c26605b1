-- Any two outcomes that a public call's contract allows are equal: the contract is an equation.
use mathlib.Core.Path.{◌≡◌, sym, ◌∙◌}
use Rattle.byte_caps.proofs.fba_cap.Reads as fba-cap
use Rattle.byte_caps.proofs.fbb_cap.Reads as fbb-cap

pub fba_cap_one : (κs : _) (a : _) (r r' : _) (e e' : _) → fba-cap.Post κs a r e → fba-cap.Post κs a r' e' → r ≡ r'
fba_cap_one κs a r r' e e' p q = p ∙ sym q

pub fbb_cap_one : (κs : _) (a : _) (r r' : _) (e e' : _) → fbb-cap.Post κs a r e → fbb-cap.Post κs a r' e' → r ≡ r'
fbb_cap_one κs a r r' e e' p q = p ∙ sym q
