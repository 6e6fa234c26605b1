-- Any two outcomes that a public call's contract allows are equal: each contract is an equation.
use mathlib.Core.Path.{◌≡◌, sym, ◌∙◌}
use Rattle.coverage.proofs.Coverage.none.Reads as none
use Rattle.coverage.proofs.Coverage.passed.Reads as passed
use Rattle.coverage.proofs.Coverage.covered.Reads as covered

pub none_one : (κs : _) (a : _) (r r' : _) (e e' : _) → none.Post κs a r e → none.Post κs a r' e' → r ≡ r'
none_one κs a r r' e e' p q = p ∙ sym q

pub passed_one : (κs : _) (a : _) (r r' : _) (e e' : _) → passed.Post κs a r e → passed.Post κs a r' e' → r ≡ r'
passed_one κs a r r' e e' p q = p ∙ sym q

pub covered_one : (κs : _) (a : _) (r r' : _) (e e' : _) → covered.Post κs a r e → covered.Post κs a r' e' → r ≡ r'
covered_one κs a r r' e e' p q = p ∙ sym q
