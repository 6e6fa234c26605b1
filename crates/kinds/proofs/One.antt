-- Any two outcomes that a public call's contract allows are equal: the contract is an equation.
use mathlib.Core.Path.{◌≡◌, sym, ◌∙◌}
use Rattle.kinds.proofs.SampleTime.passed.Reads as passed

pub passed_one : (κs : _) (a : _) (r r' : _) (e e' : _) → passed.Post κs a r e → passed.Post κs a r' e' → r ≡ r'
passed_one κs a r r' e e' p q = p ∙ sym q
