-- Any two outcomes that a public call's contract allows are equal: the contract is an equation.
use mathlib.Core.Path.{◌≡◌, sym, ◌∙◌}
use Rattle.window.proofs.fresh.Reads as fresh
use Rattle.window.proofs.push.Reads as push
use Rattle.window.proofs.restart.Reads as restart

pub fresh_one : (κs : _) (a : _) (r r' : _) (e e' : _) → fresh.Post κs a r e → fresh.Post κs a r' e' → r ≡ r'
fresh_one κs a r r' e e' p q = p ∙ sym q

pub push_one : (κs : _) (a : _) (r r' : _) (e e' : _) → push.Post κs a r e → push.Post κs a r' e' → r ≡ r'
push_one κs a r r' e e' p q = p ∙ sym q

pub restart_one : (κs : _) (a : _) (r r' : _) (e e' : _) → restart.Post κs a r e → restart.Post κs a r' e' → r ≡ r'
restart_one κs a r r' e e' p q = p ∙ sym q
