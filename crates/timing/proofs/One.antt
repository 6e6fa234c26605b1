-- Any two outcomes that a contract allows are equal: each contract is one equation of the outcome with a definition.
use Rattle.std.proofs.Common.{◌≡◌, sym, ◌∙◌}
use Rattle.timing.proofs.HiresOutputTimingState.fresh.Reads as fresh
use Rattle.timing.proofs.HiresOutputTimingState.update.Reads as update
use Rattle.timing.proofs.HiresOutputTimingState.reset_for_branch.Reads as reset-for-branch

pub fresh_one : (κs : _) (a : _) (r r' : _) (e e' : _) → fresh.Post κs a r e → fresh.Post κs a r' e' → r ≡ r'
fresh_one κs a r r' e e' p q = p ∙ sym q

pub update_one : (κs : _) (a : _) (r r' : _) (e e' : _) → update.Post κs a r e → update.Post κs a r' e' → r ≡ r'
update_one κs a r r' e e' p q = p ∙ sym q

pub reset_for_branch_one : (κs : _) (a : _) (r r' : _) (e e' : _) → reset-for-branch.Post κs a r e → reset-for-branch.Post κs a r' e' → r ≡ r'
reset_for_branch_one κs a r r' e e' p q = p ∙ sym q
