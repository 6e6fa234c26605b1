-- Any two outcomes that a public call's contract allows are equal: each contract is an equation.
use mathlib.Core.Path.{◌≡◌, sym, ◌∙◌}
use Rattle.crc.proofs.Algorithm.major_sync_info.Reads as major-sync-info
use Rattle.crc.proofs.Algorithm.update.Reads as update
use Rattle.crc.proofs.Algorithm.closed.Reads as closed
use Rattle.crc.proofs.Algorithm.check.Reads as check

pub major_sync_info_one : (κs : _) (a : _) (r r' : _) (e e' : _) → major-sync-info.Post κs a r e → major-sync-info.Post κs a r' e' → r ≡ r'
major_sync_info_one κs a r r' e e' p q = p ∙ sym q

pub update_one : (κs : _) (a : _) (r r' : _) (e e' : _) → update.Post κs a r e → update.Post κs a r' e' → r ≡ r'
update_one κs a r r' e e' p q = p ∙ sym q

pub closed_one : (κs : _) (a : _) (r r' : _) (e e' : _) → closed.Post κs a r e → closed.Post κs a r' e' → r ≡ r'
closed_one κs a r r' e e' p q = p ∙ sym q

pub check_one : (κs : _) (a : _) (r r' : _) (e e' : _) → check.Post κs a r e → check.Post κs a r' e' → r ≡ r'
check_one κs a r r' e e' p q = p ∙ sym q
