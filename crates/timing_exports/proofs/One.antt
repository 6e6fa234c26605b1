-- Any two outcomes that an exported call's contract allows are equal: each contract is an equation.
use mathlib.Core.Path.{◌≡◌, sym, ◌∙◌}
use Rattle.timing_exports.proofs.mv_timing_fresh.Reads as mv-timing-fresh
use Rattle.timing_exports.proofs.mv_timing_update.Reads as mv-timing-update
use Rattle.timing_exports.proofs.mv_timing_reset_for_branch.Reads as mv-timing-reset-for-branch

-- what the lent words hold; it answers nothing
pub mv_timing_fresh_one : (κs : _) (a : _) (r r' : _) (e e' : _) → mv-timing-fresh.Post κs a r e → mv-timing-fresh.Post κs a r' e' → e.0.now ≡ e'.0.now
mv_timing_fresh_one κs a r r' e e' p q = p ∙ sym q

-- the answer, and what the lent words hold
pub mv_timing_update_one : (κs : _) (a : _) (r r' : _) (e e' : _) → mv-timing-update.Post κs a r e → mv-timing-update.Post κs a r' e' → (r ≡ r') × (e.0.now ≡ e'.0.now)
mv_timing_update_one κs a r r' e e' p q = (p.0 ∙ sym q.0, p.1 ∙ sym q.1)

pub mv_timing_reset_for_branch_one : (κs : _) (a : _) (r r' : _) (e e' : _) → mv-timing-reset-for-branch.Post κs a r e → mv-timing-reset-for-branch.Post κs a r' e' → (r ≡ r') × (e.0.now ≡ e'.0.now)
mv_timing_reset_for_branch_one κs a r r' e e' p q = (p.0 ∙ sym q.0, p.1 ∙ sym q.1)
