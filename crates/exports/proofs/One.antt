-- Any two outcomes that an exported call's contract allows are equal: each contract is an equation for the number and for each lent array that the
-- call may write.
use mathlib.Core.Path.{◌≡◌, sym, ◌∙◌}
use Rattle.exports.proofs.mv_open.Reads as mv-open
use Rattle.exports.proofs.mv_push_bytes.Reads as mv-push-bytes
use Rattle.exports.proofs.mv_next.Reads as mv-next

-- number and record
pub mv_open_one : (κs : _) (a : _) (r r' : _) (e e' : _) → mv-open.Post κs a r e → mv-open.Post κs a r' e' → (r ≡ r') × (e.0.now ≡ e'.0.now)
mv_open_one κs a r r' e e' p q = (p.0 ∙ sym q.0, p.1 ∙ sym q.1)

-- number, record and what the lent buffer holds
pub mv_push_bytes_one : (κs : _) (a : _) (r r' : _) (e e' : _) → mv-push-bytes.Post κs a r e → mv-push-bytes.Post κs a r' e'
    → (r ≡ r') × ((e.0.now ≡ e'.0.now) × (e.1.0.now ≡ e'.1.0.now))
mv_push_bytes_one κs a r r' e e' p q = (p.0 ∙ sym q.0, (p.1.0 ∙ sym q.1.0, p.1.1 ∙ sym q.1.1))

-- number, record and unit; the buffer is lent as `&`: nothing in it is written
pub mv_next_one : (κs : _) (a : _) (r r' : _) (e e' : _) → mv-next.Post κs a r e → mv-next.Post κs a r' e'
    → (r ≡ r') × ((e.0.now ≡ e'.0.now) × (e.1.1.0.now ≡ e'.1.1.0.now))
mv_next_one κs a r r' e e' p q = (p.0 ∙ sym q.0, (p.1.0 ∙ sym q.1.0, p.1.1 ∙ sym q.1.1))
