-- Any two outcomes that a public call's contract allows are equal: each contract is an equation.
use mathlib.Core.Path.{◌≡◌, sym, ◌∙◌}
use Rattle.lines.proofs.gather.Reads as gather
use Rattle.lines.proofs.put_end.Reads as put-end

-- the reader, how many bytes are lines, why there are no more, and what the lent slice holds
pub gather_one : (κs : _) (a : _) (r r' : _) (e e' : _) → gather.Post κs a r e → gather.Post κs a r' e' → (r ≡ r') × (e.1.1.0.now ≡ e'.1.1.0.now)
gather_one κs a r r' e e' p q = (p.0 ∙ sym q.0, p.1 ∙ sym q.1)

pub put_end_one : (κs : _) (a : _) (r r' : _) (e e' : _) → put-end.Post κs a r e → put-end.Post κs a r' e' → (r ≡ r') × (e.1.0.now ≡ e'.1.0.now)
put_end_one κs a r r' e e' p q = (p.0 ∙ sym q.0, p.1 ∙ sym q.1)
