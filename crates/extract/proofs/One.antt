-- Any two outcomes that a public call's contract allows are equal: each contract is an equation.
use mathlib.Core.Path.{◌≡◌, sym, ◌∙◌}
use Rattle.extract.proofs.Extractor.record_fits.Reads as record-fits
use Rattle.extract.proofs.Extractor.fits.Reads as fits
use Rattle.extract.proofs.Extractor.open.Reads as opens
use Rattle.extract.proofs.Extractor.push_bytes.Reads as push-bytes
use Rattle.extract.proofs.Extractor.next.Reads as next

pub record_fits_one : (κs : _) (a : _) (r r' : _) (e e' : _) → record-fits.Post κs a r e → record-fits.Post κs a r' e' → r ≡ r'
record_fits_one κs a r r' e e' p q = p ∙ sym q

pub fits_one : (κs : _) (a : _) (r r' : _) (e e' : _) → fits.Post κs a r e → fits.Post κs a r' e' → r ≡ r'
fits_one κs a r r' e e' p q = p ∙ sym q

pub open_one : (κs : _) (a : _) (r r' : _) (e e' : _) → opens.Post κs a r e → opens.Post κs a r' e' → r ≡ r'
open_one κs a r r' e e' p q = p ∙ sym q

-- answer and record, and what the lent buffer holds
pub push_bytes_one : (κs : _) (a : _) (r r' : _) (e e' : _) → push-bytes.Post κs a r e → push-bytes.Post κs a r' e' → (r ≡ r') × (e.1.0.now ≡ e'.1.0.now)
push_bytes_one κs a r r' e e' p q = (p.0 ∙ sym q.0, p.1 ∙ sym q.1)

-- the buffer is lent as `&`: nothing in it is written
pub next_one : (κs : _) (a : _) (r r' : _) (e e' : _) → next.Post κs a r e → next.Post κs a r' e' → r ≡ r'
next_one κs a r r' e e' p q = p ∙ sym q
