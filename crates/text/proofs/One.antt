-- Any two outcomes that a public call's contract allows are equal: each contract is an equation.
use mathlib.Core.Path.{◌≡◌, sym, ◌∙◌}
use Rattle.text.proofs.line_end.Reads as line_end_lem
use Rattle.text.proofs.next_word.Reads as next_word
use Rattle.text.proofs.hex_number.Reads as hex-number
use Rattle.text.proofs.hex_bytes.Reads as hex-bytes
use Rattle.text.proofs.decimal_number.Reads as decimal-number
use Rattle.text.proofs.Page.new.Reads as page-new
use Rattle.text.proofs.Page.written.Reads as page-written
use Rattle.text.proofs.Page.put.Reads as page-put
use Rattle.text.proofs.Page.put_decimal.Reads as page-put-decimal

pub line_end_one : (κs : _) (a : _) (r r' : _) (e e' : _) → line_end_lem.Post κs a r e → line_end_lem.Post κs a r' e' → r ≡ r'
line_end_one κs a r r' e e' p q = p.0 ∙ sym q.0

pub next_word_one : (κs : _) (a : _) (r r' : _) (e e' : _) → next_word.Post κs a r e → next_word.Post κs a r' e' → r ≡ r'
next_word_one κs a r r' e e' p q = p.0 ∙ sym q.0

pub hex_number_one : (κs : _) (a : _) (r r' : _) (e e' : _) → hex-number.Post κs a r e → hex-number.Post κs a r' e' → r ≡ r'
hex_number_one κs a r r' e e' p q = p ∙ sym q

pub decimal_number_one : (κs : _) (a : _) (r r' : _) (e e' : _) → decimal-number.Post κs a r e → decimal-number.Post κs a r' e' → r ≡ r'
decimal_number_one κs a r r' e e' p q = p ∙ sym q

-- answer, and what the lent slice holds
pub hex_bytes_one : (κs : _) (a : _) (r r' : _) (e e' : _) → hex-bytes.Post κs a r e → hex-bytes.Post κs a r' e' → (r ≡ r') × (e.1.0.now ≡ e'.1.0.now)
hex_bytes_one κs a r r' e e' p q = (p.0 ∙ sym q.0, p.1.0 ∙ sym q.1.0)

-- a page: the slice that it is over, what that holds, and how far it is written
pub new_one : (κs : _) (a : _) (r r' : _) (e e' : _) → page-new.Post κs a r e → page-new.Post κs a r' e' → r ≡ r'
new_one κs a r r' e e' p q = p ∙ sym q

pub written_one : (κs : _) (a : _) (r r' : _) (e e' : _) → page-written.Post κs a r e → page-written.Post κs a r' e' → r.now ≡ r'.now
written_one κs a r r' e e' p q = p ∙ sym q

pub put_one : (κs : _) (a : _) (r r' : _) (e e' : _) → page-put.Post κs a r e → page-put.Post κs a r' e' → e.0.now ≡ e'.0.now
put_one κs a r r' e e' p q = p ∙ sym q

pub put_decimal_one : (κs : _) (a : _) (r r' : _) (e e' : _) → page-put-decimal.Post κs a r e → page-put-decimal.Post κs a r' e' → e.0.now ≡ e'.0.now
put_decimal_one κs a r r' e e' p q = p ∙ sym q
