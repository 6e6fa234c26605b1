-- Any two outcomes that a public call's contract allows are equal: each contract is an equation.
use mathlib.Core.Path.{◌≡◌, sym, ◌∙◌}
use Rattle.record_words.proofs.yes.Reads as yes
use Rattle.record_words.proofs.flag.Reads as flag
use Rattle.record_words.proofs.reader_of.Reads as reader-of
use Rattle.record_words.proofs.stamp_on.Reads as stamp-on
use Rattle.record_words.proofs.left_on.Reads as left-on
use Rattle.record_words.proofs.reader_on.Reads as reader-on

pub yes_one : (κs : _) (a : _) (r r' : _) (e e' : _) → yes.Post κs a r e → yes.Post κs a r' e' → r ≡ r'
yes_one κs a r r' e e' p q = p ∙ sym q

pub flag_one : (κs : _) (a : _) (r r' : _) (e e' : _) → flag.Post κs a r e → flag.Post κs a r' e' → r ≡ r'
flag_one κs a r r' e e' p q = p ∙ sym q

pub reader_of_one : (κs : _) (a : _) (r r' : _) (e e' : _) → reader-of.Post κs a r e → reader-of.Post κs a r' e' → r ≡ r'
reader_of_one κs a r r' e e' p q = p ∙ sym q

-- what the lent words hold
pub stamp_on_one : (κs : _) (a : _) (r r' : _) (e e' : _) → stamp-on.Post κs a r e → stamp-on.Post κs a r' e' → e.0.now ≡ e'.0.now
stamp_on_one κs a r r' e e' p q = p ∙ sym q

pub left_on_one : (κs : _) (a : _) (r r' : _) (e e' : _) → left-on.Post κs a r e → left-on.Post κs a r' e' → e.0.now ≡ e'.0.now
left_on_one κs a r r' e e' p q = p ∙ sym q

pub reader_on_one : (κs : _) (a : _) (r r' : _) (e e' : _) → reader-on.Post κs a r e → reader-on.Post κs a r' e' → e.0.now ≡ e'.0.now
reader_on_one κs a r r' e e' p q = p ∙ sym q
