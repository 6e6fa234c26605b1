-- Any two outcomes that a public call's contract allows are equal: each contract is an equation.
use mathlib.Core.Path.{◌≡◌, sym, ◌∙◌}
use Rattle.timestamp.proofs.U8FromTimestampError.from.Reads as number
use Rattle.timestamp.proofs.FramerateFromU8.from.Reads as from
use Rattle.timestamp.proofs.U8FromFramerate.from.Reads as code
use Rattle.timestamp.proofs.Timestamp.parse_bcd16.Reads as parse-bcd16
use Rattle.timestamp.proofs.Timestamp.from_bytes.Reads as from_bytes

pub number_one : (κs : _) (a : _) (r r' : _) (e e' : _) → number.Post κs a r e → number.Post κs a r' e' → r ≡ r'
number_one κs a r r' e e' p q = p ∙ sym q

pub from_one : (κs : _) (a : _) (r r' : _) (e e' : _) → from.Post κs a r e → from.Post κs a r' e' → r ≡ r'
from_one κs a r r' e e' p q = p ∙ sym q

pub code_one : (κs : _) (a : _) (r r' : _) (e e' : _) → code.Post κs a r e → code.Post κs a r' e' → r ≡ r'
code_one κs a r r' e e' p q = p ∙ sym q

pub parse_bcd16_one : (κs : _) (a : _) (r r' : _) (e e' : _) → parse-bcd16.Post κs a r e → parse-bcd16.Post κs a r' e' → r ≡ r'
parse_bcd16_one κs a r r' e e' p q = p ∙ sym q

pub from_bytes_one : (κs : _) (a : _) (r r' : _) (e e' : _) → from_bytes.Post κs a r e → from_bytes.Post κs a r' e' → r ≡ r'
from_bytes_one κs a r r' e e' p q = p ∙ sym q
