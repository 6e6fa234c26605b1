-- Any two outcomes that a public call's contract allows are equal: each contract is an equation, and an answer's meaning tells which it is.
use mathlib.Core.Path.{◌≡◌, refl, sym, ap, ◌∙◌}
use mathlib.Core.Option.{Option, none, some}
use Rattle.laws.specs.First.{Place, At, Nowhere}
use Rattle.machine.specs.Ask.{Eat}
use Rattle.rules.specs.declared.Verdict.{Verdict}
use Rattle.std.specs.Prelude.{ℕ, Some, None}
use Rattle.std.specs.Prelude.{Option as Answered}
use Rattle.judging.specs.declared.search.Judged.{Judged}
use Rattle.judging.specs.Means.{found_of, judged_of}
use Rattle.judging.proofs.search.find.Reads as find
use Rattle.judging.proofs.search.kept.Reads as kept
use Rattle.judging.proofs.search.stamp_at.Reads as stamp-at
use Rattle.judging.proofs.search.candidate.Reads as candidate
use Rattle.judging.proofs.unit.unit.Reads as unit
use Rattle.judging.proofs.unit.is_major_sync.Reads as is-major-sync

-- the code's answer back from its meaning
abbrev found : Place → Answered ℕ
found (At i) = Some i
found Nowhere = None

found_again : (r : Answered ℕ) → found (found_of r) ≡ r
found_again (Some i) = refl
found_again None = refl

abbrev judged : Option (Eat Verdict) → Answered Judged
judged (some g) = Some (record { eaten = g.eaten; verdict = g.answer })
judged none = None

judged_again : (r : Answered Judged) → judged (judged_of r) ≡ r
judged_again (Some j) = refl
judged_again None = refl

judged_one : (r r' : Answered Judged) → judged_of r ≡ judged_of r' → r ≡ r'
judged_one r r' e = sym (judged_again r) ∙ ap judged e ∙ judged_again r'

pub find_one : (κs : _) (a : _) (r r' : _) (e e' : _) → find.Post κs a r e → find.Post κs a r' e' → r ≡ r'
find_one κs a r r' e e' p q = sym (found_again r) ∙ ap found (p ∙ sym q) ∙ found_again r'

pub kept_one : (κs : _) (a : _) (r r' : _) (e e' : _) → kept.Post κs a r e → kept.Post κs a r' e' → r ≡ r'
kept_one κs a r r' e e' p q = p ∙ sym q

pub stamp_at_one : (κs : _) (a : _) (r r' : _) (e e' : _) → stamp-at.Post κs a r e → stamp-at.Post κs a r' e' → r ≡ r'
stamp_at_one κs a r r' e e' p q = p ∙ sym q

pub candidate_one : (κs : _) (a : _) (r r' : _) (e e' : _) → candidate.Post κs a r e → candidate.Post κs a r' e' → r ≡ r'
candidate_one κs a r r' e e' p q = judged_one r r' (p ∙ sym q)

pub unit_one : (κs : _) (a : _) (r r' : _) (e e' : _) → unit.Post κs a r e → unit.Post κs a r' e' → r ≡ r'
unit_one κs a r r' e e' p q = judged_one r r' (p ∙ sym q)

pub is_major_sync_one : (κs : _) (a : _) (r r' : _) (e e' : _) → is-major-sync.Post κs a r e → is-major-sync.Post κs a r' e' → r ≡ r'
is_major_sync_one κs a r r' e e' p q = p ∙ sym q
