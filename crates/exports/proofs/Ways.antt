-- A request is refused by number 1 alone, and then its record is not written.
use Rattle.std.proofs.Common.{◌≡◌, ℕ, List, length, Err, refl, eqb}
use Rattle.laws.specs.Pick.{pick_holds}
use Rattle.machine.specs.Scan as Scan
use Rattle.rules.specs.declared.Stream.{Stream}
use Rattle.rules.specs.Request.{Event, reader}
use Rattle.extract.specs.Calls.{answered_of, asked_of}
use Rattle.extract.specs.Record.{fits_of, unread}
use Rattle.extract.specs.declared.Asked.{Asked}
use Rattle.extract.specs.declared.Extractor.{Extractor}
use Rattle.extract.specs.declared.Refusal.{Refusal}
use Rattle.exports.specs.Answers.{asked_number, asked_on}

module _ (ws : List ℕ) where
  abbrev Unwritten : Asked → Type 0
  Unwritten a = (e : Refusal) → a.answer ≡ Err e → ws ≡ asked_on ws (asked_number a.answer) a.extractor

  answered : (r : Extractor) (x : Scan.Answer Stream Event) → Unwritten (answered_of r x)
  unfolding answered_of
  answered r (Scan.ran_dry s u) e q = cc
  answered r (Scan.spoke x s u) e q = cc

  pub unwritten : (r : Extractor) (buf : List ℕ) → Unwritten (asked_of r buf)
  unfolding asked_of asked_on
  unwritten r buf =
      pick_holds Unwritten (fits_of r (length buf)) _ _
      (λ f. pick_holds Unwritten (eqb r.unanswered 0) _ _ (λ z e q. cc) (λ z. answered r (Scan.request reader r.stream (unread r buf))))
      (λ f e q. refl)
