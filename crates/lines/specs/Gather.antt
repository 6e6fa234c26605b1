-- The lines of one request after another, until the reader is dry or the room is full: definitions only.
use Rattle.std.specs.Prelude.{ℕ, zero, suc, List, [], leb, Result, Ok, Err}
use Rattle.laws.specs.Pick.{pick}
use Rattle.extract.specs.declared.Extractor.{Extractor}
use Rattle.extract.specs.declared.Asked.{Asked}
use Rattle.extract.specs.declared.Answer.{Answer}
use Rattle.extract.specs.declared.Answer.TheVariants.{Unit as AUnit, InvalidAccessUnitLength, ParityCheckFailed, InsufficientData, Quiet}
use Rattle.extract.specs.declared.Refusal.{Refusal}
use Rattle.extract.specs.Calls.{asked_of}
use Rattle.lines.specs.Lines.{bad_text, end_text, pair_line_words, unit_words, Sheet, puts}
use Rattle.lines.specs.declared.Gathered.{Gathered}
use Rattle.text.specs.declared.Page.{Page}
use Rattle.lines.specs.declared.Heard.{Heard}
use Rattle.lines.specs.declared.Ended.{Ended}
use Rattle.lines.specs.declared.Ended.TheVariants.{Dry, Full, Refused}

-- what an answer puts, the reader's position after it being so many bytes: "numbers 5 and 6 print `BAD` with number and position after"; "Dry
-- answers print nothing"
abbrev pub words_of : Result Answer Refusal → ℕ → List (List ℕ)
words_of (Ok (AUnit u start)) position = unit_words u
words_of (Ok (InvalidAccessUnitLength actual minimum)) position = pair_line_words bad_text 5 position
words_of (Ok ParityCheckFailed) position = pair_line_words bad_text 6 position
words_of (Ok InsufficientData) position = []
words_of (Ok Quiet) position = []
words_of (Err e) position = []

-- spoken, dry (7 and 8) or number 1
abbrev pub heard_of : Result Answer Refusal → Heard
heard_of (Ok (AUnit u start)) = Heard.Line
heard_of (Ok (InvalidAccessUnitLength actual minimum)) = Heard.Line
heard_of (Ok ParityCheckFailed) = Heard.Line
heard_of (Ok InsufficientData) = Heard.Dry
heard_of (Ok Quiet) = Heard.Dry
heard_of (Err e) = Heard.Refused

-- a spoken answer is followed by another request; the others end the gathering
abbrev pub by_heard : {A : Type 0} → Heard → A → A → A → A
by_heard Heard.Line on dry refused = on
by_heard Heard.Dry on dry refused = dry
by_heard Heard.Refused on dry refused = refused

-- what `gather` hands back, and what it leaves in the lent slice
pub record Gathering : Type 0 where
  pub gathered : Gathered
  pub holds : List ℕ

abbrev pub sheet : List ℕ → ℕ → Sheet
sheet d at = record { holds = d; at = at }

abbrev pub written : Sheet → Asked → Sheet
written s a = puts s.holds s.at (words_of a.answer a.extractor.stream.consumed.0)

abbrev pub ends : Extractor → Sheet → Ended → Gathering
ends r s e = record { gathered = record { reader = r; used = s.at; ended = e }; holds = s.holds }

-- at most so many requests, each where 80 bytes of the 65,536 are free for its line
unfoldable pub gathers : ℕ → Extractor → List ℕ → Sheet → Gathering
gathers zero r buf s = ends r s Full
gathers (suc n) r buf s =
    pick (leb s.at 65456)
    (by_heard (heard_of (asked_of r buf).answer)
    (gathers n (asked_of r buf).extractor buf (written s (asked_of r buf)))
    (ends (asked_of r buf).extractor s Dry)
    (ends (asked_of r buf).extractor s Refused))
    (ends r s Full)

-- a line has a byte at least, so more requests than bytes are never made
abbrev pub gathered_of : Extractor → List ℕ → List ℕ → Gathering
gathered_of r buf d = gathers 65536 r buf (sheet d 0)

-- the same on a page, and the page then
abbrev pub gathered_on : Extractor → List ℕ → Page → Gathering
gathered_on r buf p = gathers 65536 r buf (sheet p.bytes.now p.end)

abbrev pub page_by : Gathering → Page → Page
page_by g p = record p { bytes = record p.bytes { now = g.holds }; end = g.gathered.used }

-- "END gives position and error count"
abbrev pub end_of : Extractor → List ℕ → Sheet
end_of r d = puts d 0 (pair_line_words end_text r.stream.consumed.0 r.stream.losses.errors)
