-- What a report says of a stream: a line for each unit and each spoken error, in order, and a last line: definitions only.
use Rattle.std.specs.Prelude.{ℕ, ◌≡◌, Bool, true, false, List, [], ◌∷◌, ◌++◌, length}
use Rattle.buffer.specs.Calls.{part_of}
use Rattle.machine.specs.History.{taken}
use Rattle.crc.specs.declared.Algorithm.{Algorithm}
use Rattle.rules.specs.Request.{Event, handed, too_short, failed}
use Rattle.history.specs.Held.{Held, push_of, opened_on}
use Rattle.lines.specs.Lines.{bad_text, pair_line_words, unit_words, joined}
use Rattle.lines.specs.Gather.{Gathering, gathered_of}
use Rattle.lines.specs.declared.Ended.{Ended}
use Rattle.lines.specs.declared.Ended.TheVariants.{Dry, Full, Refused}

-- "numbers 5 and 6 print `BAD` with number and position after"
abbrev pub event_words : Event → List (List ℕ)
event_words (handed u) = unit_words u
event_words (too_short actual minimum position) = pair_line_words bad_text 5 position.0
event_words (failed position) = pair_line_words bad_text 6 position.0

abbrev pub line_of : Event → List ℕ
line_of e = joined (event_words e)

-- the lines of some events, one behind the other
abbrev pub text_of : List Event → List ℕ
text_of [] = []
text_of (e ∷ es) = line_of e ++ text_of es

abbrev pub is_dry : Ended → Bool
is_dry Dry = true
is_dry Full = false
is_dry Refused = false

-- A RUN OF A REPORT from opening, with any check setting over any lent buffer: pieces are accepted and lines are gathered in any order. What is
-- noted: the reader, the accepted bytes, the bytes handed on to be written, and whether the last gathering since the last piece ran dry.
pub data Runs (a : Algorithm) (buffer : List ℕ) : Held → List ℕ → List ℕ → Bool → Type 0 where
  opens : Runs a buffer (opened_on a buffer) [] [] false
  accepts : {h h' : Held} {s t : List ℕ} {b : Bool} (p : List ℕ) → push_of h p ≡ taken h' → Runs a buffer h s t b → Runs a buffer h' (s ++ p) t false
  writes : {h : Held} {s t : List ℕ} {b : Bool} (d : List ℕ) → length d ≡ 65536 → (g : Gathering) → g ≡ gathered_of h.extractor h.buffer d → Runs a buffer h s t b
      → Runs a buffer (record { extractor = g.gathered.reader; buffer = h.buffer }) s (t ++ part_of g.holds 0 g.gathered.used) (is_dry g.gathered.ended)
