-- THE REPORT IS THE FRESH SCAN'S: however a stream is cut into pieces and whenever lines are gathered, the bytes handed on to be written are the lines
-- of a fresh scan's units and spoken errors, each whole, none left out, in order; and the last line has its position and its error count.
use Prim.Native.Nat.{ℕ, zero, suc, ◌+◌, ◌^◌, ◌≤◌, ◌<◌}
use Rattle.std.proofs.Common.{arith, ap₂, ◌∙◌}
use Rattle.std.specs.Prelude.{◌≡◌, Bool, leb, eqb, Result, Ok, Err}
use Rattle.std.proofs.Math.Path.{refl, sym, ap, subst}
use Rattle.std.proofs.Math.Bool.{true, false}
use Rattle.std.proofs.lemmas.Bool.{false≢true}
use mathlib.Core.List.{List, [], ◌∷◌, ◌++◌, append_assoc, append-nil}
use Rattle.std.proofs.Math.ListN.{length, take}
use Rattle.std.proofs.Math.Seq.{take-paste, take-length}
use borrow.Author.Tests.{leb-true, leb-false, le-leb}
use Rattle.buffer.specs.Calls.{part_of}
use Rattle.laws.specs.Pick.{pick}
use Rattle.machine.specs.Scan as Scan
use Rattle.machine.specs.Always.{Numbered, Every}
use Rattle.machine.proofs.AlwaysLaws.{history_always}
use Rattle.machine.specs.History.{Call, piece, ask, dried, told, taken, Log, opened, after_push, after_next, turn, play, Begins}
use Rattle.machine.proofs.HistoryLaws.{play_append}
use Rattle.crc.specs.declared.Algorithm.{Algorithm}
use Rattle.rules.specs.declared.Stream.{Stream}
use Rattle.rules.specs.Request.{Event, handed, too_short, failed, reader, new, fresh_scan}
use Rattle.rules.proofs.RulesLaws.{reader_laws}
use Rattle.rules.specs.Units.{IfUnit}
use Rattle.rules.specs.States.{Passed}
use Rattle.rules.proofs.HandedLaws.{units_apart, new_stands}
use Rattle.extract.specs.declared.Extractor.{Extractor}
use Rattle.extract.specs.declared.Asked.{Asked as Answered}
use Rattle.extract.specs.declared.Answer.{Answer}
use Rattle.extract.specs.declared.Answer.TheVariants.{Unit as AUnit, InvalidAccessUnitLength, ParityCheckFailed, InsufficientData, Quiet}
use Rattle.extract.specs.declared.Refusal.{Refusal}
use Rattle.extract.specs.Record.{fits_of, unread}
use Rattle.extract.specs.Fits.{Itself, Fits}
use Rattle.extract.specs.Calls.{answer_of, answered_of, asked_of}
use Rattle.history.specs.Held.{Held, tell_of, next_of, push_of, calls, opened_on, view}
use Rattle.history.specs.HeldLaws.{follows, opens as opens-right}
use Rattle.history.specs.Promises.{log, always_fits, never_number_1, units_so_far, all_units, same_state}
use Rattle.text.specs.Put.{put_of}
use Rattle.text.specs.PutLaws.{put_room}
use Rattle.lines.specs.Lines.{bad_text, end_text, pair_line_words, unit_line, end_line, joined, Sheet, puts}
use Rattle.lines.specs.Gather.{words_of, heard_of, by_heard, Gathering, sheet, written, ends, gathers, gathered_of, end_of}
use Rattle.lines.specs.LineLaws.{length_put, puts_whole, unit_short, pair_short, end_whole}
use Rattle.lines.specs.Report.{event_words, line_of, text_of, is_dry, Runs, opens, accepts, writes}
use Rattle.lines.specs.declared.Heard.{Heard}
use Rattle.lines.specs.declared.Ended.{Ended}
use Rattle.lines.specs.declared.Ended.TheVariants.{Dry, Full, Refused}

-- 1. A line of an event has room, and one byte at least.

-- the numbers that an event's line has are numbers of 64 bits
abbrev Small : Event → Type 0
Small (handed u) = (u.index < 2 ^ 64) × ((u.position.0 < 2 ^ 64) × (u.length < 2 ^ 64))
Small (too_short actual minimum position) = position.0 < 2 ^ 64
Small (failed position) = position.0 < 2 ^ 64

line_short : (e : Event) → Small e → length (line_of e) ≤ 75
unfolding unit_line
line_short (handed u) s = unit_short u s.0 s.1.0 s.1.1
line_short (too_short actual minimum position) s = let l : length (joined (pair_line_words bad_text 5 position.0)) ≤ 46 = pair_short bad_text 5 position.0 (omega arith) (omega arith) s in omega arith
line_short (failed position) s = let l : length (joined (pair_line_words bad_text 6 position.0)) ≤ 46 = pair_short bad_text 6 position.0 (omega arith) (omega arith) s in omega arith

line_starts : (e : Event) → 1 ≤ length (line_of e)
line_starts (handed u) = omega arith
line_starts (too_short actual minimum position) = omega arith
line_starts (failed position) = omega arith

text_joins : (es fs : List Event) → text_of (es ++ fs) ≡ text_of es ++ text_of fs
text_joins [] fs = refl
text_joins (e ∷ es) fs = ap (λ (t : List ℕ). line_of e ++ t) (text_joins es fs) ∙ sym (append_assoc (line_of e) (text_of es) (text_of fs))

-- the part that is handed on
part_taken : (d : List ℕ) (n : ℕ) → n ≤ length d → part_of d 0 n ≡ take n d
unfolding part_of
part_taken d n h = rw (le-leb (0 + n) (length d) (omega arith))

-- the last line, put at the front of the slice
end_taken : (d : List ℕ) (position errors : ℕ) → position < 2 ^ 64 → errors < 2 ^ 64 → length d ≡ 65536
    → part_of (puts d 0 (pair_line_words end_text position errors)).holds 0 (puts d 0 (pair_line_words end_text position errors)).at ≡ end_line position errors
unfolding end_line
end_taken d position errors p e len =
    let w = end_line position errors in
    let short : length w ≤ 46 = pair_short end_text position errors (omega arith) p e in
    ap (λ (k : Sheet). part_of k.holds 0 k.at) (end_whole d 0 (omega arith) position errors p e)
    ∙ part_taken (put_of d 0 w) (0 + length w) (let l : length (put_of d 0 w) ≡ length d = length_put d 0 w (omega arith) in omega arith)
    ∙ ap (take (0 + length w)) (sym (put_room d w 0 (omega arith))) ∙ take-paste d 0 w (length w) (omega arith) (omega arith) ∙ take-length w

-- 2. What is told of an answer, by how it is heard.

-- a line is an event's line
record Line (ans : Result Answer Refusal) (h : Held) : Type 0 where
  event : Event
  tells : tell_of ans h ≡ told event h
  words : words_of ans h.extractor.stream.consumed.0 ≡ event_words event

abbrev is_line : Heard → Bool
is_line Heard.Line = true
is_line Heard.Dry = false
is_line Heard.Refused = false

abbrev is_refused : Heard → Bool
is_refused Heard.Line = false
is_refused Heard.Dry = false
is_refused Heard.Refused = true

heard_line : (ans : Result Answer Refusal) (h : Held) → heard_of ans ≡ Heard.Line → Line ans h
heard_line (Ok (AUnit u start)) h e = record { event = handed u; tells = refl; words = refl }
heard_line (Ok (InvalidAccessUnitLength n m)) h e = record { event = too_short n m h.extractor.stream.consumed; tells = refl; words = refl }
heard_line (Ok ParityCheckFailed) h e = record { event = failed h.extractor.stream.consumed; tells = refl; words = refl }
heard_line (Ok InsufficientData) h e = absurd (false≢true (ap is_line e))
heard_line (Ok Quiet) h e = absurd (false≢true (ap is_line e))
heard_line (Err r) h e = absurd (false≢true (ap is_line e))

-- a dry answer, and number 1, tell nothing
tells_nothing : (ans : Result Answer Refusal) (h : Held) → is_line (heard_of ans) ≡ false → tell_of ans h ≡ dried h
tells_nothing (Ok (AUnit u start)) h e = absurd (false≢true (sym e))
tells_nothing (Ok (InvalidAccessUnitLength n m)) h e = absurd (false≢true (sym e))
tells_nothing (Ok ParityCheckFailed) h e = absurd (false≢true (sym e))
tells_nothing (Ok InsufficientData) h e = refl
tells_nothing (Ok Quiet) h e = refl
tells_nothing (Err r) h e = refl

-- number 1 is not given where the record fits
dry_not_refused : (b : Bool) → is_refused (heard_of (Ok (pick b InsufficientData Quiet))) ≡ false
dry_not_refused true = refl
dry_not_refused false = refl

spoken_not_refused : (at : ℕ) (e : Event) → is_refused (heard_of (Ok (answer_of at e))) ≡ false
spoken_not_refused at (handed u) = refl
spoken_not_refused at (too_short n m p) = refl
spoken_not_refused at (failed p) = refl

answered_not_refused : (r : Extractor) (x : Scan.Answer Stream Event) → is_refused (heard_of (answered_of r x).answer) ≡ false
unfolding answered_of
answered_not_refused r (Scan.ran_dry s u) = dry_not_refused s.locked
answered_not_refused r (Scan.spoke e s u) = spoken_not_refused _ e

waits_not_refused : (r : Extractor) (b : Bool) (x : Scan.Answer Stream Event) → is_refused (heard_of (pick b (record { extractor = r; answer = Ok Quiet }) (answered_of r x)).answer) ≡ false
waits_not_refused r true x = refl
waits_not_refused r false x = answered_not_refused r x

fits_not_refused : (r : Extractor) (buf : List ℕ) → fits_of r (length buf) ≡ true → is_refused (heard_of (asked_of r buf).answer) ≡ false
unfolding asked_of
fits_not_refused r buf f = rw f (waits_not_refused r (eqb r.unanswered 0) (Scan.request reader r.stream (unread r buf)))

-- 3. One request of a history.

-- the numbers of an event that a fitting reader has passed
small_line : (ans : Result Answer Refusal) (h : Held) (z : heard_of ans ≡ Heard.Line) → IfUnit (Passed h.extractor.stream) (heard_line ans h z).event → Itself h.extractor
    → Small (heard_line ans h z).event
unfolding heard_line
small_line (Ok (AUnit u start)) h z p f =
    let i = p.1 in
    let j = p.0 in
    let c = f.counted in
    let d = f.adds in
    let t = f.total in
    let x : u.index < 18446744073709551616 = omega arith in
    let y : u.position.0 < 18446744073709551616 = omega arith in
    let w : u.length < 18446744073709551616 = omega arith in
    (x, (y, w))
small_line (Ok (InvalidAccessUnitLength n m)) h z p f =
    let d = f.adds in let t = f.total in let y : h.extractor.stream.consumed.0 < 18446744073709551616 = omega arith in y
small_line (Ok ParityCheckFailed) h z p f = let d = f.adds in let t = f.total in let y : h.extractor.stream.consumed.0 < 18446744073709551616 = omega arith in y
small_line (Ok InsufficientData) h z p f = absurd (false≢true (ap is_line z))
small_line (Ok Quiet) h z p f = absurd (false≢true (ap is_line z))
small_line (Err r) h z p f = absurd (false≢true (ap is_line z))

last_of : (P : Event → Type 0) (k : ℕ) (es : List Event) (e : Event) → Numbered (λ j. P) k (es ++ (e ∷ [])) → P e
last_of P k [] e h = h.0
last_of P k (x ∷ es) e h = last_of P (suc k) es e h.1

module _ (a : Algorithm) (buffer : List ℕ) (low : 8192 ≤ length buffer) (high : length buffer ≤ 1048576) where
  -- the log of some calls from opening
  abbrev after : List Call → Log Held Event
  after cs = log a buffer low high cs

  once_more : (cs : List Call) → after (cs ++ (ask ∷ [])) ≡ turn calls (after cs) ask
  unfolding play
  once_more cs = play_append calls (opened (opened_on a buffer)) cs (ask ∷ [])

  -- a history has passed every unit that it handed out
  passed_all : (cs : List Call) → Every (IfUnit (Passed (after cs).now.extractor.stream)) (after cs).out
  passed_all cs =
      (history_always reader reader_laws _ units_apart (new a) (new_stands a, tt, tt) view calls follows (opened_on a buffer) (opens-right a buffer low high) cs).1

  module _ (cs : List Call) where
    abbrev buf : List ℕ
    buf = (after cs).now.buffer

    abbrev x : Answered
    x = asked_of (after cs).now.extractor buf

    abbrev next : Held
    next = record { extractor = x.extractor; buffer = buf }

    abbrev on : List Call
    on = cs ++ (ask ∷ [])

    module _ (z : heard_of x.answer ≡ Heard.Line) where
      abbrev event : Event
      event = (heard_line x.answer next z).event

      told_on : after on ≡ after_next (after cs) (told event next)
      unfolding turn next_of
      told_on = once_more cs ∙ ap (after_next (after cs)) (heard_line x.answer next z).tells

      event_passed : IfUnit (Passed next.extractor.stream) event
      unfolding after_next
      event_passed =
          last_of (IfUnit (Passed next.extractor.stream)) 0 (after cs).out event
          (subst (λ (m : Log Held Event). Every (IfUnit (Passed m.now.extractor.stream)) m.out) told_on (passed_all on))

      next_fits : Fits next.extractor (length next.buffer)
      unfolding after_next
      next_fits = subst (λ (m : Log Held Event). Fits m.now.extractor (length m.now.buffer)) told_on (always_fits a buffer low high on)

      event_small : Small event
      event_small = small_line x.answer next z event_passed next_fits.itself

    dry_on : is_line (heard_of x.answer) ≡ false → after on ≡ after_next (after cs) (dried next)
    unfolding turn next_of
    dry_on z = once_more cs ∙ ap (after_next (after cs)) (tells_nothing x.answer next z)

-- 4. A gathering: the requests of a history, and their lines.

abbrev is_full : Ended → Bool
is_full Dry = false
is_full Full = true
is_full Refused = false

abbrev is_bad : Ended → Bool
is_bad Dry = false
is_bad Full = false
is_bad Refused = true

module _ (a : Algorithm) (buffer : List ℕ) (low : 8192 ≤ length buffer) (high : length buffer ≤ 1048576) where
  -- The gathering g, begun after the calls cs with `at` bytes of d in use, stands where some further requests stand, and its lines are theirs.
  pub record Says (cs : List Call) (d : List ℕ) (at : ℕ) (g : Gathering) : Type 0 where
    pub later : List Call
    pub more : List Event
    pub reader_is : g.gathered.reader ≡ (after a buffer low high later).now.extractor
    pub same_buffer : (after a buffer low high later).now.buffer ≡ (after a buffer low high cs).now.buffer
    pub same_bytes : (after a buffer low high later).accepted ≡ (after a buffer low high cs).accepted
    pub tells : (after a buffer low high later).out ≡ (after a buffer low high cs).out ++ more
    pub text : take g.gathered.used g.holds ≡ take at d ++ text_of more
    -- it is dry only where a request ran dry, full only where no line has room, and number 1 is never given
    pub dry : is_dry g.gathered.ended ≡ true → (after a buffer low high later).idle ≡ true
    pub full : is_full g.gathered.ended ≡ true → 65456 < g.gathered.used
    pub fits : is_bad g.gathered.ended ≡ false
    -- the lines stand in the slice, which is as long as it was
    pub inside : g.gathered.used ≤ 65536
    pub long : length g.holds ≡ 65536

  -- nothing was asked
  stays : (cs : List Call) (d : List ℕ) (at : ℕ) → length d ≡ 65536 → at ≤ 65536 → 65456 < at → Says cs d at (ends (after a buffer low high cs).now.extractor (sheet d at) Full)
  stays cs d at len room h = record {
    later = cs;
    more = [];
    reader_is = refl;
    same_buffer = refl;
    same_bytes = refl;
    tells = sym (append-nil _);
    text = sym (append-nil _);
    dry = λ e. absurd (false≢true e);
    full = λ e. h;
    fits = refl;
    inside = room;
    long = len;
  }

  -- a request ran dry
  dries : (cs : List Call) (d : List ℕ) (at : ℕ) → length d ≡ 65536 → at ≤ 65536 → is_line (heard_of (x a buffer low high cs).answer) ≡ false
      → Says cs d at (ends (x a buffer low high cs).extractor (sheet d at) Dry)
  unfolding after_next
  dries cs d at len room z =
      let e = dry_on a buffer low high cs z in
      record {
        later = on a buffer low high cs;
        more = [];
        reader_is = ap (λ (m : Log Held Event). m.now.extractor) (sym e);
        same_buffer = ap (λ (m : Log Held Event). m.now.buffer) e;
        same_bytes = ap (λ (m : Log Held Event). m.accepted) e;
        tells = ap (λ (m : Log Held Event). m.out) e ∙ sym (append-nil _);
        text = sym (append-nil _);
        dry = λ i. ap (λ (m : Log Held Event). m.idle) e;
        full = λ i. absurd (false≢true i);
        fits = refl;
        inside = room;
        long = len;
      }

  -- a line was put, and the rest is said after it
  goes_on : (cs : List Call) (d : List ℕ) (at : ℕ) (z : heard_of (x a buffer low high cs).answer ≡ Heard.Line) → length d ≡ 65536 → at ≤ 65456 → (g : Gathering)
      → Says (on a buffer low high cs) (put_of d at (line_of (event a buffer low high cs z))) (at + length (line_of (event a buffer low high cs z))) g → Says cs d at g
  unfolding after_next
  goes_on cs d at z len room g s =
      let e = told_on a buffer low high cs z in
      let w = line_of (event a buffer low high cs z) in
      let short : length w ≤ 75 = line_short (event a buffer low high cs z) (event_small a buffer low high cs z) in
      let there : take (at + length w) (put_of d at w) ≡ take at d ++ w =
      ap (take (at + length w)) (sym (put_room d w at (omega arith))) ∙ take-paste d at w (length w) (omega arith) (omega arith) ∙ ap (λ (v : List ℕ). take at d ++ v) (take-length w) in
      record {
        later = s.later;
        more = event a buffer low high cs z ∷ s.more;
        reader_is = s.reader_is;
        same_buffer = s.same_buffer ∙ ap (λ (m : Log Held Event). m.now.buffer) e;
        same_bytes = s.same_bytes ∙ ap (λ (m : Log Held Event). m.accepted) e;
        tells = s.tells ∙ ap (λ (m : Log Held Event). m.out ++ s.more) e ∙ append_assoc (after a buffer low high cs).out (event a buffer low high cs z ∷ []) s.more;
        text = s.text ∙ ap (λ (v : List ℕ). v ++ text_of s.more) there ∙ append_assoc (take at d) w (text_of s.more);
        dry = s.dry;
        full = s.full;
        fits = s.fits;
        inside = s.inside;
        long = s.long;
      }

  -- what is written of a line is the line
  line_written : (cs : List Call) (d : List ℕ) (at : ℕ) (z : heard_of (x a buffer low high cs).answer ≡ Heard.Line) → length d ≡ 65536 → at ≤ 65456
      → written (sheet d at) (x a buffer low high cs)
      ≡ sheet (put_of d at (line_of (event a buffer low high cs z))) (at + length (line_of (event a buffer low high cs z)))
  line_written cs d at z len room =
      let short : length (line_of (event a buffer low high cs z)) ≤ 75 = line_short (event a buffer low high cs z) (event_small a buffer low high cs z) in
      ap (puts d at) (heard_line (x a buffer low high cs).answer (next a buffer low high cs) z).words
      ∙ puts_whole (event_words (event a buffer low high cs z)) d at (omega arith)

  -- one turn, by whether a line has room and by how the answer is heard
  turns : (n : ℕ) (cs : List Call) (d : List ℕ) (at : ℕ) → length d ≡ 65536 → at ≤ 65536 → 65456 < at + suc n
      → ((cs' : List Call) (d' : List ℕ) (at' : ℕ) → length d' ≡ 65536 → at' ≤ 65536 → 65456 < at' + n
      → Says cs' d' at' (gathers n (after a buffer low high cs').now.extractor (after a buffer low high cs').now.buffer (sheet d' at')))
      → (b : Bool) → leb at 65456 ≡ b → (h : Heard) → heard_of (x a buffer low high cs).answer ≡ h
      → Says cs d at
      (pick b
      (by_heard h
      (gathers n (x a buffer low high cs).extractor (buf a buffer low high cs) (written (sheet d at) (x a buffer low high cs)))
      (ends (x a buffer low high cs).extractor (sheet d at) Dry)
      (ends (x a buffer low high cs).extractor (sheet d at) Refused))
      (ends (after a buffer low high cs).now.extractor (sheet d at) Full))
  unfolding after_next
  turns n cs d at len within enough rest false e h z = stays cs d at len within (leb-false at 65456 e)
  turns n cs d at len within enough rest true e Heard.Line z =
      let w = line_of (event a buffer low high cs z) in
      let room : at ≤ 65456 = leb-true at 65456 e in
      let short : length w ≤ 75 = line_short (event a buffer low high cs z) (event_small a buffer low high cs z) in
      let starts : 1 ≤ length w = line_starts (event a buffer low high cs z) in
      let same : gathers n (x a buffer low high cs).extractor (buf a buffer low high cs) (written (sheet d at) (x a buffer low high cs))
      ≡ gathers n (after a buffer low high (on a buffer low high cs)).now.extractor (after a buffer low high (on a buffer low high cs)).now.buffer (sheet (put_of d at w) (at + length w)) =
      ap (gathers n (x a buffer low high cs).extractor (buf a buffer low high cs)) (line_written cs d at z len room)
      ∙ ap (λ (m : Log Held Event). gathers n m.now.extractor m.now.buffer (sheet (put_of d at w) (at + length w))) (sym (told_on a buffer low high cs z)) in
      goes_on cs d at z len room _
      (subst (Says (on a buffer low high cs) (put_of d at w) (at + length w)) (sym same)
      (rest (on a buffer low high cs) (put_of d at w) (at + length w) (length_put d at w (omega arith) ∙ len) (omega arith) (omega arith)))
  turns n cs d at len within enough rest true e Heard.Dry z = dries cs d at len within (ap is_line z)
  turns n cs d at len within enough rest true e Heard.Refused z =
      absurd (false≢true (sym (fits_not_refused (after a buffer low high cs).now.extractor (buf a buffer low high cs) (never_number_1 a buffer low high cs)) ∙ ap is_refused z))

  gathers_says : (n : ℕ) (cs : List Call) (d : List ℕ) (at : ℕ) → length d ≡ 65536 → at ≤ 65536 → 65456 < at + n
      → Says cs d at (gathers n (after a buffer low high cs).now.extractor (after a buffer low high cs).now.buffer (sheet d at))
  unfolding gathers
  gathers_says zero cs d at len within enough = stays cs d at len within (omega arith)
  gathers_says (suc n) cs d at len within enough =
      turns n cs d at len within enough (gathers_says n) (leb at 65456) refl (heard_of (x a buffer low high cs).answer) refl

  -- A GATHERING, after any calls: its lines are those of what its requests handed out
  pub gathered_says : (cs : List Call) (d : List ℕ) → length d ≡ 65536
      → Says cs d 0 (gathered_of (after a buffer low high cs).now.extractor (after a buffer low high cs).now.buffer d)
  gathered_says cs d len = gathers_says 65536 cs d 0 len (omega arith) (omega arith)

  -- 5. A run of the report is a history.

  abbrev held : Extractor → List ℕ → Held
  held r m = record { extractor = r; buffer = m }

  record Logged (h : Held) (s t : List ℕ) (b : Bool) : Type 0 where
    made : List Call
    stands : (after a buffer low high made).now ≡ h
    bytes : (after a buffer low high made).accepted ≡ s
    text : t ≡ text_of (after a buffer low high made).out
    dry : b ≡ true → (after a buffer low high made).idle ≡ true

  accepted_on : {h h' : Held} {s t : List ℕ} {b : Bool} (p : List ℕ) → push_of h p ≡ taken h' → Logged h s t b → Logged h' (s ++ p) t false
  unfolding play turn after_push
  accepted_on {h} {h'} p e l =
      let w : after a buffer low high (l.made ++ (piece p ∷ [])) ≡ after_push (after a buffer low high l.made) p (taken h') =
      play_append calls (opened (opened_on a buffer)) l.made (piece p ∷ []) ∙ ap (after_push (after a buffer low high l.made) p) (ap (λ (k : Held). push_of k p) l.stands ∙ e) in
      record {
        made = l.made ++ (piece p ∷ []);
        stands = ap (λ (m : Log Held Event). m.now) w;
        bytes = ap (λ (m : Log Held Event). m.accepted) w ∙ ap (λ (s : List ℕ). s ++ p) l.bytes;
        text = l.text ∙ ap (λ (m : Log Held Event). text_of m.out) (sym w);
        dry = λ i. absurd (false≢true i);
      }

  written_on : {h : Held} {s t : List ℕ} {b : Bool} (d : List ℕ) → length d ≡ 65536 → (g : Gathering) → g ≡ gathered_of h.extractor h.buffer d → Logged h s t b
      → Logged (record { extractor = g.gathered.reader; buffer = h.buffer }) s (t ++ part_of g.holds 0 g.gathered.used) (is_dry g.gathered.ended)
  written_on {h} {s} {t} {b} d len g e l =
      let k : Says l.made d 0 g =
      subst (Says l.made d 0) (ap (λ (c : Held). gathered_of c.extractor c.buffer d) l.stands ∙ sym e) (gathered_says l.made d len) in
      record {
        made = k.later;
        stands =
            ap₂ (λ (r : Extractor) (m : List ℕ). held r m) (sym k.reader_is) (k.same_buffer ∙ ap (λ (c : Held). c.buffer) l.stands);
        bytes = k.same_bytes ∙ l.bytes;
        text = ap₂ (λ (u v : List ℕ). u ++ v) l.text (part_taken g.holds g.gathered.used (let i = k.inside in let j = k.long in omega arith) ∙ k.text) ∙ sym (text_joins (after a buffer low high l.made).out k.more) ∙ ap text_of (sym k.tells);
        dry = k.dry;
      }

  logged : {h : Held} {s t : List ℕ} {b : Bool} → Runs a buffer h s t b → Logged h s t b
  unfolding play
  logged opens = record { made = []; stands = refl; bytes = refl; text = refl; dry = λ i. absurd (false≢true i) }
  logged (accepts p e run) = accepted_on p e (logged run)
  logged (writes d len g e run) = written_on d len g e (logged run)

  -- 6. THE PROMISES OF THE REPORT

  module _ {h : Held} {s t : List ℕ} {b : Bool} (run : Runs a buffer h s t b) where
    -- The bytes handed on so far begin the text of a fresh scan of all accepted bytes: a line that was written is never taken back.
    pub report_so_far : Begins t (text_of (fresh_scan a s).events)
    report_so_far =
        let l = logged run in
        let m = units_so_far a buffer low high l.made in
        record {
          more = text_of m.more;
          joined =
              ap (λ (v : List ℕ). text_of (fresh_scan a v).events) (sym l.bytes) ∙ ap text_of m.joined ∙ text_joins (after a buffer low high l.made).out m.more
              ∙ ap (λ (v : List ℕ). v ++ text_of m.more) (sym l.text);
        }

    module _ (dry : b ≡ true) where
      -- Once the gathering ran dry they are all of it: a line for every unit and for every spoken error, whole and in order, and no other byte.
      pub report_says_all : t ≡ text_of (fresh_scan a s).events
      report_says_all =
          let l = logged run in
          l.text ∙ ap text_of (sym (all_units a buffer low high l.made (l.dry dry))) ∙ ap (λ (v : List ℕ). text_of (fresh_scan a v).events) l.bytes

      final_is : h.extractor.stream ≡ (fresh_scan a s).final
      final_is =
          let l = logged run in
          ap (λ (k : Held). k.extractor.stream) (sym l.stands) ∙ sym (same_state a buffer low high l.made (l.dry dry)) ∙ ap (λ (v : List ℕ). (fresh_scan a v).final) l.bytes

      -- "END gives position and error count": the fresh scan's, quiet losses counted
      pub report_ends : (d : List ℕ) → length d ≡ 65536
          → part_of (end_of h.extractor d).holds 0 (end_of h.extractor d).at ≡ end_line (fresh_scan a s).final.consumed.0 (fresh_scan a s).final.losses.errors
      report_ends d len =
          let l = logged run in
          let f = subst (λ (k : Held). Fits k.extractor (length k.buffer)) l.stands (always_fits a buffer low high l.made) in
          let c = f.itself.counted in
          let g = f.itself.adds in
          let m = f.itself.total in
          let y : h.extractor.stream.consumed.0 < 18446744073709551616 = omega arith in
          let z : h.extractor.stream.losses.errors < 18446744073709551616 = omega arith in
          let w = end_line h.extractor.stream.consumed.0 h.extractor.stream.losses.errors in
          end_taken d h.extractor.stream.consumed.0 h.extractor.stream.losses.errors y z len
          ∙ ap (λ (v : Stream). end_line v.consumed.0 v.losses.errors) final_is

-- ANY CUTTING, THE SAME REPORT: over any two buffers, fed the same bytes in any two ways.
pub same_report : (a : Algorithm) (b₁ b₂ : List ℕ) → 8192 ≤ length b₁ → length b₁ ≤ 1048576 → 8192 ≤ length b₂ → length b₂ ≤ 1048576 → {h₁ h₂ : Held} {s t₁ t₂ : List ℕ}
    → Runs a b₁ h₁ s t₁ true → Runs a b₂ h₂ s t₂ true → t₁ ≡ t₂
same_report a b₁ b₂ low₁ high₁ low₂ high₂ r q = report_says_all a b₁ low₁ high₁ r refl ∙ sym (report_says_all a b₂ low₂ high₂ q refl)
