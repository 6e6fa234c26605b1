-- What each way out of a push shows.
use Rattle.std.specs.Prelude.{None, Option, Some, Result, Ok, Err}
use Prim.Native.Nat.{ℕ, ◌+◌, ◌-◌, ◌≤◌, ◌<◌}
use native.Mathlib.Omega.{arith}
use mathlib.Core.Path.{◌≡◌, sym, ap, ◌∙◌}
use mathlib.Core.Bool.{Bool, true, false}
use mathlib.Core.List.{List}
use lib.Dec.{leb}
use lib.ListN.{length}
use borrow.Author.Tests.{le-leb, lt-leb, lt-ltb, le-ltb}
use Rattle.laws.specs.Pick.{pick}
use Rattle.buffer.specs.Calls.{placed_of, afterwards, held_of}
use Rattle.buffer.specs.Laws.{no_room, has_room, starts_at}
use Rattle.extract.specs.declared.Extractor.{Extractor}
use Rattle.extract.specs.declared.Refusal.{Refusal}
use Rattle.extract.specs.declared.Refusal.TheVariants.{Record, Pushes, Total, Room}
use Rattle.extract.specs.Record.{most, fits_of, unread_of}
use Rattle.extract.specs.Fits.{Fits, fits_says, fits_when}
use Rattle.extract.specs.Calls.{push_answer_of, grown, pushed_on, pushed_of, buffer_of}

pub fit_given : (r : Extractor) (n : ℕ) {x : Bool} → x ≡ fits_of r n → x ≡ true → Fits r n
fit_given r n e t = fits_says r n (sym e ∙ t)

-- a push, by the case of its answer
abbrev Outcome : Extractor → List ℕ → List ℕ → Result Extractor Refusal → List ℕ → Type 0
Outcome r buf piece x buf' = (pushed_on r x ≡ pushed_of r (length buf) (length piece)) × (buf' ≡ buffer_of r buf piece)

module _ (r : Extractor) (buf piece : List ℕ) where
  refused : (e : Refusal) → push_answer_of r (length buf) (length piece) ≡ Err e → Outcome r buf piece (Err e) buf
  unfolding pushed_of buffer_of
  refused e h = (rw h, rw h)

  pub push_record : {x : Bool} → x ≡ fits_of r (length buf) → x ≡ false → Outcome r buf piece (Err Record) buf
  unfolding push_answer_of
  push_record e f = refused Record (rw (← e, f))

  module _ (f : Fits r (length buf)) where
    fits : fits_of r (length buf) ≡ true
    fits = fits_when r (length buf) f

    pub push_pushes : 65535 ≤ r.unanswered → Outcome r buf piece (Err Pushes) buf
    unfolding push_answer_of
    push_pushes h = refused Pushes (rw (fits, le-ltb r.unanswered 65535 h))

    module _ (u : r.unanswered < 65535) where
      pub push_total : most - r.accepted < length piece → Outcome r buf piece (Err Total) buf
      unfolding push_answer_of
      push_total h = refused Total (rw (fits, lt-ltb r.unanswered 65535 u, lt-leb (r.accepted + length piece) most (omega arith)))

      module _ (l : length piece ≤ most - r.accepted) where
        tested : (b : Bool) → leb (unread_of r + length piece) (length buf) ≡ b → push_answer_of r (length buf) (length piece) ≡ pick b (Ok tt) (Err Room)
        unfolding push_answer_of
        tested b t = rw (fits, lt-ltb r.unanswered 65535 u, le-leb (r.accepted + length piece) most (omega arith), t)

        module _ {p : Option ℕ} (e : p ≡ placed_of r.start r.end (length buf) (length piece)) {buf' : List ℕ} (h : buf' ≡ held_of r.start r.end buf piece) where
          holds : (a : Option ℕ) → p ≡ a → buf' ≡ afterwards r.start r.end buf piece a
          unfolding held_of
          holds a q = h ∙ ap (afterwards r.start r.end buf piece) (sym e ∙ q)

          -- the unread bytes of a record that fits stand in the buffer, so that no room is number 4
          pub push_room : p ≡ None → Outcome r buf piece (Err Room) buf'
          push_room q = rw (holds None q) (refused Room (tested false (no_room r.start r.end (length buf) (length piece) f.itself.order f.inside e q)))

          pub push_accepted : {at : ℕ} → p ≡ Some at → Outcome r buf piece (Ok (grown r at (length piece))) buf'
          unfolding pushed_of buffer_of
          push_accepted {at} q =
              let t = tested true (has_room r.start r.end (length buf) (length piece) f.itself.order f.inside e q) in
              let s = starts_at r.start r.end (length buf) (length piece) f.itself.order f.inside e q in
              (rw (t, s), holds (Some at) q ∙ rw (t, s))
