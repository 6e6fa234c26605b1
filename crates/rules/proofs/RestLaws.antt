-- "A reader from opening that has just run dry holds at most 8,189 unread bytes": a dry step leaves no more, that many are reached, and a dry
-- step leaves the reader at rest.
use Rattle.std.specs.Prelude.{◌≡◌, refl, Bool, true, false, List, ◌∷◌, ℕ, ◌+◌, ◌-◌, ◌*◌, ◌≤◌, length, drop}
use Rattle.std.proofs.Common.{ap, ◌∙◌, subst, arith, length-drop}
use Rattle.std.proofs.Math.Option.{none}
use Rattle.laws.specs.First.{At}
use Rattle.machine.specs.Step.{Step, dry, quiet, speak, Rests}
use Rattle.machine.specs.Ask.{Upto, ask, decide, Move, silent, aloud, moved, settle}
use Rattle.machine.proofs.AskLaws.{all_map, decide_none, decide_unasked}
use Rattle.machine.proofs.ScanLaws.{RestsAfter, request_dry, request_rests, scan_rests}
use Rattle.machine.proofs.AlwaysLaws.{fresh_always}
use Rattle.crc.specs.declared.Algorithm.{Algorithm}
use Rattle.rules.specs.Search.{candidate_at, find, keep, sync_length, unit_length, candidate}
use Rattle.rules.specs.Request.{unit, arrive, Event, act, search, step_by, reader, new, fresh_scan}
use Rattle.rules.proofs.FindLaws.{found_at}
use Rattle.rules.proofs.VerdictLaws.{Keeps, candidate_all, unit_all}
use Rattle.rules.proofs.StepLaws.{step, step_shows}
use Rattle.rules.proofs.RulesLaws.{reader_laws}
use Rattle.rules.proofs.FitLaws.{sound_lasts, new_sound}
use Rattle.rules.specs.declared.Stream.{Stream}

-- 1. Neither question waits for more than 8,190 bytes.

pub candidate_waits_for_8190 : (a : Algorithm) (u : List ℕ) → decide (candidate a) u ≡ none → length u ≤ 8189
candidate_waits_for_8190 a u e =
    let l = decide_none 8190 (candidate a) u (all_map (Keeps false 0 66) (Upto 8190) 0 (candidate a) (λ r g k. k.within (omega arith)) (candidate_all a 0)) e in omega arith

pub unit_waits_for_8190 : (k : ℕ) → k ≤ 15 → (u : List ℕ) → decide (unit k) u ≡ none → length u ≤ 8189
unit_waits_for_8190 k few u e =
    let l = decide_none 8190 (unit k) u (all_map (Keeps true k (64 + 4 * k)) (Upto 8190) 0 (unit k) (λ r g h. h.within few) (unit_all k)) e in omega arith

-- 2. So a dry step leaves at most 8,189.

abbrev Little : Step Stream Event → Type 0
Little (dry s u) = length u ≤ 8189
Little (quiet s u) = Unit {0}
Little (speak e s u) = Unit {0}

not_dry : (x : Move Stream Event) (w : List ℕ) → Little (moved x w)
unfolding moved
not_dry (silent s) w = tt
not_dry (aloud e s) w = tt

keep_at_most_23 : (seen : Bool) → keep seen ≤ 23
keep_at_most_23 true = omega arith
keep_at_most_23 false = omega arith

step_leaves_little : (s : Stream) (u : List ℕ) → s.substreams ≤ 15 → Little (step s u)
step_leaves_little s u few =
    step_shows Little s u
    (record {
      waits = λ e d. unit_waits_for_8190 s.substreams few u d;
      decides = λ e r g k l d. not_dry _ _;
      misses = λ e f. rw (length-drop (length u - keep s.seen) u) (let k = keep_at_most_23 s.seen in omega arith);
      finds = λ e n f d. candidate_waits_for_8190 s.check (drop n u) d;
      judges = λ e n f r g k l d. not_dry _ _;
    })

pub dry_holds_at_most_8189 : (s s' : Stream) (u u' : List ℕ) → s.substreams ≤ 15 → step_by s.locked s u ≡ dry s' u' → length u' ≤ 8189
dry_holds_at_most_8189 s s' u u' few e = subst Little e (step_leaves_little s u few)

-- The same of a reader at rest.
pub rest_holds_at_most_8189 : (s : Stream) (u : List ℕ) → s.substreams ≤ 15 → Rests reader s u → length u ≤ 8189
rest_holds_at_most_8189 s u few e = dry_holds_at_most_8189 s s u u few e

-- A dry step leaves the reader at rest: it would be dry again, and change nothing.
pub dry_rests : (s s' : Stream) (u u' : List ℕ) → step_by s.locked s u ≡ dry s' u' → Rests reader s' u'
dry_rests s s' u u' e = subst (RestsAfter reader) (request_dry reader reader_laws s s' u u' e) (request_rests reader reader_laws s u)

pub fresh_scan_holds_at_most_8189 : (a : Algorithm) (bytes : List ℕ) → length (fresh_scan a bytes).rest ≤ 8189
fresh_scan_holds_at_most_8189 a bytes =
    rest_holds_at_most_8189 _ _ (fresh_always reader reader_laws _ sound_lasts (new a) (new_sound a) bytes).few (scan_rests reader reader_laws (new a) bytes)

-- 3. 8,189 is reached: a new reader that is given all but the last byte of a candidate of 8,190.

abbrev pub nearly : List ℕ → List ℕ
nearly w = 0x0F ∷ 0xFF ∷ 0x00 ∷ 0x00 ∷ 0xF8 ∷ 0x72 ∷ 0x6F ∷ 0xBB ∷ w

nearly_found : (w : List ℕ) → find (nearly w) ≡ At 0
unfolding candidate_at
nearly_found w = found_at (nearly w) 0 (omega arith) refl (λ i m. absurd (omega arith))

nearly_waits : (a : Algorithm) (w : List ℕ) → length w ≡ 8181 → ask (candidate a) (nearly w) ≡ none
unfolding ask candidate sync_length unit_length
nearly_waits a w l = rw l

pub new_reader_may_hold_8189 : (a : Algorithm) (w : List ℕ) → length w ≡ 8181
    → (step_by false (new a) (nearly w) ≡ dry (arrive 0 (nearly w) (new a)) (nearly w)) × (length (nearly w) ≡ 8189)
unfolding step_by search settle
new_reader_may_hold_8189 a w l = (
  ap (search (new a) (nearly w)) (nearly_found w)
      ∙ ap (settle (act (arrive 0 (nearly w) (new a))) (arrive 0 (nearly w) (new a)) (nearly w)) (decide_unasked (candidate a) (nearly w) (nearly_waits a w l)),
  omega arith,
)
