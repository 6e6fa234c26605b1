-- What else the worked instance shows in every history: where its records stand, and how much it holds.
-- Three more obligations, none of which demand 3 needs.
use Rattle.std.specs.Prelude.{◌≡◌, refl, true, List, [], ◌++◌, ℕ, ◌+◌, ◌≤◌, length, take, drop}
use Rattle.std.proofs.Common.{ap, arith, length-append, length-take-le}
use Rattle.laws.specs.Parts.{part, part_further}
use Rattle.machine.specs.Ask.{goal, moved, asking}
use Rattle.machine.proofs.AskLaws.{settle_cases, settle_dry, decide_none}
use Rattle.machine.specs.History.{Call, history}
use Rattle.machine.specs.Always.{Counts, OnSpeak, Placed, Every}
use Rattle.machine.proofs.AlwaysLaws.{settle_consumes, placed_lasts, numbered_lasts, history_always, dry_bounded}
use Rattle.machine.specs.Example.{State, Event, Verdict, junk, whole, question, act, reader, new, view, calls, opening}
use Rattle.machine.proofs.ExampleLaws.{reader_laws, follows, opens}

-- OBLIGATION 3, the position counts what is consumed.
reader_counts : Counts reader (λ s. s.position)
unfolding asking act
reader_counts s = settle_consumes (λ x. x.position) (act s) s question counted
  where
    counted : (w : Verdict) (n : ℕ) (bs : List ℕ) → (goal (act s w n bs)).position ≡ s.position + n
    counted junk n bs = refl
    counted whole n bs = refl

-- OBLIGATION 4, what a step speaks: every record handed out is the accepted bytes at its position.
pub record Stands (a : List ℕ) (e : Event) : Type 0 where
  pub inside : e.position + length e.bytes ≤ length a
  pub bytes : e.bytes ≡ part a e.position (length e.bytes)

pub example_records : (cs : List Call) → Every (Stands (history calls opening cs).accepted) (history calls opening cs).out
unfolding asking moved act
example_records cs = (history_always reader reader_laws _ (numbered_lasts reader _ (placed_lasts reader (λ s. s.position) reader_counts) (λ a k. Stands a) shows stay) new begins view calls follows opening opens cs).1
  where
    begins : Placed (λ s. s.position) [] new [] × Every (Stands []) []
    begins = (record { unread = refl; total = refl }, tt)

    shows : (a : List ℕ) (es : List Event) (s : State) (u : List ℕ) → Placed (λ x. x.position) a s u → OnSpeak (λ e s' u'. Stands a e) (asking (λ x. question) act s u)
    shows a es s u h = settle_cases (act s) s question (OnSpeak (λ e s' u'. Stands a e)) u tt (λ g l. spoken g.answer g.eaten l)
      where
        spoken : (w : Verdict) (n : ℕ) → n ≤ length u → OnSpeak (λ e s' u'. Stands a e) (moved (act s w n (take n u)) (drop n u))
        spoken junk n l = tt
        spoken whole n l = record { inside = rw (length-take-le n u l) (let t = h.total in omega arith); bytes = rw (length-take-le n u l) (ap (take n) h.unread) }

    stay : (a p : List ℕ) (k : ℕ) (e : Event) → Stands a e → Stands (a ++ p) e
    stay a p k e h = record { inside = rw (length-append a p) (let i = h.inside in omega arith); bytes = rw (part_further a e.position (length e.bytes) h.inside p) h.bytes }

-- OBLIGATION 5, what a machine at rest holds: its question waits for 256 bytes at most.
pub example_holds_little : (cs : List Call) → (history calls opening cs).idle ≡ true → length (history calls opening cs).now.unread ≤ 255
unfolding asking question
example_holds_little =
    dry_bounded reader reader_laws _ (placed_lasts reader (λ s. s.position) reader_counts) new (record { unread = refl; total = refl }) view calls follows opening opens 255
    (λ a es s u h d. let l = decide_none 256 question u (λ b. (λ e. omega arith, λ e. omega arith)) (settle_dry (act s) s question s u u d).0 in omega arith)
