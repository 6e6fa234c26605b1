-- The worked instance (specs/Example.antt) meets each obligation, and so demand 3 holds of it.
use Rattle.std.specs.Prelude.{◌≡◌, refl, Bool, true, false, List, [], ◌∷◌, ℕ, zero, suc, ◌+◌, leb, length}
use Rattle.std.proofs.Common.{arith}
use Rattle.machine.specs.Step.{Laws}
use Rattle.machine.specs.Loop.{within, looped}
use Rattle.machine.specs.Scan.{Answer, ran_dry, spoke, request, scan, onward, until_dry}
use Rattle.machine.specs.Ask.{ask, arrived, decide, moved, settle, asking}
use Rattle.machine.proofs.AskLaws.{asking_laws}
use Rattle.machine.specs.History.{Call, history, Takes, Answers, Follows, Opens, Demand3}
use Rattle.machine.proofs.HistoryLaws.{demand3}
use Rattle.machine.specs.Example.{State, Event, question, act, reader, new, Carrier, next_of, push_of, calls, some_wait, view, opening}

-- A run: a record of 2, a loss, a record of 1, and a record that is still arriving.
pub example_run : scan reader new (2 ∷ 7 ∷ 8 ∷ 0 ∷ 1 ∷ 9 ∷ 3 ∷ 4 ∷ [])
    ≡ record {
      events = record { position = 0; bytes = 2 ∷ 7 ∷ 8 ∷ [] } ∷ record { position = 4; bytes = 1 ∷ 9 ∷ [] } ∷ [];
      final = record { position = 6; losses = 1 };
      rest = 3 ∷ 4 ∷ [];
    }
unfolding scan request looped within onward until_dry asking settle moved decide arrived question ask act
example_run = refl

-- OBLIGATION 1, the two laws: `cut` comes with the question; for `less`, every answer eats a byte.
pub reader_laws : Laws reader
unfolding question
reader_laws = asking_laws (λ s. question) act (λ s b. (λ e. omega arith, λ e. omega arith))

-- OBLIGATION 2, the calls follow the machine, and the opening is its beginning.
pub follows : Follows reader view calls
follows = record {
  takes = λ c p f. takes c p (leb (length c.unread + length p) 4096);
  answers = λ c f. answers c c.unanswered (request reader c.state c.unread) refl;
}
  where
    takes : (c : Carrier) (p : List ℕ) (b : Bool) → Takes view c p (push_of c p b)
    takes c p true = record { fits = tt; state = refl; unread = refl; waits = refl }
    takes c p false = refl

    answers : (c : Carrier) (n : ℕ) (a : Answer State Event) → a ≡ request reader c.state c.unread → Answers reader view c (some_wait n) (next_of c n a)
    answers c zero a e = refl
    answers c (suc n) (ran_dry s u) e = (e, tt)
    answers c (suc n) (spoke x s u) e = (e, (tt, refl))

pub opens : Opens reader view new opening
unfolding asking settle decide arrived question ask
opens = record { fits = tt; state = refl; unread = refl; rests = refl }

-- DEMAND 3, of this reader, whatever the calls.
pub example_demand3 : (cs : List Call) → Demand3 reader view new (history calls opening cs)
example_demand3 = demand3 reader reader_laws view calls follows new opening opens
