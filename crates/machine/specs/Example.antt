-- A worked instance, which meets each obligation once: records of a length byte n and n bytes, and a zero byte that is a quiet loss.
-- Its carrier keeps the unread bytes as they are, at most 4,096 of them.
use Rattle.std.specs.Prelude.{Bool, true, false, List, [], ◌++◌, ℕ, zero, suc, ◌+◌, ◌%◌, leb, eqb, length}
use Rattle.laws.specs.Pick.{pick}
use Rattle.machine.specs.Step.{Machine}
use Rattle.machine.specs.Scan.{Answer, ran_dry, spoke, request}
use Rattle.machine.specs.Ask.{Ask, either, ◌>>=◌, peek, eat, Eat, Move, silent, aloud, asking}
use Rattle.machine.specs.History.{Pushed, taken, refused, Asked, dried, told, Calls, View}

-- THE RULES: a question, and what its answer does.
pub record State : Type 0 where
  pub position : ℕ
  pub losses : ℕ

pub record Event : Type 0 where
  pub position : ℕ
  pub bytes : List ℕ

pub data Verdict : Type 0 where
  junk whole : Verdict

unfoldable pub question : Ask (Eat Verdict)
question = do
  n ← peek 0
  either (eqb (n % 256) 0) (eat 1 junk) (eat (suc (n % 256)) whole)

unfoldable pub act : State → Verdict → ℕ → List ℕ → Move State Event
act s junk n bs = silent (record { position = s.position + n; losses = suc s.losses })
act s whole n bs = aloud (record { position = s.position; bytes = bs }) (record { position = s.position + n; losses = s.losses })

abbrev pub reader : Machine State Event
reader = record { step = asking (λ s. question) act; size = λ s u. length u }

abbrev pub new : State
new = record { position = 0; losses = 0 }

-- THE CALLS, as the code's contracts would give them.
pub record Carrier : Type 0 where
  pub state : State
  pub unread : List ℕ
  pub unanswered : ℕ

abbrev pub next_of : Carrier → ℕ → Answer State Event → Asked Carrier Event
next_of c zero a = dried c
next_of c (suc n) (ran_dry s u) = dried (record { state = s; unread = u; unanswered = n })
next_of c (suc n) (spoke e s u) = told e (record { state = s; unread = u; unanswered = suc n })

abbrev pub push_of : Carrier → List ℕ → Bool → Pushed Carrier
push_of c p fits = pick fits (taken (record { state = c.state; unread = c.unread ++ p; unanswered = suc c.unanswered })) (refused c)

abbrev pub calls : Calls Carrier Event
calls = record {
  push = λ c p. push_of c p (leb (length c.unread + length p) 4096);
  next = λ c. next_of c c.unanswered (request reader c.state c.unread);
}

-- The view of a carrier, and the opening.
abbrev pub some_wait : ℕ → Bool
some_wait zero = false
some_wait (suc n) = true

abbrev pub view : View Carrier State
view = record { state = λ c. c.state; unread = λ c. c.unread; waits = λ c. some_wait c.unanswered; Fits = λ c. Unit {0} }

abbrev pub opening : Carrier
opening = record { state = new; unread = []; unanswered = 0 }
