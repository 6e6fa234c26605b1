-- Laws of histories: demand 3 over any machine that keeps the two laws, any calls that follow it, any order of pieces and requests.
-- One induction over the calls (`history_keeps`) carries all of them.
use Rattle.std.specs.Prelude.{◌≡◌, Bool, false}
use Rattle.std.proofs.Math.Path.{refl, ap, subst}
use Rattle.std.proofs.Common.{sym, ◌∙◌, not-suc-le-zero, arith}
use Rattle.std.proofs.Math.Bool.{true}
use Rattle.std.proofs.lemmas.Bool.{false≢true}
use mathlib.Core.List.{List, [], ◌∷◌, ◌++◌, append_assoc, append-nil}
use Prim.Native.Nat.{ℕ, zero, suc, ◌+◌, ◌≤◌, ◌<◌}
use Rattle.std.proofs.Math.ListN.{length, length-append}
use Rattle.machine.specs.Step.{Machine, Laws, Rests}
use Rattle.machine.specs.Scan.{Answer, ran_dry, spoke, request, before, scan}
use Rattle.machine.proofs.ScanLaws.{RestsAfter, LessAfter, answered, request_dry, request_rests, request_less, request_keeps, scan_rested, scan_bounded}
use Rattle.machine.specs.History.{Pushed, taken, refused, Asked, dried, told, Calls, Call, piece, ask, Log, opened, after_push, after_next, turn, play, history, View, Takes, heard, Stays, Answers, Follows, Opens, requests, Begins, shown, size_now, RestsNow, Demand3}

-- 1. What was handed out stays.

module _ {A : Type 0} where
  pub begins_refl : (xs : List A) → Begins xs xs
  begins_refl xs = record { more = []; joined = sym (append-nil xs) }

  pub begins_trans : (xs ys zs : List A) → Begins xs ys → Begins ys zs → Begins xs zs
  begins_trans xs ys zs p q =
      record { more = p.more ++ q.more; joined = q.joined ∙ ap (λ x. x ++ q.more) p.joined ∙ append_assoc xs p.more q.more }

  begins_length : (xs ys : List A) → Begins xs ys → length xs ≤ length ys
  begins_length xs ys b = rw (b.joined, length-append xs b.more) (omega arith)

module _ {C E : Type 0} (r : Calls C E) where
  -- A further piece, accepted or refused, alters nothing that was handed out.
  pub piece_alters_nothing : (l : Log C E) (p : List ℕ) → (turn r l (piece p)).out ≡ l.out
  unfolding turn after_push
  piece_alters_nothing l p = go (r.push l.now p)
    where
      go : (x : Pushed C) → (after_push l p x).out ≡ l.out
      go (taken c) = refl
      go (refused c) = refl

  out_turn : (l : Log C E) (c : Call) → Begins l.out (turn r l c).out
  unfolding turn after_next
  out_turn l (piece p) = rw (piece_alters_nothing l p) (begins_refl l.out)
  out_turn l ask = go (r.next l.now)
    where
      go : (x : Asked C E) → Begins l.out (after_next l x).out
      go (dried c) = begins_refl l.out
      go (told e c) = record { more = e ∷ []; joined = refl }

  -- Whatever calls follow, what was handed out stays at the beginning.
  pub out_only_grows : (l : Log C E) (cs : List Call) → Begins l.out (play r l cs).out
  unfolding play
  out_only_grows l [] = begins_refl l.out
  out_only_grows l (c ∷ cs) = begins_trans _ _ _ (out_turn l c) (out_only_grows (turn r l c) cs)

  -- Requests accept nothing.
  pub requests_accept_nothing : (l : Log C E) (n : ℕ) → (play r l (requests n)).accepted ≡ l.accepted
  unfolding play turn after_next
  requests_accept_nothing l zero = refl
  requests_accept_nothing l (suc n) = requests_accept_nothing (turn r l ask) n ∙ go (r.next l.now)
    where
      go : (x : Asked C E) → (after_next l x).accepted ≡ l.accepted
      go (dried c) = refl
      go (told e c) = refl

  -- Calls, and then calls.
  pub play_append : (l : Log C E) (cs ds : List Call) → play r l (cs ++ ds) ≡ play r (play r l cs) ds
  unfolding play
  play_append l [] ds = refl
  play_append l (c ∷ cs) ds = play_append (turn r l c) cs ds

-- 2. The induction over a history, in the machine's words.

module _ {S E : Type 0} where
  -- P of accepted bytes, events so far, state, unread bytes, idle: what a request makes of it.
  abbrev pub AfterAnswer : (List ℕ → List E → S → List ℕ → Bool → Type 0) → List ℕ → List E → Bool → Answer S E → Type 0
  AfterAnswer P a es i (ran_dry s u) = P a es s u true
  AfterAnswer P a es i (spoke e s u) = P a (es ++ (e ∷ [])) s u i

module _ {C S E : Type 0} (m : Machine S E) (laws : Laws m) (v : View C S) (r : Calls C E) (follows : Follows m v r) where
  -- A request is the machine's, also where no piece waits, if the machine then rests.
  next_is_request : (c : C) → v.Fits c → (v.waits c ≡ false → Rests m (v.state c) (v.unread c)) → heard v (r.next c) ≡ request m (v.state c) (v.unread c)
  next_is_request c f rest = go (v.waits c) rest (follows.answers c f)
    where
      go : (b : Bool) → (b ≡ false → Rests m (v.state c) (v.unread c)) → Answers m v c b (r.next c) → heard v (r.next c) ≡ request m (v.state c) (v.unread c)
      go true d a = a.0
      go false d a = ap (heard v) a ∙ sym (request_dry m laws (v.state c) (v.state c) (v.unread c) (v.unread c) (d refl))

  -- A request leaves a carrier that fits, also where no piece waits.
  next_stays : (c : C) → v.Fits c → Stays v (r.next c)
  next_stays c f = go (v.waits c) (follows.answers c f)
    where
      go : (b : Bool) → Answers m v c b (r.next c) → Stays v (r.next c)
      go true a = a.1
      go false a = rw a f

  module _ (P : List ℕ → List E → S → List ℕ → Bool → Type 0)
      (grows : (a p : List ℕ) (es : List E) (s : S) (u : List ℕ) (i : Bool) → P a es s u i → P (a ++ p) es s (u ++ p) false)
      (answers : (a : List ℕ) (es : List E) (s : S) (u : List ℕ) (i : Bool) → P a es s u i → AfterAnswer P a es i (request m s u)) where
    -- What holds of a log all along.
    pub record Along (l : Log C E) : Type 0 where
      pub fits : v.Fits l.now
      pub rests : v.waits l.now ≡ false → RestsNow m v l
      pub holds : P l.accepted l.out (v.state l.now) (v.unread l.now) l.idle

    along_push : (l : Log C E) (p : List ℕ) → Along l → (x : Pushed C) → Takes v l.now p x → Along (after_push l p x)
    unfolding after_push
    along_push l p h (taken c) t = record {
      fits = t.fits;
      rests = λ e. absurd (false≢true (sym e ∙ t.waits));
      holds = rw (t.state, t.unread) (grows l.accepted p l.out _ _ l.idle h.holds);
    }
    along_push l p h (refused c) t =
        subst (λ (x : C). Along (record { now = x; accepted = l.accepted; out = l.out; idle = l.idle })) (sym t) h

    along_next : (l : Log C E) (x : Asked C E) → Stays v x → RestsAfter m (heard v x) → AfterAnswer P l.accepted l.out l.idle (heard v x)
        → Along (after_next l x)
    unfolding after_next
    along_next l (dried c) f rest h = record { fits = f; rests = λ w. rest; holds = h }
    along_next l (told e c) f rest h = record { fits = f.0; rests = λ w. absurd (false≢true (sym w ∙ f.1)); holds = h }

    along_turn : (l : Log C E) (c : Call) → Along l → Along (turn r l c)
    unfolding turn
    along_turn l (piece p) h = along_push l p h (r.push l.now p) (follows.takes l.now p h.fits)
    along_turn l ask h =
        let q : heard v (r.next l.now) ≡ request m (v.state l.now) (v.unread l.now) = next_is_request l.now h.fits h.rests in
        along_next l (r.next l.now) (next_stays l.now h.fits) (rw q (request_rests m laws (v.state l.now) (v.unread l.now)))
        (rw q (answers l.accepted l.out (v.state l.now) (v.unread l.now) l.idle h.holds))

    along_play : (l : Log C E) (cs : List Call) → Along l → Along (play r l cs)
    unfolding play
    along_play l [] h = h
    along_play l (c ∷ cs) h = along_play (turn r l c) cs (along_turn l c h)

    module _ (new : S) (c₀ : C) (opens : Opens m v new c₀) (begins : P [] [] new [] false) where
      -- What holds at opening, and is kept by every accepted piece and every request of the machine, holds after any calls; and the carrier fits.
      pub history_keeps : (cs : List Call) → Along (history r c₀ cs)
      history_keeps cs = along_play (opened c₀) cs (record {
        fits = opens.fits;
        rests = λ w. rw (opens.state, opens.unread) opens.rests;
        holds = rw (opens.state, opens.unread) begins;
      })

-- 3. Demand 3.

module _ {S E : Type 0} (m : Machine S E) (laws : Laws m) where
  -- The fresh scan of the accepted bytes, and any further ones, is what was handed out and then the scan from here.
  record Traced (new : S) (a : List ℕ) (es : List E) (s : S) (u : List ℕ) (i : Bool) : Type 0 where
    all : (w : List ℕ) → scan m new (a ++ w) ≡ before es (scan m s (u ++ w))
    still : i ≡ true → Rests m s u

  traced_grows : (new : S) (a p : List ℕ) (es : List E) (s : S) (u : List ℕ) (i : Bool) → Traced new a es s u i → Traced new (a ++ p) es s (u ++ p) false
  traced_grows new a p es s u i h = record { all = λ w. rw (append_assoc a p w, append_assoc u p w) (h.all (p ++ w)); still = λ e. absurd (false≢true e) }

  -- A machine at rest tells nothing.
  rests_mute : (e : E) (s s' : S) (u u' : List ℕ) → Rests m s u → request m s u ≡ spoke e s' u' → ⊥
  rests_mute e s s' u u' d q = let p : ran_dry s u ≡ spoke e s' u' = sym (request_dry m laws s s u u d) ∙ q in subst Dry p tt
    where
      Dry : Answer S E → Type 0
      Dry (ran_dry x y) = Unit {0}
      Dry (spoke x y z) = ⊥

  traced_answers : (new : S) (a : List ℕ) (es : List E) (s : S) (u : List ℕ) (i : Bool) → Traced new a es s u i → AfterAnswer (Traced new) a es i (request m s u)
  unfolding answered
  traced_answers new a es s u i h = go (request m s u) refl (request_rests m laws s u)
    where
      go : (x : Answer S E) → request m s u ≡ x → RestsAfter m x → AfterAnswer (Traced new) a es i x
      go (ran_dry s' u') q rest = record {
        all = λ w. h.all w ∙ ap (before es) (request_keeps m laws w s u ∙ ap (answered (scan m) w) q);
        still = λ e. rest;
      }
      go (spoke e s' u') q rest = record {
        all = λ w. h.all w ∙ ap (before es) (request_keeps m laws w s u ∙ ap (answered (scan m) w) q) ∙ rw append_assoc;
        still = λ d. absurd (rests_mute e s s' u u' (h.still d) q);
      }

  traced_demand : {C : Type 0} (v : View C S) (new : S) (l : Log C E) → Traced new l.accepted l.out (v.state l.now) (v.unread l.now) l.idle → Demand3 m v new l
  traced_demand v new l h = record {
    first = record { more = (scan m (v.state l.now) (v.unread l.now)).events; joined = ap (λ x. x.events) at };
    whole = λ i. at ∙ ap (before l.out) (scan_rested m laws (v.state l.now) (v.unread l.now) (h.still i)) ∙ rw append-nil;
  }
    where
      at : scan m new l.accepted ≡ before l.out (scan m (v.state l.now) (v.unread l.now))
      at = rw (append-nil l.accepted, append-nil (v.unread l.now)) at (h.all [])

module _ {C S E : Type 0} (m : Machine S E) (laws : Laws m) (v : View C S) (r : Calls C E) (follows : Follows m v r) (new : S) (c₀ : C) (opens : Opens m v new c₀) where
  abbrev Follow : Log C E → Type 0
  Follow = Along m laws v r follows (Traced m laws new) (traced_grows m laws new) (traced_answers m laws new)

  followed : (cs : List Call) → Follow (history r c₀ cs)
  followed = history_keeps m laws v r follows (Traced m laws new) (traced_grows m laws new) (traced_answers m laws new) new c₀ opens
      (record { all = λ w. refl; still = λ e. absurd (false≢true e) })

  -- DEMAND 3, whatever the calls.
  pub demand3 : (cs : List Call) → Demand3 m v new (history r c₀ cs)
  demand3 cs = traced_demand m laws v new (history r c₀ cs) (followed cs).holds

  -- A carrier fits at all times: number 1 is never given.
  pub always_fits : (cs : List Call) → v.Fits (history r c₀ cs).now
  always_fits cs = (followed cs).fits

  -- After a request has run dry, and until a piece is accepted, the machine rests.
  pub idle_rests : (cs : List Call) → (history r c₀ cs).idle ≡ true
      → RestsNow m v (history r c₀ cs)
  idle_rests cs i = (followed cs).holds.still i

  -- 4. Progress.

  -- What is handed out in a whole history is bounded by the size of a new reader with all accepted bytes unread.
  pub out_bounded : (cs : List Call) → length (history r c₀ cs).out ≤ m.size new (history r c₀ cs).accepted
  out_bounded cs =
      let a = begins_length _ _ (demand3 cs).first in
      let b = scan_bounded m laws new (history r c₀ cs).accepted in
      omega arith

  -- Once a request has run dry, further ones hand out nothing and change nothing, until a piece is accepted.
  pub dry_stays_dry : (cs : List Call) → (history r c₀ cs).idle ≡ true
      → heard v (r.next (history r c₀ cs).now) ≡ ran_dry (v.state (history r c₀ cs).now) (v.unread (history r c₀ cs).now)
  dry_stays_dry cs i =
      let h = followed cs in
      let rest = h.holds.still i in
      next_is_request m laws v r follows _ h.fits h.rests ∙ request_dry m laws _ _ _ _ rest

  ask_follows : (l : Log C E) → Follow l → Follow (after_next l (r.next l.now))
  unfolding turn
  ask_follows l h = along_turn m laws v r follows (Traced m laws new) (traced_grows m laws new) (traced_answers m laws new) l ask h

  -- Once dry, so many requests stay dry and hand out nothing.
  idle_requests : (n : ℕ) (l : Log C E) → Follow l → l.idle ≡ true → ((play r l (requests n)).idle ≡ true) × ((play r l (requests n)).out ≡ l.out)
  unfolding play turn after_next
  idle_requests zero l h i = (i, refl)
  idle_requests (suc n) l h i =
      go (r.next l.now) (ask_follows l h) (sym (next_is_request m laws v r follows l.now h.fits h.rests)) (idle_requests n)
    where
      go : (x : Asked C E) → Follow (after_next l x) → request m (v.state l.now) (v.unread l.now) ≡ heard v x
          → ((k : Log C E) → Follow k → k.idle ≡ true → ((play r k (requests n)).idle ≡ true) × ((play r k (requests n)).out ≡ k.out))
          → ((play r (after_next l x) (requests n)).idle ≡ true) × ((play r (after_next l x) (requests n)).out ≡ l.out)
      go (dried c) f q again = again (after_next l (dried c)) f refl
      go (told e c) f q again = absurd (rests_mute m laws e _ _ _ _ (h.holds.still i) q)

  -- So many requests hand out at most as much as the size says, and if they are more than that, one has run dry.
  some_requests : (n : ℕ) (l : Log C E) → Follow l
      → (size_now m v l < n → (play r l (requests n)).idle ≡ true)
      × (length (play r l (requests n)).out ≤ length l.out + size_now m v l)
  unfolding play turn after_next
  some_requests zero l h = (λ b. absurd (not-suc-le-zero b), omega arith)
  some_requests (suc n) l h =
      go (r.next l.now) (ask_follows l h)
      (rw (next_is_request m laws v r follows l.now h.fits h.rests) (request_less m laws (v.state l.now) (v.unread l.now))) (some_requests n)
    where
      go : (x : Asked C E) → Follow (after_next l x) → LessAfter m (size_now m v l) (heard v x)
          → ((k : Log C E) → Follow k → (size_now m v k < n → (play r k (requests n)).idle ≡ true) × (length (play r k (requests n)).out ≤ length k.out + size_now m v k))
          → (size_now m v l < suc n → (play r (after_next l x) (requests n)).idle ≡ true) × (length (play r (after_next l x) (requests n)).out ≤ length l.out + size_now m v l)
      go (dried c) f less again = let k = idle_requests n (after_next l (dried c)) f refl in (λ b. k.0, rw k.1 (omega arith))
      go (told x c) f less again =
          let k = again (after_next l (told x c)) f in
          let more : length (l.out ++ (x ∷ [])) ≡ length l.out + 1 = length-append l.out (x ∷ []) in
          (λ b. k.0 (omega arith), let z = k.1 in omega arith)

  -- Requests without a new piece end: of more than the size, one has run dry ..
  pub requests_end : (cs : List Call) (n : ℕ) → size_now m v (history r c₀ cs) < n
      → (history r c₀ (cs ++ requests n)).idle ≡ true
  requests_end cs n b = rw (play_append r (opened c₀) cs (requests n)) ((some_requests n (history r c₀ cs) (followed cs)).0 b)

  -- .. and however many there are, no more than the size answer something other than dry.
  pub requests_tell_few : (cs : List Call) (n : ℕ)
      → length (history r c₀ (cs ++ requests n)).out
      ≤ length (history r c₀ cs).out + size_now m v (history r c₀ cs)
  requests_tell_few cs n = rw (play_append r (opened c₀) cs (requests n)) (some_requests n (history r c₀ cs) (followed cs)).1

  -- So any calls, and then more requests than the size says, hand out what a fresh scan of all accepted bytes gives, and end where it ends.
  pub drained : (cs : List Call) (n : ℕ) → size_now m v (history r c₀ cs) < n
      → scan m new (history r c₀ (cs ++ requests n)).accepted ≡ shown v (history r c₀ (cs ++ requests n))
  drained cs n b = (demand3 (cs ++ requests n)).whole (requests_end cs n b)

-- 5. Any cutting, the same.

module _ {C C' S E : Type 0} (m : Machine S E) (v : View C S) (v' : View C' S) (new : S) (l : Log C E) (l' : Log C' E)
    (d : Demand3 m v new l) (d' : Demand3 m v' new l') (same : l.accepted ≡ l'.accepted) where
  -- Two cuttings of the same bytes, each run dry, show the same; also over two kinds of carrier.
  pub cuttings_agree : l.idle ≡ true → l'.idle ≡ true → shown v l ≡ shown v' l'
  cuttings_agree i i' = sym (d.whole i) ∙ ap (scan m new) same ∙ d'.whole i'

  -- Where only the second has run dry, the first handed out the first ones of what it handed out.
  pub cutting_begins : l'.idle ≡ true → Begins l.out l'.out
  cutting_begins i' = rw (same, d'.whole i') at d.first
