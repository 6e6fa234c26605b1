-- Laws of what holds at all times: a property that every step and every piece keeps holds in every history, and of every fresh scan.
-- From it follow facts of every event, of every two events, of the position, and of how much a dry reader holds.
use Rattle.std.specs.Prelude.{◌≡◌, refl, Bool, true, List, [], ◌∷◌, ◌++◌, ℕ, suc, ◌+◌, ◌-◌, ◌≤◌, length, take, drop}
use Rattle.std.proofs.Common.{sym, ap, ◌∙◌, subst, append_assoc, append-nil, arith, add-zero, length-append, length-drop, drop-drop}
use Rattle.std.proofs.lemmas.List.{drop-append-le}
use Rattle.machine.specs.Step.{Step, dry, quiet, speak, Machine, Laws, Rests}
use Rattle.machine.specs.Scan.{Answer, ran_dry, spoke, Result, request, scan, Asks, runs_dry, goes_on, speaks, Scans, ends, one_more}
use Rattle.machine.proofs.ScanLaws.{request_asks, scan_scans}
use Rattle.machine.specs.Ask.{Ask, Eat, decide, Move, silent, aloud, goal, moved, settle}
use Rattle.machine.proofs.AskLaws.{settle_cases}
use Rattle.machine.specs.History.{Calls, Call, history, View, Follows, Opens}
use Rattle.machine.proofs.HistoryLaws.{AfterAnswer, history_keeps, idle_rests}
use Rattle.machine.specs.Always.{AfterStep, AfterRequest, OnSpeak, Kept, Lasts, Numbered, Every, Ordered, Consumed, Placed, Counts}

-- 1. Requests, scans and histories keep what steps and pieces keep.

module _ {S E : Type 0} where
  -- What follows from J follows after a step too; the two may count the events from different beginnings.
  pub after_map : (J K : List E → S → List ℕ → Type 0) (es ds : List E) → ((fs : List E) (s : S) (u : List ℕ) → J (es ++ fs) s u → K (ds ++ fs) s u)
      → (x : Step S E) → AfterStep J es x → AfterStep K ds x
  after_map J K es ds f (dry s u) h = rw append-nil at (f [] s u (rw append-nil h))
  after_map J K es ds f (quiet s u) h = rw append-nil at (f [] s u (rw append-nil h))
  after_map J K es ds f (speak e s u) h = f (e ∷ []) s u h

  -- What follows of what a step speaks.
  pub speak_map : (P Q : E → S → List ℕ → Type 0) → ((e : E) (s : S) (u : List ℕ) → P e s u → Q e s u) → (x : Step S E) → OnSpeak P x → OnSpeak Q x
  speak_map P Q f (dry s u) h = tt
  speak_map P Q f (quiet s u) h = tt
  speak_map P Q f (speak e s u) h = f e s u h

module _ {S E : Type 0} (m : Machine S E) (laws : Laws m) where
  module _ (J : List E → S → List ℕ → Type 0) (kept : Kept m J) where
    asks_always : (es : List E) (s : S) (u : List ℕ) (x : Answer S E) → Asks m s u x → J es s u → AfterRequest J es x
    asks_always es s u x (runs_dry e) h = subst (AfterStep J es) e (kept es s u h)
    asks_always es s u x (goes_on {s' = s'} {u' = u'} e t) h = asks_always es s' u' x t (subst (AfterStep J es) e (kept es s u h))
    asks_always es s u x (speaks e) h = subst (AfterStep J es) e (kept es s u h)

    -- What every step keeps, a request keeps.
    pub request_always : (es : List E) (s : S) (u : List ℕ) → J es s u → AfterRequest J es (request m s u)
    request_always es s u = asks_always es s u (request m s u) (request_asks m laws s u)

    scans_always : (es : List E) (s : S) (u : List ℕ) (r : Result S E) → Scans m s u r → J es s u → J (es ++ r.events) r.final r.rest
    scans_always es s u r (ends e) h = rw append-nil (subst (AfterRequest J es) e (request_always es s u h))
    scans_always es s u r (one_more {s' = s'} {u' = u'} {e = x} {r = r'} e t) h =
        rw append_assoc at (scans_always (es ++ (x ∷ [])) s' u' r' t (subst (AfterRequest J es) e (request_always es s u h)))

    -- What every step keeps, a scan keeps.
    pub scan_always : (es : List E) (s : S) (u : List ℕ) → J es s u → J (es ++ (scan m s u).events) (scan m s u).final (scan m s u).rest
    scan_always es s u = scans_always es s u (scan m s u) (scan_scans m laws s u)

  module _ (I : List ℕ → List E → S → List ℕ → Type 0) (lasts : Lasts m I) (new : S) (begins : I [] [] new []) where
    -- What steps and pieces keep holds of a fresh scan of any bytes.
    pub fresh_always : (bs : List ℕ) → I bs (scan m new bs).events (scan m new bs).final (scan m new bs).rest
    fresh_always bs = scan_always (I bs) (lasts.steps bs) [] new bs (lasts.grows [] bs [] new [] begins)

    module _ {C : Type 0} (v : View C S) (r : Calls C E) (follows : Follows m v r) (c₀ : C) (opens : Opens m v new c₀) where
      -- What steps and pieces keep holds in every history.
      pub history_always : (cs : List Call)
          → I (history r c₀ cs).accepted (history r c₀ cs).out (v.state (history r c₀ cs).now) (v.unread (history r c₀ cs).now)
      history_always cs =
          (history_keeps m laws v r follows (λ a es s u i. I a es s u) (λ a p es s u i h. lasts.grows a p es s u h)
          (λ a es s u i h. go a es i (request m s u) (request_always (I a) (lasts.steps a) es s u h)) new c₀ opens begins cs).holds
        where
          go : (a : List ℕ) (es : List E) (i : Bool) (x : Answer S E) → AfterRequest (I a) es x → AfterAnswer (λ a' es' s u i'. I a' es' s u) a es i x
          go a es i (ran_dry s u) h = h
          go a es i (spoke e s u) h = h

      -- A bound on the unread bytes of a machine at rest bounds what a reader holds that has just run dry.
      pub dry_bounded : (n : ℕ) → ((a : List ℕ) (es : List E) (s : S) (u : List ℕ) → I a es s u → Rests m s u → length u ≤ n)
          → (cs : List Call) → (history r c₀ cs).idle ≡ true → length (v.unread (history r c₀ cs).now) ≤ n
      dry_bounded n bound cs i = bound _ _ _ _ (history_always cs) (idle_rests m laws v r follows new c₀ opens cs i)

-- 2. Every event, and every two.

module _ {E : Type 0} where
  numbered_map : (P Q : ℕ → E → Type 0) → ((k : ℕ) (e : E) → P k e → Q k e) → (k : ℕ) (es : List E) → Numbered P k es → Numbered Q k es
  numbered_map P Q f k [] h = tt
  numbered_map P Q f k (e ∷ es) h = (f k e h.0, numbered_map P Q f (suc k) es h.1)

  numbered_snoc : (P : ℕ → E → Type 0) (k : ℕ) (es : List E) (e : E) → Numbered P k es → P (k + length es) e → Numbered P k (es ++ (e ∷ []))
  numbered_snoc P k [] e h p = (subst (λ n. P n e) (add-zero k) p, tt)
  numbered_snoc P k (x ∷ es) e h p = (h.0, numbered_snoc P (suc k) es e h.1 (subst (λ n. P n e) (omega arith) p))

  ordered_snoc : (R : E → E → Type 0) (k : ℕ) (es : List E) (e : E) → Ordered R es → Numbered (λ j d. R d e) k es → Ordered R (es ++ (e ∷ []))
  ordered_snoc R k [] e h g = (tt, tt)
  ordered_snoc R k (x ∷ es) e h g = (numbered_snoc (λ j. R x) 0 es e h.0 g.0, ordered_snoc R (suc k) es e h.1 g.1)

module _ {S E : Type 0} (m : Machine S E) (I : List ℕ → List E → S → List ℕ → Type 0) (lasts : Lasts m I) where
  -- A fact of every event, given its number, that its step shows and further bytes don't change: it holds of all that was handed out.
  pub numbered_lasts : (P : List ℕ → ℕ → E → Type 0)
      → ((a : List ℕ) (es : List E) (s : S) (u : List ℕ) → I a es s u → OnSpeak (λ e s' u'. P a (length es) e) (m.step s u))
      → ((a p : List ℕ) (k : ℕ) (e : E) → P a k e → P (a ++ p) k e)
      → Lasts m (λ a es s u. I a es s u × Numbered (P a) 0 es)
  numbered_lasts P shows stays = record {
    steps = λ a es s u h. go a es h.1 (m.step s u) (shows a es s u h.0) (lasts.steps a es s u h.0);
    grows = λ a p es s u h. (lasts.grows a p es s u h.0, numbered_map (P a) (P (a ++ p)) (stays a p) 0 es h.1);
  }
    where
      go : (a : List ℕ) (es : List E) → Numbered (P a) 0 es → (x : Step S E) → OnSpeak (λ e s u. P a (length es) e) x
          → AfterStep (I a) es x → AfterStep (λ es' s u. I a es' s u × Numbered (P a) 0 es') es x
      go a es n (dry s u) p i = (i, n)
      go a es n (quiet s u) p i = (i, n)
      go a es n (speak e s u) p i = (i, numbered_snoc (P a) 0 es e n (subst (λ k. P a k e) (omega arith) p))

  -- A relation of every two events, by what lies behind the state: an event lies behind the state that it leaves, and stays so; and what a
  -- state speaks is related to all that lies behind it.
  pub ordered_lasts : (R : E → E → Type 0) (Behind : E → S → Type 0)
      → ((d : E) (s : S) (u : List ℕ) → Behind d s → AfterStep (λ es s' u'. Behind d s') [] (m.step s u))
      → ((a : List ℕ) (es : List E) (s : S) (u : List ℕ) → I a es s u → OnSpeak (λ e s' u'. Behind e s') (m.step s u))
      → ((a : List ℕ) (es : List E) (d : E) (s : S) (u : List ℕ) → I a es s u → Behind d s → OnSpeak (λ e s' u'. R d e) (m.step s u))
      → Lasts m (λ a es s u. I a es s u × Every (λ d. Behind d s) es × Ordered R es)
  ordered_lasts R Behind stays lands relates = record {
    steps = λ a es s u h. go a es s h.1 h.2 (m.step s u) (lasts.steps a es s u h.0) (λ d b. stays d s u b) (lands a es s u h.0) (λ d b. relates a es d s u h.0 b);
    grows = λ a p es s u h. (lasts.grows a p es s u h.0, h.1, h.2);
  }
    where
      go : (a : List ℕ) (es : List E) (s : S) → Every (λ d. Behind d s) es → Ordered R es → (x : Step S E) → AfterStep (I a) es x
          → ((d : E) → Behind d s → AfterStep (λ es' s' u'. Behind d s') [] x) → OnSpeak (λ e s' u'. Behind e s') x → ((d : E) → Behind d s → OnSpeak (λ e s' u'. R d e) x)
          → AfterStep (λ es' s' u'. I a es' s' u' × Every (λ d. Behind d s') es' × Ordered R es') es x
      go a es s b o (dry s' u') i on here with_all = (i, numbered_map (λ k d. Behind d s) (λ k d. Behind d s') (λ k. on) 0 es b, o)
      go a es s b o (quiet s' u') i on here with_all = (i, numbered_map (λ k d. Behind d s) (λ k d. Behind d s') (λ k. on) 0 es b, o)
      go a es s b o (speak e s' u') i on here with_all = (
        i,
        numbered_snoc (λ k d. Behind d s') 0 es e (numbered_map (λ k d. Behind d s) (λ k d. Behind d s') (λ k. on) 0 es b) here,
        ordered_snoc R 0 es e o (numbered_map (λ k d. Behind d s) (λ k d. R d e) (λ k. with_all) 0 es b),
      )

-- 3. Where a reader stands.

module _ {S : Type 0} (at : S → ℕ) where
  pub consumed_none : (s : S) (u : List ℕ) → Consumed at s u s u
  consumed_none s u = record { bytes = 0; there = omega arith; left = refl; counted = sym (add-zero (at s)) }

  pub consumed_trans : (s s' s'' : S) (u u' u'' : List ℕ) → Consumed at s u s' u' → Consumed at s' u' s'' u'' → Consumed at s u s'' u''
  consumed_trans s s' s'' u u' u'' p q =
      let l : length u' ≡ length u - p.bytes = ap length p.left ∙ length-drop p.bytes u in
      record {
        bytes = p.bytes + q.bytes;
        there = (let x = p.there in let y = q.there in omega arith);
        left = q.left ∙ ap (drop q.bytes) p.left ∙ drop-drop q.bytes p.bytes u;
        counted = (let x = p.counted in let y = q.counted in omega arith);
      }

  placed_on : (a : List ℕ) (s s' : S) (u u' : List ℕ) → Consumed at s u s' u' → Placed at a s u → Placed at a s' u'
  placed_on a s s' u u' c h =
      let l : length u' ≡ length u - c.bytes = ap length c.left ∙ length-drop c.bytes u in
      record {
        unread = c.left ∙ ap (drop c.bytes) h.unread ∙ drop-drop c.bytes (at s) a ∙ ap (λ n. drop n a) (sym c.counted);
        total = (let x = c.there in let y = c.counted in let z = h.total in omega arith);
      }

  placed_grows : (a p : List ℕ) (s : S) (u : List ℕ) → Placed at a s u → Placed at (a ++ p) s (u ++ p)
  placed_grows a p s u h =
      let t = h.total in
      record {
        unread = ap (λ w. w ++ p) h.unread ∙ sym (drop-append-le (at s) a p (omega arith));
        total = rw (length-append u p, length-append a p) (omega arith);
      }

module _ {S E : Type 0} (at : S → ℕ) where
  -- Some bytes consumed, and then a step.
  pub consumed_then : (es : List E) (s s' : S) (u u' : List ℕ) → Consumed at s u s' u' → (x : Step S E) → AfterStep (λ fs. Consumed at s' u') [] x
      → AfterStep (λ fs. Consumed at s u) es x
  consumed_then es s s' u u' c =
      after_map (λ fs. Consumed at s' u') (λ fs. Consumed at s u) [] es (λ fs s'' u'' h. consumed_trans at s s' s'' u u' u'' c h)

module _ {S E : Type 0} (m : Machine S E) (at : S → ℕ) (counts : Counts m at) where
  -- A reader that counts what it consumes stands at its position: the unread bytes are the accepted ones from there on.
  pub placed_lasts : Lasts m (λ a es s u. Placed at a s u)
  placed_lasts = record {
    steps = λ a es s u h. after_map (λ fs. Consumed at s u) (λ fs. Placed at a) [] es (λ fs s' u' c. placed_on at a s s' u u' c h) (m.step s u) (counts s u);
    grows = λ a p es s u h. placed_grows at a p s u h;
  }

  -- A request leaves the end of the unread bytes, and counts what it consumed: what a lent buffer needs, which only moves its start.
  pub request_consumes : (laws : Laws m) (s : S) (u : List ℕ) → AfterRequest (λ es. Consumed at s u) [] (request m s u)
  request_consumes laws s u =
      request_always m laws (λ es. Consumed at s u) (λ es s' u' c. consumed_then at es s s' u u' c (m.step s' u') (counts s' u')) [] s u (consumed_none at s u)

module _ {A S E : Type 0} (at : S → ℕ) (act : A → ℕ → List ℕ → Move S E) (s : S) (q : Ask (Eat A)) where
  moved_consumes : (x : Move S E) (n : ℕ) (u : List ℕ) → n ≤ length u → at (goal x) ≡ at s + n → AfterStep (λ es. Consumed at s u) [] (moved x (drop n u))
  unfolding moved
  moved_consumes (silent s') n u l e = record { bytes = n; there = l; left = refl; counted = e }
  moved_consumes (aloud x s') n u l e = record { bytes = n; there = l; left = refl; counted = e }

  -- The step that a decision makes consumes what it eats, if the state that it goes to counts that.
  pub settle_consumes : ((w : A) (n : ℕ) (bs : List ℕ) → at (goal (act w n bs)) ≡ at s + n) → (u : List ℕ)
      → AfterStep (λ es. Consumed at s u) [] (settle act s u (decide q u))
  settle_consumes counted u =
      settle_cases act s q (AfterStep (λ es. Consumed at s u) []) u (consumed_none at s u)
      (λ g l. moved_consumes (act g.answer g.eaten (take g.eaten u)) g.eaten u l (counted g.answer g.eaten (take g.eaten u)))
