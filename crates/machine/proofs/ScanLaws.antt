-- Laws of requests and scans, over any machine that keeps the two laws of Step.
-- A request and a scan are what document 01's words say, each the only one; bytes that arrive later only add to a scan.
use Rattle.std.specs.Prelude.{◌≡◌, List, [], ◌∷◌, ◌++◌, ℕ, zero, suc, ◌≤◌, ◌<◌, length}
use Rattle.std.proofs.Math.Path.{refl, sym, ap}
use Rattle.std.proofs.Common.{◌∙◌, subst, append-nil, not-suc-le-zero, arith}
use Rattle.machine.specs.Step.{Step, dry, quiet, speak, Machine, further, Below, Laws, Rests}
use Rattle.machine.specs.Loop.{Falls}
use Rattle.machine.proofs.LoopLaws.{looped_step, looped_only}
use Rattle.machine.specs.Scan.{Answer, ran_dry, spoke, Result, onward, request, nothing, before, until_dry, scan, Asks, runs_dry, goes_on, speaks, Scans, ends, one_more}

module _ {S E : Type 0} where
  -- After an answer that ran dry the machine rests.
  abbrev pub RestsAfter : Machine S E → Answer S E → Type 0
  RestsAfter m (ran_dry s u) = Rests m s u
  RestsAfter m (spoke e s u) = Unit {0}

  -- After a spoken answer the size is below n.
  abbrev pub LessAfter : Machine S E → ℕ → Answer S E → Type 0
  LessAfter m n (ran_dry s u) = Unit {0}
  LessAfter m n (spoke e s u) = m.size s u < n

  less_le : (m : Machine S E) (k n : ℕ) (a : Answer S E) → k ≤ n → LessAfter m k a → LessAfter m n a
  less_le m k n (ran_dry s u) l h = tt
  less_le m k n (spoke e s u) l h = omega arith

  -- What a scan gives after a step.
  unfoldable pub stepped : (S → List ℕ → Result S E) → Step S E → Result S E
  stepped again (dry s u) = nothing s u
  stepped again (quiet s u) = again s u
  stepped again (speak e s u) = before (e ∷ []) (again s u)

  -- What a scan gives after an answer, with v behind the bytes that are left.
  unfoldable pub answered : (S → List ℕ → Result S E) → List ℕ → Answer S E → Result S E
  answered again v (ran_dry s u) = again s (u ++ v)
  answered again v (spoke e s u) = before (e ∷ []) (again s (u ++ v))

module _ {S E : Type 0} (m : Machine S E) (laws : Laws m) where
  -- 1. A request is its steps.

  onward_falls : Falls m.size (λ again s u. onward again (m.step s u))
  unfolding onward
  onward_falls f g s u h = go (m.step s u) (laws.less s u)
    where
      go : (x : Step S E) → Below m.size (m.size s u) x → onward f x ≡ onward g x
      go (dry s' u') b = refl
      go (quiet s' u') b = cc (h s' u' b)
      go (speak e s' u') b = refl

  -- A request takes a step, and goes on as the step says.
  pub request_step : (s : S) (u : List ℕ) → request m s u ≡ onward (request m) (m.step s u)
  unfolding request
  request_step = looped_step m.size ran_dry (λ again s u. onward again (m.step s u)) onward_falls

  -- Whatever takes a step and goes on as the step says is the request.
  pub request_only : (f : S → List ℕ → Answer S E) → ((s : S) (u : List ℕ) → f s u ≡ onward f (m.step s u))
      → (s : S) (u : List ℕ) → f s u ≡ request m s u
  unfolding request
  request_only = looped_only m.size ran_dry (λ again s u. onward again (m.step s u)) onward_falls

  -- A request whose first step is dry, quiet or spoken.
  pub request_dry : (s s' : S) (u u' : List ℕ) → m.step s u ≡ dry s' u' → request m s u ≡ ran_dry s' u'
  unfolding onward
  request_dry s s' u u' e = request_step s u ∙ ap (onward (request m)) e

  pub request_quiet : (s s' : S) (u u' : List ℕ) → m.step s u ≡ quiet s' u' → request m s u ≡ request m s' u'
  unfolding onward
  request_quiet s s' u u' e = request_step s u ∙ ap (onward (request m)) e

  pub request_speak : (x : E) (s s' : S) (u u' : List ℕ) → m.step s u ≡ speak x s' u' → request m s u ≡ spoke x s' u'
  unfolding onward
  request_speak x s s' u u' e = request_step s u ∙ ap (onward (request m)) e

  asks_below : (n : ℕ) (s : S) (u : List ℕ) → m.size s u < n → Asks m s u (request m s u)
  asks_below zero s u l = absurd (not-suc-le-zero l)
  asks_below (suc n) s u l = go (λ s' u' b. asks_below n s' u' (omega arith)) (m.step s u) refl (laws.less s u)
    where
      go : ((s' : S) (u' : List ℕ) → m.size s' u' < m.size s u → Asks m s' u' (request m s' u'))
          → (x : Step S E) → m.step s u ≡ x → Below m.size (m.size s u) x → Asks m s u (request m s u)
      go again (dry s' u') e b = rw (request_dry s s' u u' e) (runs_dry e)
      go again (quiet s' u') e b = rw (request_quiet s s' u u' e) (goes_on e (again s' u' b))
      go again (speak x s' u') e b = rw (request_speak x s s' u u' e) (speaks e)

  -- A request is what document 01's words say ..
  pub request_asks : (s : S) (u : List ℕ) → Asks m s u (request m s u)
  request_asks s u = asks_below (suc (m.size s u)) s u (omega arith)

  -- .. and nothing else is.
  pub asks_only : (s : S) (u : List ℕ) (a : Answer S E) → Asks m s u a → a ≡ request m s u
  asks_only s u a (runs_dry {s' = s'} {u' = u'} e) = sym (request_dry s s' u u' e)
  asks_only s u a (goes_on {s' = s'} {u' = u'} e t) = asks_only s' u' a t ∙ sym (request_quiet s s' u u' e)
  asks_only s u a (speaks {s' = s'} {u' = u'} {e = x} e) = sym (request_speak x s s' u u' e)

  -- 2. Where a request ends.

  dry_again : (s s' : S) (u u' : List ℕ) → m.step s u ≡ dry s' u' → Rests m s' u'
  unfolding further
  dry_again s s' u u' e =
      ap (m.step s') (sym (append-nil u')) ∙ sym (ap (λ x. further m.step x []) e) ∙ sym (laws.cut s u []) ∙ ap (m.step s) (append-nil u) ∙ e

  asks_rests : (s : S) (u : List ℕ) (a : Answer S E) → Asks m s u a → RestsAfter m a
  asks_rests s u a (runs_dry {s' = s'} {u' = u'} e) = dry_again s s' u u' e
  asks_rests s u a (goes_on {s' = s'} {u' = u'} e t) = asks_rests s' u' a t
  asks_rests s u a (speaks e) = tt

  -- A request that ran dry leaves a machine at rest.
  pub request_rests : (s : S) (u : List ℕ) → RestsAfter m (request m s u)
  request_rests s u = asks_rests s u (request m s u) (request_asks s u)

  asks_less : (s : S) (u : List ℕ) (a : Answer S E) → Asks m s u a → LessAfter m (m.size s u) a
  asks_less s u a (runs_dry e) = tt
  asks_less s u a (goes_on {s' = s'} {u' = u'} e t) =
      less_le m _ _ a (let b : m.size s' u' < m.size s u = subst (Below m.size (m.size s u)) e (laws.less s u) in omega arith) (asks_less s' u' a t)
  asks_less s u a (speaks e) = subst (Below m.size (m.size s u)) e (laws.less s u)

  -- A request that speaks makes the size less.
  pub request_less : (s : S) (u : List ℕ) → LessAfter m (m.size s u) (request m s u)
  request_less s u = asks_less s u (request m s u) (request_asks s u)

  -- 3. A scan is its requests, and its steps.

  until_dry_falls : Falls m.size (λ again s u. until_dry again (request m s u))
  unfolding until_dry
  until_dry_falls f g s u h = go (request m s u) (request_less s u)
    where
      go : (a : Answer S E) → LessAfter m (m.size s u) a → until_dry f a ≡ until_dry g a
      go (ran_dry s' u') b = refl
      go (spoke e s' u') b = cc (h s' u' b)

  -- A scan is the requests' answers, until one runs dry: document 01's words.
  pub scan_asks : (s : S) (u : List ℕ) → scan m s u ≡ until_dry (scan m) (request m s u)
  unfolding scan
  scan_asks = looped_step m.size nothing (λ again s u. until_dry again (request m s u)) until_dry_falls

  -- Whatever is the requests' answers until one runs dry is the scan.
  pub scan_only : (f : S → List ℕ → Result S E) → ((s : S) (u : List ℕ) → f s u ≡ until_dry f (request m s u))
      → (s : S) (u : List ℕ) → f s u ≡ scan m s u
  unfolding scan
  scan_only = looped_only m.size nothing (λ again s u. until_dry again (request m s u)) until_dry_falls

  scan_ran : (s s' : S) (u u' : List ℕ) → request m s u ≡ ran_dry s' u' → scan m s u ≡ nothing s' u'
  unfolding until_dry
  scan_ran s s' u u' e = scan_asks s u ∙ ap (until_dry (scan m)) e

  scan_spoke : (x : E) (s s' : S) (u u' : List ℕ) → request m s u ≡ spoke x s' u' → scan m s u ≡ before (x ∷ []) (scan m s' u')
  unfolding until_dry
  scan_spoke x s s' u u' e = scan_asks s u ∙ ap (until_dry (scan m)) e

  scans_below : (n : ℕ) (s : S) (u : List ℕ) → m.size s u < n → Scans m s u (scan m s u)
  scans_below zero s u l = absurd (not-suc-le-zero l)
  scans_below (suc n) s u l = go (λ s' u' b. scans_below n s' u' (omega arith)) (request m s u) refl (request_less s u)
    where
      go : ((s' : S) (u' : List ℕ) → m.size s' u' < m.size s u → Scans m s' u' (scan m s' u'))
          → (a : Answer S E) → request m s u ≡ a → LessAfter m (m.size s u) a → Scans m s u (scan m s u)
      go again (ran_dry s' u') e b = rw (scan_ran s s' u u' e) (ends e)
      go again (spoke x s' u') e b = rw (scan_spoke x s s' u u' e) (one_more e (again s' u' b))

  -- A scan is what document 01's words say ..
  pub scan_scans : (s : S) (u : List ℕ) → Scans m s u (scan m s u)
  scan_scans s u = scans_below (suc (m.size s u)) s u (omega arith)

  -- .. and nothing else is.
  pub scans_only : (s : S) (u : List ℕ) (r : Result S E) → Scans m s u r → r ≡ scan m s u
  scans_only s u r (ends {s' = s'} {u' = u'} e) = sym (scan_ran s s' u u' e)
  scans_only s u r (one_more {s' = s'} {u' = u'} {e = x} {r = r'} e t) =
      ap (before (x ∷ [])) (scans_only s' u' r' t) ∙ sym (scan_spoke x s s' u u' e)

  -- A scan takes a step, and goes on unless it was dry.
  pub scan_step : (s : S) (u : List ℕ) → scan m s u ≡ stepped (scan m) (m.step s u)
  unfolding stepped
  scan_step s u = go (m.step s u) refl
    where
      go : (x : Step S E) → m.step s u ≡ x → scan m s u ≡ stepped (scan m) x
      go (dry s' u') e = scan_ran s s' u u' (request_dry s s' u u' e)
      go (quiet s' u') e = scan_asks s u ∙ ap (until_dry (scan m)) (request_quiet s s' u u' e) ∙ sym (scan_asks s' u')
      go (speak x s' u') e = scan_spoke x s s' u u' (request_speak x s s' u u' e)

  -- A scan whose first step is quiet, or spoken.
  pub scan_quiet : (s s' : S) (u u' : List ℕ) → m.step s u ≡ quiet s' u' → scan m s u ≡ scan m s' u'
  unfolding stepped
  scan_quiet s s' u u' e = scan_step s u ∙ ap (stepped (scan m)) e

  pub scan_speak : (x : E) (s s' : S) (u u' : List ℕ) → m.step s u ≡ speak x s' u' → scan m s u ≡ before (x ∷ []) (scan m s' u')
  unfolding stepped
  scan_speak x s s' u u' e = scan_step s u ∙ ap (stepped (scan m)) e

  -- A scan of a machine at rest gives nothing, and leaves all as it is.
  pub scan_rested : (s : S) (u : List ℕ) → Rests m s u → scan m s u ≡ nothing s u
  unfolding stepped
  scan_rested s u e = scan_step s u ∙ ap (stepped (scan m)) e

  -- 4. Bytes that arrive later.

  scan_cut : (v : List ℕ) (s : S) (u : List ℕ) → scan m s (u ++ v) ≡ stepped (scan m) (further m.step (m.step s u) v)
  scan_cut v s u = scan_step s (u ++ v) ∙ ap (stepped (scan m)) (laws.cut s u v)

  asks_keeps : (v : List ℕ) (s : S) (u : List ℕ) (a : Answer S E) → Asks m s u a → scan m s (u ++ v) ≡ answered (scan m) v a
  unfolding stepped further answered
  asks_keeps v s u a (runs_dry {s' = s'} {u' = u'} e) =
      scan_cut v s u ∙ ap (λ x. stepped (scan m) (further m.step x v)) e ∙ sym (scan_step s' (u' ++ v))
  asks_keeps v s u a (goes_on {s' = s'} {u' = u'} e t) =
      scan_cut v s u ∙ ap (λ x. stepped (scan m) (further m.step x v)) e ∙ asks_keeps v s' u' a t
  asks_keeps v s u a (speaks e) = scan_cut v s u ∙ ap (λ x. stepped (scan m) (further m.step x v)) e

  -- A request loses nothing: a scan of the unread bytes and any further ones gives what the request spoke, and goes on where it ended.
  pub request_keeps : (v : List ℕ) (s : S) (u : List ℕ) → scan m s (u ++ v) ≡ answered (scan m) v (request m s u)
  request_keeps v s u = asks_keeps v s u (request m s u) (request_asks s u)

  scans_append : (v : List ℕ) (s : S) (u : List ℕ) (r : Result S E) → Scans m s u r → scan m s (u ++ v) ≡ before r.events (scan m r.final (r.rest ++ v))
  unfolding answered
  scans_append v s u r (ends e) = request_keeps v s u ∙ ap (answered (scan m) v) e
  scans_append v s u r (one_more {s' = s'} {u' = u'} {e = x} {r = r'} e t) =
      request_keeps v s u ∙ ap (answered (scan m) v) e ∙ ap (before (x ∷ [])) (scans_append v s' u' r' t)

  -- The scan of u ++ v is the scan of u, and then the scan of what it left with v behind.
  pub scan_append : (s : S) (u v : List ℕ)
      → scan m s (u ++ v) ≡ before (scan m s u).events (scan m (scan m s u).final ((scan m s u).rest ++ v))
  scan_append s u v = scans_append v s u (scan m s u) (scan_scans s u)

  scans_rests : (s : S) (u : List ℕ) (r : Result S E) → Scans m s u r → Rests m r.final r.rest
  scans_rests s u r (ends e) = subst (RestsAfter m) e (request_rests s u)
  scans_rests s u r (one_more {s' = s'} {u' = u'} {r = r'} e t) = scans_rests s' u' r' t

  -- A scan leaves a machine at rest.
  pub scan_rests : (s : S) (u : List ℕ) → Rests m (scan m s u).final (scan m s u).rest
  scan_rests s u = scans_rests s u (scan m s u) (scan_scans s u)

  scans_bounded : (s : S) (u : List ℕ) (r : Result S E) → Scans m s u r → length r.events ≤ m.size s u
  scans_bounded s u r (ends e) = omega arith
  scans_bounded s u r (one_more {s' = s'} {u' = u'} {r = r'} e t) =
      let b : m.size s' u' < m.size s u = subst (LessAfter m (m.size s u)) e (request_less s u) in
      let h : length r'.events ≤ m.size s' u' = scans_bounded s' u' r' t in
      omega arith

  -- A scan speaks at most as often as the size says.
  pub scan_bounded : (s : S) (u : List ℕ) → length (scan m s u).events ≤ m.size s u
  scan_bounded s u = scans_bounded s u (scan m s u) (scan_scans s u)
