-- A unit that has arrived is handed out, whatever stands behind it: a locked reader that waits or refuses at a unit is shut out.
use Rattle.std.specs.Prelude.{◌≡◌, Bool, List, ◌++◌, ℕ, ◌+◌, ◌/◌, ◌≤◌, ◌<◌, length, eqb}
use Rattle.std.proofs.Math.Path.{refl, sym, ap}
use Rattle.std.proofs.Common.{◌∙◌, subst, arith, le-leb, le-ltb, eq-eqb}
use Rattle.std.proofs.Math.Bool.{true, false}
use Rattle.std.proofs.Math.Option.{some}
use Rattle.std.proofs.Math.Seq.{drop-append_seam}
use Rattle.machine.specs.Step.{speak}
use Rattle.machine.specs.Ask.{done, byte, either, ◌>>=◌, ask, Eat, eat, decide, moved, settle}
use Rattle.machine.proofs.AskLaws.{ask_byte, ask_true, ask_false, ask_done, ask_then, then_ask, decide_made, decide_further}
use Rattle.rules.specs.Search.{sync_length, unit_length}
use Rattle.rules.specs.Request.{directory, even, closing, body, unit, unit_of, pass_on, handed, act}
use Rattle.rules.specs.Units.{begins_major, is_major, length_at, skipped, opening, IsUnit}
use Rattle.rules.proofs.MeaningLaws.{done_tells, then_tells, directory_tells}
use Rattle.rules.proofs.UnitLaws.{skips_much}
use Rattle.rules.proofs.BoundLaws.{directory_bounded}
use Rattle.rules.proofs.StepLaws.{step, step_locked}
use Rattle.rules.specs.declared.Stream.{Stream}
use Rattle.rules.specs.declared.Verdict.{Verdict}
use Rattle.rules.specs.declared.Verdict.TheVariants.{Lost, Whole}
use Rattle.rules.specs.declared.Loss.TheVariants.{Mismatch}

abbrev whole : List ℕ → Bool → Eat Verdict
whole b major = record { eaten = length b; answer = Whole major }

module _ (k : ℕ) (b : List ℕ) (some-streams : 1 ≤ k) (h : IsUnit b k) where
  directory_inside : 6 + h.skip ≤ length b
  directory_inside =
      let d = directory_bounded k (4 + h.skip) (opening b) b h.end h.walks in
      let i = h.inside in
      omega arith

  closing_whole : (major : Bool) → ask (closing major h.end) b ≡ some (whole b major)
  unfolding closing unit_length
  closing_whole major =
      ask_true (even h.end.parity) _ _ b right ∙ ask_byte 0 _ b (omega (arith, directory_inside)) ∙ ask_byte 1 _ b (omega (arith, directory_inside))
      ∙ ask_false _ _ _ b (le-ltb (length_at b) h.end.place (let i = h.inside in let c = h.counted in omega arith))
      ∙ ask_done _ b ∙ ap (λ n. some (record { eaten = n; answer = Whole major })) (sym h.counted)
    where
      right : even h.end.parity ≡ true
      right = ap even (directory_tells k (4 + h.skip) (opening b) b h.end (omega (arith, directory_inside)) h.walks).1 ∙ h.parity

  body_whole : (major : Bool) → ask (body k major h.skip) b ≡ some (whole b major)
  unfolding body
  body_whole major =
      ask_byte 0 _ b (omega (arith, directory_inside)) ∙ ask_byte 1 _ b (omega (arith, directory_inside)) ∙ ask_byte 2 _ b (omega (arith, directory_inside))
      ∙ ask_byte 3 _ b (omega (arith, directory_inside)) ∙ ask_then (directory k (4 + h.skip) (opening b)) (closing major) b
      ∙ ap (then_ask (closing major) b) h.walks ∙ closing_whole major

  major_skips : is_major b ≡ true → ask (sync_length >>= (λ m. body k true (m + 2))) b ≡ some (whole b true)
  unfolding skipped
  major_skips e =
      then_tells _ sync_length (λ m. done (m + 2)) h.skip b
      (λ m reads. done_tells _ (m + 2) h.skip b λ same.
      ask_then sync_length (λ x. body k true (x + 2)) b ∙ ap (then_ask (λ x. body k true (x + 2)) b) reads ∙ ap (λ x. ask (body k true x) b) same ∙ body_whole true)
      (subst (λ t. ask (skipped t) b ≡ some h.skip) e h.skips)

  major_long : is_major b ≡ true → 20 < length b
  major_long e = let m : 28 ≤ h.skip = skips_much b h.skip (subst (λ t. ask (skipped t) b ≡ some h.skip) e h.skips) in omega (arith, directory_inside)

  minor_skips : is_major b ≡ false → h.skip ≡ 0
  unfolding skipped
  minor_skips e = done_tells _ 0 h.skip b sym (subst (λ t. ask (skipped t) b ≡ some h.skip) e h.skips)

  same_test : begins_major b ≡ is_major b
  unfolding is_major
  same_test = rw (le-leb 6 (length b) (omega (arith, directory_inside)))

  -- The question is answered by the unit alone ..
  unit_whole : ask (unit k) b ≡ some (whole b (is_major b))
  unfolding unit
  unit_whole = ask_byte 4 _ b (omega (arith, directory_inside)) ∙ ask_byte 5 _ b (omega (arith, directory_inside)) ∙ go (is_major b) refl
    where
      go : (major : Bool) → is_major b ≡ major → ask (either (begins_major b) (byte 20 (λ x. either (eqb (x / 16) k) (sync_length >>= (λ m. body k true (m + 2))) (eat 1 (Lost Mismatch)))) (body k false 0)) b ≡ some (whole b (is_major b))
      go true e =
          ask_true _ _ _ b (same_test ∙ e) ∙ ask_byte 20 _ b (major_long e) ∙ ask_true _ _ _ b (eq-eqb _ _ (h.agrees e)) ∙ major_skips e ∙ ap (λ t. some (whole b t)) (sym e)
      go false e =
          ask_false _ _ _ b (same_test ∙ e) ∙ ap (λ x. ask (body k false x) b) (sym (minor_skips e)) ∙ body_whole false ∙ ap (λ t. some (whole b t)) (sym e)

  -- .. so it is decided with anything behind it.
  pub unit_decided : (v : List ℕ) → decide (unit k) (b ++ v) ≡ some (whole b (is_major b))
  unit_decided v = decide_further (unit k) b v _ (decide_made (unit k) b _ unit_whole (omega arith))

-- A locked reader at a unit hands it out, and stands behind it.
pub unit_handed_out : (s : Stream) (b v : List ℕ) → s.locked ≡ true → 1 ≤ s.substreams → IsUnit b s.substreams
    → step s (b ++ v) ≡ speak (handed (unit_of s (length b) (is_major b))) (pass_on (length b) s) v
unfolding settle act moved
unit_handed_out s b v l some-streams h =
    step_locked s (b ++ v) l ∙ ap (settle (act s) s (b ++ v)) (unit_decided s.substreams b some-streams h v)
    ∙ ap (speak (handed (unit_of s (length b) (is_major b))) (pass_on (length b) s)) (drop-append_seam b v)
