-- Laws that the documents name, of definitions in the crates below: products modulo a number, the room that is asked as a difference, and what a refused question answers. No contract needs them.
use Rattle.std.specs.Prelude.{◌≡◌, ℕ, ◌+◌, ◌-◌, ◌*◌, ◌/◌, ◌%◌, ◌≤◌, Bool, true, false, leb, Err}
use Rattle.std.proofs.Common.{refl, sym, ap, ◌∙◌, mul_assoc, mul_comm, add-mul, add_comm, div-add-mod', arith, le-leb, leb-true, leb-false}
use Rattle.std.proofs.lemmas.Bool.{lt-leb}
use native.Mathlib.Nat.{add-mul-mod_self_right}
use Rattle.levels.specs.Numbers.{fits_of, room_at}
use Rattle.levels.specs.Questions.{peak_records_of, substream_peaks_of}
use Rattle.levels.specs.declared.Levels.{Levels}
use Rattle.levels.specs.declared.Refusal.TheVariants.{RecordDoesNotFit}

pub reduced_left : (a b m : ℕ) → (a % m * b) % m ≡ (a * b) % m
reduced_left a b m =
    sym (add-mul-mod_self_right (a % m * b) (a / m * b) m)
    ∙ ap (λ (x : ℕ). x % m)
    (add_comm (a % m * b) (a / m * b * m)
    ∙ ap (λ (x : ℕ). x + a % m * b) (mul_assoc (a / m) b m ∙ ap (λ (x : ℕ). a / m * x) (mul_comm b m) ∙ sym (mul_assoc (a / m) m b))
    ∙ sym (add-mul (a / m * m) (a % m) b)
    ∙ ap (λ (x : ℕ). x * b) (div-add-mod' a m))

pub reduced_right : (a b m : ℕ) → (a * (b % m)) % m ≡ (a * b) % m
reduced_right a b m =
    ap (λ (x : ℕ). x % m) (mul_comm a (b % m)) ∙ reduced_left b a m ∙ ap (λ (x : ℕ). x % m) (mul_comm b a)

asked_by : (depth bytes : ℕ) → bytes ≤ 4294967295 → (b : Bool) → leb depth (4294967295 - bytes) ≡ b → leb depth (4294967295 - bytes) ≡ leb (depth + bytes) 4294967295
asked_by depth bytes h true e = e ∙ sym (le-leb (depth + bytes) 4294967295 (let l = leb-true _ _ e in omega arith))
asked_by depth bytes h false e = e ∙ sym (lt-leb (depth + bytes) 4294967295 (let l = leb-false _ _ e in omega arith))

-- asked as a difference, the sum's test
pub room_asked : (depth bytes : ℕ) → bytes ≤ 4294967295 → leb depth (4294967295 - bytes) ≡ room_at depth bytes
unfolding room_at
room_asked depth bytes h = asked_by depth bytes h (leb depth (4294967295 - bytes)) refl

module _ (l : Levels) {x : Bool} (e : x ≡ fits_of l) (off : x ≡ false) where
  pub peak_records_refused : Err RecordDoesNotFit ≡ peak_records_of l
  unfolding peak_records_of
  peak_records_refused = rw (← e, off)

  pub substream_peaks_refused : Err RecordDoesNotFit ≡ substream_peaks_of l
  unfolding substream_peaks_of
  substream_peaks_refused = rw (← e, off)
