-- A scan of the places before an end: what the range finds is the first place of the rules.
use Rattle.std.proofs.Common.{◌≡◌, ℕ, zero, suc, ◌-◌, Bool, true, false, Option, Some, None, unwrap_or, option_map, refl, sym, ap, ◌∙◌, add-one, find, min, List, length}
use Rattle.std.specs.List.{range_with_len}
use Rattle.std.specs.Fn.{CalledAt}
use Rattle.std.specs.Iterator.{FindsItem}
use Rattle.std.proofs.iter.Yields.{nat_range_steps}
use Rattle.std.proofs.lemmas.Iterator.{YieldsList-from_range}
use Rattle.std.proofs.lemmas.Iterator.Search.{find_from_yields_List}
use denote.Param.Members.{Mut}
use denote.Ref.{Bor}
use Rattle.laws.specs.First.{first_from}
use Rattle.std.specs.declared.ops.Range.{Range}
use Rattle.text.specs.declared.Word.{Word}
use Rattle.text.specs.Text.{place_or, stop, word_from, word_to, next_word_of}

one_by : (p : ℕ → Bool) (i n end : ℕ) → unwrap_or (find p (range_with_len (suc i) n)) end ≡ place_or end (first_from p (suc i) n) → (t : Bool) → p i ≡ t
    → unwrap_or (find p (range_with_len i (suc n))) end ≡ place_or end (first_from p i (suc n))
unfolding first_from
one_by p i n end e true t = rw t
one_by p i n end e false t = rw (t, add-one) e

one_each : (p : ℕ → Bool) (n i end : ℕ) → unwrap_or (find p (range_with_len i n)) end ≡ place_or end (first_from p i n)
unfolding first_from
one_each p zero i end = refl
one_each p (suc n) i end = one_by p i n end (one_each p n (suc i) end) (p i) refl

same_option : (r : Option ℕ) → option_map (λ x. x) r ≡ r
same_option (Some x) = refl
same_option None = refl

-- what `(i..end).find(..).unwrap_or(end)` gives, where the closure is the test
pub stop_found : {F : Type 0} {g : Mut F (Bor ℕ × Unit {0}) Bool} (p : ℕ → Bool) (i end : ℕ) (u : Range ℕ) (f : F) (r : Option ℕ) {x : ℕ}
    → FindsItem nat_range_steps g (record { start = i; end = end }) f r u → ((k : ℕ) (b : Bool) (q : F) → CalledAt g f k b q → (q ≡ f) × (b ≡ p k))
    → x ≡ unwrap_or r end → x ≡ stop p i end
unfolding stop
stop_found p i end u f r ran same e =
    let found : option_map (λ k. k) r ≡ find p (range_with_len i (end - i)) = find_from_yields_List p u f r ran (YieldsList-from_range i end (end - i) refl refl) same in
    e ∙ ap (λ o. unwrap_or o end) (sym (same_option r) ∙ found) ∙ one_each p (end - i) i end

pub next_word_is : (s : List ℕ) (at end : ℕ) {last from to : ℕ} → last ≡ min end (length s) → from ≡ word_from s at last → to ≡ word_to s from last
    → ◌≡◌ {A = Word} (record { from = from; to = to }) (next_word_of s at end)
unfolding next_word_of
next_word_is s at end el ef et = rw (et, ef, el)
