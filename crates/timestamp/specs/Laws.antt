-- What holds of every parse, and the cases P6 and P7 of document 01.
use Rattle.std.specs.Prelude.{ℕ, ◌/◌, ◌%◌, ◌≤◌, ◌<◌, ◌≡◌, refl, ◌⊎◌, Bool, true, false, ◌&&◌, ◌||◌, List, [], ◌∷◌, ◌++◌, T, ltb, leb, eqb, length, replicate, Err, None, Ok, Option, Result, Some}
use Rattle.std.proofs.Common.{arith, inl, inr, length-append}
use borrow.Author.Tests.{le-ltb, lt-ltb, eq-eqb, ne_eqb}
use Rattle.laws.specs.Pick.{pick_holds}
use Rattle.laws.specs.Table.{at_each}
use Rattle.laws.specs.Words.{word_at, word_at_further}
use Rattle.timestamp.specs.Timestamp.{refusal, bcd_of, rate_of, rate_code, stamp_of, with_digits, fields_of, parse_of}
use Rattle.timestamp.specs.declared.Framerate.{Framerate}
use Rattle.timestamp.specs.declared.Framerate.TheVariants.{R23_976, R24, R25, R29_97, R30, R50, R59_94, R60, Invalid}
use Rattle.timestamp.specs.declared.Timestamp.{Timestamp}
use Rattle.timestamp.specs.declared.TimestampError.TheVariants.{InsufficientData, InvalidSyncBytes, InvalidBcdDigit}
use Rattle.timestamp.specs.declared.TimestampError.{TimestampError}

-- "any more being ignored"
pub parse_ignores_the_rest : (s v : List ℕ) → 16 ≤ length s → parse_of (s ++ v) ≡ parse_of s
unfolding parse_of fields_of
parse_ignores_the_rest s v h =
    simp
    (le-ltb (length (s ++ v)) 16 (rw length-append (omega arith)), le-ltb (length s) 16 h, word_at_further s v 0 (omega arith), word_at_further s v 2 (omega arith), word_at_further s v 4 (omega arith), word_at_further s v 6 (omega arith), word_at_further s v 8 (omega arith), word_at_further s v 10 (omega arith), word_at_further s v 12 (omega arith), word_at_further s v 14 (omega arith))

-- P6
pub p6 :
    parse_of (0x01 ∷ 0x10 ∷ 0x00 ∷ 0x02 ∷ 0x00 ∷ 0x34 ∷ 0x00 ∷ 0x56 ∷ 0x00 ∷ 0x23 ∷ 0x00 ∷ 0x00 ∷ 0x00 ∷ 0x04 ∷ 0x80 ∷ 0x00 ∷ [])
    ≡ Ok
    (record {
      hours = 2;
      minutes = 34;
      seconds = 56;
      frames = 23;
      samples = 0;
      reserved1 = 0;
      framerate = R23_976;
      reserved2 = false;
      dropframe = false;
    })
unfolding parse_of fields_of bcd_of stamp_of rate_of
p6 = refl

-- P7: the same with 0A in byte 3
pub p7 :
    refusal (parse_of (0x01 ∷ 0x10 ∷ 0x00 ∷ 0x0A ∷ 0x00 ∷ 0x34 ∷ 0x00 ∷ 0x56 ∷ 0x00 ∷ 0x23 ∷ 0x00 ∷ 0x00 ∷ 0x00 ∷ 0x04 ∷ 0x80 ∷ 0x00 ∷ []))
    ≡ 11
unfolding parse_of fields_of bcd_of
p7 = refl

-- A rate that a parse can give: `Invalid` holds what the codes 1 to 8 leave of four bits.
abbrev pub rate_fits : Framerate → Bool
rate_fits R23_976 = true
rate_fits R24 = true
rate_fits R25 = true
rate_fits R29_97 = true
rate_fits R30 = true
rate_fits R50 = true
rate_fits R59_94 = true
rate_fits R60 = true
rate_fits (Invalid n) = eqb n 0 || (leb 9 n && leb n 15)

-- over all sixteen codes at once
rate_fits_lem : (n : ℕ) → n < 16 → T (rate_fits (rate_of n))
unfolding rate_of
rate_fits_lem n h = at_each {A = ℕ} 0 (λ k x. rate_fits (rate_of k)) (replicate 16 0) tt n h

-- a rate's code is the one that it was read from
pub code_of_rate : (n : ℕ) → rate_code (rate_of n) ≡ n
unfolding rate_of
code_of_rate n = grind arith

-- what holds of each stamp and of a digit refused holds of the fields, whatever they are
module _ (P : Result Timestamp TimestampError → Type 0) (no_digit : P (Err InvalidBcdDigit)) where
  with_digits_lem : (d : Option ℕ) {k : ℕ → Result Timestamp TimestampError} → ((n : ℕ) → P (k n)) → P (with_digits d k)
  with_digits_lem (Some n) h = h n
  with_digits_lem None h = no_digit

  pub every_fields : (s : List ℕ) → ((h m x f : ℕ) → P (Ok (stamp_of h m x f (word_at s 10) (word_at s 12)))) → P (fields_of s)
  unfolding fields_of
  every_fields s p =
      with_digits_lem (bcd_of (word_at s 2))
      (λ h. with_digits_lem (bcd_of (word_at s 4)) (λ m. with_digits_lem (bcd_of (word_at s 6)) (λ x. with_digits_lem (bcd_of (word_at s 8)) (λ f. p h m x f))))

  -- and of every answer, if it holds of the other two refusals
  pub every_parse : (s : List ℕ) → P (Err InsufficientData) → P (Err InvalidSyncBytes)
      → ((h m x f : ℕ) → P (Ok (stamp_of h m x f (word_at s 10) (word_at s 12)))) → P (parse_of s)
  unfolding parse_of
  every_parse s short sync p =
      pick_holds P (ltb (length s) 16) _ _ (λ e. short)
      (λ e.
      pick_holds P (eqb (word_at s 0) 0x0110) _ _ (λ a. pick_holds P (eqb (word_at s 14) 0x8000) _ _ (λ z. every_fields s p) (λ z. sync)) (λ a. sync))

-- of an answer: what is to hold of its timestamp, if it has one
abbrev pub OfStamp : (Timestamp → Type 0) → Result Timestamp TimestampError → Type 0
OfStamp P (Ok t) = P t
OfStamp P (Err e) = Unit {0}

-- "else invalid with its number": a parse gives 0 and 9 to 15 there, nothing else
pub parsed_rate_fits : (s : List ℕ) → OfStamp (λ t. T (rate_fits t.framerate)) (parse_of s)
unfolding stamp_of
parsed_rate_fits s = every_parse (OfStamp (λ t. T (rate_fits t.framerate))) tt s tt tt (λ h m x f. rate_fits_lem (word_at s 12 / 4 % 16) (omega arith))

-- Numbers 9, 10 and 11, each exactly on its condition.
module _ (s : List ℕ) where
  pub nine_when_short : length s < 16 → refusal (parse_of s) ≡ 9
  unfolding parse_of
  nine_when_short h = rw (lt-ltb (length s) 16 h)

  module _ (long : 16 ≤ length s) where
    pub ten_when_no_head : (word_at s 0 ≡ 0x0110 → ⊥) → refusal (parse_of s) ≡ 10
    unfolding parse_of
    ten_when_no_head n = rw (le-ltb (length s) 16 long, ne_eqb (word_at s 0) 0x0110 n)

    module _ (head : word_at s 0 ≡ 0x0110) where
      pub ten_when_no_tail : (word_at s 14 ≡ 0x8000 → ⊥) → refusal (parse_of s) ≡ 10
      unfolding parse_of
      ten_when_no_tail n = rw (le-ltb (length s) 16 long, eq-eqb (word_at s 0) 0x0110 head, ne_eqb (word_at s 14) 0x8000 n)

      -- framed: what is left to refuse is a digit
      pub fields_when_framed : word_at s 14 ≡ 0x8000 → parse_of s ≡ fields_of s
      unfolding parse_of
      fields_when_framed tail = rw (le-ltb (length s) 16 long, eq-eqb (word_at s 0) 0x0110 head, eq-eqb (word_at s 14) 0x8000 tail)

pub eleven_or_none : (s : List ℕ) → (refusal (fields_of s) ≡ 0) ⊎ (refusal (fields_of s) ≡ 11)
eleven_or_none s = every_fields (λ r. (refusal r ≡ 0) ⊎ (refusal r ≡ 11)) (inr refl) s (λ h m x f. inl refl)
