-- Where there is room for all of them, words put one behind the other are one word put at the first one's place; and a line has room in 80 bytes.
use Rattle.std.specs.Prelude.{ℕ, zero, suc, ◌+◌, ◌/◌, ◌%◌, ◌^◌, ◌*◌, ◌≤◌, ◌<◌, ◌≡◌, refl, Bool, true, false, List, [], ◌∷◌, ◌++◌, ltb, length, take, drop, None, Option, Some}
use Rattle.std.proofs.Common.{pow-suc, add-zero, arith, ltb-false, sym, ap, ap₂, ◌∙◌, append_assoc, length-append, drop-drop}
use Rattle.std.proofs.Math.Seq.{paste, paste-zero, take-length}
use Rattle.std.proofs.lemmas.List.Edits.{length-paste, take-paste, drop-paste}
use Rattle.laws.specs.Pick.{pick}
use Rattle.rules.specs.declared.Unit.{Unit as TheUnit}
use Rattle.text.specs.Put.{put_of, decimal_in, decimal_of}
use Rattle.text.specs.PutLaws.{put_room, end_room}
use Rattle.lines.specs.Gather.{sheet}
use Rattle.lines.specs.Lines.{bad_text, end_text, kind_text, stamp_text, pair_line_words, unit_words, joined, unit_line, bad_line, end_line, puts}
use Rattle.timestamp.specs.declared.Timestamp.{Timestamp}

-- a word that has room
pub length_put : (d : List ℕ) (at : ℕ) (w : List ℕ) → at + length w ≤ length d → length (put_of d at w) ≡ length d
length_put d at w room = ap length (sym (put_room d w at room)) ∙ length-paste d at w (length w) room (omega arith)

paste_joins : (d : List ℕ) (at : ℕ) (w v : List ℕ) → at + length w + length v ≤ length d
    → paste (paste d at w (length w)) (at + length w) v (length v) ≡ paste d at (w ++ v) (length (w ++ v))
paste_joins d at w v room =
    let before = take-paste d at w (length w) (omega arith) (omega arith) in
    let behind = drop-paste d at w (length w) (omega arith) (omega arith) in
    let whole : length (w ++ v) ≡ length w + length v = length-append w v in
    let places : at + length w + length v ≡ at + length (w ++ v) = omega arith in
    ap₂ (λ (s t : List ℕ). (s ++ take (length v) v) ++ t) before
    (sym (drop-drop (length v) (at + length w) (paste d at w (length w))) ∙ ap (drop (length v)) behind ∙ drop-drop (length v) (at + length w) d ∙ ap (λ (k : ℕ). drop k d) places)
    ∙ ap₂ (λ (s t : List ℕ). ((take at d ++ s) ++ t) ++ drop (at + length (w ++ v)) d) (take-length w) (take-length v)
    ∙ ap (λ (s : List ℕ). s ++ drop (at + length (w ++ v)) d) (append_assoc (take at d) w v ∙ ap (λ (s : List ℕ). take at d ++ s) (sym (take-length (w ++ v))))

put_joins : (d : List ℕ) (at : ℕ) (w v : List ℕ) → at + length w + length v ≤ length d → put_of (put_of d at w) (at + length w) v ≡ put_of d at (w ++ v)
put_joins d at w v room =
    let whole : length (w ++ v) ≡ length w + length v = length-append w v in
    let l = length_put d at w (omega arith) in
    sym (put_room (put_of d at w) v (at + length w) (omega arith))
    ∙ ap (λ (b : List ℕ). paste b (at + length w) v (length v)) (sym (put_room d w at (omega arith)))
    ∙ paste_joins d at w v room
    ∙ put_room d (w ++ v) at (omega arith)

put_nothing : (d : List ℕ) (at : ℕ) → at ≤ length d → d ≡ put_of d at []
put_nothing d at h = paste-zero d at [] ∙ put_room d [] at (omega arith)

-- THE WORDS ARE ONE WORD
pub puts_whole : (ws : List (List ℕ)) (d : List ℕ) (at : ℕ) → at + length (joined ws) ≤ length d → puts d at ws ≡ sheet (put_of d at (joined ws)) (at + length (joined ws))
unfolding puts
puts_whole [] d at room = ap₂ sheet (put_nothing d at (omega arith)) (sym (add-zero at))
puts_whole (w ∷ ws) d at room =
    let whole : length (w ++ joined ws) ≡ length w + length (joined ws) = length-append w (joined ws) in
    let l = length_put d at w (omega arith) in
    ap (λ (k : ℕ). puts (put_of d at w) k ws) (sym (end_room (length d) at (length w) (omega arith)))
    ∙ puts_whole ws (put_of d at w) (at + length w) (omega arith)
    ∙ ap₂ sheet (put_joins d at w (joined ws) (omega arith)) (omega arith)

-- a number below 10 to the k has at most k digits, and one at least
short_by : (f k n : ℕ) → n < 10 ^ suc k → ((j m : ℕ) → m < 10 ^ suc j → length (decimal_in f m) ≤ suc j) → (t : Bool) → ltb n 10 ≡ t
    → length (pick t ((48 + n) ∷ []) (decimal_in f (n / 10) ++ ((48 + n % 10) ∷ []))) ≤ suc k
short_by f k n h rest true e = omega arith
short_by f zero n h rest false e = absurd (let l : 10 ≤ n = ltb-false n 10 e in let m : n < 10 = h in omega arith)
short_by f (suc k) n h rest false e =
    let m : n < 10 ^ suc k * 10 = rw pow-suc at h in
    let l : length (decimal_in f (n / 10)) ≤ suc k = rest k (n / 10) (omega arith) in
    rw length-append (omega arith)

short_in : (f k n : ℕ) → n < 10 ^ suc k → length (decimal_in f n) ≤ suc k
unfolding decimal_in
short_in zero k n h = omega arith
short_in (suc f) k n h = short_by f k n h (short_in f) (ltb n 10) refl

-- a number of 64 bits has at most 20
pub decimal_short : (n : ℕ) → n < 2 ^ 64 → length (decimal_of n) ≤ 20
unfolding decimal_of
decimal_short n h = short_in n 19 n (let l : n < 18446744073709551616 = h in omega arith)

kind_short : (major : Bool) → length (kind_text major) ≤ 6
kind_short true = omega arith
kind_short false = omega arith

stamp_short : (w : Option Timestamp) → length (stamp_text w) ≤ 4
stamp_short None = omega arith
stamp_short (Some t) = omega arith

-- A LINE HAS ROOM IN 80 BYTES
pub unit_short : (u : TheUnit) → u.index < 2 ^ 64 → u.position.0 < 2 ^ 64 → u.length < 2 ^ 64 → length (unit_line u) ≤ 75
unfolding unit_line
unit_short u i p l =
    let ei = decimal_short u.index i in
    let ep = decimal_short u.position.0 p in
    let el = decimal_short u.length l in
    let ek = kind_short u.major in
    let es = stamp_short u.waiting in
    simp length-append (omega arith)

pub pair_short : (label : List ℕ) (a b : ℕ) → length label ≤ 4 → a < 2 ^ 64 → b < 2 ^ 64 → length (joined (pair_line_words label a b)) ≤ 46
pair_short label a b l ha hb =
    let ea = decimal_short a ha in
    let eb = decimal_short b hb in
    simp length-append (omega arith)

-- so what `put_unit` writes where `gather` leaves it 80 bytes is the unit's line, and no byte else
pub unit_whole : (u : TheUnit) → u.index < 2 ^ 64 → u.position.0 < 2 ^ 64 → u.length < 2 ^ 64 → (d : List ℕ) (at : ℕ) → at + 80 ≤ length d
    → puts d at (unit_words u) ≡ sheet (put_of d at (unit_line u)) (at + length (unit_line u))
unfolding unit_line
unit_whole u i p l d at room = let s : length (joined (unit_words u)) ≤ 75 = unit_short u i p l in puts_whole (unit_words u) d at (omega arith)

-- and what `put_pair_line` writes there is the line of a spoken error, or the last
bad_or_end : (label : List ℕ) → length label ≤ 4 → (a b : ℕ) → a < 2 ^ 64 → b < 2 ^ 64 → (d : List ℕ) (at : ℕ) → at + 80 ≤ length d
    → puts d at (pair_line_words label a b) ≡ sheet (put_of d at (joined (pair_line_words label a b))) (at + length (joined (pair_line_words label a b)))
bad_or_end label l a b ha hb d at room =
    let s : length (joined (pair_line_words label a b)) ≤ 46 = pair_short label a b l ha hb in puts_whole (pair_line_words label a b) d at (omega arith)

module _ (d : List ℕ) (at : ℕ) (room : at + 80 ≤ length d) where
  pub bad_whole : (number position : ℕ) → number < 2 ^ 64 → position < 2 ^ 64
      → puts d at (pair_line_words bad_text number position) ≡ sheet (put_of d at (bad_line number position)) (at + length (bad_line number position))
  unfolding bad_line
  bad_whole n p hn hp = bad_or_end bad_text (omega arith) n p hn hp d at room

  pub end_whole : (position errors : ℕ) → position < 2 ^ 64 → errors < 2 ^ 64
      → puts d at (pair_line_words end_text position errors) ≡ sheet (put_of d at (end_line position errors)) (at + length (end_line position errors))
  unfolding end_line
  end_whole p e hp he = bad_or_end end_text (omega arith) p e hp he d at room
