-- Laws: the words that a call leaves are read by the next call as the record that the library left. So a chain of exported calls is the chain of the
-- library's. A record's numbers are of any size in the logic; `Held` says of them what their types say of every value that runs.
use Rattle.std.specs.Prelude.{ℕ, ◌<◌, ◌/◌, ◌%◌, ◌≡◌, Bool, true, false, List, [], ◌∷◌, eqb, length, Err, None, Ok, Option, Result, Some}
use Rattle.std.proofs.Common.{ap, arith}
use Rattle.std.proofs.Math.Path.{refl, subst}
use Rattle.machine.specs.Always.{AfterRequest}
use Rattle.machine.specs.Scan as Scan
use Rattle.crc.specs.declared.Algorithm.{Algorithm}
use Rattle.timestamp.specs.declared.Timestamp.{Timestamp}
use Rattle.laws.specs.Words.{word_at}
use Rattle.laws.specs.Flags.{yes_of, yes_flag}
use Rattle.timestamp.specs.Timestamp.{rate_of, rate_code, parse_of, stamp_of as fieldsStamp}
use Rattle.timestamp.specs.Laws.{OfStamp, code_of_rate, every_parse}
use Rattle.laws.specs.Pick.{pick, pick_holds}
use Rattle.rules.specs.declared.Stream.{Stream}
use Rattle.rules.specs.Request.{Event, handed, too_short, failed}
use Rattle.rules.proofs.CarryLaws.{Carried, carried_request}
use Rattle.extract.specs.Record.{fits_of, unread, opened}
use Rattle.extract.specs.Calls.{push_answer_of, place_of, grown, on_accepted, pushed_of, left_at, answered_of, asked_of}
use Rattle.extract.specs.declared.Extractor.{Extractor}
use Rattle.extract.specs.declared.Refusal.{Refusal}
use Rattle.extract.specs.declared.Refusal.TheVariants.{Record, Pushes, Total, Room}
use Rattle.extract.specs.declared.Answer.TheVariants.{InsufficientData, Quiet}
use Rattle.extract.specs.declared.Asked.{Asked}
use Rattle.record_words.specs.Words.{half, stamp_of, waiting_of, stamp_words, stamp_on, check_of, stream_of, reader_of, left_on, reader_on}
use Rattle.record_words.specs.UpToLaws.{up_to_lem}
use Rattle.exports.specs.Answers.{placed_on, pushed_on, asked_number, asked_on}

-- 1. A number goes into its word and back.

half_of : (n : ℕ) → n < 65536 → half n ≡ n
half_of n h = omega arith

low : (n : ℕ) → n < 256 → n % 256 ≡ n
low n h = omega arith

-- 2. A timestamp: the rate is the one that its code says, and the numbers are what their types hold.

pub record HeldStamp (t : Timestamp) : Type 0 where
  pub hours : t.hours < 65536
  pub minutes : t.minutes < 65536
  pub seconds : t.seconds < 65536
  pub frames : t.frames < 65536
  pub samples : t.samples < 65536
  pub reserved1 : t.reserved1 < 65536
  pub code : rate_code t.framerate < 256

abbrev pub Coded : Timestamp → Type 0
Coded t = rate_of (rate_code t.framerate) ≡ t.framerate

-- every code of a rate, and so every rate that a parse or the words give
rate_coded : (n : ℕ) → rate_of (rate_code (rate_of n)) ≡ rate_of n
rate_coded n = ap rate_of (code_of_rate n)

fields_coded : (h m x f samples flags : ℕ) → Coded (fieldsStamp h m x f samples flags)
unfolding fieldsStamp
fields_coded h m x f samples flags = rate_coded (flags / 4 % 16)

pub parsed_coded : (bs : List ℕ) (t : Timestamp) → parse_of bs ≡ Ok t → Coded t
parsed_coded bs t e = subst (OfStamp Coded) e (every_parse (OfStamp Coded) tt bs tt tt (λ h m x f. fields_coded h m x f (word_at bs 10) (word_at bs 12)))

-- 3. The whole record: 24 words of any value, and a record laid on them.

abbrev pub HeldWaiting : Option Timestamp → Type 0
HeldWaiting None = Unit {0}
HeldWaiting (Some t) = HeldStamp t

abbrev pub CodedWaiting : Option Timestamp → Type 0
CodedWaiting None = Unit {0}
CodedWaiting (Some t) = Coded t

-- what the types and number 1 say of a record
pub record Held (e : Extractor) : Type 0 where
  pub unanswered : e.unanswered < 65536
  pub substreams : e.stream.substreams < 16
  pub waiting : HeldWaiting e.stream.waiting

-- a timestamp that waits, if one does
coded_of : (w : Option Timestamp) → ((t : Timestamp) → w ≡ Some t → Coded t) → CodedWaiting w
coded_of None h = tt
coded_of (Some t) h = h t refl

-- dry is 7 or 8, and not 1
dry_number : (b : Bool) → eqb (asked_number (Ok (pick b InsufficientData Quiet))) 1 ≡ false
dry_number true = refl
dry_number false = refl

module _ (w0 w1 w2 w3 w4 w5 w6 w7 w8 w9 w10 w11 w12 w13 w14 w15 w16 w17 w18 w19 w20 w21 w22 w23 : ℕ) where
  abbrev pub words : List ℕ
  words = w0 ∷ w1 ∷ w2 ∷ w3 ∷ w4 ∷ w5 ∷ w6 ∷ w7 ∷ w8 ∷ w9 ∷ w10 ∷ w11 ∷ w12 ∷ w13 ∷ w14 ∷ w15 ∷ w16 ∷ w17 ∷ w18 ∷ w19 ∷ w20 ∷ w21 ∷ w22 ∷ w23 ∷ []

  -- the record with these numbers, and with the words' own end, total and setting
  abbrev made : ℕ → ℕ → ℕ → ℕ → ℕ → ℕ → Bool → Bool → Option Timestamp → Extractor
  made start unanswered consumed frames errors substreams locked seen w =
      record {
        start = start;
        end = w11;
        accepted = w12;
        unanswered = unanswered;
        stream =
            record {
              consumed = record { 0 = consumed };
              frames = frames;
              losses = record { errors = errors };
              substreams = substreams;
              locked = locked;
              seen = seen;
              waiting = w;
              check = check_of words;
            };
      }

  abbrev Back : ℕ → ℕ → ℕ → ℕ → ℕ → ℕ → Bool → Bool → Option Timestamp → Type 0
  Back start unanswered consumed frames errors substreams locked seen w =
      reader_of (left_on words (made start unanswered consumed frames errors substreams locked seen w)) ≡ made start unanswered consumed frames errors substreams locked seen w

  -- a request leaves the end, the total and the setting where they were
  record_back : (start unanswered consumed frames errors substreams : ℕ) (locked seen : Bool) (w : Option Timestamp) → unanswered < 65536 → substreams < 16
      → HeldWaiting w → CodedWaiting w → Back start unanswered consumed frames errors substreams locked seen w
  unfolding left_on reader_of stream_of check_of stamp_on stamp_words waiting_of stamp_of
  record_back start unanswered consumed frames errors substreams locked seen None n k h c =
      rw (← (up_to_lem 65536 unanswered n), ← (up_to_lem 16 substreams k), yes_flag locked, yes_flag seen)
  record_back start unanswered consumed frames errors substreams locked seen (Some t) n k h c =
      rw (
        ← (up_to_lem 65536 unanswered n),
        ← (up_to_lem 16 substreams k),
        yes_flag locked,
        yes_flag seen,
        half_of t.hours h.hours,
        half_of t.minutes h.minutes,
        half_of t.seconds h.seconds,
        half_of t.frames h.frames,
        half_of t.samples h.samples,
        half_of t.reserved1 h.reserved1,
        low (rate_code t.framerate) h.code,
        c,
        yes_flag t.reserved2,
        yes_flag t.dropframe,
      )

  left_back : (e : Extractor) → e.end ≡ w11 → e.accepted ≡ w12 → e.stream.check ≡ check_of words → Held e → CodedWaiting e.stream.waiting
      → reader_of (left_on words e) ≡ e
  left_back e a b c h k =
      let same
      : made e.start e.unanswered e.stream.consumed.0 e.stream.frames e.stream.losses.errors e.stream.substreams e.stream.locked e.stream.seen
      e.stream.waiting
      ≡ e
      = rw (← c, ← a, ← b) in
      subst (λ (x : Extractor). reader_of (left_on words x) ≡ x) same
      (record_back e.start e.unanswered e.stream.consumed.0 e.stream.frames e.stream.losses.errors e.stream.substreams e.stream.locked e.stream.seen
      e.stream.waiting h.unanswered h.substreams h.waiting k)

  -- what the words say is a rate by its code
  words_coded : CodedWaiting (waiting_of words)
  unfolding waiting_of stamp_of
  words_coded = pick_holds CodedWaiting (yes_of w0) _ _ (λ e. rate_coded (w7 % 256)) (λ e. tt)

  reads_carried : Carried Coded parsed_coded (check_of words) (reader_of words).stream
  unfolding reader_of stream_of
  reads_carried = record { check = refl; waits = λ t e. subst CodedWaiting e words_coded }

  -- the record with the unread bytes elsewhere, of another total and other pushes
  abbrev placed : ℕ → ℕ → ℕ → ℕ → Extractor
  placed start end accepted unanswered =
      record { start = start; end = end; accepted = accepted; unanswered = unanswered; stream = (reader_of words).stream }

  reads_end : (reader_of words).end ≡ w11
  unfolding reader_of
  reads_end = refl

  reads_total : (reader_of words).accepted ≡ w12
  unfolding reader_of
  reads_total = refl

  -- A REQUEST: the words that it leaves are read as the record that it left.
  abbrev Returns : Asked → Type 0
  Returns a = Held a.extractor → reader_of (asked_on words (asked_number a.answer) a.extractor) ≡ a.extractor

  at_back : (pushes at : ℕ) (s : Stream) → Carried Coded parsed_coded (check_of words) s → Held (left_at (reader_of words) pushes at s)
      → reader_of (left_on words (left_at (reader_of words) pushes at s)) ≡ left_at (reader_of words) pushes at s
  at_back pushes at s k h = left_back (left_at (reader_of words) pushes at s) reads_end reads_total k.check h (coded_of s.waiting k.waits)

  answered_back : (x : Scan.Answer Stream Event) → AfterRequest (λ es s u. Carried Coded parsed_coded (check_of words) s) [] x → Returns (answered_of (reader_of words) x)
  unfolding answered_of asked_on
  answered_back (Scan.ran_dry s u) k h = rw (dry_number s.locked) (at_back _ _ s k h)
  answered_back (Scan.spoke (handed x) s u) k h = at_back _ _ s k h
  answered_back (Scan.spoke (too_short a m p) s u) k h = at_back _ _ s k h
  answered_back (Scan.spoke (failed p) s u) k h = at_back _ _ s k h

  refused_back : Returns (record { extractor = reader_of words; answer = Err Record })
  unfolding asked_on
  refused_back h = refl

  idle_back : Returns (record { extractor = reader_of words; answer = Ok Quiet })
  unfolding asked_on
  idle_back h = left_back (reader_of words) reads_end reads_total reads_carried.check h (coded_of _ reads_carried.waits)

  pub next_there_and_back : (buf : List ℕ) → Returns (asked_of (reader_of words) buf)
  unfolding asked_of
  next_there_and_back buf =
      pick_holds Returns (fits_of (reader_of words) (length buf)) _ _
      (λ f.
      pick_holds Returns (eqb (reader_of words).unanswered 0) _ _ (λ z. idle_back)
      (λ z. answered_back _ (carried_request Coded parsed_coded (check_of words) (reader_of words).stream (unread (reader_of words) buf) reads_carried)))
      (λ f. refused_back)

  -- OPENING, likewise: a setting's polynomial and start have 16 bits.
  pub open_there_and_back : (c : Algorithm) → c.poly < 65536 → c.init < 65536 → reader_of (reader_on words (opened c)) ≡ opened c
  unfolding reader_on left_on stamp_on reader_of stream_of waiting_of check_of
  open_there_and_back c p i = rw (half_of c.poly p, half_of c.init i, yes_flag c.zeros)

  -- A PIECE, likewise.
  placed_back : (start end accepted unanswered : ℕ) → unanswered < 65536
      → reader_of (placed_on words (placed start end accepted unanswered)) ≡ placed start end accepted unanswered
  unfolding reader_of stream_of waiting_of stamp_of check_of
  placed_back start end accepted unanswered h = rw (← (up_to_lem 65536 unanswered h))

  pub push_there_and_back : (n k : ℕ) → (pushed_of (reader_of words) n k).extractor.unanswered < 65536
      → reader_of (pushed_on words (pushed_of (reader_of words) n k)) ≡ (pushed_of (reader_of words) n k).extractor
  unfolding pushed_of pushed_on
  push_there_and_back n k = go (push_answer_of (reader_of words) n k)
    where
      go : (a : Result (Unit {0}) Refusal) → (on_accepted a (grown (reader_of words) (place_of (reader_of words) n k) k) (reader_of words)).unanswered < 65536
          → reader_of (pushed_on words (record { extractor = on_accepted a (grown (reader_of words) (place_of (reader_of words) n k) k) (reader_of words); answer = a }))
          ≡ on_accepted a (grown (reader_of words) (place_of (reader_of words) n k) k) (reader_of words)
      go (Ok u) h = placed_back _ _ _ _ h
      go (Err Record) h = refl
      go (Err Pushes) h = refl
      go (Err Total) h = refl
      go (Err Room) h = refl
