-- What the words of a record say, and how a record is laid on them: definitions only. The words' places are listed in src/lib.rt.
use Rattle.std.specs.Prelude.{ℕ, ◌%◌, List, ltb, get_or, set, None, Option, Some}
use Rattle.laws.specs.Pick.{pick}
use Rattle.laws.specs.Flags.{yes_of, flag_of}
use Rattle.crc.specs.declared.Algorithm.{Algorithm}
use Rattle.timestamp.specs.declared.Timestamp.{Timestamp}
use Rattle.timestamp.specs.Timestamp.{rate_of, rate_code}
use Rattle.rules.specs.declared.Stream.{Stream}
use Rattle.extract.specs.declared.Extractor.{Extractor}

abbrev pub word : List ℕ → ℕ → ℕ
word ws k = get_or ws k 0

-- the low 16 bits; and a word read whole up to a limit, so that what number 1 refuses stays refused
abbrev pub half : ℕ → ℕ
half w = w % 65536

abbrev pub up_to : ℕ → ℕ → ℕ
up_to limit w = pick (ltb w limit) w limit

-- a timestamp, if there is one
unfoldable pub stamp_of : List ℕ → Timestamp
stamp_of ws =
    record {
      hours = half (word ws 1);
      minutes = half (word ws 2);
      seconds = half (word ws 3);
      frames = half (word ws 4);
      samples = half (word ws 5);
      reserved1 = half (word ws 6);
      framerate = rate_of (word ws 7 % 256);
      reserved2 = yes_of (word ws 8);
      dropframe = yes_of (word ws 9);
    }

unfoldable pub waiting_of : List ℕ → Option Timestamp
waiting_of ws = pick (yes_of (word ws 0)) (Some (stamp_of ws)) None

unfoldable pub stamp_words : List ℕ → Timestamp → List ℕ
stamp_words ws t =
    set
    (set
    (set
    (set
    (set
    (set
    (set
    (set
    (set
    (set ws 0 1)
    1 t.hours)
    2 t.minutes)
    3 t.seconds)
    4 t.frames)
    5 t.samples)
    6 t.reserved1)
    7 (rate_code t.framerate))
    8 (flag_of t.reserved2))
    9 (flag_of t.dropframe)

unfoldable pub stamp_on : List ℕ → Option Timestamp → List ℕ
stamp_on ws None = set ws 0 0
stamp_on ws (Some t) = stamp_words ws t

-- the check's setting, as it is given at opening and as the words say it
abbrev pub setting_of : ℕ → ℕ → ℕ → Algorithm
setting_of poly init zeros = record { poly = poly; init = init; zeros = yes_of zeros }

unfoldable pub check_of : List ℕ → Algorithm
check_of ws = setting_of (half (word ws 20)) (half (word ws 21)) (word ws 22)

-- the stream, and the record
unfoldable pub stream_of : List ℕ → Stream
stream_of ws =
    record {
      consumed = record { 0 = word ws 14 };
      frames = word ws 15;
      losses = record { errors = word ws 16 };
      substreams = up_to 16 (word ws 17);
      locked = yes_of (word ws 18);
      seen = yes_of (word ws 19);
      waiting = waiting_of ws;
      check = check_of ws;
    }

unfoldable pub reader_of : List ℕ → Extractor
reader_of ws = record { start = word ws 10; end = word ws 11; accepted = word ws 12; unanswered = up_to 65536 (word ws 13); stream = stream_of ws }

-- what a request may change of a record
unfoldable pub left_on : List ℕ → Extractor → List ℕ
left_on ws e =
    stamp_on
    (set
    (set
    (set
    (set
    (set
    (set
    (set
    (set ws 10 e.start)
    13 e.unanswered)
    14 e.stream.consumed.0)
    15 e.stream.frames)
    16 e.stream.losses.errors)
    17 e.stream.substreams)
    18 (flag_of e.stream.locked))
    19 (flag_of e.stream.seen))
    e.stream.waiting

-- the whole record
unfoldable pub reader_on : List ℕ → Extractor → List ℕ
reader_on ws e =
    left_on
    (set
    (set
    (set
    (set
    (set ws 11 e.end)
    12 e.accepted)
    20 e.stream.check.poly)
    21 e.stream.check.init)
    22 (flag_of e.stream.check.zeros))
    e
