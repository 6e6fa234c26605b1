-- What number 1's conditions say, one by one, of a record that fits; and that they are all of it.
use Rattle.std.specs.Prelude.{ℕ, ◌+◌, ◌≤◌, ◌≡◌, refl, Bool, true, false, ◌&&◌, leb, eqb}
use Rattle.std.proofs.lemmas.Bool.{false≢true}
use Rattle.std.proofs.Common.{leb-true, eqb-true, le-leb, eq-eqb}
use Rattle.laws.specs.Pick.{pick, both_joined}
use Rattle.extract.specs.declared.Extractor.{Extractor}
use Rattle.extract.specs.Record.{most, room_fits, record_fits, fits_of, unread_of, errors_of}

-- the record by itself
pub record Itself (r : Extractor) : Type 0 where
  pub order : r.start ≤ r.end
  pub adds : r.accepted ≡ r.stream.consumed.0 + unread_of r
  pub total : r.accepted ≤ most
  pub counted : r.stream.frames + errors_of r.stream.losses ≤ r.stream.consumed.0
  pub pushes : r.unanswered ≤ 65535
  pub few : r.stream.substreams ≤ 15
  pub seen : r.stream.locked ≡ true → r.stream.seen ≡ true

-- with its buffer of n bytes
pub record Fits (r : Extractor) (n : ℕ) : Type 0 where
  pub itself : Itself r
  pub low : 8192 ≤ n
  pub high : n ≤ 1048576
  pub inside : r.end ≤ n

joined : (a b : Bool) → a ≡ true → b ≡ true → (a && b) ≡ true
joined a b p q = rw (p, q)

locked_seen : (l s : Bool) → pick l s true ≡ true → l ≡ true → s ≡ true
locked_seen true s e p = e
locked_seen false s e p = absurd (false≢true p)

seen_locked : (l s : Bool) → (l ≡ true → s ≡ true) → pick l s true ≡ true
seen_locked true s f = f refl
seen_locked false s f = refl

pub record_says : (r : Extractor) → record_fits r ≡ true → Itself r
unfolding record_fits
record_says r e =
    let a = both_joined (leb r.start r.end) _ e in
    let b = both_joined (eqb r.accepted (r.stream.consumed.0 + unread_of r)) _ a.1 in
    let c = both_joined (leb r.accepted most) _ b.1 in
    let d = both_joined (leb (r.stream.frames + errors_of r.stream.losses) r.stream.consumed.0) _ c.1 in
    let f = both_joined (leb r.unanswered 65535) _ d.1 in
    let g = both_joined (leb r.stream.substreams 15) _ f.1 in
    record {
      order = leb-true _ _ a.0;
      adds = eqb-true _ _ b.0;
      total = leb-true _ _ c.0;
      counted = leb-true _ _ d.0;
      pushes = leb-true _ _ f.0;
      few = leb-true _ _ g.0;
      seen = locked_seen r.stream.locked r.stream.seen g.1;
    }

pub record_when : (r : Extractor) → Itself r → record_fits r ≡ true
unfolding record_fits
record_when r i =
    joined (leb r.start r.end) _ (le-leb _ _ i.order)
    (joined (eqb r.accepted (r.stream.consumed.0 + unread_of r)) _ (eq-eqb _ _ i.adds)
    (joined (leb r.accepted most) _ (le-leb _ _ i.total)
    (joined (leb (r.stream.frames + errors_of r.stream.losses) r.stream.consumed.0) _ (le-leb _ _ i.counted)
    (joined (leb r.unanswered 65535) _ (le-leb _ _ i.pushes)
    (joined (leb r.stream.substreams 15) _ (le-leb _ _ i.few) (seen_locked r.stream.locked r.stream.seen i.seen))))))

pub fits_says : (r : Extractor) (n : ℕ) → fits_of r n ≡ true → Fits r n
unfolding fits_of
fits_says r n e =
    let a = both_joined (record_fits r) _ e in
    let b = both_joined (room_fits n) (leb r.end n) a.1 in
    let c = both_joined (leb 8192 n) (leb n 1048576) b.0 in
    record { itself = record_says r a.0; low = leb-true _ _ c.0; high = leb-true _ _ c.1; inside = leb-true _ _ b.1 }

pub fits_when : (r : Extractor) (n : ℕ) → Fits r n → fits_of r n ≡ true
unfolding fits_of
fits_when r n f =
    joined (record_fits r) _ (record_when r f.itself)
    (joined (room_fits n) (leb r.end n) (joined (leb 8192 n) (leb n 1048576) (le-leb _ _ f.low) (le-leb _ _ f.high)) (le-leb _ _ f.inside))
