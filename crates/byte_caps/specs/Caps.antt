-- The byte caps.
use Rattle.std.specs.Prelude.{ℕ, ◌-◌, ◌%◌, List, [], ◌∷◌, leb, ltb, eqb, get_or}
use Rattle.laws.specs.Pick.{pick}
use Rattle.byte_caps.specs.declared.Cap.{Cap}
use Rattle.byte_caps.specs.declared.Cap.TheVariants.{Bytes, Unchecked, NoSuchAccumulator}

-- "FBA caps: 30,000; 90,000; 120,000 three times"
unfoldable pub fba_cap_of : ℕ → Cap
fba_cap_of accumulator =
    pick (eqb accumulator 0) (Bytes 30000)
    (pick (eqb accumulator 1) (Bytes 90000)
    (pick (leb accumulator 4) (Bytes 120000)
    NoSuchAccumulator))

-- "substream 0 has 90,000 30,000 0 30,000 0 0 0 0 0 30,000; six-channel and whole stream the same with 90,000 last"
abbrev pub fbb_table : ℕ → List ℕ
fbb_table last = 90000 ∷ 30000 ∷ 0 ∷ 30000 ∷ 0 ∷ 0 ∷ 0 ∷ 0 ∷ 0 ∷ last ∷ []

-- "FBB caps by low nibble 4 to 13, else 0"
unfoldable pub fbb_entry : ℕ → ℕ → ℕ
fbb_entry nibble last = pick (ltb nibble 4) 0 (pick (ltb (nibble - 4) 10) (get_or (fbb_table last) (nibble - 4) 0) 0)

-- "the other two none", which is not a cap of 0
unfoldable pub fbb_cap_of : ℕ → ℕ → Cap
fbb_cap_of accumulator info =
    pick (eqb accumulator 0) (Bytes (fbb_entry (info % 16) 30000))
    (pick (eqb accumulator 1) (Bytes (fbb_entry (info % 16) 90000))
    (pick (leb accumulator 3) Unchecked
    (pick (eqb accumulator 4) (Bytes (fbb_entry (info % 16) 90000))
    NoSuchAccumulator)))
