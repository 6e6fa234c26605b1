-- What can be asked of a window: the units held and the peaks, and number 1 where its levels don't fit.
use Rattle.std.specs.Prelude.{ℕ, ◌+◌, ◌-◌, ◌%◌, List, Result, Ok, Err}
use Rattle.laws.specs.Pick.{pick}
use Rattle.levels.specs.Index.{five, four}
use Rattle.levels.specs.Levels.{depth_at, substream_at}
use Rattle.levels.specs.Numbers.{fits_of}
use Rattle.levels.specs.declared.Peak.{Peak}
use Rattle.levels.specs.declared.Depth.{Depth}
use Rattle.levels.specs.declared.SubstreamDepth.{SubstreamDepth}
use Rattle.levels.specs.declared.Levels.{Levels}
use Rattle.levels.specs.declared.Refusal.{Refusal}
use Rattle.levels.specs.declared.Refusal.TheVariants.{RecordDoesNotFit}

-- the peaks, whole and their totals alone
unfoldable pub peaks_at : List Depth → List Peak
peaks_at depth = five (λ k. (depth_at depth k).peak)

unfoldable pub peak_totals_of : List Depth → List ℕ
peak_totals_of depth = five (λ k. (depth_at depth k).peak.total)

unfoldable pub substream_peaks_at : List SubstreamDepth → List ℕ
substream_peaks_at substream = four (λ i. (substream_at substream i).peak)

-- "Units held: write minus read, modulo 128"
unfoldable pub held_of : ℕ → ℕ → ℕ
held_of read write = (write + 128 - read) % 128

-- "every other call that takes a record test[s] number 1 first": what is asked of levels that fit, else number 1
abbrev pub on_fit : {A : Type 0} → Levels → A → Result A Refusal
on_fit l a = pick (fits_of l) (Ok a) (Err RecordDoesNotFit)

abbrev pub fit_answer : Levels → Result Unit Refusal
fit_answer l = on_fit l tt

-- something is done exactly where the call is accepted
abbrev pub on_accepted : {A B : Type 0} → Result A Refusal → B → B → B
on_accepted (Ok x) a b = a
on_accepted (Err refusal) a b = b

unfoldable pub buffered_of : Levels → Result ℕ Refusal
buffered_of l = on_fit l (held_of l.read l.write)

unfoldable pub peaks_of : Levels → Result (List ℕ) Refusal
peaks_of l = on_fit l (peak_totals_of l.depth)

unfoldable pub peak_records_of : Levels → Result (List Peak) Refusal
peak_records_of l = on_fit l (peaks_at l.depth)

unfoldable pub substream_peaks_of : Levels → Result (List ℕ) Refusal
substream_peaks_of l = on_fit l (substream_peaks_at l.substream)
