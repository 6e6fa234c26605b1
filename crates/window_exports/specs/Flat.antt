-- Each answer of the window laid flat, with the number of document 01's table: definitions only. The window itself goes through as it is.
use Rattle.std.specs.Prelude.{ℕ, List, replicate, Option, Some, None, Result}
use Rattle.std.specs.Result.{result_unwrap_or}
use Rattle.kinds.specs.declared.SampleTime.{SampleTime}
use Rattle.levels.specs.Levels.{no_peak}
use Rattle.levels.specs.Numbers.{number_of}
use Rattle.levels.specs.declared.Peak.{Peak}
use Rattle.levels.specs.declared.Refusal.{Refusal}
use Rattle.window_rules.specs.declared.Report.{Report}
use Rattle.window_rules.specs.declared.Pushed.{Pushed}
use Rattle.window_rules.specs.declared.Restarted.{Restarted}
use Rattle.byte_caps.specs.declared.Cap.{Cap}
use Rattle.byte_caps.specs.declared.Cap.TheVariants.{Bytes, Unchecked, NoSuchAccumulator}
use Rattle.window_exports.specs.declared.MvUnderrun.{MvUnderrun}
use Rattle.window_exports.specs.declared.MvPushed.{MvPushed}
use Rattle.window_exports.specs.declared.MvRestarted.{MvRestarted}
use Rattle.window_exports.specs.declared.MvBuffered.{MvBuffered}
use Rattle.window_exports.specs.declared.MvPeaks.{MvPeaks}
use Rattle.window_exports.specs.declared.MvPeakRecords.{MvPeakRecords}
use Rattle.window_exports.specs.declared.MvSubstreamPeaks.{MvSubstreamPeaks}
use Rattle.window_exports.specs.declared.MvCap.{MvCap}

-- playhead and removal are sample times
abbrev pub time_of : ℕ → SampleTime
time_of n = record { 0 = n }

-- "the report names the highest one", if there is one
abbrev pub underrun_flat : Option ℕ → MvUnderrun
underrun_flat None = record { accumulator = 0; present = 0 }
underrun_flat (Some k) = record { accumulator = k; present = 1 }

-- a step: the window, "the five depths", the underrun, the number; zeros and no underrun where it is refused
abbrev pub report_flat : Result Report Refusal → Report
report_flat answer = result_unwrap_or answer (record { depths = replicate 5 0; underrun = None })

abbrev pub pushed_flat : Pushed → MvPushed
pushed_flat p = record {
  window = p.window;
  depths = (report_flat p.answer).depths;
  underrun = underrun_flat (report_flat p.answer).underrun;
  number = number_of p.answer;
}

abbrev pub restarted_flat : Restarted → MvRestarted
restarted_flat r = record { window = r.window; number = number_of r.answer }

-- what can be asked of a window; zeros where its levels don't fit
abbrev pub buffered_flat : Result ℕ Refusal → MvBuffered
buffered_flat b = record { units = result_unwrap_or b 0; number = number_of b }

abbrev pub peaks_flat : Result (List ℕ) Refusal → MvPeaks
peaks_flat p = record { peaks = result_unwrap_or p (replicate 5 0); number = number_of p }

abbrev pub peak_records_flat : Result (List Peak) Refusal → MvPeakRecords
peak_records_flat p = record { peaks = result_unwrap_or p (replicate 5 no_peak); number = number_of p }

abbrev pub substream_peaks_flat : Result (List ℕ) Refusal → MvSubstreamPeaks
substream_peaks_flat p = record { peaks = result_unwrap_or p (replicate 4 0); number = number_of p }

-- a cap; "none" is not a cap of 0
abbrev pub cap_flat : Cap → MvCap
cap_flat (Bytes n) = record { bytes = n; checked = 1; known = 1 }
cap_flat Unchecked = record { bytes = 0; checked = 0; known = 1 }
cap_flat NoSuchAccumulator = record { bytes = 0; checked = 0; known = 0 }
