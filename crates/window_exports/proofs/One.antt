-- Any two outcomes that an exported call's contract allows are equal: each contract is an equation, and nothing is lent.
use mathlib.Core.Path.{◌≡◌, sym, ◌∙◌}
use Rattle.window_exports.proofs.mv_window_fresh.Reads as mv-window-fresh
use Rattle.window_exports.proofs.mv_window_push.Reads as mv-window-push
use Rattle.window_exports.proofs.mv_window_restart.Reads as mv-window-restart
use Rattle.window_exports.proofs.mv_window_buffered.Reads as mv-window-buffered
use Rattle.window_exports.proofs.mv_window_peaks.Reads as mv-window-peaks
use Rattle.window_exports.proofs.mv_window_peak_records.Reads as mv-window-peak-records
use Rattle.window_exports.proofs.mv_window_substream_peaks.Reads as mv-window-substream-peaks
use Rattle.window_exports.proofs.mv_fba_cap.Reads as mv-fba-cap
use Rattle.window_exports.proofs.mv_fbb_cap.Reads as mv-fbb-cap

pub mv_window_fresh_one : (κs : _) (a : _) (r r' : _) (e e' : _) → mv-window-fresh.Post κs a r e → mv-window-fresh.Post κs a r' e' → r ≡ r'
mv_window_fresh_one κs a r r' e e' p q = p ∙ sym q

pub mv_window_push_one : (κs : _) (a : _) (r r' : _) (e e' : _) → mv-window-push.Post κs a r e → mv-window-push.Post κs a r' e' → r ≡ r'
mv_window_push_one κs a r r' e e' p q = p ∙ sym q

pub mv_window_restart_one : (κs : _) (a : _) (r r' : _) (e e' : _) → mv-window-restart.Post κs a r e → mv-window-restart.Post κs a r' e' → r ≡ r'
mv_window_restart_one κs a r r' e e' p q = p ∙ sym q

pub mv_window_buffered_one : (κs : _) (a : _) (r r' : _) (e e' : _) → mv-window-buffered.Post κs a r e → mv-window-buffered.Post κs a r' e' → r ≡ r'
mv_window_buffered_one κs a r r' e e' p q = p ∙ sym q

pub mv_window_peaks_one : (κs : _) (a : _) (r r' : _) (e e' : _) → mv-window-peaks.Post κs a r e → mv-window-peaks.Post κs a r' e' → r ≡ r'
mv_window_peaks_one κs a r r' e e' p q = p ∙ sym q

pub mv_window_peak_records_one : (κs : _) (a : _) (r r' : _) (e e' : _) → mv-window-peak-records.Post κs a r e → mv-window-peak-records.Post κs a r' e' → r ≡ r'
mv_window_peak_records_one κs a r r' e e' p q = p ∙ sym q

pub mv_window_substream_peaks_one : (κs : _) (a : _) (r r' : _) (e e' : _) → mv-window-substream-peaks.Post κs a r e → mv-window-substream-peaks.Post κs a r' e' → r ≡ r'
mv_window_substream_peaks_one κs a r r' e e' p q = p ∙ sym q

pub mv_fba_cap_one : (κs : _) (a : _) (r r' : _) (e e' : _) → mv-fba-cap.Post κs a r e → mv-fba-cap.Post κs a r' e' → r ≡ r'
mv_fba_cap_one κs a r r' e e' p q = p ∙ sym q

pub mv_fbb_cap_one : (κs : _) (a : _) (r r' : _) (e e' : _) → mv-fbb-cap.Post κs a r e → mv-fbb-cap.Post κs a r' e' → r ≡ r'
mv_fbb_cap_one κs a r r' e e' p q = p ∙ sym q
