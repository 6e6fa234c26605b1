-- Any two outcomes that a public call's contract allows are equal: the contract is an equation.
use mathlib.Core.Path.{◌≡◌, sym, ◌∙◌}
use Rattle.levels.proofs.numbers.fits.Reads as fits
use Rattle.levels.proofs.numbers.small.Reads as small
use Rattle.levels.proofs.numbers.room.Reads as room
use Rattle.levels.proofs.Levels.buffered.Reads as buffered
use Rattle.levels.proofs.Levels.peaks.Reads as peaks
use Rattle.levels.proofs.Levels.peak_records.Reads as peak-records
use Rattle.levels.proofs.Levels.substream_peaks.Reads as substream-peaks

pub fits_one : (κs : _) (a : _) (r r' : _) (e e' : _) → fits.Post κs a r e → fits.Post κs a r' e' → r ≡ r'
fits_one κs a r r' e e' p q = p ∙ sym q

pub small_one : (κs : _) (a : _) (r r' : _) (e e' : _) → small.Post κs a r e → small.Post κs a r' e' → r ≡ r'
small_one κs a r r' e e' p q = p ∙ sym q

pub room_one : (κs : _) (a : _) (r r' : _) (e e' : _) → room.Post κs a r e → room.Post κs a r' e' → r ≡ r'
room_one κs a r r' e e' p q = p ∙ sym q

pub buffered_one : (κs : _) (a : _) (r r' : _) (e e' : _) → buffered.Post κs a r e → buffered.Post κs a r' e' → r ≡ r'
buffered_one κs a r r' e e' p q = p ∙ sym q

pub peaks_one : (κs : _) (a : _) (r r' : _) (e e' : _) → peaks.Post κs a r e → peaks.Post κs a r' e' → r ≡ r'
peaks_one κs a r r' e e' p q = p ∙ sym q

pub peak_records_one : (κs : _) (a : _) (r r' : _) (e e' : _) → peak-records.Post κs a r e → peak-records.Post κs a r' e' → r ≡ r'
peak_records_one κs a r r' e e' p q = p ∙ sym q

pub substream_peaks_one : (κs : _) (a : _) (r r' : _) (e e' : _) → substream-peaks.Post κs a r e → substream-peaks.Post κs a r' e' → r ≡ r'
substream_peaks_one κs a r r' e e' p q = p ∙ sym q
