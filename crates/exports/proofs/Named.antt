-- Laws that the documents name: the number of an opening and of a piece follows from the library's answer and the words. No contract needs them.
use Rattle.std.specs.Prelude.{◌≡◌, ℕ, Bool, List, Result}
use Rattle.laws.specs.Flags.{yes_of}
use Rattle.extract.specs.declared.Extractor.{Extractor}
use Rattle.extract.specs.declared.Pushed.{Pushed}
use Rattle.extract.specs.declared.Refusal.{Refusal}
use Rattle.extract.specs.Calls.{opened_of, pushed_of}
use Rattle.record_words.specs.Words.{setting_of, reader_of}
use Rattle.exports.specs.Answers.{opened_number, push_number}

module _ (n poly init zeros : ℕ) {b : Bool} (eb : b ≡ yes_of zeros) {o : Result Extractor Refusal} (eo : o ≡ opened_of n (record { poly = poly; init = init; zeros = b })) where
  pub open_number_lem : {k : ℕ} → k ≡ opened_number o → k ≡ opened_number (opened_of n (setting_of poly init zeros))
  open_number_lem ek = rw (ek, eo, eb)

module _ (ws : List ℕ) (n k : ℕ) {e : Extractor} (ee : e ≡ reader_of ws) where
  pub push_number_lem : {p : Pushed} → p ≡ pushed_of e n k → {m : ℕ} → m ≡ push_number p.answer → m ≡ push_number (pushed_of (reader_of ws) n k).answer
  push_number_lem ep em = rw (em, ep, ee)
