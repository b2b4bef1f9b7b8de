-- The lines, and those of mixes behind them.
use Rattle.std.proofs.Common.{◌≡◌, ℕ, List, refl, sym, subst}
use Rattle.pickle_io.specs.Text.{◌⧺◌}
use Rattle.pickle_io.specs.Device.{Told, Wrote}
use Rattle.pickle_io.proofs.Devices.{Wrote-trans}
use Rattle.pickle_calls.specs.Manner.{Manner}
use Rattle.pickle_text.specs.declared.stop.TextStop.{TextStop}
use Rattle.pickle_further.specs.declared.way.Pickles.{Pickles}
use Rattle.pickle_further.specs.Parts.{Wording}
use Rattle.pickle_further.specs.CallsText.{CutsText, CompletesTextIn, CutsCallsTextIn}
use Rattle.pickle_further.proofs.Pieces.{cut_after, cut_before}
use Rattle.mixes_text.specs.MixText.{MixWords, mixes_behind, with_mixes}
use Rattle.mixes_text.specs.CallsWith.{CompletesCallsIn, CutsCallsIn}

-- the lines, cut short
pub lines_cut : (tell : Wording) (say : MixWords) (how : Manner) (p : Pickles) (bytes : List ℕ) (a b : Told) (e : TextStop) → CutsCallsTextIn tell how p bytes a b e → CutsCallsIn tell say how p bytes a b e
unfolding ◌⧺◌
lines_cut tell say how p bytes a b e w = (with_mixes say how p bytes w.0, (w.0, w.1, refl), cut_before a b w.0.text (mixes_behind say how p bytes w.0.status) e w.2)

-- all of them, and a beginning of those of mixes
pub mixes_cut : (tell : Wording) (say : MixWords) (how : Manner) (p : Pickles) (bytes : List ℕ) (a b c : Told) (n : ℕ) (e : TextStop) → CompletesTextIn tell how p bytes a b n → CutsText b c (mixes_behind say how p bytes n) e → CutsCallsIn tell say how p bytes a c e
unfolding ◌⧺◌
mixes_cut tell say how p bytes a b c n e w q =
    (with_mixes say how p bytes w.0, (w.0, w.1, refl), cut_after a b c w.0.text (mixes_behind say how p bytes w.0.status) e w.2 (subst (λ (k : ℕ). CutsText b c (mixes_behind say how p bytes k) e) w.3 q))

-- all of it
pub all_written : (tell : Wording) (say : MixWords) (how : Manner) (p : Pickles) (bytes : List ℕ) (a b c : Told) (n : ℕ) → CompletesTextIn tell how p bytes a b n → Wrote b c (mixes_behind say how p bytes n) → CompletesCallsIn tell say how p bytes a c n
unfolding ◌⧺◌
all_written tell say how p bytes a b c n w q =
    (with_mixes say how p bytes w.0, (w.0, w.1, refl), Wrote-trans a b c w.0.text (mixes_behind say how p bytes w.0.status) w.2 (subst (λ (k : ℕ). Wrote b c (mixes_behind say how p bytes k)) w.3 q), w.3)
