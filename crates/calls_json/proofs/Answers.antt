-- The lines with the last one.
use Rattle.std.proofs.Common.{ℕ, List, refl, sym}
use Rattle.pickle_io.specs.Text.{◌⧺◌}
use Rattle.pickle_io.specs.Device.{Told, Wrote, Broke}
use Rattle.pickle_io.proofs.Devices.{Wrote-trans, Broke-after}
use Rattle.pickle_calls.specs.Manner.{Manner}
use Rattle.pickle_text.specs.declared.stop.TextStop.{TextStop}
use Rattle.pickle_text.specs.declared.stop.TextStop.TheVariants as stop
use Rattle.pickle_further.specs.declared.way.Pickles.{Pickles}
use Rattle.mixes_text.specs.CallsWith.{CompletesCallsIn, CutsCallsIn}
use Rattle.pickle_further.proofs.Pieces.{cut_before}
use Rattle.calls_json.specs.LastFields.{status_line}
use Rattle.calls_json.specs.MixFields.{mixes_for_programs}
use Rattle.calls_json.specs.Told.{programs, with_last, CompletesLines, CutsLines}

-- the lines, cut short
pub lines_cut : (how : Manner) (p : Pickles) (bytes : List ℕ) (a b : Told) (e : TextStop) → CutsCallsIn programs mixes_for_programs how p bytes a b e → CutsLines how p bytes a b e
unfolding ◌⧺◌
lines_cut how p bytes a b e w = (with_last w.0, (w.0, w.1, refl), cut_before a b w.0.text (status_line w.0.status) e w.2)

-- all of them and a beginning of the last one
pub status_broken : (how : Manner) (p : Pickles) (bytes : List ℕ) (a b c : Told) (n : ℕ) → CompletesCallsIn programs mixes_for_programs how p bytes a b n → Broke b c (status_line n) → CutsLines how p bytes a c stop.Failed
unfolding ◌⧺◌
status_broken how p bytes a b c n w q = (with_last w.0, (w.0, w.1, refl), Broke-after a b c w.0.text (status_line w.0.status) w.2 (rw (sym w.3) q))

-- all of it
pub all_written : (how : Manner) (p : Pickles) (bytes : List ℕ) (a b c : Told) (n : ℕ) → CompletesCallsIn programs mixes_for_programs how p bytes a b n → Wrote b c (status_line n) → CompletesLines how p bytes a c n
unfolding ◌⧺◌
all_written how p bytes a b c n w q = (with_last w.0, (w.0, w.1, refl), Wrote-trans a b c w.0.text (status_line w.0.status) w.2 (rw (sym w.3) q), w.3)
