-- What is left of lines that are written once all is read, which `Is` means: a beginning where the sink failed, and nothing where memory ran out.
-- Source: own.
use Rattle.std.specs.Prelude.{◌≡◌}
use Rattle.pickle_io.specs.Device.{Told}
use Rattle.pickle_text.specs.Output.{Output}
use Rattle.pickle_text.specs.declared.stop.TextStop.{TextStop}
use Rattle.pickle_text.specs.declared.stop.TextStop.TheVariants as cut
use Rattle.pickle_script.specs.GateText.{BrokeText}
use Rattle.pickle_script.specs.declared.stop.Stop.{Stop}
use Rattle.pickle_script.specs.declared.stop.Stop.TheVariants as stop

abbrev pub CutsOnce : (Output → Type 0) → Told → Told → TextStop → Type 0
CutsOnce Is old new cut.Failed = BrokeText Is old new
CutsOnce Is old new cut.Memory = new ≡ old

abbrev pub StopsOnce : (Output → Type 0) → Told → Told → Stop → Type 0
StopsOnce Is old new stop.Read = ⊥
StopsOnce Is old new stop.Write = CutsOnce Is old new cut.Failed
StopsOnce Is old new stop.TooLarge = CutsOnce Is old new cut.Memory
StopsOnce Is old new stop.Memory = CutsOnce Is old new cut.Memory
