-- Why a run is not finished.
use Rattle.std.specs.Prelude.{ℕ, List, codes}
use Rattle.pickle_doc.specs.declared.fault.DocFault.{DocFault}
use Rattle.pickle_doc.specs.declared.fault.DocFault.TheVariants as doc
use Rattle.pickle_io.specs.declared.whole.ReadStop.{ReadStop}
use Rattle.pickle_io.specs.declared.whole.ReadStop.TheVariants as read
use Rattle.pickle_text.specs.declared.stop.TextStop.{TextStop}
use Rattle.pickle_text.specs.declared.stop.TextStop.TheVariants as text
use Rattle.pickle_script.specs.declared.stop.Stop.{Stop}
use Rattle.pickle_script.specs.declared.stop.Stop.TheVariants as stop

-- the words of a stop
abbrev pub stop_words : Stop → List ℕ
stop_words stop.Read = codes "cannot read"
stop_words stop.Write = codes "cannot write"
stop_words stop.TooLarge = codes "too large"
stop_words stop.Memory = codes "out of memory"

-- why a run is not finished where there is no document
abbrev pub stop_of : DocFault → Stop
stop_of doc.TooLarge = stop.TooLarge
stop_of doc.Memory = stop.Memory

-- why a run is not finished where an input is not read whole
abbrev pub stop_of_read : ReadStop → Stop
stop_of_read read.Failed = stop.Read
stop_of_read read.TooLarge = stop.TooLarge
stop_of_read read.Memory = stop.Memory

-- why a run is not finished where a text is not
abbrev pub stop_of_text : TextStop → Stop
stop_of_text text.Failed = stop.Write
stop_of_text text.Memory = stop.Memory
