-- What the loop over the results keeps.
use Rattle.std.proofs.Common.{take}
use Rattle.pickle_io.specs.Device.{Wrote, each}
use Rattle.object_texts.specs.Report.{result_line}
use Rattle.object_texts.proofs.report.write_results.Given as goal

abbrev pub invariant-loop-id : goal.invariant-loop-id
invariant-loop-id g l = Wrote (g.S.Sink.told l.initial.page) (g.S.Sink.told l.page) (each result_line (take l.id-index l.ids))
