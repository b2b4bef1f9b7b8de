-- What the loop over the members keeps.
use Rattle.std.proofs.Common.{take}
use Rattle.pickle_io.specs.Device.{Wrote, each}
use Rattle.gate_json.specs.MembersFields.{entry_line}
use Rattle.gate_json.proofs.members.write_each_entry.Given as goal

abbrev pub invariant-loop-entry : goal.invariant-loop-entry
invariant-loop-entry g l = Wrote (g.P.Sink.told l.initial.page) (g.P.Sink.told l.page) (each entry_line (take l.entry-index l.entries))
