-- What the loop over the members keeps.
use Rattle.std.proofs.Common.{take}
use Rattle.pickle_io.specs.Device.{Wrote, each}
use Rattle.gate_json.specs.MembersFields.{tarred_line}
use Rattle.gate_json.proofs.members.write_each_tarred.Given as goal

abbrev pub invariant-loop-member : goal.invariant-loop-member
invariant-loop-member g l = Wrote (g.P.Sink.told l.initial.page) (g.P.Sink.told l.page) (each (tarred_line l.bytes) (take l.member-index l.members))
