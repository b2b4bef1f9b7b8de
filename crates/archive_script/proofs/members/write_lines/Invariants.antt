-- What the loop over the members keeps.
use Rattle.std.proofs.Common.{take}
use Rattle.pickle_io.specs.Device.{Wrote, each}
use Rattle.archive_script.specs.MembersText.{member_line}
use Rattle.archive_script.proofs.members.write_lines.Given as goal

abbrev pub invariant-loop-entry : goal.invariant-loop-entry
invariant-loop-entry g l = Wrote (g.S.Sink.told l.initial.page) (g.S.Sink.told l.page) (each member_line (take l.entry-index l.entries))
