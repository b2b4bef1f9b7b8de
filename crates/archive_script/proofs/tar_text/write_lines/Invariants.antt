-- What the loop over the members keeps.
use Rattle.std.proofs.Common.{take}
use Rattle.pickle_io.specs.Device.{Wrote, each}
use Rattle.archive_script.specs.TarText.{tar_member_line}
use Rattle.archive_script.proofs.tar_text.write_lines.Given as goal

abbrev pub invariant-loop-member : goal.invariant-loop-member
invariant-loop-member g l = Wrote (g.S.Sink.told l.initial.page) (g.S.Sink.told l.page) (each (tar_member_line l.bytes) (take l.member-index l.members))
