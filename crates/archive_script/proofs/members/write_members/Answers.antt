use Rattle.std.proofs.Common.{true, false}
use Rattle.archive_script.proofs.MembersTexts.{answers_members}
use Rattle.archive_script.proofs.members.write_members.Goals as goal

pub returns-then-begins_as_tar : goal.returns-then-begins_as_tar
returns-then-begins_as_tar g c = answers_members c.args.bytes.now _ true g.S.Sink.told _ _ _ c.begins_as_tar.ensures c.if-begins_as_tar.true c.write_tar.ensures

pub returns-else-begins_as_tar : goal.returns-else-begins_as_tar
returns-else-begins_as_tar g c = answers_members c.args.bytes.now _ false g.S.Sink.told _ _ _ c.begins_as_tar.ensures c.if-begins_as_tar.false c.write_packed_or_zip.ensures
