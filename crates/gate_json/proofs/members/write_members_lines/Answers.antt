use Rattle.std.proofs.Common.{true, false}
use Rattle.gate_json.proofs.MemberLines.{by_beginning}
use Rattle.gate_json.proofs.members.write_members_lines.Goals as goal

pub returns-then-begins_as_tar : goal.returns-then-begins_as_tar
returns-then-begins_as_tar g c = by_beginning c.args.bytes.now _ true _ _ _ c.begins_as_tar.ensures c.if-begins_as_tar.true c.write_tar.ensures

pub returns-else-begins_as_tar : goal.returns-else-begins_as_tar
returns-else-begins_as_tar g c = by_beginning c.args.bytes.now _ false _ _ _ c.begins_as_tar.ensures c.if-begins_as_tar.false c.write_packed_or_zip.ensures
