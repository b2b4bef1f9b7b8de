use Rattle.archive_script.proofs.TarTexts.{held_is}
use Rattle.archive_gate.proofs.Tars.{held_few}
use Rattle.archive_script.proofs.tar.judge_member.Goals as goal

pub line_of-requires : goal.line_of-requires
line_of-requires c = held_few c.args.bytes.now c.part_of-held.result.now c.args.member.now.content c.part_of-held.ensures c.requires

pub returns : goal.returns
returns c =
    held_is c.args.bytes.now c.args.member.now c.args.fault c.in_ok-name.name.items c.in_ok-line.line.items c.part_of-held.result.now c.part_of-shown.result.now c.part_of-held.ensures c.part_of-shown.ensures
    c.in_ok-name.ensures c.in_ok-line.ensures
