use Rattle.std.proofs.Common.{◌<◌, ◌^◌, sym, subst, arith}
use Rattle.zip_archive.specs.Entry.{Entry, data_place}
use Rattle.archive_script.proofs.MembersTexts.{placed_at}
use Rattle.archive_script.proofs.members.write_lines.Goals as goal

pub write_member-requires : goal.write_member-requires
write_member-requires g c =
    subst (λ (e : Entry). data_place e < 2 ^ 64) (sym c.entry-item.is) (placed_at c.args.entries.now c.loop-entry.entry-index c.entry-item.result c.requires (omega arith))
