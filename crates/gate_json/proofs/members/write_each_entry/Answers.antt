use Rattle.std.proofs.Common.{◌<◌, ◌^◌, sym, subst, arith}
use Rattle.zip_archive.specs.Entry.{Entry, data_place}
use Rattle.archive_script.proofs.MembersTexts.{placed_at}
use Rattle.gate_json.proofs.members.write_each_entry.Goals as goal

pub write_entry_line-requires : goal.write_entry_line-requires
write_entry_line-requires g c =
    subst (λ (e : Entry). data_place e < 2 ^ 64) (sym c.entry-item.is) (placed_at c.args.entries.now c.loop-entry.entry-index c.entry-item.result c.requires (omega arith))
