use Rattle.std.proofs.Common.{sym, ◌∙◌, arith}
use Rattle.std.proofs.lemmas.List.{at_drop_all}
use Rattle.std.specs.List.{fold}
use Rattle.zip_archive.specs.Checksum.{byte_behind}
use Rattle.zip_archive.proofs.checksum.bytes_behind.Goals as goal

pub returns : goal.returns
returns c = sym (sym c.loop-byte.invariant ∙ at_drop_all (fold byte_behind c.loop-byte.c) c.args.bytes.now c.loop-byte.byte-index (omega arith))
