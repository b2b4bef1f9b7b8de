use Rattle.opcode_assembler.proofs.Cuts.{prefix_len-within}
use Rattle.assembly_labels.proofs.words.cut.Goals as goal

pub split_at-requires : goal.split_at-requires
split_at-requires c = rw c.word_len.ensures (prefix_len-within _ _)
