use Rattle.std.proofs.lemmas.List.Sums.{prefix_len-le-length}
use Rattle.pickle_script.proofs.texts.gate.words_of.Goals as goal

pub split_at-requires : goal.split_at-requires
split_at-requires c = rw c.before_colon.ensures (prefix_len-le-length _ _)
