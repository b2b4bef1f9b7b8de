use Rattle.pickle_allow.proofs.Cuts.{prefix_len-within, left_is}
use Rattle.pickle_allow.proofs.cut.left_trimmed.Goals as goal

pub split_at-requires : goal.split_at-requires
split_at-requires c = rw c.blanks_len.ensures (prefix_len-within _ _)

pub returns : goal.returns
returns c = rw (c.split_at.ensures.back, c.blanks_len.ensures) (left_is c.args.bytes.now)
