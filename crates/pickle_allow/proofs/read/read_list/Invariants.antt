-- The entries that were read and the lines that are left list the whole.
use Rattle.std.proofs.Common.{◌≡◌, ◌+◌, ◌≤◌, length, map, option_map}
use Rattle.pickle_allow.specs.Grammar.{is_newline, entry_row, lines_say, text_lists}
use Rattle.pickle_allow.proofs.Cuts.{split_left, size_left}
use Rattle.pickle_allow.proofs.Reading.{onto}
use Rattle.pickle_allow.proofs.read.read_list.Given as goal

abbrev pub invariant-loop-rest : goal.invariant-loop-rest
invariant-loop-rest l = record {
  listed : onto (map entry_row l.entries.items) (lines_say (l.number + 1) (split_left is_newline (option_map (λ r. r.now) l.rest))) ≡ text_lists l.text;
  counted : l.number + size_left (option_map (λ r. r.now) l.rest) ≤ length l.text + 1;
}

abbrev pub decreases-loop-rest : goal.decreases-loop-rest
decreases-loop-rest l = size_left (option_map (λ r. r.now) l.rest)
