-- The key is above those of the lines so far.
use Rattle.std.proofs.Common.{◌≡◌, ◌≤◌, ◌^◌, take}
use Rattle.assembly_labels.specs.Labels.{first_key}
use Rattle.assembly_labels.proofs.Lines.{seen}
use Rattle.assembly_labels.proofs.numbers.first_key.Given as goal

abbrev pub invariant-loop-line : goal.invariant-loop-line
invariant-loop-line l = (l.key ≡ first_key (seen (take l.line-index l.lines))) × (l.key ≤ 2 ^ 64)
