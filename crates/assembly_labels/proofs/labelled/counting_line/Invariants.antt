-- No line so far is MEMOIZE.
use Rattle.std.proofs.Common.{◌≡◌, ℕ, ◌<◌, false, [], get_or}
use Rattle.assembly_labels.specs.Labels.{is_counting}
use Rattle.assembly_labels.proofs.Lines.{seen}
use Rattle.assembly_labels.proofs.labelled.counting_line.Given as goal

abbrev pub invariant-loop-place : goal.invariant-loop-place
invariant-loop-place l = (k : ℕ) → k < l.place → is_counting (get_or (seen l.lines) k []) ≡ false
