use Rattle.std.proofs.Common.{◌≡◌, List, ℕ, ◌++◌, drop, map, Bor}
use Rattle.std.specs.String.{string_bytes}
use Rattle.program_answers.specs.Skips.{skips}
use Rattle.program_answers.proofs.skip_file.push_lines.Given as goal

abbrev pub invariant-loop-line : goal.invariant-loop-line
invariant-loop-line l =
    map string_bytes l.words.items ++ skips (map (λ (t : Bor (List ℕ)). t.now) (drop l.line-index l.line-items))
    ≡ map string_bytes l.initial.words.items ++ skips (map (λ (t : Bor (List ℕ)). t.now) l.line-items)
