use Rattle.std.proofs.Common.{◌≡◌, List, ℕ, ◌++◌, drop, map, Bor}
use Rattle.std.specs.String.{string_bytes}
use Rattle.program_answers.proofs.task.owned_all.Given as goal

abbrev pub invariant-loop-text : goal.invariant-loop-text
invariant-loop-text l = map string_bytes l.all.items ++ map (λ (t : Bor (List ℕ)). t.now) (drop l.text-index l.texts) ≡ map (λ (t : Bor (List ℕ)). t.now) l.texts
