use Rattle.std.proofs.Common.{◌≡◌, List, ℕ, ◌++◌, drop, map, Bor}
use Rattle.std.specs.String.{string_bytes}
use Rattle.program_answers.proofs.answer.texts_of.Given as goal

abbrev pub invariant-loop-word : goal.invariant-loop-word
invariant-loop-word l = map (λ (t : Bor (List ℕ)). t.now) l.texts.items ++ map string_bytes (drop l.word-index l.words) ≡ map string_bytes l.words
