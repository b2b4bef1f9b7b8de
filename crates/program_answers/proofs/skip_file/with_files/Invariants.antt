use Rattle.std.proofs.Common.{length, ◌-◌, List, ℕ, ◌++◌, ◌≤◌, drop, map}
use Rattle.std.specs.String.{string_bytes}
use Rattle.program_answers.specs.Files.{IsRead}
use Rattle.program_answers.specs.Skips.{StandFor}
use Rattle.program_answers.proofs.skip_file.with_files.Given as goal

abbrev pub invariant-loop-i : goal.invariant-loop-i
invariant-loop-i g l =
    (l.i ≤ length l.given)
    × ((out : List (List ℕ)) → StandFor (λ path bytes. IsRead (g.F.Files.bytes_of l.files path) bytes) (map string_bytes (drop l.i l.given)) out
    → StandFor (λ path bytes. IsRead (g.F.Files.bytes_of l.files path) bytes) (map string_bytes l.given) (map string_bytes l.words.items ++ out))

abbrev pub decreases-loop-i : goal.decreases-loop-i
decreases-loop-i g l = length l.given - l.i
