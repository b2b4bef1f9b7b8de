-- The parts in which items are gone over.
use Rattle.std.proofs.Common.{◌≡◌, ℕ, ◌+◌, ◌<◌, Bool, List, length, drop, ap, ◌∙◌, arith, length-append}
use Rattle.std.proofs.lemmas.List.{length-drop}
use Rattle.std.specs.Prelude.{Result, Ok, Err, IfErr, IsErrAnd}
use Rattle.pickle_ops.specs.Spelling.{Operation, size_of, spelling}
use Rattle.pickle_doc.specs.Unread.{IsNextItem}

-- an item has a byte
pub shorter : (loose : Bool) (left : ℕ) (rest : List ℕ) (o : Operation) → IsNextItem loose left rest o (size_of o) → length (drop (size_of o) rest) < length rest
shorter loose left rest o n =
    let all : length rest ≡ length (spelling o) + length n.rest = ap length n.spelled ∙ length-append (spelling o) n.rest in
    omega (arith, all, length-drop (size_of o) rest)

-- an error that is passed on
pub passed_on : {A E : Type 0} (P : E → Type 0) (r : Result A E) (e : E) → IsErrAnd r (λ x. x ≡ e) → P e → IfErr r P
passed_on P (Ok x) e h w = absurd h
passed_on P (Err x) e h w = rw h w
