-- How the run of a document goes on, and how it ends.
use Rattle.std.proofs.Common.{◌≡◌, ℕ, zero, suc, ◌+◌, ◌≤◌, List, [], ◌∷◌, length, slice_get, Option, Some, Result, Ok, refl, ap, ◌∙◌, add-one, arith, length-append}
use Rattle.std.specs.Prelude.{take}
use Rattle.std.specs.Result.{result_ok}
use Rattle.pickle_ops.specs.Spelling.{Operation, spelling}
use Rattle.pickle_doc.specs.declared.item.Item.{Item}
use Rattle.pickle_doc.specs.DocUnit.{operations, bytes_of, is_stop}
use Rattle.pickle_doc.specs.Document.{Contents, items_of, document_bytes, ends_with_stop}
use Rattle.pickle_doc.specs.Place.{ops_of}
use Rattle.pickle_machine.specs.declared.refusal.Refusal.{Refusal}
use Rattle.pickle_machine.specs.State.{State}
use Rattle.pickle_machine.specs.Move.{move}
use Rattle.pickle_machine.specs.Run.{after, run}

-- ---- runs

pub run_nothing : (from : State) (ops : List Operation) → run from ops 0 ≡ Some from
unfolding run
run_nothing from ops = refl

run_suc : (from : State) (ops : List Operation) (n : ℕ) (s : State) → run from ops n ≡ Some s → run from ops (suc n) ≡ after (slice_get ops n) n (Some s)
unfolding run
run_suc from ops n s e = ap (λ (x : Option State). after (slice_get ops n) n x) e

-- one step more
pub run_next : (from : State) (ops : List Operation) (o : Operation) (n : ℕ) (s t : State) → run from ops n ≡ Some s → slice_get ops n ≡ Some o → move o n s ≡ Ok t → run from ops (n + 1) ≡ Some t
run_next from ops o n s t e f v =
    let more : n + 1 ≡ suc n = omega arith in
    ap (run from ops) more ∙ run_suc from ops n s e ∙ ap (λ (x : Option Operation). after x n (Some s)) f ∙ ap (λ (r : Result State Refusal). result_ok r) v

pub run_after : (from : State) (ops : List Operation) (n : ℕ) (t : State) → run from ops (suc n) ≡ Some t → after (slice_get ops n) n (run from ops n) ≡ Some t
unfolding run
run_after from ops n t e = e

-- ---- how many items there are

items_bytes : (items : List Item) → length items ≤ length (bytes_of (operations items))
items_bytes [] = omega arith
items_bytes (i ∷ items) = omega (arith, length-append (spelling i.op) (bytes_of (operations items)), items_bytes items)

-- each item takes a byte at least
pub few_items : (d : Contents) → length (items_of d) ≤ length (document_bytes d)
few_items d = omega (arith, items_bytes (items_of d), length-append (bytes_of (ops_of d)) d.tail)

-- whether item k is STOP is whether the items up to it end in STOP
pub last_taken : (items : List Item) (k : ℕ) (o : Operation) → slice_get (operations items) k ≡ Some o → ends_with_stop (take (k + 1) items) ≡ is_stop o.opcode
last_taken items k o e = rw (add-one k) (go items k e)
  where
    go : (items : List Item) (k : ℕ) → slice_get (operations items) k ≡ Some o → ends_with_stop (take (suc k) items) ≡ is_stop o.opcode
    go [] k e = cc
    go (i ∷ items) zero e = let same : i.op ≡ o = cc in ap (λ (p : Operation). is_stop p.opcode) same
    go (i ∷ []) (suc k) e = cc
    go (i ∷ j ∷ items) (suc k) e = go (j ∷ items) k e
