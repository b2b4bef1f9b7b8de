use Rattle.std.proofs.Common.{◌≡◌, ℕ, List, drop, Some, ap, sym, ◌∙◌, subst}
use Rattle.std.specs.Prelude.{slice_get}
use Rattle.pickle_ops.specs.Spelling.{Reads}
use Rattle.pickle_machine.specs.declared.again.LongOp.{LongOp}
use Rattle.pickle_machine.proofs.Longs.{long_kept, long_reads}
use Rattle.pickle_machine.proofs.again.Again.op_at.Goals as goal

pub peek_known-requires : goal.peek_known-requires
peek_known-requires c =
    let e : slice_get c.self.inside.long.items c.in-Some.ensures.0 ≡ Some c.in-Some.long =
    ap (λ (l : List LongOp). slice_get l c.in-Some.ensures.0) (sym c.as_slice.ensures.value) ∙ c.in-Some.ensures.1 in
    let is = long_kept c.self.inside.bytes.now c.self.inside.long.items c.in-Some.ensures.0 c.in-Some.long c.self.invariant e in
    let r = long_reads c.self.inside.bytes.now c.in-Some.long is in
    let P : ℕ → Type 0 = λ n. Reads (drop n c.self.inside.bytes.now) r.0 c.in-Some.long.size in
    (r.0, rw c.split_at.ensures.back (subst P c.in-Some.ensures.2 r.1))
