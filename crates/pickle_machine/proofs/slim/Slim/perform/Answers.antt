use Rattle.std.proofs.Common.{◌≡◌, None, arith, sym, ap, ◌∙◌, ℕ, List, ◌++◌, length}
use Rattle.pickle_ops.specs.declared.opcode.Opcode.{Opcode}
use Rattle.pickle_ops.specs.Spelling.{spelling}
use Rattle.pickle_ops.specs.Kind.{class_of}
use Rattle.pickle_ops.specs.Row.{kind_of, kind_of_opcode}
use Rattle.pickle_machine.specs.Move.{refusal_of, fresh}
use Rattle.pickle_machine.specs.Reading.{reading}
use Rattle.pickle_machine.proofs.Slims.{keeps_on, fits_bytes, good_lean, read_on}
use Rattle.pickle_machine.proofs.slim.Slim.perform.Goals as goal

pub overflow_cast-size : goal.overflow_cast-size
overflow_cast-size c =
    let next : (rest : List ℕ) × ((reading c.self.inside.many c.self.inside.bytes c.self.inside.place).rest ≡ spelling c.args.op.now ++ rest) = rw (← c.self.view_is) at c.requires.next in
    let size : length c.arg-arg.result.now ≡ length c.args.op.now.arg = ap (λ (l : List ℕ). length l) c.arg-arg.ensures.value in
    omega (arith, fits_bytes c.args.op.now c.self.inside.offset c.self.inside.bytes next.0 (sym c.self.invariant.unread ∙ next.1) c.self.invariant.within, c.self.invariant.small, size)

pub move_on-moved-requires-clause-good : goal.move_on-moved-requires-clause-good
move_on-moved-requires-clause-good c =
    let good : refusal_of c.args.row (fresh (reading c.self.inside.many c.self.inside.bytes c.self.inside.place).state) ≡ None = rw (← c.self.view_is) at c.requires.good in
    good_lean c.args.row c.self.inside.lean c.go_on_fresh.new.lean (reading c.self.inside.many c.self.inside.bytes c.self.inside.place).state c.self.invariant.outline c.go_on_fresh.ensures.lean good

pub overflow_add-self : goal.overflow_add-self
overflow_add-self c =
    let next : (rest : List ℕ) × ((reading c.self.inside.many c.self.inside.bytes c.self.inside.place).rest ≡ spelling c.args.op.now ++ rest) = rw (← c.self.view_is) at c.requires.next in
    let size : length c.arg-arg.result.now ≡ length c.args.op.now.arg = ap (λ (l : List ℕ). length l) c.arg-arg.ensures.value in
    omega (arith, fits_bytes c.args.op.now c.self.inside.offset c.self.inside.bytes next.0 (sym c.self.invariant.unread ∙ next.1) c.self.invariant.within, c.self.invariant.small, size)

pub invariant_of-self : goal.invariant_of-self
invariant_of-self c =
    let next : (rest : List ℕ) × ((reading c.self.inside.many c.self.inside.bytes c.self.inside.place).rest ≡ spelling c.args.op.now ++ rest) = rw (← c.self.view_is) at c.requires.next in
    let class : c.of-class.result ≡ class_of (kind_of c.args.op.now) = c.of-class.ensures c.args.op.now.arg ∙ ap (λ (o : Opcode). class_of (kind_of_opcode o c.args.op.now.arg)) c.opcode.ensures in
    let lean = rw c.requires.row at c.in-Ok.ensures.lean in
    let parts = rw c.requires.row at c.in-Ok.ensures.parts in
    let origins = rw c.requires.row at c.in-Ok.ensures.origins in
    let buffers = rw c.requires.row at c.in-Ok.ensures.buffers in
    rw (c.arg-arg.ensures.value, c.keep.ensures)
    (keeps_on c.self.inside.many c.self.inside.bytes c.self.inside.offset c.self.inside.place c.self.inside.buffers c.go_on_fresh.new.buffers c.move_on-moved.new.buffers c.self.inside.lean c.go_on_fresh.new.lean c.move_on-moved.new.lean
    c.self.inside.origins.items c.move_on-moved.new.origins.items c.self.inside.parts.items c.move_on-moved.new.parts.items next.0 c.args.op.now c.of-class.result
    c.self.invariant c.arg-arg.ensures.spelled next.1 class c.go_on_fresh.ensures.lean c.go_on_fresh.ensures.buffers lean parts origins buffers)

pub returns-in-Ok : goal.returns-in-Ok
returns-in-Ok c =
    let next : (rest : List ℕ) × ((reading c.self.inside.many c.self.inside.bytes c.self.inside.place).rest ≡ spelling c.args.op.now ++ rest) = rw (← c.self.view_is) at c.requires.next in
    rw (← c.self.view_is, c.keep.ensures) (read_on c.self.inside.many c.self.inside.bytes c.self.inside.place c.args.op.now next.0 c.arg-arg.ensures.spelled next.1)
