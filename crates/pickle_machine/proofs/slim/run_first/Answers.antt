use Rattle.std.proofs.Common.{sym, ap, ◌∙◌, length, arith}
use Rattle.std.proofs.lemmas.Slice.{between_to_end}
use Rattle.pickle_ops.specs.Spelling.{size_of}
use Rattle.pickle_machine.specs.Held.{Held}
use Rattle.pickle_machine.specs.Reading.{Reading}
use Rattle.pickle_machine.proofs.Slims.{reading_start, whole_on}
use Rattle.pickle_machine.proofs.slim.run_first.Goals as goal

pub opcodes-init : goal.opcodes-init
opcodes-init c =
    let z = reading_start c.args.many c.args.bytes.now in
    (ap (λ (m : Held). m.state) c.start-machine.ensures ∙ sym (ap (λ (r : Reading). r.state) z), sym (ap (λ (r : Reading). r.rest) z), ap (λ (r : Reading). r.place) z)

pub opcodes-preserved : goal.opcodes-preserved
opcodes-preserved c =
    let w = whole_on c.args.many c.args.bytes.now c.opcodes.place c.in-Ok.op c.in-Ok.ensures.found.front.0 c.opcodes.rest.now c.of_ref-row.result c.opcodes.machine.state c.step_as.new.self.state c.in-Ok.ensures.found.spelled c.in-Ok.ensures.found.front.1
    c.opcodes.invariant.0 c.opcodes.invariant.1 c.opcodes.invariant.2 c.of_ref-row.ensures c.in_default-step_as.ensures.ok in
    (w.0, rw c.size.ensures (between_to_end c.opcodes.rest.now (size_of c.in-Ok.op) (length c.opcodes.rest.now) (omega arith) ∙ w.1), w.2)
