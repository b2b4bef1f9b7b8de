use Rattle.std.proofs.Common.{refl, arith}
use Rattle.program_answers.proofs.AtDevice.{gate_took}
use Rattle.program_answers.proofs.gate.answer_gate.Goals as goal

pub returns-clause-took : goal.returns-clause-took
returns-clause-took g c =
    let h = c.write_out.ensures in
    gate_took _ c.args.format c.args.list.now c.args.bytes.now _ _ _ _ _ _ _ _ _ (λ i. omega (arith, c.type_inv.bytes i)) c.requires.few c.write_answer-written.ensures h.passed h.calm h.untouched h.failed refl refl c.requires.handed h.handed
