use Rattle.std.proofs.Common.{refl}
use Rattle.program_answers.proofs.AtDevice.{opcodes_took}
use Rattle.program_answers.proofs.opcodes.answer_opcodes.Goals as goal

pub returns-clause-took : goal.returns-clause-took
returns-clause-took g c =
    let h = c.write_out.ensures in
    opcodes_took c.args.format _ _ _ _ _ _ _ _ _ _ c.write_table.ensures c.answer_of-written.ensures h.passed h.calm (λ e. rw (h.untouched e) refl) h.failed refl
    refl c.requires h.handed
