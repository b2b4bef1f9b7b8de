use Rattle.std.proofs.Common.{refl}
use Rattle.program_answers.proofs.AtDevice.{assembly_took}
use Rattle.program_answers.proofs.assembled.answer_assembly.Goals as goal

pub returns-clause-took : goal.returns-clause-took
returns-clause-took g c =
    let h = c.write_out.ensures in
    assembly_took _ c.args.text.now _ _ _ _ _ _ _ _ _ c.write_assembled-written.ensures h.passed h.calm h.untouched h.failed refl refl c.requires h.handed
