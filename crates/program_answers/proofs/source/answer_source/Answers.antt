use Rattle.std.proofs.Common.{refl}
use Rattle.program_answers.proofs.AtDevice.{source_took}
use Rattle.program_answers.proofs.source.answer_source.Goals as goal

pub returns-clause-took : goal.returns-clause-took
returns-clause-took g c =
    let h = c.write_out.ensures in
    source_took _ c.args.many c.args.loose c.args.bytes.now _ _ _ _ _ _ _ _ _ c.write_source_of-written.ensures h.passed h.calm h.untouched h.failed refl refl
    c.requires.handed h.handed
