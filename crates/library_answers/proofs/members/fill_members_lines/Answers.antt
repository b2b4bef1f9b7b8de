use Rattle.library_answers.specs.Answer.{IsMembersLinesOf}
use Rattle.library_answers.proofs.Filled.{filled}
use Rattle.library_answers.proofs.members.fill_members_lines.Goals as goal

pub returns-in-Ok : goal.returns-in-Ok
returns-in-Ok c = filled (IsMembersLinesOf c.args.bytes.now) _ _ _ _ _ _ _ _ c.in-Ok.ensures.whole c.as_slice.ensures.value (λ more. let large = c.in-Ok.ensures.large.1 more in absurd cc) c.put.ensures
