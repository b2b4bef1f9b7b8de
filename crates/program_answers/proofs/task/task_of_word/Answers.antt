use Rattle.std.proofs.Common.{rules, refl, ap, codes}
use Rattle.clap.specs.Words.{found_of, rows_of}
use Rattle.program_answers.specs.CommandLine.{matches_of, name_of}
use Rattle.program_answers.proofs.Named.{used_as, asked_as, named_some}
use Rattle.program_answers.proofs.task.task_of_word.Goals as goal

pub returns-in-List-clause-some : goal.returns-in-List-clause-some
returns-in-List-clause-some c =
    (used_as _ (codes "list") (rows_of (found_of c.args.found.now)) c.args.input (ap name_of c.in-List.is) c.requires, search rules)

pub returns-in-Objects-clause-some : goal.returns-in-Objects-clause-some
returns-in-Objects-clause-some c =
    (used_as _ (codes "objects") (rows_of (found_of c.args.found.now)) c.args.input (ap name_of c.in-Objects.is) c.requires, search rules)

pub returns-in-Form-clause-some : goal.returns-in-Form-clause-some
returns-in-Form-clause-some c =
    (used_as _ (codes "form") (rows_of (found_of c.args.found.now)) c.args.input (ap name_of c.in-Form.is) c.requires, search rules)

pub returns-in-Reach-clause-some : goal.returns-in-Reach-clause-some
returns-in-Reach-clause-some c =
    (used_as _ (codes "reach") (rows_of (found_of c.args.found.now)) c.args.input (ap name_of c.in-Reach.is) c.requires, search rules)

pub returns-in-Members-clause-some : goal.returns-in-Members-clause-some
returns-in-Members-clause-some c =
    (used_as _ (codes "members") (rows_of (found_of c.args.found.now)) c.args.input (ap name_of c.in-Members.is) c.requires, search rules)

pub returns-in-Calls-clause-some : goal.returns-in-Calls-clause-some
returns-in-Calls-clause-some c =
    let rows = rows_of (found_of c.args.found.now) in
    named_some (matches_of (name_of c.args.word) rows) _ (codes "calls") rows _ refl (ap name_of c.in-Calls.is) c.calls_task.ensures.some

pub returns-in-Debug-clause-some : goal.returns-in-Debug-clause-some
returns-in-Debug-clause-some c =
    let rows = rows_of (found_of c.args.found.now) in
    named_some (matches_of (name_of c.args.word) rows) _ (codes "debug") rows _ refl (ap name_of c.in-Debug.is) c.debug_task.ensures.some

pub returns-in-Gate-clause-some : goal.returns-in-Gate-clause-some
returns-in-Gate-clause-some c =
    let rows = rows_of (found_of c.args.found.now) in
    named_some (matches_of (name_of c.args.word) rows) _ (codes "gate") rows _ refl (ap name_of c.in-Gate.is) c.gate_task.ensures.some

pub returns-in-Same-clause-some : goal.returns-in-Same-clause-some
returns-in-Same-clause-some c =
    let rows = rows_of (found_of c.args.found.now) in
    named_some (matches_of (name_of c.args.word) rows) _ (codes "same") rows _ refl (ap name_of c.in-Same.is) c.same_task.ensures.some

pub returns-in-Opcodes-clause-some : goal.returns-in-Opcodes-clause-some
returns-in-Opcodes-clause-some c = asked_as _ (rows_of (found_of c.args.found.now)) _ (ap name_of c.in-Opcodes.is) c.format_of-in-Opcodes.ensures
