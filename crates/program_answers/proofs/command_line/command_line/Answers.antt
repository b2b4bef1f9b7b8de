use Rattle.std.proofs.Common.{◌≡◌, codes, refl}
use Rattle.std.proofs.lemmas.Result.{IfOk-weaker}
use Rattle.clap.specs.Words.{app_of, new_app}
use Rattle.program_answers.specs.CommandLine.{list_app, json_app, calls_app, debug_app, form_app, gate_app, reach_app, members_app, assemble_app, same_app, source_app, opcodes_app, wants_subcommand}
use Rattle.program_answers.proofs.Plain.{added}
use Rattle.program_answers.proofs.command_line.command_line.Goals as goal

pub returns : goal.returns
returns c =
    let start : app_of c.without_commands.result ≡ wants_subcommand (new_app (codes "picklestep")) = c.without_commands.ensures in
    let one = added _ _ _ _ list_app c.in_ok-subcommand.ensures start c.in_ok-list_command.ensures refl in
    let two = added _ _ _ _ (json_app (codes "objects")) c.in_ok-subcommand-2.ensures one c.in_ok-with_json.ensures refl in
    let three = added _ _ _ _ calls_app c.in_ok-subcommand-3.ensures two c.in_ok-calls_command.ensures refl in
    let four = added _ _ _ _ debug_app c.in_ok-subcommand-4.ensures three c.in_ok-debug_command.ensures refl in
    let five = added _ _ _ _ form_app c.in_ok-subcommand-5.ensures four c.in_ok-form_command.ensures refl in
    let six = added _ _ _ _ gate_app c.in_ok-subcommand-6.ensures five c.in_ok-gate_command.ensures refl in
    let seven = added _ _ _ _ reach_app c.in_ok-subcommand-7.ensures six c.in_ok-reach_command.ensures refl in
    let eight = added _ _ _ _ members_app c.in_ok-subcommand-8.ensures seven c.in_ok-members_command.ensures refl in
    let nine = added _ _ _ _ assemble_app c.in_ok-subcommand-9.ensures eight c.in_ok-assemble_command.ensures refl in
    let ten = added _ _ _ _ same_app c.in_ok-subcommand-10.ensures nine c.in_ok-same_command.ensures refl in
    let eleven = added _ _ _ _ source_app c.in_ok-subcommand-11.ensures ten c.in_ok-source_command.ensures refl in
    IfOk-weaker c.subcommand-12.result _ _ (λ r a. added _ _ _ _ opcodes_app a eleven c.in_ok-opcodes_command.ensures refl) c.subcommand-12.ensures
