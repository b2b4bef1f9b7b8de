use Rattle.std.proofs.Common.{◌≡◌, Ok, ap, map, subst, sym}
use Rattle.std.specs.Prelude.{IfSome}
use Rattle.clap.specs.Words.{app_of, subcommand_rows_of}
use Rattle.program_answers.specs.CommandLine.{IsNamed, NamesTask, program}
use Rattle.program_answers.proofs.Named.{faultless, matched, refused_memory, taken_by}
use Rattle.program_answers.proofs.Taken.{taken_name}
use Rattle.program_answers.proofs.task.task_of.Goals as goal

pub returns-in_err-matches-clause-refuses : goal.returns-in_err-matches-clause-refuses
returns-in_err-matches-clause-refuses c =
    let same : app_of c.in_ok-command.command ≡ program = c.in_ok-command.ensures in
    λ taken fits. refused_memory c.from_residual-in_err-matches.result _ c.from_residual-in_err-matches.ensures.1
    (c.in_err-matches.ensures.passes (taken_by (app_of c.in_ok-command.command) program (map (λ w. w.now) c.args.words.now) same taken))

pub returns-in-Some-clause-taken : goal.returns-in-Some-clause-taken
returns-in-Some-clause-taken c = faultless _ _ c.in_ok-command.ensures c.in_ok-matches.ensures.kinds

pub returns-in-Some-clause-named : goal.returns-in-Some-clause-named
returns-in-Some-clause-named c =
    subst (λ found. IsNamed found c.in-Some.task) (matched _ _ _ c.in_ok-command.ensures c.in_ok-matches.ensures.ok.2)
    (subst (λ task. IfSome task (IsNamed (subcommand_rows_of c.in_ok-matches.matches))) c.in-Some.is c.in_ok-task.ensures.some)

pub returns-clause-refuses : goal.returns-clause-refuses
returns-clause-refuses c =
    λ taken fits. absurd (c.in_ok-task.ensures.none (ap Ok c.in-None.is)
    (subst NamesTask (sym (matched _ _ _ c.in_ok-command.ensures c.in_ok-matches.ensures.ok.2)) (taken_name (map (λ w. w.now) c.args.words.now) taken fits)))
