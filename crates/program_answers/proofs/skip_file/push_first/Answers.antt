use Rattle.std.proofs.Common.{sym, ◌∙◌}
use Rattle.std.specs.String.{string_bytes}
use Rattle.program_answers.proofs.Added.{word_added, file_added, nothing_behind, no_file_behind, lacks_file}
use Rattle.program_answers.proofs.skip_file.push_first.Goals.{in-Some+in_default-path_in, in_default}
use Rattle.program_answers.proofs.skip_file.push_first.Goals as goal

pub returns-in_err-push_file-clause-lacks : goal.returns-in_err-push_file-clause-lacks
returns-in_err-push_file-clause-lacks g c =
    lacks_file string_bytes _ _ _ _ _ _ _ _ _ c.in-Some.ensures.cases.0 c.in-Some-path_in.ensures.some.0 (sym c.as_str.ensures.value ∙ c.in-Some-path_in.ensures.some.1) c.in_err-push_file.ensures.lacks c.from_residual.ensures.1

pub returns-in-Some-path_in-clause-added : goal.returns-in-Some-path_in-clause-added
returns-in-Some-path_in-clause-added g c =
    file_added string_bytes _ _ _ _ _ _ _ _ c.in-Some.ensures.cases.0 c.in-Some-path_in.ensures.some.0 (sym c.as_str.ensures.value ∙ c.in-Some-path_in.ensures.some.1) c.in_ok-push_file.ensures.added

pub returns-clause-added : goal.returns-clause-added
returns-clause-added g c =
    word_added _ _ _ _ _ (elim c.match-split_first.branch [
      | in-Some+in_default-path_in w ↦ no_file_behind string_bytes _ _ _ _ w.in-Some.ensures.cases.0
          (λ is path e. w.path_in.ensures.none w.in_default-path_in.is is path (w.as_str.ensures.value ∙ e))
      | in_default w ↦ nothing_behind string_bytes _ _ w.in_default.ensures.cases
    ]) c.in_ok-push.ensures
