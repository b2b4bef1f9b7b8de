use Rattle.std.specs.Prelude.{ℕ, List, Option}
use Rattle.line_buffer.proofs.Lines.{Writes-shown}
use Rattle.calls_json.specs.LastFields.{ending_with, ending_line}
use Rattle.calls_json.proofs.last.write_ending.Goals as goal

pub returns : goal.returns
unfolding ending_line
returns g c =
    Writes-shown _ _ _ c.new-line.result c.write_ending_text.new.page _ _ (λ (o : Option (List ℕ)). ending_with c.args.ending o)
    c.new-line.ensures.held c.new-line.ensures.calm c.write_ending_text.ensures c.write_ending_with.ensures
