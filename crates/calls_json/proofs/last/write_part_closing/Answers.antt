use Rattle.std.specs.Prelude.{ℕ, List, Option}
use Rattle.line_buffer.proofs.Lines.{Writes-shown}
use Rattle.calls_json.specs.LastFields.{closing_with, closing_line}
use Rattle.calls_json.proofs.last.write_part_closing.Goals as goal

pub returns : goal.returns
unfolding closing_line
returns g c =
    Writes-shown _ _ _ c.new-line.result c.write_ends_text.new.page _ _ (λ (o : Option (List ℕ)). closing_with 0 c.args.closing o)
    c.new-line.ensures.held c.new-line.ensures.calm c.write_ends_text.ensures c.write_closing.ensures
