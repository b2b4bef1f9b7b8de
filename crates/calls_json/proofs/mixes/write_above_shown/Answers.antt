use Rattle.std.specs.Prelude.{ℕ, List, Option}
use Rattle.json_lines.specs.Line.{fields_text}
use Rattle.line_buffer.proofs.Lines.{Writes-shown}
use Rattle.pickle_json.specs.ShownFields.{shown_fields}
use Rattle.calls_json.proofs.mixes.write_above_shown.Goals as goal

pub returns : goal.returns
returns g c =
    Writes-shown _ _ _ c.new-line.result c.write_above.new.page _ _ (λ (o : Option (List ℕ)). fields_text (shown_fields o)) c.new-line.ensures.held c.new-line.ensures.calm
    c.write_above.ensures c.write_shown.ensures
