use Rattle.std.specs.Prelude.{ℕ, List, Option}
use Rattle.json_lines.specs.Line.{fields_text}
use Rattle.line_buffer.proofs.Lines.{Writes-shown}
use Rattle.pickle_json.specs.ShownFields.{shown_fields}
use Rattle.gate_json.proofs.line.write_people.Goals as goal

pub returns : goal.returns
returns g c =
    Writes-shown _ _ _ c.new-line.result c.write_judged.new.page _ _ (λ (o : Option (List ℕ)). fields_text (shown_fields o)) c.new-line.ensures.held c.new-line.ensures.calm
    c.write_judged.ensures c.write_shown.ensures
