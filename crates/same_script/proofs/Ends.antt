-- An object that says how a run ends.
use Rattle.std.proofs.Common.{◌≡◌, ℕ, List, Result, subst}
use Rattle.std.specs.Prelude.{codes}
use Rattle.json_lines.specs.Json.{value_text}
use Rattle.json_lines.specs.Line.{begun, fields_text}
use Rattle.json_lines.proofs.Lines.{object_is}
use Rattle.pickle_io.specs.Text.{◌⧺◌}
use Rattle.pickle_io.specs.Device.{Told, Broke, Writes}
use Rattle.pickle_io.proofs.Devices.{Wrote-none, Wrote-then, Broke-next, Broke-longer, Writes-next}
use Rattle.pickle_text.specs.declared.closing.Closing.{Closing}
use Rattle.gate_json.specs.VerdictFields.{closing_fields}
use Rattle.same_script.specs.SameFields.{end_json}

end_text : (c : Closing) → begun (codes "end") ⧺ fields_text (closing_fields c) ⧺ codes "}" ≡ value_text (end_json c)
unfolding end_json
end_text c = object_is (codes "end") (closing_fields c)

pub Writes-end : {A E : Type 0} (a b : Told) (r : Result A E) (c : Closing)
    → Writes a b r (begun (codes "end") ⧺ fields_text (closing_fields c) ⧺ codes "}") → Writes a b r (value_text (end_json c))
Writes-end a b r c w = subst (λ (t : List ℕ). Writes a b r t) (end_text c) w

pub Broke-end : (a b : Told) (c : Closing) → Broke a b (begun (codes "end") ⧺ fields_text (closing_fields c) ⧺ codes "}") → Broke a b (value_text (end_json c))
Broke-end a b c w = subst (λ (t : List ℕ). Broke a b t) (end_text c) w

pub ruleset end_steps = (Writes-end, Broke-end, Wrote-none, Wrote-then, Broke-next, Broke-longer, Writes-next)
