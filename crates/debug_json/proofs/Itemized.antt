-- The argument of an item, and how many items there are.
use Rattle.std.proofs.Common.{◌≡◌, ℕ, Result, refl}
use Rattle.std.specs.Prelude.{pos}
use Rattle.json_lines.specs.Line.{whole, integer, fields_text}
use Rattle.pickle_io.specs.Device.{Told, Writes}
use Rattle.pickle_json.specs.ItemFields.{number_fields, integer_fields}

number_is : (n : ℕ) → integer_fields (pos n) ≡ number_fields n
unfolding integer_fields number_fields integer whole
number_is n = refl

pub Writes-number : {A E : Type 0} (a b : Told) (r : Result A E) (n : ℕ) → Writes a b r (fields_text (integer_fields (pos n))) → Writes a b r (fields_text (number_fields n))
Writes-number a b r n w = rw (number_is n) at w

pub ruleset argument_steps = (Writes-number)
