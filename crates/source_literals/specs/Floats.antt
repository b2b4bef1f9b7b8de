-- The texts of floats, as they are kept: by the bits of each.
-- Source: own.
use Rattle.std.specs.Prelude.{◌≡◌, ℕ, List, Option, Some}
use Rattle.std.specs.BTreeMap as tree
use Rattle.std.specs.BTreeMap.{BTreeMap}
use Rattle.std.specs.Option.{option_map}
use Rattle.std.specs.Ordering.{nat_cmp}
use Rattle.python_literals.specs.Floats.{IsDoubleText}
use Rattle.source_literals.specs.declared.floats.FloatText.{FloatText}

-- the text of the float of these bits, if it is kept
abbrev pub text_in : BTreeMap ℕ FloatText → ℕ → Option (List ℕ)
text_in texts bits = option_map (λ (t : FloatText). t.bytes.items) (tree.get nat_cmp texts bits)

-- each text is one of its float
abbrev pub AreRead : BTreeMap ℕ FloatText → Type 0
AreRead texts = (bits : ℕ) (t : FloatText) → tree.get nat_cmp texts bits ≡ Some t → IsDoubleText bits t.bytes.items
