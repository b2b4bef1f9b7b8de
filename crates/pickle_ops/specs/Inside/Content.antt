-- What an object is made of and what was done to it, however it is kept.
use Rattle.std.specs.Prelude.{ℕ, List, []}
use Rattle.pickle_ops.specs.declared.object.Change.{Change}
use Rattle.pickle_ops.specs.declared.object.Made.{Made}
use Rattle.pickle_ops.specs.declared.object.Made.TheVariants as made

abbrev pub parts_of : Made → List ℕ
parts_of made.Nothing = []
parts_of (made.One parts) = parts
parts_of (made.Two parts) = parts
parts_of (made.Three parts) = parts
parts_of (made.More content) = content.value.parts.items

abbrev pub made_changes : Made → List Change
made_changes (made.More content) = content.value.changes.items
made_changes _ = []
