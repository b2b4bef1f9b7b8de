use Rattle.std.proofs.Common.{sym, ap, ◌∙◌, arith, refl}
use Rattle.std.specs.Prelude.{is_some}
use Rattle.std.proofs.lemmas.Map.Text.{btree_map_updates_str}
use Rattle.assembly_labels.proofs.Places.{noted_new}
use Rattle.assembly_labels.proofs.numbers.note.Goals as goal

pub returns-in-Ok : goal.returns-in-Ok
returns-in-Ok c = λ names n.
    let none = sym c.contains_key.ensures ∙ c.if-contains_key.false in
    let gone = ap is_some c.in-Ok.ensures.old ∙ none in
    noted_new names c.args.label.now c.args.places.now c.insert.new.self c.len-place.result c.len-place.ensures.len none (rw gone at c.in-Ok.ensures.len)
    (btree_map_updates_str c.args.label.now c.args.places.now c.insert.new.self _ c.in-Ok.ensures.updates) n
