-- Changes and arrays of them, piece by piece.
use Rattle.std.proofs.Common.{◌≡◌, ℕ, List, [], ◌∷◌, ◌++◌, Result, refl, sym, ap, ◌∙◌, subst}
use Rattle.std.specs.Prelude.{codes, map}
use Rattle.json.specs.Value.{items_of}
use Rattle.json_lines.specs.Json.{value_text, more_items}
use Rattle.json_lines.specs.Line.{begun, fields_text}
use Rattle.json_lines.proofs.Lines.{object_is}
use Rattle.pickle_io.specs.Text.{◌⧺◌}
use Rattle.pickle_io.specs.Device.{Told, Broke, Writes, each}
use Rattle.pickle_io.proofs.Devices.{Wrote-none, Wrote-then, Broke-next, Broke-longer, Writes-next, each-nil, each-cons}
use Rattle.pickle_ops.specs.declared.object.Change.{Change}
use Rattle.objects_json.specs.ObjectFields.{change_word, change_fields, change_json, changes_json, changes_text, next_change}

-- ---- a change

change_is : (c : Change) → begun (change_word c) ⧺ fields_text (change_fields c) ⧺ codes "}" ≡ value_text (change_json c)
unfolding change_json
change_is c = object_is (change_word c) (change_fields c)

pub Writes-change : {A E : Type 0} (a b : Told) (r : Result A E) (c : Change)
    → Writes a b r (begun (change_word c) ⧺ fields_text (change_fields c) ⧺ codes "}") → Writes a b r (value_text (change_json c))
Writes-change a b r c w = subst (λ (t : List ℕ). Writes a b r t) (change_is c) w

pub Broke-change : (a b : Told) (c : Change) → Broke a b (begun (change_word c) ⧺ fields_text (change_fields c) ⧺ codes "}") → Broke a b (value_text (change_json c))
Broke-change a b c w = subst (λ (t : List ℕ). Broke a b t) (change_is c) w

pub ruleset change_steps = (Writes-change, Broke-change, Wrote-none, Wrote-then, Broke-next, Broke-longer, Writes-next)

-- ---- arrays

more_changes : (cs : List Change) → more_items (items_of (map change_json cs)) ≡ each next_change cs
unfolding next_change ◌⧺◌
more_changes [] = sym (each-nil next_change)
more_changes (c ∷ cs) = ap (λ (t : List ℕ). (codes "," ++ value_text (change_json c)) ++ t) (more_changes cs) ∙ sym (each-cons next_change c cs)

some_changes : (c : Change) (cs : List Change) → value_text (change_json c) ⧺ each next_change cs ≡ changes_text (c ∷ cs)
unfolding changes_text ◌⧺◌
some_changes c cs = ap (λ (t : List ℕ). value_text (change_json c) ++ t) (sym (more_changes cs))

pub Writes-changes : {A E : Type 0} (a b : Told) (r : Result A E) (c : Change) (cs : List Change)
    → Writes a b r (value_text (change_json c) ⧺ each next_change cs) → Writes a b r (changes_text (c ∷ cs))
Writes-changes a b r c cs w = subst (λ (t : List ℕ). Writes a b r t) (some_changes c cs) w

pub Broke-changes : (a b : Told) (c : Change) (cs : List Change) → Broke a b (value_text (change_json c) ⧺ each next_change cs) → Broke a b (changes_text (c ∷ cs))
Broke-changes a b c cs w = subst (λ (t : List ℕ). Broke a b t) (some_changes c cs) w

array_is : (cs : List Change) → codes "[" ⧺ changes_text cs ⧺ codes "]" ≡ value_text (changes_json cs)
unfolding changes_text changes_json
array_is cs = refl

pub Writes-array : {A E : Type 0} (a b : Told) (r : Result A E) (cs : List Change) → Writes a b r (codes "[" ⧺ changes_text cs ⧺ codes "]") → Writes a b r (value_text (changes_json cs))
Writes-array a b r cs w = subst (λ (t : List ℕ). Writes a b r t) (array_is cs) w

pub Broke-array : (a b : Told) (cs : List Change) → Broke a b (codes "[" ⧺ changes_text cs ⧺ codes "]") → Broke a b (value_text (changes_json cs))
Broke-array a b cs w = subst (λ (t : List ℕ). Broke a b t) (array_is cs) w

pub ruleset array_steps = (Writes-changes, Broke-changes, Writes-array, Broke-array, Wrote-none, Wrote-then, Broke-next, Broke-longer, Writes-next)
