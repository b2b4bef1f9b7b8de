-- Objects of JSON and arrays of them, piece by piece.
use Rattle.std.proofs.Common.{◌≡◌, ℕ, List, [], ◌∷◌, ◌++◌, length, Result, refl, sym, ap, ◌∙◌, subst, arith}
use Rattle.std.specs.Prelude.{codes, map}
use Rattle.json.specs.Value.{items_of}
use Rattle.pickle_io.specs.Text.{◌⧺◌}
use Rattle.pickle_io.specs.Device.{Told, Wrote, Broke, Writes, each}
use Rattle.pickle_io.proofs.Devices.{Wrote-none, Wrote-then, Broke-next, Broke-longer, Writes-next, each-nil, each-cons}
use Rattle.json_lines.specs.Json.{value_text, more_items}
use Rattle.json_lines.specs.Line.{begun, fields_text}
use Rattle.json_lines.proofs.Lines.{object_is}
use Rattle.pickle_ops.specs.declared.kind.Kind.{Kind}
use Rattle.pickle_ops.specs.Object.{Object}
use Rattle.pickle_calls.specs.declared.naming.Naming.{Naming}
use Rattle.calls_json.specs.NameFields.{id_fields}
use Rattle.calls_json.specs.ValueFields.{kind_word, kind_fields, kind_json, id_json, brief_json, briefs_json, briefs_text, next_brief}

-- ---- objects

kind_is : (m : Naming) (heap : List Object) (id : ℕ) (k : Kind) (parts : List ℕ)
    → begun (kind_word k) ⧺ fields_text (kind_fields m heap id k parts) ⧺ codes "}" ≡ value_text (kind_json m heap id k parts)
unfolding kind_json
kind_is m heap id k parts = object_is (kind_word k) (kind_fields m heap id k parts)

id_is : (id : ℕ) → begun (codes "object") ⧺ fields_text (id_fields (codes "object") id) ⧺ codes "}" ≡ value_text (id_json id)
unfolding id_json
id_is id = object_is (codes "object") (id_fields (codes "object") id)

pub Writes-kind : {A E : Type 0} (a b : Told) (r : Result A E) (m : Naming) (heap : List Object) (id : ℕ) (k : Kind) (parts : List ℕ)
    → Writes a b r (begun (kind_word k) ⧺ fields_text (kind_fields m heap id k parts) ⧺ codes "}") → Writes a b r (value_text (kind_json m heap id k parts))
Writes-kind a b r m heap id k parts w = subst (λ (t : List ℕ). Writes a b r t) (kind_is m heap id k parts) w

pub Broke-kind : (a b : Told) (m : Naming) (heap : List Object) (id : ℕ) (k : Kind) (parts : List ℕ)
    → Broke a b (begun (kind_word k) ⧺ fields_text (kind_fields m heap id k parts) ⧺ codes "}") → Broke a b (value_text (kind_json m heap id k parts))
Broke-kind a b m heap id k parts w = subst (λ (t : List ℕ). Broke a b t) (kind_is m heap id k parts) w

pub Writes-id : {A E : Type 0} (a b : Told) (r : Result A E) (id : ℕ)
    → Writes a b r (begun (codes "object") ⧺ fields_text (id_fields (codes "object") id) ⧺ codes "}") → Writes a b r (value_text (id_json id))
Writes-id a b r id w = subst (λ (t : List ℕ). Writes a b r t) (id_is id) w

pub Broke-id : (a b : Told) (id : ℕ)
    → Broke a b (begun (codes "object") ⧺ fields_text (id_fields (codes "object") id) ⧺ codes "}") → Broke a b (value_text (id_json id))
Broke-id a b id w = subst (λ (t : List ℕ). Broke a b t) (id_is id) w

pub ruleset object_steps = (Writes-kind, Broke-kind, Writes-id, Broke-id, Wrote-none, Wrote-then, Broke-next, Broke-longer, Writes-next)

-- ---- arrays

more_briefs : (m : Naming) (heap : List Object) (ids : List ℕ) → more_items (items_of (map (brief_json m heap) ids)) ≡ each (next_brief m heap) ids
unfolding next_brief ◌⧺◌
more_briefs m heap [] = sym (each-nil (next_brief m heap))
more_briefs m heap (id ∷ ids) =
    ap (λ (t : List ℕ). (codes "," ++ value_text (brief_json m heap id)) ++ t) (more_briefs m heap ids) ∙ sym (each-cons (next_brief m heap) id ids)

pub no_briefs : (a : Told) (m : Naming) (heap : List Object) (ids : List ℕ) → length ids ≡ 0 → Wrote a a (briefs_text m heap ids)
unfolding briefs_text
no_briefs a m heap [] e = Wrote-none a
no_briefs a m heap (id ∷ ids) e = absurd (omega (arith, e))

some_briefs : (m : Naming) (heap : List Object) (id : ℕ) (ids : List ℕ) → value_text (brief_json m heap id) ⧺ each (next_brief m heap) ids ≡ briefs_text m heap (id ∷ ids)
unfolding briefs_text ◌⧺◌
some_briefs m heap id ids = ap (λ (t : List ℕ). value_text (brief_json m heap id) ++ t) (sym (more_briefs m heap ids))

pub Writes-briefs : {A E : Type 0} (a b : Told) (r : Result A E) (m : Naming) (heap : List Object) (id : ℕ) (ids : List ℕ)
    → Writes a b r (value_text (brief_json m heap id) ⧺ each (next_brief m heap) ids) → Writes a b r (briefs_text m heap (id ∷ ids))
Writes-briefs a b r m heap id ids w = subst (λ (t : List ℕ). Writes a b r t) (some_briefs m heap id ids) w

pub Broke-briefs : (a b : Told) (m : Naming) (heap : List Object) (id : ℕ) (ids : List ℕ)
    → Broke a b (value_text (brief_json m heap id) ⧺ each (next_brief m heap) ids) → Broke a b (briefs_text m heap (id ∷ ids))
Broke-briefs a b m heap id ids w = subst (λ (t : List ℕ). Broke a b t) (some_briefs m heap id ids) w

array_is : (m : Naming) (heap : List Object) (ids : List ℕ) → codes "[" ⧺ briefs_text m heap ids ⧺ codes "]" ≡ value_text (briefs_json m heap ids)
unfolding briefs_text briefs_json
array_is m heap ids = refl

pub Writes-array : {A E : Type 0} (a b : Told) (r : Result A E) (m : Naming) (heap : List Object) (ids : List ℕ)
    → Writes a b r (codes "[" ⧺ briefs_text m heap ids ⧺ codes "]") → Writes a b r (value_text (briefs_json m heap ids))
Writes-array a b r m heap ids w = subst (λ (t : List ℕ). Writes a b r t) (array_is m heap ids) w

pub Broke-array : (a b : Told) (m : Naming) (heap : List Object) (ids : List ℕ)
    → Broke a b (codes "[" ⧺ briefs_text m heap ids ⧺ codes "]") → Broke a b (value_text (briefs_json m heap ids))
Broke-array a b m heap ids w = subst (λ (t : List ℕ). Broke a b t) (array_is m heap ids) w

pub ruleset array_steps = (Writes-briefs, Broke-briefs, Writes-array, Broke-array, Wrote-none, Wrote-then, Broke-next, Broke-longer, Writes-next)
