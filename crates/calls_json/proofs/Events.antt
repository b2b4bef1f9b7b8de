-- The line of an event, piece by piece.
use Rattle.std.proofs.Common.{◌≡◌, ℕ, List, [], ◌++◌, Option, Result, sym, ap, ◌∙◌, subst, append_assoc}
use Rattle.std.specs.Prelude.{codes}
use Rattle.std.proofs.lemmas.List.{append-nil}
use Rattle.pickle_io.specs.Text.{◌⧺◌}
use Rattle.pickle_io.specs.Device.{Told, Broke, Writes}
use Rattle.pickle_io.proofs.Devices.{Wrote-none, Wrote-then, Broke-next, Broke-longer, Writes-next}
use Rattle.json_lines.specs.Line.{Field, field, ◌⊕◌, whole, line, begun, fields_text}
use Rattle.json_lines.proofs.Lines.{fields-none, fields-append, line_is}
use Rattle.calls_json.specs.NameFields.{id_fields}
use Rattle.pickle_json.specs.ShownFields.{shown_fields}
use Rattle.calls_json.specs.EventFields.{around, begun_at, ended_with}

joined : (b o f i s e : List ℕ) → (b ++ (((o ++ f) ++ i) ++ s)) ++ e ≡ ((b ++ o) ++ f) ++ ((i ++ s) ++ e)
joined b o f i s e =
    ap (λ (t : List ℕ). (b ++ t) ++ e) (append_assoc (o ++ f) i s)
    ∙ ap (λ (t : List ℕ). t ++ e) (sym (append_assoc b (o ++ f) (i ++ s)) ∙ ap (λ (t : List ℕ). t ++ (i ++ s)) (sym (append_assoc b o f)))
    ∙ append_assoc ((b ++ o) ++ f) (i ++ s) e

-- the fields of an event, each by its text
parts_of : (offset : ℕ) (fs : List Field) (id : ℕ) (shown : Option (List ℕ))
    → fields_text (around offset fs id shown)
    ≡ ((fields_text (field (codes "offset") (whole offset)) ++ fields_text fs) ++ fields_text (id_fields (codes "object") id)) ++ fields_text (shown_fields shown)
unfolding around
parts_of offset fs id shown =
    fields-append (field (codes "offset") (whole offset) ⊕ fs ⊕ id_fields (codes "object") id) (shown_fields shown)
    ∙ ap (λ (t : List ℕ). t ++ fields_text (shown_fields shown)) (fields-append (field (codes "offset") (whole offset) ⊕ fs) (id_fields (codes "object") id)
    ∙ ap (λ (t : List ℕ). t ++ fields_text (id_fields (codes "object") id)) (fields-append (field (codes "offset") (whole offset)) fs))

line_of_event : (kind : List ℕ) (offset : ℕ) (fs : List Field) (id : ℕ) (shown : Option (List ℕ))
    → begun_at kind offset ⧺ fields_text fs ⧺ ended_with id shown ≡ line kind (around offset fs id shown)
unfolding begun_at ended_with ◌⧺◌
line_of_event kind offset fs id shown =
    sym (line_is kind (around offset fs id shown) ∙ ap (λ (t : List ℕ). (begun kind ++ t) ++ codes "}\n") (parts_of offset fs id shown)
    ∙ joined (begun kind) (fields_text (field (codes "offset") (whole offset))) (fields_text fs) (fields_text (id_fields (codes "object") id))
    (fields_text (shown_fields shown)) (codes "}\n"))

bare_line : (kind : List ℕ) (offset id : ℕ) (shown : Option (List ℕ)) → begun_at kind offset ⧺ ended_with id shown ≡ line kind (around offset [] id shown)
unfolding ◌⧺◌
bare_line kind offset id shown =
    ap (λ (t : List ℕ). t ++ ended_with id shown) (sym (append-nil (begun_at kind offset)) ∙ ap (λ (t : List ℕ). begun_at kind offset ++ t) (sym fields-none))
    ∙ line_of_event kind offset [] id shown

pub Writes-event : {A E : Type 0} (a b : Told) (r : Result A E) (kind : List ℕ) (offset : ℕ) (fs : List Field) (id : ℕ) (shown : Option (List ℕ))
    → Writes a b r (begun_at kind offset ⧺ fields_text fs ⧺ ended_with id shown) → Writes a b r (line kind (around offset fs id shown))
Writes-event a b r kind offset fs id shown w = subst (λ (t : List ℕ). Writes a b r t) (line_of_event kind offset fs id shown) w

pub Broke-event : (a b : Told) (kind : List ℕ) (offset : ℕ) (fs : List Field) (id : ℕ) (shown : Option (List ℕ))
    → Broke a b (begun_at kind offset ⧺ fields_text fs ⧺ ended_with id shown) → Broke a b (line kind (around offset fs id shown))
Broke-event a b kind offset fs id shown w = subst (λ (t : List ℕ). Broke a b t) (line_of_event kind offset fs id shown) w

pub Writes-bare : {A E : Type 0} (a b : Told) (r : Result A E) (kind : List ℕ) (offset id : ℕ) (shown : Option (List ℕ))
    → Writes a b r (begun_at kind offset ⧺ ended_with id shown) → Writes a b r (line kind (around offset [] id shown))
Writes-bare a b r kind offset id shown w = subst (λ (t : List ℕ). Writes a b r t) (bare_line kind offset id shown) w

pub Broke-bare : (a b : Told) (kind : List ℕ) (offset id : ℕ) (shown : Option (List ℕ)) → Broke a b (begun_at kind offset ⧺ ended_with id shown) → Broke a b (line kind (around offset [] id shown))
Broke-bare a b kind offset id shown w = subst (λ (t : List ℕ). Broke a b t) (bare_line kind offset id shown) w

pub ruleset event_steps = (Writes-event, Broke-event, Wrote-none, Wrote-then, Broke-next, Broke-longer, Writes-next)

pub ruleset bare_steps = (Writes-bare, Broke-bare, Wrote-none, Wrote-then, Broke-next, Broke-longer, Writes-next)
