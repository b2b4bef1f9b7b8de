use Rattle.std.proofs.Common.{◌≡◌, ℕ, subst, sym, ap, ◌∙◌, List, Some, None}
use Rattle.std.specs.Prelude.{slice_get}
use Rattle.std.specs.List.{between}
use Rattle.pickle_machine.specs.declared.slim.Origin.{Origin}
use Rattle.pickle_machine.specs.Reading.{reading}
use Rattle.pickle_machine.specs.Inside.Origins.{IsKept, start_of}
use Rattle.pickle_machine.proofs.Slims.{look_there, look_nowhere}
use Rattle.pickle_machine.proofs.slim.SlimInspect.look.Goals as goal

pub kept_at-kept-requires-clause-from : goal.kept_at-kept-requires-clause-from
kept_at-kept-requires-clause-from c =
    let e : slice_get c.self.inside.origins.items c.args.id ≡ Some c.in-Some.origin = ap (λ (l : List Origin). slice_get l c.args.id) (sym c.as_slice-origins.ensures.value) ∙ sym c.origin_at.ensures ∙ c.in-Some.is in
    let t = look_there c.self.inside.bytes c.self.inside.parts.items c.self.inside.origins.items (reading c.self.inside.many c.self.inside.bytes c.self.inside.place).state.heap c.args.id c.in-Some.origin c.self.invariant.heap e in
    rw c.as_slice-origins.ensures.value t.2

pub kept_at-kept-requires-clause-within : goal.kept_at-kept-requires-clause-within
kept_at-kept-requires-clause-within c =
    let e : slice_get c.self.inside.origins.items c.args.id ≡ Some c.in-Some.origin = ap (λ (l : List Origin). slice_get l c.args.id) (sym c.as_slice-origins.ensures.value) ∙ sym c.origin_at.ensures ∙ c.in-Some.is in
    let t = look_there c.self.inside.bytes c.self.inside.parts.items c.self.inside.origins.items (reading c.self.inside.many c.self.inside.bytes c.self.inside.place).state.heap c.args.id c.in-Some.origin c.self.invariant.heap e in
    rw c.as_slice.ensures.value t.3

pub look_at-requires : goal.look_at-requires
look_at-requires c =
    let e : slice_get c.self.inside.origins.items c.args.id ≡ Some c.in-Some.origin = ap (λ (l : List Origin). slice_get l c.args.id) (sym c.as_slice-origins.ensures.value) ∙ sym c.origin_at.ensures ∙ c.in-Some.is in
    let t = look_there c.self.inside.bytes c.self.inside.parts.items c.self.inside.origins.items (reading c.self.inside.many c.self.inside.bytes c.self.inside.place).state.heap c.args.id c.in-Some.origin c.self.invariant.heap e in
    rw (c.kept_at-kept.ensures, c.as_slice-origins.ensures.value, c.as_slice.ensures.value) (t.0, t.4)

pub returns-in-Some : goal.returns-in-Some
returns-in-Some c =
    let e : slice_get c.self.inside.origins.items c.args.id ≡ Some c.in-Some.origin = ap (λ (l : List Origin). slice_get l c.args.id) (sym c.as_slice-origins.ensures.value) ∙ sym c.origin_at.ensures ∙ c.in-Some.is in
    let t = look_there c.self.inside.bytes c.self.inside.parts.items c.self.inside.origins.items (reading c.self.inside.many c.self.inside.bytes c.self.inside.place).state.heap c.args.id c.in-Some.origin c.self.invariant.heap e in
    let kept : c.kept_at-kept.result.now ≡ between (start_of 0 c.self.inside.origins.items c.args.id) c.in-Some.origin.end c.self.inside.parts.items =
    c.kept_at-kept.ensures ∙ ap (λ (l : List Origin). between (start_of 0 l c.args.id) c.in-Some.origin.end c.as_slice.result.now) c.as_slice-origins.ensures.value
    ∙ ap (λ (l : List ℕ). between (start_of 0 c.self.inside.origins.items c.args.id) c.in-Some.origin.end l) c.as_slice.ensures.value in
    let P : List ℕ → Type 0 = λ l. IsKept c.self.inside.bytes l c.in-Some.origin.offset t.0 in
    let k = subst P (sym kept) t.4 in
    rw (← c.self.view_is) (c.look_at.ensures t.0 k ∙ sym t.1)

pub returns-in-None : goal.returns-in-None
returns-in-None c =
    let e : slice_get c.self.inside.origins.items c.args.id ≡ None = ap (λ (l : List Origin). slice_get l c.args.id) (sym c.as_slice-origins.ensures.value) ∙ sym c.origin_at.ensures ∙ c.in-None.is in
    rw (← c.self.view_is) (sym (look_nowhere c.self.inside.bytes c.self.inside.parts.items c.self.inside.origins.items (reading c.self.inside.many c.self.inside.bytes c.self.inside.place).state.heap c.args.id c.self.invariant.heap e))
