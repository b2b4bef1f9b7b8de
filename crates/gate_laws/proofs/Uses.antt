-- What it means that acts are permitted.
use Rattle.std.proofs.Common.{◌≡◌, ℕ, ◌+◌, Bool, true, false, List, [], Option, Some, None, refl, sym, ap, ◌∙◌, arith}
use Rattle.std.specs.Prelude.{◌||◌, not}
use Rattle.std.specs.Option.{option_map}
use Rattle.pickle_loader.specs.Environment.{PyType, Value, Foreign, is_elsewhere, Act, Find, Call, New, NewEx, Instance, SetState, Fill}
use Rattle.pickle_allow.specs.declared.list.Use.{Use}
use Rattle.pickle_allow.specs.declared.list.Use.TheVariants as use_of
use Rattle.pickle_allow.specs.declared.list.Entry.{Entry}
use Rattle.pickle_allow.specs.Allow.{Source, is_in, allows, may_find, may_use}
use Rattle.pickle_allow.specs.Source.{itself, source_at}
use Rattle.gate_laws.specs.Permitted.{found, value_source, permits, Deed, deed_of}
use Rattle.gate_laws.specs.Laws.{ImportsAreInTheList, UsesAreGranted}
use Rattle.gate_laws.proofs.Walk.{sources_by, placed}

found_some : (list : List Entry) (x : Option (List ℕ)) → may_find list x ≡ true → (name : List ℕ) × (x ≡ Some name) × (is_in list name ≡ true)
found_some list None e = absurd cc
found_some list (Some name) e = (name, refl, e)

pub imports_are_in_the_list : ImportsAreInTheList
imports_are_in_the_list list acts all k proto m n at = found_some list (found proto m n) (placed list [] acts k (Find proto m n) all at).permitted

-- what is done with a value is granted to what it comes of
abbrev done : Use → Value → Deed
done what on = record { what = what; on = on }

one_deed : (x : Use) (v : Value) (what : Use) (on : Value) → Some (done x v) ≡ Some (done what on) → (x ≡ what) × (v ≡ on)
one_deed x v what on e = let same : done x v ≡ done what on = cc in (ap (λ (d : Deed). d.what) same, ap (λ (d : Deed). d.on) same)

as_granted : (list : List Entry) (front : List (Option Source)) (x what : Use) (v : Value) (t : PyType) (k : ℕ) → (x ≡ what) × (v ≡ Foreign t k) → may_use list x (value_source front v) ≡ true → may_use list what (source_at front k) ≡ true
as_granted list front x what v t k (e, f) h = ap (λ (y : Use). may_use list y (source_at front k)) (sym e) ∙ ap (λ (y : Value). may_use list x (value_source front y)) (sym f) ∙ h

filled : (a b : Bool) → a ≡ true → (not a || b) ≡ true → b ≡ true
filled true b e h = h
filled false b e h = absurd cc

granted : (list : List Entry) (front : List (Option Source)) (a : Act) (what : Use) (t : PyType) (k : ℕ) → deed_of a ≡ Some (record { what = what; on = Foreign t k }) → permits list front a ≡ true → may_use list what (source_at front k) ≡ true
granted list front (Call f args) what t k e h = as_granted list front use_of.Call what f t k (one_deed use_of.Call f what (Foreign t k) e) h
granted list front (New cls args) what t k e h = as_granted list front use_of.New what cls t k (one_deed use_of.New cls what (Foreign t k) e) h
granted list front (NewEx cls args keywords) what t k e h = as_granted list front use_of.New what cls t k (one_deed use_of.New cls what (Foreign t k) e) h
granted list front (Instance (Some cls) args) what t k e h = as_granted list front use_of.Call what cls t k (one_deed use_of.Call cls what (Foreign t k) e) h
granted list front (SetState target state) what t k e h = as_granted list front use_of.State what target t k (one_deed use_of.State target what (Foreign t k) e) h
granted list front (Fill how target items) what t k e h =
    let d = one_deed use_of.Fill target what (Foreign t k) e in
    as_granted list front use_of.Fill what target t k d (filled (is_elsewhere target) (may_use list use_of.Fill (value_source front target)) (ap is_elsewhere d.1) h)
granted list front _ what t k e h = absurd cc

use_some : (list : List Entry) (what : Use) (x : Option Source) → may_use list what x ≡ true → (s : Source) × (x ≡ Some s) × (allows list what s ≡ true)
use_some list what None e = absurd cc
use_some list what (Some s) e = (s, refl, e)

named : (x : Option (List ℕ)) (s : Source) → option_map itself x ≡ Some s → (name : List ℕ) × (x ≡ Some name) × (itself name ≡ s)
named None s e = absurd cc
named (Some name) s e = (name, refl, cc)

pub uses_are_granted : UsesAreGranted
uses_are_granted list acts all k j proto m n a what t found_at at e =
    let x = placed list [] acts j a all at in
    let y = placed list [] acts k (Find proto m n) all found_at in
    let s = use_some list what (source_at x.front k) (granted list x.front a what t k e x.permitted) in
    let same : k ≡ 0 + k = omega arith in
    let source : option_map itself (found proto m n) ≡ Some s.0 = sym y.source ∙ sym (ap (λ (i : ℕ). source_at (sources_by [] acts) i) same) ∙ x.stays k s.0 s.1 in
    let name = named (found proto m n) s.0 source in
    (name.0, name.1, ap (allows list what) name.2 ∙ s.2)
