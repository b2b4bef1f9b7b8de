-- What a look, and what a class, says of an object.
use Rattle.std.proofs.Common.{◌≡◌, ℕ, Bool, false, List, [], Option, Some, None, refl, sym, ap, ◌∙◌}
use Rattle.std.specs.Prelude.{◌&&◌, ◌||◌, if◌then◌else◌, codes, slice_get}
use Rattle.std.specs.Option.{option_map, option_map_or}
use Rattle.pickle_io.specs.Text.{◌⧺◌}
use Rattle.pickle_ops.specs.declared.kind.Kind.{Kind}
use Rattle.pickle_ops.specs.declared.kind.Kind.TheVariants as kind
use Rattle.pickle_ops.specs.declared.kind_ref.Look.{Look}
use Rattle.pickle_ops.specs.declared.class.Class.{Class}
use Rattle.pickle_ops.specs.declared.class.Demand.TheVariants as demand
use Rattle.pickle_ops.specs.Object.{Object}
use Rattle.pickle_ops.specs.Class.{class_meets, is_any}
use Rattle.pickle_ops.specs.Kind.{class_of, is_opaque}
use Rattle.pickle_ops.specs.KindRef.{kind_view, parts_shown, shown, looked, look_shown}
use Rattle.pickle_machine.specs.Seen.{class_at}
use Rattle.pickle_machine.specs.Loader.{view_at, loose_at}
use Rattle.pickle_machine.specs.Loader.{views as loader_views}
use Rattle.pickle_calls.specs.declared.event.Event.TheVariants as event
use Rattle.pickle_calls.specs.declared.naming.Naming.{Naming}
use Rattle.pickle_calls.specs.Event.{views, is_view, is_shown, object_is, made_as, made_event}
use Rattle.pickle_calls.specs.Naming.{spelled_of, spelled_at}
use Rattle.pickle_text.specs.Words.{id_text}
use Rattle.pickle_calls.specs.Brief.{kind_name, name_text, kind_brief, brief_text, kind_value, value_text}
use Rattle.pickle_calls.specs.CallsLine.{made_words, made_text, made_at}

-- ---- whatever is said of a kind and of the parts that are shown

-- an object that is there
pub there : {A : Type 0} (f : Kind → List ℕ → A) (d : A) (l : Look) (g : Option Object) → ((k : Kind) (parts : List ℕ) → f k (parts_shown k parts) ≡ f k parts)
    → Some (look_shown l) ≡ option_map shown g → f (kind_view l.kind) l.parts.now ≡ option_map_or (λ (o : Object). f o.kind o.parts) g d
there f d l None same e = absurd cc
there f d l (Some o) same e =
    sym (same (kind_view l.kind) l.parts.now)
    ∙ ap (λ (x : Option Object). option_map_or (λ (o : Object). f o.kind o.parts) x d) e
    ∙ same o.kind o.parts

-- an object that is not there
pub absent : {A : Type 0} (f : Object → A) (d : A) (g : Option Object) → None ≡ option_map shown g → d ≡ option_map_or f g d
absent f d None e = refl
absent f d (Some o) e = absurd cc

-- ---- texts

brief_same : (m : Naming) (heap : List Object) (id : ℕ) (k : Kind) (parts : List ℕ) → kind_brief m heap id k (parts_shown k parts) ≡ kind_brief m heap id k parts
unfolding kind_brief
brief_same m heap id kind.StackGlobal parts = refl
brief_same m heap id _ parts = refl

value_same : (m : Naming) (heap : List Object) (id : ℕ) (k : Kind) (parts : List ℕ) → kind_value m heap id k (parts_shown k parts) ≡ kind_value m heap id k parts
unfolding kind_value kind_brief
value_same m heap id kind.Tuple parts = refl
value_same m heap id kind.StackGlobal parts = refl
value_same m heap id _ parts = refl

name_same : (m : Naming) (heap : List Object) (id : ℕ) (k : Kind) (parts : List ℕ) → kind_name m heap id k (parts_shown k parts) ≡ kind_name m heap id k parts
unfolding kind_name
name_same m heap id kind.StackGlobal parts = refl
name_same m heap id _ parts = refl

made_same : (m : Naming) (heap : List Object) (id : ℕ) (k : Kind) (parts : List ℕ)
    → made_words m heap k (parts_shown k parts) ⧺ codes " as " ⧺ id_text id ≡ made_words m heap k parts ⧺ codes " as " ⧺ id_text id
unfolding made_words
made_same m heap id kind.StackGlobal parts = refl
made_same m heap id kind.Call parts = refl
made_same m heap id kind.New parts = refl
made_same m heap id kind.NewEx parts = refl
made_same m heap id (kind.Inst texts) parts = refl
made_same m heap id kind.Obj parts = refl
made_same m heap id kind.Persistent parts = refl
made_same m heap id kind.ReadOnly parts = refl
made_same m heap id _ parts = refl

pub brief_there : (m : Naming) (heap : List Object) (id : ℕ) (l : Look) → Some (look_shown l) ≡ option_map shown (slice_get heap id)
    → kind_brief m heap id (kind_view l.kind) l.parts.now ≡ brief_text m heap id
unfolding brief_text
brief_there m heap id l e = there (kind_brief m heap id) (id_text id) l (slice_get heap id) (brief_same m heap id) e

pub brief_absent : (m : Naming) (heap : List Object) (id : ℕ) → None ≡ option_map shown (slice_get heap id) → id_text id ≡ brief_text m heap id
unfolding brief_text
brief_absent m heap id e = absent (λ (o : Object). kind_brief m heap id o.kind o.parts) (id_text id) (slice_get heap id) e

pub value_there : (m : Naming) (heap : List Object) (id : ℕ) (l : Look) → Some (look_shown l) ≡ option_map shown (slice_get heap id)
    → kind_value m heap id (kind_view l.kind) l.parts.now ≡ value_text m heap id
unfolding value_text
value_there m heap id l e = there (kind_value m heap id) (id_text id) l (slice_get heap id) (value_same m heap id) e

pub value_absent : (m : Naming) (heap : List Object) (id : ℕ) → None ≡ option_map shown (slice_get heap id) → id_text id ≡ value_text m heap id
unfolding value_text
value_absent m heap id e = absent (λ (o : Object). kind_value m heap id o.kind o.parts) (id_text id) (slice_get heap id) e

pub name_there : (m : Naming) (heap : List Object) (id : ℕ) (l : Look) → Some (look_shown l) ≡ option_map shown (slice_get heap id)
    → kind_name m heap id (kind_view l.kind) l.parts.now ≡ name_text m heap id
unfolding name_text
name_there m heap id l e = there (kind_name m heap id) (id_text id) l (slice_get heap id) (name_same m heap id) e

pub name_absent : (m : Naming) (heap : List Object) (id : ℕ) → None ≡ option_map shown (slice_get heap id) → id_text id ≡ name_text m heap id
unfolding name_text
name_absent m heap id e = absent (λ (o : Object). kind_name m heap id o.kind o.parts) (id_text id) (slice_get heap id) e

pub made_there : (m : Naming) (heap : List Object) (id : ℕ) (l : Look) → Some (look_shown l) ≡ option_map shown (slice_get heap id)
    → made_text m heap id (looked l) ≡ made_at m heap id
unfolding made_text
made_there m heap id l e = there (λ (k : Kind) (parts : List ℕ). made_words m heap k parts ⧺ codes " as " ⧺ id_text id) [] l (slice_get heap id) (made_same m heap id) e

pub made_absent : (m : Naming) (heap : List Object) (id : ℕ) → None ≡ option_map shown (slice_get heap id) → [] ≡ made_at m heap id
made_absent m heap id e = absent (λ (o : Object). made_text m heap id o) [] (slice_get heap id) e

pub spelled_there : (heap : List Object) (id : ℕ) (l : Look) → Some (look_shown l) ≡ option_map shown (slice_get heap id) → spelled_of (kind_view l.kind) ≡ spelled_at heap id
spelled_there heap id l e = there (λ (k : Kind) (_ : List ℕ). spelled_of k) None l (slice_get heap id) (λ k parts. refl) e

pub spelled_absent : (heap : List Object) (id : ℕ) → None ≡ option_map shown (slice_get heap id) → None ≡ spelled_at heap id
spelled_absent heap id e = absent (λ (o : Object). spelled_of o.kind) None (slice_get heap id) e

-- ---- tests

pub test_there : (test : Kind → Bool) (heap : List Object) (id : ℕ) (l : Look) → Some (look_shown l) ≡ option_map shown (slice_get heap id) → test (kind_view l.kind) ≡ object_is test heap id
test_there test heap id l e = there (λ (k : Kind) (_ : List ℕ). test k) false l (slice_get heap id) (λ k parts. refl) e

pub test_absent : (test : Kind → Bool) (heap : List Object) (id : ℕ) → None ≡ option_map shown (slice_get heap id) → false ≡ object_is test heap id
test_absent test heap id e = absent (λ (o : Object). test o.kind) false (slice_get heap id) e

views_same : (heap : List Object) (k : Kind) (parts : List ℕ) → views heap k (parts_shown k parts) ≡ views heap k parts
views_same heap kind.ReadOnly parts = refl
views_same heap _ parts = refl

loader_views_same : (heap : List Object) (k : Kind) (parts : List ℕ) → loader_views heap k (parts_shown k parts) ≡ loader_views heap k parts
loader_views_same heap kind.ReadOnly parts = refl
loader_views_same heap _ parts = refl

pub view_there : (heap : List Object) (id : ℕ) (l : Look) → Some (look_shown l) ≡ option_map shown (slice_get heap id)
    → is_view heap (looked l) ≡ option_map_or (is_view heap) (slice_get heap id) false
view_there heap id l e = there (views heap) false l (slice_get heap id) (views_same heap) e

pub view_absent : (heap : List Object) (id : ℕ) → None ≡ option_map shown (slice_get heap id) → false ≡ option_map_or (is_view heap) (slice_get heap id) false
view_absent heap id e = absent (is_view heap) false (slice_get heap id) e

pub loader_view_there : (heap : List Object) (id : ℕ) (l : Look) → Some (look_shown l) ≡ option_map shown (slice_get heap id)
    → loader_views heap (kind_view l.kind) l.parts.now ≡ view_at heap id
loader_view_there heap id l e = there (loader_views heap) false l (slice_get heap id) (loader_views_same heap) e

pub loader_view_absent : (heap : List Object) (id : ℕ) → None ≡ option_map shown (slice_get heap id) → false ≡ view_at heap id
loader_view_absent heap id e = absent (λ (o : Object). loader_views heap o.kind o.parts) false (slice_get heap id) e

-- ---- classes

-- what is said by the class, and of views by a look
by_class : (heap : List Object) (f : Kind → List ℕ → Bool) (c : Class) (g : Option Object)
    → ((k : Kind) (parts : List ℕ) → (is_any (class_of k) || class_meets demand.ReadOnly (class_of k) && f k parts) ≡ (is_opaque k || f k parts))
    → Some c ≡ option_map (λ (o : Object). class_of o.kind) g
    → (is_any c || class_meets demand.ReadOnly c && option_map_or (λ (o : Object). f o.kind o.parts) g false) ≡ option_map_or (λ (o : Object). is_opaque o.kind || f o.kind o.parts) g false
by_class heap f c None same e = absurd cc
by_class heap f c (Some o) same e = let h : c ≡ class_of o.kind = cc in rw h (same o.kind o.parts)

views_by_class : (heap : List Object) (k : Kind) (parts : List ℕ) → (is_any (class_of k) || class_meets demand.ReadOnly (class_of k) && views heap k parts) ≡ (is_opaque k || views heap k parts)
views_by_class heap kind.ReadOnly parts = refl
views_by_class heap _ parts = refl

loader_views_by_class : (heap : List Object) (k : Kind) (parts : List ℕ)
    → (is_any (class_of k) || class_meets demand.ReadOnly (class_of k) && loader_views heap k parts) ≡ (is_opaque k || loader_views heap k parts)
loader_views_by_class heap kind.ReadOnly parts = refl
loader_views_by_class heap _ parts = refl

pub shown_by_class : (heap : List Object) (id : ℕ) (c : Class) → Some c ≡ class_at heap id
    → (is_any c || class_meets demand.ReadOnly c && option_map_or (is_view heap) (slice_get heap id) false) ≡ option_map_or (is_shown heap) (slice_get heap id) false
shown_by_class heap id c e = by_class heap (views heap) c (slice_get heap id) (views_by_class heap) e

loose_apart : (f : Kind → List ℕ → Bool) (g : Option Object) → option_map_or (λ (o : Object). is_opaque o.kind || f o.kind o.parts) g false
    ≡ (option_map_or (λ (o : Object). is_opaque o.kind) g false || option_map_or (λ (o : Object). f o.kind o.parts) g false)
loose_apart f None = refl
loose_apart f (Some o) = refl

pub loose_by_class : (heap : List Object) (id : ℕ) (c : Class) → Some c ≡ class_at heap id → (is_any c || class_meets demand.ReadOnly c && view_at heap id) ≡ loose_at heap id
loose_by_class heap id c e = by_class heap (loader_views heap) c (slice_get heap id) (loader_views_by_class heap) e ∙ loose_apart (loader_views heap) (slice_get heap id)

opaque_by : (c : Class) (g : Option Object) → Some c ≡ option_map (λ (o : Object). class_of o.kind) g → is_any c ≡ option_map_or (λ (o : Object). is_opaque o.kind) g false
opaque_by c None e = absurd cc
opaque_by c (Some o) e = let h : c ≡ class_of o.kind = cc in ap is_any h

pub opaque_by_class : (heap : List Object) (id : ℕ) (c : Class) → Some c ≡ class_at heap id → is_any c ≡ object_is is_opaque heap id
opaque_by_class heap id c e = opaque_by c (slice_get heap id) e

none_by : (f : Object → Bool) (g : Option Object) → None ≡ option_map (λ (o : Object). class_of o.kind) g → false ≡ option_map_or f g false
none_by f None e = refl
none_by f (Some o) e = absurd cc

-- no class, no object: it passes no test
pub opaque_without_class : (heap : List Object) (id : ℕ) → None ≡ class_at heap id → false ≡ object_is is_opaque heap id
opaque_without_class heap id e = none_by (λ (o : Object). is_opaque o.kind) (slice_get heap id) e

pub loose_without_class : (heap : List Object) (id : ℕ) → None ≡ class_at heap id → false ≡ loose_at heap id
loose_without_class heap id e =
    none_by (λ (o : Object). is_opaque o.kind || loader_views heap o.kind o.parts) (slice_get heap id) e ∙ loose_apart (loader_views heap) (slice_get heap id)

pub shown_without_class : (heap : List Object) (id : ℕ) → None ≡ class_at heap id → false ≡ option_map_or (is_shown heap) (slice_get heap id) false
shown_without_class heap id e = none_by (is_shown heap) (slice_get heap id) e

-- ---- events

made_of : (heap : List Object) (id : ℕ) (g : Option Object) → (if option_map_or (is_shown heap) g false then Some (event.Made id) else None) ≡ made_as heap id g
made_of heap id None = refl
made_of heap id (Some o) = refl

-- what is shown is an event
pub made_if_shown : (heap : List Object) (id : ℕ) → (if option_map_or (is_shown heap) (slice_get heap id) false then Some (event.Made id) else None) ≡ made_event heap id
made_if_shown heap id = made_of heap id (slice_get heap id)

pub ruleset look_rules = (brief_there, brief_absent, value_there, value_absent, name_there, name_absent, made_there, made_absent, spelled_there, spelled_absent, test_there, test_absent, view_there, view_absent, loader_view_there, loader_view_absent, opaque_by_class, opaque_without_class, loose_by_class, loose_without_class, shown_by_class, shown_without_class, made_if_shown)
