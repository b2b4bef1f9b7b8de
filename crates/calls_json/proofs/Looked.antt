-- What a look says of an object.
use Rattle.std.proofs.Common.{◌≡◌, ℕ, List, Option, Some, None, refl}
use Rattle.std.specs.Prelude.{codes, slice_get}
use Rattle.std.specs.Option.{option_map}
use Rattle.pickle_ops.specs.declared.kind.Kind.{Kind}
use Rattle.pickle_ops.specs.declared.kind.Kind.TheVariants as kind
use Rattle.pickle_ops.specs.declared.kind_ref.Look.{Look}
use Rattle.pickle_ops.specs.Object.{Object}
use Rattle.pickle_ops.specs.KindRef.{kind_view, parts_shown, shown, look_shown}
use Rattle.pickle_calls.specs.declared.naming.Naming.{Naming}
use Rattle.pickle_calls.proofs.Looks.{there, absent}
use Rattle.calls_json.specs.declared.said.Operand.{Operand}
use Rattle.calls_json.specs.NameFields.{id_fields}
use Rattle.calls_json.specs.ValueFields.{kind_fields, kind_json, id_json, brief_json, one_field, operand_kind, no_operand, operand_fields}
use Rattle.calls_json.specs.EventFields.{callee_kind, callee_fields, made_fields, made_line, absent_line, made_at}

brief_same : (m : Naming) (heap : List Object) (id : ℕ) (k : Kind) (parts : List ℕ) → kind_json m heap id k (parts_shown k parts) ≡ kind_json m heap id k parts
unfolding kind_json kind_fields
brief_same m heap id kind.StackGlobal parts = refl
brief_same m heap id _ parts = refl

operand_same : (w : Operand) (m : Naming) (heap : List Object) (id : ℕ) (k : Kind) (parts : List ℕ) → operand_kind w m heap id k (parts_shown k parts) ≡ operand_kind w m heap id k parts
unfolding operand_kind one_field kind_json kind_fields
operand_same w m heap id kind.Tuple parts = refl
operand_same w m heap id kind.StackGlobal parts = refl
operand_same w m heap id _ parts = refl

callee_same : (m : Naming) (heap : List Object) (id : ℕ) (k : Kind) (parts : List ℕ) → callee_kind m heap id k (parts_shown k parts) ≡ callee_kind m heap id k parts
unfolding callee_kind
callee_same m heap id kind.StackGlobal parts = refl
callee_same m heap id _ parts = refl

made_same : (offset : ℕ) (text : Option (List ℕ)) (m : Naming) (heap : List Object) (id : ℕ) (k : Kind) (parts : List ℕ) → made_line offset text m heap id k (parts_shown k parts) ≡ made_line offset text m heap id k parts
unfolding made_line made_fields
made_same offset text m heap id kind.StackGlobal parts = refl
made_same offset text m heap id kind.Call parts = refl
made_same offset text m heap id kind.New parts = refl
made_same offset text m heap id kind.NewEx parts = refl
made_same offset text m heap id (kind.Inst texts) parts = refl
made_same offset text m heap id kind.Obj parts = refl
made_same offset text m heap id kind.Persistent parts = refl
made_same offset text m heap id kind.ReadOnly parts = refl
made_same offset text m heap id _ parts = refl

pub brief_there : (m : Naming) (heap : List Object) (id : ℕ) (l : Look) → Some (look_shown l) ≡ option_map shown (slice_get heap id)
    → kind_json m heap id (kind_view l.kind) l.parts.now ≡ brief_json m heap id
unfolding brief_json
brief_there m heap id l e = there (kind_json m heap id) (id_json id) l (slice_get heap id) (brief_same m heap id) e

pub brief_absent : (m : Naming) (heap : List Object) (id : ℕ) → None ≡ option_map shown (slice_get heap id) → id_json id ≡ brief_json m heap id
unfolding brief_json
brief_absent m heap id e = absent (λ (o : Object). kind_json m heap id o.kind o.parts) (id_json id) (slice_get heap id) e

pub operand_there : (w : Operand) (m : Naming) (heap : List Object) (id : ℕ) (l : Look) → Some (look_shown l) ≡ option_map shown (slice_get heap id)
    → operand_kind w m heap id (kind_view l.kind) l.parts.now ≡ operand_fields w m heap id
unfolding operand_fields
operand_there w m heap id l e = there (operand_kind w m heap id) (no_operand w id) l (slice_get heap id) (operand_same w m heap id) e

pub operand_absent : (w : Operand) (m : Naming) (heap : List Object) (id : ℕ) → None ≡ option_map shown (slice_get heap id) → no_operand w id ≡ operand_fields w m heap id
unfolding operand_fields
operand_absent w m heap id e = absent (λ (o : Object). operand_kind w m heap id o.kind o.parts) (no_operand w id) (slice_get heap id) e

pub callee_there : (m : Naming) (heap : List Object) (id : ℕ) (l : Look) → Some (look_shown l) ≡ option_map shown (slice_get heap id)
    → callee_kind m heap id (kind_view l.kind) l.parts.now ≡ callee_fields m heap id
unfolding callee_fields
callee_there m heap id l e = there (callee_kind m heap id) (id_fields (codes "callee") id) l (slice_get heap id) (callee_same m heap id) e

pub callee_absent : (m : Naming) (heap : List Object) (id : ℕ) → None ≡ option_map shown (slice_get heap id) → id_fields (codes "callee") id ≡ callee_fields m heap id
unfolding callee_fields
callee_absent m heap id e = absent (λ (o : Object). callee_kind m heap id o.kind o.parts) (id_fields (codes "callee") id) (slice_get heap id) e

pub made_there : (offset : ℕ) (text : Option (List ℕ)) (m : Naming) (heap : List Object) (id : ℕ) (l : Look) → Some (look_shown l) ≡ option_map shown (slice_get heap id)
    → made_line offset text m heap id (kind_view l.kind) l.parts.now ≡ made_at offset text m heap id
unfolding made_at
made_there offset text m heap id l e = there (made_line offset text m heap id) (absent_line offset text id) l (slice_get heap id) (made_same offset text m heap id) e

pub made_absent : (offset : ℕ) (text : Option (List ℕ)) (m : Naming) (heap : List Object) (id : ℕ) → None ≡ option_map shown (slice_get heap id) → absent_line offset text id ≡ made_at offset text m heap id
unfolding made_at
made_absent offset text m heap id e = absent (λ (o : Object). made_line offset text m heap id o.kind o.parts) (absent_line offset text id) (slice_get heap id) e

pub ruleset look_rules = (brief_there, brief_absent, operand_there, operand_absent, callee_there, callee_absent, made_there, made_absent)
