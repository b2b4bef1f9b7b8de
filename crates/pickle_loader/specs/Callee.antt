-- What the line of a call says is called: of two lines that are one, both call what is said in the same words, or neither is of a call.
-- Source: own.
use Rattle.std.specs.Prelude.{◌≡◌, ℕ, ◌^◌, ◌<◌, List, slice_get, Option, Some, None}
use Rattle.pickle_ops.specs.declared.kind.Kind.{Kind}
use Rattle.pickle_ops.specs.declared.kind.Kind.TheVariants as kind
use Rattle.pickle_ops.specs.Object.{Object}
use Rattle.pickle_calls.specs.declared.event.Event.TheVariants as event
use Rattle.pickle_calls.specs.declared.naming.Naming.{Naming}
use Rattle.pickle_calls.specs.Event.{part}
use Rattle.pickle_calls.specs.Brief.{name_text}
use Rattle.pickle_calls.specs.CallsLine.{event_line}

-- the words for what REDUCE, OBJ, NEWOBJ and NEWOBJ_EX call
abbrev pub callee_said : Naming → List Object → Kind → List ℕ → Option (List ℕ)
callee_said m heap kind.Call parts = Some (name_text m heap (part 0 parts))
callee_said m heap kind.Obj parts = Some (name_text m heap (part 0 parts))
callee_said m heap kind.New parts = Some (name_text m heap (part 0 parts))
callee_said m heap kind.NewEx parts = Some (name_text m heap (part 0 parts))
callee_said m heap _ parts = None

-- two objects that are made, of which the lines are one
abbrev pub OneLineOneCallee : Type 0
OneLineOneCallee = (x y : ℕ) (m n : Naming) (heap other : List Object) (i j : ℕ) (o p : Object) → x < 2 ^ 64 → y < 2 ^ 64 → i < 2 ^ 64 → j < 2 ^ 64
    → slice_get heap i ≡ Some o → slice_get other j ≡ Some p → event_line x m heap (event.Made i) ≡ event_line y n other (event.Made j)
    → callee_said m heap o.kind o.parts ≡ callee_said n other p.kind p.parts
