-- Where values come from is the same in environments in which the same values can only be read.
use Rattle.std.proofs.Common.{◌≡◌, ℕ, List, map, inl, inr, ap, sym, ◌∙◌}
use Rattle.std.specs.Prelude.{Bool}
use Rattle.pickle_ops.specs.declared.kind.Kind.{Kind}
use Rattle.pickle_ops.specs.Object.{Object}
use Rattle.pickle_machine.specs.State.{State}
use Rattle.pickle_machine.specs.Move.{fresh}
use Rattle.pickle_loader.specs.Environment.{Value, Foreign, Act, World}
use Rattle.pickle_loader.specs.Dispatch.{Loaded, Going, Ended, Failed}
use Rattle.pickle_loader.specs.Values.{Origin, AsLiteral, AsMade, AsAnswer, AsView, origin, WasReadOnly, IsViewOf, IsFrom, Knows}
use Rattle.pickle_loader.specs.Laws.{Holds}

was_same : (a w : World) (acts : List Act) (v : Value) → a.readonly ≡ w.readonly → WasReadOnly a acts v → WasReadOnly w acts v
was_same a w acts v e (before, more, split, only) = (before, more, split, sym (ap (λ (r : List Act → Value → Bool). r before v) e) ∙ only)

view_same : (a w : World) (acts : List Act) (seen v : Value) → a.readonly ≡ w.readonly → IsViewOf a acts seen v → IsViewOf w acts seen v
view_same a w acts seen v e (inl is) = inl is
view_same a w acts seen v e (inr (t, n, is, same, memory, was)) = inr (t, n, is, same, memory, was_same a w acts (Foreign t n) e was)

from_same : (a w : World) (acts : List Act) (k : Kind) (v : Value) (o : Origin) → a.readonly ≡ w.readonly → IsFrom a acts k v o → IsFrom w acts k v o
from_same a w acts k v AsLiteral e is = is
from_same a w acts k v (AsMade t items) e is = is
from_same a w acts k v (AsAnswer act) e is = is
from_same a w acts k v (AsView seen) e is = view_same a w acts seen v e is

knows_same : (a w : World) (V : ℕ → Value) (acts : List Act) (heap : List Object) → a.readonly ≡ w.readonly → Knows a V acts heap → Knows w V acts heap
knows_same a w V acts heap e knows = λ id o there. from_same a w acts o.kind (V id) (origin o.kind (map V o.parts)) e (knows id o there)

pub holds_same : (a w : World) (V : ℕ → Value) (s : State) (l : Loaded) → a.readonly ≡ w.readonly → Holds a V s l → Holds w V s l
holds_same a w V s (Going u) e same =
    record { stack = same.stack; metastack = same.metastack; memo = same.memo; buffers = same.buffers; objects = knows_same a w V u.acts (fresh s).heap e same.objects }
holds_same a w V s (Ended v u) e knows = knows_same a w V u.acts s.heap e knows
holds_same a w V s (Failed acts) e held = tt
