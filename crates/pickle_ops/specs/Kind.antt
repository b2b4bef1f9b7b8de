-- The class of a kind: what an opcode may take an object of it for.
-- Source: what the opcodes of `pickletools` make; which objects may be of any type is this project's profile.
use Rattle.std.specs.Prelude.{Bool}
use Rattle.pickle_ops.specs.declared.kind.Kind.{Kind}
use Rattle.pickle_ops.specs.declared.kind.Kind.TheVariants as kind
use Rattle.pickle_ops.specs.declared.class.Class.{Class}
use Rattle.pickle_ops.specs.declared.class.Class.TheVariants as class
use Rattle.pickle_ops.specs.declared.class.Demand.{Demand}
use Rattle.pickle_ops.specs.Class.{is_any, class_meets}

-- what a loader would get from elsewhere or make by a call is opaque: it may be of any type
abbrev pub class_of : Kind → Class
class_of (kind.LegacyString bytes) = class.Text
class_of (kind.LegacyLine bytes) = class.Text
class_of (kind.Text bytes) = class.Text
class_of (kind.TextLine bytes) = class.Text
class_of (kind.Bytes bytes) = class.ReadOnly
class_of (kind.ByteArray bytes) = class.ByteArray
class_of kind.Tuple = class.Tuple
class_of kind.List = class.List
class_of kind.Set = class.Set
class_of kind.Dict = class.Dict
class_of (kind.Global texts) = class.Opaque
class_of kind.StackGlobal = class.Opaque
class_of kind.Call = class.Opaque
class_of kind.New = class.Opaque
class_of kind.NewEx = class.Opaque
class_of (kind.Inst texts) = class.Opaque
class_of kind.Obj = class.Opaque
class_of (kind.PersistentLine line) = class.Opaque
class_of kind.Persistent = class.Opaque
class_of (kind.Ext n) = class.Opaque
class_of (kind.Buffer n) = class.Opaque
class_of kind.ReadOnly = class.ReadOnly
class_of _ = class.Plain

abbrev pub is_opaque : Kind → Bool
is_opaque k = is_any (class_of k)

-- the kinds that meet a demand
abbrev pub meets : Demand → Kind → Bool
meets d k = class_meets d (class_of k)
