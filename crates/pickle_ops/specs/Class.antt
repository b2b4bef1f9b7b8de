-- Classes of objects, and which of them the opcodes ask for.
-- Source: what the opcodes of `pickletools` do with their operands; which classes they ask for is this project's
-- profile.
use Rattle.std.specs.Prelude.{Bool, true, false}
use Rattle.pickle_ops.specs.declared.row.Filling.TheVariants as filling
use Rattle.pickle_ops.specs.declared.class.Class.{Class}
use Rattle.pickle_ops.specs.declared.class.Class.TheVariants as class
use Rattle.pickle_ops.specs.declared.class.Demand.{Demand}
use Rattle.pickle_ops.specs.declared.class.Demand.TheVariants as demand

-- it may be of any type
abbrev pub is_any : Class → Bool
is_any class.Opaque = true
is_any _ = false

-- the classes that meet a demand: what may be of any type is taken for whatever an opcode asks for, but a view of it is made
-- anew; and BUILD sets the state of any object
abbrev pub class_meets : Demand → Class → Bool
class_meets demand.Callable c = is_any c
class_meets demand.Text class.Text = true
class_meets demand.Text c = is_any c
class_meets demand.Arguments class.Tuple = true
class_meets demand.Arguments class.List = true
class_meets demand.Arguments c = is_any c
class_meets demand.Keywords class.Dict = true
class_meets demand.Keywords c = is_any c
class_meets demand.ReadOnly class.ReadOnly = true
class_meets demand.ReadOnly c = false
class_meets demand.Writable class.ByteArray = true
class_meets demand.Writable c = is_any c
class_meets (demand.Target filling.Append) class.List = true
class_meets (demand.Target filling.Append) class.ByteArray = true
class_meets (demand.Target filling.Append) c = is_any c
class_meets (demand.Target filling.SetItem) class.Dict = true
class_meets (demand.Target filling.SetItem) class.List = true
class_meets (demand.Target filling.SetItem) class.ByteArray = true
class_meets (demand.Target filling.SetItem) c = is_any c
class_meets (demand.Target filling.Add) class.Set = true
class_meets (demand.Target filling.Add) c = is_any c
class_meets (demand.Target filling.Build) c = true
