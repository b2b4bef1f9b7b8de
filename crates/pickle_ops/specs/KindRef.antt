-- What is looked at of an object: its kind, and its parts where they are shown.
-- Source: own.
use Rattle.std.specs.Prelude.{ℕ, List, []}
use Rattle.pickle_ops.specs.declared.kind.Kind.{Kind}
use Rattle.pickle_ops.specs.declared.kind.Kind.TheVariants as kind
use Rattle.pickle_ops.specs.declared.kind_ref.KindRef.{KindRef}
use Rattle.pickle_ops.specs.declared.kind_ref.KindRef.TheVariants as seen
use Rattle.pickle_ops.specs.declared.kind_ref.Look.{Look}
use Rattle.pickle_ops.specs.Argument.{texts_of}
use Rattle.pickle_ops.specs.Object.{Object}

-- the kind that is looked at
abbrev pub kind_view : KindRef → Kind
kind_view seen.None = kind.None
kind_view seen.True = kind.True
kind_view seen.False = kind.False
kind_view (seen.Int n) = kind.Int n
kind_view (seen.Long bytes) = kind.Long bytes.now
kind_view (seen.IntLine line) = kind.IntLine line.now
kind_view (seen.LongLine line) = kind.LongLine line.now
kind_view (seen.FloatLine line) = kind.FloatLine line.now
kind_view (seen.Float bytes) = kind.Float bytes.now
kind_view (seen.LegacyString bytes) = kind.LegacyString bytes.now
kind_view (seen.LegacyLine line) = kind.LegacyLine line.now
kind_view (seen.Text bytes) = kind.Text bytes.now
kind_view (seen.TextLine line) = kind.TextLine line.now
kind_view (seen.Bytes bytes) = kind.Bytes bytes.now
kind_view (seen.ByteArray bytes) = kind.ByteArray bytes.now
kind_view seen.Tuple = kind.Tuple
kind_view seen.List = kind.List
kind_view seen.Set = kind.Set
kind_view seen.FrozenSet = kind.FrozenSet
kind_view seen.Dict = kind.Dict
kind_view (seen.Global texts) = kind.Global (texts_of texts.lines.now)
kind_view seen.StackGlobal = kind.StackGlobal
kind_view seen.Call = kind.Call
kind_view seen.New = kind.New
kind_view seen.NewEx = kind.NewEx
kind_view (seen.Inst texts) = kind.Inst (texts_of texts.lines.now)
kind_view seen.Obj = kind.Obj
kind_view (seen.PersistentLine line) = kind.PersistentLine line.now
kind_view seen.Persistent = kind.Persistent
kind_view (seen.Ext n) = kind.Ext n
kind_view (seen.Buffer n) = kind.Buffer n
kind_view seen.ReadOnly = kind.ReadOnly

-- the parts that are shown of an object of a kind: those of a tuple, of a call, and of what is imported, kept elsewhere or viewed
abbrev pub parts_shown : Kind → List ℕ → List ℕ
parts_shown kind.Tuple parts = parts
parts_shown kind.StackGlobal parts = parts
parts_shown kind.Call parts = parts
parts_shown kind.New parts = parts
parts_shown kind.NewEx parts = parts
parts_shown (kind.Inst texts) parts = parts
parts_shown kind.Obj parts = parts
parts_shown kind.Persistent parts = parts
parts_shown kind.ReadOnly parts = parts
parts_shown _ parts = []

-- what is shown of an object: not what was done to it
abbrev pub shown : Object → Object
shown o = record { kind = o.kind; parts = parts_shown o.kind o.parts; changes = [] }

-- what is looked at, as an object to which nothing was done
abbrev pub looked : Look → Object
looked l = record { kind = kind_view l.kind; parts = l.parts.now; changes = [] }

-- what a look shows
abbrev pub look_shown : Look → Object
look_shown l = shown (looked l)
