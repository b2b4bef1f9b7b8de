-- How kinds are told apart: by a number of their own, and by what their opcode gave them. These are no definitions of what is the same.
use Rattle.std.specs.Prelude.{ℕ, ℤ, pos, List, []}
use Rattle.pickle_ops.specs.declared.kind.Kind.{Kind}
use Rattle.pickle_ops.specs.declared.kind.Kind.TheVariants as kind

abbrev pub tag_of : Kind → ℕ
tag_of kind.None = 0
tag_of kind.True = 1
tag_of kind.False = 2
tag_of (kind.Int x) = 3
tag_of (kind.Long x) = 4
tag_of (kind.IntLine x) = 5
tag_of (kind.LongLine x) = 6
tag_of (kind.FloatLine x) = 7
tag_of (kind.Float x) = 8
tag_of (kind.LegacyString x) = 9
tag_of (kind.LegacyLine x) = 10
tag_of (kind.Text x) = 11
tag_of (kind.TextLine x) = 12
tag_of (kind.Bytes x) = 13
tag_of (kind.ByteArray x) = 14
tag_of kind.Tuple = 15
tag_of kind.List = 16
tag_of kind.Set = 17
tag_of kind.FrozenSet = 18
tag_of kind.Dict = 19
tag_of (kind.Global x) = 20
tag_of kind.StackGlobal = 21
tag_of kind.Call = 22
tag_of kind.New = 23
tag_of kind.NewEx = 24
tag_of (kind.Inst x) = 25
tag_of kind.Obj = 26
tag_of (kind.PersistentLine x) = 27
tag_of kind.Persistent = 28
tag_of (kind.Ext x) = 29
tag_of (kind.Buffer x) = 30
tag_of kind.ReadOnly = 31

-- a number
abbrev pub number_of : Kind → ℤ
number_of (kind.Int n) = n
number_of (kind.Ext n) = n
number_of (kind.Buffer n) = pos n
number_of _ = pos 0

-- bytes, or a module's name
abbrev pub first_of : Kind → List ℕ
first_of (kind.Long bytes) = bytes
first_of (kind.IntLine bytes) = bytes
first_of (kind.LongLine bytes) = bytes
first_of (kind.FloatLine bytes) = bytes
first_of (kind.Float bytes) = bytes
first_of (kind.LegacyString bytes) = bytes
first_of (kind.LegacyLine bytes) = bytes
first_of (kind.Text bytes) = bytes
first_of (kind.TextLine bytes) = bytes
first_of (kind.Bytes bytes) = bytes
first_of (kind.ByteArray bytes) = bytes
first_of (kind.Global names) = names.first
first_of (kind.Inst names) = names.first
first_of (kind.PersistentLine bytes) = bytes
first_of _ = []

-- a member's name
abbrev pub second_of : Kind → List ℕ
second_of (kind.Global names) = names.second
second_of (kind.Inst names) = names.second
second_of _ = []
