-- Pieces of texts: the number of an object, and its kind with what the opcode gave it.
-- Source: own. The kinds are named after what `pickle` calls them: reduce, new object, persistent object, extension.
use Rattle.std.specs.Prelude.{ℕ, List, codes, decimal}
use Rattle.std.specs.Fmt.{signed_decimal}
use Rattle.pickle_io.specs.Text.{◌⧺◌, quoted}
use Rattle.pickle_ops.specs.Text.{float_text, long_text}
use Rattle.pickle_ops.specs.declared.kind.Kind.{Kind}
use Rattle.pickle_ops.specs.declared.kind.Kind.TheVariants as kind

-- an object by its number
unfoldable pub id_text : ℕ → List ℕ
id_text id = codes "#" ⧺ decimal id

-- the word of a kind, and after it the number or the texts that the opcode gave it
unfoldable pub kind_text : Kind → List ℕ
kind_text kind.None = codes "none"
kind_text kind.True = codes "true"
kind_text kind.False = codes "false"
kind_text (kind.Int n) = codes "int " ⧺ signed_decimal n
kind_text (kind.Long bytes) = codes "int " ⧺ long_text bytes
kind_text (kind.IntLine q) = codes "int-line " ⧺ quoted q
kind_text (kind.LongLine q) = codes "long-line " ⧺ quoted q
kind_text (kind.FloatLine q) = codes "float-line " ⧺ quoted q
kind_text (kind.Float bytes) = codes "float " ⧺ float_text bytes
kind_text (kind.LegacyString q) = codes "string " ⧺ quoted q
kind_text (kind.LegacyLine q) = codes "string-line " ⧺ quoted q
kind_text (kind.Text q) = codes "text " ⧺ quoted q
kind_text (kind.TextLine q) = codes "text-line " ⧺ quoted q
kind_text (kind.Bytes q) = codes "bytes " ⧺ quoted q
kind_text (kind.ByteArray q) = codes "bytearray " ⧺ quoted q
kind_text kind.Tuple = codes "tuple"
kind_text kind.List = codes "list"
kind_text kind.Set = codes "set"
kind_text kind.FrozenSet = codes "frozenset"
kind_text kind.Dict = codes "dict"
kind_text (kind.Global names) = codes "global " ⧺ quoted names.first ⧺ codes " " ⧺ quoted names.second
kind_text kind.StackGlobal = codes "stack-global"
kind_text kind.Call = codes "call"
kind_text kind.New = codes "new"
kind_text kind.NewEx = codes "new-ex"
kind_text (kind.Inst names) = codes "inst " ⧺ quoted names.first ⧺ codes " " ⧺ quoted names.second
kind_text kind.Obj = codes "obj"
kind_text (kind.PersistentLine q) = codes "persistent " ⧺ quoted q
kind_text kind.Persistent = codes "persistent"
kind_text (kind.Ext n) = codes "ext " ⧺ signed_decimal n
kind_text (kind.Buffer n) = codes "buffer " ⧺ decimal n
kind_text kind.ReadOnly = codes "readonly"
