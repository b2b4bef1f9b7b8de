-- The names of objects, what calls call, and what they give it.
-- Source: own; names are those of `Source`.
use Rattle.std.specs.Prelude.{ℕ, ◌&&◌, ◌||◌, Bool, true, false, List, drop, slice_get, codes, Option, Some, None}
use Rattle.std.specs.Option.{option_map_or}
use Rattle.std.specs.Str.{bytes_eq}
use Rattle.pickle_ops.specs.Argument.{Texts}
use Rattle.pickle_ops.specs.declared.kind.Kind.{Kind}
use Rattle.pickle_ops.specs.declared.kind.Kind.TheVariants as kind
use Rattle.pickle_ops.specs.Object.{Object}
use Rattle.pickle_allow.specs.Source.{line_text, part_text, of_part, import_name, extension_word, persistent_word, buffer_word}

-- ---- names

-- of what is imported
abbrev pub lines_name : ℕ → Texts → Option (List ℕ)
lines_name proto names = import_name proto (line_text names.first) (line_text names.second)

abbrev pub parts_name : ℕ → List Object → List ℕ → Option (List ℕ)
parts_name proto heap parts = import_name proto (part_text heap parts 0) (part_text heap parts 1)

abbrev pub kind_import : ℕ → List Object → Kind → List ℕ → Option (List ℕ)
kind_import proto heap (kind.Global names) parts = lines_name proto names
kind_import proto heap kind.StackGlobal parts = parts_name proto heap parts
kind_import proto heap _ parts = None

abbrev pub import_at : ℕ → List Object → ℕ → Option (List ℕ)
import_at proto heap id = option_map_or (λ (o : Object). kind_import proto heap o.kind o.parts) (slice_get heap id) None

-- of what has a name or a word in lists
abbrev pub kind_name : ℕ → List Object → Kind → List ℕ → Option (List ℕ)
kind_name proto heap (kind.Ext n) parts = Some (extension_word n)
kind_name proto heap (kind.PersistentLine line) parts = Some persistent_word
kind_name proto heap kind.Persistent parts = Some persistent_word
kind_name proto heap (kind.Buffer n) parts = Some buffer_word
kind_name proto heap k parts = kind_import proto heap k parts

abbrev pub name_at : ℕ → List Object → ℕ → Option (List ℕ)
name_at proto heap id = option_map_or (λ (o : Object). kind_name proto heap o.kind o.parts) (slice_get heap id) None

-- ---- calls

abbrev pub called_name : ℕ → List Object → List ℕ → Option (List ℕ)
called_name proto heap parts = of_part (name_at proto heap) (slice_get parts 0)

-- of what is called, where a call made an object
abbrev pub callee_name : ℕ → List Object → Kind → List ℕ → Option (List ℕ)
callee_name proto heap kind.Call parts = called_name proto heap parts
callee_name proto heap kind.New parts = called_name proto heap parts
callee_name proto heap kind.NewEx parts = called_name proto heap parts
callee_name proto heap kind.Obj parts = called_name proto heap parts
callee_name proto heap (kind.Inst names) parts = lines_name proto names
callee_name proto heap _ parts = None

abbrev pub maker_at : ℕ → List Object → ℕ → Option (List ℕ)
maker_at proto heap id = option_map_or (λ (o : Object). callee_name proto heap o.kind o.parts) (slice_get heap id) None

abbrev pub tuple_items : Kind → List ℕ → Option (List ℕ)
tuple_items kind.Tuple parts = Some parts
tuple_items _ parts = None

-- the items of a tuple; nothing of another object
abbrev pub items_at : List Object → ℕ → Option (List ℕ)
items_at heap id = option_map_or (λ (o : Object). tuple_items o.kind o.parts) (slice_get heap id) None

abbrev pub second_items : List Object → List ℕ → Option (List ℕ)
second_items heap parts = of_part (items_at heap) (slice_get parts 1)

-- the arguments of a call that made an object; nothing where they are no tuple, or some of them have names
abbrev pub arguments_of : List Object → Kind → List ℕ → Option (List ℕ)
arguments_of heap kind.Call parts = second_items heap parts
arguments_of heap kind.New parts = second_items heap parts
arguments_of heap kind.Obj parts = Some (drop 1 parts)
arguments_of heap (kind.Inst names) parts = Some parts
arguments_of heap _ parts = None

-- ---- bytes that calls make

-- so protocols 0 to 2 write bytes (Lib/pickle.py, `save_bytes`)
abbrev pub makes_bytes : List ℕ → Bool
makes_bytes name = bytes_eq name (codes "_codecs.encode") || bytes_eq name (codes "builtins.bytes")

-- a call of one of these made it
abbrev pub are_made_bytes : ℕ → List Object → Kind → List ℕ → Bool
are_made_bytes proto heap kind.Call parts = option_map_or makes_bytes (called_name proto heap parts) false
are_made_bytes proto heap _ parts = false

-- ---- objects that stand for any number of items

abbrev pub is_endless_name : List ℕ → Bool
is_endless_name name =
    bytes_eq name (codes "builtins.range") || bytes_eq name (codes "builtins.int") || bytes_eq name (codes "ipaddress.IPv4Network") || bytes_eq name (codes "ipaddress.IPv6Network")

-- these make an object of a class that they are given
abbrev pub is_maker : List ℕ → Bool
is_maker name = bytes_eq name (codes "copyreg._reconstructor") || bytes_eq name (codes "copyreg.__newobj__") || bytes_eq name (codes "copyreg.__newobj_ex__")

-- an argument of this place is such a class
abbrev pub is_endless_import : ℕ → List Object → ℕ → Bool
is_endless_import proto heap id = option_map_or is_endless_name (import_at proto heap id) false

abbrev pub is_endless_argument : ℕ → List Object → Option (List ℕ) → ℕ → Bool
is_endless_argument proto heap None i = false
is_endless_argument proto heap (Some ids) i = option_map_or (is_endless_import proto heap) (slice_get ids i) false

abbrev pub is_endless_call : ℕ → List Object → List ℕ → Option (List ℕ) → Bool
is_endless_call proto heap name ids = is_endless_name name || is_maker name && (is_endless_argument proto heap ids 0 || is_endless_argument proto heap ids 1)

-- a range, a network, and a number of a class: a few bytes make them, and a list of their items, or as many bytes, fill the memory
abbrev pub is_endless : ℕ → List Object → Kind → List ℕ → Bool
is_endless proto heap k parts = option_map_or (λ (name : List ℕ). is_endless_call proto heap name (arguments_of heap k parts)) (callee_name proto heap k parts) false
