-- Which arguments a list allows for calls, and which states for what calls made.
-- Source: own; how a shape is written is in `Grammar`.
use Rattle.std.specs.Prelude.{ℕ, ◌+◌, ◌-◌, nat_le, ◌==◌, ◌&&◌, ◌||◌, not, if◌then◌else◌, Bool, true, false, List, [], ◌∷◌, length, drop, slice_get, codes, Option, Some, None}
use Rattle.std.specs.Option.{is_some, option_map_or}
use Rattle.std.specs.List.{list_any, slice_split}
use Rattle.std.specs.Str.{bytes_eq}
use Rattle.std.specs.Fmt.{signed_decimal}
use Rattle.pickle_ops.specs.declared.kind.Kind.{Kind}
use Rattle.pickle_ops.specs.declared.kind.Kind.TheVariants as kind
use Rattle.pickle_ops.specs.Object.{Object}
use Rattle.pickle_allow.specs.declared.list.Entry.{Entry}
use Rattle.pickle_allow.specs.declared.sort.Sort.{Sort}
use Rattle.pickle_allow.specs.declared.sort.Sort.TheVariants as sort
use Rattle.pickle_allow.specs.declared.limit.Limit.{Limit}
use Rattle.pickle_allow.specs.declared.limit.Limit.TheVariants as limit
use Rattle.pickle_allow.specs.Allow.{is_nothing, covers}
use Rattle.pickle_allow.specs.Grammar.{is_blank, is_open, is_close, is_bar, is_slash, is_whole, are_some_digits, before, behind, quoted, sort_of}
use Rattle.pickle_allow.specs.Named.{kind_import, callee_name, maker_at, items_at, arguments_of, are_made_bytes, is_endless}

-- ---- sorts of arguments

-- the bytes of a text, without escapes
abbrev pub text_in : Kind → Option (List ℕ)
text_in (kind.Text q) = Some q
text_in (kind.TextLine q) = Some q
text_in (kind.LegacyString q) = Some q
text_in _ = None

abbrev pub is_text : Kind → Bool
is_text (kind.Text q) = true
is_text (kind.TextLine q) = true
is_text (kind.LegacyString q) = true
is_text (kind.LegacyLine q) = true
is_text _ = false

-- the most bytes of what is short
abbrev pub most_short : ℕ
most_short = 64

abbrev pub is_short : Kind → Bool
is_short (kind.Text q) = nat_le (length q) most_short
is_short (kind.TextLine q) = nat_le (length q) most_short
is_short (kind.LegacyString q) = nat_le (length q) most_short
is_short (kind.LegacyLine q) = nat_le (length q) most_short
is_short (kind.Bytes q) = nat_le (length q) most_short
is_short (kind.ByteArray q) = nat_le (length q) most_short
is_short _ = false

-- strings of Python 2 are bytes too
abbrev pub is_bytes : Kind → Bool
is_bytes (kind.Bytes q) = true
is_bytes (kind.ByteArray q) = true
is_bytes (kind.LegacyString q) = true
is_bytes (kind.LegacyLine q) = true
is_bytes _ = false

abbrev pub is_bool : Kind → Bool
is_bool kind.True = true
is_bool kind.False = true
is_bool _ = false

abbrev pub is_none : Kind → Bool
is_none kind.None = true
is_none _ = false

abbrev pub is_number : Kind → Bool
is_number (kind.Int n) = true
is_number (kind.Long q) = true
is_number (kind.IntLine q) = true
is_number (kind.LongLine q) = true
is_number (kind.Float q) = true
is_number (kind.FloatLine q) = true
is_number k = is_bool k

-- the text of a whole number that is no long one
abbrev pub number_in : Kind → Option (List ℕ)
number_in (kind.Int n) = Some (signed_decimal n)
number_in (kind.IntLine q) = Some q
number_in _ = None

-- the most digits of a small number
abbrev pub most_digits : ℕ
most_digits = 6

-- without a minus in front
abbrev pub unsigned : List ℕ → List ℕ
unsigned [] = []
unsigned (c ∷ text) = if c == 45 then text else c ∷ text

abbrev pub has_few_digits : List ℕ → Bool
has_few_digits text = nat_le (length (unsigned text)) most_digits

-- of a line of Python 2 the `L` counts too
abbrev pub is_small : Kind → Bool
is_small (kind.Int n) = has_few_digits (signed_decimal n)
is_small (kind.IntLine q) = has_few_digits q
is_small (kind.LongLine q) = has_few_digits q
is_small _ = false

-- a whole number, and behind a `/` digits, if there is one
abbrev pub is_fraction : List ℕ → Bool
is_fraction text = is_whole (before is_slash text) && option_map_or are_some_digits (behind is_slash text) true

-- what the pickle made, in whatever way
abbrev pub is_held : Kind → Bool
is_held kind.Tuple = true
is_held kind.List = true
is_held kind.Set = true
is_held kind.FrozenSet = true
is_held kind.Dict = true
is_held kind.Call = true
is_held kind.New = true
is_held kind.NewEx = true
is_held (kind.Inst names) = true
is_held kind.Obj = true
is_held (kind.PersistentLine q) = true
is_held kind.Persistent = true
is_held (kind.Buffer n) = true
is_held kind.ReadOnly = true
is_held _ = false

-- what opcodes of the pickle made by themselves, so that it has no more items than these put into it
abbrev pub is_listed : Kind → Bool
is_listed kind.Tuple = true
is_listed kind.List = true
is_listed kind.Set = true
is_listed kind.FrozenSet = true
is_listed kind.Dict = true
is_listed _ = false

-- ---- what a shape takes

-- what an argument is to a shape: its kind, the name of what is imported, and whether it is endless, or bytes that a call made
pub record Argument : Type 0 where
  pub kind : Kind
  pub name : Option (List ℕ)
  pub endless : Bool
  pub made_bytes : Bool

-- an entry lets `__new__` make objects of this name, whatever it is given
abbrev pub new_by : List ℕ → Entry → Bool
new_by name e = e.itself.new && is_nothing e.shapes.now && covers e name

abbrev pub may_be_new : List Entry → List ℕ → Bool
may_be_new list name = list_any (new_by name) list

-- an argument is of a sort
abbrev pub sort_takes : List Entry → Sort → Argument → Bool
sort_takes list sort.Text a = is_text a.kind
sort_takes list sort.Short a = is_short a.kind
sort_takes list sort.Fraction a = option_map_or is_fraction (text_in a.kind) false
sort_takes list sort.Bytes a = is_bytes a.kind || a.made_bytes
sort_takes list sort.Number a = is_number a.kind
sort_takes list sort.Small a = is_small a.kind
sort_takes list sort.Bool a = is_bool a.kind
sort_takes list sort.None a = is_none a.kind
sort_takes list sort.Held a = is_held a.kind && not a.endless
sort_takes list sort.Listed a = is_listed a.kind
sort_takes list sort.Class a = is_some a.name
sort_takes list sort.New a = option_map_or (may_be_new list) a.name false
sort_takes list sort.Any a = not a.endless

abbrev pub same_text : Option (List ℕ) → Option (List ℕ) → Bool
same_text (Some a) (Some b) = bytes_eq a b
same_text (Some a) None = false
same_text None b = false

-- it is this text, this number, or what is imported by this name
abbrev pub value_takes : List ℕ → Argument → Bool
value_takes w a = same_text (quoted w) (text_in a.kind) || same_text (Some w) (number_in a.kind) || same_text (Some w) a.name

abbrev pub word_takes : List Entry → Argument → List ℕ → Bool
word_takes list a w = option_map_or (λ (s : Sort). sort_takes list s a) (sort_of w) (value_takes w a)

-- one of the alternatives takes it
abbrev pub item_takes : List Entry → List ℕ → Argument → Bool
item_takes list item a = list_any (word_takes list a) (slice_split is_bar item)

abbrev pub argument_of : ℕ → List Object → Kind → List ℕ → Argument
argument_of proto heap k parts =
    record { kind = k; name = kind_import proto heap k parts; endless = is_endless proto heap k parts; made_bytes = are_made_bytes proto heap k parts }

abbrev pub item_takes_at : List Entry → ℕ → List Object → List ℕ → ℕ → Bool
item_takes_at list proto heap item id = option_map_or (λ (o : Object). item_takes list item (argument_of proto heap o.kind o.parts)) (slice_get heap id) false

abbrev pub item_takes_argument : List Entry → ℕ → List Object → List ℕ → List ℕ → ℕ → Bool
item_takes_argument list proto heap item ids n = option_map_or (item_takes_at list proto heap item) (slice_get ids n) false

-- the number of the argument behind the one that an item takes; n is the number of this one. Between two blanks there may be no item
abbrev pub behind_item : List Entry → ℕ → List Object → List ℕ → ℕ → List ℕ → Option ℕ
behind_item list proto heap ids n [] = Some n
behind_item list proto heap ids n (c ∷ item) = if item_takes_argument list proto heap (c ∷ item) ids n then Some (n + 1) else None

-- from the argument n on each one is taken by its item
abbrev pub items_take : List Entry → ℕ → List Object → List ℕ → ℕ → List (List ℕ) → Bool
items_take list proto heap ids n [] = n == length ids
items_take list proto heap ids n (item ∷ items) = option_map_or (λ (m : ℕ). items_take list proto heap ids m items) (behind_item list proto heap ids n item) false

abbrev pub shape_takes : List Entry → ℕ → List Object → List ℕ → List ℕ → Bool
shape_takes list proto heap shape ids = items_take list proto heap ids 0 (slice_split is_blank shape)

-- ---- what is limited

-- the words of an entry with the shapes of this
abbrev pub limit_on : Limit → Entry → List ℕ
limit_on limit.Call e = e.shapes.now
limit_on limit.New e = e.shapes.now
limit_on limit.State e = e.states.now

-- an entry grants this
abbrev pub grants : Limit → Entry → Bool
grants limit.Call e = e.itself.call
grants limit.New e = e.itself.new
grants limit.State e = e.made.state

-- the word before its shapes
abbrev pub keyword : Limit → List ℕ
keyword limit.Call = codes "call"
keyword limit.New = codes "call"
keyword limit.State = codes "then"

abbrev pub ends_in : List ℕ → List ℕ → Bool
ends_in word bytes = bytes_eq (drop (length bytes - length word) bytes) word

-- what stands before a `)` has the word, and a shape that takes the arguments
abbrev pub chunk_takes : List Entry → ℕ → List Object → Limit → List ℕ → List ℕ → Bool
chunk_takes list proto heap l ids chunk =
    ends_in (keyword l) (before is_open chunk) && option_map_or (λ (shape : List ℕ). shape_takes list proto heap shape ids) (behind is_open chunk) false

-- one of the shapes takes them
abbrev pub words_take : List Entry → ℕ → List Object → Limit → List ℕ → List ℕ → Bool
words_take list proto heap l words ids = list_any (chunk_takes list proto heap l ids) (slice_split is_close words)

-- words of an entry let these be the arguments: without shapes they may be anything. What is no tuple, or has names, no shape takes
abbrev pub entry_takes : List Entry → ℕ → List Object → Limit → List ℕ → Option (List ℕ) → Bool
entry_takes list proto heap l words ids = is_nothing words || option_map_or (words_take list proto heap l words) ids false

-- an entry allows it of a name with these arguments
abbrev pub entry_allows : List Entry → ℕ → List Object → Limit → List ℕ → Option (List ℕ) → Entry → Bool
entry_allows list proto heap l name ids e = grants l e && covers e name && entry_takes list proto heap l (limit_on l e) ids

abbrev pub entries_allow : List Entry → ℕ → List Object → Limit → List ℕ → Option (List ℕ) → Bool
entries_allow list proto heap l name ids = list_any (entry_allows list proto heap l name ids) list

-- the entries that limit something
abbrev pub is_limit : Entry → Bool
is_limit e = not (is_nothing e.shapes.now) || not (is_nothing e.states.now)

abbrev pub limits_of : List Entry → List Entry
limits_of [] = []
limits_of (e ∷ list) = if is_limit e then e ∷ limits_of list else limits_of list

abbrev pub limits_name : Limit → List ℕ → Entry → Bool
limits_name l name e = not (is_nothing (limit_on l e)) && covers e name

-- one of them limits this for a name
abbrev pub is_limited : List Entry → Limit → List ℕ → Bool
is_limited limits l name = list_any (limits_name l name) limits

-- where an entry limits it, some entry has to allow it with these arguments
abbrev pub name_allows : List Entry → ℕ → List Object → Limit → Option (List ℕ) → List ℕ → Bool
name_allows list proto heap l ids name = not (is_limited (limits_of list) l name) || entries_allow list proto heap l name ids

abbrev pub limit_of : Kind → Limit
limit_of kind.New = limit.New
limit_of kind.NewEx = limit.New
limit_of _ = limit.Call

-- the arguments of an object that a call makes; any other object has none
abbrev pub may_be_given : List Entry → ℕ → List Object → Kind → List ℕ → Bool
may_be_given list proto heap k parts = option_map_or (name_allows list proto heap (limit_of k) (arguments_of heap k parts)) (callee_name proto heap k parts) true

-- the state that an object gets, which a call made
abbrev pub may_be_set : List Entry → ℕ → List Object → ℕ → ℕ → Bool
may_be_set list proto heap value target = option_map_or (name_allows list proto heap limit.State (items_at heap value)) (maker_at proto heap target) true
