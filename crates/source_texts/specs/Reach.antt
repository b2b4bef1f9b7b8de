-- Statements that reach out of the pickle. Each ends in the offset of its opcode.
-- Source: Modules/_pickle.c (`load_reduce`, `load_newobj`, `load_newobj_ex`, `load_obj`, `load_inst`, `load_build`, `do_append`, `do_setitems`,
-- `load_additems`, `get_extension`, `load_next_buffer`, `load_readonly_buffer`). What Python has no statement for is a function that the
-- source defines, or asks its reader for.
use Rattle.std.specs.Prelude.{ℕ, ℤ, ◌&&◌, not, if◌then◌else◌, ◌==◌, Bool, true, false, List, [], drop, length, slice_get, codes, decimal, Option, Some, None}
use Rattle.std.specs.Option.{option_map_or}
use Rattle.std.specs.Fmt.{signed_decimal}
use Rattle.pickle_io.specs.Text.{◌⧺◌}
use Rattle.pickle_io.specs.Device.{each}
use Rattle.pickle_names.specs.declared.coding.Coding.{Coding}
use Rattle.pickle_names.specs.declared.coding.Coding.TheVariants as coding
use Rattle.pickle_ops.specs.declared.kind.Kind.{Kind}
use Rattle.pickle_ops.specs.declared.kind.Kind.TheVariants as kind
use Rattle.pickle_ops.specs.Object.{Object}
use Rattle.pickle_calls.specs.Event.{part}
use Rattle.pickle_source.specs.declared.fact.Fact.{Fact}
use Rattle.pickle_source.specs.Fact.{fact_at, is_named}
use Rattle.source_texts.specs.Name.{own_name, named_by, bytes_at, member_name}
use Rattle.source_texts.specs.Held.{next_part, parts_text, view_text}
use Rattle.source_texts.specs.Import.{is_statement, from_text, find_end, import_text, found_object}

-- where the opcode is
unfoldable pub comment : ℕ → List ℕ
comment offset = codes "  # " ⧺ decimal offset ⧺ codes "\n"

unfoldable pub assignment : ℕ → List ℕ
assignment id = own_name id ⧺ codes " = "

-- ---- arguments

abbrev pub is_tuple : Kind → Bool
is_tuple kind.Tuple = true
is_tuple _ = false

abbrev pub is_dict : Kind → Bool
is_dict kind.Dict = true
is_dict _ = false

abbrev pub tuple_at : List Object → ℕ → Bool
tuple_at heap id = option_map_or (λ (o : Object). is_tuple o.kind) (slice_get heap id) false

abbrev pub dict_at : List Object → ℕ → Bool
dict_at heap id = option_map_or (λ (o : Object). is_dict o.kind) (slice_get heap id) false

-- the items of a tuple without a name stand one by one
abbrev pub unnamed_parts : Object → Fact → Option (List ℕ)
unnamed_parts o fact = if is_tuple o.kind && not (is_named o.kind fact) then Some o.parts else None

abbrev pub spread_parts : List Object → List Fact → ℕ → Option (List ℕ)
spread_parts heap facts id = option_map_or (λ (o : Object). unnamed_parts o (fact_at facts id)) (slice_get heap id) None

-- `arguments(` and the object, or another function
unfoldable pub asked : List ℕ → (ℕ → List ℕ) → ℕ → List ℕ
asked word say id = word ⧺ say id ⧺ codes ")"

-- a tuple after a star; of another object `arguments` takes them, which fails unless it is a tuple
unfoldable pub starred : List Object → (ℕ → List ℕ) → ℕ → List ℕ
starred heap say id = if tuple_at heap id then codes "*" ⧺ say id else asked (codes "*arguments(") say id

abbrev pub arguments_by : List Object → (ℕ → List ℕ) → ℕ → Option (List ℕ) → List ℕ
arguments_by heap say id (Some parts) = parts_text say parts
arguments_by heap say id None = starred heap say id

unfoldable pub arguments_text : List Object → List Fact → (ℕ → List ℕ) → ℕ → List ℕ
arguments_text heap facts say id = arguments_by heap say id (spread_parts heap facts id)

-- the same behind another argument
abbrev pub after_by : List Object → (ℕ → List ℕ) → ℕ → Option (List ℕ) → List ℕ
after_by heap say id (Some parts) = each (next_part say) parts
after_by heap say id None = codes ", " ⧺ starred heap say id

unfoldable pub after_text : List Object → List Fact → (ℕ → List ℕ) → ℕ → List ℕ
after_text heap facts say id = after_by heap say id (spread_parts heap facts id)

-- keywords behind other arguments
unfoldable pub keywords_text : List Object → (ℕ → List ℕ) → ℕ → List ℕ
keywords_text heap say id = if dict_at heap id then codes ", **" ⧺ say id else asked (codes ", **keywords(") say id

unfoldable pub bracketed : (ℕ → List ℕ) → List ℕ → List ℕ
bracketed say ids = codes "(" ⧺ parts_text say ids ⧺ codes ")"

-- ---- calls

unfoldable pub call_words : List Object → List Fact → (ℕ → List ℕ) → List ℕ → List ℕ
call_words heap facts say parts = say (part 0 parts) ⧺ codes "(" ⧺ arguments_text heap facts say (part 1 parts) ⧺ codes ")"

unfoldable pub class_words : (ℕ → List ℕ) → ℕ → List ℕ
class_words say class = say class ⧺ codes ".__new__(" ⧺ say class

unfoldable pub new_words : List Object → List Fact → (ℕ → List ℕ) → List ℕ → List ℕ
new_words heap facts say parts = class_words say (part 0 parts) ⧺ after_text heap facts say (part 1 parts) ⧺ codes ")"

unfoldable pub new_with_words : List Object → List Fact → (ℕ → List ℕ) → List ℕ → List ℕ
new_with_words heap facts say parts =
    class_words say (part 0 parts) ⧺ after_text heap facts say (part 1 parts) ⧺ keywords_text heap say (part 2 parts) ⧺ codes ")"

unfoldable pub instantiate_word : List ℕ
instantiate_word = codes "instantiate("

-- without arguments some classes are not called: `instantiate` knows which
unfoldable pub obj_words : (ℕ → List ℕ) → ℕ → List ℕ → List ℕ
obj_words say class rest = if length rest == 0 then asked (codes "instantiate(") say class else say class ⧺ bracketed say rest

-- the same of a class that is imported
unfoldable pub member_words : (List ℕ → Bool) → (ℕ → List ℕ) → List ℕ → ℕ → List ℕ → List ℕ
member_words names say member id parts =
    if length parts == 0
    then instantiate_word ⧺ member_name names member id ⧺ codes ")"
    else member_name names member id ⧺ bracketed say parts

-- `from app import Job as Job_9; _9 = instantiate(Job_9)`
unfoldable pub inst_words : (List ℕ → List ℕ) → (List ℕ → Bool) → (List ℕ → Bool) → (ℕ → List ℕ) → ℕ → List ℕ → List ℕ → ℕ → List ℕ → List ℕ
inst_words text modules names say protocol from member id parts =
    import_text text modules names protocol from member id ⧺ codes "; " ⧺ assignment id ⧺ member_words names say member id parts

-- ---- what comes from elsewhere

unfoldable pub persistent_word : List ℕ
persistent_word = codes "persistent_load("

unfoldable pub persistent_line : (Coding → List ℕ → List ℕ) → List ℕ → List ℕ
persistent_line text line = persistent_word ⧺ text coding.Ascii line ⧺ codes ")"

unfoldable pub extension_words : ℤ → ℕ → List ℕ
extension_words code protocol = (codes "extension(" ⧺ signed_decimal code) ⧺ find_end protocol

unfoldable pub if_view_word : List ℕ
if_view_word = codes " if memoryview("

unfoldable pub read_only_end : List ℕ
read_only_end = codes ").readonly else "

-- what is read only already stays
unfoldable pub read_only_words : (ℕ → List ℕ) → ℕ → List ℕ
read_only_words say id = say id ⧺ if_view_word ⧺ say id ⧺ read_only_end ⧺ view_text say id

-- ---- what two objects name

unfoldable pub stack_found : (List ℕ → Bool) → List Object → (ℕ → List ℕ) → ℕ → ℕ → List ℕ → List ℕ
stack_found names heap say protocol id parts = named_by names id (bytes_at heap (part 1 parts)) ⧺ found_object say protocol (part 0 parts) (part 1 parts)

abbrev pub names_by : (List ℕ → Bool) → (List ℕ → Bool) → ℕ → Option (List ℕ) → Option (List ℕ) → Option (List ℕ × List ℕ)
names_by modules names protocol (Some from) (Some member) = if is_statement modules names protocol from member then Some (from, member) else None
names_by modules names protocol (Some from) None = None
names_by modules names protocol None member = None

abbrev pub stack_names : (List ℕ → Bool) → (List ℕ → Bool) → List Object → ℕ → List ℕ → Option (List ℕ × List ℕ)
stack_names modules names heap protocol parts = names_by modules names protocol (bytes_at heap (part 0 parts)) (bytes_at heap (part 1 parts))

abbrev pub stack_by : (List ℕ → Bool) → List Object → (ℕ → List ℕ) → ℕ → ℕ → List ℕ → Option (List ℕ × List ℕ) → List ℕ
stack_by names heap say protocol id parts (Some p) = from_text names p.0 p.1 id
stack_by names heap say protocol id parts None = stack_found names heap say protocol id parts

unfoldable pub stack_text : (List ℕ → Bool) → (List ℕ → Bool) → List Object → (ℕ → List ℕ) → ℕ → ℕ → List ℕ → List ℕ
stack_text modules names heap say protocol id parts = stack_by names heap say protocol id parts (stack_names modules names heap protocol parts)

-- ---- statements

-- what an object is that has its name before it; imports have not
unfoldable pub value_words : (Coding → List ℕ → List ℕ) → List Object → List Fact → (ℕ → List ℕ) → ℕ → Kind → List ℕ → List ℕ
value_words text heap facts say protocol kind.Call parts = call_words heap facts say parts
value_words text heap facts say protocol kind.New parts = new_words heap facts say parts
value_words text heap facts say protocol kind.NewEx parts = new_with_words heap facts say parts
value_words text heap facts say protocol kind.Obj parts = obj_words say (part 0 parts) (drop 1 parts)
value_words text heap facts say protocol (kind.PersistentLine line) parts = persistent_line text line
value_words text heap facts say protocol kind.Persistent parts = asked (codes "persistent_load(") say (part 0 parts)
value_words text heap facts say protocol (kind.Ext code) parts = extension_words code protocol
value_words text heap facts say protocol (kind.Buffer n) parts = codes "next(buffers)"
value_words text heap facts say protocol kind.ReadOnly parts = read_only_words say (part 0 parts)
value_words text heap facts say protocol _ parts = []

unfoldable pub assigned_words : (Coding → List ℕ → List ℕ) → List Object → List Fact → (ℕ → List ℕ) → ℕ → ℕ → Kind → List ℕ → List ℕ
assigned_words text heap facts say protocol id k parts = assignment id ⧺ value_words text heap facts say protocol k parts

unfoldable pub made_words : (Coding → List ℕ → List ℕ) → (List ℕ → Bool) → (List ℕ → Bool) → List Object → List Fact → (ℕ → List ℕ) → ℕ → ℕ → Kind → List ℕ → List ℕ
made_words text modules names heap facts say protocol id (kind.Global texts) parts = import_text (text coding.Utf8) modules names protocol texts.first texts.second id
made_words text modules names heap facts say protocol id kind.StackGlobal parts = stack_text modules names heap say protocol id parts
made_words text modules names heap facts say protocol id (kind.Inst texts) parts = inst_words (text coding.Ascii) modules names say protocol texts.first texts.second id parts
made_words text modules names heap facts say protocol id k parts = assigned_words text heap facts say protocol id k parts

unfoldable pub made_text : (Coding → List ℕ → List ℕ) → (List ℕ → Bool) → (List ℕ → Bool) → List Object → List Fact → (ℕ → List ℕ) → ℕ → ℕ → ℕ → Object → List ℕ
made_text text modules names heap facts say offset protocol id o = made_words text modules names heap facts say protocol id o.kind o.parts ⧺ comment offset
