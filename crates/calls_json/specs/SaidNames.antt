-- The names of fields that say a text or an operand.
-- Source: own.
use Rattle.std.specs.Prelude.{ℕ, List, codes}
use Rattle.calls_json.specs.declared.said.Said.{Said}
use Rattle.calls_json.specs.declared.said.Said.TheVariants as said
use Rattle.calls_json.specs.declared.said.Operand.{Operand}
use Rattle.calls_json.specs.declared.said.Operand.TheVariants as operand

-- ---- texts

-- the name of the field of a text that stands for itself
unfoldable pub text_name : Said → List ℕ
text_name said.Module = codes "module"
text_name said.Name = codes "name"
text_name said.ForModule = codes "for_module"
text_name said.ForName = codes "for_name"
text_name said.Line = codes "line"
text_name said.Value = codes "value"

-- of one that stands for itself and is no UTF-8
unfoldable pub hex_name : Said → List ℕ
hex_name said.Module = codes "module_hex"
hex_name said.Name = codes "name_hex"
hex_name said.ForModule = codes "for_module_hex"
hex_name said.ForName = codes "for_name_hex"
hex_name said.Line = codes "line_hex"
hex_name said.Value = codes "value_hex"

-- of one that cannot be read
unfoldable pub raw_name : Said → List ℕ
raw_name said.Module = codes "module_raw_hex"
raw_name said.Name = codes "name_raw_hex"
raw_name said.ForModule = codes "for_module_raw_hex"
raw_name said.ForName = codes "for_name_raw_hex"
raw_name said.Line = codes "line_raw_hex"
raw_name said.Value = codes "value_raw_hex"

-- of a text of UNICODE that is spelled with escapes
unfoldable pub unicode_name : Said → List ℕ
unicode_name said.Module = codes "module_raw_unicode_escape_hex"
unicode_name said.Name = codes "name_raw_unicode_escape_hex"
unicode_name said.ForModule = codes "for_module_raw_unicode_escape_hex"
unicode_name said.ForName = codes "for_name_raw_unicode_escape_hex"
unicode_name said.Line = codes "line_raw_unicode_escape_hex"
unicode_name said.Value = codes "value_raw_unicode_escape_hex"

-- of a string of STRING that is spelled with escapes
unfoldable pub string_name : Said → List ℕ
string_name said.Module = codes "module_string_escape_hex"
string_name said.Name = codes "name_string_escape_hex"
string_name said.ForModule = codes "for_module_string_escape_hex"
string_name said.ForName = codes "for_name_string_escape_hex"
string_name said.Line = codes "line_string_escape_hex"
string_name said.Value = codes "value_string_escape_hex"

-- of an object that is no text and stands for one
unfoldable pub object_name : Said → List ℕ
object_name said.Module = codes "module_object"
object_name said.Name = codes "name_object"
object_name said.ForModule = codes "for_module_object"
object_name said.ForName = codes "for_name_object"
object_name said.Line = codes "line_object"
object_name said.Value = codes "value_object"

-- ---- operands

-- the name of the field of an operand
unfoldable pub operand_name : Operand → List ℕ
operand_name operand.Args = codes "args"
operand_name operand.Keywords = codes "keywords"
operand_name operand.State = codes "state"
operand_name operand.Id = codes "id"

-- of how many of its parts were cut off
unfoldable pub operand_more : Operand → List ℕ
operand_more operand.Args = codes "args_more"
operand_more operand.Keywords = codes "keywords_more"
operand_more operand.State = codes "state_more"
operand_more operand.Id = codes "id_more"
