-- The fields of each line can be read back, and so the line is.
use Rattle.std.proofs.Common.{◌≡◌, ℕ, true, List, [], ◌∷◌, None, refl, arith}
use Rattle.std.specs.Prelude.{codes}
use Rattle.std.specs.List.{list_all}
use Rattle.json_lines.specs.Json.{is_plain}
use Rattle.json_lines.specs.Line.{numbers_json}
use Rattle.json_lines.specs.Readable.{ArePlain}
use Rattle.json_lines.proofs.Nested.{number, text, both, Fits, Deep, wider, deeper, of_plain, joined, alone, object_fits, mapped, numbers_fit, line_reads, plain_line_reads}
use Rattle.pickle_ops.specs.declared.kind.Kind.{Kind}
use Rattle.pickle_ops.specs.declared.kind.Kind.TheVariants as kind
use Rattle.pickle_ops.specs.declared.object.Change.{Change}
use Rattle.pickle_ops.specs.declared.object.Change.TheVariants as change
use Rattle.pickle_ops.specs.Object.{Object}
use Rattle.pickle_machine.specs.declared.refusal.Refusal.{Refusal}
use Rattle.pickle_json.specs.EndFields.{tail_fields}
use Rattle.pickle_json.proofs.Readable.{signed, held, double, long, names, ended, refused, fault}
use Rattle.objects_json.specs.ObjectFields.{kind_word, kind_fields, parts_fields, value_fields, pair_fields, change_word, change_fields, change_json, changes_json, changes_fields, head_fields, rest_fields, object_fields, object_line}
use Rattle.objects_json.specs.Objects.{result_fields, result_line, stopped_fields, stopped_line, item_refused_fields, refused_line, fault_line}
use Rattle.objects_json.specs.Readable.{ObjectLinesReadBack}

-- ---- kinds

kind_plain : (k : Kind) → list_all is_plain (kind_word k) ≡ true
unfolding kind_word
kind_plain kind.None = refl
kind_plain _ = refl

given : (k : Kind) → ArePlain (kind_fields k)
unfolding kind_fields
given (kind.Int n) = signed n
given (kind.Long bytes) = long bytes
given (kind.IntLine q) = held q
given (kind.LongLine q) = held q
given (kind.FloatLine q) = held q
given (kind.Float bytes) = double bytes
given (kind.LegacyString q) = held q
given (kind.LegacyLine q) = held q
given (kind.Text q) = held q
given (kind.TextLine q) = held q
given (kind.Bytes q) = held q
given (kind.ByteArray q) = held q
given (kind.Global t) = names t.first t.second
given (kind.Inst t) = names t.first t.second
given (kind.PersistentLine q) = held q
given (kind.Ext n) = signed n
given (kind.Buffer n) = number (codes "number") n refl
given _ = tt

head : (id : ℕ) (k : Kind) → ArePlain (head_fields id k)
unfolding head_fields
head id k =
    both _ _ (number (codes "object") id refl) (text (codes "is") (kind_word k) refl (kind_plain k))

-- ---- parts

parts : (ids : List ℕ) → Deep 2 (parts_fields ids)
parts [] = of_plain 2 [] tt
parts (id ∷ ids) = alone 2 (codes "parts") (numbers_json (id ∷ ids)) refl (wider 1 2 _ (omega arith) (numbers_fit (id ∷ ids)))

-- ---- changes

put_in : (id : ℕ) → ArePlain (value_fields id)
unfolding value_fields
put_in id = number (codes "value") id refl

pair : (key v : ℕ) → ArePlain (pair_fields key v)
unfolding pair_fields
pair key v = both _ _ (number (codes "key") key refl) (put_in v)

put : (c : Change) → ArePlain (change_fields c)
unfolding change_fields
put (change.Append id) = put_in id
put (change.SetItem key v) = pair key v
put (change.Add id) = put_in id
put (change.Build id) = put_in id

change_plain : (c : Change) → list_all is_plain (change_word c) ≡ true
unfolding change_word
change_plain (change.Append id) = refl
change_plain (change.SetItem key v) = refl
change_plain (change.Add id) = refl
change_plain (change.Build id) = refl

change_fits : (c : Change) → Fits 1 (change_json c)
unfolding change_json
change_fits c = object_fits 0 (change_word c) (change_fields c) (change_plain c) (of_plain 0 _ (put c))

changes : (cs : List Change) → Deep 2 (changes_fields cs)
unfolding changes_json
changes [] = of_plain 2 [] tt
changes (c ∷ cs) = alone 2 (codes "changes") _ refl (mapped 1 change_json (c ∷ cs) change_fits)

-- ---- lines

rest : (ids : List ℕ) (cs : List Change) → Deep 2 (rest_fields ids cs)
unfolding rest_fields
rest ids cs = joined 2 (parts_fields ids) (changes_fields cs) (parts ids) (changes cs)

pub object : (id : ℕ) (o : Object) → Deep 2 (object_fields id o)
object id o = joined 2 _ _ (of_plain 2 _ (both _ _ (head id o.kind) (given o.kind))) (rest o.parts o.changes)

pub item_refused : (place : ℕ) (r : Refusal) → ArePlain (item_refused_fields place r)
item_refused place r = both _ _ (refused r None) (number (codes "item") place refl)

pub object_lines_read_back : ObjectLinesReadBack
unfolding object_line result_line stopped_line refused_line fault_line
object_lines_read_back = record {
  object = λ id o. line_reads (codes "object") (object_fields id o) refl (deeper 2 8 _ (omega arith) (object id o));
  result = λ id. plain_line_reads (codes "result") (result_fields id) refl (number (codes "object") id refl);
  stopped = plain_line_reads (codes "end") stopped_fields refl (ended (codes "stopped") refl);
  refused = λ place r. plain_line_reads (codes "end") (item_refused_fields place r) refl (item_refused place r);
  fault = λ f offset. plain_line_reads (codes "end") (tail_fields f offset None) refl (fault f offset None);
}
