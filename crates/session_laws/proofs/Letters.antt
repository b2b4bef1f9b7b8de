-- Which lines begin with a letter.
use Rattle.std.proofs.Common.{◌≡◌, ℕ, zero, suc, ◌+◌, ◌-◌, ◌<◌, ◌≤◌, ◌==◌, ◌&&◌, Bool, true, false, List, [], ◌∷◌, ◌++◌, length, Option, refl, ap, ◌∙◌, append_assoc, arith, rules}
use Rattle.std.specs.Prelude.{nat_le, nat_lt, decimal, replicate, if◌then◌else◌, ◌/◌, ◌%◌}
use Rattle.std.specs.Fmt.{digits, digits_onto, digit_glyph}
use Rattle.pickle_io.specs.Text.{◌⧺◌}
use Rattle.pickle_ops.specs.Object.{Object}
use Rattle.pickle_ops.specs.Spelling.{Operation}
use Rattle.pickle_doc.specs.declared.fault.TailFault.{TailFault}
use Rattle.pickle_machine.specs.declared.refusal.Refusal.{Refusal}
use Rattle.pickle_list.specs.declared.note.Note.{Note}
use Rattle.pickle_text.specs.Column.{right_aligned}
use Rattle.pickle_list.specs.Line.{offset_column, item_line, refused_line, left_text, protocol_words, protocol_text}
use Rattle.pickle_text.specs.Closing.{kept_text, refused_item_line}
use Rattle.pickle_text.specs.Words.{id_text}
use Rattle.object_texts.specs.ObjectText.{object_text, object_line}
use Rattle.object_texts.specs.Report.{result_line}
use Rattle.pickle_text.specs.ReportLine.{fault_line}
use Rattle.session_laws.specs.Lines.{begins_with_letter, LinesApart}
use Rattle.session_laws.proofs.Says.{cells, rest_of, parts}

-- ---- a number begins with a digit

no_letter : (byte : ℕ) (more : List ℕ) → byte < 97 → begins_with_letter (byte ∷ more) ≡ false
no_letter byte more h = go (nat_le 97 byte) refl
  where
    go : (b : Bool) → nat_le 97 byte ≡ b → (b && nat_le byte 122) ≡ false
    go false e = refl
    go true e = let least : 97 ≤ byte = search rules in absurd (omega (arith, h, least))

digit_is : (d : ℕ) → d < 10 → digit_glyph false d < 97
digit_is d h = go (nat_lt d 10) refl
  where
    go : (b : Bool) → nat_lt d 10 ≡ b → (if b then 48 + d else (87 + d)) < 97
    go true e = omega (arith, h)
    go false e = let no : 10 ≤ d = search rules in absurd (omega (arith, h, no))

either : (more : List ℕ) (b : Bool) (x y : List ℕ) → begins_with_letter (x ++ more) ≡ false → begins_with_letter (y ++ more) ≡ false → begins_with_letter ((if b then x else y) ++ more) ≡ false
either more true x y p q = p
either more false x y p q = q

onto : (k n : ℕ) (acc more : List ℕ) → begins_with_letter (acc ++ more) ≡ false → begins_with_letter (digits_onto k 10 false n acc ++ more) ≡ false
onto zero n acc more h = h
onto (suc k) n acc more h =
    let next : begins_with_letter (digit_glyph false (n % 10) ∷ (acc ++ more)) ≡ false = no_letter (digit_glyph false (n % 10)) (acc ++ more) (digit_is (n % 10) (omega arith)) in
    either more (n / 10 == 0) (digit_glyph false (n % 10) ∷ acc) (digits_onto k 10 false (n / 10) (digit_glyph false (n % 10) ∷ acc)) next
    (onto k (n / 10) (digit_glyph false (n % 10) ∷ acc) more next)

number : (n : ℕ) (more : List ℕ) → begins_with_letter more ≡ false → begins_with_letter (decimal n ++ more) ≡ false
unfolding digits
number n more h = onto 64 n [] more h

-- ---- items and objects

blanks_in_front : (n : ℕ) (text : List ℕ) → begins_with_letter text ≡ false → begins_with_letter (replicate n 32 ++ text) ≡ false
blanks_in_front zero text h = h
blanks_in_front (suc n) text h = refl

column : (offset : ℕ) (more : List ℕ) → begins_with_letter more ≡ false → begins_with_letter (offset_column offset ++ more) ≡ false
unfolding offset_column right_aligned ◌⧺◌
column offset more h =
    let n : ℕ = 5 - length (decimal offset) in
    ap begins_with_letter (append_assoc (replicate n 32) (decimal offset) more) ∙ blanks_in_front n (decimal offset ++ more) (number offset more h)

item : (o : Operation) (offset marks : ℕ) (n : Option Note) → begins_with_letter (item_line o offset marks n) ≡ false
item o offset marks n = ap begins_with_letter (parts o offset marks n) ∙ column offset (58 ∷ (32 ∷ (cells o.opcode ++ rest_of o marks n))) refl

object : (id : ℕ) (o : Object) → begins_with_letter (object_line id o) ≡ false
unfolding object_line object_text id_text ◌⧺◌
object id o = refl

-- ---- the other lines

refused : (r : Refusal) → begins_with_letter (refused_line r) ≡ true
unfolding refused_line ◌⧺◌
refused r = refl

left : (objects marks : ℕ) → begins_with_letter (left_text objects marks) ≡ true
unfolding left_text ◌⧺◌
left objects marks = refl

kept : (count : ℕ) → begins_with_letter (kept_text count) ≡ true
unfolding kept_text ◌⧺◌
kept count = refl

protocol : (n : ℕ) → begins_with_letter (protocol_text n) ≡ true
unfolding protocol_text protocol_words ◌⧺◌
protocol n = refl

fault : (f : TailFault) (offset : ℕ) → begins_with_letter (fault_line f offset) ≡ true
unfolding fault_line ◌⧺◌
fault f offset = refl

result : (id : ℕ) → begins_with_letter (result_line id) ≡ true
unfolding result_line ◌⧺◌
result id = refl

stopped : (place : ℕ) (r : Refusal) → begins_with_letter (refused_item_line place r) ≡ true
unfolding refused_item_line ◌⧺◌
stopped place r = refl

pub lines_apart : LinesApart
lines_apart = record {
  item = item;
  object = object;
  refused = refused;
  left = left;
  kept = kept;
  protocol = protocol;
  fault = fault;
  result = result;
  stopped = stopped;
}
