-- Lines of a listing have no newline within.
use Rattle.std.proofs.Common.{ℕ, zero, suc, ◌-◌, ◌*◌, Bool, true, false, List, [], ◌∷◌, ◌++◌, length, Option, Some, None, refl}
use Rattle.std.specs.Prelude.{codes, decimal, nat_le, if◌then◌else◌}
use Rattle.std.specs.Fmt.{signed_decimal}
use Rattle.hex.specs.Hex.{encode_with}
use Rattle.pickle_io.specs.Text.{◌⧺◌, hexadecimal, quoted}
use Rattle.pickle_ops.specs.declared.form.Form.{Form}
use Rattle.pickle_ops.specs.declared.form.Form.TheVariants as form
use Rattle.pickle_ops.specs.declared.opcode.Opcode.{Opcode}
use Rattle.pickle_ops.specs.declared.opcode.Opcode.TheVariants as op
use Rattle.pickle_ops.specs.Argument.{number_of, signed_of, long_of, payload, first_text, second_text}
use Rattle.pickle_ops.specs.Spelling.{Operation}
use Rattle.pickle_ops.specs.Table.{code_of, name_of, form_of}
use Rattle.pickle_ops.specs.Text.{float_text, long_text, two_texts, form_text, is_long, arg_text}
use Rattle.pickle_ops.specs.declared.fault.FrontFault.TheVariants as at_front
use Rattle.pickle_doc.specs.declared.fault.TailFault.{TailFault}
use Rattle.pickle_doc.specs.declared.fault.TailFault.TheVariants as tail
use Rattle.pickle_machine.specs.declared.refusal.Refusal.{Refusal}
use Rattle.pickle_machine.specs.declared.refusal.Refusal.TheVariants as refusal
use Rattle.pickle_list.specs.declared.note.Note.{Note}
use Rattle.pickle_list.specs.declared.note.Note.TheVariants as note
use Rattle.pickle_text.specs.Column.{blanks, left_aligned}
use Rattle.pickle_list.specs.ListingColumn.{code_text}
use Rattle.pickle_list.specs.ArgTexts.{ArgTexts}
use Rattle.pickle_list.specs.Line.{mark_text, as_text, note_text, described, named_in}
use Rattle.pickle_text.specs.ReportLine.{refusal_words, refusal_number, refusal_text, tail_words, fault_byte, fault_text, fault_at}
use Rattle.calls_laws.proofs.LinesApart.{joined, quotes_stay}
use Rattle.calls_laws.proofs.WithinLines.{Stays, then_stays, if_stays, decimal_stays, signed_stays, hexadecimal_stays}
use Rattle.assembler_laws.proofs.ItemLines.{body}

blanks_stay : (n : ℕ) → Stays (blanks n)
blanks_stay zero = refl
blanks_stay (suc n) = blanks_stay n

-- ---- arguments

-- a text, if there is one
abbrev pub AnyStays : Option (List ℕ) → Type 0
AnyStays None = Unit {0}
AnyStays (Some t) = Stays t

float_stays : (bytes : List ℕ) → Stays (float_text bytes)
unfolding float_text
float_stays bytes = then_stays (codes "f8:") (hexadecimal bytes) refl (hexadecimal_stays bytes)

long_stays : (bytes : List ℕ) → Stays (long_text bytes)
unfolding long_text
long_stays bytes = if_stays (nat_le (length bytes) 16) (signed_decimal (long_of bytes)) (codes "le:" ⧺ hexadecimal bytes) (signed_stays (long_of bytes)) (then_stays (codes "le:") (hexadecimal bytes) refl (hexadecimal_stays bytes))

two_stay : (arg : List ℕ) → Stays (two_texts arg)
unfolding two_texts
two_stay arg = then_stays (quoted (first_text arg) ⧺ codes " ") (quoted (second_text arg)) (then_stays (quoted (first_text arg)) (codes " ") (quotes_stay (first_text arg)) refl) (quotes_stay (second_text arg))

form_stays : (f : Form) (arg : List ℕ) → AnyStays (form_text f arg)
form_stays form.Empty arg = tt
form_stays form.Uint1 arg = decimal_stays (number_of form.Uint1 arg)
form_stays form.Uint2 arg = decimal_stays (number_of form.Uint2 arg)
form_stays form.Uint4 arg = decimal_stays (number_of form.Uint4 arg)
form_stays form.Uint8 arg = decimal_stays (number_of form.Uint8 arg)
form_stays form.Int4 arg = signed_stays (signed_of arg)
form_stays form.Float8 arg = float_stays arg
form_stays form.Line arg = quotes_stay (payload form.Line arg)
form_stays form.Quoted arg = quotes_stay (payload form.Quoted arg)
form_stays form.Decimal arg = decimal_stays (number_of form.Decimal arg)
form_stays form.Two arg = two_stay arg
form_stays form.Bytes1 arg = quotes_stay (payload form.Bytes1 arg)
form_stays form.Bytes4 arg = quotes_stay (payload form.Bytes4 arg)
form_stays form.Bytes8 arg = quotes_stay (payload form.Bytes8 arg)
form_stays form.String4 arg = quotes_stay (payload form.String4 arg)

pub arg_stays : (o : Operation) → AnyStays (arg_text o)
unfolding arg_text
arg_stays o = go (is_long o.opcode)
  where
    go : (b : Bool) → AnyStays (if b then Some (long_text (payload (form_of o.opcode) o.arg)) else form_text (form_of o.opcode) o.arg)
    go true = long_stays (payload (form_of o.opcode) o.arg)
    go false = form_stays (form_of o.opcode) o.arg

note_stays : (n : Note) → Stays (note_text n)
unfolding mark_text as_text
note_stays (note.MarkAt offset) = then_stays (codes "(MARK at " ⧺ decimal offset) (codes ")") (then_stays (codes "(MARK at ") (decimal offset) refl (decimal_stays offset)) refl
note_stays (note.As key) = then_stays (codes "(as " ⧺ decimal key) (codes ")") (then_stays (codes "(as ") (decimal key) refl (decimal_stays key)) refl

-- ---- the line of an item

name_stays : (o : Opcode) → Stays (name_of o)
name_stays op.Int = refl
name_stays _ = refl

code_stays : (o : Opcode) → Stays (code_text (code_of o))
unfolding encode_with
code_stays op.Int = refl
code_stays _ = refl

left_stays : (name : List ℕ) → Stays name → Stays (left_aligned 10 name ⧺ codes " ")
unfolding left_aligned
left_stays name p = then_stays (name ⧺ blanks (10 - length name)) (codes " ") (then_stays name (blanks (10 - length name)) p (blanks_stay (10 - length name))) refl

described_stays : (name : List ℕ) (x : Option (List ℕ)) (n : Option Note) → Stays name → AnyStays x → Stays (described name x n)
described_stays name None None p q = p
described_stays name (Some t) None p q = then_stays (left_aligned 10 name ⧺ codes " ") t (left_stays name p) q
described_stays name None (Some n) p q = then_stays (left_aligned 10 name ⧺ codes " ") (note_text n) (left_stays name p) (note_stays n)
described_stays name (Some t) (Some n) p q =
    then_stays ((left_aligned 10 name ⧺ codes " " ⧺ t) ⧺ codes " ") (note_text n)
    (then_stays (left_aligned 10 name ⧺ codes " " ⧺ t) (codes " ") (then_stays (left_aligned 10 name ⧺ codes " ") t (left_stays name p) q) refl) (note_stays n)

named_stays : (args : ArgTexts) (o : Operation) (n : Option Note) → AnyStays (args.text o) → Stays (named_in args o n)
unfolding named_in
named_stays args o n a = described_stays (name_of o.opcode) (args.text o) n (name_stays o.opcode) a

pub body_stays : (args : ArgTexts) (o : Operation) (offset marks : ℕ) (n : Option Note) → AnyStays (args.text o) → Stays (body args o offset marks n)
unfolding body
body_stays args o offset marks n a =
    let c = code_text (code_of o.opcode) in
    let t = named_in args o n in
    let gap : List ℕ = blanks (4 - length c) ++ (32 ∷ blanks (4 * marks)) in
    let filled : Stays gap = joined (blanks (4 - length c)) (32 ∷ blanks (4 * marks)) (blanks_stay (4 - length c)) (blanks_stay (4 * marks)) in
    let rest : Stays (c ++ (gap ++ t)) = joined c (gap ++ t) (code_stays o.opcode) (joined gap t filled (named_stays args o n a)) in
    joined (blanks (5 - length (decimal offset))) ((decimal offset ++ 58 ∷ []) ++ (32 ∷ (c ++ (gap ++ t)))) (blanks_stay (5 - length (decimal offset)))
    (joined (decimal offset ++ 58 ∷ []) (32 ∷ (c ++ (gap ++ t))) (joined (decimal offset) (58 ∷ []) (decimal_stays offset) refl) rest)

-- ---- the closing lines

words_stay : (r : Refusal) → Stays (refusal_words r)
unfolding refusal_words
words_stay refusal.NoMark = refl
words_stay refusal.Underflow = refl
words_stay (refusal.NoMemoEntry key) = refl
words_stay refusal.OddItems = refl
words_stay (refusal.WrongKind id) = refl
words_stay (refusal.BadProtocol n) = refl
words_stay (refusal.BadExtension n) = refl
words_stay (refusal.NotText id) = refl
words_stay (refusal.NotCallable id) = refl
words_stay (refusal.NotArguments id) = refl
words_stay (refusal.NotKeywords id) = refl
words_stay refusal.Memory = refl

number_stays : (r : Refusal) → Stays (refusal_number r)
unfolding refusal_number
number_stays refusal.NoMark = refl
number_stays refusal.Underflow = refl
number_stays (refusal.NoMemoEntry key) = decimal_stays key
number_stays refusal.OddItems = refl
number_stays (refusal.WrongKind id) = decimal_stays id
number_stays (refusal.BadProtocol n) = decimal_stays n
number_stays (refusal.BadExtension n) = signed_stays n
number_stays (refusal.NotText id) = decimal_stays id
number_stays (refusal.NotCallable id) = decimal_stays id
number_stays (refusal.NotArguments id) = decimal_stays id
number_stays (refusal.NotKeywords id) = decimal_stays id
number_stays refusal.Memory = refl

pub refusal_stays : (r : Refusal) → Stays (refusal_text r)
unfolding refusal_text
refusal_stays r = then_stays (refusal_words r) (refusal_number r) (words_stay r) (number_stays r)

tail_stays : (f : TailFault) → Stays (fault_text f)
unfolding fault_text tail_words fault_byte ◌⧺◌
tail_stays (tail.Front (at_front.UnknownOpcode byte)) = joined (codes "F2 unknown opcode 0x") (hexadecimal (byte ∷ [])) refl (hexadecimal_stays (byte ∷ []))
tail_stays (tail.Front at_front.Ended) = refl
tail_stays (tail.Front at_front.Truncated) = refl
tail_stays (tail.Front at_front.NegativeLength) = refl
tail_stays (tail.Front at_front.BadArgument) = refl
tail_stays tail.FrameInFrame = refl
tail_stays tail.FramePastEnd = refl
tail_stays tail.FrameCrossed = refl

pub fault_stays : (f : TailFault) (offset : ℕ) → Stays (fault_at f offset)
unfolding fault_at
fault_stays f offset = then_stays (fault_text f ⧺ codes " at ") (decimal offset) (then_stays (fault_text f) (codes " at ") (tail_stays f) refl) (decimal_stays offset)
