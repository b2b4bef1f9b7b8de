-- Only lines of events begin with an offset, in the whole text.
use Rattle.std.proofs.Common.{◌≡◌, ◌≢◌, ◌⊎◌, ℕ, zero, suc, ◌+◌, ◌-◌, ◌^◌, ◌≤◌, ◌<◌, ◌==◌, Bool, true, false, List, [], ◌∷◌, ◌++◌, length, Option, Some, None, refl, sym, ap, subst, ◌∙◌, inl, inr, append_assoc, arith}
use Rattle.std.specs.Prelude.{not, nat_le, nat_lt, drop, codes, decimal, is_some, if◌then◌else◌, ◌/◌, ◌%◌}
use Rattle.std.specs.List.{list_all}
use Rattle.std.specs.Option.{option_map_or}
use Rattle.std.specs.Fmt.{digits, digits_onto, digit_glyph}
use Rattle.std.proofs.lemmas.Bool.{ltb-false, leb-true, le-leb, ne_eqb}
use Rattle.pickle_io.specs.Text.{◌⧺◌}
use Rattle.pickle_ops.specs.Object.{Object}
use Rattle.pickle_ops.specs.Shape.{is_digit}
use Rattle.pickle_ops.specs.Spelling.{Operation}
use Rattle.pickle_doc.specs.Document.{Contents, ReadsAs, document_bytes}
use Rattle.pickle_doc.specs.Place.{ops_of, item_at, offset_of}
use Rattle.pickle_machine.specs.State.{State, start}
use Rattle.pickle_machine.specs.Run.{run}
use Rattle.pickle_io.specs.declared.hole.Hole.{Hole}
use Rattle.pickle_io.specs.Holes.{in_file}
use Rattle.pickle_lenient.specs.declared.taken.Frames.{Frames}
use Rattle.pickle_lenient.specs.declared.taken.Frames.TheVariants as frames
use Rattle.pickle_calls.specs.declared.end.Ending.{Ending}
use Rattle.pickle_calls.specs.declared.end.Ending.TheVariants as ending
use Rattle.pickle_calls.specs.declared.event.Event.{Event}
use Rattle.pickle_calls.specs.declared.naming.Naming.{Naming}
use Rattle.pickle_text.specs.declared.closing.Closing.{Closing}
use Rattle.pickle_text.specs.declared.closing.Closing.TheVariants as closing
use Rattle.pickle_text.specs.Column.{blanks, right_aligned, newline}
use Rattle.pickle_calls.specs.Begins.{begins_like, begins_line, begins_text}
use Rattle.pickle_text.specs.Closing.{kept_words, kept_text, kept_line, refused_item_line, closing_line}
use Rattle.pickle_text.specs.ReportLine.{fault_line}
use Rattle.pickle_calls.specs.Manner.{Manner, closing_in, ending_in}
use Rattle.pickle_text.specs.Output.{Output}
use Rattle.pickle_calls.specs.CallsLine.{event_text, event_line, totals_line, unsure_words, unsure_line}
use Rattle.pickle_calls.specs.Telling.{for_people}
use Rattle.pickle_calls.specs.Calls.{CallsEnd, naming_at, entry_on, entry_at, entries, calls_end, entry_in}
use Rattle.calls_laws.specs.LineLaws.{cut_lines, if_any, item_lines, ending_pieces, last_pieces}
use Rattle.calls_laws.proofs.LinesApart.{both_hold, first_of, rest_of}
use Rattle.calls_laws.proofs.OneEvent.{lacks, lacks_none, lacks_joined, decimal_lacks, no_colon}
use Rattle.pickle_further.specs.declared.seek.Sought.TheVariants as sought
use Rattle.pickle_further.specs.declared.seek.Sought.{Sought}
use Rattle.pickle_further.specs.declared.way.Pickles.{Pickles}
use Rattle.pickle_further.specs.declared.way.Pickles.TheVariants as pickles
use Rattle.pickle_further.specs.declared.way.Way.{Way}
use Rattle.pickle_further.specs.Going.{Standing, going, stands_after, is_sought, Tale, tale_of, search, search_from}
use Rattle.pickle_further.specs.Parts.{stop_words, stop_line, ends_line, ignored_words, buffered_words, held_words, header, ignoring, buffering, holding, are_many, is_open, standing_at, standing_first, loss_at, first_mixed, mixed_words, mixed_line, mixed_text, loss_words, loss_line}
use Rattle.pickle_further.specs.Leads.{warning_words, warning_line, warning_text}
use Rattle.pickle_further.specs.Deep.{deep_line, warnings_text}
use Rattle.pickle_further.specs.CallsText.{document_leads, document_deep, document_warnings, first_loss, IsCallsText}
use Rattle.pickle_loader.specs.Onward.{stands}
use Rattle.pickle_loader.specs.Text.{line_gone, line_on, lines_before, all_lines, part_end_lines, part_lines, lines_from, lines_if, behind_lines, lost_lines, mixed_lines, parts_lines, document_last, document_lines, kept_first, kept_closing, kept_last, kept_parts, kept_lines, IsAmong, is_in_text}
use Rattle.pickle_loader.specs.EventLine.{BeginsWithOffset, LacksOffset, IsStart, IsOfItem, EventLinesApart}
use Rattle.pickle_loader.proofs.Losses.{shifted}
use Rattle.pickle_loader.proofs.Reaches.{onward}
use Rattle.pickle_loader.proofs.EachReach.{IsReadSo, accepted_here}
use Rattle.pickle_loader.proofs.OneMemo.{read_so}
use Rattle.pickle_loader.proofs.WholeText.{whole_text_is_its_lines}

-- ---- blanks and digits

blanks_lack : (c n : ℕ) → 58 ≤ c → lacks c (blanks n) ≡ true
blanks_lack c zero h = refl
blanks_lack c (suc n) h = both_hold (not (32 == c)) (lacks c (blanks n)) (ap not (ne_eqb 32 c (λ same. omega (arith, h, same)))) (blanks_lack c n h)

digit_lacks : (c d : ℕ) → 58 ≤ c → is_digit d ≡ true → not (d == c) ≡ true
digit_lacks c d h e =
    let most : d ≤ 57 = leb-true d 57 (rest_of (nat_le 48 d) (nat_le d 57) e) in
    ap not (ne_eqb d c (λ same. omega (arith, h, most, same)))

digits_lack : (c : ℕ) (ds : List ℕ) → 58 ≤ c → list_all is_digit ds ≡ true → lacks c ds ≡ true
digits_lack c [] h e = refl
digits_lack c (d ∷ ds) h e =
    both_hold (not (d == c)) (lacks c ds) (digit_lacks c d h (first_of (is_digit d) (list_all is_digit ds) e)) (digits_lack c ds h (rest_of (is_digit d) (list_all is_digit ds) e))

abbrev column : (line : List ℕ) → BeginsWithOffset line → List ℕ
column line b = blanks b.width ++ b.digits

column_lacks : (line : List ℕ) (b : BeginsWithOffset line) (c : ℕ) → 58 ≤ c → lacks c (column line b) ≡ true
column_lacks line b c h = lacks_joined c (blanks b.width) b.digits (blanks_lack c b.width h) (digits_lack c b.digits h b.are_digits)

column_is : (line : List ℕ) (b : BeginsWithOffset line) → line ≡ column line b ++ (58 ∷ (32 ∷ b.text))
unfolding ◌⧺◌
column_is line b = b.line_is ∙ append_assoc (column line b) (codes ": ") b.text

-- ---- a number is of digits

glyph_digit : (d : ℕ) → d < 10 → is_digit (digit_glyph false d) ≡ true
glyph_digit d h = go (nat_lt d 10) refl
  where
    go : (b : Bool) → nat_lt d 10 ≡ b → is_digit (if b then 48 + d else (87 + d)) ≡ true
    go true e = both_hold (nat_le 48 (48 + d)) (nat_le (48 + d) 57) (le-leb 48 (48 + d) (omega arith)) (le-leb (48 + d) 57 (omega (arith, h)))
    go false e = absurd (omega (arith, h, ltb-false d 10 e))

either_digits : (b : Bool) (x y : List ℕ) → list_all is_digit x ≡ true → list_all is_digit y ≡ true → list_all is_digit (if b then x else y) ≡ true
either_digits true x y p q = p
either_digits false x y p q = q

onto_digits : (k n : ℕ) (acc : List ℕ) → list_all is_digit acc ≡ true → list_all is_digit (digits_onto k 10 false n acc) ≡ true
onto_digits zero n acc h = h
onto_digits (suc k) n acc h =
    let next : list_all is_digit (digit_glyph false (n % 10) ∷ acc) ≡ true = both_hold (is_digit (digit_glyph false (n % 10))) (list_all is_digit acc) (glyph_digit (n % 10) (omega arith)) h in
    either_digits (n / 10 == 0) (digit_glyph false (n % 10) ∷ acc) (digits_onto k 10 false (n / 10) (digit_glyph false (n % 10) ∷ acc)) next
    (onto_digits k (n / 10) (digit_glyph false (n % 10) ∷ acc) next)

decimal_digits : (n : ℕ) → list_all is_digit (decimal n) ≡ true
unfolding digits
decimal_digits n = onto_digits 64 n [] refl

either_some : (b : Bool) (x y : List ℕ) → x ≢ [] → y ≢ [] → (if b then x else y) ≢ []
either_some true x y p q = p
either_some false x y p q = q

cell_some : (d : ℕ) (acc : List ℕ) → (d ∷ acc) ≢ []
cell_some d acc e = absurd cc

onto_some : (k n d : ℕ) (acc : List ℕ) → digits_onto k 10 false n (d ∷ acc) ≢ []
onto_some zero n d acc = cell_some d acc
onto_some (suc k) n d acc =
    let more : List ℕ = digit_glyph false (n % 10) ∷ (d ∷ acc) in
    either_some (n / 10 == 0) more (digits_onto k 10 false (n / 10) more) (cell_some (digit_glyph false (n % 10)) (d ∷ acc)) (onto_some k (n / 10) (digit_glyph false (n % 10)) (d ∷ acc))

first_some : (k n : ℕ) → digits_onto (suc k) 10 false n [] ≢ []
first_some k n =
    let more : List ℕ = digit_glyph false (n % 10) ∷ [] in
    either_some (n / 10 == 0) more (digits_onto k 10 false (n / 10) more) (cell_some (digit_glyph false (n % 10)) []) (onto_some k (n / 10) (digit_glyph false (n % 10)) [])

decimal_some : (n : ℕ) → decimal n ≢ []
unfolding digits
decimal_some n = first_some 63 n

-- a line in columns
pub column_begins : (offset : ℕ) (text : List ℕ) → BeginsWithOffset (right_aligned 5 (decimal offset) ⧺ codes ": " ⧺ text ⧺ newline)
unfolding right_aligned ◌⧺◌
column_begins offset text = record {
  width = 5 - length (decimal offset);
  digits = decimal offset;
  text = text ++ newline;
  are_some = decimal_some offset;
  are_digits = decimal_digits offset;
  line_is = append_assoc ((blanks (5 - length (decimal offset)) ++ decimal offset) ++ codes ": ") text newline;
}

event_begins : (offset : ℕ) (m : Naming) (heap : List Object) (e : Event) → BeginsWithOffset (event_line offset m heap e)
unfolding event_line
event_begins offset m heap e = column_begins offset (event_text m heap e)

-- ---- what heads or closes a part

letter_column : {A : Type 0} (c : ℕ) (t r x : List ℕ) → 97 ≤ c → lacks c r ≡ true → c ∷ t ≡ r ++ (58 ∷ x) → A
letter_column c t [] x h k e = let at : c ≡ 58 = cc in absurd (omega (arith, h, at))
letter_column c t (b ∷ r) x h k e = let at : b ≡ c = cc in absurd (lacks_none c [] r (ap (λ (n : ℕ). lacks c (n ∷ r)) (sym at) ∙ k))

abbrev Begins : ℕ → List ℕ → Type 0
Begins c line = (t : List ℕ) × (line ≡ c ∷ t)

no_letter : (c : ℕ) (line : List ℕ) → 97 ≤ c → Begins c line → LacksOffset line
no_letter c line h (t, is) b = letter_column c t (column line b) _ h (column_lacks line b c (omega (arith, h))) (sym is ∙ column_is line b)

lacks_colon : (line : List ℕ) → lacks 58 line ≡ true → LacksOffset line
lacks_colon line h b = lacks_none 58 (column line b) _ (ap (lacks 58) (sym (column_is line b)) ∙ h)

totals_lack : (imports calls : ℕ) → lacks 58 (totals_line imports calls) ≡ true
unfolding totals_line ◌⧺◌
totals_lack imports calls =
    lacks_joined 58 (((decimal imports ++ codes " imports, ") ++ decimal calls) ++ codes " calls") (codes "\n")
    (lacks_joined 58 ((decimal imports ++ codes " imports, ") ++ decimal calls) (codes " calls")
    (lacks_joined 58 (decimal imports ++ codes " imports, ") (decimal calls) (lacks_joined 58 (decimal imports) (codes " imports, ") (decimal_lacks 58 imports no_colon) refl) (decimal_lacks 58 calls no_colon)) refl) refl

header_begins : (f : Frames) → Begins 97 (header f)
unfolding header ignored_words buffered_words held_words ◌⧺◌
header_begins frames.Ignored = (_, refl)
header_begins frames.Buffered = (_, refl)
header_begins frames.Held = (_, refl)

ends_begins : (c : Closing) → Begins 105 (ends_line c)
unfolding ends_line stop_line stop_words ◌⧺◌
ends_begins closing.Stopped = (_, refl)
ends_begins (closing.Refused place r) = (_, refl)
ends_begins (closing.Fault f offset) = (_, refl)

loss_begins : (offset : ℕ) → Begins 117 (loss_line offset)
unfolding loss_line loss_words ◌⧺◌
loss_begins offset = (_, refl)

warning_begins : (id : ℕ) → Begins 119 (warning_line id)
unfolding warning_line warning_words ◌⧺◌
warning_begins id = (_, refl)

mixed_begins : (offset : ℕ) → Begins 117 (mixed_line offset)
unfolding mixed_line mixed_words ◌⧺◌
mixed_begins offset = (_, refl)

unsure_begins : (offset : ℕ) → Begins 117 (unsure_line offset)
unfolding unsure_line unsure_words ◌⧺◌
unsure_begins offset = (_, refl)

container_begins : (name : List ℕ) → Begins 98 (begins_line name)
unfolding begins_line ◌⧺◌
container_begins name = (_, refl)

kept_begins : (count : ℕ) → Begins 107 (kept_text count)
unfolding kept_text kept_words ◌⧺◌
kept_begins count = (_, refl)

refused_begins : (place : ℕ) (r : _) → Begins 114 (refused_item_line place r)
unfolding refused_item_line ◌⧺◌
refused_begins place r = (_, refl)

fault_begins : (f : _) (offset : ℕ) → Begins 102 (fault_line f offset)
unfolding fault_line ◌⧺◌
fault_begins f offset = (_, refl)

heading_apart : (f : Frames) → LacksOffset (header f)
heading_apart f = no_letter 97 (header f) (omega arith) (header_begins f)

ends_apart : (c : Closing) → LacksOffset (ends_line c)
ends_apart c = no_letter 105 (ends_line c) (omega arith) (ends_begins c)

loss_apart : (offset : ℕ) → LacksOffset (loss_line offset)
loss_apart offset = no_letter 117 (loss_line offset) (omega arith) (loss_begins offset)

warning_apart : (leads : Option ℕ) → LacksOffset (warning_text leads)
warning_apart None = lacks_colon [] refl
warning_apart (Some id) = no_letter 119 (warning_line id) (omega arith) (warning_begins id)

deep_begins : (id : ℕ) → Begins 119 (deep_line id)
unfolding deep_line warning_words ◌⧺◌
deep_begins id = (_, refl)

warnings_apart : (leads deep : Option ℕ) → LacksOffset (warnings_text leads deep)
warnings_apart (Some id) deep = warning_apart (Some id)
warnings_apart None None = lacks_colon [] refl
warnings_apart None (Some id) = no_letter 119 (deep_line id) (omega arith) (deep_begins id)

mixed_apart : (holes : List Hole) (mixed : Option ℕ) → LacksOffset (mixed_text holes mixed)
mixed_apart holes None = lacks_colon [] refl
mixed_apart holes (Some offset) = no_letter 117 (mixed_line (in_file holes offset)) (omega arith) (mixed_begins (in_file holes offset))

unsure_apart : (offset : ℕ) → LacksOffset (unsure_line offset)
unsure_apart offset = no_letter 117 (unsure_line offset) (omega arith) (unsure_begins offset)

totals_apart : (imports calls : ℕ) → LacksOffset (totals_line imports calls)
totals_apart imports calls = lacks_colon (totals_line imports calls) (totals_lack imports calls)

begins_apart : (bytes : List ℕ) → LacksOffset (begins_text bytes)
begins_apart bytes = go (begins_like bytes)
  where
    go : (x : Option (List ℕ)) → LacksOffset (option_map_or begins_line x [])
    go None = lacks_colon [] refl
    go (Some name) = no_letter 98 (begins_line name) (omega arith) (container_begins name)

kept_apart : (count : ℕ) → LacksOffset (kept_line count)
unfolding kept_line
kept_apart count = go (count == 0)
  where
    go : (b : Bool) → LacksOffset (if b then [] else kept_text count)
    go true = lacks_colon [] refl
    go false = no_letter 107 (kept_text count) (omega arith) (kept_begins count)

closing_apart : (c : Closing) → LacksOffset (closing_line c)
unfolding closing_line
closing_apart closing.Stopped = lacks_colon [] refl
closing_apart (closing.Refused place r) = no_letter 114 (refused_item_line place r) (omega arith) (refused_begins place r)
closing_apart (closing.Fault f offset) = no_letter 102 (fault_line f offset) (omega arith) (fault_begins f offset)

-- ---- among lines

among_none : {A : Type 0} (x : List ℕ) → IsAmong x [] → A
among_none x ([], back, e) = absurd cc
among_none x (y ∷ front, back, e) = absurd cc

among_cons : (x y : List ℕ) (ls : List (List ℕ)) → IsAmong x (y ∷ ls) → (y ≡ x) ⊎ (IsAmong x ls)
among_cons x y ls ([], back, e) = inl cc
among_cons x y ls (z ∷ front, back, e) = inr (front, back, ap (drop 1) e)

among_split : (x : List ℕ) (a b : List (List ℕ)) → IsAmong x (a ++ b) → (IsAmong x a) ⊎ (IsAmong x b)
among_split x [] b h = inr h
among_split x (y ∷ a) b h = elim (among_cons x y (a ++ b) h) [
  | inl same ↦ inl ([], a, ap (λ (z : List ℕ). z ∷ a) same)
  | inr more ↦ elim (among_split x a b more) [
    | inl (front, back, e) ↦ inl (y ∷ front, back, ap (λ (ls : List (List ℕ)). y ∷ ls) e)
    | inr behind ↦ inr behind
  ]
]

among_if : (x y : List ℕ) → IsAmong x (if_any y) → y ≡ x
among_if x [] h = among_none x h
among_if x (b ∷ y) h = elim (among_cons x (b ∷ y) [] h) [
  | inl same ↦ same
  | inr none ↦ among_none x none
]

-- ---- what a text is asked for

record Asked : Type 0 where
  how : Manner
  pickles : Pickles
  bytes : List ℕ
  line : List ℕ
  begins : BeginsWithOffset line

abbrev Answer : Asked → Type 0
Answer a = IsOfItem a.how a.pickles a.bytes a.line

-- a line that has no offset is not what is asked for
not_asked : (a : Asked) (line : List ℕ) → LacksOffset line → line ≡ a.line → Answer a
not_asked a line lacking e = absurd (lacking (subst BeginsWithOffset (sym e) a.begins))

no_ending : (a : Asked) (e : Ending) → IsAmong a.line (ending_pieces e) → Answer a
no_ending a (ending.Closed kept c) h = elim (among_split a.line (if_any (kept_line kept)) (if_any (closing_line c)) h) [
  | inl first ↦ not_asked a (kept_line kept) (kept_apart kept) (among_if a.line (kept_line kept) first)
  | inr last ↦ not_asked a (closing_line c) (closing_apart c) (among_if a.line (closing_line c) last)
]
no_ending a (ending.Unsure offset) h = elim (among_cons a.line (unsure_line offset) [] h) [
  | inl same ↦ not_asked a (unsure_line offset) (unsure_apart offset) same
  | inr none ↦ among_none a.line none
]

no_last : (a : Asked) (bytes : List ℕ) (imports calls : ℕ) (e : Ending) → IsAmong a.line (if_any (begins_text bytes) ++ (totals_line imports calls ∷ ending_pieces e)) → Answer a
no_last a bytes imports calls e h = elim (among_split a.line (if_any (begins_text bytes)) (totals_line imports calls ∷ ending_pieces e) h) [
  | inl first ↦ not_asked a (begins_text bytes) (begins_apart bytes) (among_if a.line (begins_text bytes) first)
  | inr more ↦ elim (among_cons a.line (totals_line imports calls) (ending_pieces e) more) [
    | inl same ↦ not_asked a (totals_line imports calls) (totals_apart imports calls) same
    | inr last ↦ no_ending a e last
  ]
]

no_warning : (a : Asked) (leads : Option ℕ) → IsAmong a.line (if_any (warning_text leads)) → Answer a
no_warning a leads h = not_asked a (warning_text leads) (warning_apart leads) (among_if a.line (warning_text leads) h)

no_warnings : (a : Asked) (d : Contents) → IsAmong a.line (if_any (document_warnings d)) → Answer a
no_warnings a d h = not_asked a (document_warnings d) (warnings_apart (document_leads d) (document_deep d)) (among_if a.line (document_warnings d) h)

no_mixed : (a : Asked) (mixed : Option ℕ) → IsAmong a.line (if_any (mixed_text a.how.holes mixed)) → Answer a
no_mixed a mixed h = not_asked a (mixed_text a.how.holes mixed) (mixed_apart a.how.holes mixed) (among_if a.line (mixed_text a.how.holes mixed) h)

-- ---- the lines of a reading

in_reading : (a : Asked) (w : Way) (from : Standing) (k : ℕ) (p : Standing) (m : ℕ) → (w.pickles ≡ a.pickles) × (is_in_text w.pickles w.frames ≡ true) → IsStart a.how a.pickles a.bytes from → stands w from k ≡ Some p → IsAmong a.line (lines_before a.how.holes w p m) → Answer a
unfolding lines_before
in_reading a w from k p zero mode begins there h = among_none a.line h
in_reading a w from k p (suc m) mode begins there h = elim (among_split a.line (lines_before a.how.holes w p m) (line_on a.how.holes w (stands w p m)) h) [
  | inl before ↦ in_reading a w from k p m mode begins there before
  | inr here ↦ go (stands w p m) refl here
]
  where
    go : (x : Option Standing) → stands w p m ≡ x → IsAmong a.line (line_on a.how.holes w x) → Answer a
    go None is here = among_none a.line here
    go (Some q) is here =
        let same : line_gone a.how.holes q (going w q) ≡ a.line = among_if a.line (line_gone a.how.holes q (going w q)) here in
        record {
          way = w;
          from_here = from;
          place = k + m;
          standing = q;
          pickles = mode.0;
          in_text = mode.1;
          begins = begins;
          stands = onward w from p k m there ∙ is;
          line_is = same;
        }

-- what is found stands behind some item
record Stood (w : Way) (p q : Standing) : Type 0 where
  place : ℕ
  there : stands w p place ≡ Some q

search_stands : (x : Sought) (n : ℕ) (w : Way) (p q : Standing) → search x n w p ≡ Some q → Stood w p q
unfolding search stands
search_stands x zero w p q e = absurd cc
search_stands x (suc n) w p q e = go (is_sought x w.frames p.at.left p.rest (going w p).gone) (is_some (going w p).gone.closing) (search_stands x n w (stands_after p (going w p)) q) refl e
  where
    go : (b c : Bool) → (search x n w (stands_after p (going w p)) ≡ Some q → Stood w (stands_after p (going w p)) q) → is_some (going w p).gone.closing ≡ c
        → (if b then Some p else (if c then None else search x n w (stands_after p (going w p)))) ≡ Some q → Stood w p q
    go true c more is f = record { place = 0; there = f }
    go false true more is f = absurd cc
    go false false more is f =
        let s = more f in
        record { place = suc s.place; there = shifted w p (stands_after p (going w p)) s.place (ap (λ (b : Bool). if b then None else Some (stands_after p (going w p))) is) ∙ s.there }

in_part_lines : (a : Asked) (w : Way) (from : Standing) (k : ℕ) (p : Standing) → (w.pickles ≡ a.pickles) × (is_in_text w.pickles w.frames ≡ true) → IsStart a.how a.pickles a.bytes from → stands w from k ≡ Some p → IsAmong a.line (part_lines a.how.holes w (Some p)) → Answer a
in_part_lines a w from k p mode begins there h =
    let t : Tale = tale_of a.how.holes w p in
    elim (among_cons a.line (header w.frames) (all_lines a.how.holes w p ++ part_end_lines a.how.holes t) h) [
      | inl same ↦ not_asked a (header w.frames) (heading_apart w.frames) same
      | inr more ↦ elim (among_split a.line (all_lines a.how.holes w p) (part_end_lines a.how.holes t) more) [
        | inl lines ↦ in_reading a w from k p (suc (length p.rest)) mode begins there lines
        | inr last ↦ elim (among_cons a.line (totals_line t.lines.imports t.lines.calls) (ends_line (closing_in a.how.holes t.closing) ∷ if_any (warning_text t.leads)) last) [
          | inl same ↦ not_asked a (totals_line t.lines.imports t.lines.calls) (totals_apart t.lines.imports t.lines.calls) same
          | inr end ↦ elim (among_cons a.line (ends_line (closing_in a.how.holes t.closing)) (if_any (warning_text t.leads)) end) [
            | inl same ↦ not_asked a (ends_line (closing_in a.how.holes t.closing)) (ends_apart (closing_in a.how.holes t.closing)) same
            | inr warning ↦ no_warning a t.leads warning
          ]
        ]
      ]
    ]

in_part : (a : Asked) (w : Way) (from : Standing) (k : ℕ) (p : Standing) → (w.pickles ≡ a.pickles) × (is_in_text w.pickles w.frames ≡ true) → IsStart a.how a.pickles a.bytes from → stands w from k ≡ Some p → IsAmong a.line (lines_from a.how.holes w p) → Answer a
in_part a w from k p mode begins there h = go (search_from sought.Event w p) refl h
  where
    go : (x : Option Standing) → search_from sought.Event w p ≡ x → IsAmong a.line (part_lines a.how.holes w x) → Answer a
    go None is h = among_none a.line h
    go (Some q) is h =
        let s = search_stands sought.Event (suc (length p.rest)) w p q is in
        in_part_lines a w from (k + s.place) q mode begins (onward w from p k s.place there ∙ s.there) h

in_lost : (a : Asked) (w : Way) → (w.pickles ≡ a.pickles) × (is_in_text w.pickles w.frames ≡ true) → IsAmong a.line (lost_lines a.how w a.bytes) → Answer a
in_lost a w mode h = go (loss_at a.how.detail w a.bytes) refl h
  where
    first : Standing
    first = standing_first a.how.detail w.pickles a.bytes

    go : (x : Option Standing) → loss_at a.how.detail w a.bytes ≡ x → IsAmong a.line (lines_if a.how.holes w x) → Answer a
    go None is h = among_none a.line h
    go (Some q) is h =
        let s = search_stands sought.Lost (suc (length a.bytes)) w first q is in
        in_part a w first s.place q mode (inl (ap (λ (p : Pickles). standing_first a.how.detail p a.bytes) mode.0)) s.there h

-- ---- of a document

ignored_in_text : (p : Pickles) → is_in_text p frames.Ignored ≡ true
ignored_in_text pickles.All = refl
ignored_in_text pickles.First = refl
ignored_in_text pickles.OneMemo = refl

buffered_in_text : (p : Pickles) → is_in_text p frames.Buffered ≡ true
buffered_in_text pickles.All = refl
buffered_in_text pickles.First = refl
buffered_in_text pickles.OneMemo = refl

stands_here : (w : Way) (q : Standing) → stands w q 0 ≡ Some q
unfolding stands
stands_here w q = refl

item_found : (a : Asked) (d : Contents) (k : ℕ) → IsReadSo a.pickles d → ReadsAs (are_many a.pickles) a.bytes d → (x : Option Operation) (y z : Option State) → run (start d.many) (ops_of d) k ≡ y → run (start d.many) (ops_of d) (suc k) ≡ z
    → (entry_at a.how d k).text ≡ a.line → (entry_on for_people (in_file a.how.holes (offset_of d k)) (naming_at a.how.detail d k) x y z).text ≡ a.line → Answer a
item_found a d k r reads (Some o) (Some s) (Some t) from to e f =
    let q : Standing = standing_at a.how.detail d k s in
    let at = accepted_here a.how a.pickles d k s t r from to in
    let same : line_gone a.how.holes q (going (ignoring a.pickles) q) ≡ a.line = sym at.line ∙ e in
    record {
      way = ignoring a.pickles;
      from_here = q;
      place = 0;
      standing = q;
      pickles = refl;
      in_text = ignored_in_text a.pickles;
      begins = inr (d, k, s, reads, from, refl);
      stands = stands_here (ignoring a.pickles) q;
      line_is = same;
    }
item_found a d k r reads (Some o) (Some s) None from to e f = not_asked a [] (lacks_colon [] refl) f
item_found a d k r reads (Some o) None z from to e f = not_asked a [] (lacks_colon [] refl) f
item_found a d k r reads None y z from to e f = not_asked a [] (lacks_colon [] refl) f

item_at_place : (a : Asked) (d : Contents) (k : ℕ) → IsReadSo a.pickles d → ReadsAs (are_many a.pickles) a.bytes d → (entry_at a.how d k).text ≡ a.line → Answer a
unfolding entry_in
item_at_place a d k r reads e = item_found a d k r reads (item_at d k) (run (start d.many) (ops_of d) k) (run (start d.many) (ops_of d) (suc k)) refl refl e e

in_items : (a : Asked) (d : Contents) (n : ℕ) → IsReadSo a.pickles d → ReadsAs (are_many a.pickles) a.bytes d → IsAmong a.line (item_lines a.how d n) → Answer a
in_items a d zero r reads h = among_none a.line h
in_items a d (suc k) r reads h = elim (among_split a.line (item_lines a.how d k) (if_any (entry_at a.how d k).text) h) [
  | inl before ↦ in_items a d k r reads before
  | inr here ↦ item_at_place a d k r reads (among_if a.line (entry_at a.how d k).text here)
]

in_behind : (a : Asked) (d : Contents) (k : ℕ) (x : Option State) → ReadsAs (are_many a.pickles) a.bytes d → run (start d.many) (ops_of d) k ≡ x → IsAmong a.line (behind_lines a.how a.pickles d k x) → Answer a
in_behind a d k None reads is h = among_none a.line h
in_behind a d k (Some s) reads is h =
    let q : Standing = standing_at a.how.detail d k s in
    in_part a (ignoring a.pickles) q 0 q (refl, ignored_in_text a.pickles) (inr (d, k, s, reads, is, refl)) (stands_here (ignoring a.pickles) q) h

in_parts : (a : Asked) (d : Contents) (b : Bool) → ReadsAs (are_many a.pickles) a.bytes d
    → IsAmong a.line (if b then behind_lines a.how a.pickles d (calls_end d).place (run (start d.many) (ops_of d) (calls_end d).place) ++ (lost_lines a.how (buffering a.pickles) (document_bytes d) ++ mixed_lines a.how a.pickles (document_bytes d)) else [])
    → Answer a
in_parts a d false reads h = among_none a.line h
in_parts a d true reads h =
    let first : List (List ℕ) = behind_lines a.how a.pickles d (calls_end d).place (run (start d.many) (ops_of d) (calls_end d).place) in
    let lost : List (List ℕ) = lost_lines a.how (buffering a.pickles) (document_bytes d) in
    let mixed : List (List ℕ) = mixed_lines a.how a.pickles (document_bytes d) in
    elim (among_split a.line first (lost ++ mixed) h) [
      | inl behind ↦ in_behind a d (calls_end d).place (run (start d.many) (ops_of d) (calls_end d).place) reads refl behind
      | inr lossy ↦ elim (among_split a.line lost mixed lossy) [
        | inl more ↦ in_lost a (buffering a.pickles) (refl, buffered_in_text a.pickles) (subst (λ (l : List ℕ). IsAmong a.line (lost_lines a.how (buffering a.pickles) l)) reads.whole more)
        | inr last ↦ no_mixed a (first_mixed a.how.detail a.pickles (document_bytes d)) last
      ]
    ]

in_document : (a : Asked) (d : Contents) → IsReadSo a.pickles d → ReadsAs (are_many a.pickles) a.bytes d → IsAmong a.line (document_lines a.how a.pickles d) → Answer a
in_document a d r reads h =
    let e : CallsEnd = calls_end d in
    let items : List (List ℕ) = item_lines a.how d e.place in
    elim (among_split a.line (items ++ document_last a.how d) (parts_lines a.how a.pickles d e) h) [
      | inl lines ↦ elim (among_split a.line items (document_last a.how d) lines) [
        | inl item ↦ in_items a d e.place r reads item
        | inr last ↦ elim (among_split a.line (last_pieces a.how d e) (if_any (document_warnings d)) last) [
          | inl end ↦ no_last a (document_bytes d) (entries a.how d e.place).imports (entries a.how d e.place).calls (ending_in a.how.holes e.ending) end
          | inr warning ↦ no_warnings a d warning
        ]
      ]
      | inr parts ↦ in_parts a d (is_open e.ending) reads parts
    ]

-- ---- with one memo

in_memo : (a : Asked) → pickles.OneMemo ≡ a.pickles → IsAmong a.line (kept_lines a.how a.bytes) → Answer a
in_memo a mode h =
    let first : Standing = standing_first a.how.detail pickles.OneMemo a.bytes in
    let w : Way = ignoring pickles.OneMemo in
    let t : Tale = tale_of a.how.holes w first in
    let lossy : List (List ℕ) = kept_parts a.how a.bytes (first_loss a.how.detail a.bytes) in
    let mixed : List (List ℕ) = mixed_lines a.how pickles.OneMemo a.bytes in
    elim (among_split a.line (kept_first a.how first ++ kept_last a.how a.bytes t) (lossy ++ mixed) h) [
      | inl lines ↦ elim (among_split a.line (kept_first a.how first) (kept_last a.how a.bytes t) lines) [
        | inl items ↦ in_reading a w first 0 first (suc (length a.bytes)) (mode, refl) (inl (ap (λ (p : Pickles). standing_first a.how.detail p a.bytes) mode)) (stands_here w first) items
        | inr last ↦ elim (among_split a.line (kept_closing a.how a.bytes t) (if_any (warning_text t.leads)) last) [
          | inl end ↦ no_last a a.bytes t.lines.imports t.lines.calls (ending_in a.how.holes (ending.Closed 0 t.closing)) end
          | inr warning ↦ no_warning a t.leads warning
        ]
      ]
      | inr parts ↦ elim (among_split a.line lossy mixed parts) [
        | inl some ↦ go (first_loss a.how.detail a.bytes) some
        | inr last ↦ no_mixed a (first_mixed a.how.detail pickles.OneMemo a.bytes) last
      ]
    ]
  where
    go : (x : Option ℕ) → IsAmong a.line (kept_parts a.how a.bytes x) → Answer a
    go None h = among_none a.line h
    go (Some n) h =
        let left : List (List ℕ) = lost_lines a.how (buffering pickles.OneMemo) a.bytes in
        let held : List (List ℕ) = lost_lines a.how (holding pickles.OneMemo) a.bytes in
        elim (among_cons a.line (loss_line (in_file a.how.holes n)) (left ++ held) h) [
          | inl same ↦ not_asked a (loss_line (in_file a.how.holes n)) (loss_apart (in_file a.how.holes n)) same
          | inr more ↦ elim (among_split a.line left held more) [
            | inl one ↦ in_lost a (buffering pickles.OneMemo) (mode, refl) one
            | inr two ↦ in_lost a (holding pickles.OneMemo) (mode, refl) two
          ]
        ]

pub no_other : (how : Manner) (p : Pickles) (bytes : List ℕ) (o : Output) → IsCallsText how p bytes o → length bytes < 2 ^ 64
    → (line : List ℕ) → IsAmong line (cut_lines o.text) → BeginsWithOffset line → IsOfItem how p bytes line
no_other how pickles.OneMemo bytes o text small line h b =
    in_memo (record { how = how; pickles = pickles.OneMemo; bytes = bytes; line = line; begins = b }) refl
    (subst (IsAmong line) (whole_text_is_its_lines how pickles.OneMemo bytes o text) h)
no_other how pickles.First bytes o text small line h b =
    let x = whole_text_is_its_lines how pickles.First bytes o text in
    in_document (record { how = how; pickles = pickles.First; bytes = bytes; line = line; begins = b }) x.0
    (read_so pickles.First bytes x.0 x.1 small refl) x.1 (subst (IsAmong line) x.2 h)
no_other how pickles.All bytes o text small line h b =
    let x = whole_text_is_its_lines how pickles.All bytes o text in
    in_document (record { how = how; pickles = pickles.All; bytes = bytes; line = line; begins = b }) x.0
    (read_so pickles.All bytes x.0 x.1 small refl) x.1 (subst (IsAmong line) x.2 h)

pub event_lines_apart : EventLinesApart
event_lines_apart = record {
  event = event_begins;
  begins = begins_apart;
  totals = totals_apart;
  kept = kept_apart;
  closing = closing_apart;
  unsure = unsure_apart;
  loss = loss_apart;
  warning = warning_apart;
  warnings = warnings_apart;
  mixed = mixed_apart;
  heading = heading_apart;
  ends = ends_apart;
  other = no_other;
}
