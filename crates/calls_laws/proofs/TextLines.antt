-- A text is its lines.
use Rattle.std.proofs.Common.{◌≡◌, ◌⊎◌, ℕ, zero, suc, ◌==◌, Bool, true, false, List, [], ◌∷◌, ◌++◌, Option, Some, None, refl, sym, ap, ◌∙◌, inl, inr, append_assoc}
use Rattle.std.specs.Prelude.{◌&&◌, not, codes, decimal, if◌then◌else◌}
use Rattle.std.specs.Option.{option_map_or}
use Rattle.std.proofs.lemmas.List.{append-nil}
use Rattle.pickle_io.specs.Text.{◌⧺◌}
use Rattle.pickle_ops.specs.declared.fault.FrontFault.TheVariants as at_front
use Rattle.pickle_ops.specs.Object.{Object}
use Rattle.pickle_ops.specs.Spelling.{Operation}
use Rattle.pickle_ops.specs.Row.{row_of}
use Rattle.pickle_doc.specs.declared.fault.TailFault.{TailFault}
use Rattle.pickle_doc.specs.declared.fault.TailFault.TheVariants as tail
use Rattle.pickle_doc.specs.Document.{Contents, document_bytes}
use Rattle.pickle_doc.specs.Place.{ops_of, item_at, offset_of}
use Rattle.pickle_machine.specs.declared.refusal.Refusal.{Refusal}
use Rattle.pickle_machine.specs.declared.refusal.Refusal.TheVariants as refusal
use Rattle.pickle_machine.specs.State.{State, start}
use Rattle.pickle_machine.specs.Move.{fresh}
use Rattle.pickle_machine.specs.Run.{run}
use Rattle.pickle_text.specs.Column.{right_aligned, newline}
use Rattle.pickle_text.specs.declared.closing.Closing.{Closing}
use Rattle.pickle_text.specs.declared.closing.Closing.TheVariants as closing
use Rattle.pickle_calls.specs.declared.end.Ending.{Ending}
use Rattle.pickle_calls.specs.declared.end.Ending.TheVariants as ending
use Rattle.pickle_calls.specs.declared.event.Event.{Event}
use Rattle.pickle_calls.specs.Event.{before_of, event_of}
use Rattle.pickle_io.specs.Holes.{in_file}
use Rattle.pickle_calls.specs.Manner.{Manner, ending_in}
use Rattle.pickle_calls.specs.declared.naming.Naming.{Naming}
use Rattle.pickle_calls.specs.declared.begins.TheConstants.{CONTAINERS}
use Rattle.pickle_calls.specs.Begins.{is_like, begins_by, begins_like, begins_words, begins_line, begins_text}
use Rattle.pickle_text.specs.ReportLine.{refusal_words, refusal_number, refusal_text, item_text, item_refused, tail_words, fault_byte, fault_text, fault_at, fault_line}
use Rattle.pickle_text.specs.Closing.{refused_item_line, closing_line, kept_words, kept_text, kept_line}
use Rattle.pickle_calls.specs.CallsLine.{event_text, event_line, line_of, totals_line, unsure_words, unsure_line, ending_lines, calls_end_text}
use Rattle.pickle_calls.specs.Telling.{for_people}
use Rattle.pickle_calls.specs.Calls.{CallsEnd, naming_at, entry_on, entry_at, entries, calls, calls_end, entry_in, entries_in, calls_in}
use Rattle.calls_laws.specs.LineLaws.{is_within_line, before_first, cut_lines, if_any, item_lines, ending_pieces, TextIsItsLines}
use Rattle.calls_laws.proofs.LinesApart.{first_of, rest_of}
use Rattle.pickle_calls.proofs.Walking.{text-suc}
use Rattle.calls_laws.proofs.WithinLines.{Stays, then_stays, decimal_stays, signed_stays, hexadecimal_stays, right_stays, event_stays}

-- ---- one line

-- a text within a line, and its newline
pub record IsLine (text : List ℕ) : Type 0 where
  pub body : List ℕ
  pub stays : Stays body
  pub is : text ≡ body ++ 10 ∷ []

pub line_of_body : (body : List ℕ) → Stays body → IsLine (body ⧺ newline)
unfolding ◌⧺◌
line_of_body body p = record { body = body; stays = p; is = refl }

not_ten : (b : Bool) → not b ≡ true → b ≡ false
not_ten false e = refl
not_ten true e = absurd cc

cut_body : (body rest : List ℕ) → Stays body → cut_lines (body ++ (10 ∷ rest)) ≡ (body ++ 10 ∷ []) ∷ cut_lines rest
unfolding cut_lines
cut_body [] rest p = refl
cut_body (b ∷ body) rest p =
    let plain : (b == 10) ≡ false = not_ten (b == 10) (first_of (not (b == 10)) (is_within_line body) p) in
    let ind = cut_body body rest (rest_of (not (b == 10)) (is_within_line body) p) in
    ap (λ (c : Bool). if c then (b ∷ []) ∷ cut_lines (body ++ (10 ∷ rest)) else before_first b (cut_lines (body ++ (10 ∷ rest)))) plain ∙ ap (before_first b) ind

pub cut_line : (text rest : List ℕ) → IsLine text → cut_lines (text ++ rest) ≡ text ∷ cut_lines rest
cut_line text rest l =
    ap (λ (t : List ℕ). cut_lines (t ++ rest)) l.is ∙ ap cut_lines (append_assoc l.body (10 ∷ []) rest) ∙ cut_body l.body rest l.stays
    ∙ ap (λ (t : List ℕ). t ∷ cut_lines rest) (sym l.is)

pub any_line : (text : List ℕ) → IsLine text → if_any text ≡ text ∷ []
any_line text l = ap if_any l.is ∙ go l.body ∙ ap (λ (t : List ℕ). t ∷ []) (sym l.is)
  where
    go : (body : List ℕ) → if_any (body ++ 10 ∷ []) ≡ (body ++ 10 ∷ []) ∷ []
    go [] = refl
    go (b ∷ body) = refl

-- ---- a line or nothing

abbrev pub HasLine : List ℕ → Type 0
HasLine text = (text ≡ []) ⊎ (IsLine text)

pub cut_any : (text rest : List ℕ) → HasLine text → cut_lines (text ++ rest) ≡ if_any text ++ cut_lines rest
cut_any text rest h = elim h [
  | inl none ↦ ap (λ (t : List ℕ). cut_lines (t ++ rest)) none ∙ ap (λ (t : List ℕ). if_any t ++ cut_lines rest) (sym none)
  | inr line ↦ cut_line text rest line ∙ ap (λ (ls : List (List ℕ)). ls ++ cut_lines rest) (sym (any_line text line))
]

-- ---- items

pub event_is_line : (offset : ℕ) (m : Naming) (heap : List Object) (e : Event) → IsLine (event_line offset m heap e)
unfolding event_line
event_is_line offset m heap e =
    line_of_body (right_aligned 5 (decimal offset) ⧺ codes ": " ⧺ event_text m heap e)
    (then_stays (right_aligned 5 (decimal offset) ⧺ codes ": ") (event_text m heap e)
    (then_stays (right_aligned 5 (decimal offset)) (codes ": ") (right_stays 5 (decimal offset) (decimal_stays offset)) refl) (event_stays m heap e))

pub line_has : (offset : ℕ) (m : Naming) (heap : List Object) (e : Option Event) → HasLine (line_of offset m heap e)
line_has offset m heap None = inl refl
line_has offset m heap (Some e) = inr (event_is_line offset m heap e)

pub entry_has : (how : Manner) (d : Contents) (k : ℕ) → HasLine (entry_at how d k).text
unfolding entry_in
entry_has how d k = go (item_at d k) (run (start d.many) (ops_of d) k) (run (start d.many) (ops_of d) (suc k))
  where
    go : (x : Option Operation) (y z : Option State) → HasLine (entry_on for_people (in_file how.holes (offset_of d k)) (naming_at how.detail d k) x y z).text
    go (Some o) (Some s) (Some t) = line_has (in_file how.holes (offset_of d k)) (naming_at how.detail d k) t.heap (event_of (row_of o) (before_of (fresh s)) t)
    go (Some o) (Some s) None = inl refl
    go (Some o) None z = inl refl
    go None y z = inl refl

entries-none : (how : Manner) (d : Contents) → (entries how d 0).text ≡ []
unfolding entries_in
entries-none how d = refl

cut_entries : (how : Manner) (d : Contents) (n : ℕ) (rest : List ℕ) → cut_lines ((entries how d n).text ++ rest) ≡ item_lines how d n ++ cut_lines rest
cut_entries how d zero rest = ap (λ (t : List ℕ). cut_lines (t ++ rest)) (entries-none how d)
cut_entries how d (suc k) rest =
    let e : List ℕ = (entry_at how d k).text in
    ap (λ (t : List ℕ). cut_lines (t ++ rest)) (text-suc for_people how d k) ∙ ap cut_lines (append_assoc (entries how d k).text e rest) ∙ cut_entries how d k (e ++ rest)
    ∙ ap (λ (ls : List (List ℕ)). item_lines how d k ++ ls) (cut_any e rest (entry_has how d k)) ∙ sym (append_assoc (item_lines how d k) (if_any e) (cut_lines rest))

-- ---- the last lines

words_stay : (r : Refusal) → Stays (refusal_words r) × Stays (refusal_number r)
unfolding refusal_words refusal_number
words_stay refusal.NoMark = (refl, refl)
words_stay refusal.Underflow = (refl, refl)
words_stay (refusal.NoMemoEntry key) = (refl, decimal_stays key)
words_stay refusal.OddItems = (refl, refl)
words_stay (refusal.WrongKind id) = (refl, decimal_stays id)
words_stay (refusal.BadProtocol n) = (refl, decimal_stays n)
words_stay (refusal.BadExtension n) = (refl, signed_stays n)
words_stay (refusal.NotText id) = (refl, decimal_stays id)
words_stay (refusal.NotCallable id) = (refl, decimal_stays id)
words_stay (refusal.NotArguments id) = (refl, decimal_stays id)
words_stay (refusal.NotKeywords id) = (refl, decimal_stays id)
words_stay refusal.Memory = (refl, refl)

refusal_stays : (r : Refusal) → Stays (refusal_text r)
unfolding refusal_text
refusal_stays r = then_stays (refusal_words r) (refusal_number r) (words_stay r).0 (words_stay r).1

item_stays : (place : ℕ) (r : Refusal) → Stays (item_refused place r)
unfolding item_refused item_text
item_stays place r =
    then_stays (codes "item ") (decimal place ⧺ codes ": " ⧺ refusal_text r) refl
    (then_stays (decimal place ⧺ codes ": ") (refusal_text r) (then_stays (decimal place) (codes ": ") (decimal_stays place) refl) (refusal_stays r))

pub refused_is_line : (place : ℕ) (r : Refusal) → IsLine (refused_item_line place r)
unfolding refused_item_line
refused_is_line place r = line_of_body (codes "refused: " ⧺ item_refused place r) (then_stays (codes "refused: ") (item_refused place r) refl (item_stays place r))

tail_stays : (f : TailFault) → Stays (tail_words f) × Stays (fault_byte f)
unfolding tail_words fault_byte
tail_stays (tail.Front (at_front.UnknownOpcode byte)) = (refl, hexadecimal_stays (byte ∷ []))
tail_stays (tail.Front at_front.Ended) = (refl, refl)
tail_stays (tail.Front at_front.Truncated) = (refl, refl)
tail_stays (tail.Front at_front.NegativeLength) = (refl, refl)
tail_stays (tail.Front at_front.BadArgument) = (refl, refl)
tail_stays tail.FrameInFrame = (refl, refl)
tail_stays tail.FramePastEnd = (refl, refl)
tail_stays tail.FrameCrossed = (refl, refl)

fault_stays : (f : TailFault) (offset : ℕ) → Stays (fault_at f offset)
unfolding fault_at fault_text
fault_stays f offset =
    then_stays (tail_words f ⧺ fault_byte f ⧺ codes " at ") (decimal offset)
    (then_stays (tail_words f ⧺ fault_byte f) (codes " at ") (then_stays (tail_words f) (fault_byte f) (tail_stays f).0 (tail_stays f).1) refl) (decimal_stays offset)

pub fault_is_line : (f : TailFault) (offset : ℕ) → IsLine (fault_line f offset)
unfolding fault_line
fault_is_line f offset = line_of_body (codes "fault: " ⧺ fault_at f offset) (then_stays (codes "fault: ") (fault_at f offset) refl (fault_stays f offset))

pub closing_has : (c : Closing) → HasLine (closing_line c)
unfolding closing_line
closing_has closing.Stopped = inl refl
closing_has (closing.Refused place r) = inr (refused_is_line place r)
closing_has (closing.Fault f offset) = inr (fault_is_line f offset)

kept_is_line : (count : ℕ) → IsLine (kept_text count)
unfolding kept_text kept_words
kept_is_line count =
    line_of_body (codes "kept: " ⧺ decimal count ⧺ codes " bytes after STOP")
    (then_stays (codes "kept: " ⧺ decimal count) (codes " bytes after STOP") (then_stays (codes "kept: ") (decimal count) refl (decimal_stays count)) refl)

pub kept_has : (count : ℕ) → HasLine (kept_line count)
unfolding kept_line
kept_has count = go (count == 0)
  where
    go : (b : Bool) → HasLine (if b then [] else kept_text count)
    go true = inl refl
    go false = inr (kept_is_line count)

pub totals_is_line : (imports calls : ℕ) → IsLine (totals_line imports calls)
unfolding totals_line
totals_is_line imports calls =
    line_of_body (decimal imports ⧺ codes " imports, " ⧺ decimal calls ⧺ codes " calls")
    (then_stays (decimal imports ⧺ codes " imports, " ⧺ decimal calls) (codes " calls")
    (then_stays (decimal imports ⧺ codes " imports, ") (decimal calls) (then_stays (decimal imports) (codes " imports, ") (decimal_stays imports) refl) (decimal_stays calls)) refl)

pub unsure_is_line : (offset : ℕ) → IsLine (unsure_line offset)
unfolding unsure_line unsure_words
unsure_is_line offset = line_of_body (unsure_words ⧺ decimal offset) (then_stays unsure_words (decimal offset) refl (decimal_stays offset))

-- the names of all rows
abbrev all_stay : {R : Type 0} → (R → List ℕ) → List R → Bool
all_stay name [] = true
all_stay name (r ∷ rows) = is_within_line (name r) && all_stay name rows

both : (a b : Bool) → (a && b) ≡ true → (a ≡ true) × (b ≡ true)
both true b p = (refl, p)
both false b p = absurd cc

begins_is_line : (name : List ℕ) → Stays name → IsLine (begins_line name)
unfolding begins_line begins_words
begins_is_line name p =
    line_of_body (codes "begins like " ⧺ name ⧺ begins_words) (then_stays (codes "begins like " ⧺ name) begins_words (then_stays (codes "begins like ") name refl p) refl)

-- the first row that is so, or those behind it
row_has : (name : List ℕ) (found : Option (List ℕ)) (b : Bool) → Stays name → HasLine (option_map_or begins_line found []) → HasLine (option_map_or begins_line (if b then Some name else found) [])
row_has name found true p h = inr (begins_is_line name p)
row_has name found false p h = h

rows_have : {R : Type 0} (bytes : List ℕ) (offset : R → ℕ) (magic name : R → List ℕ) (rows : List R) → all_stay name rows ≡ true → HasLine (option_map_or begins_line (begins_by offset magic name rows bytes) [])
rows_have bytes offset magic name [] p = inl refl
rows_have bytes offset magic name (r ∷ rows) p =
    let stay = both (is_within_line (name r)) (all_stay name rows) p in
    row_has (name r) (begins_by offset magic name rows bytes) (is_like (offset r) (magic r) bytes) stay.0 (rows_have bytes offset magic name rows stay.1)

pub begins_has : (bytes : List ℕ) → HasLine (begins_text bytes)
unfolding begins_like
begins_has bytes = rows_have bytes (λ r. r.0) (λ r. r.1.now) (λ r. r.2.now) CONTAINERS refl

pub cut_last : (text : List ℕ) → HasLine text → cut_lines text ≡ if_any text
unfolding cut_lines
cut_last text h = ap cut_lines (sym (append-nil text)) ∙ cut_any text [] h ∙ append-nil (if_any text)

cut_ending : (e : Ending) → cut_lines (ending_lines e) ≡ ending_pieces e
unfolding ending_lines ◌⧺◌
cut_ending (ending.Closed kept c) = cut_any (kept_line kept) (closing_line c) (kept_has kept) ∙ ap (λ (ls : List (List ℕ)). if_any (kept_line kept) ++ ls) (cut_last (closing_line c) (closing_has c))
cut_ending (ending.Unsure offset) = cut_last (unsure_line offset) (inr (unsure_is_line offset)) ∙ any_line (unsure_line offset) (unsure_is_line offset)

pub end_text : (bytes : List ℕ) (imports calls : ℕ) (e : Ending) → calls_end_text bytes imports calls e ≡ begins_text bytes ++ (totals_line imports calls ++ ending_lines e)
unfolding calls_end_text ◌⧺◌
end_text bytes imports calls e = append_assoc (begins_text bytes) (totals_line imports calls) (ending_lines e)

pub cut_end : (bytes : List ℕ) (imports calls : ℕ) (e : Ending) → cut_lines (calls_end_text bytes imports calls e) ≡ if_any (begins_text bytes) ++ (totals_line imports calls ∷ ending_pieces e)
cut_end bytes imports calls e =
    ap cut_lines (end_text bytes imports calls e) ∙ cut_any (begins_text bytes) (totals_line imports calls ++ ending_lines e) (begins_has bytes)
    ∙ ap (λ (ls : List (List ℕ)). if_any (begins_text bytes) ++ ls)
    (cut_line (totals_line imports calls) (ending_lines e) (totals_is_line imports calls) ∙ ap (λ (ls : List (List ℕ)). totals_line imports calls ∷ ls) (cut_ending e))

pub calls_text : (how : Manner) (d : Contents) → (calls how d).text ≡ (entries how d (calls_end d).place).text ++ calls_end_text (document_bytes d) (entries how d (calls_end d).place).imports (entries how d (calls_end d).place).calls (ending_in how.holes (calls_end d).ending)
unfolding calls_in ◌⧺◌
calls_text how d = refl

pub text_is_its_lines : TextIsItsLines
text_is_its_lines how d =
    let e : CallsEnd = calls_end d in
    let last : List ℕ = calls_end_text (document_bytes d) (entries how d e.place).imports (entries how d e.place).calls (ending_in how.holes e.ending) in
    ap cut_lines (calls_text how d) ∙ cut_entries how d e.place last
    ∙ ap (λ (ls : List (List ℕ)). item_lines how d e.place ++ ls) (cut_end (document_bytes d) (entries how d e.place).imports (entries how d e.place).calls (ending_in how.holes e.ending))
