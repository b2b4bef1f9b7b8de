-- The whole text is its lines.
use Rattle.std.proofs.Common.{◌≡◌, ◌⊎◌, ℕ, zero, suc, ◌==◌, Bool, true, false, List, [], ◌∷◌, ◌++◌, length, Option, Some, None, refl, sym, ap, ap₂, subst, ◌∙◌, inl, inr, append_assoc}
use Rattle.std.specs.Prelude.{is_some, codes, decimal, if◌then◌else◌}
use Rattle.std.specs.Option.{option_map_or}
use Rattle.std.proofs.lemmas.List.{append-nil}
use Rattle.pickle_io.specs.Text.{◌⧺◌}
use Rattle.pickle_doc.specs.Document.{Contents, document_bytes}
use Rattle.pickle_doc.specs.Place.{ops_of}
use Rattle.pickle_machine.specs.State.{State, start}
use Rattle.pickle_machine.specs.Run.{run}
use Rattle.pickle_io.specs.declared.hole.Hole.{Hole}
use Rattle.pickle_io.specs.Holes.{in_file}
use Rattle.pickle_lenient.specs.declared.taken.Frames.{Frames}
use Rattle.pickle_lenient.specs.declared.taken.Frames.TheVariants as frames
use Rattle.pickle_text.specs.declared.closing.Closing.{Closing}
use Rattle.pickle_text.specs.declared.closing.Closing.TheVariants as closing
use Rattle.pickle_calls.specs.declared.end.Ending.{Ending}
use Rattle.pickle_calls.specs.declared.end.Ending.TheVariants as ending
use Rattle.pickle_calls.specs.Begins.{begins_text}
use Rattle.pickle_text.specs.Closing.{closing_line, kept_line}
use Rattle.pickle_calls.specs.Manner.{Manner, closing_in, ending_in}
use Rattle.pickle_text.specs.Output.{Output}
use Rattle.pickle_calls.specs.CallsLine.{totals_line, unsure_line, ending_lines, calls_end_text}
use Rattle.pickle_calls.specs.Telling.{for_people}
use Rattle.pickle_calls.specs.Calls.{CallsEnd, entry_at, entries, calls, calls_end, entries_in}
use Rattle.pickle_text.specs.Words.{id_text}
use Rattle.calls_laws.specs.LineLaws.{before_first, cut_lines, if_any, item_lines, last_pieces}
use Rattle.pickle_calls.proofs.Walking.{text-suc}
use Rattle.calls_laws.proofs.WithinLines.{Stays, then_stays, decimal_stays, id_stays}
use Rattle.calls_laws.proofs.TextLines.{IsLine, HasLine, line_of_body, cut_line, any_line, cut_any, cut_last, cut_end, calls_text, end_text, line_has, entry_has, totals_is_line, refused_is_line, fault_is_line, closing_has, kept_has, unsure_is_line, begins_has, text_is_its_lines}
use Rattle.pickle_further.specs.declared.seek.Sought.TheVariants as sought
use Rattle.pickle_further.specs.declared.way.Pickles.{Pickles}
use Rattle.pickle_further.specs.declared.way.Pickles.TheVariants as pickles
use Rattle.pickle_further.specs.declared.way.Way.{Way}
use Rattle.pickle_further.specs.Going.{Standing, Going, going, stands_after, Tale, tale_over, tale, tale_of, search_from, tale_in}
use Rattle.pickle_further.specs.Parts.{stop_words, stop_line, ends_line, part_end, ignored_words, buffered_words, held_words, header, part_text, text_from, ignoring, buffering, holding, standing_at, standing_first, behind_at, found_text, loss_at, lost_by, first_mixed, mixed_words, mixed_line, mixed_text, lost_text, is_open, parts, loss_words, loss_line, tale_text_in, text_from_in, parts_in}
use Rattle.pickle_further.specs.Leads.{warning_words, leads_words, warning_line, warning_text}
use Rattle.pickle_further.specs.Deep.{deep_words, deep_line, warnings_text}
use Rattle.pickle_further.specs.CallsText.{document_leads, document_deep, document_warnings, document_calls, first_loss, losses_text, kept_behind, kept_calls, loss_text_in, kept_calls_in}
use Rattle.pickle_loader.specs.Onward.{stands_behind, stands}
use Rattle.pickle_loader.specs.Text.{line_gone, line_on, lines_before, part_lines, lines_from, lines_if, behind_lines, lost_lines, mixed_lines, parts_lines, document_lines, kept_first, kept_closing, kept_parts, kept_lines, WholeTextIsItsLines}
use Rattle.pickle_loader.proofs.Losses.{shifted, over}

-- ---- texts that end with a newline

abbrev EndsLine : List ℕ → Type 0
EndsLine text = (text ≡ []) ⊎ ((body : List ℕ) × (text ≡ body ++ 10 ∷ []))

has_ends : (text : List ℕ) → HasLine text → EndsLine text
has_ends text h = elim h [
  | inl none ↦ inl none
  | inr line ↦ inr (line.body, line.is)
]

line_ends : (text : List ℕ) → IsLine text → EndsLine text
line_ends text l = inr (l.body, l.is)

both_end : (a b : List ℕ) → EndsLine a → EndsLine b → EndsLine (a ++ b)
both_end a b p q = elim q [
  | inl none ↦ subst EndsLine (sym (append-nil a) ∙ ap (λ (t : List ℕ). a ++ t) (sym none)) p
  | inr (body, e) ↦ inr (a ++ body, ap (λ (t : List ℕ). a ++ t) e ∙ sym (append_assoc a body (10 ∷ [])))
]

-- there is a first line
some_line : (body : List ℕ) → (l : List ℕ) × (ls : List (List ℕ)) × (cut_lines (body ++ 10 ∷ []) ≡ l ∷ ls)
unfolding cut_lines
some_line [] = (10 ∷ [], [], refl)
some_line (b ∷ body) = go (b == 10) (some_line body)
  where
    go : (c : Bool) → (l : List ℕ) × (ls : List (List ℕ)) × (cut_lines (body ++ 10 ∷ []) ≡ l ∷ ls)
        → (l : List ℕ) × (ls : List (List ℕ)) × ((if c then (b ∷ []) ∷ cut_lines (body ++ 10 ∷ []) else before_first b (cut_lines (body ++ 10 ∷ []))) ≡ l ∷ ls)
    go true s = (b ∷ [], cut_lines (body ++ 10 ∷ []), refl)
    go false s = (b ∷ s.0, s.1, ap (before_first b) s.2)

joined_body : (body rest : List ℕ) → cut_lines ((body ++ 10 ∷ []) ++ rest) ≡ cut_lines (body ++ 10 ∷ []) ++ cut_lines rest
unfolding cut_lines
joined_body [] rest = refl
joined_body (b ∷ body) rest = go (b == 10) (joined_body body rest)
  where
    go : (c : Bool) → cut_lines ((body ++ 10 ∷ []) ++ rest) ≡ cut_lines (body ++ 10 ∷ []) ++ cut_lines rest
        → (if c then (b ∷ []) ∷ cut_lines ((body ++ 10 ∷ []) ++ rest) else before_first b (cut_lines ((body ++ 10 ∷ []) ++ rest)))
        ≡ (if c then (b ∷ []) ∷ cut_lines (body ++ 10 ∷ []) else before_first b (cut_lines (body ++ 10 ∷ []))) ++ cut_lines rest
    go true same = ap (λ (ls : List (List ℕ)). (b ∷ []) ∷ ls) same
    go false same =
        let s = some_line body in
        ap (before_first b) (same ∙ ap (λ (ls : List (List ℕ)). ls ++ cut_lines rest) s.2) ∙ ap (λ (ls : List (List ℕ)). before_first b ls ++ cut_lines rest) (sym s.2)

-- a text is cut behind what ends with a newline
cut_join : (text rest : List ℕ) → EndsLine text → cut_lines (text ++ rest) ≡ cut_lines text ++ cut_lines rest
unfolding cut_lines
cut_join text rest h = elim h [
  | inl none ↦ ap (λ (t : List ℕ). cut_lines (t ++ rest)) none ∙ ap (λ (t : List ℕ). cut_lines t ++ cut_lines rest) (sym none)
  | inr (body, e) ↦ ap (λ (t : List ℕ). cut_lines (t ++ rest)) e ∙ joined_body body rest ∙ ap (λ (t : List ℕ). cut_lines t ++ cut_lines rest) (sym e)
]

cut_nothing : cut_lines [] ≡ []
unfolding cut_lines
cut_nothing = refl

cut_one : (text : List ℕ) → IsLine text → cut_lines text ≡ text ∷ []
cut_one text l = cut_last text (inr l) ∙ any_line text l

-- ---- the lines of a reading

item_has : (holes : List Hole) (p : Standing) (g : Going) → HasLine (line_gone holes p g)
item_has holes p g = line_has (in_file holes p.at.offset) p.naming g.state.heap g.gone.event

-- behind the first item
abbrev pub rest_lines : List Hole → Way → Option Standing → ℕ → List (List ℕ)
rest_lines holes w None n = []
rest_lines holes w (Some r) n = lines_before holes w r n

pub lines_front : (holes : List Hole) (w : Way) (p : Standing) (n : ℕ) (x : Option Standing) → stands_behind p (going w p) ≡ x → lines_before holes w p (suc n) ≡ line_on holes w (Some p) ++ rest_lines holes w x n
unfolding lines_before stands
lines_front holes w p zero None e = sym (append-nil (line_on holes w (Some p)))
lines_front holes w p zero (Some r) e = sym (append-nil (line_on holes w (Some p)))
lines_front holes w p (suc n) None e =
    ap₂ (λ (ls : List (List ℕ)) (y : Option Standing). ls ++ line_on holes w y) (lines_front holes w p n None e) (over w p n e) ∙ append-nil (line_on holes w (Some p) ++ [])
lines_front holes w p (suc n) (Some r) e =
    ap₂ (λ (ls : List (List ℕ)) (y : Option Standing). ls ++ line_on holes w y) (lines_front holes w p n (Some r) e) (shifted w p r n e)
    ∙ append_assoc (line_on holes w (Some p)) (lines_before holes w r n) (line_on holes w (stands w r n))

tale_suc : (holes : List Hole) (n : ℕ) (w : Way) (p : Standing) (c : Option Closing) → (going w p).gone.closing ≡ c
    → (tale holes (suc n) w p).lines.text ≡ line_gone holes p (going w p) ++ (option_map_or tale_over c (tale holes n w (stands_after p (going w p)))).lines.text
unfolding tale_in ◌⧺◌
tale_suc holes n w p c e = ap (λ (x : Option Closing). line_gone holes p (going w p) ++ (option_map_or tale_over x (tale holes n w (stands_after p (going w p)))).lines.text) e

cut_suc : (holes : List Hole) (n : ℕ) (w : Way) (p : Standing) (c : Option Closing) → (going w p).gone.closing ≡ c
    → cut_lines (tale holes n w (stands_after p (going w p))).lines.text ≡ lines_before holes w (stands_after p (going w p)) n → cut_lines (tale holes (suc n) w p).lines.text ≡ lines_before holes w p (suc n)
cut_suc holes n w p None e ind =
    let line : List ℕ = line_gone holes p (going w p) in
    let r : Standing = stands_after p (going w p) in
    ap cut_lines (tale_suc holes n w p None e) ∙ cut_any line (tale holes n w r).lines.text (item_has holes p (going w p)) ∙ ap (λ (ls : List (List ℕ)). if_any line ++ ls) ind
    ∙ sym (lines_front holes w p n (Some r) (ap (λ (x : Option Closing). if is_some x then None else Some r) e))
cut_suc holes n w p (Some c) e ind =
    let line : List ℕ = line_gone holes p (going w p) in
    ap cut_lines (tale_suc holes n w p (Some c) e) ∙ cut_any line [] (item_has holes p (going w p)) ∙ ap (λ (ls : List (List ℕ)). if_any line ++ ls) cut_nothing
    ∙ sym (lines_front holes w p n None (ap (λ (x : Option Closing). if is_some x then None else Some (stands_after p (going w p))) e))

cut_tale : (holes : List Hole) (n : ℕ) (w : Way) (p : Standing) → cut_lines (tale holes n w p).lines.text ≡ lines_before holes w p n
unfolding tale_in lines_before cut_lines
cut_tale holes zero w p = refl
cut_tale holes (suc n) w p = cut_suc holes n w p (going w p).gone.closing refl (cut_tale holes n w (stands_after p (going w p)))

suc_ends : (holes : List Hole) (n : ℕ) (w : Way) (p : Standing) (c : Option Closing) → (going w p).gone.closing ≡ c → EndsLine (tale holes n w (stands_after p (going w p))).lines.text → EndsLine (tale holes (suc n) w p).lines.text
suc_ends holes n w p None e ind =
    subst EndsLine (sym (tale_suc holes n w p None e))
    (both_end (line_gone holes p (going w p)) (tale holes n w (stands_after p (going w p))).lines.text (has_ends (line_gone holes p (going w p)) (item_has holes p (going w p))) ind)
suc_ends holes n w p (Some c) e ind =
    subst EndsLine (sym (tale_suc holes n w p (Some c) e)) (both_end (line_gone holes p (going w p)) [] (has_ends (line_gone holes p (going w p)) (item_has holes p (going w p))) (inl refl))

tale_ends : (holes : List Hole) (n : ℕ) (w : Way) (p : Standing) → EndsLine (tale holes n w p).lines.text
unfolding tale_in
tale_ends holes zero w p = inl refl
tale_ends holes (suc n) w p = suc_ends holes n w p (going w p).gone.closing refl (tale_ends holes n w (stands_after p (going w p)))

-- ---- the lines of a part

behind_words : (words text : List ℕ) → Stays words → IsLine text → IsLine (words ⧺ text)
unfolding ◌⧺◌
behind_words words text p l = record {
  body = words ++ l.body;
  stays = then_stays words l.body p l.stays;
  is = ap (λ (t : List ℕ). words ++ t) l.is ∙ sym (append_assoc words l.body (10 ∷ []));
}

ends_is_line : (c : Closing) → IsLine (ends_line c)
unfolding ends_line stop_line stop_words closing_line
ends_is_line closing.Stopped = line_of_body (codes "it ends: STOP") refl
ends_is_line (closing.Refused place r) = behind_words (codes "it ends: ") (closing_line (closing.Refused place r)) refl (refused_is_line place r)
ends_is_line (closing.Fault f offset) = behind_words (codes "it ends: ") (closing_line (closing.Fault f offset)) refl (fault_is_line f offset)

header_is_line : (f : Frames) → IsLine (header f)
unfolding header ignored_words buffered_words held_words
header_is_line frames.Ignored = line_of_body (codes "a loader may go on:") refl
header_is_line frames.Buffered = line_of_body (codes "a loader that buffers frames may go on:") refl
header_is_line frames.Held = line_of_body (codes "a loader that keeps its buffer may go on:") refl

warning_is_line : (id : ℕ) → IsLine (warning_line id)
unfolding warning_line warning_words leads_words
warning_is_line id =
    line_of_body (codes "warning: " ⧺ id_text id ⧺ codes " leads to the unpickler")
    (then_stays (codes "warning: " ⧺ id_text id) (codes " leads to the unpickler") (then_stays (codes "warning: ") (id_text id) refl (id_stays id)) refl)

warning_has : (leads : Option ℕ) → HasLine (warning_text leads)
warning_has None = inl refl
warning_has (Some id) = inr (warning_is_line id)

deep_is_line : (id : ℕ) → IsLine (deep_line id)
unfolding deep_line warning_words deep_words
deep_is_line id =
    line_of_body (codes "warning: " ⧺ id_text id ⧺ codes " is a tuple nested deeper than 100")
    (then_stays (codes "warning: " ⧺ id_text id) (codes " is a tuple nested deeper than 100") (then_stays (codes "warning: ") (id_text id) refl (id_stays id)) refl)

warnings_has : (leads deep : Option ℕ) → HasLine (warnings_text leads deep)
warnings_has (Some id) deep = inr (warning_is_line id)
warnings_has None None = inl refl
warnings_has None (Some id) = inr (deep_is_line id)

cut_part_end : (imports calls : ℕ) (c : Closing) (leads : Option ℕ) → cut_lines (part_end imports calls c leads) ≡ totals_line imports calls ∷ (ends_line c ∷ if_any (warning_text leads))
unfolding part_end ◌⧺◌
cut_part_end imports calls c leads =
    cut_line (totals_line imports calls) (ends_line c ++ warning_text leads) (totals_is_line imports calls)
    ∙ ap (λ (ls : List (List ℕ)). totals_line imports calls ∷ ls)
    (cut_line (ends_line c) (warning_text leads) (ends_is_line c) ∙ ap (λ (ls : List (List ℕ)). ends_line c ∷ ls) (cut_last (warning_text leads) (warning_has leads)))

part_ends : (imports calls : ℕ) (c : Closing) (leads : Option ℕ) → EndsLine (part_end imports calls c leads)
unfolding part_end ◌⧺◌
part_ends imports calls c leads =
    both_end (totals_line imports calls) (ends_line c ++ warning_text leads) (line_ends (totals_line imports calls) (totals_is_line imports calls))
    (both_end (ends_line c) (warning_text leads) (line_ends (ends_line c) (ends_is_line c)) (has_ends (warning_text leads) (warning_has leads)))

cut_part : (holes : List Hole) (w : Way) (x : Option Standing) → cut_lines (part_text holes w x) ≡ part_lines holes w x
unfolding tale_text_in ◌⧺◌
cut_part holes w None = cut_nothing
cut_part holes w (Some p) =
    let t : Tale = tale_of holes w p in
    let end : List ℕ = part_end t.lines.imports t.lines.calls (closing_in holes t.closing) t.leads in
    cut_line (header w.frames) (t.lines.text ++ end) (header_is_line w.frames)
    ∙ ap (λ (ls : List (List ℕ)). header w.frames ∷ ls)
    (cut_join t.lines.text end (tale_ends holes (suc (length p.rest)) w p)
    ∙ ap₂ (λ (a b : List (List ℕ)). a ++ b) (cut_tale holes (suc (length p.rest)) w p) (cut_part_end t.lines.imports t.lines.calls (closing_in holes t.closing) t.leads))

part_ends_line : (holes : List Hole) (w : Way) (x : Option Standing) → EndsLine (part_text holes w x)
unfolding tale_text_in ◌⧺◌
part_ends_line holes w None = inl refl
part_ends_line holes w (Some p) =
    let t : Tale = tale_of holes w p in
    let end : List ℕ = part_end t.lines.imports t.lines.calls (closing_in holes t.closing) t.leads in
    both_end (header w.frames) (t.lines.text ++ end) (line_ends (header w.frames) (header_is_line w.frames))
    (both_end t.lines.text end (tale_ends holes (suc (length p.rest)) w p) (part_ends t.lines.imports t.lines.calls (closing_in holes t.closing) t.leads))

cut_from : (holes : List Hole) (w : Way) (p : Standing) → cut_lines (text_from holes w p) ≡ lines_from holes w p
unfolding text_from_in
cut_from holes w p = cut_part holes w (search_from sought.Event w p)

from_ends : (holes : List Hole) (w : Way) (p : Standing) → EndsLine (text_from holes w p)
unfolding text_from_in
from_ends holes w p = part_ends_line holes w (search_from sought.Event w p)

cut_found : (holes : List Hole) (w : Way) (x : Option Standing) → cut_lines (found_text holes w x) ≡ lines_if holes w x
cut_found holes w None = cut_nothing
cut_found holes w (Some p) = cut_from holes w p

found_ends : (holes : List Hole) (w : Way) (x : Option Standing) → EndsLine (found_text holes w x)
found_ends holes w None = inl refl
found_ends holes w (Some p) = from_ends holes w p

cut_behind : (how : Manner) (p : Pickles) (d : Contents) (k : ℕ) (x : Option State) → cut_lines (behind_at how p d k x) ≡ behind_lines how p d k x
cut_behind how p d k None = cut_nothing
cut_behind how p d k (Some s) = cut_from how.holes (ignoring p) (standing_at how.detail d k s)

behind_ends : (how : Manner) (p : Pickles) (d : Contents) (k : ℕ) (x : Option State) → EndsLine (behind_at how p d k x)
behind_ends how p d k None = inl refl
behind_ends how p d k (Some s) = from_ends how.holes (ignoring p) (standing_at how.detail d k s)

mixed_is_line : (offset : ℕ) → IsLine (mixed_line offset)
unfolding mixed_line mixed_words
mixed_is_line offset = line_of_body (mixed_words ⧺ decimal offset) (then_stays mixed_words (decimal offset) refl (decimal_stays offset))

mixed_has : (holes : List Hole) (mixed : Option ℕ) → HasLine (mixed_text holes mixed)
mixed_has holes None = inl refl
mixed_has holes (Some offset) = inr (mixed_is_line (in_file holes offset))

cut_lossy : (how : Manner) (p : Pickles) (bytes : List ℕ) → cut_lines (lost_text how p bytes) ≡ lost_lines how (buffering p) bytes ++ mixed_lines how p bytes
unfolding ◌⧺◌
cut_lossy how p bytes =
    let mixed : List ℕ = mixed_text how.holes (first_mixed how.detail p bytes) in
    cut_join (lost_by how (buffering p) bytes) mixed (found_ends how.holes (buffering p) (loss_at how.detail (buffering p) bytes))
    ∙ ap₂ (λ (a b : List (List ℕ)). a ++ b) (cut_found how.holes (buffering p) (loss_at how.detail (buffering p) bytes)) (cut_last mixed (mixed_has how.holes (first_mixed how.detail p bytes)))

cut_parts : (how : Manner) (p : Pickles) (d : Contents) → cut_lines (parts how p d) ≡ parts_lines how p d (calls_end d)
unfolding parts_in ◌⧺◌
cut_parts how p d = go (is_open (calls_end d).ending)
  where
    e : CallsEnd
    e = calls_end d

    x : Option State
    x = run (start d.many) (ops_of d) (calls_end d).place

    first : List ℕ
    first = behind_at how p d (calls_end d).place (run (start d.many) (ops_of d) (calls_end d).place)

    more : List ℕ
    more = lost_text how p (document_bytes d)

    go : (b : Bool) → cut_lines (if b then first ++ more else []) ≡ (if b then behind_lines how p d e.place x ++ (lost_lines how (buffering p) (document_bytes d) ++ mixed_lines how p (document_bytes d)) else [])
    go true =
        cut_join first more (behind_ends how p d e.place x)
        ∙ ap₂ (λ (a b : List (List ℕ)). a ++ b) (cut_behind how p d e.place x) (cut_lossy how p (document_bytes d))
    go false = cut_nothing

-- ---- the text of a document

entries_end : (how : Manner) (d : Contents) (n : ℕ) → EndsLine (entries how d n).text
unfolding entries_in
entries_end how d zero = inl refl
entries_end how d (suc k) =
    subst EndsLine (sym (text-suc for_people how d k)) (both_end (entries how d k).text (entry_at how d k).text (entries_end how d k) (has_ends (entry_at how d k).text (entry_has how d k)))

ending_end : (e : Ending) → EndsLine (ending_lines e)
unfolding ending_lines ◌⧺◌
ending_end (ending.Closed kept c) = both_end (kept_line kept) (closing_line c) (has_ends (kept_line kept) (kept_has kept)) (has_ends (closing_line c) (closing_has c))
ending_end (ending.Unsure offset) = line_ends (unsure_line offset) (unsure_is_line offset)

end_ends : (bytes : List ℕ) (imports calls : ℕ) (e : Ending) → EndsLine (calls_end_text bytes imports calls e)
end_ends bytes imports calls e =
    subst EndsLine (sym (end_text bytes imports calls e))
    (both_end (begins_text bytes) (totals_line imports calls ++ ending_lines e) (has_ends (begins_text bytes) (begins_has bytes))
    (both_end (totals_line imports calls) (ending_lines e) (line_ends (totals_line imports calls) (totals_is_line imports calls)) (ending_end e)))

calls_ends : (how : Manner) (d : Contents) → EndsLine (calls how d).text
calls_ends how d =
    let e : CallsEnd = calls_end d in
    let last : List ℕ = calls_end_text (document_bytes d) (entries how d e.place).imports (entries how d e.place).calls (ending_in how.holes e.ending) in
    subst EndsLine (sym (calls_text how d))
    (both_end (entries how d e.place).text last (entries_end how d e.place) (end_ends (document_bytes d) (entries how d e.place).imports (entries how d e.place).calls (ending_in how.holes e.ending)))

cut_document : (how : Manner) (p : Pickles) (d : Contents) → cut_lines (document_calls how p d).text ≡ document_lines how p d
unfolding ◌⧺◌
cut_document how p d =
    let first : List ℕ = (calls how d).text in
    let warning : List ℕ = document_warnings d in
    let has : HasLine warning = warnings_has (document_leads d) (document_deep d) in
    let ends : EndsLine warning = has_ends warning has in
    let items : List (List ℕ) = item_lines how d (calls_end d).place in
    cut_join (first ++ warning) (parts how p d) (both_end first warning (calls_ends how d) ends)
    ∙ ap₂ (λ (a b : List (List ℕ)). a ++ b)
    (cut_join first warning (calls_ends how d) ∙ ap₂ (λ (a b : List (List ℕ)). a ++ b) (text_is_its_lines how d) (cut_last warning has)
    ∙ append_assoc items (last_pieces how d (calls_end d)) (if_any warning))
    (cut_parts how p d)

-- ---- the text with one memo

loss_is_line : (offset : ℕ) → IsLine (loss_line offset)
unfolding loss_line loss_words
loss_is_line offset = line_of_body (loss_words ⧺ decimal offset) (then_stays loss_words (decimal offset) refl (decimal_stays offset))

cut_loss : (how : Manner) (bytes : List ℕ) (x : Option ℕ) → cut_lines (losses_text how bytes x) ≡ kept_parts how bytes x
unfolding loss_text_in ◌⧺◌
cut_loss how bytes None = cut_nothing
cut_loss how bytes (Some offset) =
    let line : List ℕ = loss_line (in_file how.holes offset) in
    let a : List ℕ = lost_by how (buffering pickles.OneMemo) bytes in
    let b : List ℕ = lost_by how (holding pickles.OneMemo) bytes in
    cut_line line (a ++ b) (loss_is_line (in_file how.holes offset))
    ∙ ap (λ (ls : List (List ℕ)). line ∷ ls)
    (cut_join a b (found_ends how.holes (buffering pickles.OneMemo) (loss_at how.detail (buffering pickles.OneMemo) bytes))
    ∙ ap₂ (λ (x y : List (List ℕ)). x ++ y) (cut_found how.holes (buffering pickles.OneMemo) (loss_at how.detail (buffering pickles.OneMemo) bytes)) (cut_found how.holes (holding pickles.OneMemo) (loss_at how.detail (holding pickles.OneMemo) bytes)))

loss_ends : (how : Manner) (bytes : List ℕ) (x : Option ℕ) → EndsLine (losses_text how bytes x)
unfolding loss_text_in ◌⧺◌
loss_ends how bytes None = inl refl
loss_ends how bytes (Some offset) =
    let line : List ℕ = loss_line (in_file how.holes offset) in
    let a : List ℕ = lost_by how (buffering pickles.OneMemo) bytes in
    let b : List ℕ = lost_by how (holding pickles.OneMemo) bytes in
    both_end line (a ++ b) (has_ends line (inr (loss_is_line (in_file how.holes offset))))
    (both_end a b (found_ends how.holes (buffering pickles.OneMemo) (loss_at how.detail (buffering pickles.OneMemo) bytes)) (found_ends how.holes (holding pickles.OneMemo) (loss_at how.detail (holding pickles.OneMemo) bytes)))

cut_kept_behind : (how : Manner) (bytes : List ℕ) (loss mixed : Option ℕ) → cut_lines (kept_behind how bytes loss mixed) ≡ kept_parts how bytes loss ++ if_any (mixed_text how.holes mixed)
unfolding ◌⧺◌
cut_kept_behind how bytes loss mixed =
    cut_join (losses_text how bytes loss) (mixed_text how.holes mixed) (loss_ends how bytes loss) ∙ ap₂ (λ (a b : List (List ℕ)). a ++ b) (cut_loss how bytes loss) (cut_last (mixed_text how.holes mixed) (mixed_has how.holes mixed))

cut_kept : (how : Manner) (bytes : List ℕ) → cut_lines (kept_calls how bytes).text ≡ kept_lines how bytes
unfolding kept_calls_in ◌⧺◌
cut_kept how bytes =
    let p : Standing = standing_first how.detail pickles.OneMemo bytes in
    let w : Way = ignoring pickles.OneMemo in
    let t : Tale = tale_of how.holes w p in
    let e : Ending = ending_in how.holes (ending.Closed 0 t.closing) in
    let end : List ℕ = calls_end_text bytes t.lines.imports t.lines.calls e in
    let n : ℕ = suc (length p.rest) in
    let warning : List ℕ = warning_text t.leads in
    let lines : EndsLine (t.lines.text ++ end) = both_end t.lines.text end (tale_ends how.holes n w p) (end_ends bytes t.lines.imports t.lines.calls e) in
    let loss : Option ℕ = first_loss how.detail bytes in
    let mixed : Option ℕ = first_mixed how.detail pickles.OneMemo bytes in
    cut_join ((t.lines.text ++ end) ++ warning) (kept_behind how bytes loss mixed) (both_end (t.lines.text ++ end) warning lines (has_ends warning (warning_has t.leads)))
    ∙ ap₂ (λ (a b : List (List ℕ)). a ++ b)
    (cut_join (t.lines.text ++ end) warning lines
    ∙ ap₂ (λ (a b : List (List ℕ)). a ++ b)
    (cut_join t.lines.text end (tale_ends how.holes n w p) ∙ ap₂ (λ (a b : List (List ℕ)). a ++ b) (cut_tale how.holes n w p) (cut_end bytes t.lines.imports t.lines.calls e))
    (cut_last warning (warning_has t.leads))
    ∙ append_assoc (kept_first how p) (kept_closing how bytes t) (if_any warning))
    (cut_kept_behind how bytes loss mixed)

pub whole_text_is_its_lines : WholeTextIsItsLines
whole_text_is_its_lines how pickles.OneMemo bytes o e = ap (λ (x : Output). cut_lines x.text) e ∙ cut_kept how bytes
whole_text_is_its_lines how pickles.First bytes o (d, reads, e) = (d, reads, ap (λ (x : Output). cut_lines x.text) e ∙ cut_document how pickles.First d)
whole_text_is_its_lines how pickles.All bytes o (d, reads, e) = (d, reads, ap (λ (x : Output). cut_lines x.text) e ∙ cut_document how pickles.All d)
