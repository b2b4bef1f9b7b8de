-- The whole text: the lines of `calls` are among its lines, and behind them stands the line of each place that is found, or that there are too many
-- ways.
use Rattle.std.proofs.Common.{◌≡◌, ℕ, zero, suc, ◌<◌, ◌==◌, Bool, true, false, List, [], ◌∷◌, ◌++◌, length, Option, Some, None, Ok, Err, refl, sym, ap, subst, ◌∙◌, inl, inr, append_assoc, arith}
use Rattle.std.specs.Prelude.{codes, decimal, if◌then◌else◌, slice_index_or, Contains, Result}
use Rattle.std.proofs.lemmas.List.{append-nil}
use Rattle.pickle_io.specs.Text.{◌⧺◌}
use Rattle.pickle_io.specs.Device.{each}
use Rattle.pickle_io.specs.declared.hole.Hole.{Hole}
use Rattle.pickle_io.specs.Holes.{in_file}
use Rattle.pickle_io.proofs.Devices.{each-cons}
use Rattle.pickle_ops.specs.declared.fault.FrontFault.{FrontFault}
use Rattle.pickle_ops.specs.Spelling.{Operation}
use Rattle.pickle_doc.specs.Document.{Contents, document_bytes}
use Rattle.pickle_doc.specs.Place.{ops_of}
use Rattle.pickle_machine.specs.State.{start}
use Rattle.pickle_machine.specs.Run.{run}
use Rattle.pickle_lenient.specs.declared.taken.Frames.TheVariants as frames
use Rattle.pickle_lenient.specs.declared.taken.Taken.{Taken}
use Rattle.pickle_text.specs.declared.closing.Closing.TheVariants as closing
use Rattle.pickle_calls.specs.declared.end.Ending.{Ending}
use Rattle.pickle_calls.specs.declared.end.Ending.TheVariants as ending
use Rattle.pickle_calls.specs.Begins.{begins_text}
use Rattle.pickle_text.specs.Closing.{closing_line, kept_line}
use Rattle.pickle_calls.specs.Manner.{Manner, ending_in}
use Rattle.pickle_text.specs.Words.{id_text}
use Rattle.pickle_calls.specs.CallsLine.{totals_line, unsure_line, ending_status, ending_lines}
use Rattle.pickle_calls.specs.Calls.{CallsEnd, entries, calls, calls_end, calls_in}
use Rattle.calls_laws.specs.LineLaws.{before_first, cut_lines, if_any}
use Rattle.calls_laws.proofs.WithinLines.{then_stays, id_stays}
use Rattle.calls_laws.proofs.TextLines.{IsLine, HasLine, line_of_body, cut_line, any_line, cut_any, cut_last, calls_text, end_text, totals_is_line, closing_has, kept_has, unsure_is_line}
use Rattle.pickle_further.specs.declared.way.Pickles.{Pickles}
use Rattle.pickle_further.specs.declared.way.Pickles.TheVariants as pickles
use Rattle.pickle_further.specs.Going.{Tale, tale_of}
use Rattle.pickle_further.specs.Leads.{or_first, warning_words, leads_words, warning_line, warned_status}
use Rattle.pickle_further.specs.Deep.{deep_words, deep_line, warnings_text}
use Rattle.pickle_further.specs.Parts.{ignoring, buffering, standing_first, behind_at, lost_by, lost_text, first_mixed, mixed_words, mixed_line, mixed_text, is_open, parts, parts_in}
use Rattle.pickle_further.specs.CallsText.{document_leads, document_deep, document_warnings, document_calls, tale_calls, first_loss, losses_text, kept_status, kept_calls, kept_calls_in}
use Rattle.pickle_loader.specs.Text.{IsAmong}
use Rattle.pickle_loader.proofs.Reaches.{among_left, among_right}
use Rattle.pickle_mixes.specs.declared.place.Place.{Place}
use Rattle.pickle_mixes.specs.Acting.{item_at, acting_places}
use Rattle.mixes_text.specs.MixText.{above_words, above_line, taken_line, below_line, many_words, many_line, mixes_for_people, item_text, place_text, found_text, goes_on, all_text, mixed_text as mixes_if, mixes_behind}
use Rattle.reach_laws.specs.Placed.{IsPlaced}
use Rattle.reach_laws.proofs.OpcodeLines.{taken_is_line}

-- ---- texts that end with a newline

abbrev pub Ended : List ℕ → Type 0
Ended text = (body : List ℕ) × (text ≡ body ++ 10 ∷ [])

line_ended : (text : List ℕ) → IsLine text → Ended text
line_ended text l = (l.body, l.is)

behind_ended : (a b : List ℕ) → Ended b → Ended (a ++ b)
behind_ended a b (body, e) = (a ++ body, ap (λ (t : List ℕ). a ++ t) e ∙ sym (append_assoc a body (10 ∷ [])))

more_ended : (a b : List ℕ) → Ended a → HasLine b → Ended (a ++ b)
more_ended a b p h = elim h [
  | inl none ↦ subst Ended (sym (ap (λ (t : List ℕ). a ++ t) none ∙ append-nil a)) p
  | inr line ↦ behind_ended a b (line_ended b line)
]

-- there is a first line
first_line : (body : List ℕ) → (l : List ℕ) × (ls : List (List ℕ)) × (cut_lines (body ++ 10 ∷ []) ≡ l ∷ ls)
unfolding cut_lines
first_line [] = (10 ∷ [], [], refl)
first_line (b ∷ body) = go (b == 10) (first_line body)
  where
    go : (c : Bool) → (l : List ℕ) × (ls : List (List ℕ)) × (cut_lines (body ++ 10 ∷ []) ≡ l ∷ ls)
        → (l : List ℕ) × (ls : List (List ℕ)) × ((if c then (b ∷ []) ∷ cut_lines (body ++ 10 ∷ []) else before_first b (cut_lines (body ++ 10 ∷ []))) ≡ l ∷ ls)
    go true s = (b ∷ [], cut_lines (body ++ 10 ∷ []), refl)
    go false s = (b ∷ s.0, s.1, ap (before_first b) s.2)

cut_body : (body rest : List ℕ) → cut_lines ((body ++ 10 ∷ []) ++ rest) ≡ cut_lines (body ++ 10 ∷ []) ++ cut_lines rest
unfolding cut_lines
cut_body [] rest = refl
cut_body (b ∷ body) rest = go (b == 10) (cut_body body rest)
  where
    go : (c : Bool) → cut_lines ((body ++ 10 ∷ []) ++ rest) ≡ cut_lines (body ++ 10 ∷ []) ++ cut_lines rest
        → (if c then (b ∷ []) ∷ cut_lines ((body ++ 10 ∷ []) ++ rest) else before_first b (cut_lines ((body ++ 10 ∷ []) ++ rest)))
        ≡ (if c then (b ∷ []) ∷ cut_lines (body ++ 10 ∷ []) else before_first b (cut_lines (body ++ 10 ∷ []))) ++ cut_lines rest
    go true same = ap (λ (ls : List (List ℕ)). (b ∷ []) ∷ ls) same
    go false same =
        let s = first_line body in
        ap (before_first b) (same ∙ ap (λ (ls : List (List ℕ)). ls ++ cut_lines rest) s.2) ∙ ap (λ (ls : List (List ℕ)). before_first b ls ++ cut_lines rest) (sym s.2)

cut_ended : (text rest : List ℕ) → Ended text → cut_lines (text ++ rest) ≡ cut_lines text ++ cut_lines rest
cut_ended text rest (body, e) = ap (λ (t : List ℕ). cut_lines (t ++ rest)) e ∙ cut_body body rest ∙ ap (λ (t : List ℕ). cut_lines t ++ cut_lines rest) (sym e)

-- the lines of both parts of a text are among its lines
pub among_first : (line text more : List ℕ) → Ended text → IsAmong line (cut_lines text) → IsAmong line (cut_lines (text ⧺ more))
unfolding ◌⧺◌
among_first line text more p here = subst (IsAmong line) (sym (cut_ended text more p)) (among_left line (cut_lines text) (cut_lines more) here)

pub among_behind : (line text more : List ℕ) → Ended text → IsAmong line (cut_lines more) → IsAmong line (cut_lines (text ⧺ more))
unfolding ◌⧺◌
among_behind line text more p here = subst (IsAmong line) (sym (cut_ended text more p)) (among_right line (cut_lines text) (cut_lines more) here)

pub among_alone : (line text more : List ℕ) → more ≡ [] → IsAmong line (cut_lines text) → IsAmong line (cut_lines (text ⧺ more))
unfolding ◌⧺◌
among_alone line text more none here = subst (λ (t : List ℕ). IsAmong line (cut_lines t)) (sym (ap (λ (t : List ℕ). text ++ t) none ∙ append-nil text)) here

-- ---- the text of `calls` ends so

warning_is_line : (id : ℕ) → IsLine (warning_line id)
unfolding warning_line warning_words leads_words
warning_is_line id =
    line_of_body (codes "warning: " ⧺ id_text id ⧺ codes " leads to the unpickler")
    (then_stays (codes "warning: " ⧺ id_text id) (codes " leads to the unpickler") (then_stays (codes "warning: ") (id_text id) refl (id_stays id)) refl)

deep_is_line : (id : ℕ) → IsLine (deep_line id)
unfolding deep_line warning_words deep_words
deep_is_line id =
    line_of_body (codes "warning: " ⧺ id_text id ⧺ codes " is a tuple nested deeper than 100")
    (then_stays (codes "warning: " ⧺ id_text id) (codes " is a tuple nested deeper than 100") (then_stays (codes "warning: ") (id_text id) refl (id_stays id)) refl)

warnings_has : (leads deep : Option ℕ) → HasLine (warnings_text leads deep)
warnings_has (Some id) deep = inr (warning_is_line id)
warnings_has None None = inl refl
warnings_has None (Some id) = inr (deep_is_line id)

totals_ended : (imports calls : ℕ) (e : Ending) → Ended (totals_line imports calls ++ ending_lines e)
unfolding ending_lines ◌⧺◌
totals_ended imports calls (ending.Closed kept c) =
    subst Ended (append_assoc (totals_line imports calls) (kept_line kept) (closing_line c))
    (more_ended (totals_line imports calls ++ kept_line kept) (closing_line c) (more_ended (totals_line imports calls) (kept_line kept) (line_ended (totals_line imports calls) (totals_is_line imports calls)) (kept_has kept)) (closing_has c))
totals_ended imports calls (ending.Unsure offset) = behind_ended (totals_line imports calls) (unsure_line offset) (line_ended (unsure_line offset) (unsure_is_line offset))

calls_ended : (how : Manner) (d : Contents) → Ended (calls how d).text
calls_ended how d =
    let e : CallsEnd = calls_end d in
    let first : List ℕ = (entries how d e.place).text in
    let begins : List ℕ = begins_text (document_bytes d) in
    let imports : ℕ = (entries how d e.place).imports in
    let count : ℕ = (entries how d e.place).calls in
    let shown : Ending = ending_in how.holes e.ending in
    let rest : List ℕ = totals_line imports count ++ ending_lines shown in
    subst Ended (sym (calls_text how d ∙ ap (λ (t : List ℕ). first ++ t) (end_text (document_bytes d) imports count shown)))
    (behind_ended first (begins ++ rest) (behind_ended begins rest (totals_ended imports count shown)))

warned_ended : (how : Manner) (d : Contents) → Ended ((calls how d).text ++ document_warnings d)
warned_ended how d = more_ended (calls how d).text (document_warnings d) (calls_ended how d) (warnings_has (document_leads d) (document_deep d))

mixed_ended : (offset : ℕ) → Ended (mixed_line offset)
unfolding mixed_line ◌⧺◌
mixed_ended offset = (mixed_words ++ decimal offset, refl)

-- where the lines end with STOP nothing stands behind them
pub closed_ended : (how : Manner) (p : Pickles) (d : Contents) → is_open (calls_end d).ending ≡ false → Ended (document_calls how p d).text
unfolding parts_in ◌⧺◌
closed_ended how p d closed =
    let first : List ℕ = behind_at how p d (calls_end d).place (run (start d.many) (ops_of d) (calls_end d).place) in
    let none : parts how p d ≡ [] = ap (λ (b : Bool). if b then first ++ lost_text how p (document_bytes d) else []) closed in
    more_ended ((calls how d).text ++ document_warnings d) (parts how p d) (warned_ended how d) (inl none)

-- else the line is the last one which says from where frames may be mixed
pub open_ended : (how : Manner) (p : Pickles) (d : Contents) (n : ℕ) → is_open (calls_end d).ending ≡ true → first_mixed how.detail p (document_bytes d) ≡ Some n → Ended (document_calls how p d).text
unfolding parts_in ◌⧺◌
open_ended how p d n goes is =
    let first : List ℕ = behind_at how p d (calls_end d).place (run (start d.many) (ops_of d) (calls_end d).place) in
    let lost : List ℕ = lost_by how (buffering p) (document_bytes d) in
    let line : List ℕ = mixed_line (in_file how.holes n) in
    let same : parts how p d ≡ first ++ (lost ++ line) =
    ap (λ (b : Bool). if b then first ++ lost_text how p (document_bytes d) else []) goes ∙ ap (λ (x : Option ℕ). first ++ (lost ++ mixed_text how.holes x)) is in
    behind_ended ((calls how d).text ++ document_warnings d) (parts how p d)
    (subst Ended (sym same) (behind_ended first (lost ++ line) (behind_ended lost line (mixed_ended (in_file how.holes n)))))

-- so it is with one unpickler that loads again
pub kept_ended : (how : Manner) (bytes : List ℕ) (n : ℕ) → first_mixed how.detail pickles.OneMemo bytes ≡ Some n → Ended (kept_calls how bytes).text
unfolding kept_calls_in ◌⧺◌
kept_ended how bytes n is =
    let t : Tale = tale_of how.holes (ignoring pickles.OneMemo) (standing_first how.detail pickles.OneMemo bytes) in
    let losses : List ℕ = losses_text how bytes (first_loss how.detail bytes) in
    let mixed : List ℕ = mixed_text how.holes (first_mixed how.detail pickles.OneMemo bytes) in
    behind_ended (tale_calls how bytes t).text (losses ++ mixed)
    (behind_ended losses mixed (subst (λ (x : Option ℕ). Ended (mixed_text how.holes x)) (sym is) (mixed_ended (in_file how.holes n))))

-- ---- its status

open_status : (e : Ending) → is_open e ≡ true → (ending_status e == 0) ≡ false
open_status (ending.Closed kept closing.Stopped) goes = let wrong : false ≡ true = goes in absurd cc
open_status (ending.Closed kept (closing.Refused k r)) goes = by (kept == 0)
  where
    by : (b : Bool) → ((if b then 1 else 1) == 0) ≡ false
    by true = refl
    by false = refl
open_status (ending.Closed kept (closing.Fault f offset)) goes = by (kept == 0)
  where
    by : (b : Bool) → ((if b then 1 else 1) == 0) ≡ false
    by true = refl
    by false = refl
open_status (ending.Unsure offset) goes = refl

warned_so : (x : Option ℕ) (status : ℕ) → (status == 0) ≡ false → (warned_status x status == 0) ≡ false
warned_so None status e = e
warned_so (Some id) status e = refl

pub document_status : (how : Manner) (p : Pickles) (d : Contents) → is_open (calls_end d).ending ≡ true → ((document_calls how p d).status == 0) ≡ false
unfolding calls_in
document_status how p d goes = warned_so (or_first (document_leads d) (document_deep d)) (ending_status (calls_end d).ending) (open_status (calls_end d).ending goes)

pub kept_status_is : (how : Manner) (bytes : List ℕ) (n : ℕ) → first_mixed how.detail pickles.OneMemo bytes ≡ Some n → ((kept_calls how bytes).status == 0) ≡ false
unfolding kept_calls_in
kept_status_is how bytes n is =
    subst (λ (x : Option ℕ). (kept_status (first_loss how.detail bytes) x (tale_calls how bytes t).status == 0) ≡ false) (sym is) (by (first_loss how.detail bytes))
  where
    t : Tale
    t = tale_of how.holes (ignoring pickles.OneMemo) (standing_first how.detail pickles.OneMemo bytes)

    by : (loss : Option ℕ) → (kept_status loss (Some n) (tale_calls how bytes t).status == 0) ≡ false
    by None = refl
    by (Some l) = refl

-- ---- what stands behind it

pub mixes_are : (how : Manner) (p : Pickles) (bytes : List ℕ) (status n : ℕ) → (status == 0) ≡ false → first_mixed how.detail p bytes ≡ Some n
    → mixes_behind mixes_for_people how p bytes status ≡ found_text mixes_for_people how.holes bytes (acting_places (goes_on p) bytes)
unfolding all_text
mixes_are how p bytes status n some is =
    ap (λ (b : Bool). if b then [] else mixes_if mixes_for_people how.holes p bytes (first_mixed how.detail p bytes)) some ∙ ap (mixes_if mixes_for_people how.holes p bytes) is

pub no_mixes : (how : Manner) (p : Pickles) (bytes : List ℕ) (status : ℕ) → first_mixed how.detail p bytes ≡ None → mixes_behind mixes_for_people how p bytes status ≡ []
no_mixes how p bytes status none = ap (λ (x : Option ℕ). if status == 0 then [] else mixes_if mixes_for_people how.holes p bytes x) none ∙ by (status == 0)
  where
    by : (b : Bool) → (if b then [] else mixes_if mixes_for_people how.holes p bytes None) ≡ []
    by true = refl
    by false = refl

-- ---- the lines of places

above_is_line : IsLine above_line
unfolding above_line above_words
above_is_line = line_of_body (codes "a loader that mixes frames may take:") refl

many_is_line : IsLine many_line
unfolding many_line many_words
many_is_line = line_of_body (codes "too many ways to mix frames") refl

place_has : (holes : List Hole) (bytes : List ℕ) (p : Place) → HasLine (place_text mixes_for_people holes bytes p)
unfolding place_text
place_has holes bytes p = by (item_at bytes frames.Held p)
  where
    by : (r : Result Taken FrontFault) → HasLine (item_text mixes_for_people holes p r)
    by (Ok t) = inr (taken_is_line (in_file holes p.offset) t.op)
    by (Err f) = inl refl

place_line : (holes : List Hole) (bytes : List ℕ) (p : Place) (t : Taken) → item_at bytes frames.Held p ≡ Ok t → place_text mixes_for_people holes bytes p ≡ taken_line (in_file holes p.offset) t.op
unfolding place_text
place_line holes bytes p t e = ap (item_text mixes_for_people holes p) e

each_more : (text : Place → List ℕ) (q : Place) (xs : List Place) (rest : List ℕ) → each text (q ∷ xs) ++ rest ≡ text q ++ (each text xs ++ rest)
each_more text q xs rest = ap (λ (t : List ℕ). t ++ rest) (each-cons text q xs) ∙ append_assoc (text q) (each text xs) rest

among_each : (text : Place → List ℕ) (xs : List Place) (k : ℕ) (p : Place) (rest : List ℕ) → ((q : Place) → HasLine (text q)) → IsLine (text p) → k < length xs → slice_index_or xs k p ≡ p → IsAmong (text p) (cut_lines (each text xs ++ rest))
among_each text [] k p rest has line less is = absurd (omega (arith, less))
among_each text (q ∷ xs) zero p rest has line less is =
    let more : List ℕ = each text xs ++ rest in
    subst (IsAmong (text p)) (sym (ap cut_lines (each_more text q xs rest) ∙ ap (λ (r : Place). cut_lines (text r ++ more)) is ∙ cut_line (text p) more line)) ([], cut_lines more, refl)
among_each text (q ∷ xs) (suc k) p rest has line less is =
    let more : List ℕ = each text xs ++ rest in
    subst (IsAmong (text p)) (sym (ap cut_lines (each_more text q xs rest) ∙ cut_any (text q) more (has q)))
    (among_right (text p) (if_any (text q)) (cut_lines more) (among_each text xs k p rest has line (omega (arith, less)) is))

among_found : (holes : List Hole) (bytes : List ℕ) (found : List Place) (p : Place) → Contains found p → IsLine (place_text mixes_for_people holes bytes p)
    → IsAmong (place_text mixes_for_people holes bytes p) (cut_lines (found_text mixes_for_people holes bytes (Some found)))
unfolding ◌⧺◌
among_found holes bytes found p has line =
    let text : Place → List ℕ = place_text mixes_for_people holes bytes in
    let rest : List ℕ = below_line (length found) in
    let more : List ℕ = each text found ++ rest in
    subst (IsAmong (text p)) (sym (cut_line above_line more above_is_line))
    (among_right (text p) (above_line ∷ []) (cut_lines more) (among_each text found has.0 p rest (place_has holes bytes) line has.1 has.2))

-- the line of an operation that has its place
pub among_placed : (holes : List Hole) (bytes : List ℕ) (found : List Place) (offset : ℕ) (o : Operation) → IsPlaced bytes found offset o
    → IsAmong (taken_line (in_file holes offset) o) (cut_lines (found_text mixes_for_people holes bytes (Some found)))
among_placed holes bytes found offset o x =
    let taken : place_text mixes_for_people holes bytes x.place ≡ taken_line (in_file holes x.place.offset) x.item.op = place_line holes bytes x.place x.item x.takes in
    let same : taken_line (in_file holes x.place.offset) x.item.op ≡ taken_line (in_file holes offset) o =
    ap (λ (n : ℕ). taken_line (in_file holes n) x.item.op) x.at ∙ ap (taken_line (in_file holes offset)) x.same in
    subst (λ (l : List ℕ). IsAmong l (cut_lines (found_text mixes_for_people holes bytes (Some found)))) (taken ∙ same)
    (among_found holes bytes found x.place x.there (subst (λ (l : List ℕ). IsLine l) (sym taken) (taken_is_line (in_file holes x.place.offset) x.item.op)))

-- the line that says that there are too many ways
pub among_many : (holes : List Hole) (bytes : List ℕ) → IsAmong many_line (cut_lines (found_text mixes_for_people holes bytes None))
among_many holes bytes = subst (IsAmong many_line) (sym (cut_last many_line (inr many_is_line) ∙ any_line many_line many_is_line)) ([], [], refl)
