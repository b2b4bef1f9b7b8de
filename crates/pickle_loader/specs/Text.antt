-- The whole text of `calls`, line by line, behind an end too: each of its lines is that of an item of a reading, or one of the lines that
-- close or head a part; no text of a pickle makes a line of its own; and what is listed of an item has its line in the text.
-- Source: own.
use Rattle.std.specs.Prelude.{◌≡◌, ◌≢◌, Bool, true, false, ℕ, zero, suc, ◌^◌, ◌<◌, if◌then◌else◌, List, [], ◌∷◌, ◌++◌, length, Option, Some, None}
use Rattle.pickle_doc.specs.Document.{Contents, ReadsAs, AreBytes, document_bytes}
use Rattle.pickle_doc.specs.Place.{ops_of}
use Rattle.pickle_machine.specs.State.{State, start}
use Rattle.pickle_machine.specs.Run.{run}
use Rattle.pickle_io.specs.declared.hole.Hole.{Hole}
use Rattle.pickle_io.specs.Holes.{in_file}
use Rattle.pickle_lenient.specs.declared.taken.Frames.{Frames}
use Rattle.pickle_lenient.specs.declared.taken.Frames.TheVariants as frames
use Rattle.pickle_calls.specs.declared.naming.Detail.{Detail}
use Rattle.pickle_calls.specs.declared.end.Ending.TheVariants as ending
use Rattle.pickle_calls.specs.Begins.{begins_text}
use Rattle.pickle_calls.specs.Manner.{Manner, closing_in, ending_in}
use Rattle.pickle_text.specs.Output.{Output}
use Rattle.pickle_calls.specs.CallsLine.{line_of, totals_line}
use Rattle.pickle_calls.specs.Calls.{CallsEnd, calls_end}
use Rattle.calls_laws.specs.LineLaws.{cut_lines, if_any, item_lines, ending_pieces, last_pieces}
use Rattle.pickle_further.specs.declared.seek.Sought.TheVariants as sought
use Rattle.pickle_further.specs.declared.way.Pickles.{Pickles}
use Rattle.pickle_further.specs.declared.way.Pickles.TheVariants as pickles
use Rattle.pickle_further.specs.declared.way.Way.{Way}
use Rattle.pickle_further.specs.Going.{Standing, Going, going, Tale, tale_of, search_from}
use Rattle.pickle_further.specs.Parts.{ends_line, header, ignoring, buffering, holding, is_open, standing_at, standing_first, loss_at, first_mixed, mixed_text, loss_line}
use Rattle.pickle_further.specs.Leads.{warning_text}
use Rattle.pickle_further.specs.CallsText.{document_warnings, first_loss, IsCallsText}
use Rattle.pickle_loader.specs.Environment.{Value}
use Rattle.pickle_loader.specs.Onward.{stands, acts_gone, acts_before}

-- ---- the lines of a reading

-- the line of an item, or nothing
abbrev pub line_gone : List Hole → Standing → Going → List ℕ
line_gone holes p g = line_of (in_file holes p.at.offset) p.naming g.state.heap g.gone.event

abbrev pub line_on : List Hole → Way → Option Standing → List (List ℕ)
line_on holes way None = []
line_on holes way (Some p) = if_any (line_gone holes p (going way p))

-- those of the first n items from here on
unfoldable pub lines_before : List Hole → Way → Standing → ℕ → List (List ℕ)
lines_before holes way p zero = []
lines_before holes way p (suc n) = lines_before holes way p n ++ line_on holes way (stands way p n)

-- those of all: there are no more items than bytes, but for the one at which it ends
abbrev pub all_lines : List Hole → Way → Standing → List (List ℕ)
all_lines holes way p = lines_before holes way p (suc (length p.rest))

-- ---- the lines of a part

-- how many imports and calls, how it ended, and a line where an import leads to the unpickler
abbrev pub part_end_lines : List Hole → Tale → List (List ℕ)
part_end_lines holes t = totals_line t.lines.imports t.lines.calls ∷ (ends_line (closing_in holes t.closing) ∷ if_any (warning_text t.leads))

abbrev pub part_lines : List Hole → Way → Option Standing → List (List ℕ)
part_lines holes way (Some p) = header way.frames ∷ (all_lines holes way p ++ part_end_lines holes (tale_of holes way p))
part_lines holes way None = []

-- from here on: nothing where no item has a line
abbrev pub lines_from : List Hole → Way → Standing → List (List ℕ)
lines_from holes way p = part_lines holes way (search_from sought.Event way p)

abbrev pub lines_if : List Hole → Way → Option Standing → List (List ℕ)
lines_if holes way (Some p) = lines_from holes way p
lines_if holes way None = []

abbrev pub behind_lines : Manner → Pickles → Contents → ℕ → Option State → List (List ℕ)
behind_lines how p d k (Some s) = lines_from how.holes (ignoring p) (standing_at how.detail d k s)
behind_lines how p d k None = []

-- from the first item on that loses bytes
abbrev pub lost_lines : Manner → Way → List ℕ → List (List ℕ)
lost_lines how way bytes = lines_if how.holes way (loss_at how.detail way bytes)

-- from where frames may be mixed
abbrev pub mixed_lines : Manner → Pickles → List ℕ → List (List ℕ)
mixed_lines how p bytes = if_any (mixed_text how.holes (first_mixed how.detail p bytes))

abbrev pub parts_lines : Manner → Pickles → Contents → CallsEnd → List (List ℕ)
parts_lines how p d e =
    if is_open e.ending
    then behind_lines how p d e.place (run (start d.many) (ops_of d) e.place) ++ (lost_lines how (buffering p) (document_bytes d) ++ mixed_lines how p (document_bytes d))
    else []

-- ---- the lines of a text

-- of a document: the lines of its items, those that close them, a line where an import leads to the unpickler or a tuple is nested too deep, and
-- what is behind the end
abbrev pub document_last : Manner → Contents → List (List ℕ)
document_last how d = last_pieces how d (calls_end d) ++ if_any (document_warnings d)

abbrev pub document_lines : Manner → Pickles → Contents → List (List ℕ)
document_lines how p d = (item_lines how d (calls_end d).place ++ document_last how d) ++ parts_lines how p d (calls_end d)

-- of bytes that one unpickler reads on and on
abbrev pub kept_first : Manner → Standing → List (List ℕ)
kept_first how p = all_lines how.holes (ignoring pickles.OneMemo) p

abbrev pub kept_closing : Manner → List ℕ → Tale → List (List ℕ)
kept_closing how bytes t = if_any (begins_text bytes)
    ++ (totals_line t.lines.imports t.lines.calls ∷ ending_pieces (ending_in how.holes (ending.Closed 0 t.closing)))

abbrev pub kept_last : Manner → List ℕ → Tale → List (List ℕ)
kept_last how bytes t = kept_closing how bytes t ++ if_any (warning_text t.leads)

abbrev pub kept_parts : Manner → List ℕ → Option ℕ → List (List ℕ)
kept_parts how bytes None = []
kept_parts how bytes (Some offset) = loss_line (in_file how.holes offset)
    ∷ (lost_lines how (buffering pickles.OneMemo) bytes ++ lost_lines how (holding pickles.OneMemo) bytes)

abbrev pub kept_lines : Manner → List ℕ → List (List ℕ)
kept_lines how bytes =
    (kept_first how (standing_first how.detail pickles.OneMemo bytes)
    ++ kept_last how bytes (tale_of how.holes (ignoring pickles.OneMemo) (standing_first how.detail pickles.OneMemo bytes)))
    ++ (kept_parts how bytes (first_loss how.detail bytes) ++ mixed_lines how pickles.OneMemo bytes)

-- these are the lines of the text of these bytes
abbrev pub AreCallsLines : Manner → Pickles → List ℕ → List (List ℕ) → Type 0
AreCallsLines how pickles.OneMemo bytes lines = lines ≡ kept_lines how bytes
AreCallsLines how pickles.First bytes lines = (d : Contents) × ReadsAs false bytes d × (lines ≡ document_lines how pickles.First d)
AreCallsLines how pickles.All bytes lines = (d : Contents) × ReadsAs true bytes d × (lines ≡ document_lines how pickles.All d)

-- cut behind its newlines, the whole text is these lines, the headings and what stands under them too: no name and no text of a pickle makes
-- a line of its own
abbrev pub WholeTextIsItsLines : Type 0
WholeTextIsItsLines = (how : Manner) (p : Pickles) (bytes : List ℕ) (o : Output) → IsCallsText how p bytes o → AreCallsLines how p bytes (cut_lines o.text)

-- for any bytes there is one text, with one status
abbrev pub OneWholeText : Type 0
OneWholeText = (how : Manner) (p : Pickles) (bytes : List ℕ) → AreBytes bytes → length bytes < 2 ^ 64
    → (o : Output) × IsCallsText how p bytes o × ((e : Output) → IsCallsText how p bytes e → o ≡ e)

-- ---- each reach has its line

-- a line is among these
abbrev pub IsAmong : List ℕ → List (List ℕ) → Type 0
IsAmong line lines = (front : List (List ℕ)) × (back : List (List ℕ)) × (lines ≡ front ++ (line ∷ back))

abbrev pub way_of : Pickles → Frames → Way
way_of p f = record { pickles = p; frames = f }

abbrev pub never_held : Frames → Bool
never_held frames.Ignored = true
never_held frames.Buffered = true
never_held frames.Held = false

-- the readings that are in a text: frames ignored, or in a buffer, which one Unpickler that loads again may keep behind STOP
abbrev pub is_in_text : Pickles → Frames → Bool
is_in_text pickles.OneMemo f = true
is_in_text pickles.All f = never_held f
is_in_text pickles.First f = never_held f

-- in each of these readings, from the first byte on and as far as it goes: an item that lists an act has an event; and an item with an event has
-- a line, which is one of the lines of the text, be it above the headings or under one
abbrev pub EachReachHasItsLine : Type 0
EachReachHasItsLine = (how : Manner) (p : Pickles) (f : Frames) (bytes : List ℕ) (o : Output) → IsCallsText how p bytes o → length bytes < 2 ^ 64
    → is_in_text p f ≡ true
    → (n : ℕ) (q : Standing) → stands (way_of p f) (standing_first how.detail p bytes) n ≡ Some q
    → ((V : ℕ → Value) (proto : ℕ) → acts_gone V proto q (going (way_of p f) q) ≢ [] → (going (way_of p f) q).gone.event ≢ None)
    × ((going (way_of p f) q).gone.event ≢ None
    → (line_gone how.holes q (going (way_of p f) q) ≢ []) × IsAmong (line_gone how.holes q (going (way_of p f) q)) (cut_lines o.text))

-- how much of an argument is shown changes nothing of what is listed
abbrev pub DetailTellsAlike : Type 0
DetailTellsAlike = (a b : Detail) (V : ℕ → Value) (w : Way) (bytes : List ℕ) (n : ℕ)
    → acts_before V w (standing_first a w.pickles bytes) n ≡ acts_before V w (standing_first b w.pickles bytes) n
