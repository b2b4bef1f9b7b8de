-- What the lines say: what is in quotes stays within its line, and a text is its lines.
-- Source: own.
use Rattle.std.specs.Prelude.{◌≡◌, ◌≢◌, ℕ, zero, suc, ◌^◌, ◌<◌, ◌==◌, ◌&&◌, not, if◌then◌else◌, Bool, true, List, [], ◌∷◌, ◌++◌, length, slice_get, codes, decimal, Option, Some, None}
use Rattle.pickle_io.specs.Text.{◌⧺◌, quoted}
use Rattle.pickle_names.specs.Value.{decode_all}
use Rattle.pickle_doc.specs.Document.{Contents, document_bytes, AreBytes}
use Rattle.pickle_calls.specs.Manner.{Manner, ending_in}
use Rattle.pickle_calls.specs.declared.end.Ending.{Ending}
use Rattle.pickle_calls.specs.declared.end.Ending.TheVariants as ending
use Rattle.pickle_text.specs.Column.{right_aligned, newline}
use Rattle.pickle_text.specs.Words.{id_text}
use Rattle.pickle_calls.specs.Begins.{begins_text}
use Rattle.pickle_text.specs.Closing.{kept_line, closing_line}
use Rattle.pickle_ops.specs.declared.kind.Kind.{Kind}
use Rattle.pickle_ops.specs.declared.kind.Kind.TheVariants as kind
use Rattle.pickle_ops.specs.declared.row.Filling.TheVariants as filling
use Rattle.pickle_machine.specs.State.{State}
use Rattle.pickle_doc.specs.Place.{offset_of}
use Rattle.pickle_io.specs.Holes.{in_file}
use Rattle.pickle_ops.specs.Object.{Object}
use Rattle.pickle_calls.specs.declared.event.Event.{Event}
use Rattle.pickle_calls.specs.declared.event.Event.TheVariants as event
use Rattle.pickle_calls.specs.declared.naming.Naming.{Naming}
use Rattle.pickle_calls.specs.Naming.{Spelled, Pair, NewPair, global_pair, inst_pair, stack_pair, pair_renamed}
use Rattle.pickle_calls.specs.Brief.{briefs_text, value_text}
use Rattle.pickle_calls.specs.CallsLine.{made_at, event_line, totals_line, unsure_line}
use Rattle.pickle_calls.specs.Calls.{CallsEnd, naming_at, entry_at, entries, calls, calls_end}
use Rattle.calls_laws.specs.CallsLaws.{IsStep}

-- no byte of a text ends a line
abbrev pub is_within_line : List ℕ → Bool
is_within_line [] = true
is_within_line (byte ∷ bytes) = not (byte == 10) && is_within_line bytes

-- whatever the names and texts of a pickle are, none of them ends its line
abbrev pub QuotesStay : Type 0
QuotesStay = (q : List ℕ) → is_within_line (quoted q) ≡ true

-- ---- a text is its lines

abbrev pub before_first : ℕ → List (List ℕ) → List (List ℕ)
before_first byte [] = (byte ∷ []) ∷ []
before_first byte (line ∷ lines) = (byte ∷ line) ∷ lines

-- a text cut behind each newline; what is behind the last one, if anything, is a piece too
unfoldable pub cut_lines : List ℕ → List (List ℕ)
cut_lines [] = []
cut_lines (byte ∷ bytes) = if byte == 10 then (byte ∷ []) ∷ cut_lines bytes else before_first byte (cut_lines bytes)

-- a line, if there is one
abbrev pub if_any : List ℕ → List (List ℕ)
if_any [] = []
if_any (byte ∷ bytes) = (byte ∷ bytes) ∷ []

-- those of the first n items, each of which has one or none
abbrev pub item_lines : Manner → Contents → ℕ → List (List ℕ)
item_lines how d zero = []
item_lines how d (suc k) = item_lines how d k ++ if_any (entry_at how d k).text

-- how many bytes STOP left, and how the reading ended
abbrev pub ending_pieces : Ending → List (List ℕ)
ending_pieces (ending.Closed kept c) = if_any (kept_line kept) ++ if_any (closing_line c)
ending_pieces (ending.Unsure offset) = unsure_line offset ∷ []

abbrev pub last_pieces : Manner → Contents → CallsEnd → List (List ℕ)
last_pieces how d e =
    if_any (begins_text (document_bytes d))
    ++ (totals_line (entries how d e.place).imports (entries how d e.place).calls ∷ ending_pieces (ending_in how.holes e.ending))

-- cut behind its newlines, a text is the line of each item that has one, in order, and the last lines: no name and no text of a pickle makes
-- a line of its own
abbrev pub TextIsItsLines : Type 0
TextIsItsLines = (how : Manner) (d : Contents) → cut_lines (calls how d).text ≡ item_lines how d (calls_end d).place ++ last_pieces how d (calls_end d)

-- ---- what a line says

-- what is in quotes is read back, whatever is behind it
abbrev pub QuotesReadBack : Type 0
QuotesReadBack = (p q x y : List ℕ) → AreBytes p → AreBytes q → quoted p ++ x ≡ quoted q ++ y → (p ≡ q) × (x ≡ y)

-- an event whose line is no other's: what was made is there, something went in where that is shown, and the numbers are below 2^64
abbrev pub HasOwnLine : List Object → Event → Type 0
HasOwnLine heap (event.Made id) = ((o : Object) × (slice_get heap id ≡ Some o)) × (id < 2 ^ 64)
HasOwnLine heap (event.State value target) = target < 2 ^ 64
HasOwnLine heap (event.Filled f count target) = (f ≢ filling.Build) × ((count < 2 ^ 64) × (target < 2 ^ 64))

-- two events are of one kind, of the same object, and said in the same words
abbrev pub AreOne : Naming → List Object → Event → Naming → List Object → Event → Type 0
AreOne m heap (event.Made i) n other (event.Made j) = (i ≡ j) × (made_at m heap i ≡ made_at n other j)
AreOne m heap (event.State v i) n other (event.State w j) = (i ≡ j) × (value_text m heap v ≡ value_text n other w)
AreOne m heap (event.Filled f a i) n other (event.Filled g b j) = (f ≡ g) × ((a ≡ b) × (i ≡ j))
AreOne m heap e n other f = ⊥

-- two events with one line are one
abbrev pub OneLineOneEvent : Type 0
OneLineOneEvent = (x y : ℕ) (m n : Naming) (heap other : List Object) (e f : Event) → x < 2 ^ 64 → y < 2 ^ 64 → HasOwnLine heap e → HasOwnLine other f
    → event_line x m heap e ≡ event_line y n other f → (x ≡ y) × AreOne m heap e n other f

-- ---- imports

-- the two names by which an object is imported
abbrev pub names_by_kind : List Object → Kind → List ℕ → Option Pair
names_by_kind heap (kind.Global names) parts = Some (global_pair names.first names.second)
names_by_kind heap kind.StackGlobal parts = Some (stack_pair heap parts)
names_by_kind heap _ parts = None

abbrev pub names_of : List Object → Object → Option Pair
names_of heap o = names_by_kind heap o.kind o.parts

-- a text can be read, as this
abbrev pub IsRead : Option Spelled → List ℕ → Type 0
IsRead (Some s) text = ((decode_all s.coding s.bytes).good ≡ true) × ((decode_all s.coding s.bytes).value ≡ text)
IsRead None text = ⊥

abbrev pub two_quoted : List ℕ → List ℕ → List ℕ
two_quoted from name = quoted from ⧺ codes " " ⧺ quoted name

-- the member that is imported: another, or the one that the names say
abbrev pub member_of : Option (List ℕ) → List ℕ → List ℕ
member_of (Some other) name = other
member_of None name = name

-- an import by these names; while they are names of Python 2, what Python 3 imports for them comes first, where that is another
abbrev pub import_said : Bool → Option NewPair → List ℕ → List ℕ → List ℕ
import_said old None from name = two_quoted from name
import_said old (Some i) from name = if old then two_quoted i.from (member_of i.name name) ⧺ codes " for " ⧺ two_quoted from name else two_quoted from name

-- an accepted item that imports an object by names which can be read has exactly the line with these names
abbrev pub LineOfImport : Type 0
LineOfImport = (how : Manner) (d : Contents) (k : ℕ) (s t : State) (o : Object) (p : Pair) (from name : List ℕ) → IsStep d k s t
    → slice_get t.heap (length s.heap) ≡ Some o
    → names_of t.heap o ≡ Some p → IsRead p.from from → IsRead p.name name
    → (entry_at how d k).text ≡ right_aligned 5 (decimal (in_file how.holes (offset_of d k))) ⧺ codes ": "
    ⧺ (codes "import " ⧺ import_said (naming_at how.detail d k).old (pair_renamed p) from name ⧺ codes " as " ⧺ id_text (length s.heap)) ⧺ newline

-- the names of the class that INST imports and calls at once
abbrev pub inst_names : Kind → Option Pair
inst_names (kind.Inst names) = Some (inst_pair names.first names.second)
inst_names _ = None

-- what INST says by these names: the class as an import says it, and the arguments
abbrev pub inst_said : Naming → List Object → Pair → List ℕ → List ℕ → List ℕ → List ℕ
inst_said m heap p from name parts = codes "inst " ⧺ import_said m.old (pair_renamed p) from name ⧺ codes " " ⧺ briefs_text m heap parts

-- an accepted item that imports a class by names which can be read, and calls it, has exactly the line with these names
abbrev pub LineOfInst : Type 0
LineOfInst = (how : Manner) (d : Contents) (k : ℕ) (s t : State) (o : Object) (p : Pair) (from name : List ℕ) → IsStep d k s t
    → slice_get t.heap (length s.heap) ≡ Some o
    → inst_names o.kind ≡ Some p → IsRead p.from from → IsRead p.name name
    → (entry_at how d k).text ≡ right_aligned 5 (decimal (in_file how.holes (offset_of d k))) ⧺ codes ": "
    ⧺ (inst_said (naming_at how.detail d k) t.heap p from name o.parts ⧺ codes " as " ⧺ id_text (length s.heap)) ⧺ newline
