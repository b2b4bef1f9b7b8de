-- The lines of an import and of INST.
use Rattle.std.proofs.Common.{◌≡◌, ℕ, Bool, true, List, [], length, Option, Some, None, refl, ap, ap₂, ◌∙◌, inl, arith}
use Rattle.std.specs.Prelude.{slice_get, codes, decimal, if◌then◌else◌}
use Rattle.std.specs.Option.{option_map_or}
use Rattle.std.proofs.lemmas.Option.{slice_get_past}
use Rattle.pickle_io.specs.Text.{◌⧺◌, quoted}
use Rattle.pickle_names.specs.Value.{decode_all, raw_text, whole_text}
use Rattle.pickle_ops.specs.declared.kind.Kind.{Kind}
use Rattle.pickle_ops.specs.declared.kind.Kind.TheVariants as kind
use Rattle.pickle_ops.specs.Object.{Object}
use Rattle.pickle_ops.specs.Kind.{is_opaque}
use Rattle.pickle_ops.specs.Row.{row_of}
use Rattle.pickle_doc.specs.Document.{Contents}
use Rattle.pickle_doc.specs.Place.{offset_of}
use Rattle.pickle_machine.specs.State.{State}
use Rattle.pickle_machine.specs.Move.{fresh}
use Rattle.pickle_machine.proofs.HeapGrowth.{fresh_heap}
use Rattle.pickle_text.specs.Column.{right_aligned, newline}
use Rattle.pickle_text.specs.Words.{id_text}
use Rattle.pickle_calls.specs.declared.event.Event.TheVariants as event
use Rattle.pickle_io.specs.Holes.{in_file}
use Rattle.pickle_calls.specs.Manner.{Manner}
use Rattle.pickle_calls.specs.declared.naming.Naming.{Naming}
use Rattle.pickle_calls.specs.Event.{made_event, is_view}
use Rattle.pickle_calls.specs.Naming.{Spelled, Pair, NewPair, member_text, said_text, pair_text, pair_renamed, import_text, import_for, names_by, names_text}
use Rattle.pickle_calls.specs.CallsLine.{inst_text, made_words, made_text, event_text, event_line, line_of}
use Rattle.pickle_calls.specs.Brief.{briefs_text}
use Rattle.pickle_calls.specs.Telling.{for_people}
use Rattle.pickle_calls.specs.Calls.{CountedText, naming_at, entry_at}
use Rattle.calls_laws.specs.CallsLaws.{IsStep}
use Rattle.calls_laws.specs.LineLaws.{names_by_kind, inst_names, IsRead, two_quoted, member_of, import_said, inst_said, LineOfImport, LineOfInst}
use Rattle.pickle_calls.proofs.Walking.{entry_is}
use Rattle.calls_laws.proofs.Exact.{pushed_by, made_here, or_true, item_event, item_of_step}

-- ---- the event

-- an item that makes an object which comes from elsewhere has the line of that
line_of_made : (how : Manner) (d : Contents) (k : ℕ) (s t : State) (o : Object) → IsStep d k s t → slice_get t.heap (length s.heap) ≡ Some o → is_opaque o.kind ≡ true
    → (entry_at how d k).text ≡ event_line (in_file how.holes (offset_of d k)) (naming_at how.detail d k) t.heap (event.Made (length s.heap))
line_of_made how d k s t o step there opaque =
    let i = item_of_step d k s t step in
    let size : length (fresh s).heap ≡ length s.heap = ap (λ (l : List Object). length l) (fresh_heap s) in
    let none : slice_get (fresh s).heap (length s.heap) ≡ None = ap (λ (l : List Object). slice_get l (length s.heap)) (fresh_heap s) ∙ slice_get_past s.heap (length s.heap) (omega arith) in
    let made = pushed_by (row_of i.0) (fresh s) t (length s.heap) o i.2 there none in
    let here : item_event i.0 s t ≡ Some (event.Made (length s.heap)) =
    made.1 ∙ ap (made_event t.heap) size ∙ made_here t.heap (length s.heap) o there (or_true (is_opaque o.kind) (is_view t.heap o) (inl opaque)) in
    ap (λ (c : CountedText). c.text) (entry_is for_people how d k i.0 s t i.1 step.before step.after) ∙ ap (line_of (in_file how.holes (offset_of d k)) (naming_at how.detail d k) t.heap) here

made_line : (offset : ℕ) (m : Naming) (heap : List Object) (id : ℕ) (o : Object) → slice_get heap id ≡ Some o
    → event_line offset m heap (event.Made id) ≡ right_aligned 5 (decimal offset) ⧺ codes ": " ⧺ (made_words m heap o.kind o.parts ⧺ codes " as " ⧺ id_text id) ⧺ newline
unfolding event_line event_text made_text
made_line offset m heap id o e = ap (λ (x : Option Object). right_aligned 5 (decimal offset) ⧺ codes ": " ⧺ option_map_or (made_text m heap id) x [] ⧺ newline) e

-- ---- the names

said_is : (x : Option Spelled) (id : ℕ) (text : List ℕ) → IsRead x text → said_text x id ≡ quoted text
unfolding said_text whole_text
said_is (Some s) id text h = ap (λ (b : Bool). if b then quoted (decode_all s.coding s.bytes).value else raw_text s.bytes) h.0 ∙ ap quoted h.1
said_is None id text h = absurd h

pair_is : (p : Pair) (from name : List ℕ) → IsRead p.from from → IsRead p.name name → pair_text p ≡ two_quoted from name
unfolding pair_text
pair_is p from name h k = ap₂ (λ (a b : List ℕ). a ⧺ codes " " ⧺ b) (said_is p.from p.from_id from h) (said_is p.name p.name_id name k)

member_is : (x : Option (List ℕ)) (p : Pair) (name : List ℕ) → IsRead p.name name → member_text x p ≡ quoted (member_of x name)
member_is (Some other) p name k = refl
member_is None p name k = said_is p.name p.name_id name k

for_is : (i : NewPair) (p : Pair) (from name : List ℕ) → IsRead p.name name → pair_text p ≡ two_quoted from name
    → import_for i p ≡ two_quoted i.from (member_of i.name name) ⧺ codes " for " ⧺ two_quoted from name
unfolding import_for import_text
for_is i p from name k e = ap₂ (λ (m t : List ℕ). (quoted i.from ⧺ codes " " ⧺ m) ⧺ codes " for " ⧺ t) (member_is i.name p name k) e

names_are : (m : Naming) (p : Pair) (from name : List ℕ) → IsRead p.from from → IsRead p.name name → names_text m None p ≡ import_said m.old (pair_renamed p) from name
unfolding names_text
names_are m p from name h k = go (pair_renamed p)
  where
    pair : pair_text p ≡ two_quoted from name
    pair = pair_is p from name h k

    go : (x : Option NewPair) → names_by m None x p ≡ import_said m.old x from name
    go None = pair
    go (Some i) = ap₂ (λ (a b : List ℕ). if m.old then a else b) (for_is i p from name k pair) pair

words_are : (m : Naming) (heap : List Object) (k : Kind) (parts : List ℕ) (p : Pair) → names_by_kind heap k parts ≡ Some p → made_words m heap k parts ≡ codes "import " ⧺ names_text m None p
unfolding made_words
words_are m heap (kind.Global names) parts p e = ap (λ (q : Pair). codes "import " ⧺ names_text m None q) (inside _ p e)
  where
    inside : (a b : Pair) → Some a ≡ Some b → a ≡ b
    inside a b e = cc
words_are m heap kind.StackGlobal parts p e = ap (λ (q : Pair). codes "import " ⧺ names_text m None q) (inside _ p e)
  where
    inside : (a b : Pair) → Some a ≡ Some b → a ≡ b
    inside a b e = cc
words_are m heap _ parts p e = absurd cc

from_elsewhere : (heap : List Object) (k : Kind) (parts : List ℕ) (p : Pair) → names_by_kind heap k parts ≡ Some p → is_opaque k ≡ true
from_elsewhere heap (kind.Global names) parts p e = refl
from_elsewhere heap kind.StackGlobal parts p e = refl
from_elsewhere heap _ parts p e = absurd cc

pub line_of_import : LineOfImport
line_of_import how d k s t o p from name step there names h n =
    let id : ℕ = length s.heap in
    let m : Naming = naming_at how.detail d k in
    let words : made_words m t.heap o.kind o.parts ≡ codes "import " ⧺ import_said m.old (pair_renamed p) from name =
    words_are m t.heap o.kind o.parts p names ∙ ap (λ (w : List ℕ). codes "import " ⧺ w) (names_are m p from name h n) in
    line_of_made how d k s t o step there (from_elsewhere t.heap o.kind o.parts p names) ∙ made_line (in_file how.holes (offset_of d k)) m t.heap id o there
    ∙ ap (λ (w : List ℕ). right_aligned 5 (decimal (in_file how.holes (offset_of d k))) ⧺ codes ": " ⧺ (w ⧺ codes " as " ⧺ id_text id) ⧺ newline) words

-- ---- INST

inst_words : (m : Naming) (heap : List Object) (k : Kind) (parts : List ℕ) (p : Pair) (from name : List ℕ) → inst_names k ≡ Some p → IsRead p.from from → IsRead p.name name
    → made_words m heap k parts ≡ inst_said m heap p from name parts
unfolding made_words inst_text
inst_words m heap (kind.Inst names) parts p from name e h n =
    ap (λ (q : Pair). codes "inst " ⧺ names_text m None q ⧺ codes " " ⧺ briefs_text m heap parts) (inside _ p e)
    ∙ ap (λ (w : List ℕ). codes "inst " ⧺ w ⧺ codes " " ⧺ briefs_text m heap parts) (names_are m p from name h n)
  where
    inside : (a b : Pair) → Some a ≡ Some b → a ≡ b
    inside a b e = cc
inst_words m heap _ parts p from name e h n = absurd cc

inst_from_elsewhere : (k : Kind) (p : Pair) → inst_names k ≡ Some p → is_opaque k ≡ true
inst_from_elsewhere (kind.Inst names) p e = refl
inst_from_elsewhere _ p e = absurd cc

pub line_of_inst : LineOfInst
line_of_inst how d k s t o p from name step there names h n =
    let id : ℕ = length s.heap in
    let m : Naming = naming_at how.detail d k in
    line_of_made how d k s t o step there (inst_from_elsewhere o.kind p names) ∙ made_line (in_file how.holes (offset_of d k)) m t.heap id o there
    ∙ ap (λ (w : List ℕ). right_aligned 5 (decimal (in_file how.holes (offset_of d k))) ⧺ codes ": " ⧺ (w ⧺ codes " as " ⧺ id_text id) ⧺ newline)
    (inst_words m t.heap o.kind o.parts p from name names h n)
