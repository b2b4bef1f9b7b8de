-- Items that are run up to one whose line is wanted.
use Rattle.std.proofs.Common.{◌≡◌, ℕ, suc, ◌+◌, ◌≤◌, Bool, true, false, List, [], length, drop, Option, Some, None, Ok, refl, sym, ap, subst, ◌∙◌, add-one, length-append, arith}
use Rattle.std.specs.Prelude.{MatchBool}
use Rattle.std.proofs.lemmas.Option.{slice_get_past}
use Rattle.std.proofs.lemmas.List.{length-drop}
use Rattle.pickle_io.specs.Holes.{in_file}
use Rattle.pickle_ops.specs.Spelling.{Operation, size_of, spelling}
use Rattle.pickle_ops.specs.declared.row.Row.{Row}
use Rattle.pickle_ops.specs.Row.{row_of}
use Rattle.pickle_doc.specs.declared.fault.TailFault.{TailFault}
use Rattle.pickle_doc.specs.DocUnit.{is_stop, ends_reading}
use Rattle.pickle_doc.specs.Document.{Contents, ReadsAs, size_limit}
use Rattle.pickle_doc.specs.Place.{ops_of, item_at, offset_of}
use Rattle.pickle_doc.specs.Tail.{HasTailFault}
use Rattle.pickle_doc.specs.Fitting.{left_behind}
use Rattle.pickle_doc.specs.Unread.{IsNextItem, Unread}
use Rattle.pickle_doc.specs.Stream.{HasRead, IsDone, IsItemAt}
use Rattle.pickle_doc.proofs.Streams.{stands_first, item_in, fault_in}
use Rattle.pickle_machine.specs.declared.refusal.Refusal.{Refusal}
use Rattle.pickle_machine.specs.State.{State, start}
use Rattle.pickle_machine.specs.Move.{move, next, refusal_at, fresh}
use Rattle.pickle_machine.specs.Run.{run}
use Rattle.pickle_calls.specs.declared.event.Event.{Event}
use Rattle.pickle_calls.specs.declared.naming.Naming.{Naming}
use Rattle.pickle_calls.specs.declared.naming.Detail.TheVariants as detail
use Rattle.pickle_calls.specs.Event.{before_of, event_of}
use Rattle.pickle_calls.specs.CallsLine.{line_of}
use Rattle.pickle_calls.specs.Manner.{whole}
use Rattle.pickle_calls.specs.Naming.{begin, naming_after}
use Rattle.pickle_calls.specs.Telling.{for_people}
use Rattle.pickle_calls.specs.Calls.{naming_at, CountedText, counted_text, entry_on, entry_in}
use Rattle.pickle_text.proofs.Runs.{run_nothing}
use Rattle.pickle_text.proofs.Moves.{refused_move}
use Rattle.pickle_text.proofs.Places.{offset_next, length-bytes_of, run-suc, stuck_behind, ops_within}
use Rattle.pickle_calls.proofs.Walking.{entry_is, event_by, accepted}
use Rattle.pickle_gate.specs.Line.{line_at}

-- the first k items of a pickle were run, this many bytes of it, and this is the state and how names are read there
pub record Stands (d : Contents) (k offset : ℕ) (rest : List ℕ) (left : ℕ) (s : State) (m : Naming) : Type 0 where
  pub has_read : HasRead d k rest left
  pub reached : run (start d.many) (ops_of d) k ≡ Some s
  pub offset_is : offset ≡ offset_of d k
  pub naming : m ≡ naming_at detail.Cut d k

pub stands_at_first : (bytes : List ℕ) (d : Contents) → length bytes ≤ size_limit → ReadsAs false bytes d → Stands d 0 0 bytes 0 (start false) (begin detail.Cut 0)
stands_at_first bytes d small reads = record {
  has_read = stands_first false false bytes d (omega (arith, small)) reads;
  reached = run_nothing (start d.many) (ops_of d) ∙ ap (λ (b : Bool). Some (start b)) reads.mode;
  offset_is = refl;
  naming = refl;
}

-- ---- no line

no_item : (d : Contents) (k : ℕ) → item_at d k ≡ None → line_at d k ≡ []
unfolding entry_in
no_item d k e = rw (e, line_at) refl

-- there are no more items
pub past_last : (d : Contents) (k : ℕ) → length (ops_of d) ≤ k → line_at d k ≡ []
past_last d k le = no_item d k (slice_get_past (ops_of d) k le)

pub past_bytes : (bytes : List ℕ) (d : Contents) (k : ℕ) → ReadsAs false bytes d → length bytes ≤ k → line_at d k ≡ []
past_bytes bytes d k reads le = past_last d k (omega (arith, le, length-bytes_of (ops_of d), ops_within d, ap length reads.whole))

pub at_tail : (d : Contents) (k place left : ℕ) (rest : List ℕ) (f : TailFault) → d.loose ≡ false → HasRead d k rest left → HasTailFault false left rest f → k ≤ place
    → line_at d place ≡ []
at_tail d k place left rest f framed h fault le =
    let done : IsDone d k rest (Some f) = fault_in false d k left rest f framed h fault in
    past_last d place (omega (arith, le, done.all))

goes_on : (d : Contents) (k left : ℕ) (rest : List ℕ) (o : Operation) → d.many ≡ false → IsItemAt d k o (drop (size_of o) rest) (left_behind false left o)
    → MatchBool (ends_reading false o.opcode) (IsDone d (k + 1) (drop (size_of o) rest) None) (HasRead d (k + 1) (drop (size_of o) rest) (left_behind false left o))
goes_on d k left rest o one g =
    subst (λ (x : Bool). MatchBool (ends_reading x o.opcode) (IsDone d (k + 1) (drop (size_of o) rest) None) (HasRead d (k + 1) (drop (size_of o) rest) (left_behind false left o))) one g.goes

pub behind_stop : (d : Contents) (k place left : ℕ) (rest : List ℕ) (o : Operation) → d.loose ≡ false → d.many ≡ false → HasRead d k rest left → IsNextItem false left rest o (size_of o)
    → is_stop o.opcode ≡ true → suc k ≤ place → line_at d place ≡ []
behind_stop d k place left rest o framed one h n stop le =
    let g : IsItemAt d k o (drop (size_of o) rest) (left_behind false left o) = item_in false d k left rest o (size_of o) framed h n in
    let hit : ends_reading false o.opcode ≡ true = rw stop refl in
    let done : IsDone d (k + 1) (drop (size_of o) rest) None = rw hit at (goes_on d k left rest o one g) in
    past_last d place (omega (arith, le, done.all))

stuck_text : (offset : ℕ) (m : Naming) (o : Option Operation) (s : Option State) → (entry_on for_people offset m o s None).text ≡ []
stuck_text offset m (Some o) (Some s) = refl
stuck_text offset m (Some o) None = refl
stuck_text offset m None s = refl

stuck : (d : Contents) (k place : ℕ) → run (start d.many) (ops_of d) (suc k) ≡ None → k ≤ place → line_at d place ≡ []
unfolding entry_in
stuck d k place e le =
    let later : run (start d.many) (ops_of d) (suc place) ≡ None = stuck_behind (start d.many) (ops_of d) (suc k) (suc place) (omega (arith, le)) e in
    rw (later, line_at) (stuck_text (in_file [] (offset_of d place)) (naming_at detail.Cut d place) (item_at d place) (run (start d.many) (ops_of d) place))

-- an item before it is refused, or it is itself
pub at_refused : (d : Contents) (k place offset left : ℕ) (rest : List ℕ) (o : Operation) (s : State) (m : Naming) (r : Refusal) → d.loose ≡ false → Stands d k offset rest left s m
    → IsNextItem false left rest o (size_of o) → refusal_at o s ≡ Some r → k ≤ place → line_at d place ≡ []
at_refused d k place offset left rest o s m r framed w n f le =
    let g : IsItemAt d k o (drop (size_of o) rest) (left_behind false left o) = item_in false d k left rest o (size_of o) framed w.has_read n in
    let none : run (start d.many) (ops_of d) (suc k) ≡ None = run-suc (start d.many) (ops_of d) k o s g.there w.reached ∙ rw (refused_move o k s r f) refl in
    stuck d k place none le

-- ---- the line

event_is : (o : Operation) (k : ℕ) (s t : State) → move o k s ≡ Ok t → event_of (row_of o) (before_of s) t ≡ event_of (row_of o) (before_of (fresh s)) t
event_is o k s t e = event_by s.stopped (row_of o) s t (accepted (refusal_at o s) (next o k s) t e)

pub at_item : (d : Contents) (k offset left : ℕ) (rest : List ℕ) (o : Operation) (s t : State) (m : Naming) (line : List ℕ) → d.loose ≡ false → Stands d k offset rest left s m
    → IsNextItem false left rest o (size_of o) → move o k s ≡ Ok t → line ≡ line_of (in_file [] offset) m t.heap (event_of (row_of o) (before_of s) t) → line ≡ line_at d k
at_item d k offset left rest o s t m line framed w n moves is =
    let g : IsItemAt d k o (drop (size_of o) rest) (left_behind false left o) = item_in false d k left rest o (size_of o) framed w.has_read n in
    let after : run (start d.many) (ops_of d) (suc k) ≡ Some t = rw (run-suc (start d.many) (ops_of d) k o s g.there w.reached, moves) refl in
    is
    ∙ ap (λ (e : Option Event). line_of (in_file [] offset) m t.heap e) (event_is o k s t moves)
    ∙ ap (λ (n : ℕ). line_of (in_file [] n) m t.heap (event_of (row_of o) (before_of (fresh s)) t)) w.offset_is
    ∙ ap (λ (x : Naming). line_of (in_file [] (offset_of d k)) x t.heap (event_of (row_of o) (before_of (fresh s)) t)) w.naming
    ∙ sym (ap (λ (e : CountedText). e.text) (entry_is for_people (whole detail.Cut) d k o s t g.there w.reached after))

-- ---- one item more

pub stands_next : (d : Contents) (k offset left : ℕ) (rest : List ℕ) (o : Operation) (s t : State) (m : Naming) → d.loose ≡ false → d.many ≡ false → Stands d k offset rest left s m
    → IsNextItem false left rest o (size_of o) → is_stop o.opcode ≡ false → move o k s ≡ Ok t
    → Stands d (k + 1) (offset + size_of o) (drop (size_of o) rest) (left_behind false left o) t (naming_after (row_of o) (length t.heap) m)
stands_next d k offset left rest o s t m framed one w n stop moves =
    let g : IsItemAt d k o (drop (size_of o) rest) (left_behind false left o) = item_in false d k left rest o (size_of o) framed w.has_read n in
    let after : run (start d.many) (ops_of d) (suc k) ≡ Some t = rw (run-suc (start d.many) (ops_of d) k o s g.there w.reached, moves) refl in
    let named : naming_at detail.Cut d (suc k) ≡ naming_after (row_of o) (length t.heap) (naming_at detail.Cut d k) = rw (g.there, after) refl in
    let miss : ends_reading false o.opcode ≡ false = rw stop refl in
    record {
      has_read = rw miss at (goes_on d k left rest o one g);
      reached = rw (add-one k) after;
      offset_is = rw w.offset_is (sym (offset_next d k o g.there));
      naming = rw (add-one k) (ap (λ (x : Naming). naming_after (row_of o) (length t.heap) x) w.naming ∙ sym named);
    }

-- ---- what is read

-- what `next` says of an item
abbrev pub Read : Unread → Unread → Operation → Type 0
Read old new o =
    IsNextItem old.loose old.left old.rest o (size_of o)
    × (new ≡ record { loose = old.loose; rest = drop (size_of o) old.rest; left = left_behind old.loose old.left o })

-- an item is taken off the bytes
pub taken_off : {loose : Bool} {left : ℕ} (rest : List ℕ) (o : Operation) → IsNextItem loose left rest o (size_of o) → size_of o + length (drop (size_of o) rest) ≡ length rest
taken_off rest o n =
    let all : length rest ≡ length (spelling o) + length n.rest = ap length n.spelled ∙ length-append (spelling o) n.rest in
    omega (arith, all, length-drop (size_of o) rest)
