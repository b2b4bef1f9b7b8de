-- The loop that lists items as they are read.
use Rattle.std.proofs.Common.{◌≡◌, ℕ, suc, ◌+◌, ◌<◌, ◌≤◌, ◌==◌, ◌&&◌, ◌||◌, Bool, true, false, List, [], ◌++◌, length, drop, Option, Some, None, Ok, refl, sym, ap, ◌∙◌, add-one, subst, arith}
use Rattle.std.specs.Prelude.{not, take, ⊤, Result, Err, IfOk, IfErr, MatchBool, if◌then◌else◌}
use Rattle.std.specs.Option.{option_map}
use Rattle.std.proofs.lemmas.List.{take_all, append-nil, length-map}
use Rattle.std.proofs.Common.{length-append}
use Rattle.pickle_ops.specs.declared.opcode.Opcode.{Opcode}
use Rattle.pickle_ops.specs.declared.opcode.Opcode.TheVariants as op
use Rattle.pickle_io.specs.Text.{◌⧺◌}
use Rattle.pickle_io.specs.declared.sink.Failed.{Failed}
use Rattle.pickle_io.specs.Device.{Told, Wrote, Broke, Writes}
use Rattle.pickle_ops.specs.Table.{protocol_of}
use Rattle.pickle_ops.specs.Spelling.{Operation, size_of, Ended}
use Rattle.pickle_io.proofs.Devices.{Wrote-none, Wrote-trans, Broke-after}
use Rattle.pickle_doc.specs.declared.item.Item.{Item}
use Rattle.pickle_doc.specs.declared.fault.TailFault.{TailFault}
use Rattle.pickle_doc.specs.declared.fault.TailFault.TheVariants as tails
use Rattle.pickle_ops.specs.declared.fault.FrontFault.TheVariants as at_front
use Rattle.pickle_doc.specs.declared.fault.Finish.{Finish}
use Rattle.pickle_doc.specs.declared.fault.Finish.TheVariants as finish
use Rattle.pickle_doc.specs.DocUnit.{sizes, is_stop, ends_reading}
use Rattle.pickle_doc.specs.Document.{Contents, items_of, document_bytes, ReadsIn, size_limit, ends_with_stop, finish_of}
use Rattle.pickle_doc.specs.Tail.{HasTailFault}
use Rattle.pickle_doc.specs.Fitting.{left_behind}
use Rattle.pickle_doc.specs.Unread.{IsNextItem}
use Rattle.pickle_doc.specs.Place.{ops_of, item_at, tail_offset}
use Rattle.pickle_ops.specs.declared.kind.Kind.{Kind}
use Rattle.pickle_ops.specs.declared.row.Row.{Row}
use Rattle.pickle_ops.specs.declared.row.Row.TheVariants as row
use Rattle.pickle_ops.specs.Object.{Object}
use Rattle.pickle_ops.specs.Row.{row_of, kind_of}
use Rattle.pickle_machine.specs.declared.refusal.Refusal.{Refusal}
use Rattle.pickle_machine.specs.State.{State, Marked, start, stack_size}
use Rattle.pickle_machine.specs.Run.{run}
use Rattle.pickle_machine.specs.Move.{move, outcome, next_of, refusal_of, refusal_at, takes_mark, fresh}
use Rattle.pickle_machine.proofs.HeapGrowth.{fresh_heap}
use Rattle.pickle_machine.specs.Outline.{outline, plain, bared}
use Rattle.pickle_doc.specs.Stream.{HasRead, IsDone, IsItemAt}
use Rattle.pickle_machine.proofs.Outlines.{refusals_read_outlines, moves_read_outlines, fresh_reads_outlines}
use Rattle.pickle_doc.proofs.Ends.{finish_at, finish_stopped}
use Rattle.pickle_doc.proofs.Streams.{stands_first, item_in, fault_is, fault_in}
use Rattle.pickle_list.specs.declared.note.Note.{Note}
use Rattle.pickle_list.specs.declared.note.Note.TheVariants as note
use Rattle.pickle_text.proofs.Runs.{last_taken}
use Rattle.pickle_text.specs.declared.stop.TextStop.{TextStop}
use Rattle.pickle_text.specs.ReportLine.{fault_line}
use Rattle.pickle_list.specs.ArgTexts.{ArgTexts}
use Rattle.pickle_list.specs.Line.{item_line_in, refused_line, left_line, protocol_line, raised}
use Rattle.pickle_text.specs.Closing.{kept_line}
use Rattle.pickle_list.specs.Listing.{note_with, note_unless, key_note, line_at_in, left_by, lines_in, end_lines, end_status}
use Rattle.pickle_list.specs.Inside.Marks.{last_element, followed}
use Rattle.pickle_list.specs.Inside.Answer.{IsAnswer}
use Rattle.pickle_text.specs.Inside.Part.{IsPart}
use Rattle.pickle_list.specs.Inside.Listed.{Progress, Listed}
use Rattle.pickle_text.specs.declared.part.Part.{Part}
use Rattle.pickle_text.specs.declared.part.Part.TheVariants as part
use Rattle.pickle_list.specs.Written.{IsListedIn, BreaksListingIn, BeginsListingIn, CutsListingIn}
use Rattle.pickle_list.proofs.Listings.{Progress-none, Progress-more, Progress-fresh, line_is, begun_so_far, broken_so_far, broken_lines, EndsWith, line_first, refused, ended, end_breaks, end_written, offset_within}
use Rattle.pickle_text.proofs.Places.{within, place_within, ops_within, length-bytes_of}
use Rattle.pickle_list.proofs.Lines.{lines_with, lines-zero, lines-suc}
use Rattle.pickle_list.proofs.Stops.{none_last, neither, no_bytes, stays_fresh, last_of_all}

-- ---- what is listed so far

pub listed_none : {args : ArgTexts} {loose : Bool} (many : Bool) (bytes : List ℕ) (a : Told) → (some : (d : Contents) × ReadsIn many loose bytes d) → length bytes ≤ size_limit → Listed args many loose bytes a a bytes 0 0 0 (start many) [] None
listed_none {args} many bytes a some small = record {
  d = some.0;
  reads = some.1;
  stands = stands_first many _ bytes some.0 (omega (arith, small)) some.1;
  s = start some.0.many;
  outlines = ap start some.1.mode;
  progress = Progress-none some.0;
  written = rw (lines-zero args some.0) (Wrote-none a);
  goes = none_last (length bytes == 0);
}

-- ---- item k

-- the line of an item, by the outline
abbrev pub line_of : ArgTexts → Operation → ℕ → State → List ℕ → List ℕ
line_of args o offset t opened = item_line_in args o offset (length t.marked) (note_unless (refusal_of (row_of o) t) (note_with o t (last_element opened)))

-- by its refusal
line_by : (args : ArgTexts) (o : Operation) (offset : ℕ) (t : State) (opened : List ℕ) (r : Option Refusal) → refusal_of (row_of o) t ≡ r
    → line_of args o offset t opened ≡ item_line_in args o offset (length t.marked) (note_unless r (note_with o t (last_element opened)))
line_by args o offset t opened r e = ap (λ (x : Option Refusal). item_line_in args o offset (length t.marked) (note_unless x (note_with o t (last_element opened)))) e

takes_outlined : (r : Row) (s : State) → takes_mark r (outline s) ≡ takes_mark r s
takes_outlined (row.Cut c) s = refl
takes_outlined (row.CutChange f) s = refl
takes_outlined row.PopMark s = refl
takes_outlined row.Pop s = refl
takes_outlined _ s = refl

key_outlined : (o : Opcode) (s : State) → key_note o (outline s) ≡ key_note o s
key_outlined op.Memoize s = refl
key_outlined _ s = refl

note_outlined : (o : Operation) (s : State) (x : Option ℕ) → note_with o (outline s) x ≡ note_with o s x
note_outlined o s x =
    ap (λ (b : Bool). if b then option_map note.MarkAt x else key_note o.opcode (outline s)) (takes_outlined (row_of o) s)
    ∙ ap (λ (n : Option Note). if takes_mark (row_of o) s then option_map note.MarkAt x else n) (key_outlined o.opcode s)

line_outlined : (args : ArgTexts) (o : Operation) (offset : ℕ) (s : State) (opened : List ℕ)
    → line_of args o offset (outline s) opened ≡ item_line_in args o offset (length s.marked) (note_unless (refusal_of (row_of o) s) (note_with o s (last_element opened)))
line_outlined args o offset s opened =
    ap (λ (n : Option Note). item_line_in args o offset (length s.marked) (note_unless (refusal_of (row_of o) (outline s)) n)) (note_outlined o s (last_element opened))
    ∙ ap (λ (r : Option Refusal). item_line_in args o offset (length s.marked) (note_unless r (note_with o s (last_element opened)))) (refusals_read_outlines (row_of o) s)

-- what is there: the item in the document, and its line
record There (args : ArgTexts) (d : Contents) (k offset : ℕ) (o : Operation) (t : State) (opened : List ℕ) : Type 0 where
  pub at : item_at d k ≡ Some o
  pub line : line_at_in args d k ≡ line_of args o offset t opened

there : {args : ArgTexts} {loose : Bool} {many : Bool} (bytes : List ℕ) (a b : Told) (rest : List ℕ) (left k offset : ℕ) (t : State) (opened : List ℕ) (highest : Option ℕ) (o : Operation)
    → (w : Listed args many loose bytes a b rest left k offset t opened highest) → IsNextItem loose left rest o (size_of o) → There args w.d k offset o t opened
there {args} bytes a b rest left k offset t opened highest o w n =
    let g = item_in _ w.d k left rest o (size_of o) w.reads.framing w.stands n in
    record {
      at = g.there;
      line = line_is args w.d k offset o w.s opened g.there w.progress.reached w.progress.stands w.progress.marks ∙ sym (line_outlined args o offset (fresh w.s) opened)
          ∙ ap (λ (u : State). line_of args o offset u opened) w.outlines;
    }

-- with the line of item k
pub record WithLine (args : ArgTexts) (many loose : Bool) (bytes : List ℕ) (old new : Told) (rest : List ℕ) (left k offset : ℕ) (o : Operation) (outlined : State) (opened : List ℕ) (highest : Option ℕ) : Type 0 where
  pub d : Contents
  pub reads : ReadsIn many loose bytes d
  pub gives : IsItemAt d k o (drop (size_of o) rest) (left_behind loose left o)
  pub s : State
  pub outlines : outline (fresh s) ≡ outlined
  pub progress : Progress d k offset s (fresh s).marked opened highest
  pub written : Wrote old new (lines_with args d k)

pub with_line : {args : ArgTexts} {loose : Bool} {many : Bool} (bytes : List ℕ) (a b c : Told) (rest : List ℕ) (left k offset : ℕ) (o : Operation) (t : State) (opened : List ℕ) (highest : Option ℕ)
    → Listed args many loose bytes a b rest left k offset t opened highest → IsNextItem loose left rest o (size_of o) → refusal_of (row_of o) t ≡ None
    → Wrote b c (item_line_in args o offset (length t.marked) (note_with o t (last_element opened))) → WithLine args many loose bytes a c rest left k offset o t opened highest
with_line {args} bytes a b c rest left k offset o t opened highest w n none q =
    let here = there bytes a b rest left k offset t opened highest o w n in
    let line : List ℕ = item_line_in args o offset (length t.marked) (note_with o t (last_element opened)) in
    let whole : lines_with args w.d k ≡ lines_in args w.d k ++ line = ap (λ (l : List ℕ). lines_in args w.d k ++ l) (here.line ∙ line_by args o offset t opened None none) in
    record {
      d = w.d;
      reads = w.reads;
      gives = item_in _ w.d k left rest o (size_of o) w.reads.framing w.stands n;
      s = w.s;
      outlines = w.outlines;
      progress = w.progress;
      written = rw whole (Wrote-trans a b c (lines_in args w.d k) line w.written q);
    }

pub line_breaks : {args : ArgTexts} {loose : Bool} {many : Bool} (bytes : List ℕ) (a b c : Told) (rest : List ℕ) (left k offset : ℕ) (o : Operation) (t : State) (opened : List ℕ) (highest : Option ℕ)
    → Listed args many loose bytes a b rest left k offset t opened highest → IsNextItem loose left rest o (size_of o) → refusal_of (row_of o) t ≡ None
    → Broke b c (item_line_in args o offset (length t.marked) (note_with o t (last_element opened))) → BreaksListingIn args many loose bytes a c
line_breaks {args} bytes a b c rest left k offset o t opened highest w n none q =
    let here = there bytes a b rest left k offset t opened highest o w n in
    let line : List ℕ = item_line_in args o offset (length t.marked) (note_with o t (last_element opened)) in
    let whole : lines_with args w.d k ≡ lines_in args w.d k ++ line = ap (λ (l : List ℕ). lines_in args w.d k ++ l) (here.line ∙ line_by args o offset t opened None none) in
    let front : Broke a c (lines_with args w.d k) = rw whole (Broke-after a b c (lines_in args w.d k) line w.written q) in
    (w.d, w.reads, broken_so_far args a c w.d k w.s w.progress.reached (within (ops_of w.d) k o here.at) front)

-- where nothing more is written
pub line_stops : {args : ArgTexts} {loose : Bool} {many : Bool} (bytes : List ℕ) (a b : Told) (rest : List ℕ) (left k offset : ℕ) (o : Operation) (t : State) (opened : List ℕ) (highest : Option ℕ)
    → WithLine args many loose bytes a b rest left k offset o t opened highest → BeginsListingIn args many loose bytes a b
line_stops {args} bytes a b rest left k offset o t opened highest w =
    (w.d, w.reads, begun_so_far args a b w.d k w.s w.progress.reached (within (ops_of w.d) k o w.gives.there) w.written)

-- ---- ends

-- what is left of the listing is this text
pub record Closes (args : ArgTexts) (many loose : Bool) (bytes : List ℕ) (old new : Told) (text : List ℕ) (status : ℕ) : Type 0 where
  pub d : Contents
  pub reads : ReadsIn many loose bytes d
  pub front : List ℕ
  pub written : Wrote old new front
  pub ends : EndsWith args d front text status

closed : {args : ArgTexts} {loose : Bool} {many : Bool} (bytes : List ℕ) (a b c : Told) (text : List ℕ) (status : ℕ) → Closes args many loose bytes a b text status → Wrote b c text → IsListedIn args many loose bytes a c status
closed bytes a b c text status w q = (w.d, w.reads, (end_written a b c w.d w.front text status w.ends w.written q, sym w.ends.answers))

close_breaks : {args : ArgTexts} {loose : Bool} {many : Bool} (bytes : List ℕ) (a b c : Told) (text : List ℕ) (status : ℕ) → Closes args many loose bytes a b text status → Broke b c text → BreaksListingIn args many loose bytes a c
close_breaks bytes a b c text status w q = (w.d, w.reads, end_breaks a b c w.d w.front text status w.ends w.written q)

pub closes_ok : {args : ArgTexts} {A : Type 0} {loose : Bool} {many : Bool} (more : A → Type 0) (bytes : List ℕ) (a b c : Told) (text : List ℕ) (status : ℕ) (w : Result ⊤ Failed) (r : Result (Part A ℕ) TextStop)
    → Closes args many loose bytes a b text status → Writes b c w text → IsAnswer w (part.End status) r → IfOk r (IsPart more (IsListedIn args many loose bytes a c))
closes_ok more bytes a b c text status (Ok x) r w q e = rw e (closed bytes a b c text status w q)
closes_ok more bytes a b c text status (Err x) r w q e = rw e tt

pub closes_err : {args : ArgTexts} {A : Type 0} {loose : Bool} {many : Bool} (bytes : List ℕ) (a b c : Told) (text : List ℕ) (status : ℕ) (w : Result ⊤ Failed) (r : Result (Part A ℕ) TextStop)
    → Closes args many loose bytes a b text status → Writes b c w text → IsAnswer w (part.End status) r → IfErr r (CutsListingIn args many loose bytes a c)
closes_err bytes a b c text status (Ok x) r w q e = rw e tt
closes_err bytes a b c text status (Err x) r w q e = rw e (close_breaks bytes a b c text status w q)

refusal_is : (o : Operation) (s t : State) (r : Option Refusal) → outline (fresh s) ≡ t → refusal_of (row_of o) t ≡ r → refusal_at o s ≡ r
refusal_is o s t r e f = sym (refusals_read_outlines (row_of o) (fresh s)) ∙ ap (λ (u : State). refusal_of (row_of o) u) e ∙ f

pub refused_closes : {args : ArgTexts} {loose : Bool} {many : Bool} (bytes : List ℕ) (a b : Told) (rest : List ℕ) (left k offset : ℕ) (o : Operation) (t : State) (opened : List ℕ) (highest : Option ℕ) (r : Refusal)
    → Listed args many loose bytes a b rest left k offset t opened highest → IsNextItem loose left rest o (size_of o) → refusal_of (row_of o) t ≡ Some r
    → Closes args many loose bytes a b (item_line_in args o offset (length t.marked) None ⧺ (refused_line r ⧺ protocol_line (raised highest (protocol_of o.opcode)))) 1
refused_closes {args} bytes a b rest left k offset o t opened highest r w n f =
    let here = there bytes a b rest left k offset t opened highest o w n in
    let line : List ℕ = item_line_in args o offset (length t.marked) None in
    let text : List ℕ = refused_line r ⧺ protocol_line (raised highest (protocol_of o.opcode)) in
    record {
      d = w.d;
      reads = w.reads;
      front = lines_in args w.d k;
      written = w.written;
      ends = (line_first args w.d k line text 1 (here.line ∙ line_by args o offset t opened (Some r) f)
          (refused args w.d k offset o w.s (fresh w.s).marked opened r highest w.progress here.at (refusal_is o w.s t (Some r) w.outlines f)));
    }

sizes_all : (d : Contents) (k offset : ℕ) (s : State) (ms : List Marked) (opened : List ℕ) (highest : Option ℕ) → Progress d k offset s ms opened highest → length (ops_of d) ≡ k → tail_offset d ≡ offset
sizes_all d k offset s ms opened highest p all =
    ap sizes (sym (take_all k (items_of d) (omega (arith, all, length-map (items_of d) (λ (i : Item). i.op))))) ∙ sym p.stands

pub fault_closes : {args : ArgTexts} {loose : Bool} {many : Bool} (bytes : List ℕ) (a b : Told) (rest : List ℕ) (left k offset : ℕ) (t : State) (opened : List ℕ) (highest : Option ℕ) (f : TailFault)
    → Listed args many loose bytes a b rest left k offset t opened highest → HasTailFault loose left rest f → Closes args many loose bytes a b (fault_line f offset ⧺ protocol_line highest) 1
fault_closes {args} bytes a b rest left k offset t opened highest f w h =
    let done = fault_in _ w.d k left rest f w.reads.framing w.stands h in
    let finish : finish_of w.d ≡ finish.Fault f = sym (finish_at w.d f false done.ended (last_of_all w.d k rest false done.all done.tail w.goes)) in
    let e = ended args w.d k offset w.s (fresh w.s).marked opened highest w.progress done.all in
    let at = sizes_all w.d k offset w.s (fresh w.s).marked opened highest w.progress done.all in
    record {
      d = w.d;
      reads = w.reads;
      front = lines_in args w.d k;
      written = w.written;
      ends = (record {
        whole = e.whole ∙ ap (λ (x : List ℕ). lines_in args w.d k ++ x)
            (ap (λ (x : Finish). end_lines w.d x ⧺ protocol_line highest) finish ∙ ap (λ (n : ℕ). fault_line f n ⧺ protocol_line highest) at);
        answers = e.answers ∙ ap end_status finish;
      });
    }

-- ---- a step

-- item k has moved: what is read now stands after it
pub record Moved (args : ArgTexts) (many loose : Bool) (bytes : List ℕ) (old new : Told) (rest : List ℕ) (left k offset : ℕ) (o : Operation) (outlined : State) (opened : List ℕ) (highest : Option ℕ) : Type 0 where
  pub d : Contents
  pub reads : ReadsIn many loose bytes d
  pub there : item_at d k ≡ Some o
  pub goes : MatchBool (ends_reading many o.opcode) (IsDone d (k + 1) rest None) (HasRead d (k + 1) rest left)
  pub s : State
  pub outlines : outline s ≡ outlined
  pub stays : is_stop o.opcode ≡ false → fresh s ≡ s
  pub progress : Progress d (k + 1) offset s s.marked opened highest
  pub written : Wrote old new (lines_with args d k)

moved_by : (o : Operation) (k : ℕ) (s : State) → refusal_at o s ≡ None → move o k s ≡ Ok (next_of (row_of o) (kind_of o) k (fresh s))
moved_by o k s e = ap (λ (r : Option Refusal). outcome r (next_of (row_of o) (kind_of o) k (fresh s))) e

pub moved : {args : ArgTexts} {loose : Bool} {many : Bool} (bytes : List ℕ) (a b : Told) (rest : List ℕ) (left k offset : ℕ) (o : Operation) (t u : State) (kind : Kind) (opened next : List ℕ) (highest : Option ℕ)
    → WithLine args many loose bytes a b rest left k offset o t opened highest → refusal_of (row_of o) t ≡ None → kind ≡ plain (kind_of o) → u ≡ outline (next_of (row_of o) kind k t)
    → next ≡ followed opened (length t.marked) (length u.marked) offset
    → Moved args many loose bytes a b (drop (size_of o) rest) (left_behind loose left o) k (offset + size_of o) o u next (raised highest (protocol_of o.opcode))
moved {loose = loose} bytes a b rest left k offset o t u kind opened next highest w f is e m =
    let good : refusal_at o w.s ≡ None = refusal_is o w.s t None w.outlines f in
    let after : State = next_of (row_of o) (kind_of o) k (fresh w.s) in
    let same : u ≡ outline after =
    e ∙ ap (λ (x : Kind). outline (next_of (row_of o) x k t)) is ∙ ap (λ (x : State). outline (next_of (row_of o) (plain (kind_of o)) k x)) (sym w.outlines) ∙ moves_read_outlines (row_of o) (kind_of o) k (fresh w.s) in
    let before : length t.marked ≡ length (fresh w.s).marked = ap (λ (x : State). length x.marked) (sym w.outlines) in
    let behind : length u.marked ≡ length after.marked = ap (λ (x : State). length x.marked) same in
    let follows : next ≡ followed opened (length (fresh w.s).marked) (length after.marked) offset = m ∙ ap (λ (n : ℕ). followed opened n (length u.marked) offset) before ∙ ap (λ (n : ℕ). followed opened (length (fresh w.s).marked) n offset) behind in
    record {
      d = w.d;
      reads = w.reads;
      there = w.gives.there;
      goes = subst (λ (m : Bool). MatchBool (ends_reading m o.opcode) (IsDone w.d (k + 1) (drop (size_of o) rest) None) (HasRead w.d (k + 1) (drop (size_of o) rest) (left_behind loose left o))) w.reads.mode w.gives.goes;
      s = after;
      outlines = sym same;
      stays = stays_fresh o (kind_of o) k w.s;
      progress = Progress-more w.d k offset o w.s after opened next highest w.progress w.gives.there (moved_by o k w.s good) follows;
      written = w.written;
    }

-- what the item left
left_is : (d : Contents) (k : ℕ) (o : Operation) (s : State) → item_at d k ≡ Some o → run (start d.many) (ops_of d) (k + 1) ≡ Some s
    → left_by (item_at d k) (run (start d.many) (ops_of d) (suc k)) ≡ (if is_stop o.opcode then left_line (stack_size s) (length s.marked) else [])
left_is d k o s e r = rw (e, ← add-one k, r) refl

-- the text that it left
abbrev pub left_text_of : Operation → State → List ℕ
left_text_of o t = if is_stop o.opcode then left_line (stack_size t) (length t.marked) else []

left_there : {args : ArgTexts} {loose : Bool} {many : Bool} (bytes : List ℕ) (a b : Told) (rest : List ℕ) (left k offset : ℕ) (o : Operation) (t : State) (opened : List ℕ) (highest : Option ℕ)
    → (w : Moved args many loose bytes a b rest left k offset o t opened highest) → lines_in args w.d (k + 1) ≡ lines_with args w.d k ++ left_text_of o t
left_there {args} bytes a b rest left k offset o t opened highest w =
    let some : left_by (item_at w.d k) (run (start w.d.many) (ops_of w.d) (suc k)) ≡ left_text_of o t = left_is w.d k o w.s w.there w.progress.reached ∙ ap (left_text_of o) w.outlines in
    rw (add-one k) (lines-suc args w.d k ∙ ap (λ (l : List ℕ). lines_with args w.d k ++ l) some)

-- where it is not STOP, that is nothing
pub goes_on : {args : ArgTexts} {loose : Bool} {many : Bool} (bytes : List ℕ) (a b : Told) (rest : List ℕ) (left k offset : ℕ) (o : Operation) (t : State) (opened : List ℕ) (highest : Option ℕ)
    → Moved args many loose bytes a b rest left k offset o t opened highest → is_stop o.opcode ≡ false → Listed args many loose bytes a b rest left (k + 1) offset t opened highest
goes_on {args} {many} bytes a b rest left k offset o t opened highest w miss =
    let on : ends_reading many o.opcode ≡ false = ap (λ (x : Bool). x && not many) miss in
    let none : left_text_of o t ≡ [] = ap (λ (x : Bool). if x then left_line (stack_size t) (length t.marked) else []) miss in
    let all : lines_in args w.d (k + 1) ≡ lines_with args w.d k = left_there bytes a b rest left k offset o t opened highest w ∙ ap (λ (l : List ℕ). lines_with args w.d k ++ l) none ∙ append-nil (lines_with args w.d k) in
    record {
      d = w.d;
      reads = w.reads;
      stands = rw on at w.goes;
      s = w.s;
      outlines = ap outline (w.stays miss) ∙ w.outlines;
      progress = subst (λ (s : State). Progress w.d (k + 1) offset w.s s.marked opened highest) (sym (w.stays miss)) w.progress;
      written = rw all w.written;
      goes = ap (λ (x : Bool). length rest == 0 && x) (last_taken (items_of w.d) k o w.there ∙ miss) ∙ none_last (length rest == 0);
    }

-- what STOP left
stop_there : {args : ArgTexts} {loose : Bool} {many : Bool} (bytes : List ℕ) (a b : Told) (rest : List ℕ) (left k offset : ℕ) (o : Operation) (t : State) (opened : List ℕ) (highest : Option ℕ)
    → (w : Moved args many loose bytes a b rest left k offset o t opened highest) → is_stop o.opcode ≡ true → lines_in args w.d (k + 1) ≡ lines_with args w.d k ++ left_line (stack_size t) (length t.marked)
stop_there {args} bytes a b rest left k offset o t opened highest w hit =
    left_there bytes a b rest left k offset o t opened highest w
    ∙ ap (λ (x : Bool). lines_with args w.d k ++ (if x then left_line (stack_size t) (length t.marked) else [])) hit

stop_put : {args : ArgTexts} {loose : Bool} {many : Bool} (bytes : List ℕ) (a b c : Told) (rest : List ℕ) (left k offset : ℕ) (o : Operation) (t : State) (opened : List ℕ) (highest : Option ℕ)
    → (w : Moved args many loose bytes a b rest left k offset o t opened highest) → is_stop o.opcode ≡ true → Wrote b c (left_line (stack_size t) (length t.marked))
    → Wrote a c (lines_in args w.d (k + 1))
stop_put {args} bytes a b c rest left k offset o t opened highest w hit q =
    rw (stop_there bytes a b rest left k offset o t opened highest w hit) (Wrote-trans a b c (lines_with args w.d k) (left_line (stack_size t) (length t.marked)) w.written q)

pub stop_breaks : {args : ArgTexts} {loose : Bool} {many : Bool} (bytes : List ℕ) (a b c : Told) (rest : List ℕ) (left k offset : ℕ) (o : Operation) (t : State) (opened : List ℕ) (highest : Option ℕ)
    → Moved args many loose bytes a b rest left k offset o t opened highest → is_stop o.opcode ≡ true → Broke b c (left_line (stack_size t) (length t.marked)) → BreaksListingIn args many loose bytes a c
stop_breaks {args} bytes a b c rest left k offset o t opened highest w hit q =
    let all = stop_there bytes a b rest left k offset o t opened highest w hit in
    let front : Broke a c (lines_in args w.d (k + 1)) = rw all (Broke-after a b c (lines_with args w.d k) (left_line (stack_size t) (length t.marked)) w.written q) in
    (w.d, w.reads, broken_lines args a c w.d (k + 1) w.s w.progress.reached (omega (arith, within (ops_of w.d) k o w.there)) front)

-- after STOP the next pickle begins
pub next_pickle : {args : ArgTexts} {loose : Bool} {many : Bool} (bytes : List ℕ) (a b c : Told) (rest : List ℕ) (left k offset : ℕ) (o : Operation) (t u : State) (opened after : List ℕ) (highest : Option ℕ)
    → Moved args many loose bytes a b rest left k offset o t opened highest → is_stop o.opcode ≡ true → (not many || length rest == 0) ≡ false
    → Wrote b c (left_line (stack_size t) (length t.marked)) → u ≡ outline (fresh t) → after ≡ (if t.stopped then [] else opened)
    → Listed args many loose bytes a c rest left (k + 1) offset u after highest
next_pickle {many} bytes a b c rest left k offset o t u opened after highest w hit more q e m =
    let some = neither (not many) (length rest == 0) more in
    let on : ends_reading many o.opcode ≡ false = ap (λ (x : Bool). x && not many) hit ∙ some.0 in
    let outlines : outline (fresh w.s) ≡ u = sym (fresh_reads_outlines w.s) ∙ ap (λ (x : State). outline (fresh x)) w.outlines ∙ sym e in
    let follows : (if w.s.stopped then [] else opened) ≡ after = ap (λ (x : State). if x.stopped then [] else opened) w.outlines ∙ sym m in
    let progress : Progress w.d (k + 1) offset w.s (fresh w.s).marked after highest =
    subst (λ (l : List ℕ). Progress w.d (k + 1) offset w.s (fresh w.s).marked l highest) follows (Progress-fresh w.d (k + 1) offset w.s opened highest w.progress) in
    record {
      d = w.d;
      reads = w.reads;
      stands = rw on at w.goes;
      s = w.s;
      outlines = outlines;
      progress = progress;
      written = stop_put bytes a b c rest left k offset o t opened highest w hit q;
      goes = ap (λ (x : Bool). x && ends_with_stop (take (k + 1) (items_of w.d))) some.1;
    }

-- no item stands behind this one, these bytes do, and STOP is the end
record Last (d : Contents) (k : ℕ) (rest : List ℕ) : Type 0 where
  pub all : length (ops_of d) ≡ k
  pub tail : d.tail ≡ rest
  pub finish : finish_of d ≡ finish.Stopped

stop_last : {args : ArgTexts} {loose : Bool} (many : Bool) (bytes : List ℕ) (a b : Told) (rest : List ℕ) (left k offset : ℕ) (o : Operation) (t : State) (opened : List ℕ) (highest : Option ℕ)
    → (w : Moved args many loose bytes a b rest left k offset o t opened highest) → is_stop o.opcode ≡ true → (not many || length rest == 0) ≡ true → Last w.d (k + 1) rest
stop_last false bytes a b rest left k offset o t opened highest w hit last =
    let done : IsDone w.d (k + 1) rest None = rw hit at w.goes in
    record { all = done.all; tail = done.tail; finish = sym (finish_stopped w.d done.ended) }
stop_last true bytes a b rest left k offset o t opened highest w hit last =
    let stands : HasRead w.d (k + 1) rest left = rw hit at w.goes in
    let done = fault_is w.d (k + 1) left rest (tails.Front at_front.Ended) stands (Ended, no_bytes rest last, refl) in
    let stop : (length rest == 0 && ends_with_stop (take (k + 1) (items_of w.d))) ≡ true = rw last (last_taken (items_of w.d) k o w.there ∙ hit) in
    record { all = done.all; tail = done.tail; finish = sym (finish_at w.d (tails.Front at_front.Ended) true done.ended (last_of_all w.d (k + 1) rest true done.all done.tail stop)) }

-- after STOP, where none begins
pub stop_closes : {args : ArgTexts} {loose : Bool} {many : Bool} (bytes : List ℕ) (a b c : Told) (rest : List ℕ) (left k offset : ℕ) (o : Operation) (t : State) (opened : List ℕ) (highest : Option ℕ)
    → Moved args many loose bytes a b rest left k offset o t opened highest → is_stop o.opcode ≡ true → (not many || length rest == 0) ≡ true
    → Wrote b c (left_line (stack_size t) (length t.marked)) → Closes args many loose bytes a c (kept_line (length rest) ⧺ protocol_line highest) 0
stop_closes {args} {many} bytes a b c rest left k offset o t opened highest w hit last q =
    let end = stop_last many bytes a b rest left k offset o t opened highest w hit last in
    let written = stop_put bytes a b c rest left k offset o t opened highest w hit q in
    let e = ended args w.d (k + 1) offset w.s w.s.marked opened highest w.progress end.all in
    record {
      d = w.d;
      reads = w.reads;
      front = lines_in args w.d (k + 1);
      written = written;
      ends = (record {
        whole = e.whole ∙ ap (λ (x : List ℕ). lines_in args w.d (k + 1) ++ x)
            (ap (λ (x : Finish). end_lines w.d x ⧺ protocol_line highest) end.finish ∙ ap (λ (x : List ℕ). kept_line (length x) ⧺ protocol_line highest) end.tail);
        answers = e.answers ∙ ap end_status end.finish;
      });
    }

-- ---- bounds

pub record Bounds (bytes : List ℕ) (k offset : ℕ) (o : Operation) (t : State) : Type 0 where
  pub place : k < length bytes
  pub behind : offset + size_of o ≤ length bytes
  pub marks : length t.marked ≤ k
  pub heap : length t.heap ≤ k

pub bounds : {args : ArgTexts} {loose : Bool} {many : Bool} (bytes : List ℕ) (a b : Told) (rest : List ℕ) (left k offset : ℕ) (o : Operation) (t : State) (opened : List ℕ) (highest : Option ℕ)
    → Listed args many loose bytes a b rest left k offset t opened highest → IsNextItem loose left rest o (size_of o) → Bounds bytes k offset o t
bounds bytes a b rest left k offset o t opened highest w n =
    let g = item_in _ w.d k left rest o (size_of o) w.reads.framing w.stands n in
    let size : length (document_bytes w.d) ≡ length bytes = ap length w.reads.whole in
    let outlined : length (outline (fresh w.s)).heap ≡ length t.heap = ap (λ (x : State). length x.heap) w.outlines in
    let same : length (outline (fresh w.s)).heap ≡ length w.s.heap = length-map (fresh w.s).heap bared ∙ ap (λ (h : List Object). length h) (fresh_heap w.s) in
    let marked : length (fresh w.s).marked ≡ length t.marked = ap (λ (x : State). length x.marked) w.outlines in
    record {
      place = omega (arith, place_within (ops_of w.d) k o g.there, ops_within w.d, size);
      behind = omega (arith, offset_within w.d k offset o w.s (fresh w.s).marked opened highest w.progress g.there, ops_within w.d, size);
      marks = omega (arith, w.progress.few, marked);
      heap = omega (arith, w.progress.heap, outlined, same);
    }

-- no more items were read than there are bytes
pub place_small : {args : ArgTexts} {loose : Bool} {many : Bool} (bytes : List ℕ) (a b : Told) (rest : List ℕ) (left k offset : ℕ) (t : State) (opened : List ℕ) (highest : Option ℕ)
    → Listed args many loose bytes a b rest left k offset t opened highest → k ≤ length bytes
place_small bytes a b rest left k offset t opened highest w =
    let parts : length (ops_of w.d) ≡ length w.stands.done + length w.stands.to_come = ap length w.stands.parts ∙ length-append w.stands.done w.stands.to_come in
    omega (arith, parts, w.stands.count, length-bytes_of (ops_of w.d), ops_within w.d, ap length w.reads.whole)
