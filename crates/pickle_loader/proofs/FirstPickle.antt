-- The first pickle, read with frames in a buffer: nothing is lost before its STOP, and there it is over.
use Rattle.std.proofs.Common.{◌≡◌, ◌⊎◌, ℕ, zero, suc, ◌+◌, ◌-◌, ◌^◌, ◌<◌, ◌≤◌, Bool, true, false, List, [], length, drop, Option, Some, None, Ok, Err, refl, sym, ap, subst, ◌∙◌, inl, inr, arith}
use Rattle.std.specs.Prelude.{◌&&◌, slice_get, is_some, if◌then◌else◌, Result}
use Rattle.std.proofs.lemmas.Bool.{cases_lt}
use Rattle.std.proofs.lemmas.Option.{slice_get_past}
use Rattle.pickle_ops.specs.declared.fault.FrontFault.{FrontFault}
use Rattle.pickle_ops.specs.declared.opcode.Opcode.{Opcode}
use Rattle.pickle_ops.specs.declared.opcode.Opcode.TheVariants as op
use Rattle.pickle_ops.specs.declared.kind.Kind.{Kind}
use Rattle.pickle_ops.specs.declared.row.Row.{Row}
use Rattle.pickle_ops.specs.declared.row.Row.TheVariants as row
use Rattle.pickle_ops.specs.Object.{Object}
use Rattle.pickle_ops.specs.Spelling.{Operation, size_of}
use Rattle.pickle_ops.specs.Row.{row_of, row_of_opcode, kind_of}
use Rattle.pickle_doc.specs.DocUnit.{is_stop}
use Rattle.pickle_doc.specs.Fitting.{left_behind}
use Rattle.pickle_doc.specs.Document.{Contents, IsFormed, OnlyLastStops, items_of, document_bytes}
use Rattle.pickle_doc.specs.Place.{ops_of, item_at, offset_of}
use Rattle.pickle_machine.specs.declared.refusal.Refusal.{Refusal}
use Rattle.pickle_machine.specs.declared.loader.LoaderMove.{LoaderMove}
use Rattle.pickle_machine.specs.State.{State, start}
use Rattle.pickle_machine.specs.Move.{next_of, next, fresh}
use Rattle.pickle_machine.specs.Loader.{loader_move}
use Rattle.pickle_machine.specs.Run.{run}
use Rattle.pickle_io.specs.Holes.{in_file}
use Rattle.pickle_lenient.specs.declared.taken.Frames.TheVariants as frames
use Rattle.pickle_lenient.specs.declared.taken.Taken.{Taken}
use Rattle.pickle_lenient.specs.Lenient.{Lenient, lenient}
use Rattle.pickle_lenient.specs.Stream.{plain, taken}
use Rattle.pickle_text.specs.declared.closing.Closing.TheVariants as closing
use Rattle.pickle_calls.specs.declared.event.Event.{Event}
use Rattle.pickle_calls.specs.Event.{before_of, made_as, event_of}
use Rattle.pickle_calls.specs.CallsLine.{line_of}
use Rattle.pickle_calls.specs.Manner.{Manner}
use Rattle.pickle_calls.specs.Telling.{for_people}
use Rattle.pickle_calls.specs.Calls.{CountedText, naming_at, entry_at, left_on, left_at, calls_end}
use Rattle.pickle_calls.proofs.Walking.{entry_is}
use Rattle.pickle_further.specs.declared.way.Pickles.TheVariants as pickles
use Rattle.pickle_further.specs.declared.way.Way.{Way}
use Rattle.pickle_further.specs.Going.{Standing, Going, used_op, moved_so, stopped_after, closing_after, gone_to, gone_by, going, stands_after}
use Rattle.pickle_further.specs.Parts.{ignoring, buffering, is_open}
use Rattle.pickle_loader.specs.Onward.{stands, unbuffered, NoneLost}
use Rattle.pickle_loader.specs.Text.{line_gone, parts_lines, document_lines, IsAmong}
use Rattle.pickle_loader.proofs.Still.{move_to, no_stop}
use Rattle.pickle_loader.proofs.Bytes.{run_before, last_stop}
use Rattle.pickle_doc.proofs.Ends.{stopped_last}
use Rattle.pickle_loader.proofs.Readings.{reads_item, item_taken}
use Rattle.pickle_loader.proofs.Losses.{first_is}
use Rattle.pickle_loader.proofs.Ways.{behind_is}
use Rattle.pickle_loader.proofs.Buffers.{goes_on, stood_before, stands_next, buffered_is_read}
use Rattle.pickle_loader.proofs.Streams.{Kept, Takes, takes_item}
use Rattle.pickle_loader.proofs.Streamed.{item_lost, item_left}
use Rattle.pickle_loader.proofs.Reaches.{line_some, HasEvent, IsPlainly, IsBehindLoss, plain_or_lost}
use Rattle.pickle_loader.proofs.EachReach.{no_value, First, IsReadSo, stands_so, accepted_at, EndIs, end_is, IsOver, in_parts, lost_in_parts, ignoring_reach}

abbrev w : Way
w = buffering pickles.First

-- ---- STOP

is_stop_op : (o : Opcode) → is_stop o ≡ true → o ≡ op.Stop
is_stop_op op.Stop e = refl
is_stop_op _ e = absurd cc

stop_row : (o : Operation) → is_stop o.opcode ≡ true → row_of o ≡ row.Stop
stop_row o e = ap (λ (c : Opcode). row_of_opcode c o.arg) (is_stop_op o.opcode e)

stop_makes_none : (k : Kind) (place : ℕ) (s t : State) → next_of row.Stop k place s ≡ t → event_of row.Stop (before_of s) t ≡ None
stop_makes_none k place s t e =
    let heap : t.heap ≡ s.heap = ap (λ (x : State). x.heap) (sym e) in
    let none : slice_get t.heap (length s.heap) ≡ None = ap (λ (h : List Object). slice_get h (length s.heap)) heap ∙ slice_get_past s.heap (length s.heap) (omega arith) in
    ap (made_as t.heap (length s.heap)) none

-- the line of a STOP
stop_line_none : (how : Manner) (d : Contents) (k : ℕ) (t : State) (o : Operation) → run (start d.many) (ops_of d) (suc k) ≡ Some t → item_at d k ≡ Some o → is_stop o.opcode ≡ true → (entry_at how d k).text ≡ []
stop_line_none how d k t o to here stop =
    let m = move_to (start d.many) (ops_of d) k t to in
    let same : m.item ≡ o = one_item (item_at d k) m.item o m.there here in
    let is : row_of m.item ≡ row.Stop = stop_row m.item (ap (λ (x : Operation). is_stop x.opcode) same ∙ stop) in
    let leads : next_of row.Stop (kind_of m.item) k (fresh m.before) ≡ t = ap (λ (r : Row). next_of r (kind_of m.item) k (fresh m.before)) (sym is) ∙ m.leads in
    let none : event_of (row_of m.item) (before_of (fresh m.before)) t ≡ None =
    ap (λ (r : Row). event_of r (before_of (fresh m.before)) t) is ∙ stop_makes_none (kind_of m.item) k (fresh m.before) t leads in
    ap (λ (c : CountedText). c.text) (entry_is for_people how d k m.item m.before t m.there m.reached to) ∙ ap (line_of (in_file how.holes (offset_of d k)) (naming_at how.detail d k) t.heap) none
  where
    one_item : (x : Option Operation) (a b : Operation) → x ≡ Some a → x ≡ Some b → a ≡ b
    one_item x a b e f = cc

-- ---- an item

-- what is taken of item i, where the buffer is that of the document
record Turn (d : Contents) (i : ℕ) (q : Standing) : Type 0 where
  operation : Operation
  there : item_at d i ≡ Some operation
  item : Taken
  reads : taken frames.Buffered q.at.left q.rest ≡ Ok item
  same : item.op ≡ operation
  row : item.row ≡ row_of operation
  kept : (is_stop operation.opcode ≡ true → left_behind false (left_at d i) operation ≡ 0) → Kept item (left_behind false (left_at d i) operation)

turn_at : (how : Manner) (d : Contents) (i : ℕ) (t : State) (q : Standing) → IsReadSo pickles.First d → run (start d.many) (ops_of d) (suc i) ≡ Some t → stands (ignoring pickles.First) (First how pickles.First d) i ≡ Some (unbuffered q)
    → q.at.left ≡ left_at d i → Turn d i q
turn_at how d i t q r to plain left =
    let m = move_to (start d.many) (ops_of d) i t to in
    let at = stands_so how pickles.First d i m.before (unbuffered q) r m.reached plain in
    let rest : q.rest ≡ drop (offset_of d i) (document_bytes d) = ap (λ (x : Standing). x.rest) at in
    let takes = takes_item d r.formed r.framing r.small i m.item m.there (reads_item d i m.item r.formed r.small m.there) in
    record {
      operation = m.item;
      there = m.there;
      item = takes.item;
      reads = ap (λ (k : ℕ). taken frames.Buffered k q.rest) left ∙ ap (taken frames.Buffered (left_at d i)) rest ∙ takes.is;
      same = takes.same.0;
      row = takes.same.1;
      kept = takes.kept;
    }

abbrev gone_item : Standing → Taken → Going
gone_item q item = gone_by w q (Ok item)

going_turn : (d : Contents) (i : ℕ) (q : Standing) (x : Turn d i q) → going w q ≡ gone_item q x.item
unfolding going
going_turn d i q x = ap (gone_by w q) x.reads

-- it ends at STOP
stop_ends_to : (q : Standing) (item : Taken) (m : LoaderMove) (z : Result State Refusal) → is_stop item.op.opcode ≡ true → (gone_to w q item m z).gone.closing ≡ None → ⊥
stop_ends_to q item m (Err r) stop e = absurd cc
stop_ends_to q item m (Ok t) stop e = go m.last e
  where
    go : (x : Option Refusal) → closing_after pickles.First item.op.opcode q.at.place (length (drop item.size q.rest)) x ≡ None → ⊥
    go (Some r) f = absurd cc
    go None f = let wrong : Some closing.Stopped ≡ None = sym (ap (λ (b : Bool). if b && true then Some closing.Stopped else None) stop) ∙ f in absurd cc

abbrev move_in : Standing → Operation → Row → LoaderMove
move_in q o r = loader_move o.opcode r (fresh q.state)

abbrev moved_in : Standing → Operation → Row → Result State Refusal
moved_in q o r = moved_so (move_in q o r) (used_op (move_in q o r) o) q.at.place q.state

-- ---- before STOP

record FirstAt (how : Manner) (d : Contents) (i : ℕ) (q : Standing) : Type 0 where
  none : NoneLost w (First how pickles.First d) i
  left : q.at.left ≡ left_at d i

-- the last item is STOP, and all are accepted
record Ends (d : Contents) (m : ℕ) : Type 0 where
  over : IsOver d
  size : length (ops_of d) ≡ suc m
  operation : Operation
  there : item_at d m ≡ Some operation
  stop : is_stop operation.opcode ≡ true

turn_in : (how : Manner) (d : Contents) (m i : ℕ) (q : Standing) → IsReadSo pickles.First d → Ends d m → i ≤ m → stands w (First how pickles.First d) i ≡ Some q → FirstAt how d i q → Turn d i q
turn_in how d m i q r x within there f =
    let t = run_before (start d.many) (ops_of d) (length (ops_of d)) (suc i) x.over.last x.over.runs (omega (arith, within, x.size)) in
    let plain = buffered_is_read how.detail no_value w (document_bytes d) i q there f.none in
    turn_at how d i t.0 q r t.1 plain.0 f.left

-- nothing is lost, and what is left of the buffer is what is left of the frame
record Keeps (d : Contents) (i : ℕ) (g : Going) : Type 0 where
  lost : g.gone.lost ≡ false
  left : g.gone.closing ≡ None → g.gone.left ≡ left_at d (suc i)

keeps_at : (how : Manner) (d : Contents) (m i : ℕ) (q : Standing) → IsReadSo pickles.First d → Ends d m → i < m → stands w (First how pickles.First d) i ≡ Some q → FirstAt how d i q → Keeps d i (going w q)
keeps_at how d m i q r x less there f =
    let turn = turn_in how d m i q r x (omega (arith, less)) there f in
    let after = run_before (start d.many) (ops_of d) (length (ops_of d)) (suc (suc i)) x.over.last x.over.runs (omega (arith, less, x.size)) in
    let more = move_to (start d.many) (ops_of d) (suc i) after.0 after.1 in
    let only : OnlyLastStops false (items_of d) = subst (λ (b : Bool). OnlyLastStops b (items_of d)) r.mode r.formed.last_stops in
    let goes : is_stop turn.operation.opcode ≡ false = no_stop (items_of d) i turn.operation more.item only turn.there more.there in
    let kept = turn.kept (λ e. let wrong : true ≡ false = sym e ∙ goes in absurd cc) in
    let z : Result State Refusal = moved_in q turn.item.op turn.item.row in
    let m : LoaderMove = move_in q turn.item.op turn.item.row in
    let is = going_turn d i q turn in
    record {
      lost = ap (λ (g : Going). g.gone.lost) is ∙ item_lost pickles.First q turn.item m z kept.lost;
      left = λ on.
          ap (λ (g : Going). g.gone.left) is ∙ item_left pickles.First q turn.item m z (ap (λ (g : Going). g.gone.closing) (sym is) ∙ on)
          ∙ kept.left
          ∙ ap (λ (y : Option Operation). left_on y (left_at d i)) (sym turn.there);
    }

no_next : (how : Manner) (d : Contents) (m i : ℕ) (q : Standing) → IsReadSo pickles.First d → Ends d m → i ≡ m → stands w (First how pickles.First d) i ≡ Some q → FirstAt how d i q → (going w q).gone.closing ≡ None → ⊥
no_next how d m i q r x last there f on =
    let turn = turn_in how d m i q r x (omega (arith, last)) there f in
    let same : turn.operation ≡ x.operation = one_item (item_at d i) turn.operation x.operation turn.there (ap (item_at d) last ∙ x.there) in
    let stop : is_stop turn.item.op.opcode ≡ true = ap (λ (o : Operation). is_stop o.opcode) (turn.same ∙ same) ∙ x.stop in
    stop_ends_to q turn.item (move_in q turn.item.op turn.item.row) (moved_in q turn.item.op turn.item.row) stop (ap (λ (g : Going). g.gone.closing) (sym (going_turn d i q turn)) ∙ on)
  where
    one_item : (x : Option Operation) (a b : Operation) → x ≡ Some a → x ≡ Some b → a ≡ b
    one_item x a b e f = cc

same_standing : (x : Option Standing) (a b : Standing) → x ≡ Some a → x ≡ Some b → a ≡ b
same_standing x a b e f = cc

first_at : (how : Manner) (d : Contents) (m i : ℕ) (q : Standing) → IsReadSo pickles.First d → Ends d m → stands w (First how pickles.First d) i ≡ Some q → (i ≤ m) × FirstAt how d i q
first_at how d m zero q r x there =
    (omega arith, record { none = λ j p less at. absurd (omega (arith, less)); left = ap (λ (y : Standing). y.at.left) (sym (first_is w (First how pickles.First d) q there)) })
first_at how d m (suc i) q r x there =
    let first : Standing = First how pickles.First d in
    let s = stood_before w (stands w first i) q (sym (stands_next w first i) ∙ there) in
    let b = first_at how d m i s.before r x s.there in
    let g : Going = going w s.before in
    let on : g.gone.closing ≡ None = goes_on s.before q g g.gone.closing refl s.leads in
    elim (cases_lt i m) [
      | inl less ↦
          let k = keeps_at how d m i s.before r x less s.there b.1 in
          let leads : stands_after s.before g ≡ q = behind_is s.before q g (is_some g.gone.closing) s.leads in (
            omega (arith, less),
            record {
              none = λ j p before at. elim (cases_lt j i) [
                | inl earlier ↦ b.1.none j p earlier at
                | inr last ↦
                    let same : j ≡ i = omega (arith, before, last) in
                    let is : p ≡ s.before = same_standing (stands w first i) p s.before (ap (stands w first) (sym same) ∙ at) s.there in
                    ap (λ (y : Standing). (going w y).gone.lost) is ∙ k.lost
              ];
              left = ap (λ (y : Standing). y.at.left) (sym leads) ∙ k.left on;
            },
          )
      | inr far ↦ absurd (no_next how d m i s.before r x (omega (arith, far, b.0)) s.there b.1 on)
    ]

-- ---- at STOP

event_to : (q : Standing) (a b : Taken) (m : LoaderMove) (z : Result State Refusal) → (gone_to (ignoring pickles.First) (unbuffered q) b m z).gone.event ≡ (gone_to w q a m z).gone.event
event_to q a b m (Ok t) = refl
event_to q a b m (Err r) = refl

read_plainly : (q : Standing) (o : Operation) → lenient q.rest ≡ Ok (record { op = o; row = row_of o; size = size_of o }) → going (ignoring pickles.First) (unbuffered q) ≡ gone_by (ignoring pickles.First) (unbuffered q) (Ok (item_taken o))
unfolding going taken
read_plainly q o reads = ap (λ (x : Result Lenient FrontFault). gone_by (ignoring pickles.First) (unbuffered q) (plain x)) reads

event_plainly : (d : Contents) (i : ℕ) (q : Standing) (x : Turn d i q) → going (ignoring pickles.First) (unbuffered q) ≡ gone_by (ignoring pickles.First) (unbuffered q) (Ok (item_taken x.operation))
    → (going (ignoring pickles.First) (unbuffered q)).gone.event ≡ (going w q).gone.event
event_plainly d i q x plain =
    ap (λ (g : Going). g.gone.event) plain
    ∙ event_to q x.item (item_taken x.operation) (move_in q x.operation (row_of x.operation)) (moved_in q x.operation (row_of x.operation))
    ∙ ap (λ (o : Operation). (gone_to w q x.item (move_in q o (row_of x.operation)) (moved_in q o (row_of x.operation))).gone.event) (sym x.same)
    ∙ ap (λ (y : Row). (gone_to w q x.item (move_in q x.item.op y) (moved_in q x.item.op y)).gone.event) (sym x.row)
    ∙ ap (λ (g : Going). g.gone.event) (sym (going_turn d i q x))

no_event_at_stop : (how : Manner) (d : Contents) (m : ℕ) (q : Standing) → IsReadSo pickles.First d → Ends d m → stands w (First how pickles.First d) m ≡ Some q → FirstAt how d m q → HasEvent w q → ⊥
no_event_at_stop how d m q r x there f ev =
    let to : run (start d.many) (ops_of d) (suc m) ≡ Some x.over.last = ap (run (start d.many) (ops_of d)) (sym x.size) ∙ x.over.runs in
    let plain : stands (ignoring pickles.First) (First how pickles.First d) m ≡ Some (unbuffered q) = (buffered_is_read how.detail no_value w (document_bytes d) m q there f.none).0 in
    let turn = turn_in how d m m q r x (omega arith) there f in
    let a = accepted_at how pickles.First d m x.over.last (unbuffered q) r to plain in
    let mv = move_to (start d.many) (ops_of d) m x.over.last to in
    let at = stands_so how pickles.First d m mv.before (unbuffered q) r mv.reached plain in
    let rest : q.rest ≡ drop (offset_of d m) (document_bytes d) = ap (λ (y : Standing). y.rest) at in
    let reads : lenient q.rest ≡ Ok (record { op = turn.operation; row = row_of turn.operation; size = size_of turn.operation }) =
    ap lenient rest ∙ reads_item d m turn.operation r.formed r.small turn.there in
    let event : (going (ignoring pickles.First) (unbuffered q)).gone.event ≡ Some ev.0 = event_plainly d m q turn (read_plainly q turn.operation reads) ∙ ev.1 in
    line_some how.holes (unbuffered q) (going (ignoring pickles.First) (unbuffered q)) ev.0 event (sym a.line ∙ stop_line_none how d m x.over.last x.operation to x.there x.stop)

-- what is behind the first loss has no event
pub first_lost : (how : Manner) (d : Contents) (n : ℕ) (q : Standing) → IsReadSo pickles.First d → IsOver d → IsBehindLoss how.detail w (document_bytes d) n q → stands w (First how pickles.First d) n ≡ Some q → HasEvent w q → ⊥
first_lost how d n q r over l there ev =
    let last = last_stop (items_of d) (stopped_last d r.formed over.stopped) in
    let m : ℕ = last.0 in
    let x : Ends d m = record { over = over; size = last.2; operation = last.1; there = last.3; stop = last.4 } in
    let here = first_at how d m n q r x there in
    let loss = first_at how d m l.place l.first r x l.stood in
    elim (cases_lt l.place m) [
      | inl less ↦ let k = keeps_at how d m l.place l.first r x less l.stood loss.1 in let wrong : true ≡ false = sym l.lost ∙ k.lost in absurd cc
      | inr far ↦
          let same : n ≡ m = omega (arith, far, loss.0, here.0, l.before) in
          no_event_at_stop how d m q r x (ap (stands w (First how pickles.First d)) (sym same) ∙ there) (subst (λ (j : ℕ). FirstAt how d j q) same here.1) ev
    ]

-- ---- each reach

over_of : (d : Contents) → EndIs d (calls_end d) → is_open (calls_end d).ending ≡ false → IsOver d
over_of d x closed =
    let all = x.closed closed in
    record { last = x.state; runs = ap (run (start d.many) (ops_of d)) (sym all.0) ∙ x.reached; quiet = all.1; stopped = all.2 }

pub first_reach : (how : Manner) (d : Contents) (n : ℕ) (q : Standing) → IsReadSo pickles.First d → stands w (First how pickles.First d) n ≡ Some q → HasEvent w q → IsAmong (line_gone how.holes q (going w q)) (document_lines how pickles.First d)
first_reach how d n q r there ev = elim (plain_or_lost how.detail w (document_bytes d) n q there ev) [
  | inl plain ↦
      let same = plain.goes in
      let here = ignoring_reach how pickles.First d n (unbuffered q) r plain.there (ev.0, ap (λ (g : Going). g.gone.event) same ∙ ev.1) in
      subst (λ (g : Going). IsAmong (line_gone how.holes (unbuffered q) g) (document_lines how pickles.First d)) same here
  | inr lost ↦ in_parts how pickles.First d (line_gone how.holes q (going w q)) (go (is_open (calls_end d).ending) refl lost)
]
  where
    go : (b : Bool) → is_open (calls_end d).ending ≡ b → IsBehindLoss how.detail w (document_bytes d) n q → IsAmong (line_gone how.holes q (going w q)) (parts_lines how pickles.First d (calls_end d))
    go true goes lost = lost_in_parts how pickles.First d n q goes lost ev
    go false closed lost = absurd (first_lost how d n q r (over_of d (end_is d) closed) lost there ev)
