-- The loop that writes a line for each step.
use Rattle.std.proofs.Common.{◌≡◌, ℕ, zero, suc, ◌+◌, ◌-◌, ◌<◌, ◌≤◌, ◌==◌, ◌&&◌, Bool, true, false, List, [], ◌++◌, length, drop, Option, Some, None, Ok, refl, sym, ap, subst, ◌∙◌, add-one, append_assoc, length-append, arith, rules}
use Rattle.std.specs.Prelude.{take, if◌then◌else◌, Result, Err, IfErr, IsErrAnd, MatchBool}
use Rattle.std.proofs.lemmas.List.{take_all, length-map, append-nil}
use Rattle.std.proofs.lemmas.Option.{slice_get_past}
use Rattle.pickle_io.specs.Text.{◌⧺◌}
use Rattle.pickle_io.specs.Device.{Told, Wrote, Broke, WroteAllBut}
use Rattle.pickle_io.proofs.Devices.{Wrote-none, Wrote-trans, Broke-after, Broke-more}
use Rattle.std.specs.Prelude.{not, nat_lt}
use Rattle.std.proofs.Common.{eq-zero-or-pos, inl, inr}
use Rattle.pickle_ops.specs.Spelling.{Operation, size_of}
use Rattle.pickle_doc.specs.declared.item.Item.{Item}
use Rattle.pickle_doc.specs.declared.fault.TailFault.{TailFault}
use Rattle.pickle_doc.specs.DocUnit.{sizes, is_stop, ends_reading}
use Rattle.pickle_doc.specs.Document.{Contents, items_of, document_bytes, ends_with_stop, finish_by, finish_of, ReadsAs, size_limit}
use Rattle.pickle_doc.specs.Tail.{HasTailFault}
use Rattle.pickle_doc.specs.Fitting.{left_behind}
use Rattle.pickle_doc.specs.Unread.{IsNextItem}
use Rattle.pickle_doc.specs.Place.{ops_of, item_at, offset_of, tail_offset}
use Rattle.pickle_doc.specs.Stream.{HasRead, IsDone}
use Rattle.pickle_doc.proofs.Ends.{finish_at, finish_stopped}
use Rattle.pickle_doc.proofs.Streams.{stands_first, item_in, fault_in}
use Rattle.pickle_ops.specs.declared.row.Row.{Row}
use Rattle.pickle_ops.specs.declared.row.Row.TheVariants as row
use Rattle.pickle_ops.specs.declared.row.Filling.TheVariants as filling
use Rattle.pickle_ops.specs.Row.{row_of}
use Rattle.pickle_ops.specs.Object.{Object}
use Rattle.pickle_machine.specs.declared.refusal.Refusal.{Refusal}
use Rattle.pickle_machine.specs.State.{State, start}
use Rattle.pickle_machine.specs.Run.{run}
use Rattle.pickle_machine.specs.Move.{move, next, outcome, refusal_of, refusal_at, begun, fresh}
use Rattle.pickle_text.proofs.Runs.{run_nothing, last_taken}
use Rattle.pickle_text.specs.declared.stop.TextStop.{TextStop}
use Rattle.pickle_text.specs.declared.stop.TextStop.TheVariants as stop
use Rattle.pickle_text.specs.declared.closing.Closing.{Closing}
use Rattle.pickle_text.specs.declared.closing.Closing.TheVariants as closing
use Rattle.pickle_calls.specs.declared.end.Ending.{Ending}
use Rattle.pickle_calls.specs.declared.end.Ending.TheVariants as ending
use Rattle.pickle_text.specs.Closing.{closing_at}
use Rattle.pickle_text.specs.Reached.{reached}
use Rattle.pickle_text.proofs.Moves.{move_heap, refused_move}
use Rattle.pickle_text.proofs.Places.{offset_next, offset_small, length-bytes_of, run-suc, reached_here, reached_last, is_reached, within, place_within, ops_within}
use Rattle.pickle_calls.specs.declared.event.Event.{Event}
use Rattle.pickle_calls.specs.declared.event.Event.TheVariants as event
use Rattle.pickle_calls.specs.declared.course.Course.{Course}
use Rattle.pickle_calls.specs.Event.{before_of, event_of, object_is}
use Rattle.pickle_calls.specs.CallsLine.{imports_of, calls_of, ending_status, one_if, is_import, is_call}
use Rattle.pickle_calls.specs.Telling.{Telling}
use Rattle.pickle_io.specs.Holes.{in_file}
use Rattle.pickle_calls.specs.Manner.{Manner, ending_in}
use Rattle.pickle_calls.specs.declared.naming.Naming.{Naming}
use Rattle.pickle_calls.specs.Naming.{begin, naming_after}
use Rattle.pickle_calls.specs.Calls.{naming_at, left_at, is_inside, or_here, first_inside, CallsEnd, end_from, end_by, calls_end, CountedText, no_entry, counted_in, entry_in, entries_in, closing_of, closed, calls_in, calls_to}
use Rattle.pickle_calls.specs.declared.calls.Ran.{Ran}
use Rattle.pickle_calls.specs.Ran.{IsRun}
use Rattle.pickle_calls.specs.Inside.Walked.{Progress, Walked}
use Rattle.pickle_calls.specs.CallsWritten.{BreaksCalls, BeginsCalls, CutsCalls}

-- ---- what items come to

pub entries-zero : (say : Telling) (how : Manner) (d : Contents) → entries_in say how d 0 ≡ no_entry
unfolding entries_in
entries-zero say how d = refl

pub text-suc : (say : Telling) (how : Manner) (d : Contents) (k : ℕ) → (entries_in say how d (suc k)).text ≡ (entries_in say how d k).text ++ (entry_in say how d k).text
unfolding entries_in ◌⧺◌
text-suc say how d k = refl

imports-suc : (say : Telling) (how : Manner) (d : Contents) (k : ℕ) → (entries_in say how d (suc k)).imports ≡ (entries_in say how d k).imports + (entry_in say how d k).imports
unfolding entries_in
imports-suc say how d k = refl

calls-suc : (say : Telling) (how : Manner) (d : Contents) (k : ℕ) → (entries_in say how d (suc k)).calls ≡ (entries_in say how d k).calls + (entry_in say how d k).calls
unfolding entries_in
calls-suc say how d k = refl

-- item k, where it has a move
pub entry_is : (say : Telling) (how : Manner) (d : Contents) (k : ℕ) (o : Operation) (s t : State) → item_at d k ≡ Some o → run (start d.many) (ops_of d) k ≡ Some s → run (start d.many) (ops_of d) (suc k) ≡ Some t
    → entry_in say how d k ≡ counted_in say (in_file how.holes (offset_of d k)) (naming_at how.detail d k) t.heap (event_of (row_of o) (before_of (fresh s)) t)
unfolding entry_in
entry_is say how d k o s t e r f = rw (e, r, f) refl

-- the first step of a further pickle fills nothing, so that its event is the same from the state of the pickle before
event_begun : (r : Row) (s t : State) → refusal_of r (begun s) ≡ None → event_of r (before_of s) t ≡ event_of r (before_of (begun s)) t
event_begun (row.Change filling.Append) s t e = absurd cc
event_begun (row.Change filling.SetItem) s t e = absurd cc
event_begun (row.Change filling.Add) s t e = absurd cc
event_begun (row.Change filling.Build) s t e = absurd cc
event_begun (row.CutChange f) s t e = absurd cc
event_begun _ s t e = refl

pub event_by : (b : Bool) (r : Row) (s t : State) → refusal_of r (if b then begun s else s) ≡ None → event_of r (before_of s) t ≡ event_of r (before_of (if b then begun s else s)) t
event_by true r s t e = event_begun r s t e
event_by false r s t e = refl

pub accepted : (r : Option Refusal) (u t : State) → outcome r u ≡ Ok t → r ≡ None
accepted None u t e = refl
accepted (Some r) u t e = absurd cc

-- what is looked at of the state as it stands serves as well
event_is : (o : Operation) (k : ℕ) (s t : State) → move o k s ≡ Ok t → event_of (row_of o) (before_of s) t ≡ event_of (row_of o) (before_of (fresh s)) t
event_is o k s t e = event_by s.stopped (row_of o) s t (accepted (refusal_at o s) (next o k s) t e)

-- what is written for it
entry_here : (say : Telling) (how : Manner) (d : Contents) (k offset : ℕ) (m : Naming) (o : Operation) (s t : State) → item_at d k ≡ Some o → run (start d.many) (ops_of d) k ≡ Some s → move o k s ≡ Ok t → offset ≡ offset_of d k
    → m ≡ naming_at how.detail d k → entry_in say how d k ≡ counted_in say (in_file how.holes offset) m t.heap (event_of (row_of o) (before_of s) t)
entry_here say how d k offset m o s t e r i f g =
    let next : run (start d.many) (ops_of d) (suc k) ≡ Some t = rw (run-suc (start d.many) (ops_of d) k o s e r, i) refl in
    entry_is say how d k o s t e r next ∙ ap (λ (x : Option Event). counted_in say (in_file how.holes (offset_of d k)) (naming_at how.detail d k) t.heap x) (sym (event_is o k s t i))
    ∙ ap (λ (n : ℕ). counted_in say (in_file how.holes n) (naming_at how.detail d k) t.heap (event_of (row_of o) (before_of s) t)) (sym f)
    ∙ ap (λ (n : Naming). counted_in say (in_file how.holes offset) n t.heap (event_of (row_of o) (before_of s) t)) (sym g)

one_or_none : (b : _) → one_if b ≤ 1
one_or_none true = omega arith
one_or_none false = omega arith

pub few_imports : (heap : List Object) (e : Option Event) → imports_of heap e ≤ 1
few_imports heap None = omega arith
few_imports heap (Some (event.Made id)) = one_or_none (object_is is_import heap id)
few_imports heap (Some (event.State value target)) = omega arith
few_imports heap (Some (event.Filled f count target)) = omega arith

pub few_calls : (heap : List Object) (e : Option Event) → calls_of heap e ≤ 1
few_calls heap None = omega arith
few_calls heap (Some (event.Made id)) = one_or_none (object_is is_call heap id)
few_calls heap (Some (event.State value target)) = omega arith
few_calls heap (Some (event.Filled f count target)) = omega arith

entries_more : (say : Telling) (how : Manner) (d : Contents) (k n : ℕ) → (rest : List ℕ) × ((entries_in say how d (k + n)).text ≡ (entries_in say how d k).text ++ rest)
entries_more say how d k zero = let e : k + 0 ≡ k = omega arith in ([], rw e (sym (append-nil (entries_in say how d k).text)))
entries_more say how d k (suc n) =
    let e : k + suc n ≡ suc (k + n) = omega arith in
    let before = entries_more say how d k n in
    let last : List ℕ = (entry_in say how d (k + n)).text in
    (before.0 ++ last, rw e (text-suc say how d (k + n) ∙ ap (λ (t : List ℕ). t ++ last) before.1 ∙ append_assoc (entries_in say how d k).text before.0 last))

-- the first lines come first
pub entries_first : (say : Telling) (how : Manner) (d : Contents) (k n : ℕ) → k ≤ n → (rest : List ℕ) × ((entries_in say how d n).text ≡ (entries_in say how d k).text ++ rest)
entries_first say how d k n h =
    let e : k + (n - k) ≡ n = omega arith in
    let more = entries_more say how d k (n - k) in
    (more.0, subst (λ (m : ℕ). (entries_in say how d m).text ≡ (entries_in say how d k).text ++ more.0) e more.1)

-- ---- the first STOP behind which a frame goes on

or_stays : (x : Option ℕ) (b : Bool) (k j : ℕ) → x ≡ Some j → or_here x b k ≡ Some j
or_stays None b k j e = absurd cc
or_stays (Some i) b k j e = e

-- it is the first of more items too
inside_stays : (d : Contents) (k j n : ℕ) → first_inside d k ≡ Some j → first_inside d (n + k) ≡ Some j
unfolding first_inside
inside_stays d k j zero e = let z : 0 + k ≡ k = omega arith in rw z e
inside_stays d k j (suc n) e =
    let z : suc n + k ≡ suc (n + k) = omega arith in
    rw z (or_stays (first_inside d (n + k)) (is_inside d.many (item_at d (n + k)) (left_at d (n + k))) (n + k) j (inside_stays d k j n e))

-- none of the first items is before another
inside_after : (d : Contents) (k n j : ℕ) → first_inside d k ≡ None → first_inside d n ≡ Some j → k ≤ j
unfolding first_inside
inside_after d k zero j none e = absurd cc
inside_after d k (suc n) j none e = go (first_inside d n) (is_inside d.many (item_at d n) (left_at d n)) refl e (λ q. inside_after d k n j none q)
  where
    go : (x : Option ℕ) (b : Bool) → first_inside d n ≡ x → or_here x b n ≡ Some j → (first_inside d n ≡ Some j → k ≤ j) → k ≤ j
    go (Some i) b p r before = before (p ∙ r)
    go None false p r before = absurd cc
    go None true p r before =
        let here : n ≡ j = cc in
        elim (eq-zero-or-pos (k - n)) [
          | inl z ↦ omega (arith, here, z)
          | inr g ↦
              let back : (k - suc n) + suc n ≡ k = omega (arith, g) in
              let at : first_inside d ((k - suc n) + suc n) ≡ Some j = inside_stays d (suc n) j (k - suc n) e in
              let no : None ≡ Some j = sym none ∙ sym (ap (first_inside d) back) ∙ at in
              absurd cc
        ]

-- ---- beginnings of the text

end_later : (d : Contents) (k last : ℕ) (s : State) (x : Option ℕ) → k ≤ last → run (start d.many) (ops_of d) last ≡ Some s → ((j : ℕ) → x ≡ Some j → k ≤ suc j) → k ≤ (end_from d last x).place
end_later d k last s (Some j) le r b = b j refl
end_later d k last s None le r b = rw r le

-- where place k is reached, and no such STOP is before it, the lines end there or behind it
pub reaches : (d : Contents) (k : ℕ) (s : State) → run (start d.many) (ops_of d) k ≡ Some s → k ≤ length (ops_of d) → ((n j : ℕ) → first_inside d n ≡ Some j → k ≤ suc j) → k ≤ (calls_end d).place
unfolding calls_end
reaches d k s r h b =
    let far = is_reached (start d.many) (ops_of d) (length (ops_of d)) in
    let last : ℕ = reached (start d.many) (ops_of d) (length (ops_of d)) in
    end_later d k last far.state (first_inside d last) (far.most k s h r) far.is (b last)

-- then the text begins with the lines before it
begins : (say : Telling) (how : Manner) (d : Contents) (k : ℕ) (s : State) → run (start d.many) (ops_of d) k ≡ Some s → k ≤ length (ops_of d) → ((n j : ℕ) → first_inside d n ≡ Some j → k ≤ suc j)
    → (rest : List ℕ) × ((calls_in say how d).text ≡ (entries_in say how d k).text ++ rest)
unfolding calls_in ◌⧺◌
begins say how d k s r h b =
    let e : CallsEnd = calls_end d in
    let first = entries_first say how d k e.place (reaches d k s r h b) in
    let last : List ℕ = say.last (document_bytes d) (entries_in say how d e.place).imports (entries_in say how d e.place).calls (ending_in how.holes e.ending) in
    (first.0 ++ last, ap (λ (t : List ℕ). t ++ last) first.1 ∙ append_assoc (entries_in say how d k).text first.0 last)

-- ---- the items that were stepped

pub walked_none : (say : Telling) (how : Manner) (many : Bool) (bytes : List ℕ) (a : Told) → (some : (d : Contents) × ReadsAs many bytes d) → length bytes ≤ size_limit
    → Walked say how many bytes a a bytes 0 0 0 (start many) (record { imports = 0; calls = 0; naming = begin how.detail 0; left = 0 }) false
unfolding first_inside
walked_none say how many bytes a some small = record {
  d = some.0;
  reads = some.1;
  stands = stands_first many false bytes some.0 (omega (arith, small)) some.1;
  progress = record {
    reached = run_nothing (start some.0.many) (ops_of some.0) ∙ ap (λ (b : Bool). Some (start b)) some.1.mode;
    stands = refl;
    imports = sym (ap (λ (e : CountedText). e.imports) (entries-zero say how some.0));
    calls = sym (ap (λ (e : CountedText). e.calls) (entries-zero say how some.0));
    heap = omega arith;
    few_imports = omega arith;
    few_calls = omega arith;
    naming = refl;
    left = refl;
  };
  written = rw (entries-zero say how some.0) (Wrote-none a);
  ends = refl;
  outside = refl;
}

-- ---- ends

-- the lines of the document end here, and so
abbrev EndsSo : Contents → ℕ → Ending → Type 0
EndsSo d k e = calls_end d ≡ record { place = k; ending = e }

refused : {say : Telling} {how : Manner} (d : Contents) (k offset : ℕ) (o : Operation) (s : State) (course : Course) (r : Refusal) → Progress say how d k offset s course → item_at d k ≡ Some o → refusal_at o s ≡ Some r
    → first_inside d k ≡ None → EndsSo d k (ending.Closed 0 (closing.Refused k r))
unfolding calls_end
refused d k offset o s course r p e f out =
    let none : run (start d.many) (ops_of d) (suc k) ≡ None = run-suc (start d.many) (ops_of d) k o s e p.reached ∙ rw (refused_move o k s r f) refl in
    let h = within (ops_of d) k o e in
    let last : reached (start d.many) (ops_of d) (length (ops_of d)) ≡ k = reached_last (start d.many) (ops_of d) k (length (ops_of d)) s p.reached none (omega arith) in
    rw (last, out, p.reached, e, f) refl

ended : {say : Telling} {how : Manner} (d : Contents) (k offset : ℕ) (s : State) (course : Course) (c : Closing) → Progress say how d k offset s course → length (ops_of d) ≡ k → closing_of d (finish_of d) ≡ c
    → first_inside d k ≡ None → EndsSo d k (closed d c)
unfolding calls_end
ended d k offset s course c p all is out =
    let here : run (start d.many) (ops_of d) (length (ops_of d)) ≡ Some s = subst (λ (n : ℕ). run (start d.many) (ops_of d) n ≡ Some s) (sym all) p.reached in
    let last : reached (start d.many) (ops_of d) (length (ops_of d)) ≡ length (ops_of d) = reached_here (start d.many) (ops_of d) (length (ops_of d)) s here in
    let none : item_at d (length (ops_of d)) ≡ None = slice_get_past (ops_of d) (length (ops_of d)) (omega arith) in
    rw (last, ap (first_inside d) all ∙ out, here, none, is, all) refl

here_within : {many : Bool} (bytes : List ℕ) (d : Contents) (k offset : ℕ) → ReadsAs many bytes d → offset ≡ offset_of d k → offset ≤ length bytes
here_within bytes d k offset r e = omega (arith, e, offset_small d k, ops_within d, ap length r.whole)

few_here : {many : Bool} (bytes : List ℕ) (d : Contents) (k : ℕ) → ReadsAs many bytes d → k ≤ length (ops_of d) → k ≤ length bytes
few_here bytes d k r le = omega (arith, le, length-bytes_of (ops_of d), ops_within d, ap length r.whole)

-- the run ends here
runs : {say : Telling} {how : Manner} {many : Bool} (bytes : List ℕ) (a b : Told) (d : Contents) (k offset : ℕ) (s : State) (course : Course) (e : Ending) → ReadsAs many bytes d → Progress say how d k offset s course
    → Wrote a b (entries_in say how d k).text → k ≤ length (ops_of d) → EndsSo d k e → IsRun say how many bytes a b s (record { course = course; ending = e; offset = offset; place = k })
runs {say = say} {how = how} bytes a b d k offset s course e r p w le is = record {
  d = d;
  reads = r;
  ends = is;
  written = w;
  imports = p.imports;
  calls = p.calls;
  naming = p.naming;
  reached = p.reached;
  offset = p.stands;
  within = here_within bytes d k offset r p.stands;
  few = few_here bytes d k r le;
  heap = p.heap;
}

-- what is left of the text are the last lines
pub run_whole : {say : Telling} {how : Manner} {many : Bool} (bytes : List ℕ) (a b : Told) (s : State) (r : Ran) → (w : IsRun say how many bytes a b s r)
    → (calls_in say how w.d).text ≡ (entries_in say how w.d r.place).text ++ say.last bytes r.course.imports r.course.calls (ending_in how.holes r.ending)
unfolding calls_in ◌⧺◌
run_whole {say = say} {how = how} bytes a b s r w =
    let whole : (calls_in say how w.d).text ≡ (entries_in say how w.d r.place).text ++ say.last (document_bytes w.d) (entries_in say how w.d r.place).imports (entries_in say how w.d r.place).calls (ending_in how.holes r.ending) =
    ap (λ (e : CallsEnd). (calls_to say how w.d e).text) w.ends in
    rw (w.imports, w.calls) (whole ∙ ap (λ (x : List ℕ). (entries_in say how w.d r.place).text ++ say.last x (entries_in say how w.d r.place).imports (entries_in say how w.d r.place).calls (ending_in how.holes r.ending)) w.reads.whole)

pub run_answers : {say : Telling} {how : Manner} {many : Bool} (bytes : List ℕ) (a b : Told) (s : State) (r : Ran) → (w : IsRun say how many bytes a b s r) → (calls_in say how w.d).status ≡ ending_status r.ending
unfolding calls_in
run_answers {say = say} {how = how} bytes a b s r w = ap (λ (e : CallsEnd). (calls_to say how w.d e).status) w.ends

pub refused_runs : {say : Telling} {how : Manner} {many : Bool} {last : Bool} (bytes : List ℕ) (a b : Told) (rest : List ℕ) (left k offset : ℕ) (o : Operation) (s : State) (course : Course) (r : Refusal)
    → Walked say how many bytes a b rest left k offset s course last → IsNextItem false left rest o (size_of o) → refusal_at o s ≡ Some r
    → IsRun say how many bytes a b s (record { course = course; ending = ending.Closed 0 (closing.Refused k r); offset = offset; place = k })
refused_runs bytes a b rest left k offset o s course r w n f =
    let g = item_in false w.d k left rest o (size_of o) w.reads.framing w.stands n in
    runs bytes a b w.d k offset s course (ending.Closed 0 (closing.Refused k r)) w.reads w.progress w.written (omega (arith, within (ops_of w.d) k o g.there))
    (refused w.d k offset o s course r w.progress g.there f w.outside)

sizes_all : {say : Telling} {how : Manner} (d : Contents) (k offset : ℕ) (s : State) (course : Course) → Progress say how d k offset s course → length (ops_of d) ≡ k → tail_offset d ≡ offset
sizes_all d k offset s course p all = ap sizes (sym (take_all k (items_of d) (omega (arith, all, length-map (items_of d) (λ (i : Item). i.op))))) ∙ sym p.stands

-- how the document ends whose tail has this fault, where its last item is STOP or not
finish_there : {say : Telling} {how : Manner} {many : Bool} {last : Bool} (bytes : List ℕ) (a b : Told) (rest : List ℕ) (left k offset : ℕ) (s : State) (course : Course) (f : TailFault) (x : Bool)
    → (w : Walked say how many bytes a b rest left k offset s course last) → IsDone w.d k rest (Some f) → (length rest == 0 && last) ≡ x → finish_of w.d ≡ finish_by x (Some f)
finish_there bytes a b rest left k offset s course f x w done is =
    let all : take k (items_of w.d) ≡ items_of w.d = take_all k (items_of w.d) (omega (arith, done.all, length-map (items_of w.d) (λ (i : Item). i.op))) in
    let last_is = ap ends_with_stop (sym all) ∙ w.ends in
    sym (finish_at w.d f x done.ended (rw (last_is, done.tail) is))

is_zero : (n : ℕ) → (n == 0) ≡ true → n ≡ 0
is_zero n e = search rules

first_holds : (a b : Bool) → (a && b) ≡ true → a ≡ true
first_holds true b e = refl
first_holds false b e = absurd cc

tail_runs_by : {say : Telling} {how : Manner} {many : Bool} {last : Bool} (bytes : List ℕ) (a b : Told) (rest : List ℕ) (left k offset : ℕ) (s : State) (course : Course) (f : TailFault) (x : Bool)
    → (w : Walked say how many bytes a b rest left k offset s course last) → IsDone w.d k rest (Some f) → (length rest == 0 && last) ≡ x
    → IsRun say how many bytes a b s (record { course = course; ending = ending.Closed 0 (closing_at x f offset); offset = offset; place = k })
tail_runs_by {last = last} bytes a b rest left k offset s course f true w done is =
    let ends = ended w.d k offset s course closing.Stopped w.progress done.all (ap (closing_of w.d) (finish_there bytes a b rest left k offset s course f true w done is)) w.outside in
    let none : length w.d.tail ≡ 0 = ap length done.tail ∙ is_zero (length rest) (first_holds (length rest == 0) last is) in
    runs bytes a b w.d k offset s course (ending.Closed 0 closing.Stopped) w.reads w.progress w.written (omega (arith, done.all))
    (subst (λ (n : ℕ). EndsSo w.d k (ending.Closed n closing.Stopped)) none ends)
tail_runs_by bytes a b rest left k offset s course f false w done is =
    let at = sizes_all w.d k offset s course w.progress done.all in
    let fault = ap (closing_of w.d) (finish_there bytes a b rest left k offset s course f false w done is) ∙ ap (λ (n : ℕ). closing.Fault f n) at in
    runs bytes a b w.d k offset s course (ending.Closed 0 (closing.Fault f offset)) w.reads w.progress w.written (omega (arith, done.all))
    (ended w.d k offset s course (closing.Fault f offset) w.progress done.all fault w.outside)

-- after all items of the bytes, n of which are left
pub tail_runs : {say : Telling} {how : Manner} {many : Bool} {last : Bool} (bytes : List ℕ) (a b : Told) (rest : List ℕ) (left k offset : ℕ) (s : State) (course : Course) (f : TailFault) (n : ℕ) (c : Closing)
    → Walked say how many bytes a b rest left k offset s course last → HasTailFault false left rest f → n ≡ length rest → c ≡ closing_at (n == 0 && last) f offset
    → IsRun say how many bytes a b s (record { course = course; ending = ending.Closed 0 c; offset = offset; place = k })
tail_runs {say = say} {how = how} {many = many} {last = last} bytes a b rest left k offset s course f n c w h same is =
    let by : (length rest == 0 && last) ≡ (n == 0 && last) = ap (λ (m : ℕ). m == 0 && last) (sym same) in
    subst (λ (y : Closing). IsRun say how many bytes a b s (record { course = course; ending = ending.Closed 0 y; offset = offset; place = k })) (sym is)
    (tail_runs_by bytes a b rest left k offset s course f (n == 0 && last) w (fault_in false w.d k left rest f w.reads.framing w.stands h) by)

-- ---- item k

-- the line is cut short
pub line_breaks : {say : Telling} {how : Manner} {many : Bool} {last : Bool} (bytes : List ℕ) (a b c : Told) (rest : List ℕ) (left k offset : ℕ) (o : Operation) (s t : State) (course : Course)
    → Walked say how many bytes a b rest left k offset s course last → IsNextItem false left rest o (size_of o) → move o k s ≡ Ok t → Broke b c (say.line (in_file how.holes offset) course.naming t.heap (event_of (row_of o) (before_of s) t))
    → BreaksCalls say how many bytes a c
line_breaks {say = say} {how = how} bytes a b c rest left k offset o s t course w n m q =
    let g = item_in false w.d k left rest o (size_of o) w.reads.framing w.stands n in
    let next : run (start w.d.many) (ops_of w.d) (suc k) ≡ Some t = rw (run-suc (start w.d.many) (ops_of w.d) k o s g.there w.progress.reached, m) refl in
    let here : (entry_in say how w.d k).text ≡ say.line (in_file how.holes offset) course.naming t.heap (event_of (row_of o) (before_of s) t) =
    ap (λ (e : CountedText). e.text) (entry_here say how w.d k offset course.naming o s t g.there w.progress.reached m w.progress.stands w.progress.naming) in
    let line : (entries_in say how w.d (suc k)).text ≡ (entries_in say how w.d k).text ++ say.line (in_file how.holes offset) course.naming t.heap (event_of (row_of o) (before_of s) t) =
    text-suc say how w.d k ∙ ap (λ (l : List ℕ). (entries_in say how w.d k).text ++ l) here in
    let front : Broke a c (entries_in say how w.d (suc k)).text = rw line (Broke-after a b c (entries_in say how w.d k).text (say.line (in_file how.holes offset) course.naming t.heap (event_of (row_of o) (before_of s) t)) w.written q) in
    let text = begins say how w.d (suc k) t next (omega (arith, within (ops_of w.d) k o g.there)) (λ n j e. omega (arith, inside_after w.d k n j w.outside e)) in
    let all : Broke a c (calls_in say how w.d).text = rw text.1 (Broke-more a c (entries_in say how w.d (suc k)).text text.0 front) in
    (w.d, w.reads, all)

-- memory runs out
pub memory_stops : {say : Telling} {how : Manner} {many : Bool} {last : Bool} (bytes : List ℕ) (a b : Told) (rest : List ℕ) (left k offset : ℕ) (o : Operation) (s : State) (course : Course)
    → Walked say how many bytes a b rest left k offset s course last → IsNextItem false left rest o (size_of o) → BeginsCalls say how many bytes a b
memory_stops {say = say} {how = how} bytes a b rest left k offset o s course w n =
    let g = item_in false w.d k left rest o (size_of o) w.reads.framing w.stands n in
    let text = begins say how w.d k s w.progress.reached (omega (arith, within (ops_of w.d) k o g.there)) (λ n j e. omega (arith, inside_after w.d k n j w.outside e)) in
    let front : WroteAllBut a b (calls_in say how w.d).text text.0 = record { front = (entries_in say how w.d k).text; parts = text.1; wrote = w.written } in
    (w.d, w.reads, (text.0, front))

-- item k was stepped and its line written: what is read now stands after it
pub record Moved (say : Telling) (how : Manner) (many : Bool) (bytes : List ℕ) (old new : Told) (rest : List ℕ) (left k offset : ℕ) (o : Operation) (s : State) (course : Course) : Type 0 where
  pub d : Contents
  pub reads : ReadsAs many bytes d
  pub there : item_at d k ≡ Some o
  pub goes : MatchBool (ends_reading many o.opcode) (IsDone d (k + 1) rest None) (HasRead d (k + 1) rest left)
  pub progress : Progress say how d (k + 1) offset s course
  pub written : Wrote old new (entries_in say how d (k + 1)).text
  pub outside : first_inside d k ≡ None
  pub inside : first_inside d (k + 1) ≡ or_here None (many && (is_stop o.opcode && nat_lt 0 course.left)) k

inside_next : (d : Contents) (k : ℕ) (o : Operation) → item_at d k ≡ Some o → first_inside d k ≡ None
    → first_inside d (suc k) ≡ or_here None (d.many && (is_stop o.opcode && nat_lt 0 (left_behind false (left_at d k) o))) k
unfolding first_inside
inside_next d k o e none = ap (λ (x : Option ℕ). or_here x (is_inside d.many (item_at d k) (left_at d k)) k) none ∙ ap (λ (x : Option Operation). or_here None (is_inside d.many x (left_at d k)) k) e

pub moved : {say : Telling} {how : Manner} {many : Bool} {last : Bool} (bytes : List ℕ) (a b c : Told) (rest : List ℕ) (left k offset : ℕ) (o : Operation) (s t : State) (course next : Course)
    → Walked say how many bytes a b rest left k offset s course last → IsNextItem false left rest o (size_of o) → move o k s ≡ Ok t
    → Wrote b c (say.line (in_file how.holes offset) course.naming t.heap (event_of (row_of o) (before_of s) t))
    → next.imports ≡ course.imports + imports_of t.heap (event_of (row_of o) (before_of s) t)
    → next.calls ≡ course.calls + calls_of t.heap (event_of (row_of o) (before_of s) t)
    → next.naming ≡ naming_after (row_of o) (length t.heap) course.naming → next.left ≡ left_behind false course.left o
    → Moved say how many bytes a c (drop (size_of o) rest) (left_behind false left o) k (offset + size_of o) o t next
moved {say = say} {how = how} {many = many} bytes a b c rest left k offset o s t course next w n m q i j u v =
    let g = item_in false w.d k left rest o (size_of o) w.reads.framing w.stands n in
    let r : Option Event = event_of (row_of o) (before_of s) t in
    let after : run (start w.d.many) (ops_of w.d) (suc k) ≡ Some t = rw (run-suc (start w.d.many) (ops_of w.d) k o s g.there w.progress.reached, m) refl in
    let here : entry_in say how w.d k ≡ counted_in say (in_file how.holes offset) course.naming t.heap r = entry_here say how w.d k offset course.naming o s t g.there w.progress.reached m w.progress.stands w.progress.naming in
    let line : (entries_in say how w.d (suc k)).text ≡ (entries_in say how w.d k).text ++ say.line (in_file how.holes offset) course.naming t.heap r =
    text-suc say how w.d k ∙ ap (λ (e : CountedText). (entries_in say how w.d k).text ++ e.text) here in
    let imports : (entries_in say how w.d (suc k)).imports ≡ (entries_in say how w.d k).imports + imports_of t.heap r =
    imports-suc say how w.d k ∙ ap (λ (e : CountedText). (entries_in say how w.d k).imports + e.imports) here in
    let calls : (entries_in say how w.d (suc k)).calls ≡ (entries_in say how w.d k).calls + calls_of t.heap r =
    calls-suc say how w.d k ∙ ap (λ (e : CountedText). (entries_in say how w.d k).calls + e.calls) here in
    let named : naming_at how.detail w.d (suc k) ≡ naming_after (row_of o) (length t.heap) (naming_at how.detail w.d k) = rw (g.there, after) refl in
    let left_is : left_at w.d (suc k) ≡ left_behind false (left_at w.d k) o = rw g.there refl in
    let here_left : next.left ≡ left_behind false (left_at w.d k) o = v ∙ ap (λ (x : ℕ). left_behind false x o) w.progress.left in
    record {
      d = w.d;
      reads = w.reads;
      there = g.there;
      outside = w.outside;
      inside = rw (add-one k) (inside_next w.d k o g.there w.outside ∙ ap (λ (b : Bool). or_here None (b && (is_stop o.opcode && nat_lt 0 (left_behind false (left_at w.d k) o))) k) w.reads.mode
          ∙ ap (λ (x : ℕ). or_here None (many && (is_stop o.opcode && nat_lt 0 x)) k) (sym here_left));
      goes = subst (λ (x : Bool). MatchBool (ends_reading x o.opcode) (IsDone w.d (k + 1) (drop (size_of o) rest) None) (HasRead w.d (k + 1) (drop (size_of o) rest) (left_behind false left o))) w.reads.mode g.goes;
      progress = record {
        reached = rw (add-one k) after;
        stands = rw w.progress.stands (sym (offset_next w.d k o g.there));
        imports = rw (add-one k) (omega (arith, imports, i, w.progress.imports));
        calls = rw (add-one k) (omega (arith, calls, j, w.progress.calls));
        heap = omega (arith, move_heap o k s t m, w.progress.heap);
        few_imports = omega (arith, i, w.progress.few_imports, few_imports t.heap r);
        few_calls = omega (arith, j, w.progress.few_calls, few_calls t.heap r);
        naming = rw (add-one k) (u ∙ ap (λ (x : Naming). naming_after (row_of o) (length t.heap) x) w.progress.naming ∙ sym named);
        left = rw (add-one k) (here_left ∙ sym left_is);
      };
      written = rw (add-one k, line) (Wrote-trans a b c (entries_in say how w.d k).text (say.line (in_file how.holes offset) course.naming t.heap r) w.written q);
    }

none_inside : (many stop left : Bool) (k : ℕ) → (stop && left) ≡ false → or_here None (many && (stop && left)) k ≡ None
none_inside true stop left k e = ap (λ (b : Bool). or_here None b k) e
none_inside false stop left k e = refl

pub goes_on : {say : Telling} {how : Manner} {many : Bool} (bytes : List ℕ) (a b : Told) (rest : List ℕ) (left k offset : ℕ) (o : Operation) (s : State) (course : Course)
    → Moved say how many bytes a b rest left k offset o s course → ends_reading many o.opcode ≡ false → (is_stop o.opcode && nat_lt 0 course.left) ≡ false
    → Walked say how many bytes a b rest left (k + 1) offset s course (is_stop o.opcode)
goes_on {many = many} bytes a b rest left k offset o s course w miss out =
    let stands : HasRead w.d (k + 1) rest left = rw miss at w.goes in
    record {
      d = w.d;
      reads = w.reads;
      stands = stands;
      progress = w.progress;
      written = w.written;
      ends = last_taken (items_of w.d) k o w.there;
      outside = w.inside ∙ none_inside many (is_stop o.opcode) (nat_lt 0 course.left) k out;
    }

one_pickle_outside : (many stop left : Bool) (k : ℕ) → (stop && not many) ≡ true → or_here None (many && (stop && left)) k ≡ None
one_pickle_outside true true left k e = absurd cc
one_pickle_outside true false left k e = absurd cc
one_pickle_outside false stop left k e = refl

pub stop_runs : {say : Telling} {how : Manner} {many : Bool} (bytes : List ℕ) (a b : Told) (rest : List ℕ) (left k offset : ℕ) (o : Operation) (s : State) (course : Course) (n : ℕ)
    → Moved say how many bytes a b rest left k offset o s course → ends_reading many o.opcode ≡ true → n ≡ length rest
    → IsRun say how many bytes a b s (record { course = course; ending = ending.Closed n closing.Stopped; offset = offset; place = k + 1 })
stop_runs {many = many} bytes a b rest left k offset o s course n w hit same =
    let done : IsDone w.d (k + 1) rest None = rw hit at w.goes in
    let outside : first_inside w.d (k + 1) ≡ None = w.inside ∙ one_pickle_outside many (is_stop o.opcode) (nat_lt 0 course.left) k hit in
    let ends = ended w.d (k + 1) offset s course closing.Stopped w.progress done.all (ap (closing_of w.d) (sym (finish_stopped w.d done.ended))) outside in
    let kept : length w.d.tail ≡ n = ap length done.tail ∙ sym same in
    runs bytes a b w.d (k + 1) offset s course (ending.Closed n closing.Stopped) w.reads w.progress w.written (omega (arith, done.all))
    (subst (λ (m : ℕ). EndsSo w.d (k + 1) (ending.Closed m closing.Stopped)) kept ends)

is_many : (many stop left : Bool) (k : ℕ) → (stop && not many) ≡ false → (stop && left) ≡ true → or_here None (many && (stop && left)) k ≡ Some k
is_many true stop left k miss e = ap (λ (b : Bool). or_here None b k) e
is_many false true left k miss e = absurd cc
is_many false false left k miss e = absurd cc

unsure_end : (d : Contents) (k last : ℕ) → reached (start d.many) (ops_of d) (length (ops_of d)) ≡ last → first_inside d last ≡ Some k → EndsSo d (suc k) (ending.Unsure (offset_of d k))
unfolding calls_end
unsure_end d k last e f = ap (end_by d) e ∙ ap (end_from d last) f

-- where a frame goes on behind STOP, the lines end
pub unsure_runs : {say : Telling} {how : Manner} {many : Bool} (bytes : List ℕ) (a b : Told) (rest : List ℕ) (left k offset : ℕ) (o : Operation) (s : State) (course : Course) (at : ℕ)
    → Moved say how many bytes a b rest left k offset o s course → ends_reading many o.opcode ≡ false → (is_stop o.opcode && nat_lt 0 course.left) ≡ true → offset ≡ at + size_of o
    → IsRun say how many bytes a b s (record { course = course; ending = ending.Unsure at; offset = offset; place = k + 1 })
unsure_runs {many = many} bytes a b rest left k offset o s course at w miss out is =
    let here : first_inside w.d (k + 1) ≡ Some k = w.inside ∙ is_many many (is_stop o.opcode) (nat_lt 0 course.left) k miss out in
    let far = is_reached (start w.d.many) (ops_of w.d) (length (ops_of w.d)) in
    let last : ℕ = reached (start w.d.many) (ops_of w.d) (length (ops_of w.d)) in
    let most : k + 1 ≤ length (ops_of w.d) = omega (arith, within (ops_of w.d) k o w.there) in
    let le : k + 1 ≤ last = far.most (k + 1) s most w.progress.reached in
    let n : (last - (k + 1)) + (k + 1) ≡ last = omega (arith, le) in
    let found : first_inside w.d last ≡ Some k = sym (ap (first_inside w.d) n) ∙ inside_stays w.d (k + 1) k (last - (k + 1)) here in
    let stands : offset_of w.d k ≡ at = omega (arith, is, w.progress.stands, offset_next w.d k o w.there) in
    let ends : EndsSo w.d (k + 1) (ending.Unsure at) = rw (sym stands, add-one k) (unsure_end w.d k last refl found) in
    runs bytes a b w.d (k + 1) offset s course (ending.Unsure at) w.reads w.progress w.written most ends

-- ---- errors

pub cut_failed : {A : Type 0} (say : Telling) (how : Manner) {many : Bool} (bytes : List ℕ) (a b : Told) (r : Result A TextStop) → IsErrAnd r (λ e. e ≡ stop.Failed) → BreaksCalls say how many bytes a b → IfErr r (CutsCalls say how many bytes a b)
cut_failed say how bytes a b (Ok x) h w = absurd h
cut_failed say how bytes a b (Err e) h w = rw h w

-- ---- bounds

pub record Bounds (bytes : List ℕ) (k offset : ℕ) (o : Operation) (s : State) (course : Course) : Type 0 where
  pub place : k < length bytes
  pub behind : offset + size_of o ≤ length bytes
  pub heap : length s.heap ≤ k
  pub imports : course.imports ≤ k
  pub calls : course.calls ≤ k

pub bounds : {say : Telling} {how : Manner} {many : Bool} {last : Bool} (bytes : List ℕ) (a b : Told) (rest : List ℕ) (left k offset : ℕ) (o : Operation) (s : State) (course : Course)
    → Walked say how many bytes a b rest left k offset s course last → IsNextItem false left rest o (size_of o) → Bounds bytes k offset o s course
bounds bytes a b rest left k offset o s course w n =
    let g = item_in false w.d k left rest o (size_of o) w.reads.framing w.stands n in
    let size : length (document_bytes w.d) ≡ length bytes = ap length w.reads.whole in
    record {
      place = omega (arith, place_within (ops_of w.d) k o g.there, ops_within w.d, size);
      behind = omega (arith, w.progress.stands, offset_next w.d k o g.there, offset_small w.d (k + 1), ops_within w.d, size);
      heap = w.progress.heap;
      imports = w.progress.few_imports;
      calls = w.progress.few_calls;
    }

-- no more items were read than there are bytes
pub place_small : {say : Telling} {how : Manner} {many : Bool} {last : Bool} (bytes : List ℕ) (a b : Told) (rest : List ℕ) (left k offset : ℕ) (s : State) (course : Course)
    → Walked say how many bytes a b rest left k offset s course last → k ≤ length bytes
place_small bytes a b rest left k offset s course w =
    let parts : length (ops_of w.d) ≡ length w.stands.done + length w.stands.to_come = ap length w.stands.parts ∙ length-append w.stands.done w.stands.to_come in
    omega (arith, parts, w.stands.count, length-bytes_of (ops_of w.d), ops_within w.d, ap length w.reads.whole)
