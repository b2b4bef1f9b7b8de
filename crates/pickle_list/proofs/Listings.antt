-- The loop that writes a listing.
use Rattle.std.proofs.Common.{◌≡◌, ℕ, Bool, true, false, suc, ◌+◌, ◌-◌, ◌<◌, ◌≤◌, List, [], ◌∷◌, ◌++◌, length, take, Option, Some, None, Ok, refl, sym, ap, subst, ◌∙◌, append_assoc, add-one, inl, inr, arith, length-append}
use Rattle.std.specs.Prelude.{slice_get, if◌then◌else◌}
use Rattle.std.proofs.lemmas.List.{take_more, append-nil}
use Rattle.std.proofs.lemmas.Option.{get_or_from_slice_get, slice_get_past, slice_get_cases}
use Rattle.pickle_io.specs.Text.{◌⧺◌}
use Rattle.pickle_io.specs.Device.{Told, Wrote, Broke}
use Rattle.pickle_ops.specs.Table.{protocol_of}
use Rattle.pickle_ops.specs.Spelling.{Operation, size_of}
use Rattle.pickle_io.proofs.Devices.{Wrote-trans, Broke-after, Broke-more}
use Rattle.pickle_doc.specs.DocUnit.{bytes_of}
use Rattle.pickle_doc.specs.Document.{Contents, finish_of}
use Rattle.pickle_doc.specs.Place.{ops_of, item_at, offset_of}
use Rattle.pickle_machine.specs.declared.refusal.Refusal.{Refusal}
use Rattle.pickle_machine.specs.State.{State, Marked, start}
use Rattle.pickle_ops.specs.Row.{row_of}
use Rattle.pickle_machine.specs.Move.{move, refusal_of, refusal_at, begun, fresh}
use Rattle.pickle_machine.specs.Run.{run}
use Rattle.pickle_list.specs.ArgTexts.{ArgTexts}
use Rattle.pickle_list.specs.Line.{item_line_in, refused_line, protocol_line, raised, highest_protocol}
use Rattle.pickle_list.specs.Listing.{topmost_offset, note_with, note_unless, line_at_in, left_by, lines_in, end_lines, end_status, refused_lines, listing_in, listing_to_in}
use Rattle.pickle_text.specs.Reached.{reached}
use Rattle.pickle_list.specs.Inside.Marks.{last_element, followed, mark_offsets}
use Rattle.pickle_list.specs.Inside.Listed.{Progress}
use Rattle.pickle_text.specs.Output.{BeganOutput}
use Rattle.pickle_text.proofs.Moves.{move_heap, refused_move}
use Rattle.pickle_list.proofs.Marks.{move_marks, marks_grow, offsets_follow}
use Rattle.pickle_text.proofs.Places.{offset_next, offset_small, run-suc, reached_here, reached_last, is_reached, within}
use Rattle.pickle_list.proofs.Lines.{highest_protocol-push, lines_with, lines-suc, lines_first}

run-nothing : (from : State) (ops : List Operation) → run from ops 0 ≡ Some from
unfolding run
run-nothing from ops = refl

pub Progress-none : (d : Contents) → Progress d 0 0 (start d.many) [] [] None
Progress-none d = record {
  reached = run-nothing (start d.many) (ops_of d);
  stands = refl;
  marks = refl;
  most = refl;
  heap = omega arith;
  few = omega arith;
}

-- ---- item k

take_next : (ops : List Operation) (k : ℕ) (o : Operation) → slice_get ops k ≡ Some o → take (k + 1) ops ≡ take k ops ++ (o ∷ [])
take_next ops k o e = take_more ops k o (within ops k o e) ∙ ap (λ (p : Operation). take k ops ++ (p ∷ [])) (get_or_from_slice_get ops k o o e)

pub last-mark_offsets : (d : Contents) (ms : List Marked) → last_element (mark_offsets d ms) ≡ topmost_offset d ms
last-mark_offsets d [] = slice_get_past [] 0 (omega arith)
last-mark_offsets d (m ∷ ms) =
    let n : ℕ = length (mark_offsets d ms) in
    let len : length (mark_offsets d ms ++ offset_of d m.place ∷ []) ≡ n + 1 = length-append (mark_offsets d ms) (offset_of d m.place ∷ []) in
    let at : length (mark_offsets d ms ++ offset_of d m.place ∷ []) - 1 ≡ n = omega arith in
    rw at (last_one (mark_offsets d ms) (offset_of d m.place))
  where
    last_one : (xs : List ℕ) (x : ℕ) → slice_get (xs ++ x ∷ []) (length xs) ≡ Some x
    last_one [] x = refl
    last_one (y ∷ xs) x = last_one xs x

-- the line that is written for it
pub line_is : (args : ArgTexts) (d : Contents) (k offset : ℕ) (o : Operation) (s : State) (opened : List ℕ) → item_at d k ≡ Some o → run (start d.many) (ops_of d) k ≡ Some s → offset ≡ offset_of d k
    → opened ≡ mark_offsets d (fresh s).marked → line_at_in args d k ≡ item_line_in args o offset (length (fresh s).marked) (note_unless (refusal_of (row_of o) (fresh s)) (note_with o (fresh s) (last_element opened)))
unfolding line_at_in
line_is args d k offset o s opened e r f m = rw (e, r, f, m, last-mark_offsets d (fresh s).marked) refl

pub highest_next : (ops : List Operation) (k : ℕ) (o : Operation) (highest : Option ℕ) → slice_get ops k ≡ Some o → highest ≡ highest_protocol (take k ops)
    → raised highest (protocol_of o.opcode) ≡ highest_protocol (take (k + 1) ops)
highest_next ops k o highest e f = rw (f, take_next ops k o e) (sym (highest_protocol-push (take k ops) o))

pub Progress-more : (d : Contents) (k offset : ℕ) (o : Operation) (s t : State) (opened next : List ℕ) (highest : Option ℕ)
    → Progress d k offset s (fresh s).marked opened highest → item_at d k ≡ Some o → move o k s ≡ Ok t
    → next ≡ followed opened (length (fresh s).marked) (length t.marked) offset
    → Progress d (k + 1) (offset + size_of o) t t.marked next (raised highest (protocol_of o.opcode))
Progress-more d k offset o s t opened next highest p e m n =
    let step = move_marks o k s t m in
    record {
      reached = rw (add-one k, run-suc (start d.many) (ops_of d) k o s e p.reached, m) refl;
      stands = rw p.stands (sym (offset_next d k o e));
      marks = rw (n, p.marks, p.stands) (offsets_follow d k (fresh s).marked t.marked step);
      most = highest_next (ops_of d) k o highest e p.most;
      heap = omega (arith, move_heap o k s t m, p.heap);
      few = omega (arith, marks_grow k (fresh s).marked t.marked step, p.few);
    }

-- after STOP, where several pickles are listed, no mark is open
marks_by : (d : Contents) (b : Bool) (s : State) (opened : List ℕ) → opened ≡ mark_offsets d s.marked → (if b then [] else opened) ≡ mark_offsets d (if b then begun s else s).marked
marks_by d true s opened e = refl
marks_by d false s opened e = e

few_by : (b : Bool) (k : ℕ) (s : State) → length s.marked ≤ k → length (if b then begun s else s).marked ≤ k
few_by true k s h = omega arith
few_by false k s h = h

pub Progress-fresh : (d : Contents) (k offset : ℕ) (s : State) (opened : List ℕ) (highest : Option ℕ)
    → Progress d k offset s s.marked opened highest → Progress d k offset s (fresh s).marked (if s.stopped then [] else opened) highest
Progress-fresh d k offset s opened highest p = record {
  reached = p.reached;
  stands = p.stands;
  marks = marks_by d s.stopped s opened p.marks;
  most = p.most;
  heap = p.heap;
  few = few_by s.stopped k s p.few;
}

-- ---- beginnings of the listing

-- what stands after lines stands after the line of item k
behind_line : (args : ArgTexts) (d : Contents) (k j : ℕ) → suc k ≤ j → (rest : List ℕ) × (lines_in args d j ≡ lines_with args d k ++ rest)
behind_line args d k j h =
    let first = lines_first args d (suc k) j h in
    let left : List ℕ = left_by (item_at d k) (run (start d.many) (ops_of d) (suc k)) in
    (left ++ first.0, first.1 ∙ ap (λ (t : List ℕ). t ++ first.0) (lines-suc args d k) ∙ append_assoc (lines_with args d k) left first.0)

-- where item k is reached, the listing begins with its line and those before
begins_at : (args : ArgTexts) (d : Contents) (k j : ℕ) (o : Option Operation) (s : State) → k < length (ops_of d) → k ≤ j → item_at d j ≡ o
    → (rest : List ℕ) × ((listing_to_in args d j o (Some s)).text ≡ lines_with args d k ++ rest)
unfolding ◌⧺◌
begins_at args d k j (Some o) s h le e =
    let first = behind_line args d k (suc j) (omega arith) in
    (_, ap (λ (t : List ℕ). t ++ (refused_lines (refusal_at o s) ++ protocol_line (highest_protocol (take (suc j) (ops_of d))))) first.1 ∙ append_assoc (lines_with args d k) first.0 _)
begins_at args d k j None s h le e = elim (slice_get_cases (ops_of d) j).1 [
  | inl there ↦ let x : Some there.0 ≡ None = sym there.2 ∙ e in cc
  | inr past ↦
      let first = behind_line args d k j (omega (arith, past.0)) in
      (_, ap (λ (t : List ℕ). t ++ (end_lines d (finish_of d) ++ protocol_line (highest_protocol (take j (ops_of d))))) first.1 ∙ append_assoc (lines_with args d k) first.0 _)
]

begins : (args : ArgTexts) (d : Contents) (k : ℕ) (s : State) → run (start d.many) (ops_of d) k ≡ Some s → k < length (ops_of d) → (rest : List ℕ) × ((listing_in args d).text ≡ lines_with args d k ++ rest)
unfolding listing_in
begins args d k s r h =
    let far = is_reached (start d.many) (ops_of d) (length (ops_of d)) in
    let le : k ≤ reached (start d.many) (ops_of d) (length (ops_of d)) = far.most k s (omega arith) r in
    let more = begins_at args d k (reached (start d.many) (ops_of d) (length (ops_of d))) (item_at d (reached (start d.many) (ops_of d) (length (ops_of d)))) far.state h le refl in
    (more.0, ap (λ (x : Option State). (listing_to_in args d (reached (start d.many) (ops_of d) (length (ops_of d))) (item_at d (reached (start d.many) (ops_of d) (length (ops_of d)))) x).text) far.is ∙ more.1)

-- where item k is reached, what was taken of its line and those before is a beginning of the listing
pub begun_so_far : (args : ArgTexts) (a b : Told) (d : Contents) (k : ℕ) (s : State) → run (start d.many) (ops_of d) k ≡ Some s → k < length (ops_of d)
    → Wrote a b (lines_with args d k) → BeganOutput (listing_in args) d a b
begun_so_far args a b d k s r h w = let text = begins args d k s r h in (text.0, record { front = lines_with args d k; parts = text.1; wrote = w })

pub broken_so_far : (args : ArgTexts) (a b : Told) (d : Contents) (k : ℕ) (s : State) → run (start d.many) (ops_of d) k ≡ Some s → k < length (ops_of d) → Broke a b (lines_with args d k) → Broke a b (listing_in args d).text
broken_so_far args a b d k s r h q = let text = begins args d k s r h in rw text.1 (Broke-more a b (lines_with args d k) text.0 q)

-- where a state is reached after some items, the listing begins with their lines and what they left
lines_at : (args : ArgTexts) (d : Contents) (k j : ℕ) (o : Option Operation) (s : State) → k ≤ length (ops_of d) → k ≤ j → item_at d j ≡ o
    → (rest : List ℕ) × ((listing_to_in args d j o (Some s)).text ≡ lines_in args d k ++ rest)
unfolding ◌⧺◌
lines_at args d k j (Some o) s h le e =
    let first = lines_first args d k (suc j) (omega arith) in
    (_, ap (λ (t : List ℕ). t ++ (refused_lines (refusal_at o s) ++ protocol_line (highest_protocol (take (suc j) (ops_of d))))) first.1 ∙ append_assoc (lines_in args d k) first.0 _)
lines_at args d k j None s h le e =
    let first = lines_first args d k j le in
    (_, ap (λ (t : List ℕ). t ++ (end_lines d (finish_of d) ++ protocol_line (highest_protocol (take j (ops_of d))))) first.1 ∙ append_assoc (lines_in args d k) first.0 _)

begins_lines : (args : ArgTexts) (d : Contents) (k : ℕ) (s : State) → run (start d.many) (ops_of d) k ≡ Some s → k ≤ length (ops_of d) → (rest : List ℕ) × ((listing_in args d).text ≡ lines_in args d k ++ rest)
unfolding listing_in
begins_lines args d k s r h =
    let far = is_reached (start d.many) (ops_of d) (length (ops_of d)) in
    let le : k ≤ reached (start d.many) (ops_of d) (length (ops_of d)) = far.most k s h r in
    let more = lines_at args d k (reached (start d.many) (ops_of d) (length (ops_of d))) (item_at d (reached (start d.many) (ops_of d) (length (ops_of d)))) far.state h le refl in
    (more.0, ap (λ (x : Option State). (listing_to_in args d (reached (start d.many) (ops_of d) (length (ops_of d))) (item_at d (reached (start d.many) (ops_of d) (length (ops_of d)))) x).text) far.is ∙ more.1)

pub broken_lines : (args : ArgTexts) (a b : Told) (d : Contents) (k : ℕ) (s : State) → run (start d.many) (ops_of d) k ≡ Some s → k ≤ length (ops_of d) → Broke a b (lines_in args d k) → Broke a b (listing_in args d).text
broken_lines args a b d k s r h q = let text = begins_lines args d k s r h in rw text.1 (Broke-more a b (lines_in args d k) text.0 q)

-- ---- the end

-- the listing is what is written so far and a text after it, with this status
pub record EndsWith (args : ArgTexts) (d : Contents) (front text : List ℕ) (status : ℕ) : Type 0 where
  pub whole : (listing_in args d).text ≡ front ++ text
  pub answers : (listing_in args d).status ≡ status

-- after a refused item
pub refused : (args : ArgTexts) (d : Contents) (k offset : ℕ) (o : Operation) (s : State) (ms : List Marked) (opened : List ℕ) (r : Refusal) (highest : Option ℕ)
    → Progress d k offset s ms opened highest → item_at d k ≡ Some o → refusal_at o s ≡ Some r
    → EndsWith args d (lines_with args d k) (refused_line r ⧺ protocol_line (raised highest (protocol_of o.opcode))) 1
unfolding listing_in ◌⧺◌
refused args d k offset o s ms opened r highest p e f =
    let none : run (start d.many) (ops_of d) (suc k) ≡ None = run-suc (start d.many) (ops_of d) k o s e p.reached ∙ rw (refused_move o k s r f) refl in
    let h = within (ops_of d) k o e in
    let last : reached (start d.many) (ops_of d) (length (ops_of d)) ≡ k = reached_last (start d.many) (ops_of d) k (length (ops_of d)) s p.reached none (omega arith) in
    let high = highest_next (ops_of d) k o highest e p.most in
    let left : left_by (item_at d k) (run (start d.many) (ops_of d) (suc k)) ≡ [] = rw (e, none) refl in
    let all : lines_in args d (suc k) ≡ lines_with args d k = lines-suc args d k ∙ ap (λ (t : List ℕ). lines_with args d k ++ t) left ∙ append-nil (lines_with args d k) in
    record {
      whole = rw (last, e, p.reached, f, all, high, ← add-one k) refl;
      answers = rw (last, e, p.reached) refl;
    }

-- after all items
pub ended : (args : ArgTexts) (d : Contents) (k offset : ℕ) (s : State) (ms : List Marked) (opened : List ℕ) (highest : Option ℕ) → Progress d k offset s ms opened highest → length (ops_of d) ≡ k
    → EndsWith args d (lines_in args d k) (end_lines d (finish_of d) ⧺ protocol_line highest) (end_status (finish_of d))
unfolding listing_in ◌⧺◌
ended args d k offset s ms opened highest p all =
    let here : run (start d.many) (ops_of d) (length (ops_of d)) ≡ Some s = subst (λ (n : ℕ). run (start d.many) (ops_of d) n ≡ Some s) (sym all) p.reached in
    let last : reached (start d.many) (ops_of d) (length (ops_of d)) ≡ length (ops_of d) = reached_here (start d.many) (ops_of d) (length (ops_of d)) s here in
    let none : item_at d (length (ops_of d)) ≡ None = slice_get_past (ops_of d) (length (ops_of d)) (omega arith) in
    record {
      whole = rw (last, none, here, p.most, all) refl;
      answers = rw (last, none, here) refl;
    }

-- the line of item k comes first
pub line_first : (args : ArgTexts) (d : Contents) (k : ℕ) (line text : List ℕ) (status : ℕ) → line_at_in args d k ≡ line → EndsWith args d (lines_with args d k) text status → EndsWith args d (lines_in args d k) (line ⧺ text) status
unfolding ◌⧺◌
line_first args d k line text status e w = record {
  whole = w.whole ∙ ap (λ (l : List ℕ). (lines_in args d k ++ l) ++ text) e ∙ append_assoc (lines_in args d k) line text;
  answers = w.answers;
}

pub end_breaks : {args : ArgTexts} (a b c : Told) (d : Contents) (front text : List ℕ) (status : ℕ) → EndsWith args d front text status → Wrote a b front → Broke b c text → Broke a c (listing_in args d).text
end_breaks a b c d front text status w p q = rw w.whole (Broke-after a b c front text p q)

pub end_written : {args : ArgTexts} (a b c : Told) (d : Contents) (front text : List ℕ) (status : ℕ) → EndsWith args d front text status → Wrote a b front → Wrote b c text → Wrote a c (listing_in args d).text
end_written a b c d front text status w p q = rw w.whole (Wrote-trans a b c front text p q)

-- ---- bounds

pub offset_within : (d : Contents) (k offset : ℕ) (o : Operation) (s : State) (ms : List Marked) (opened : List ℕ) (highest : Option ℕ)
    → Progress d k offset s ms opened highest → item_at d k ≡ Some o → offset + size_of o ≤ length (bytes_of (ops_of d))
offset_within d k offset o s ms opened highest p e = omega (arith, p.stands, offset_next d k o e, offset_small d (k + 1))
