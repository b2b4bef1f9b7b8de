-- A listing and a report are their lines, with nothing between them.
use Rattle.std.proofs.Common.{◌≡◌, ℕ, zero, suc, ◌==◌, ◌&&◌, Bool, true, false, List, [], ◌∷◌, ◌++◌, length, Option, Some, None, refl, sym, ap, subst, ◌∙◌, inl, inr, append_assoc, append-nil}
use Rattle.std.specs.Prelude.{not, if◌then◌else◌, take, map}
use Rattle.std.specs.List.{flat_map}
use Rattle.pickle_io.specs.Text.{◌⧺◌}
use Rattle.pickle_io.specs.Device.{each}
use Rattle.pickle_ops.specs.Object.{Object}
use Rattle.pickle_ops.specs.Spelling.{Operation}
use Rattle.pickle_doc.specs.declared.fault.Finish.{Finish}
use Rattle.pickle_doc.specs.declared.fault.Finish.TheVariants as finish
use Rattle.pickle_doc.specs.DocUnit.{is_stop}
use Rattle.pickle_doc.specs.Document.{Contents, finish_of}
use Rattle.pickle_doc.specs.Place.{ops_of, item_at, tail_offset}
use Rattle.pickle_machine.specs.declared.refusal.Refusal.{Refusal}
use Rattle.pickle_machine.specs.State.{State, start, stack_size}
use Rattle.pickle_machine.specs.Move.{refusal_at}
use Rattle.pickle_machine.specs.Run.{run}
use Rattle.pickle_script.specs.Script.{HasNoNewline}
use Rattle.pickle_session.proofs.Trails.{run_after, before_it, there_is}
use Rattle.pickle_text.specs.declared.closing.Closing.{Closing}
use Rattle.pickle_list.specs.Line.{left_text, left_line, protocol_text, protocol_line, highest_protocol}
use Rattle.calls_laws.specs.LineLaws.{is_within_line, cut_lines, if_any}
use Rattle.pickle_list.specs.Listing.{line_on, line_at, line_at_in, left_by, lines, lines_in, end_lines, refused_lines, listing_to, listing, listing_in}
use Rattle.pickle_text.specs.Reached.{reached}
use Rattle.object_texts.specs.ObjectText.{object_line, lines_from, objects_text}
use Rattle.object_texts.specs.Report.{report_text, result_line}
use Rattle.pickle_text.specs.Closing.{closing_line}
use Rattle.calls_laws.proofs.TextLines.{IsLine, HasLine, cut_line, cut_any, closing_has, kept_has, fault_is_line}
use Rattle.session_laws.specs.Lines.{IsOneLine, listed_lines, protocol_lines, lines_to, listing_lines, object_lines, report_lines, TextsAreLines}
use Rattle.session_laws.proofs.Lacks.{both_hold, differ}
use Rattle.session_laws.proofs.Pieces.{pieces}

-- ---- one line

within : (text : List ℕ) → HasNoNewline text → is_within_line text ≡ true
within [] h = refl
within (x ∷ text) h = both_hold (not (x == 10)) (is_within_line text) (differ x 10 h.0) (within text h.1)

is_line : (text : List ℕ) → IsOneLine text → IsLine text
is_line text h = record {
  body = h.0;
  stays = within h.0 h.1.lines.0;
  is = sym h.1.whole ∙ append-nil (h.0 ++ 10 ∷ []);
}

-- a text that is cut into lines, whatever is behind it
abbrev pub Cuts : List ℕ → List (List ℕ) → Type 0
Cuts text ls = (rest : List ℕ) → cut_lines (text ++ rest) ≡ ls ++ cut_lines rest

cuts_join : (a b : List ℕ) (ls ms : List (List ℕ)) → Cuts a ls → Cuts b ms → Cuts (a ⧺ b) (ls ++ ms)
unfolding ◌⧺◌
cuts_join a b ls ms p q rest =
    ap cut_lines (append_assoc a b rest) ∙ p (b ++ rest) ∙ ap (λ (t : List (List ℕ)). ls ++ t) (q rest) ∙ sym (append_assoc ls ms (cut_lines rest))

pub cuts_one : (text : List ℕ) → IsOneLine text → Cuts text (text ∷ [])
cuts_one text h rest = cut_line text rest (is_line text h)

cuts_any : (text : List ℕ) → HasLine text → Cuts text (if_any text)
cuts_any text h rest = cut_any text rest h

cut_nothing : cut_lines [] ≡ []
unfolding cut_lines
cut_nothing = refl

pub whole : (text : List ℕ) (ls : List (List ℕ)) → Cuts text ls → cut_lines text ≡ ls
whole text ls p = ap cut_lines (sym (append-nil text)) ∙ p [] ∙ ap (λ (t : List (List ℕ)). ls ++ t) cut_nothing ∙ append-nil ls

-- ---- the items of a listing

line_is : (d : Contents) (k : ℕ) (x : Option Operation) (s : Option State) (o : Operation) (t : State) → x ≡ Some o → s ≡ Some t → IsOneLine (line_on d k x s)
line_is d k x s o t e f = subst (λ (y : Option Operation). IsOneLine (line_on d k y s)) (sym e) (subst (λ (z : Option State). IsOneLine (line_on d k (Some o) z)) (sym f) (pieces.item o _ _ _))

line_there : (d : Contents) (k : ℕ) (o : Operation) (s : State) → item_at d k ≡ Some o → run (start d.many) (ops_of d) k ≡ Some s → IsOneLine (line_at d k)
unfolding line_at_in
line_there d k o s e f = line_is d k (item_at d k) (run (start d.many) (ops_of d) k) o s e f

left_has : (objects marks : ℕ) → HasLine (left_line objects marks)
unfolding left_line
left_has objects marks = go (objects == 0 && marks == 0)
  where
    go : (b : Bool) → HasLine (if b then [] else left_text objects marks)
    go true = inl refl
    go false = inr (is_line (left_text objects marks) (pieces.left objects marks))

left_by_has : (x : Option Operation) (s : Option State) → HasLine (left_by x s)
left_by_has None s = inl refl
left_by_has (Some o) None = inl refl
left_by_has (Some o) (Some s) = go (is_stop o.opcode)
  where
    go : (b : Bool) → HasLine (if b then left_line (stack_size s) (length s.marked) else [])
    go true = left_has (stack_size s) (length s.marked)
    go false = inl refl

-- item k after those before it
one_more : (d : Contents) (k : ℕ) → IsOneLine (line_at d k) → Cuts (lines d k) (listed_lines d k) → Cuts (lines d (suc k)) (listed_lines d (suc k))
unfolding lines_in ◌⧺◌
one_more d k l p rest =
    let left : List ℕ = left_by (item_at d k) (run (start d.many) (ops_of d) (suc k)) in
    ap cut_lines (append_assoc (lines d k ++ line_at d k) left rest ∙ append_assoc (lines d k) (line_at d k) (left ++ rest))
    ∙ p (line_at d k ++ (left ++ rest))
    ∙ ap (λ (t : List (List ℕ)). listed_lines d k ++ t)
    (cuts_one (line_at d k) l (left ++ rest)
    ∙ ap (λ (t : List (List ℕ)). line_at d k ∷ t) (cuts_any left (left_by_has (item_at d k) (run (start d.many) (ops_of d) (suc k))) rest))
    ∙ sym (append_assoc (listed_lines d k) (line_at d k ∷ if_any left) (cut_lines rest))

no_lines : (d : Contents) → Cuts (lines d 0) []
unfolding lines_in
no_lines d rest = refl

-- where the items before a place have moves each has a line
cut_items : (d : Contents) (n : ℕ) (s : State) → run (start d.many) (ops_of d) n ≡ Some s → Cuts (lines d n) (listed_lines d n)
cut_items d zero s e = no_lines d
cut_items d (suc k) s e =
    let f = run_after (start d.many) (ops_of d) k s e in
    let b = before_it (item_at d k) (run (start d.many) (ops_of d) k) k s f in
    let o = there_is (item_at d k) (run (start d.many) (ops_of d) k) k s f in
    one_more d k (line_there d k o.0 b.0 o.1 b.1) (cut_items d k b.0 b.1)

-- ---- a listing

end_has : (d : Contents) (f : Finish) → HasLine (end_lines d f)
end_has d finish.Stopped = kept_has (length d.tail)
end_has d (finish.Fault f) = inr (fault_is_line f (tail_offset d))

refused_has : (r : Option Refusal) → HasLine (refused_lines r)
refused_has None = inl refl
refused_has (Some r) = inr (is_line _ (pieces.refused r))

protocol_has : (p : Option ℕ) → HasLine (protocol_line p)
unfolding protocol_line
protocol_has None = inl refl
protocol_has (Some p) = inr (is_line (protocol_text p) (pieces.protocol p))

-- the items, a line or nothing, and the last line
closed : (text : List ℕ) (ls : List (List ℕ)) (a : List ℕ) (ops : List Operation) → Cuts text ls → HasLine a
    → cut_lines (text ⧺ (a ⧺ protocol_line (highest_protocol ops))) ≡ ls ++ (if_any a ++ protocol_lines ops)
closed text ls a ops p h =
    let b : List ℕ = protocol_line (highest_protocol ops) in
    whole (text ⧺ (a ⧺ b)) (ls ++ (if_any a ++ if_any b))
    (cuts_join text (a ⧺ b) ls (if_any a ++ if_any b) p (cuts_join a b (if_any a) (if_any b) (cuts_any a h) (cuts_any b (protocol_has (highest_protocol ops)))))

listing_by : (d : Contents) (k : ℕ) (x : Option Operation) (s : Option State) → item_at d k ≡ x → run (start d.many) (ops_of d) k ≡ s → cut_lines (listing_to d k x s).text ≡ lines_to d k x s
listing_by d k None None e f = cut_nothing
listing_by d k (Some o) None e f = cut_nothing
listing_by d k None (Some s) e f = closed (lines d k) (listed_lines d k) (end_lines d (finish_of d)) (take k (ops_of d)) (cut_items d k s f) (end_has d (finish_of d))
listing_by d k (Some o) (Some s) e f =
    closed (lines d (suc k)) (listed_lines d (suc k)) (refused_lines (refusal_at o s)) (take (suc k) (ops_of d))
    (one_more d k (line_there d k o s e f) (cut_items d k s f)) (refused_has (refusal_at o s))

listing_there : (d : Contents) → cut_lines (listing d).text ≡ listing_lines d
unfolding listing_in
listing_there d =
    let k = reached (start d.many) (ops_of d) (length (ops_of d)) in
    listing_by d k (item_at d k) (run (start d.many) (ops_of d) k) refl refl

-- ---- a report

cut_from : (id : ℕ) (heap : List Object) → Cuts (lines_from id heap) (object_lines id heap)
unfolding lines_from
cut_from id [] = λ rest. refl
cut_from id (o ∷ heap) = cuts_join (object_line id o) (lines_from (suc id) heap) (object_line id o ∷ []) (object_lines (suc id) heap) (cuts_one (object_line id o) (pieces.object id o)) (cut_from (suc id) heap)

cut_objects : (heap : List Object) → Cuts (objects_text heap) (object_lines 0 heap)
unfolding objects_text
cut_objects heap = cut_from 0 heap

cut_results : (results : List ℕ) → Cuts (each result_line results) (map result_line results)
unfolding each
cut_results [] = λ rest. refl
cut_results (id ∷ results) = λ rest.
    ap cut_lines (append_assoc (result_line id) (flat_map result_line results) rest)
    ∙ cuts_one (result_line id) (pieces.result id) (flat_map result_line results ++ rest)
    ∙ ap (λ (t : List (List ℕ)). result_line id ∷ t) (cut_results results rest)

report_there : (heap : List Object) (results : List ℕ) (c : Closing) → cut_lines (report_text heap results c) ≡ report_lines heap results c
unfolding report_text
report_there heap results c =
    whole (objects_text heap ⧺ each result_line results ⧺ closing_line c) (object_lines 0 heap ++ (map result_line results ++ if_any (closing_line c)))
    (subst (Cuts (objects_text heap ⧺ each result_line results ⧺ closing_line c)) (append_assoc (object_lines 0 heap) (map result_line results) (if_any (closing_line c)))
    (cuts_join (objects_text heap ⧺ each result_line results) (closing_line c) (object_lines 0 heap ++ map result_line results) (if_any (closing_line c))
    (cuts_join (objects_text heap) (each result_line results) (object_lines 0 heap) (map result_line results) (cut_objects heap) (cut_results results))
    (cuts_any (closing_line c) (closing_has c))))

pub texts : TextsAreLines
texts = record {
  listing = listing_there;
  report = λ d text status r. ap cut_lines r.lines ∙ report_there r.state.heap r.state.results r.closing;
}
