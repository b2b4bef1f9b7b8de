-- The lines of a listing, place by place, and how it begins and ends.
use Rattle.std.proofs.Common.{◌≡◌, ℕ, zero, suc, ◌+◌, ◌-◌, ◌<◌, ◌≤◌, List, [], ◌++◌, length, take, Option, Some, None, refl, sym, ap, subst, ◌∙◌, append_assoc, add-one, inl, inr, arith}
use Rattle.std.proofs.lemmas.List.{append-nil}
use Rattle.std.proofs.lemmas.Option.{slice_get_past, slice_get_cases}
use Rattle.pickle_io.specs.Text.{◌⧺◌}
use Rattle.pickle_io.specs.Device.{Told, Wrote, Broke}
use Rattle.pickle_io.proofs.Devices.{Wrote-trans, Broke-after, Broke-more}
use Rattle.pickle_ops.specs.Table.{protocol_of}
use Rattle.pickle_ops.specs.Spelling.{Operation}
use Rattle.pickle_ops.specs.Row.{row_of}
use Rattle.pickle_doc.specs.Document.{Contents, finish_of}
use Rattle.pickle_doc.specs.Place.{ops_of, item_at, offset_of}
use Rattle.pickle_machine.specs.declared.refusal.Refusal.{Refusal}
use Rattle.pickle_machine.specs.State.{State, Marked, start}
use Rattle.pickle_machine.specs.Move.{refusal_of, refusal_at, fresh}
use Rattle.pickle_machine.specs.Run.{run}
use Rattle.pickle_list.specs.Line.{raised, highest_protocol}
use Rattle.pickle_text.specs.Reached.{reached}
use Rattle.pickle_list.specs.Listing.{end_status}
use Rattle.pickle_list.specs.Inside.Marks.{last_element, mark_offsets}
use Rattle.pickle_list.specs.Inside.Listed.{Progress}
use Rattle.pickle_text.specs.Output.{BeganOutput}
use Rattle.pickle_text.proofs.Moves.{refused_move}
use Rattle.pickle_text.proofs.Places.{run-suc, reached_here, reached_last, is_reached, within}
use Rattle.pickle_list.proofs.Listings.{last-mark_offsets, highest_next}
use Rattle.pickle_json.specs.ItemFields.{item_line}
use Rattle.pickle_json.specs.EndFields.{refused_end}
use Rattle.pickle_json.specs.Listing.{note_with, note_unless, line_at, left_by, lines, end_text, refused_text, listing, listing_to}

-- ---- lines

pub lines-zero : (d : Contents) → lines d 0 ≡ []
unfolding lines
lines-zero d = refl

-- the lines of the items before one, and its own
abbrev pub lines_with : Contents → ℕ → List ℕ
lines_with d k = lines d k ++ line_at d k

pub lines-suc : (d : Contents) (k : ℕ) → lines d (suc k) ≡ lines_with d k ++ left_by (item_at d k) (run (start d.many) (ops_of d) (suc k))
unfolding lines ◌⧺◌
lines-suc d k = refl

lines_more : (d : Contents) (k n : ℕ) → (rest : List ℕ) × (lines d (k + n) ≡ lines d k ++ rest)
lines_more d k zero = let e : k + 0 ≡ k = omega arith in ([], rw e (sym (append-nil (lines d k))))
lines_more d k (suc n) =
    let e : k + suc n ≡ suc (k + n) = omega arith in
    let before = lines_more d k n in
    let last : List ℕ = left_by (item_at d (k + n)) (run (start d.many) (ops_of d) (suc (k + n))) in (
      (before.0 ++ line_at d (k + n)) ++ last,
      rw e (lines-suc d (k + n)
          ∙ ap (λ (t : List ℕ). (t ++ line_at d (k + n)) ++ last) before.1
          ∙ ap (λ (t : List ℕ). t ++ last) (append_assoc (lines d k) before.0 (line_at d (k + n)))
          ∙ append_assoc (lines d k) (before.0 ++ line_at d (k + n)) last),
    )

-- the first lines come first
pub lines_first : (d : Contents) (k n : ℕ) → k ≤ n → (rest : List ℕ) × (lines d n ≡ lines d k ++ rest)
lines_first d k n h =
    let e : k + (n - k) ≡ n = omega arith in
    let more = lines_more d k (n - k) in
    (more.0, subst (λ (m : ℕ). lines d m ≡ lines d k ++ more.0) e more.1)

-- ---- item k

-- the line that is written for it
pub line_is : (d : Contents) (k offset : ℕ) (o : Operation) (s : State) (opened : List ℕ) → item_at d k ≡ Some o → run (start d.many) (ops_of d) k ≡ Some s → offset ≡ offset_of d k
    → opened ≡ mark_offsets d (fresh s).marked → line_at d k ≡ item_line o offset (length (fresh s).marked) (note_unless (refusal_of (row_of o) (fresh s)) (note_with o (fresh s) (last_element opened)))
unfolding line_at
line_is d k offset o s opened e r f m = rw (e, r, f, m, last-mark_offsets d (fresh s).marked) refl

-- ---- beginnings of the listing

-- what stands after lines stands after the line of item k
behind_line : (d : Contents) (k j : ℕ) → suc k ≤ j → (rest : List ℕ) × (lines d j ≡ lines_with d k ++ rest)
behind_line d k j h =
    let first = lines_first d (suc k) j h in
    let left : List ℕ = left_by (item_at d k) (run (start d.many) (ops_of d) (suc k)) in
    (left ++ first.0, first.1 ∙ ap (λ (t : List ℕ). t ++ first.0) (lines-suc d k) ∙ append_assoc (lines_with d k) left first.0)

-- where item k is reached, the listing begins with its line and those before
begins_at : (d : Contents) (k j : ℕ) (o : Option Operation) (s : State) → k < length (ops_of d) → k ≤ j → item_at d j ≡ o
    → (rest : List ℕ) × ((listing_to d j o (Some s)).text ≡ lines_with d k ++ rest)
unfolding ◌⧺◌
begins_at d k j (Some o) s h le e =
    let first = behind_line d k (suc j) (omega arith) in
    (_, ap (λ (t : List ℕ). t ++ refused_text (refusal_at o s) (highest_protocol (take (suc j) (ops_of d)))) first.1 ∙ append_assoc (lines_with d k) first.0 _)
begins_at d k j None s h le e = elim (slice_get_cases (ops_of d) j).1 [
  | inl there ↦ let x : Some there.0 ≡ None = sym there.2 ∙ e in cc
  | inr past ↦
      let first = behind_line d k j (omega (arith, past.0)) in
      (_, ap (λ (t : List ℕ). t ++ end_text d (finish_of d) (highest_protocol (take j (ops_of d)))) first.1 ∙ append_assoc (lines_with d k) first.0 _)
]

begins : (d : Contents) (k : ℕ) (s : State) → run (start d.many) (ops_of d) k ≡ Some s → k < length (ops_of d) → (rest : List ℕ) × ((listing d).text ≡ lines_with d k ++ rest)
unfolding listing
begins d k s r h =
    let far = is_reached (start d.many) (ops_of d) (length (ops_of d)) in
    let le : k ≤ reached (start d.many) (ops_of d) (length (ops_of d)) = far.most k s (omega arith) r in
    let more = begins_at d k (reached (start d.many) (ops_of d) (length (ops_of d))) (item_at d (reached (start d.many) (ops_of d) (length (ops_of d)))) far.state h le refl in
    (more.0, ap (λ (x : Option State). (listing_to d (reached (start d.many) (ops_of d) (length (ops_of d))) (item_at d (reached (start d.many) (ops_of d) (length (ops_of d)))) x).text) far.is ∙ more.1)

-- where item k is reached, what was taken of its line and those before is a beginning of the listing
pub begun_so_far : (a b : Told) (d : Contents) (k : ℕ) (s : State) → run (start d.many) (ops_of d) k ≡ Some s → k < length (ops_of d)
    → Wrote a b (lines_with d k) → BeganOutput listing d a b
begun_so_far a b d k s r h w = let text = begins d k s r h in (text.0, record { front = lines_with d k; parts = text.1; wrote = w })

pub broken_so_far : (a b : Told) (d : Contents) (k : ℕ) (s : State) → run (start d.many) (ops_of d) k ≡ Some s → k < length (ops_of d) → Broke a b (lines_with d k) → Broke a b (listing d).text
broken_so_far a b d k s r h q = let text = begins d k s r h in rw text.1 (Broke-more a b (lines_with d k) text.0 q)

-- where a state is reached after some items, the listing begins with their lines and what they left
lines_at : (d : Contents) (k j : ℕ) (o : Option Operation) (s : State) → k ≤ length (ops_of d) → k ≤ j → item_at d j ≡ o
    → (rest : List ℕ) × ((listing_to d j o (Some s)).text ≡ lines d k ++ rest)
unfolding ◌⧺◌
lines_at d k j (Some o) s h le e =
    let first = lines_first d k (suc j) (omega arith) in
    (_, ap (λ (t : List ℕ). t ++ refused_text (refusal_at o s) (highest_protocol (take (suc j) (ops_of d)))) first.1 ∙ append_assoc (lines d k) first.0 _)
lines_at d k j None s h le e =
    let first = lines_first d k j le in
    (_, ap (λ (t : List ℕ). t ++ end_text d (finish_of d) (highest_protocol (take j (ops_of d)))) first.1 ∙ append_assoc (lines d k) first.0 _)

begins_lines : (d : Contents) (k : ℕ) (s : State) → run (start d.many) (ops_of d) k ≡ Some s → k ≤ length (ops_of d) → (rest : List ℕ) × ((listing d).text ≡ lines d k ++ rest)
unfolding listing
begins_lines d k s r h =
    let far = is_reached (start d.many) (ops_of d) (length (ops_of d)) in
    let le : k ≤ reached (start d.many) (ops_of d) (length (ops_of d)) = far.most k s h r in
    let more = lines_at d k (reached (start d.many) (ops_of d) (length (ops_of d))) (item_at d (reached (start d.many) (ops_of d) (length (ops_of d)))) far.state h le refl in
    (more.0, ap (λ (x : Option State). (listing_to d (reached (start d.many) (ops_of d) (length (ops_of d))) (item_at d (reached (start d.many) (ops_of d) (length (ops_of d)))) x).text) far.is ∙ more.1)

pub broken_lines : (a b : Told) (d : Contents) (k : ℕ) (s : State) → run (start d.many) (ops_of d) k ≡ Some s → k ≤ length (ops_of d) → Broke a b (lines d k) → Broke a b (listing d).text
broken_lines a b d k s r h q = let text = begins_lines d k s r h in rw text.1 (Broke-more a b (lines d k) text.0 q)

-- ---- the end

-- the listing is what is written so far and a text after it, with this status
pub record EndsWith (d : Contents) (front text : List ℕ) (status : ℕ) : Type 0 where
  pub whole : (listing d).text ≡ front ++ text
  pub answers : (listing d).status ≡ status

-- after a refused item
pub refused : (d : Contents) (k offset : ℕ) (o : Operation) (s : State) (ms : List Marked) (opened : List ℕ) (r : Refusal) (highest : Option ℕ)
    → Progress d k offset s ms opened highest → item_at d k ≡ Some o → refusal_at o s ≡ Some r
    → EndsWith d (lines_with d k) (refused_end r (raised highest (protocol_of o.opcode))) 1
unfolding listing ◌⧺◌
refused d k offset o s ms opened r highest p e f =
    let none : run (start d.many) (ops_of d) (suc k) ≡ None = run-suc (start d.many) (ops_of d) k o s e p.reached ∙ rw (refused_move o k s r f) refl in
    let h = within (ops_of d) k o e in
    let last : reached (start d.many) (ops_of d) (length (ops_of d)) ≡ k = reached_last (start d.many) (ops_of d) k (length (ops_of d)) s p.reached none (omega arith) in
    let high = highest_next (ops_of d) k o highest e p.most in
    let left : left_by (item_at d k) (run (start d.many) (ops_of d) (suc k)) ≡ [] = rw (e, none) refl in
    let all : lines d (suc k) ≡ lines_with d k = lines-suc d k ∙ ap (λ (t : List ℕ). lines_with d k ++ t) left ∙ append-nil (lines_with d k) in
    record {
      whole = rw (last, e, p.reached, f, all, high, ← add-one k) refl;
      answers = rw (last, e, p.reached) refl;
    }

-- after all items
pub ended : (d : Contents) (k offset : ℕ) (s : State) (ms : List Marked) (opened : List ℕ) (highest : Option ℕ) → Progress d k offset s ms opened highest → length (ops_of d) ≡ k
    → EndsWith d (lines d k) (end_text d (finish_of d) highest) (end_status (finish_of d))
unfolding listing ◌⧺◌
ended d k offset s ms opened highest p all =
    let here : run (start d.many) (ops_of d) (length (ops_of d)) ≡ Some s = subst (λ (n : ℕ). run (start d.many) (ops_of d) n ≡ Some s) (sym all) p.reached in
    let last : reached (start d.many) (ops_of d) (length (ops_of d)) ≡ length (ops_of d) = reached_here (start d.many) (ops_of d) (length (ops_of d)) s here in
    let none : item_at d (length (ops_of d)) ≡ None = slice_get_past (ops_of d) (length (ops_of d)) (omega arith) in
    record {
      whole = rw (last, none, here, p.most, all) refl;
      answers = rw (last, none, here) refl;
    }

-- the line of item k comes first
pub line_first : (d : Contents) (k : ℕ) (line text : List ℕ) (status : ℕ) → line_at d k ≡ line → EndsWith d (lines_with d k) text status → EndsWith d (lines d k) (line ⧺ text) status
unfolding ◌⧺◌
line_first d k line text status e w = record {
  whole = w.whole ∙ ap (λ (l : List ℕ). (lines d k ++ l) ++ text) e ∙ append_assoc (lines d k) line text;
  answers = w.answers;
}

pub end_breaks : (a b c : Told) (d : Contents) (front text : List ℕ) (status : ℕ) → EndsWith d front text status → Wrote a b front → Broke b c text → Broke a c (listing d).text
end_breaks a b c d front text status w p q = rw w.whole (Broke-after a b c front text p q)

pub end_written : (a b c : Told) (d : Contents) (front text : List ℕ) (status : ℕ) → EndsWith d front text status → Wrote a b front → Wrote b c text → Wrote a c (listing d).text
end_written a b c d front text status w p q = rw w.whole (Wrote-trans a b c front text p q)
