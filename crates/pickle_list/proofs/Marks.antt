-- What a move does to the marks.
use Rattle.std.proofs.Common.{◌≡◌, ◌∙◌, ℕ, ◌+◌, ◌-◌, ◌<◌, ◌≤◌, Bool, true, false, cond, ltb, List, [], ◌∷◌, ◌++◌, length, take, Option, None, Ok, refl, ap, subst, length-append, arith}
use Rattle.std.specs.Prelude.{if◌then◌else◌, ◌==◌}
use Rattle.std.proofs.lemmas.Bool.{lt-ltb, le-ltb, ne_eqb}
use Rattle.std.proofs.lemmas.List.{take_at}
use Rattle.pickle_ops.specs.Spelling.{Operation}
use Rattle.pickle_ops.specs.declared.kind.Kind.{Kind}
use Rattle.pickle_ops.specs.declared.row.Row.{Row}
use Rattle.pickle_ops.specs.declared.row.Row.TheVariants as row
use Rattle.pickle_ops.specs.declared.class.Demand.TheVariants as demand
use Rattle.pickle_ops.specs.Row.{row_of, kind_of}
use Rattle.pickle_machine.specs.declared.refusal.Refusal.{Refusal}
use Rattle.pickle_machine.specs.declared.refusal.Refusal.TheVariants as refusal
use Rattle.pickle_machine.specs.State.{Marked, State}
use Rattle.pickle_machine.specs.Move.{next_of, refusal_of, refusal_at, next, move, cut, deeper, without, unless, deep, object_meets, fresh}
use Rattle.pickle_doc.specs.Document.{Contents}
use Rattle.pickle_doc.specs.Place.{offset_of}
use Rattle.pickle_list.specs.Inside.Marks.{followed, followed_by, mark_offsets}
use Rattle.pickle_text.proofs.Moves.{moved}

-- what becomes of the marks: they stay, one is set at this place, or the topmost goes
pub data MarkStep (place : ℕ) (old new : List Marked) : Type 0 where
  Stays : new ≡ old → MarkStep place old new
  IsSet : (section : List ℕ) → new ≡ record { section = section; place = place } ∷ old → MarkStep place old new
  Goes : (m : Marked) → old ≡ m ∷ new → MarkStep place old new

no_mark : (ms : List Marked) (r : Refusal) (rest : Option Refusal) → unless (ltb 0 (length ms)) r rest ≡ None → (m : Marked) × (ms ≡ m ∷ deeper ms)
no_mark [] r rest e = cc
no_mark (m ∷ ms) r rest e = (m, refl)

goes : (place : ℕ) (ms : List Marked) (r : Refusal) (rest : Option Refusal) → unless (ltb 0 (length ms)) r rest ≡ None → MarkStep place ms (deeper ms)
goes place ms r rest e = let some = no_mark ms r rest e in Goes some.0 some.1

view_marks : (b : Bool) (s t u : State) → t.marked ≡ s.marked → u.marked ≡ s.marked → (cond b t u).marked ≡ s.marked
view_marks true s t u p q = p
view_marks false s t u p q = q

pop_marks : (b : Bool) (place : ℕ) (s : State) → cond b None (unless (ltb 0 (length s.marked)) refusal.Underflow None) ≡ None → MarkStep place s.marked (cond b (without 1 s) (cut s)).marked
pop_marks true place s e = Stays refl
pop_marks false place s e = goes place s.marked refusal.Underflow None e

next_marks : (r : Row) (k : Kind) (place : ℕ) (s : State) → refusal_of r s ≡ None → MarkStep place s.marked (next_of r k place s).marked
next_marks row.Nothing k place s e = Stays refl
next_marks (row.Protocol n) k place s e = Stays refl
next_marks (row.Extension n) k place s e = Stays refl
next_marks row.Push k place s e = Stays refl
next_marks row.Buffer k place s e = Stays refl
next_marks row.ReadOnly k place s e = Stays (view_marks (object_meets demand.ReadOnly s (deep 0 s.top)) s s _ refl refl)
next_marks (row.Take t) k place s e = Stays refl
next_marks (row.Cut c) k place s e = goes place s.marked _ _ e
next_marks (row.Change f) k place s e = Stays refl
next_marks (row.CutChange f) k place s e = goes place s.marked _ _ e
next_marks row.Pop k place s e = pop_marks (ltb 0 (length s.top)) place s e
next_marks row.PopMark k place s e = goes place s.marked _ _ e
next_marks row.Dup k place s e = Stays refl
next_marks row.Mark k place s e = IsSet s.top refl
next_marks (row.Get key) k place s e = Stays refl
next_marks (row.Put key) k place s e = Stays refl
next_marks row.Memoize k place s e = Stays refl
next_marks row.Stop k place s e = Stays refl

followed_same : (ms : List Marked) (opened : List ℕ) (offset : ℕ) → followed opened (length ms) (length ms) offset ≡ opened
followed_same ms opened offset = rw (le-ltb (length ms) (length ms) (omega arith)) refl

followed_one : (m : Marked) (ms : List Marked) (opened : List ℕ) (offset : ℕ) → followed opened (length (m ∷ ms)) (length ms) offset ≡ take (length opened - 1) opened
followed_one m ms opened offset = rw (le-ltb (length (m ∷ ms)) (length ms) (omega arith), lt-ltb (length ms) (length (m ∷ ms)) (omega arith)) refl

followed_more : (m : Marked) (ms : List Marked) (opened : List ℕ) (offset : ℕ) → followed opened (length ms) (length (m ∷ ms)) offset ≡ opened ++ offset ∷ []
followed_more m ms opened offset = rw (lt-ltb (length ms) (length (m ∷ ms)) (omega arith)) refl

followed_less : (ms : List Marked) (r : Refusal) (rest : Option Refusal) (opened : List ℕ) (offset : ℕ) → unless (ltb 0 (length ms)) r rest ≡ None
    → followed opened (length ms) (length (deeper ms)) offset ≡ take (length opened - 1) opened
followed_less [] r rest opened offset e = cc
followed_less (m ∷ ms) r rest opened offset e = followed_one m ms opened offset

followed_pop : (top : List ℕ) (s : State) (opened : List ℕ) (offset : ℕ) → s.top ≡ top
    → cond (ltb 0 (length top)) None (unless (ltb 0 (length s.marked)) refusal.Underflow None) ≡ None
    → followed opened (length s.marked) (length (cond (ltb 0 (length top)) (without 1 s) (cut s)).marked) offset ≡ (if length top == 0 then take (length opened - 1) opened else opened)
followed_pop [] s opened offset is e = followed_less s.marked refusal.Underflow None opened offset e
followed_pop (x ∷ xs) s opened offset is e = rw (lt-ltb 0 (length (x ∷ xs)) (omega arith), ne_eqb (length (x ∷ xs)) 0 (λ e. omega (arith, e))) (followed_same s.marked opened offset)

-- what becomes of the offsets of the open marks is known by the row, before it moves
pub followed_is : (r : Row) (k : Kind) (place : ℕ) (s : State) (opened : List ℕ) (offset : ℕ) → refusal_of r s ≡ None
    → followed opened (length s.marked) (length (next_of r k place s).marked) offset ≡ followed_by r s opened offset
followed_is row.Mark k place s opened offset e = followed_more (record { section = s.top; place = place }) s.marked opened offset
followed_is (row.Cut c) k place s opened offset e = followed_less s.marked _ _ opened offset e
followed_is (row.CutChange f) k place s opened offset e = followed_less s.marked _ _ opened offset e
followed_is row.PopMark k place s opened offset e = followed_less s.marked _ _ opened offset e
followed_is row.Pop k place s opened offset e = followed_pop s.top s opened offset refl e
followed_is row.Nothing k place s opened offset e = followed_same s.marked opened offset
followed_is (row.Protocol n) k place s opened offset e = followed_same s.marked opened offset
followed_is (row.Extension n) k place s opened offset e = followed_same s.marked opened offset
followed_is row.Push k place s opened offset e = followed_same s.marked opened offset
followed_is row.Buffer k place s opened offset e = followed_same s.marked opened offset
followed_is row.ReadOnly k place s opened offset e =
    ap (λ (n : List Marked). followed opened (length s.marked) (length n) offset) (view_marks (object_meets demand.ReadOnly s (deep 0 s.top)) s s _ refl refl) ∙ followed_same s.marked opened offset
followed_is (row.Take t) k place s opened offset e = followed_same s.marked opened offset
followed_is (row.Change f) k place s opened offset e = followed_same s.marked opened offset
followed_is row.Dup k place s opened offset e = followed_same s.marked opened offset
followed_is (row.Get key) k place s opened offset e = followed_same s.marked opened offset
followed_is (row.Put key) k place s opened offset e = followed_same s.marked opened offset
followed_is row.Memoize k place s opened offset e = followed_same s.marked opened offset
followed_is row.Stop k place s opened offset e = followed_same s.marked opened offset

pub move_marks : (o : Operation) (place : ℕ) (s t : State) → move o place s ≡ Ok t → MarkStep place (fresh s).marked t.marked
move_marks o place s t e =
    let same = moved (refusal_at o s) (next o place s) t e in
    subst (λ (u : State). MarkStep place (fresh s).marked u.marked) same.1 (next_marks (row_of o) (kind_of o) place (fresh s) same.0)

pub marks_grow : (place : ℕ) (old new : List Marked) → MarkStep place old new → length new ≤ length old + 1
marks_grow place old new (Stays e) = omega (arith, ap length e)
marks_grow place old new (IsSet section e) = omega (arith, ap length e)
marks_grow place old new (Goes m e) = omega (arith, ap length e)

-- the offsets of the open marks follow
pub offsets_follow : (d : Contents) (place : ℕ) (old new : List Marked) → MarkStep place old new
    → followed (mark_offsets d old) (length old) (length new) (offset_of d place) ≡ mark_offsets d new
offsets_follow d place old new (Stays e) = rw (e, le-ltb (length old) (length old) (omega arith)) refl
offsets_follow d place old new (IsSet section e) =
    let more : length old < length new = omega (arith, ap length e) in rw (lt-ltb (length old) (length new) more, e) refl
offsets_follow d place old new (Goes m e) =
    let less : length new < length old = omega (arith, ap length e) in
    let none : length new ≤ length old = omega arith in
    let len : length (mark_offsets d new) ≡ length (mark_offsets d new ++ offset_of d m.place ∷ []) - 1 = omega (arith, length-append (mark_offsets d new) (offset_of d m.place ∷ [])) in
    rw (le-ltb (length old) (length new) none, lt-ltb (length new) (length old) less, e) (take_at (mark_offsets d new) (offset_of d m.place ∷ []) _ len)
