-- What a step did: its record and the state after it tell the same as the state before it.
use Rattle.std.proofs.Common.{◌≡◌, ℕ, zero, suc, ◌-◌, Bool, true, false, cond, not, drop, List, [], ◌∷◌, ◌++◌, length, get_or, Option, Some, None, Ok, refl, sym, ap, subst, ◌∙◌, arith, length-append}
use Rattle.std.proofs.lemmas.Bool.{ltb-false}
use Rattle.std.proofs.lemmas.Bool.Decides.{nat_tests}
use Rattle.std.specs.Prelude.{◌==◌, nat_lt, is_some, unwrap_or}
use Rattle.pickle_ops.specs.Spelling.{Operation}
use Rattle.pickle_ops.specs.declared.class.Demand.TheVariants as demand
use Rattle.pickle_ops.specs.declared.kind.Kind.{Kind}
use Rattle.pickle_ops.specs.declared.kind.Kind.TheVariants as kind
use Rattle.pickle_ops.specs.declared.row.Row.{Row}
use Rattle.pickle_ops.specs.declared.row.Row.TheVariants as row
use Rattle.pickle_ops.specs.declared.row.Taking.TheVariants as taking
use Rattle.pickle_ops.specs.declared.row.Filling.TheVariants as filling
use Rattle.pickle_ops.specs.Object.{Object}
use Rattle.pickle_ops.specs.Row.{count_of, row_of, kind_of}
use Rattle.pickle_machine.specs.declared.refusal.Refusal.{Refusal}
use Rattle.pickle_machine.specs.declared.refusal.Refusal.TheVariants as refusal
use Rattle.pickle_machine.specs.State.{State, empty, top_mark_place}
use Rattle.pickle_machine.specs.Move.{deep, under, cut, without, last_of, push, put, memo_at, object_meets, refusal_of, next_of, begun, outcome, refusal_at, next, move}
use Rattle.pickle_machine.specs.Back.{last_parts}
use Rattle.pickle_machine.specs.Records.{unchanged, made, lost, old_entry, record_of, makes_first, begun_by, step_record}
use Rattle.pickle_machine.specs.Doing.{Doing, does_within, does, told_by}
use Rattle.pickle_machine.proofs.Firsts.{first_refusals}
use Rattle.pickle_machine.proofs.Leading.{last_parts-append, good_of}
use Rattle.pickle_machine.proofs.HeapGrowth.{has_move}

-- ---- the top, and the last object

-- the default of an empty section
pub no_top : (xs : List ℕ) → length xs ≡ 0 → 0 ≡ deep 0 xs
no_top [] e = refl
no_top (x ∷ xs) e = absurd (omega (arith, e))

pub ruleset top_steps = (no_top)

last_is : (xs : List ℕ) (x : ℕ) → get_or (xs ++ x ∷ []) (length xs) 0 ≡ x
last_is [] x = refl
last_is (y ∷ xs) x = last_is xs x

-- what was put on last is on top
top_is : (xs : List ℕ) (x : ℕ) → deep 0 (xs ++ x ∷ []) ≡ x
top_is xs x =
    let n : length (xs ++ x ∷ []) - 1 - 0 ≡ length xs = omega (arith, length-append xs (x ∷ [])) in
    ap (λ (i : ℕ). get_or (xs ++ x ∷ []) i 0) n ∙ last_is xs x

one_more : (objects : List Object) (o : Object) → length (objects ++ o ∷ []) - 1 ≡ length objects
one_more objects o = omega (arith, length-append objects (o ∷ []))

pub parts_at : (objects : List Object) (i : ℕ) (other : Object) → length objects ≡ suc i → (get_or objects i other).parts ≡ last_parts objects
parts_at [] i other e = absurd (omega (arith, e))
parts_at (o ∷ []) zero other e = refl
parts_at (o ∷ []) (suc i) other e = absurd (omega (arith, e))
parts_at (o ∷ p ∷ objects) zero other e = absurd (omega (arith, e))
parts_at (o ∷ p ∷ objects) (suc i) other e = parts_at (p ∷ objects) i other (omega (arith, e))

-- ---- a new object

-- what is told of one, by its number, its place on the stack and its parts
abbrev new_one : Bool → ℕ → ℕ → List ℕ → Option ℕ → Doing
new_one begins id top parts place =
    record { begins = begins; made = Some id; pushed = Some top; took = parts; cut = place; marked = false; changed = None; stored = None }

new_told : (begins : Bool) (objects : List Object) (rest : List ℕ) (o : Object) (place : Option ℕ)
    → new_one begins (length (objects ++ o ∷ []) - 1) (deep 0 (rest ++ length objects ∷ [])) (last_parts (objects ++ o ∷ [])) place
    ≡ new_one begins (length objects) (length objects) o.parts place
new_told begins objects rest o place =
    ap (λ (n : ℕ). new_one begins n (deep 0 (rest ++ length objects ∷ [])) (last_parts (objects ++ o ∷ [])) place) (one_more objects o)
    ∙ ap (λ (n : ℕ). new_one begins (length objects) n (last_parts (objects ++ o ∷ [])) place) (top_is rest (length objects))
    ∙ ap (λ (l : List ℕ). new_one begins (length objects) (length objects) l place) (last_parts-append objects o)

-- ---- each row

view_told : (b : Bool) (k : Kind) (s : State)
    → told_by row.ReadOnly (cond b (unchanged s) (made None s)) (cond b s (push k (last_of 1 s) (without 1 s)))
    ≡ record (does_within row.ReadOnly s) { made = cond b None (Some (length s.heap)); pushed = cond b None (Some (length s.heap)); took = cond b [] (last_of 1 s) }
view_told true k s = refl
view_told false k s = new_told false s.heap (without 1 s).top (record { kind = k; parts = last_of 1 s; changes = [] }) None

is_zero : (n : ℕ) → (n == 0) ≡ not (nat_lt 0 n)
is_zero n = grind (arith, nat_tests)

none_last : (xs : List ℕ) → nat_lt 0 (length xs) ≡ false → drop (length xs - 1) xs ≡ []
none_last [] e = refl
none_last (x ∷ xs) e = absurd (omega (arith, ltb-false 0 (length (x ∷ xs)) e))

pop_told : (some empty : Bool) (s : State) → empty ≡ not some → (some ≡ false → last_of 1 s ≡ [])
    → told_by row.Pop (cond some (lost (last_of 1 s) None s) (lost [] (Some (top_mark_place s.marked)) s)) (cond some (without 1 s) (cut s))
    ≡ record (does_within row.Pop s) { cut = cond empty (Some (top_mark_place s.marked)) None }
pop_told true true s e h = absurd cc
pop_told true false s e h = refl
pop_told false true s e h = ap (λ (items : List ℕ). record (does_within row.Pop s) { took = items; cut = Some (top_mark_place s.marked) }) (sym (h refl))
pop_told false false s e h = absurd cc

get_told : (top : List ℕ) (found : Option ℕ) → is_some found ≡ true → Some (deep 0 (top ++ unwrap_or found 0 ∷ [])) ≡ found
get_told top None e = absurd cc
get_told top (Some id) e = ap Some (top_is top id)

stored_told : (r : Row) (key : ℕ) (found : Option ℕ) (s : State)
    → told_by r (record (unchanged s) { memo = old_entry key found }) (put key s)
    ≡ record (told_by r (unchanged s) s) { stored = Some (record { key = key; object = deep 0 s.top; before = found }) }
stored_told r key None s = refl
stored_told r key (Some old) s = refl

row_told : (r : Row) (k : Kind) (place : ℕ) (s : State) → refusal_of r s ≡ None → told_by r (record_of r s) (next_of r k place s) ≡ does_within r s
row_told row.Nothing k place s e = refl
row_told (row.Protocol n) k place s e = refl
row_told (row.Extension n) k place s e = new_told false s.heap s.top (record { kind = k; parts = []; changes = [] }) None
row_told row.Push k place s e = new_told false s.heap s.top (record { kind = k; parts = []; changes = [] }) None
row_told row.Buffer k place s e = new_told false s.heap s.top (record { kind = kind.Buffer s.buffers; parts = []; changes = [] }) None
row_told row.ReadOnly k place s e = view_told (object_meets demand.ReadOnly s (deep 0 s.top)) kind.ReadOnly s
row_told (row.Take t) k place s e = new_told false s.heap (without (count_of t) s).top (record { kind = k; parts = last_of (count_of t) s; changes = [] }) None
row_told (row.Cut c) k place s e = new_told false s.heap (under s.marked) (record { kind = k; parts = s.top; changes = [] }) (Some (top_mark_place s.marked))
row_told (row.Change f) k place s e = refl
row_told (row.CutChange f) k place s e = refl
row_told row.Pop k place s e = pop_told (nat_lt 0 (length s.top)) (length s.top == 0) s (is_zero (length s.top)) (none_last s.top)
row_told row.PopMark k place s e = refl
row_told row.Dup k place s e = ap (λ (id : ℕ). record (does_within row.Dup s) { pushed = Some id }) (top_is s.top (deep 0 s.top))
row_told row.Mark k place s e = refl
row_told (row.Get key) k place s e =
    ap (λ (found : Option ℕ). record (does_within (row.Get key) s) { pushed = found }) (get_told s.top (memo_at key s) (good_of _ (refusal.NoMemoEntry key) None e))
row_told (row.Put key) k place s e = stored_told (row.Put key) key (memo_at key s) s
row_told row.Memoize k place s e = stored_told row.Memoize (length s.memo) (memo_at (length s.memo) s) s
row_told row.Stop k place s e = refl

-- ---- the first step of a further pickle

first_told : (r : Row) (k : Kind) (place : ℕ) (s : State) → refusal_of r empty ≡ None
    → told_by r (begun_by (makes_first r) s) (next_of r k place (begun s)) ≡ record (does_within r (begun s)) { begins = true }
first_told row.Nothing k place s e = refl
first_told (row.Protocol n) k place s e = refl
first_told (row.Extension n) k place s e = new_told true s.heap [] (record { kind = k; parts = []; changes = [] }) None
first_told row.Push k place s e = new_told true s.heap [] (record { kind = k; parts = []; changes = [] }) None
first_told row.Buffer k place s e = new_told true s.heap [] (record { kind = kind.Buffer 0; parts = []; changes = [] }) None
first_told row.Mark k place s e = refl
first_told (row.Take taking.One) k place s e = absurd cc
first_told (row.Change filling.Append) k place s e = absurd cc
first_told _ k place s e = absurd cc

-- ---- each step

told_when : (b : Bool) (r : Row) (k : Kind) (place : ℕ) (s : State) → refusal_of r (cond b (begun s) s) ≡ None
    → told_by r (cond b (begun_by (makes_first r) s) (record_of r s)) (next_of r k place (cond b (begun s) s))
    ≡ record (does_within r (cond b (begun s) s)) { begins = b }
told_when true r k place s e = first_told r k place s (first_refusals r s ∙ e)
told_when false r k place s e = row_told r k place s e

moved : (found : Option Refusal) (s t : State) → outcome found s ≡ Ok t → s ≡ t
moved None s t e = cc
moved (Some r) s t e = absurd cc

-- what the record of a step and the state after it tell is what the step does
pub step_told : (o : Operation) (place : ℕ) (s t : State) → move o place s ≡ Ok t → told_by (row_of o) (step_record (row_of o) s) t ≡ does (row_of o) s
step_told o place s t e =
    subst (λ (x : State). told_by (row_of o) (step_record (row_of o) s) x ≡ does (row_of o) s) (moved (refusal_at o s) (next o place s) t e)
    (told_when s.stopped (row_of o) (kind_of o) place s (has_move o place s t e))
