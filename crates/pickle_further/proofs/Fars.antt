-- A machine beside which stand the entries of its memo whose keys have more than 64 bits moves as one that has all entries.
use Rattle.std.proofs.Common.{◌≡◌, ◌≢◌, ℕ, ◌+◌, ◌-◌, ◌^◌, ◌<◌, ◌≤◌, Bool, true, false, cond, List, [], ◌∷◌, ◌++◌, length, zero, suc, Option, Some, None, Ok, Err, refl, sym, ap, subst, ◌∙◌, inl, inr, arith, length-append}
use Rattle.std.specs.Prelude.{Result, ◌==◌, ◌&&◌, nat_le, nat_lt, slice_get, slice_index, if◌then◌else◌, is_some}
use Rattle.std.proofs.lemmas.Bool.{leb-true, leb-false, lt-ltb, le-leb}
use Rattle.std.proofs.lemmas.List.{append-nil}
use Rattle.std.proofs.lemmas.List.Elements.{All-nil, All-cons, All-head, All-tail, All-get_or}
use Rattle.std.proofs.lemmas.Map.Views.{All-values-insert_entry, IfSome-lookup_from_All}
use Rattle.std.specs.Prelude.{IfSome, IfErr, IsErrAnd}
use Rattle.std.specs.Option.{unwrap_or}
use Rattle.std.specs.Map.{lookup, values_of}
use Rattle.std.specs.Ordering.{nat_cmp, match_ordering}
use Rattle.std.specs.declared.cmp.Ordering.{Ordering}
use Rattle.std.specs.declared.cmp.Ordering.TheVariants.{Less, Equal, Greater}
use Rattle.std.specs.BTreeMap.{insert_entry, is_at}
use Rattle.std.specs.Cmp.{nat_cmp_is}
use Rattle.pickle_ops.specs.declared.kind.Kind.{Kind}
use Rattle.pickle_ops.specs.declared.kind.Kind.TheVariants as kind
use Rattle.pickle_ops.specs.declared.class.Demand.TheVariants as demand
use Rattle.pickle_ops.specs.declared.row.Row.{Row}
use Rattle.pickle_ops.specs.declared.row.Row.TheVariants as row
use Rattle.pickle_ops.specs.declared.row.Taking.TheVariants as taking
use Rattle.pickle_ops.specs.declared.row.Cutting.TheVariants as cutting
use Rattle.pickle_ops.specs.declared.row.Filling.TheVariants as filling
use Rattle.pickle_ops.specs.declared.opcode.Opcode.{Opcode}
use Rattle.pickle_ops.specs.Spelling.{Operation}
use Rattle.pickle_ops.specs.Row.{kind_of}
use Rattle.pickle_doc.specs.DocUnit.{frame_op}
use Rattle.pickle_machine.specs.declared.refusal.Refusal.{Refusal}
use Rattle.pickle_machine.specs.declared.refusal.Refusal.TheVariants as refusal
use Rattle.pickle_machine.specs.State.{State}
use Rattle.pickle_machine.specs.Names.{AreNames, NamesAll}
use Rattle.pickle_machine.specs.Kept.{AreBelow}
use Rattle.pickle_machine.specs.Inside.Slots.{IsAbove}
use Rattle.pickle_machine.specs.Move.{deep, object_meets, push, last_of, without, cut, put_on, memo_at, unless, refusal_of, next_of, begun, fresh, outcome}
use Rattle.pickle_machine.specs.declared.loader.Fill.{Fill}
use Rattle.pickle_machine.specs.declared.loader.LoaderMove.{LoaderMove}
use Rattle.pickle_machine.specs.Held.{Held}
use Rattle.pickle_machine.specs.Loader.{asks_less, ends_odd, fill_of, drop_row, drops_two, is_inst, import_move, fill_move, loader_move, move_as, cleared}
use Rattle.pickle_machine.specs.LoaderLaws.{one_move}
use Rattle.pickle_machine.proofs.Naming.{step_names}
use Rattle.pickle_lenient.specs.Row.{is_far}
use Rattle.pickle_further.specs.Far.{with_far, IsApart, counted, ComesTo}

less : (x y : ℕ) → x < y → nat_cmp x y ≡ Less
less x y h = sym (nat_cmp_is x y Less h)

greater : (x y : ℕ) → y < x → nat_cmp x y ≡ Greater
greater x y h = sym (nat_cmp_is x y Greater h)

-- ---- entries behind others

none_above : (key : ℕ) (far : List (ℕ × ℕ)) → key < 2 ^ 64 → IsAbove (2 ^ 64) far → lookup (is_at (nat_cmp key)) far ≡ None
none_above key [] h a = refl
none_above key (e ∷ es) h a = rw (less key e.0 (omega (arith, h, a.0))) (none_above key es h a.1)

lookup_near : (key : ℕ) (es far : List (ℕ × ℕ)) → key < 2 ^ 64 → IsAbove (2 ^ 64) far → lookup (is_at (nat_cmp key)) (es ++ far) ≡ lookup (is_at (nat_cmp key)) es
lookup_near key [] far h a = none_above key far h a
lookup_near key (e ∷ es) far h a = ap (λ (x : Option ℕ). cond (is_at (nat_cmp key) e.0) (Some e.1) x) (lookup_near key es far h a)

lookup_far : (n : ℕ) (es far : List (ℕ × ℕ)) → 2 ^ 64 ≤ n → AreBelow (2 ^ 64) es → lookup (is_at (nat_cmp n)) (es ++ far) ≡ lookup (is_at (nat_cmp n)) far
lookup_far n [] far h b = refl
lookup_far n (e ∷ es) far h b = rw (greater n e.0 (omega (arith, h, b.0))) (lookup_far n es far h b.1)

insert_first : (key v : ℕ) (far : List (ℕ × ℕ)) → key < 2 ^ 64 → IsAbove (2 ^ 64) far → insert_entry nat_cmp far key v ≡ (key, v) ∷ far
insert_first key v [] h a = refl
insert_first key v (e ∷ es) h a = rw (less key e.0 (omega (arith, h, a.0))) refl

behind : (r : Ordering) (e : ℕ × ℕ) (key v : ℕ) (es far x y : List (ℕ × ℕ)) → x ≡ y ++ far
    → match_ordering r ((key, v) ∷ e ∷ (es ++ far)) ((e.0, v) ∷ (es ++ far)) (e ∷ x) ≡ match_ordering r ((key, v) ∷ e ∷ es) ((e.0, v) ∷ es) (e ∷ y) ++ far
behind Less e key v es far x y is = refl
behind Equal e key v es far x y is = refl
behind Greater e key v es far x y is = ap (λ (l : List (ℕ × ℕ)). e ∷ l) is

insert_near : (key v : ℕ) (es far : List (ℕ × ℕ)) → key < 2 ^ 64 → IsAbove (2 ^ 64) far → insert_entry nat_cmp (es ++ far) key v ≡ insert_entry nat_cmp es key v ++ far
insert_near key v [] far h a = insert_first key v far h a
insert_near key v (e ∷ es) far h a = behind (nat_cmp key e.0) e key v es far (insert_entry nat_cmp (es ++ far) key v) (insert_entry nat_cmp es key v) (insert_near key v es far h a)

insert_far : (n v : ℕ) (es far : List (ℕ × ℕ)) → 2 ^ 64 ≤ n → AreBelow (2 ^ 64) es → insert_entry nat_cmp (es ++ far) n v ≡ es ++ insert_entry nat_cmp far n v
insert_far n v [] far h b = refl
insert_far n v (e ∷ es) far h b = rw (greater n e.0 (omega (arith, h, b.0))) (ap (λ (l : List (ℕ × ℕ)). e ∷ l) (insert_far n v es far h b.1))

above_by : (r : Ordering) (n v : ℕ) (e : ℕ × ℕ) (es more : List (ℕ × ℕ)) → 2 ^ 64 ≤ n → 2 ^ 64 ≤ e.0 → IsAbove (2 ^ 64) es → IsAbove (2 ^ 64) more
    → IsAbove (2 ^ 64) (match_ordering r ((n, v) ∷ e ∷ es) ((e.0, v) ∷ es) (e ∷ more))
above_by Less n v e es more h a b c = (h, (a, b))
above_by Equal n v e es more h a b c = (a, b)
above_by Greater n v e es more h a b c = (a, c)

pub above_insert : (n v : ℕ) (far : List (ℕ × ℕ)) → 2 ^ 64 ≤ n → IsAbove (2 ^ 64) far → IsAbove (2 ^ 64) (insert_entry nat_cmp far n v)
above_insert n v [] h a = (h, tt)
above_insert n v (e ∷ es) h a = above_by (nat_cmp n e.0) n v e es _ h a.0 a.1 (above_insert n v es h a.1)

-- ---- names

names_join : (n : ℕ) (es far : List (ℕ × ℕ)) → AreNames n (values_of es) → AreNames n (values_of far) → AreNames n (values_of (es ++ far))
names_join n [] far a b = b
names_join n (e ∷ es) far a b =
    All-cons (λ id. id < n) e.1 (values_of (es ++ far)) (All-head (λ id. id < n) e.1 (values_of es) a) (names_join n es far (All-tail (λ id. id < n) e.1 (values_of es) a) b)

names_behind : (n : ℕ) (es far : List (ℕ × ℕ)) → AreNames n (values_of (es ++ far)) → AreNames n (values_of far)
names_behind n [] far a = a
names_behind n (e ∷ es) far a = names_behind n es far (All-tail (λ id. id < n) e.1 (values_of (es ++ far)) a)

far_names : (far : List (ℕ × ℕ)) (s : State) → NamesAll s → AreNames (length s.heap) (values_of far) → NamesAll (with_far far s)
far_names far s i f = record { heap = i.heap; top = i.top; marked = i.marked; memo = names_join (length s.heap) s.memo far i.memo f; results = i.results; left = i.left }

-- ---- a row that does not count the entries

pub counted_not : (r : Row) (memo : List (ℕ × ℕ)) → counted r memo ≡ row.Memoize → ⊥
counted_not row.Memoize memo e = absurd cc
counted_not _ memo e = absurd cc

near_key : (key : ℕ) → nat_le (2 ^ 64) key ≡ false → key < 2 ^ 64
near_key key e = leb-false (2 ^ 64) key e

refusal_same : (r : Row) (far : List (ℕ × ℕ)) (s : State) → IsAbove (2 ^ 64) far → is_far r ≡ false → refusal_of r (with_far far s) ≡ refusal_of r s
refusal_same (row.Get key) far s a near = ap (λ (x : Option ℕ). unless (is_some x) (refusal.NoMemoEntry key) None) (lookup_near key s.memo far (near_key key near) a)
refusal_same (row.Take taking.One) far s a near = refl
refusal_same (row.Take taking.Two) far s a near = refl
refusal_same (row.Take taking.Three) far s a near = refl
refusal_same (row.Take taking.Names) far s a near = refl
refusal_same (row.Take taking.Call) far s a near = refl
refusal_same (row.Take taking.CallWith) far s a near = refl
refusal_same (row.Cut cutting.Any) far s a near = refl
refusal_same (row.Cut cutting.Pairs) far s a near = refl
refusal_same (row.Cut cutting.Callable) far s a near = refl
refusal_same _ far s a near = refl

picked : (far : List (ℕ × ℕ)) (b : Bool) (s t : State) → (if b then with_far far s else with_far far t) ≡ with_far far (if b then s else t)
picked far true s t = refl
picked far false s t = refl

next_same : (r : Row) (k : Kind) (place : ℕ) (far : List (ℕ × ℕ)) (s : State) → IsAbove (2 ^ 64) far → is_far r ≡ false → (r ≡ row.Memoize → ⊥) → next_of r k place (with_far far s) ≡ with_far far (next_of r k place s)
next_same (row.Get key) k place far s a near other = ap (λ (x : Option ℕ). put_on (unwrap_or x 0) (with_far far s)) (lookup_near key s.memo far (near_key key near) a)
next_same (row.Put key) k place far s a near other = ap (λ (m : List (ℕ × ℕ)). record s { memo = m }) (insert_near key (deep 0 s.top) s.memo far (near_key key near) a)
next_same row.Memoize k place far s a near other = absurd (other refl)
next_same row.ReadOnly k place far s a near other = picked far (object_meets demand.ReadOnly s (deep 0 s.top)) s (push kind.ReadOnly (last_of 1 s) (without 1 s))
next_same row.Pop k place far s a near other = picked far (nat_lt 0 (length s.top)) (without 1 s) (cut s)
next_same _ k place far s a near other = refl

-- ---- what no entry of the memo bears on

asks_same : (r : Row) (far : List (ℕ × ℕ)) (s : State) → asks_less r s ≡ asks_less r (with_far far s)
asks_same (row.Take taking.One) far s = refl
asks_same (row.Take taking.Two) far s = refl
asks_same (row.Take taking.Three) far s = refl
asks_same (row.Take taking.Names) far s = refl
asks_same (row.Take taking.Call) far s = refl
asks_same (row.Take taking.CallWith) far s = refl
asks_same (row.Cut cutting.Any) far s = refl
asks_same (row.Cut cutting.Pairs) far s = refl
asks_same (row.Cut cutting.Callable) far s = refl
asks_same _ far s = refl

odd_same : (r : Row) (far : List (ℕ × ℕ)) (s : State) → ends_odd r s ≡ ends_odd r (with_far far s)
odd_same (row.CutChange f) far s = refl
odd_same _ far s = refl

fill_same : (r : Row) (far : List (ℕ × ℕ)) (s : State) → fill_of r s ≡ fill_of r (with_far far s)
fill_same (row.Change f) far s = refl
fill_same (row.CutChange f) far s = refl
fill_same _ far s = refl

put_same : (x : Option Fill) (r : Row) (far : List (ℕ × ℕ)) (s : State) → fill_move x r s ≡ fill_move x r (with_far far s)
put_same None r far s = ap one_move (asks_same r far s)
put_same (Some f) r far s = ap (λ (e : Option Refusal). record { row = drop_row r; again = drops_two r; fill = Some f; last = e; imports = false }) (odd_same r far s)

move_within : (o : Opcode) (r : Row) (far : List (ℕ × ℕ)) (s : State) → loader_move o r s ≡ loader_move o r (with_far far s)
move_within o r far s =
    ap (λ (m : LoaderMove). if is_inst o && (length s.marked == 0) then import_move else m) (ap (λ (x : Option Fill). fill_move x r s) (fill_same r far s) ∙ put_same (fill_of r (with_far far s)) r far s)

-- how a loader moves
pub move_same : (o : Opcode) (r : Row) (far : List (ℕ × ℕ)) (s : State) → loader_move o r (fresh s) ≡ loader_move o r (fresh (with_far far s))
move_same o r far s = go s.stopped
  where
    go : (b : Bool) → loader_move o r (if b then begun s else s) ≡ loader_move o r (if b then begun (with_far far s) else with_far far s)
    go true = refl
    go false = move_within o r far s

-- how many entries there are
pub counts_all : (near far : List (ℕ × ℕ)) (key m n : ℕ) → m ≡ length near → n ≡ length far → key ≡ m + n → row.Put key ≡ counted row.Memoize (near ++ far)
counts_all near far key m n e f is = ap row.Put (omega (arith, is, e, f, length-append near far))

pub counts_other : (r : Row) (memo : List (ℕ × ℕ)) → (r ≡ row.Memoize → ⊥) → r ≡ counted r memo
counts_other row.Memoize memo other = absurd (other refl)
counts_other _ memo other = refl

-- ---- moves within a pickle

same_fresh : (s : State) → s.stopped ≡ false → fresh s ≡ s
same_fresh s e = go s.stopped e
  where
    go : (b : Bool) → b ≡ false → (if b then begun s else s) ≡ s
    go false e = refl
    go true e = absurd cc

abbrev lift : List (ℕ × ℕ) → Result State Refusal → Result State Refusal
lift far (Ok t) = Ok (with_far far t)
lift far (Err r) = Err r

lifted : (far : List (ℕ × ℕ)) (x : Option Refusal) (t : State) → outcome x (with_far far t) ≡ lift far (outcome x t)
lifted far None t = refl
lifted far (Some r) t = refl

moves_same : (r : Row) (o : Operation) (place : ℕ) (far : List (ℕ × ℕ)) (s : State) → IsAbove (2 ^ 64) far → is_far r ≡ false → (r ≡ row.Memoize → ⊥) → s.stopped ≡ false
    → move_as r o place (with_far far s) ≡ lift far (move_as r o place s)
moves_same r o place far s a near other within =
    ap (λ (f : State). outcome (refusal_of r f) (next_of r (kind_of o) place f)) (same_fresh (with_far far s) within)
    ∙ ap (λ (x : Option Refusal). outcome x (next_of r (kind_of o) place (with_far far s))) (refusal_same r far s a near)
    ∙ ap (outcome (refusal_of r s)) (next_same r (kind_of o) place far s a near other)
    ∙ lifted far (refusal_of r s) (next_of r (kind_of o) place s)
    ∙ ap (λ (f : State). lift far (outcome (refusal_of r f) (next_of r (kind_of o) place f))) (sym (same_fresh s within))

counted_moves : (r : Row) (o : Operation) (place : ℕ) (s : State) → s.stopped ≡ false → move_as r o place s ≡ move_as (counted r s.memo) o place s
counted_moves row.Memoize o place s within =
    ap (λ (f : State). outcome (refusal_of row.Memoize (fresh s)) (next_of (row.Put (length f.memo)) (kind_of o) place (fresh s))) (same_fresh s within)
counted_moves _ o place s within = refl

counted_refusal : (r : Row) (memo : List (ℕ × ℕ)) (s : State) → refusal_of r s ≡ refusal_of (counted r memo) s
counted_refusal row.Memoize memo s = refl
counted_refusal _ memo s = refl

pub within_ok : (r own : Row) (o : Operation) (place : ℕ) (far : List (ℕ × ℕ)) (s t : State) → IsAbove (2 ^ 64) far → own ≡ counted r (s.memo ++ far) → is_far own ≡ false → s.stopped ≡ false
    → move_as own o place s ≡ Ok t → move_as r o place (with_far far s) ≡ Ok (with_far far t)
within_ok r own o place far s t a is near within e =
    counted_moves r o place (with_far far s) within
    ∙ ap (λ (x : Row). move_as x o place (with_far far s)) (sym is)
    ∙ moves_same own o place far s a near (λ m. counted_not r (s.memo ++ far) (sym is ∙ m)) within
    ∙ ap (lift far) e

pub within_refused : (r own : Row) (far : List (ℕ × ℕ)) (s : State) (e : Refusal) → IsAbove (2 ^ 64) far → own ≡ counted r (s.memo ++ far) → is_far own ≡ false → s.stopped ≡ false
    → refusal_of own (fresh s) ≡ Some e → refusal_of r (fresh (with_far far s)) ≡ Some e
within_refused r own far s e a is near within x =
    ap (refusal_of r) (same_fresh (with_far far s) within)
    ∙ counted_refusal r (s.memo ++ far) (with_far far s)
    ∙ ap (λ (y : Row). refusal_of y (with_far far s)) (sym is)
    ∙ refusal_same own far s a near
    ∙ ap (refusal_of own) (sym (same_fresh s within))
    ∙ x

moved : (x : Option Refusal) (u t : State) → outcome x u ≡ Ok t → (x ≡ None) × (u ≡ t)
moved None u t e = let same : u ≡ t = cc in (refl, same)
moved (Some r) u t e = absurd cc

-- what stands beside names objects after a step too
pub within_names : (r own : Row) (o : Operation) (place : ℕ) (far : List (ℕ × ℕ)) (s t : State) → IsApart far s → NamesAll s → own ≡ counted r (s.memo ++ far) → is_far own ≡ false → s.stopped ≡ false
    → move_as own o place s ≡ Ok t → AreNames (length t.heap) (values_of far)
within_names r own o place far s t apart names is near within e =
    let both = moved (refusal_of r (fresh (with_far far s))) (next_of r (kind_of o) place (fresh (with_far far s))) (with_far far t) (within_ok r own o place far s t apart.above is near within e) in
    let next : NamesAll (with_far far t) = subst NamesAll both.1 (step_names r (kind_of o) place (with_far far s) both.0 (far_names far s names apart.names)) in
    names_behind (length t.heap) t.memo far next.memo

-- ---- the first step of a further pickle

first_fresh : (far : List (ℕ × ℕ)) (s : State) → s.stopped ≡ true → fresh (with_far far s) ≡ fresh s
first_fresh far s e = go s.stopped e
  where
    go : (b : Bool) → b ≡ true → (if b then begun (with_far far s) else with_far far s) ≡ (if b then begun s else s)
    go true e = refl
    go false e = absurd cc

none_beside : (far : List (ℕ × ℕ)) (t : State) → far ≡ [] → with_far far t ≡ t
none_beside far t e = ap (λ (l : List (ℕ × ℕ)). with_far l t) e ∙ ap (λ (m : List (ℕ × ℕ)). record t { memo = m }) (append-nil t.memo)

pub begins : (far : List (ℕ × ℕ)) (t : State) → far ≡ [] → t ≡ with_far far t
begins far t e = sym (none_beside far t e)

pub first_ok : (r : Row) (o : Operation) (place : ℕ) (far more : List (ℕ × ℕ)) (s t : State) → s.stopped ≡ true → more ≡ [] → move_as r o place s ≡ Ok t → move_as r o place (with_far far s) ≡ Ok (with_far more t)
first_ok r o place far more s t stopped none e =
    ap (λ (f : State). outcome (refusal_of r f) (next_of r (kind_of o) place f)) (first_fresh far s stopped) ∙ e ∙ ap Ok (begins more t none)

pub first_refused : (r : Row) (far : List (ℕ × ℕ)) (s : State) (e : Refusal) → s.stopped ≡ true → refusal_of r (fresh s) ≡ Some e → refusal_of r (fresh (with_far far s)) ≡ Some e
first_refused r far s e stopped x = ap (refusal_of r) (first_fresh far s stopped) ∙ x

-- ---- beside a machine

pub apart_none : (far : List (ℕ × ℕ)) (s : State) → far ≡ [] → AreBelow (2 ^ 64) s.memo → IsApart far s
apart_none far s e near = record {
  near = near;
  above = subst (λ (l : List (ℕ × ℕ)). IsAbove (2 ^ 64) l) (sym e) tt;
  names = subst (λ (l : List (ℕ × ℕ)). AreNames (length s.heap) (values_of l)) (sym e) (All-nil (λ id. id < length s.heap));
}

pub begins_held : (far : List (ℕ × ℕ)) (m : Held) → far ≡ [] → record m { state = with_far far m.state } ≡ m
begins_held far m e = ap (λ (s : State). record m { state = s }) (none_beside far m.state e)

-- ---- GET and PUT of such keys

far_get : (n place : ℕ) (s : State) (x : Option ℕ) → s.stopped ≡ false → memo_at n s ≡ x
    → move_as (row.Get n) (frame_op 0) place s ≡ outcome (unless (is_some x) (refusal.NoMemoEntry n) None) (put_on (unwrap_or x 0) s)
far_get n place s x within e =
    ap (λ (f : State). outcome (unless (is_some (memo_at n f)) (refusal.NoMemoEntry n) None) (put_on (unwrap_or (memo_at n f) 0) f)) (same_fresh s within)
    ∙ ap (λ (y : Option ℕ). outcome (unless (is_some y) (refusal.NoMemoEntry n) None) (put_on (unwrap_or y 0) s)) e

pub get_done : (n id : ℕ) (far : List (ℕ × ℕ)) (s t : State) → 2 ^ 64 ≤ n → AreBelow (2 ^ 64) s.memo → s.stopped ≡ false → lookup (is_at (nat_cmp n)) far ≡ Some id → t ≡ put_on id s
    → ComesTo (row.Get n) (with_far far s) (with_far far t) true
get_done n id far s t h b within e is = λ place. far_get n place (with_far far s) (Some id) within (lookup_far n s.memo far h b ∙ e) ∙ ap (λ (u : State). Ok (with_far far u)) (sym is)

pub get_misses : (n : ℕ) (far : List (ℕ × ℕ)) (s t : State) → 2 ^ 64 ≤ n → AreBelow (2 ^ 64) s.memo → s.stopped ≡ false → lookup (is_at (nat_cmp n)) far ≡ None → ComesTo (row.Get n) (with_far far s) t false
get_misses n far s t h b within e = λ place. (refusal.NoMemoEntry n, far_get n place (with_far far s) None within (lookup_far n s.memo far h b ∙ e))

pub get_stopped : (n : ℕ) (far : List (ℕ × ℕ)) (s t : State) → s.stopped ≡ true → ComesTo (row.Get n) (with_far far s) t false
get_stopped n far s t stopped = λ place. (refusal.NoMemoEntry n, go s.stopped stopped)
  where
    go : (b : Bool) → b ≡ true → outcome (refusal_of (row.Get n) (if b then begun (with_far far s) else with_far far s)) (next_of (row.Get n) (kind_of (frame_op 0)) 0 (if b then begun (with_far far s) else with_far far s)) ≡ Err (refusal.NoMemoEntry n)
    go true e = refl
    go false e = absurd cc

top_is : (xs : List ℕ) (i id : ℕ) → slice_get xs i ≡ Some id → (slice_index xs i ≡ id) × (i < length xs)
top_is [] i id e = absurd cc
top_is (x ∷ xs) zero id e = let same : x ≡ id = cc in (same, omega arith)
top_is (x ∷ xs) (suc i) id e = let rest = top_is xs i id e in (rest.0, omega (arith, rest.1))

far_put : (n place : ℕ) (s : State) → s.stopped ≡ false → move_as (row.Put n) (frame_op 0) place s ≡ outcome (unless (nat_le 1 (length s.top)) refusal.Underflow None) (record s { memo = insert_entry nat_cmp s.memo n (deep 0 s.top) })
far_put n place s within =
    ap (λ (f : State). outcome (unless (nat_le 1 (length f.top)) refusal.Underflow None) (record f { memo = insert_entry nat_cmp f.memo n (deep 0 f.top) })) (same_fresh s within)

some_top : (xs : List ℕ) → 0 < length xs → nat_le 1 (length xs) ≡ true
some_top xs h = le-leb 1 (length xs) (omega (arith, h))

pub put_done : (n id : ℕ) (far more : List (ℕ × ℕ)) (s : State) → 2 ^ 64 ≤ n → AreBelow (2 ^ 64) s.memo → s.stopped ≡ false → slice_get s.top (length s.top - 1) ≡ Some id → more ≡ insert_entry nat_cmp far n id
    → ComesTo (row.Put n) (with_far far s) (with_far more s) true
put_done n id far more s h b within e is =
    let top = top_is s.top (length s.top - 1) id e in
    let some : nat_le 1 (length s.top) ≡ true = some_top s.top (omega (arith, top.1)) in
    let place : length s.top - 1 ≡ length s.top - 1 - 0 = omega arith in
    let at : deep 0 s.top ≡ id = ap (slice_index s.top) (sym place) ∙ top.0 in
    λ place. far_put n place (with_far far s) within
    ∙ ap (λ (x : Bool). outcome (unless x refusal.Underflow None) (record s { memo = insert_entry nat_cmp (s.memo ++ far) n (deep 0 s.top) })) some
    ∙ ap (λ (v : ℕ). Ok (record s { memo = insert_entry nat_cmp (s.memo ++ far) n v })) at
    ∙ ap (λ (m : List (ℕ × ℕ)). Ok (record s { memo = m })) (insert_far n id s.memo far h b ∙ ap (λ (l : List (ℕ × ℕ)). s.memo ++ l) (sym is))

never_none : (xs : List ℕ) (i : ℕ) → i < length xs → slice_get xs i ≡ None → ⊥
never_none [] i h e = omega (arith, h)
never_none (x ∷ xs) zero h e = cc
never_none (x ∷ xs) (suc i) h e = never_none xs i (omega (arith, h)) e

no_top : (xs : List ℕ) → slice_get xs (length xs - 1) ≡ None → xs ≡ []
no_top [] e = refl
no_top (x ∷ xs) e = absurd (never_none (x ∷ xs) (length (x ∷ xs) - 1) (omega arith) e)

pub put_misses : (n : ℕ) (far : List (ℕ × ℕ)) (s t : State) → s.stopped ≡ false → slice_get s.top (length s.top - 1) ≡ None → ComesTo (row.Put n) (with_far far s) t false
put_misses n far s t within e =
    λ place. (
      refusal.Underflow,
      far_put n place (with_far far s) within
          ∙ ap (λ (xs : List ℕ). outcome (unless (nat_le 1 (length xs)) refusal.Underflow None) (record s { memo = insert_entry nat_cmp (s.memo ++ far) n (deep 0 s.top) })) (no_top s.top e),
    )

pub put_stopped : (n : ℕ) (far : List (ℕ × ℕ)) (s t : State) → s.stopped ≡ true → ComesTo (row.Put n) (with_far far s) t false
put_stopped n far s t stopped = λ place. (refusal.Underflow, go s.stopped stopped)
  where
    go : (b : Bool) → b ≡ true → outcome (refusal_of (row.Put n) (if b then begun (with_far far s) else with_far far s)) (next_of (row.Put n) (kind_of (frame_op 0)) 0 (if b then begun (with_far far s) else with_far far s)) ≡ Err refusal.Underflow
    go true e = refl
    go false e = absurd cc

-- what a `?` answers of a row that is refused
pub still_refused : {A : Type 0} (x : Refusal) (y : Result A Refusal) (r : Row) (t : State) → IsErrAnd y (λ e. e ≡ x) → (x ≢ refusal.Memory → refusal_of r (fresh t) ≡ Some x) → IfErr y (λ e. e ≢ refusal.Memory → refusal_of r (fresh t) ≡ Some e)
still_refused x (Ok a) r t h w = tt
still_refused x (Err e) r t h w = subst (λ (z : Refusal). z ≢ refusal.Memory → refusal_of r (fresh t) ≡ Some z) (sym h) w

-- what stays apart
pub apart_clear : (far : List (ℕ × ℕ)) (s : State) → IsApart far s → IsApart far (cleared s)
apart_clear far s i = record { near = i.near; above = i.above; names = i.names }

pub apart_put_on : (far : List (ℕ × ℕ)) (s : State) (id : ℕ) → IsApart far s → IsApart far (put_on id s)
apart_put_on far s id i = record { near = i.near; above = i.above; names = i.names }

pub apart_insert : (far : List (ℕ × ℕ)) (s : State) (n id : ℕ) → IsApart far s → 2 ^ 64 ≤ n → id < length s.heap → IsApart (insert_entry nat_cmp far n id) s
apart_insert far s n id i h there = record { near = i.near; above = above_insert n id far h i.above; names = All-values-insert_entry nat_cmp n id (λ id. id < length s.heap) far i.names there }

pub apart_within : (r own : Row) (o : Operation) (place : ℕ) (far : List (ℕ × ℕ)) (s t : State) → IsApart far s → NamesAll s → own ≡ counted r (s.memo ++ far) → is_far own ≡ false → s.stopped ≡ false
    → move_as own o place s ≡ Ok t → AreBelow (2 ^ 64) t.memo → IsApart far t
apart_within r own o place far s t i names is near within e below = record { near = below; above = i.above; names = within_names r own o place far s t i names is near within e }

-- the number that GET finds names an object, and so does the top
pub found_name : (n id count : ℕ) (far : List (ℕ × ℕ)) → lookup (is_at (nat_cmp n)) far ≡ Some id → AreNames count (values_of far) → id < count
found_name n id count far e h = by (lookup (is_at (nat_cmp n)) far) e (IfSome-lookup_from_All (λ id. id < count) (is_at (nat_cmp n)) far h)
  where
    by : (x : Option ℕ) → x ≡ Some id → IfSome x (λ id. id < count) → id < count
    by (Some y) e h = let same : y ≡ id = cc in subst (λ (z : ℕ). z < count) same h
    by None e h = absurd cc

pub top_name : (s : State) (id : ℕ) → NamesAll s → slice_get s.top (length s.top - 1) ≡ Some id → id < length s.heap
top_name s id names e =
    let top = top_is s.top (length s.top - 1) id e in
    let within : slice_index s.top (length s.top - 1) < length s.heap = All-get_or (λ id. id < length s.heap) s.top (length s.top - 1) 0 top.1 names.top in
    subst (λ (z : ℕ). z < length s.heap) top.0 within

pub ruleset far_rules = (within_ok, within_refused, first_ok, first_refused, get_done, get_misses, get_stopped, put_done, put_misses, put_stopped, apart_none, begins_held, move_same, counts_all, counts_other, apart_clear, apart_put_on, apart_insert, apart_within, found_name, top_name)
