-- What the moves and the refusals of a state read is in its outline.
use Rattle.std.proofs.Common.{◌≡◌, ℕ, ◌+◌, Bool, true, false, List, [], ◌∷◌, ◌++◌, length, Option, Some, None, refl, sym, ap, ◌∙◌, set, suc, zero}
use Rattle.std.proofs.lemmas.Option.{slice_get-map}
use Rattle.std.proofs.lemmas.List.{length-map, map-append}
use Rattle.std.specs.Prelude.{map, slice_get, slice_index, ◌||◌, nat_lt, if◌then◌else◌}
use Rattle.std.specs.Option.{option_map, option_map_or}
use Rattle.pickle_ops.specs.declared.kind.Kind.{Kind}
use Rattle.pickle_ops.specs.declared.kind.Kind.TheVariants as kind
use Rattle.pickle_ops.specs.declared.class.Class.{Class}
use Rattle.pickle_ops.specs.declared.class.Class.TheVariants as class
use Rattle.pickle_ops.specs.declared.class.Demand.{Demand}
use Rattle.pickle_ops.specs.declared.class.Demand.TheVariants as demand
use Rattle.pickle_ops.specs.declared.row.Row.TheVariants as row
use Rattle.pickle_ops.specs.declared.row.Taking.{Taking}
use Rattle.pickle_ops.specs.declared.row.Taking.TheVariants as taking
use Rattle.pickle_ops.specs.declared.row.Cutting.{Cutting}
use Rattle.pickle_ops.specs.declared.row.Cutting.TheVariants as cutting
use Rattle.pickle_ops.specs.declared.row.Filling.{Filling}
use Rattle.pickle_ops.specs.declared.object.Change.{Change}
use Rattle.pickle_ops.specs.Object.{Object}
use Rattle.pickle_ops.specs.Class.{class_meets}
use Rattle.pickle_ops.specs.Kind.{class_of, meets}
use Rattle.pickle_ops.specs.Row.{count_of, values_of}
use Rattle.pickle_machine.specs.declared.refusal.Refusal.TheVariants as refusal
use Rattle.pickle_machine.specs.State.{State}
use Rattle.pickle_machine.specs.Move.{unless, object_meets, refusal_of, next_of, begun, changed, push, put_on, last_of, without, cut, deep, change_top, changes_of, under, if_mark, if_deep, if_paired}
use Rattle.pickle_machine.specs.Outline.{sample, plain, bared, outline, RefusalsReadOutlines, MovesReadOutlines, FreshReadsOutlines}

-- ---- kinds

pub class_of_sample : (c : Class) → class_of (sample c) ≡ c
class_of_sample class.Plain = refl
class_of_sample _ = refl

pub same_meets : (d : Demand) (k : Kind) → meets d (plain k) ≡ meets d k
same_meets d k = ap (class_meets d) (class_of_sample (class_of k))

pub plain_again : (k : Kind) → plain (plain k) ≡ plain k
plain_again k = ap sample (class_of_sample (class_of k))

-- ---- objects

meets_in : (d : Demand) (g : Option Object) → option_map_or (λ (o : Object). meets d o.kind) (option_map bared g) false ≡ option_map_or (λ (o : Object). meets d o.kind) g false
meets_in d None = refl
meets_in d (Some o) = same_meets d o.kind

pub same_object : (d : Demand) (s : State) (id : ℕ) → object_meets d (outline s) id ≡ object_meets d s id
same_object d s id =
    ap (λ (g : Option Object). option_map_or (λ (o : Object). meets d o.kind) g false) (slice_get-map bared s.heap id) ∙ meets_in d (slice_get s.heap id)

-- ---- refusals

taking_same : (t : Taking) (s : State) → refusal_of (row.Take t) (outline s) ≡ refusal_of (row.Take t) s
taking_same taking.One s = refl
taking_same taking.Two s = refl
taking_same taking.Three s = refl
taking_same taking.Names s =
    ap (λ (b : Bool). if_deep 2 s.top (unless b (refusal.NotText (deep 0 s.top)) (unless (object_meets demand.Text (outline s) (deep 1 s.top)) (refusal.NotText (deep 1 s.top)) None))) (same_object demand.Text s (deep 0 s.top))
    ∙ ap (λ (b : Bool). if_deep 2 s.top (unless (object_meets demand.Text s (deep 0 s.top)) (refusal.NotText (deep 0 s.top)) (unless b (refusal.NotText (deep 1 s.top)) None))) (same_object demand.Text s (deep 1 s.top))
taking_same taking.Call s =
    ap (λ (b : Bool). if_deep 2 s.top (unless b (refusal.NotCallable (deep 1 s.top)) (unless (object_meets demand.Arguments (outline s) (deep 0 s.top)) (refusal.NotArguments (deep 0 s.top)) None))) (same_object demand.Callable s (deep 1 s.top))
    ∙ ap (λ (b : Bool). if_deep 2 s.top (unless (object_meets demand.Callable s (deep 1 s.top)) (refusal.NotCallable (deep 1 s.top)) (unless b (refusal.NotArguments (deep 0 s.top)) None))) (same_object demand.Arguments s (deep 0 s.top))
taking_same taking.CallWith s =
    ap (λ (b : Bool). if_deep 3 s.top (unless b (refusal.NotCallable (deep 2 s.top)) (unless (object_meets demand.Arguments (outline s) (deep 1 s.top)) (refusal.NotArguments (deep 1 s.top)) (unless (object_meets demand.Keywords (outline s) (deep 0 s.top)) (refusal.NotKeywords (deep 0 s.top)) None)))) (same_object demand.Callable s (deep 2 s.top))
    ∙ ap (λ (b : Bool). if_deep 3 s.top (unless (object_meets demand.Callable s (deep 2 s.top)) (refusal.NotCallable (deep 2 s.top)) (unless b (refusal.NotArguments (deep 1 s.top)) (unless (object_meets demand.Keywords (outline s) (deep 0 s.top)) (refusal.NotKeywords (deep 0 s.top)) None)))) (same_object demand.Arguments s (deep 1 s.top))
    ∙ ap (λ (b : Bool). if_deep 3 s.top (unless (object_meets demand.Callable s (deep 2 s.top)) (refusal.NotCallable (deep 2 s.top)) (unless (object_meets demand.Arguments s (deep 1 s.top)) (refusal.NotArguments (deep 1 s.top)) (unless b (refusal.NotKeywords (deep 0 s.top)) None)))) (same_object demand.Keywords s (deep 0 s.top))

cutting_same : (c : Cutting) (s : State) → refusal_of (row.Cut c) (outline s) ≡ refusal_of (row.Cut c) s
cutting_same cutting.Any s = refl
cutting_same cutting.Pairs s = refl
cutting_same cutting.Callable s =
    ap (λ (b : Bool). if_mark s (if_deep 1 s.top (unless b (refusal.NotCallable (slice_index s.top 0)) None))) (same_object demand.Callable s (slice_index s.top 0))

view_same : (s : State) → refusal_of row.ReadOnly (outline s) ≡ refusal_of row.ReadOnly s
view_same s =
    ap (λ (b : Bool). if_deep 1 s.top (unless (b || object_meets demand.Writable (outline s) (deep 0 s.top)) (refusal.WrongKind (deep 0 s.top)) None)) (same_object demand.ReadOnly s (deep 0 s.top))
    ∙ ap (λ (b : Bool). if_deep 1 s.top (unless (object_meets demand.ReadOnly s (deep 0 s.top) || b) (refusal.WrongKind (deep 0 s.top)) None)) (same_object demand.Writable s (deep 0 s.top))

change_same : (f : Filling) (s : State) → refusal_of (row.Change f) (outline s) ≡ refusal_of (row.Change f) s
change_same f s =
    ap (λ (b : Bool). if_deep (values_of f + 1) s.top (unless b (refusal.WrongKind (deep (values_of f) s.top)) None)) (same_object (demand.Target f) s (deep (values_of f) s.top))

cut_change_same : (f : Filling) (s : State) → refusal_of (row.CutChange f) (outline s) ≡ refusal_of (row.CutChange f) s
cut_change_same f s =
    let id : ℕ = deep 0 (under s.marked) in
    ap (λ (b : Bool). if_mark s (if_deep 1 (under s.marked) (if_paired f s.top (if nat_lt 0 (length s.top) then unless b (refusal.WrongKind id) None else None)))) (same_object (demand.Target f) s id)

pub refusals_read_outlines : RefusalsReadOutlines
refusals_read_outlines row.Nothing s = refl
refusals_read_outlines (row.Protocol n) s = refl
refusals_read_outlines (row.Extension n) s = refl
refusals_read_outlines row.Push s = refl
refusals_read_outlines row.Buffer s = refl
refusals_read_outlines row.ReadOnly s = view_same s
refusals_read_outlines (row.Take t) s = taking_same t s
refusals_read_outlines (row.Cut c) s = cutting_same c s
refusals_read_outlines (row.Change f) s = change_same f s
refusals_read_outlines (row.CutChange f) s = cut_change_same f s
refusals_read_outlines row.Pop s = refl
refusals_read_outlines row.PopMark s = refl
refusals_read_outlines row.Dup s = refl
refusals_read_outlines row.Mark s = refl
refusals_read_outlines (row.Get key) s = refl
refusals_read_outlines (row.Put key) s = refl
refusals_read_outlines row.Memoize s = refl
refusals_read_outlines row.Stop s = refl

-- ---- moves

-- objects that are bare already stay
map_again : (heap : List Object) → map bared (map bared heap) ≡ map bared heap
map_again [] = refl
map_again (o ∷ heap) =
    ap (λ (k : Kind). record { kind = k; parts = []; changes = [] } ∷ map bared (map bared heap)) (plain_again o.kind)
    ∙ ap (λ (l : List Object). bared o ∷ l) (map_again heap)

-- one object that stands in a heap may be replaced by one that looks the same
map_set : (heap : List Object) (id : ℕ) (o x : Object) → slice_get heap id ≡ Some o → bared x ≡ bared o → map bared (set heap id x) ≡ map bared heap
map_set [] id o x e same = absurd cc
map_set (y ∷ ys) zero o x e same =
    let is : y ≡ o = cc in
    ap (λ (b : Object). b ∷ map bared ys) (same ∙ ap bared (sym is))
map_set (y ∷ ys) (suc id) o x e same = ap (λ (l : List Object). bared y ∷ l) (map_set ys id o x e same)

changed_by : (heap : List Object) (id : ℕ) (more : List Change) (g : Option Object) → slice_get heap id ≡ g → map bared (changed heap id more) ≡ map bared heap
changed_by heap id more None e =
    ap (λ (g : Option Object). map bared (option_map_or (λ (o : Object). set heap id (record o { changes = o.changes ++ more })) g heap)) e
changed_by heap id more (Some o) e =
    ap (λ (g : Option Object). map bared (option_map_or (λ (o : Object). set heap id (record o { changes = o.changes ++ more })) g heap)) e
    ∙ map_set heap id o (record o { changes = o.changes ++ more }) e refl

-- changes are no part of an outline
same_changed : (heap : List Object) (id : ℕ) (more : List Change) → map bared (changed heap id more) ≡ map bared heap
same_changed heap id more = changed_by heap id more (slice_get heap id) refl

-- an outline is its own outline
pub outline_again : (s : State) → outline (outline s) ≡ outline s
outline_again s = ap (λ (h : List Object). record s { heap = h; buffers = 0; results = []; left = [] }) (map_again s.heap)

-- a heap gets one more object
pushed_heap : (heap : List Object) (k j : Kind) (parts parts' : List ℕ) → plain j ≡ plain k
    → map bared (map bared heap ++ record { kind = j; parts = parts; changes = [] } ∷ []) ≡ map bared (heap ++ record { kind = k; parts = parts'; changes = [] } ∷ [])
pushed_heap heap k j parts parts' e =
    map-append bared (map bared heap) (record { kind = j; parts = parts; changes = [] } ∷ [])
    ∙ ap (λ (l : List Object). l ++ record { kind = plain j; parts = []; changes = [] } ∷ []) (map_again heap)
    ∙ ap (λ (x : Kind). map bared heap ++ record { kind = x; parts = []; changes = [] } ∷ []) e
    ∙ sym (map-append bared heap (record { kind = k; parts = parts'; changes = [] } ∷ []))

-- a new object, whose kind and parts do not matter beyond the outline
push_like : (k j : Kind) (parts parts' : List ℕ) (s : State) → plain j ≡ plain k → outline (push j parts (outline s)) ≡ outline (push k parts' s)
push_like k j parts parts' s e =
    ap (λ (n : ℕ). outline (record s { heap = map bared s.heap ++ record { kind = j; parts = parts; changes = [] } ∷ []; top = s.top ++ n ∷ [] })) (length-map s.heap bared)
    ∙ ap (λ (h : List Object). record s { heap = h; top = s.top ++ length s.heap ∷ []; buffers = 0; results = []; left = [] }) (pushed_heap s.heap k j parts parts' e)

push_same : (k : Kind) (parts parts' : List ℕ) (s : State) → outline (push (plain k) parts (outline s)) ≡ outline (push k parts' s)
push_same k parts parts' s = push_like k (plain k) parts parts' s (plain_again k)

change_same_heap : (more more' : List Change) (id : ℕ) (s : State) → map bared (changed (map bared s.heap) id more) ≡ map bared (changed s.heap id more')
change_same_heap more more' id s = same_changed (map bared s.heap) id more ∙ map_again s.heap ∙ sym (same_changed s.heap id more')

change_top_same : (more : List Change) (s : State) → outline (change_top more (outline s)) ≡ outline (change_top more s)
change_top_same more s =
    ap (λ (h : List Object). record s { heap = h; buffers = 0; results = []; left = [] }) (change_same_heap more more (deep 0 s.top) s)

-- changes are no part of an outline
pub outline_changed : (more : List Change) (s t : State) → t ≡ outline s → t ≡ outline (change_top more s)
outline_changed more s t e = e ∙ sym (ap (λ (h : List Object). record s { heap = h; buffers = 0; results = []; left = [] }) (same_changed s.heap (deep 0 s.top) more))

view_by : (b c : Bool) (k : Kind) (s : State) → b ≡ c
    → outline (if b then outline s else push kind.ReadOnly (last_of 1 s) (without 1 (outline s))) ≡ outline (if c then s else push kind.ReadOnly (last_of 1 s) (without 1 s))
view_by b true k s e =
    ap (λ (b : Bool). outline (if b then outline s else push kind.ReadOnly (last_of 1 s) (without 1 (outline s)))) e ∙ outline_again s
view_by b false k s e =
    ap (λ (b : Bool). outline (if b then outline s else push kind.ReadOnly (last_of 1 s) (without 1 (outline s)))) e
    ∙ push_same kind.ReadOnly (last_of 1 s) (last_of 1 s) (without 1 s)

pop_by : (b : Bool) (s : State) → outline (if b then without 1 (outline s) else cut (outline s)) ≡ outline (if b then without 1 s else cut s)
pop_by true s = outline_again (without 1 s)
pop_by false s = outline_again (cut s)

pub moves_read_outlines : MovesReadOutlines
moves_read_outlines row.Nothing k place s = outline_again s
moves_read_outlines (row.Protocol n) k place s = outline_again s
moves_read_outlines (row.Extension n) k place s = push_same k [] [] s
moves_read_outlines row.Push k place s = push_same k [] [] s
moves_read_outlines row.Buffer k place s = push_like (kind.Buffer s.buffers) (kind.Buffer 0) [] [] s refl
moves_read_outlines row.ReadOnly k place s = view_by (object_meets demand.ReadOnly (outline s) (deep 0 s.top)) (object_meets demand.ReadOnly s (deep 0 s.top)) k s (same_object demand.ReadOnly s (deep 0 s.top))
moves_read_outlines (row.Take t) k place s = push_same k (last_of (count_of t) s) (last_of (count_of t) s) (without (count_of t) s)
moves_read_outlines (row.Cut c) k place s = push_same k s.top s.top (cut s)
moves_read_outlines (row.Change f) k place s = change_top_same (changes_of f (last_of (values_of f) s)) (without (values_of f) s)
moves_read_outlines (row.CutChange f) k place s = change_top_same (changes_of f s.top) (cut s)
moves_read_outlines row.Pop k place s = pop_by (nat_lt 0 (length s.top)) s
moves_read_outlines row.PopMark k place s = outline_again (cut s)
moves_read_outlines row.Dup k place s = outline_again (put_on (deep 0 s.top) s)
moves_read_outlines row.Mark k place s = outline_again (record s { top = []; marked = record { section = s.top; place = place } ∷ s.marked })
moves_read_outlines (row.Get key) k place s = outline_again (next_of (row.Get key) k place s)
moves_read_outlines (row.Put key) k place s = outline_again (next_of (row.Put key) k place s)
moves_read_outlines row.Memoize k place s = outline_again (next_of row.Memoize k place s)
moves_read_outlines row.Stop k place s = outline_again (next_of row.Stop k place s)

fresh_by : (b : Bool) (s : State) → outline (if b then begun (outline s) else outline s) ≡ outline (if b then begun s else s)
fresh_by true s = outline_again (begun s)
fresh_by false s = outline_again s

pub fresh_reads_outlines : FreshReadsOutlines
fresh_reads_outlines s = fresh_by s.stopped s
