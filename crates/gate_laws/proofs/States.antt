-- Behind its state nothing more is put into an object, nor into what something was made of.
use Rattle.std.proofs.Common.{◌≡◌, ℕ, zero, suc, ◌<◌, Bool, true, false, List, [], ◌∷◌, length, Option, Some, None, refl, sym, ap, ap₂, inl, inr, ◌∙◌, arith}
use Rattle.std.specs.Prelude.{◌==◌, ◌&&◌, ◌||◌, not, slice_get}
use Rattle.std.specs.Option.{option_map_or}
use Rattle.std.specs.List.{list_all, list_any}
use Rattle.std.proofs.lemmas.Bool.{cases_lt, eqb-true, eq-eqb, or_left, or_right, and_parts, false_from_ne_true}
use Rattle.std.proofs.lemmas.Option.{slice_get_within}
use Rattle.pickle_ops.specs.declared.kind.Kind.{Kind}
use Rattle.pickle_ops.specs.declared.kind.Kind.TheVariants as kind
use Rattle.pickle_ops.specs.Spelling.{Operation}
use Rattle.pickle_ops.specs.Object.{Object}
use Rattle.pickle_ops.specs.declared.row.Filling.{Filling}
use Rattle.pickle_ops.specs.Row.{row_of}
use Rattle.pickle_doc.specs.Document.{Contents}
use Rattle.pickle_doc.specs.Place.{ops_of, item_at}
use Rattle.pickle_machine.specs.State.{State, start}
use Rattle.pickle_machine.specs.Move.{fresh}
use Rattle.pickle_machine.specs.Run.{run}
use Rattle.pickle_calls.specs.declared.event.Event.{Event}
use Rattle.pickle_calls.specs.declared.event.Event.TheVariants as event
use Rattle.pickle_calls.specs.Event.{before_of, event_of}
use Rattle.pickle_loader.proofs.Still.{move_to}
use Rattle.pickle_allow.specs.declared.list.Use.TheVariants as use_of
use Rattle.pickle_allow.specs.declared.list.Entry.{Entry}
use Rattle.pickle_allow.specs.Allow.{Source, may_use}
use Rattle.pickle_allow.specs.Source.{source_at}
use Rattle.pickle_allow.specs.Arguments.{may_be_given, may_be_set}
use Rattle.pickle_gate.specs.Gate.{protocol_of, sources, event_on, event_at, heap_at, maker_by, part_is, is_this, gives_state, has_state, has_made, names_by, is_named, is_of_ready, has_not, halves_may, halves_may_at, may_be_state, may_make, Past, may_change, may_happen, past_at, is_allowed_on, is_allowed, Passes}
use Rattle.gate_laws.specs.Laws.{is_half, is_in_state, is_given, is_changed, is_used, StatesComeLast, StatesArePlain, MakersStay}
use Rattle.gate_laws.proofs.Items.{all_allowed}

-- ---- what was done stays done

stays : (d : Contents) (j k id : ℕ) → j < k → gives_state (heap_at d (suc j)) (has_state d j) (event_at d j) id ≡ true → has_state d k id ≡ true
unfolding has_state
stays d j zero id less e = absurd (omega (arith, less))
stays d j (suc k) id less e = elim (cases_lt j k) [
  | inl before ↦ or_left (has_state d k id) (gives_state (heap_at d (suc k)) (has_state d k) (event_at d k) id) (stays d j k id before e)
  | inr far ↦
      let same : j ≡ k = omega (arith, less, far) in
      or_right (has_state d k id) (gives_state (heap_at d (suc k)) (has_state d k) (event_at d k) id)
      (ap (λ (i : ℕ). gives_state (heap_at d (suc i)) (has_state d i) (event_at d i) id) (sym same) ∙ e)
]

stays_maker : (d : Contents) (j k id : ℕ) → j < k → part_is (is_this id) (maker_by (heap_at d (suc j)) (event_at d j)) ≡ true → has_made d k id ≡ true
unfolding has_made
stays_maker d j zero id less e = absurd (omega (arith, less))
stays_maker d j (suc k) id less e = elim (cases_lt j k) [
  | inl before ↦ or_left (has_made d k id) (part_is (is_this id) (maker_by (heap_at d (suc k)) (event_at d k))) (stays_maker d j k id before e)
  | inr far ↦
      let same : j ≡ k = omega (arith, less, far) in
      or_right (has_made d k id) (part_is (is_this id) (maker_by (heap_at d (suc k)) (event_at d k)))
      (ap (λ (i : ℕ). part_is (is_this id) (maker_by (heap_at d (suc i)) (event_at d i))) (sym same) ∙ e)
]

stays_named : (d : Contents) (j k id : ℕ) → j < k → names_by (heap_at d (suc j)) (is_named d j) (event_at d j) id ≡ true → is_named d k id ≡ true
unfolding is_named
stays_named d j zero id less e = absurd (omega (arith, less))
stays_named d j (suc k) id less e = elim (cases_lt j k) [
  | inl before ↦ or_left (is_named d k id) (names_by (heap_at d (suc k)) (is_named d k) (event_at d k) id) (stays_named d j k id before e)
  | inr far ↦
      let same : j ≡ k = omega (arith, less, far) in
      or_right (is_named d k id) (names_by (heap_at d (suc k)) (is_named d k) (event_at d k) id)
      (ap (λ (i : ℕ). names_by (heap_at d (suc i)) (is_named d i) (event_at d i) id) (sym same) ∙ e)
]

-- ---- an event that may happen

apart : (had : ℕ → Bool) (i id : ℕ) → not (had i) ≡ true → had id ≡ true → (i == id) ≡ false
apart had i id e h =
    false_from_ne_true (i == id)
    (λ q.
    let same : i ≡ id = eqb-true i id q in
    let no : false ≡ true = sym (ap not (ap had same ∙ h)) ∙ e in
    absurd cc)

no_part : (had : ℕ → Bool) (p : Option ℕ) (id : ℕ) → not (part_is had p) ≡ true → had id ≡ true → part_is (is_this id) p ≡ false
no_part had None id e h = refl
no_part had (Some i) id e h = apart had i id e h

no_instance : (had : ℕ → Bool) (k : Kind) (parts : List ℕ) (id : ℕ) → not (is_of_ready had k parts) ≡ true → had id ≡ true → is_of_ready (is_this id) k parts ≡ false
no_instance had kind.New parts id e h = no_part had (slice_get parts 0) id e h
no_instance had kind.NewEx parts id e h = no_part had (slice_get parts 0) id e h
no_instance had kind.Obj parts id e h = no_part had (slice_get parts 0) id e h
no_instance had _ parts id e h = refl

-- what has its state is in no list of what has none
in_none : (had : ℕ → Bool) (ids : List ℕ) (id : ℕ) → list_all (has_not had) ids ≡ true → had id ≡ true → list_any (is_this id) ids ≡ false
in_none had [] id e h = refl
in_none had (i ∷ ids) id e h =
    let two = and_parts (not (had i)) (list_all (has_not had) ids) e in
    ap₂ (λ (a b : Bool). a || b) (apart had i id two.0 h) (in_none had ids id two.1 h)

if_pair : (pair good : Bool) (some : Bool) → (not pair || good) ≡ true → (good ≡ true → some ≡ false) → (pair && some) ≡ false
if_pair true good some e none = none e
if_pair false good some e none = refl

no_half : (had : ℕ → Bool) (heap : List Object) (k : Kind) (parts : List ℕ) (id : ℕ) → halves_may had heap k parts ≡ true → had id ≡ true → is_half id k parts ≡ false
no_half had heap kind.Tuple parts id e h = if_pair (length parts == 2) (list_all (has_not had) parts) (list_any (is_this id) parts) e (λ q. in_none had parts id q h)
no_half had heap _ parts id e h = refl

not_in_state : (had : ℕ → Bool) (heap : List Object) (value id : ℕ) → may_be_state had heap value ≡ true → had id ≡ true → is_in_state heap value id ≡ false
not_in_state had heap value id e h =
    let two = and_parts (not (had value)) (halves_may_at had heap value) e in
    ap₂ (λ (a b : Bool). a || b) (apart had value id two.0 h) (go (slice_get heap value) two.1)
  where
    go : (y : Option Object) → option_map_or (λ (o : Object). halves_may had heap o.kind o.parts) y true ≡ true → option_map_or (λ (o : Object). is_half id o.kind o.parts) y false ≡ false
    go None f = refl
    go (Some o) f = no_half had heap o.kind o.parts id f h

-- of an object that may change
unless_either : (a b : Bool) → not (a || b) ≡ true → (not a ≡ true) × (not b ≡ true)
unless_either true b e = absurd cc
unless_either false true e = absurd cc
unless_either false false e = (refl, refl)

-- an event that gives an object items or a state
target_may : (list : List Entry) (proto : ℕ) (heap : List Object) (from : List (Option Source)) (past : Past) (value target : ℕ) → may_happen list proto heap from past (Some (event.State value target)) ≡ true
    → (may_be_state past.named heap value ≡ true) × (may_change past target ≡ true)
target_may list proto heap from past value target e =
    let two = and_parts (may_use list use_of.State (source_at from target)) (may_be_set list proto heap value target && (may_be_state past.named heap value && may_change past target)) e in
    let three = and_parts (may_be_set list proto heap value target) (may_be_state past.named heap value && may_change past target) two.1 in
    and_parts (may_be_state past.named heap value) (may_change past target) three.1

fill_may : (list : List Entry) (proto : ℕ) (heap : List Object) (from : List (Option Source)) (past : Past) (how : Filling) (count target : ℕ)
    → may_happen list proto heap from past (Some (event.Filled how count target)) ≡ true → may_change past target ≡ true
fill_may list proto heap from past how count target e = (and_parts (may_use list use_of.Fill (source_at from target)) (may_change past target) e).1

not_used : (list : List Entry) (proto : ℕ) (heap : List Object) (from : List (Option Source)) (past : Past) (x : Option Event) (id : ℕ) → may_happen list proto heap from past x ≡ true → past.had id ≡ true
    → is_used heap x id ≡ false
not_used list proto heap from past None id e h = refl
not_used list proto heap from past (Some (event.Made n)) id e h = go (slice_get heap n) e
  where
    go : (y : Option Object) → option_map_or (λ (o : Object). may_make list proto heap from o.kind o.parts && (may_be_given list proto heap o.kind o.parts && not (is_of_ready past.had o.kind o.parts))) y true ≡ true
        → option_map_or (λ (o : Object). is_of_ready (is_this id) o.kind o.parts) y false ≡ false
    go None f = refl
    go (Some o) f =
        let two = and_parts (may_make list proto heap from o.kind o.parts) (may_be_given list proto heap o.kind o.parts && not (is_of_ready past.had o.kind o.parts)) f in
        no_instance past.had o.kind o.parts id (and_parts (may_be_given list proto heap o.kind o.parts) (not (is_of_ready past.had o.kind o.parts)) two.1).1 h
not_used list proto heap from past (Some (event.State value target)) id e h =
    apart past.had target id (unless_either (past.had target) (past.made target) (target_may list proto heap from past value target e).1).0 h
not_used list proto heap from past (Some (event.Filled how count target)) id e h =
    apart past.had target id (unless_either (past.had target) (past.made target) (fill_may list proto heap from past how count target e)).0 h

not_changed : (list : List Entry) (proto : ℕ) (heap : List Object) (from : List (Option Source)) (past : Past) (x : Option Event) (id : ℕ) → may_happen list proto heap from past x ≡ true → past.made id ≡ true
    → is_changed x id ≡ false
not_changed list proto heap from past None id e h = refl
not_changed list proto heap from past (Some (event.Made n)) id e h = refl
not_changed list proto heap from past (Some (event.State value target)) id e h =
    apart past.made target id (unless_either (past.had target) (past.made target) (target_may list proto heap from past value target e).1).1 h
not_changed list proto heap from past (Some (event.Filled how count target)) id e h =
    apart past.made target id (unless_either (past.had target) (past.made target) (fill_may list proto heap from past how count target e)).1 h

not_given : (list : List Entry) (proto : ℕ) (heap : List Object) (from : List (Option Source)) (past : Past) (x : Option Event) (id : ℕ) → may_happen list proto heap from past x ≡ true → past.named id ≡ true
    → is_given heap x id ≡ false
not_given list proto heap from past None id e h = refl
not_given list proto heap from past (Some (event.Made n)) id e h = refl
not_given list proto heap from past (Some (event.State value target)) id e h = not_in_state past.named heap value id (target_may list proto heap from past value target e).0 h
not_given list proto heap from past (Some (event.Filled how count target)) id e h = refl

-- ---- the laws

item_happens : (list : List Entry) (d : Contents) (k : ℕ) (o : Operation) (s t : State) → item_at d k ≡ Some o → run (start d.many) (ops_of d) k ≡ Some s → run (start d.many) (ops_of d) (suc k) ≡ Some t
    → is_allowed list d k ≡ true → may_happen list (protocol_of d) t.heap (sources d k) (past_at d k) (event_at d k) ≡ true
unfolding is_allowed event_at
item_happens list d k o s t there runs on e =
    let x : Option Event = event_of (row_of o) (before_of (fresh s)) t in
    let is : event_on (item_at d k) (run (start d.many) (ops_of d) k) (run (start d.many) (ops_of d) (suc k)) ≡ x =
    ap (λ (y : Option Operation). event_on y (run (start d.many) (ops_of d) k) (run (start d.many) (ops_of d) (suc k))) there
    ∙ ap (λ (y : Option State). event_on (Some o) y (run (start d.many) (ops_of d) (suc k))) runs
    ∙ ap (λ (y : Option State). event_on (Some o) (Some s) y) on in
    let may : may_happen list (protocol_of d) t.heap (sources d k) (past_at d k) x ≡ true =
    sym (ap (λ (y : Option Operation). is_allowed_on list (protocol_of d) (sources d k) (past_at d k) y (run (start d.many) (ops_of d) k) (run (start d.many) (ops_of d) (suc k))) there
    ∙ ap (λ (y : Option State). is_allowed_on list (protocol_of d) (sources d k) (past_at d k) (Some o) y (run (start d.many) (ops_of d) (suc k))) runs
    ∙ ap (λ (y : Option State). is_allowed_on list (protocol_of d) (sources d k) (past_at d k) (Some o) (Some s) y) on) ∙ e in
    ap (may_happen list (protocol_of d) t.heap (sources d k) (past_at d k)) is ∙ may

-- of what passes
event_happens : (list : List Entry) (bytes : List ℕ) (p : Passes list bytes) (k : ℕ) (t : State) → run (start p.document.many) (ops_of p.document) (suc k) ≡ Some t
    → may_happen list (protocol_of p.document) t.heap (sources p.document k) (past_at p.document k) (event_at p.document k) ≡ true
event_happens list bytes p k t on =
    let d : Contents = p.document in
    let m = move_to (start d.many) (ops_of d) k t on in
    let within : k < length (ops_of d) = slice_get_within (ops_of d) k m.item m.there in
    item_happens list d k m.item m.before t m.there m.reached on (all_allowed list d (length (ops_of d)) p.allowed k within)

pub states_come_last : StatesComeLast
states_come_last list bytes p j k id t less on gives =
    let d : Contents = p.document in
    not_used list (protocol_of d) t.heap (sources d k) (past_at d k) (event_at d k) id (event_happens list bytes p k t on) (stays d j k id less gives)

pub states_are_plain : StatesArePlain
states_are_plain list bytes p j k id t less on names =
    let d : Contents = p.document in
    not_given list (protocol_of d) t.heap (sources d k) (past_at d k) (event_at d k) id (event_happens list bytes p k t on) (stays_named d j k id less names)

pub makers_stay : MakersStay
makers_stay list bytes p j k id t less on makes =
    let d : Contents = p.document in
    let it : part_is (is_this id) (maker_by (heap_at d (suc j)) (event_at d j)) ≡ true = ap (part_is (is_this id)) makes ∙ eq-eqb id id refl in
    not_changed list (protocol_of d) t.heap (sources d k) (past_at d k) (event_at d k) id (event_happens list bytes p k t on) (stays_maker d j k id less it)
