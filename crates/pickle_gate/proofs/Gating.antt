-- The loop of the gate: what is kept while it goes over the items, and what it says.
use Rattle.std.proofs.Common.{◌≡◌, ℕ, zero, suc, ◌+◌, ◌-◌, ◌<◌, ◌≤◌, Bool, true, false, List, [], ◌∷◌, ◌++◌, length, drop, Option, Some, None, Ok, refl, sym, ap, ap₂, subst, ◌∙◌, inl, inr, add-one, arith, length-append}
use Rattle.std.specs.Prelude.{◌==◌, ◌&&◌, ◌||◌, not, slice_get, if◌then◌else◌, ⊤}
use Rattle.std.proofs.lemmas.Bool.{lt-ltb, le-ltb, eq-eqb, ne_eqb}
use Rattle.std.proofs.lemmas.List.{drop_all}
use Rattle.pickle_ops.specs.Spelling.{Operation, size_of}
use Rattle.pickle_ops.specs.Object.{Object}
use Rattle.pickle_ops.specs.Row.{row_of}
use Rattle.pickle_doc.specs.Document.{Contents, ended_by}
use Rattle.pickle_doc.specs.Place.{ops_of, item_at, offset_of}
use Rattle.pickle_machine.specs.declared.refusal.Refusal.{Refusal}
use Rattle.pickle_machine.specs.State.{State, start}
use Rattle.pickle_machine.specs.Move.{move, next, fresh, refusal_at}
use Rattle.pickle_machine.specs.Run.{run}
use Rattle.pickle_calls.specs.declared.event.Event.{Event}
use Rattle.pickle_calls.specs.declared.event.Event.TheVariants as event
use Rattle.pickle_text.specs.declared.closing.Closing.TheVariants as closing
use Rattle.pickle_calls.specs.declared.end.Ending.TheVariants as ending
use Rattle.pickle_calls.specs.Event.{is_shown, made_as, made_event, before_of, event_of}
use Rattle.pickle_calls.specs.Calls.{left_at, is_inside, or_here, first_inside, CallsEnd, calls_end}
use Rattle.pickle_text.specs.Reached.{reached}
use Rattle.pickle_calls.proofs.Walking.{event_by, accepted}
use Rattle.pickle_text.proofs.Moves.{refused_move}
use Rattle.pickle_text.proofs.Places.{offset_next, run-suc, stuck_behind, reached_last, within}
use Rattle.pickle_text.proofs.Runs.{run_nothing}
use Rattle.pickle_form.specs.declared.reason.Reason.{Reason}
use Rattle.pickle_form.specs.declared.reason.Other.{Other}
use Rattle.pickle_form.specs.Form.{Before, end_reason, after, reason_of, at_place, other_here, first_from, first_other}
use Rattle.pickle_allow.specs.declared.list.Entry.{Entry}
use Rattle.pickle_allow.specs.Allow.{Source}
use Rattle.pickle_allow.specs.Source.{source_at, source_of, with_more}
use Rattle.pickle_gate.specs.declared.packed.Kept.{Kept}
use Rattle.pickle_gate.specs.declared.verdict.Verdict.TheVariants as verdict
use Rattle.pickle_gate.specs.declared.judge.Made.TheVariants as made
use Rattle.pickle_gate.specs.Gate.{protocol_said, protocol_of, sources, sources_behind, event_on, event_at, heap_of, heap_at, maker_by, part_is, is_this, gives_state, has_state, has_made, names_by, is_named, Past, past_at, may_happen, is_allowed_on, is_allowed, first_forbidden}
use Rattle.pickle_gate.specs.Kept.{nothing_kept, kept_of, kept_at, AreKept, judged_event, ready_by, used_by, kept_behind, protocol_here, judged, event_source}
use Rattle.pickle_gate.specs.Verdict.{in_form, verdict_by, verdict_to, verdict_of}
use Rattle.pickle_gate.proofs.Judged.{kept_is_judged}
use Rattle.pickle_gate.proofs.Growth.{Growth, Same, One, is_making, few_behind, grows, last_one, made_source}
use Rattle.pickle_gate.proofs.Ready.{or_false, kept_past, past_with, moved, ready_length, ready_each, used_length, used_with, used_each, more_each, ready_within, maker_within}

-- ---- what is kept

-- from the first item on the protocol is that of the document
abbrev pub HasProtocol : Contents → ℕ → ℕ → Type 0
HasProtocol d zero proto = ⊤
HasProtocol d (suc k) proto = proto ≡ protocol_of d

-- the first k items were run and are allowed; this is the state that they reach, and this is kept of its objects
pub record Far (list : List Entry) (d : Contents) (k offset : ℕ) (s : State) (proto : ℕ) (keeps : List Kept) : Type 0 where
  pub reached : run (start d.many) (ops_of d) k ≡ Some s
  pub stands : offset ≡ offset_of d k
  pub heap : length s.heap ≤ k
  pub protocol : HasProtocol d k proto
  pub kept : AreKept list (sources d k) (past_at d k) keeps
  pub count : length (sources d k) ≡ length s.heap
  pub allowed : first_forbidden list d k ≡ None

pub far_begins : (list : List Entry) (d : Contents) (proto : ℕ) → d.many ≡ false → Far list d 0 0 (start false) proto []
unfolding sources has_state has_made is_named first_forbidden
far_begins list d proto m = record {
  reached = run_nothing (start d.many) (ops_of d) ∙ ap (λ (b : Bool). Some (start b)) m;
  stands = refl;
  heap = omega arith;
  protocol = tt;
  kept = record { count = refl; each = λ id. refl };
  count = refl;
  allowed = refl;
}

pub protocol_is : (d : Contents) (k : ℕ) (o : Operation) (proto : ℕ) → item_at d k ≡ Some o → HasProtocol d k proto → protocol_here k o proto ≡ protocol_of d
protocol_is d zero o proto e h = sym (ap protocol_said e)
protocol_is d (suc k) o proto e h = let later : (suc k == 0) ≡ false = ne_eqb (suc k) 0 (λ z. absurd (omega (arith, z))) in rw later h

-- ---- a step

-- the state behind it
runs_on : (d : Contents) (k : ℕ) (o : Operation) (s t : State) → item_at d k ≡ Some o → run (start d.many) (ops_of d) k ≡ Some s → move o k s ≡ Ok t → run (start d.many) (ops_of d) (suc k) ≡ Some t
runs_on d k o s t e r m = rw (run-suc (start d.many) (ops_of d) k o s e r, m) refl

-- what is looked at of the state as it stands serves as well
event_is : (o : Operation) (k : ℕ) (s t : State) → move o k s ≡ Ok t → event_of (row_of o) (before_of s) t ≡ event_of (row_of o) (before_of (fresh s)) t
event_is o k s t e = event_by s.stopped (row_of o) s t (accepted (refusal_at o s) (next o k s) t e)

-- whether it is allowed
allowed_is : (list : List Entry) (d : Contents) (k : ℕ) (o : Operation) (s t : State) → item_at d k ≡ Some o → run (start d.many) (ops_of d) k ≡ Some s → move o k s ≡ Ok t
    → is_allowed list d k ≡ may_happen list (protocol_of d) t.heap (sources d k) (past_at d k) (event_of (row_of o) (before_of s) t)
unfolding is_allowed
allowed_is list d k o s t e r m =
    ap (λ (x : Option Operation). is_allowed_on list (protocol_of d) (sources d k) (past_at d k) x (run (start d.many) (ops_of d) k) (run (start d.many) (ops_of d) (suc k))) e
    ∙ ap (λ (y : Option State). is_allowed_on list (protocol_of d) (sources d k) (past_at d k) (Some o) y (run (start d.many) (ops_of d) (suc k))) r
    ∙ ap (λ (z : Option State). is_allowed_on list (protocol_of d) (sources d k) (past_at d k) (Some o) (Some s) z) (runs_on d k o s t e r m)
    ∙ ap (λ (x : Option Event). may_happen list (protocol_of d) t.heap (sources d k) (past_at d k) x) (sym (event_is o k s t m))

-- what comes of its event
judged_is : (list : List Entry) (d : Contents) (k : ℕ) (o : Operation) (s t : State) (proto : ℕ) (keeps : List Kept) → item_at d k ≡ Some o
    → run (start d.many) (ops_of d) k ≡ Some s → move o k s ≡ Ok t → proto ≡ protocol_of d → AreKept list (sources d k) (past_at d k) keeps
    → judged_event list proto t.heap keeps (event_of (row_of o) (before_of s) t)
    ≡ judged list (is_allowed list d k) (event_source (protocol_of d) t.heap (sources d k) (event_of (row_of o) (before_of s) t)) (part_is (has_state d k) (maker_by t.heap (event_of (row_of o) (before_of s) t))) (part_is (is_named d k) (maker_by t.heap (event_of (row_of o) (before_of s) t)))
judged_is list d k o s t proto keeps e r m p kept =
    let x : Option Event = event_of (row_of o) (before_of s) t in
    ap (λ (n : ℕ). judged_event list n t.heap keeps x) p
    ∙ kept_is_judged list (protocol_of d) t.heap (sources d k) (past_at d k) keeps x kept
    ∙ ap (λ (b : Bool). judged list b (event_source (protocol_of d) t.heap (sources d k) x) (part_is (has_state d k) (maker_by t.heap x)) (part_is (is_named d k) (maker_by t.heap x))) (sym (allowed_is list d k o s t e r m))

is_good : (list : List Entry) (b : Bool) (x : Option Source) (r n : Bool) (g : Kept) → made.Allowed g ≡ judged list b x r n → (b ≡ true) × (g ≡ kept_of list x r false n)
is_good list true x r n g e = (refl, cc)
is_good list false x r n g e = absurd cc

is_bad : (list : List Entry) (b : Bool) (x : Option Source) (r n : Bool) → made.Forbidden ≡ judged list b x r n → b ≡ false
is_bad list true x r n e = absurd cc
is_bad list false x r n e = refl

-- ---- the objects behind a step, and what they come of

sources_next : (d : Contents) (k : ℕ) (t : State) → run (start d.many) (ops_of d) (suc k) ≡ Some t → sources d (suc k) ≡ with_more (protocol_of d) t.heap (sources d k) (drop (length (sources d k)) t.heap)
unfolding sources
sources_next d k t e = ap (sources_behind (protocol_of d) (sources d k)) e

-- the event of the step is that of the item
event_there : (d : Contents) (k : ℕ) (o : Operation) (s t : State) → item_at d k ≡ Some o → run (start d.many) (ops_of d) k ≡ Some s → move o k s ≡ Ok t
    → event_at d k ≡ event_of (row_of o) (before_of s) t
unfolding event_at
event_there d k o s t e r m =
    ap (λ (x : Option Operation). event_on x (run (start d.many) (ops_of d) k) (run (start d.many) (ops_of d) (suc k))) e
    ∙ ap (λ (y : Option State). event_on (Some o) y (run (start d.many) (ops_of d) (suc k))) r
    ∙ ap (λ (z : Option State). event_on (Some o) (Some s) z) (runs_on d k o s t e r m)
    ∙ sym (event_is o k s t m)

heap_there : (d : Contents) (k : ℕ) (t : State) → run (start d.many) (ops_of d) k ≡ Some t → heap_at d k ≡ t.heap
unfolding heap_at
heap_there d k t e = ap heap_of e

state_next : (d : Contents) (k id : ℕ) (heap : List Object) (x : Option Event) → heap_at d (suc k) ≡ heap → event_at d k ≡ x → has_state d (suc k) id ≡ (has_state d k id || gives_state heap (has_state d k) x id)
unfolding has_state
state_next d k id heap x h e = ap₂ (λ (l : List Object) (y : Option Event). has_state d k id || gives_state l (has_state d k) y id) h e

made_next : (d : Contents) (k id : ℕ) (heap : List Object) (x : Option Event) → heap_at d (suc k) ≡ heap → event_at d k ≡ x → has_made d (suc k) id ≡ (has_made d k id || part_is (is_this id) (maker_by heap x))
unfolding has_made
made_next d k id heap x h e = ap₂ (λ (l : List Object) (y : Option Event). has_made d k id || part_is (is_this id) (maker_by l y)) h e

named_next : (d : Contents) (k id : ℕ) (heap : List Object) (x : Option Event) → heap_at d (suc k) ≡ heap → event_at d k ≡ x → is_named d (suc k) id ≡ (is_named d k id || names_by heap (is_named d k) x id)
unfolding is_named
named_next d k id heap x h e = ap₂ (λ (l : List Object) (y : Option Event). is_named d k id || names_by l (is_named d k) y id) h e

-- with the object that was made, if one was, and what was done
pub record KeptThere (list : List Entry) (d : Contents) (k : ℕ) (t : State) (keeps : List Kept) : Type 0 where
  pub kept : AreKept list (sources d k) (past_at d k) keeps
  pub count : length (sources d k) ≡ length t.heap

kept_same : (list : List Entry) (d : Contents) (k : ℕ) (t : State) (keeps : List Kept) (g : Kept) (x : Option Event) → run (start d.many) (ops_of d) (suc k) ≡ Some t → event_at d k ≡ x
    → AreKept list (sources d k) (past_at d k) keeps → length (sources d k) ≡ length t.heap → is_making x ≡ false → ((id : ℕ) → gives_state t.heap (has_state d k) x id ≡ true → id < length keeps)
    → KeptThere list d (suc k) t (kept_behind t.heap g x keeps)
kept_same list d k t keeps g x r ev kept n quiet within =
    let none : drop (length (sources d k)) t.heap ≡ [] = drop_all (length (sources d k)) t.heap (omega (arith, n)) in
    let same : sources d (suc k) ≡ sources d k = sources_next d k t r ∙ ap (with_more (protocol_of d) t.heap (sources d k)) none in
    let stay : kept_behind t.heap g x keeps ≡ ready_by t.heap x keeps = rw (le-ltb (length keeps) (length t.heap) (omega (arith, n, kept.count))) refl in
    let heap : heap_at d (suc k) ≡ t.heap = heap_there d (suc k) t r in
    record {
      kept = record {
        count = ap length stay ∙ ready_length t.heap x keeps ∙ kept.count ∙ ap length (sym same);
        each = λ id.
            ap (λ (l : List Kept). kept_at l id) stay
            ∙ ready_each list (sources d k) t.heap (past_at d k) keeps x kept quiet within id
            ∙ moved list (source_at (sources d k) id) (past_with t.heap (past_at d k) x) (past_at d (suc k)) id (sym (state_next d k id t.heap x heap ev)) (sym (made_next d k id t.heap x heap ev)) (sym (named_next d k id t.heap x heap ev))
            ∙ ap (λ (from : List (Option Source)). kept_of list (source_at from id) (has_state d (suc k) id) (has_made d (suc k) id) (is_named d (suc k) id)) (sym same);
      };
      count = rw same n;
    }

-- the making of an object gives a state to no other
shown_gives : (b : Bool) (heap : List Object) (had : ℕ → Bool) (n id : ℕ) → (id ≡ n → ⊥) → gives_state heap had (if b then Some (event.Made n) else None) id ≡ false
shown_gives true heap had n id other = ap (λ (b : Bool). b && part_is had (maker_by heap (Some (event.Made n)))) (ne_eqb n id (λ e. other (sym e)))
shown_gives false heap had n id other = refl

made_gives : (heap : List Object) (had : ℕ → Bool) (n id : ℕ) (y : Option Object) → (id ≡ n → ⊥) → gives_state heap had (made_as heap n y) id ≡ false
made_gives heap had n id None other = refl
made_gives heap had n id (Some o) other = shown_gives (is_shown heap o) heap had n id other

-- and to it, if it is made of what has one
shown_self : (b : Bool) (heap : List Object) (had : ℕ → Bool) (n : ℕ)
    → gives_state heap had (if b then Some (event.Made n) else None) n ≡ part_is had (maker_by heap (if b then Some (event.Made n) else None))
shown_self true heap had n = ap (λ (b : Bool). b && part_is had (maker_by heap (Some (event.Made n)))) (eq-eqb n n refl)
shown_self false heap had n = refl

made_self : (heap : List Object) (had : ℕ → Bool) (n : ℕ) (y : Option Object) → gives_state heap had (made_as heap n y) n ≡ part_is had (maker_by heap (made_as heap n y))
made_self heap had n None = refl
made_self heap had n (Some o) = shown_self (is_shown heap o) heap had n

-- the same of attributes by a state
shown_names : (b : Bool) (heap : List Object) (named : ℕ → Bool) (n id : ℕ) → (id ≡ n → ⊥) → names_by heap named (if b then Some (event.Made n) else None) id ≡ false
shown_names true heap named n id other = ap (λ (b : Bool). b && part_is named (maker_by heap (Some (event.Made n)))) (ne_eqb n id (λ e. other (sym e)))
shown_names false heap named n id other = refl

made_names : (heap : List Object) (named : ℕ → Bool) (n id : ℕ) (y : Option Object) → (id ≡ n → ⊥) → names_by heap named (made_as heap n y) id ≡ false
made_names heap named n id None other = refl
made_names heap named n id (Some o) other = shown_names (is_shown heap o) heap named n id other

shown_named : (b : Bool) (heap : List Object) (named : ℕ → Bool) (n : ℕ)
    → names_by heap named (if b then Some (event.Made n) else None) n ≡ part_is named (maker_by heap (if b then Some (event.Made n) else None))
shown_named true heap named n = ap (λ (b : Bool). b && part_is named (maker_by heap (Some (event.Made n)))) (eq-eqb n n refl)
shown_named false heap named n = refl

made_named : (heap : List Object) (named : ℕ → Bool) (n : ℕ) (y : Option Object) → names_by heap named (made_as heap n y) n ≡ part_is named (maker_by heap (made_as heap n y))
made_named heap named n None = refl
made_named heap named n (Some o) = shown_named (is_shown heap o) heap named n

-- it is made of another
not_self : (m : Option ℕ) (n : ℕ) → ((i : ℕ) → m ≡ Some i → i < n) → part_is (is_this n) m ≡ false
not_self None n within = refl
not_self (Some i) n within = let there : i < n = within i refl in ne_eqb i n (λ e. absurd (omega (arith, there, e)))

kept_more : (list : List Entry) (d : Contents) (k : ℕ) (t : State) (keeps : List Kept) (g : Kept) (x : Option Event) → run (start d.many) (ops_of d) (suc k) ≡ Some t → event_at d k ≡ x
    → AreKept list (sources d k) (past_at d k) keeps → length t.heap ≡ length (sources d k) + 1 → x ≡ made_event t.heap (length (sources d k))
    → ((i : ℕ) → maker_by t.heap x ≡ Some i → i < length keeps)
    → g ≡ kept_of list (event_source (protocol_of d) t.heap (sources d k) x) (part_is (has_state d k) (maker_by t.heap x)) false (part_is (is_named d k) (maker_by t.heap x)) → KeptThere list d (suc k) t (kept_behind t.heap g x keeps)
kept_more list d k t keeps g x r ev kept n made within is =
    let from : List (Option Source) = sources d k in
    let last = last_one t.heap (length from) n in
    let o : Object = last.0 in
    let y : Option Source = source_of (protocol_of d) t.heap from o.kind o.parts in
    let m : Option ℕ = maker_by t.heap x in
    let more : sources d (suc k) ≡ from ++ y ∷ [] = sources_next d k t r ∙ ap (with_more (protocol_of d) t.heap from) last.2 in
    let source_is : event_source (protocol_of d) t.heap from x ≡ y =
    ap (λ (z : Option Event). event_source (protocol_of d) t.heap from z) made ∙ made_source (protocol_of d) t.heap from (length from) o last.1 in
    let heap : heap_at d (suc k) ≡ t.heap = heap_there d (suc k) t r in
    let grow : kept_behind t.heap g x keeps ≡ used_by m keeps ++ g ∷ [] = rw (lt-ltb (length keeps) (length t.heap) (omega (arith, kept.count, n))) refl in
    let used : AreKept list from (used_with (past_at d k) m) (used_by m keeps) =
    record { count = used_length m keeps ∙ kept.count; each = used_each list from (past_at d k) keeps m kept within } in
    let had : (id : ℕ) → (id ≡ length from → ⊥) → has_state d k id ≡ has_state d (suc k) id = λ id other.
    sym (state_next d k id t.heap x heap ev
    ∙ ap (λ (b : Bool). has_state d k id || b) (ap (λ (z : Option Event). gives_state t.heap (has_state d k) z id) made ∙ made_gives t.heap (has_state d k) (length from) id (slice_get t.heap (length from)) other)
    ∙ or_false (has_state d k id)) in
    let named : (id : ℕ) → (id ≡ length from → ⊥) → is_named d k id ≡ is_named d (suc k) id = λ id other.
    sym (named_next d k id t.heap x heap ev
    ∙ ap (λ (b : Bool). is_named d k id || b) (ap (λ (z : Option Event). names_by t.heap (is_named d k) z id) made ∙ made_names t.heap (is_named d k) (length from) id (slice_get t.heap (length from)) other)
    ∙ or_false (is_named d k id)) in
    let past : kept_at keeps (length from) ≡ nothing_kept = kept_past keeps (length from) (omega (arith, kept.count)) in
    let nothing : nothing_kept ≡ kept_of list (source_at from (length from)) (has_state d k (length from)) (has_made d k (length from)) (is_named d k (length from)) = sym past ∙ kept.each (length from) in
    let new_had : has_state d (suc k) (length from) ≡ part_is (has_state d k) m =
    state_next d k (length from) t.heap x heap ev
    ∙ ap (λ (b : Bool). b || gives_state t.heap (has_state d k) x (length from)) (sym (ap (λ (z : Kept). z.ready) nothing))
    ∙ ap (λ (z : Option Event). gives_state t.heap (has_state d k) z (length from)) made
    ∙ made_self t.heap (has_state d k) (length from) (slice_get t.heap (length from))
    ∙ ap (λ (z : Option Event). part_is (has_state d k) (maker_by t.heap z)) (sym made) in
    let new_made : has_made d (suc k) (length from) ≡ false =
    made_next d k (length from) t.heap x heap ev
    ∙ ap₂ (λ (a b : Bool). a || b) (sym (ap (λ (z : Kept). z.used) nothing)) (not_self m (length from) (λ i q. let there : i < length keeps = within i q in omega (arith, there, kept.count))) in
    let new_named : is_named d (suc k) (length from) ≡ part_is (is_named d k) m =
    named_next d k (length from) t.heap x heap ev
    ∙ ap (λ (b : Bool). b || names_by t.heap (is_named d k) x (length from)) (sym (ap (λ (z : Kept). z.named) nothing))
    ∙ ap (λ (z : Option Event). names_by t.heap (is_named d k) z (length from)) made
    ∙ made_named t.heap (is_named d k) (length from) (slice_get t.heap (length from))
    ∙ ap (λ (z : Option Event). part_is (is_named d k) (maker_by t.heap z)) (sym made) in
    let g_is : g ≡ kept_of list y (has_state d (suc k) (length from)) (has_made d (suc k) (length from)) (is_named d (suc k) (length from)) =
    is
    ∙ ap (λ (z : Option Source). kept_of list z (part_is (has_state d k) m) false (part_is (is_named d k) m)) source_is
    ∙ ap₂ (λ (h u : Bool). kept_of list y h u (part_is (is_named d k) m)) (sym new_had) (sym new_made)
    ∙ ap (λ (b : Bool). kept_of list y (has_state d (suc k) (length from)) (has_made d (suc k) (length from)) b) (sym new_named) in
    record {
      kept = record {
        count = omega (arith, ap length grow, length-append (used_by m keeps) (g ∷ []), used_length m keeps, kept.count, ap length more, length-append from (y ∷ []));
        each = λ id.
            ap (λ (l : List Kept). kept_at l id) grow
            ∙ more_each list from (used_with (past_at d k) m) (past_at d (suc k)) (used_by m keeps) y g (used_length m keeps ∙ kept.count) used.each had (λ i. sym (made_next d k i t.heap x heap ev)) named g_is id
            ∙ ap (λ (l : List (Option Source)). kept_of list (source_at l id) (has_state d (suc k) id) (has_made d (suc k) id) (is_named d (suc k) id)) (sym more);
      };
      count = omega (arith, ap length more, length-append from (y ∷ []), n);
    }

kept_next : (list : List Entry) (d : Contents) (k proto : ℕ) (o : Operation) (s t : State) (keeps : List Kept) (g : Kept) → run (start d.many) (ops_of d) (suc k) ≡ Some t
    → event_at d k ≡ event_of (row_of o) (before_of s) t → AreKept list (sources d k) (past_at d k) keeps → length (sources d k) ≡ length s.heap
    → Growth (row_of o) (before_of s) (length s.heap) t → made.Allowed g ≡ judged_event list proto t.heap keeps (event_of (row_of o) (before_of s) t)
    → g ≡ kept_of list (event_source (protocol_of d) t.heap (sources d k) (event_of (row_of o) (before_of s) t)) (part_is (has_state d k) (maker_by t.heap (event_of (row_of o) (before_of s) t))) false (part_is (is_named d k) (maker_by t.heap (event_of (row_of o) (before_of s) t)))
    → KeptThere list d (suc k) t (kept_behind t.heap g (event_of (row_of o) (before_of s) t) keeps)
kept_next list d k proto o s t keeps g r ev kept n (Same e quiet) good is =
    let x : Option Event = event_of (row_of o) (before_of s) t in
    kept_same list d k t keeps g x r ev kept (n ∙ sym e) quiet (λ id q. ready_within list proto t.heap (past_at d k) keeps x g id good quiet q)
kept_next list d k proto o s t keeps g r ev kept n (One e made) good is =
    let x : Option Event = event_of (row_of o) (before_of s) t in
    kept_more list d k t keeps g x r ev kept (omega (arith, e, n)) (made ∙ ap (made_event t.heap) (sym n)) (maker_within list proto t.heap keeps x g good) is

-- the item is allowed
pub far_goes_on : (list : List Entry) (d : Contents) (k offset : ℕ) (o : Operation) (s t : State) (proto p : ℕ) (keeps : List Kept) (g : Kept) → Far list d k offset s proto keeps
    → item_at d k ≡ Some o → move o k s ≡ Ok t → p ≡ protocol_here k o proto → made.Allowed g ≡ judged_event list p t.heap keeps (event_of (row_of o) (before_of s) t)
    → Far list d (k + 1) (offset + size_of o) t p (kept_behind t.heap g (event_of (row_of o) (before_of s) t) keeps)
unfolding first_forbidden
far_goes_on list d k offset o s t proto p keeps g w e m q good =
    let here : p ≡ protocol_of d = q ∙ protocol_is d k o proto e w.protocol in
    let x : Option Source = event_source (protocol_of d) t.heap (sources d k) (event_of (row_of o) (before_of s) t) in
    let ready : Bool = part_is (has_state d k) (maker_by t.heap (event_of (row_of o) (before_of s) t)) in
    let named : Bool = part_is (is_named d k) (maker_by t.heap (event_of (row_of o) (before_of s) t)) in
    let is = is_good list (is_allowed list d k) x ready named g (good ∙ judged_is list d k o s t p keeps e w.reached m here w.kept) in
    let run_is : run (start d.many) (ops_of d) (suc k) ≡ Some t = runs_on d k o s t e w.reached m in
    let growth = grows o k s t m in
    let all = kept_next list d k p o s t keeps g run_is (event_there d k o s t e w.reached m) w.kept w.count growth good is.1 in
    let none : first_forbidden list d (suc k) ≡ None = ap (λ (y : Option ℕ). or_here y (not (is_allowed list d k)) k) w.allowed ∙ ap (λ (b : Bool). or_here None (not b) k) is.0 in
    record {
      reached = rw (add-one k) run_is;
      stands = rw w.stands (sym (offset_next d k o e));
      heap = few_behind (row_of o) (before_of s) (length s.heap) k t growth w.heap;
      protocol = subst (λ (n : ℕ). HasProtocol d n p) (sym (add-one k)) here;
      kept = rw (add-one k) all.kept;
      count = rw (add-one k) all.count;
      allowed = rw (add-one k) none;
    }

-- ---- the first item that is not allowed

or_stays : (x : Option ℕ) (b : Bool) (k j : ℕ) → x ≡ Some j → or_here x b k ≡ Some j
or_stays None b k j e = absurd cc
or_stays (Some i) b k j e = e

forbidden_stays : (list : List Entry) (d : Contents) (k j n : ℕ) → first_forbidden list d k ≡ Some j → first_forbidden list d (n + k) ≡ Some j
unfolding first_forbidden
forbidden_stays list d k j zero e = let z : 0 + k ≡ k = omega arith in rw z e
forbidden_stays list d k j (suc n) e =
    let z : suc n + k ≡ suc (n + k) = omega arith in
    rw z (or_stays (first_forbidden list d (n + k)) (not (is_allowed list d (n + k))) (n + k) j (forbidden_stays list d k j n e))

-- it is the first of more items too
forbidden_of : (list : List Entry) (d : Contents) (k j n : ℕ) → k ≤ n → first_forbidden list d k ≡ Some j → first_forbidden list d n ≡ Some j
forbidden_of list d k j n h e =
    let z : (n - k) + k ≡ n = omega (arith, h) in
    subst (λ (m : ℕ). first_forbidden list d m ≡ Some j) z (forbidden_stays list d k j (n - k) e)

-- what has no state behind it is not asked
stuck_allowed : (list : List Entry) (proto : ℕ) (from : List (Option Source)) (past : Past) (x : Option Operation) (y : Option State) → is_allowed_on list proto from past x y None ≡ true
stuck_allowed list proto from past None y = refl
stuck_allowed list proto from past (Some o) None = refl
stuck_allowed list proto from past (Some o) (Some s) = refl

stuck_is_allowed : (list : List Entry) (d : Contents) (k : ℕ) → run (start d.many) (ops_of d) (suc k) ≡ None → is_allowed list d k ≡ true
unfolding is_allowed
stuck_is_allowed list d k e =
    ap (λ (z : Option State). is_allowed_on list (protocol_of d) (sources d k) (past_at d k) (item_at d k) (run (start d.many) (ops_of d) k) z) e
    ∙ stuck_allowed list (protocol_of d) (sources d k) (past_at d k) (item_at d k) (run (start d.many) (ops_of d) k)

none_behind : (list : List Entry) (d : Contents) (k n : ℕ) → first_forbidden list d k ≡ None → run (start d.many) (ops_of d) (suc k) ≡ None → first_forbidden list d (n + k) ≡ None
unfolding first_forbidden
none_behind list d k zero e r = let z : 0 + k ≡ k = omega arith in rw z e
none_behind list d k (suc n) e r =
    let z : suc n + k ≡ suc (n + k) = omega arith in
    let none : run (start d.many) (ops_of d) (suc (n + k)) ≡ None = stuck_behind (start d.many) (ops_of d) (suc k) (suc (n + k)) (omega arith) r in
    rw z (ap (λ (x : Option ℕ). or_here x (not (is_allowed list d (n + k))) (n + k)) (none_behind list d k n e r)
    ∙ ap (λ (b : Bool). or_here None (not b) (n + k)) (stuck_is_allowed list d (n + k) none))

none_of : (list : List Entry) (d : Contents) (k n : ℕ) → k ≤ n → first_forbidden list d k ≡ None → run (start d.many) (ops_of d) (suc k) ≡ None → first_forbidden list d n ≡ None
none_of list d k n h e r =
    let z : (n - k) + k ≡ n = omega (arith, h) in
    subst (λ (m : ℕ). first_forbidden list d m ≡ None) z (none_behind list d k (n - k) e r)

-- ---- how many items are in the form

place_is : (k offset : ℕ) (why : Reason) (other : Other) → Some (at_place k offset why) ≡ Some other → k ≡ other.place
place_is k offset why other e = let same : at_place k offset why ≡ other = cc in ap (λ (x : Other). x.place) same

found_here : (k offset : ℕ) (r : Option Reason) (rest : Option Other) (other : Other) → other_here k offset r rest ≡ Some other → (rest ≡ Some other → k ≤ other.place) → k ≤ other.place
found_here k offset (Some why) rest other e later = omega (arith, place_is k offset why other e)
found_here k offset None rest other e later = later e

found_later : (d : Contents) (b : Before) (k offset : ℕ) (ops : List Operation) (other : Other) → first_from d b k offset ops ≡ Some other → k ≤ other.place
found_later d b k offset [] other e = found_here k offset (end_reason (ended_by d) (length d.tail)) None other e (λ f. absurd cc)
found_later d b k offset (o ∷ ops) other e =
    found_here k offset (reason_of o b) (first_from d (after o b) (k + 1) (offset + size_of o) ops) other e
    (λ f. let more : k + 1 ≤ other.place = found_later d (after o b) (k + 1) (offset + size_of o) ops other f in omega (arith, more))

-- those that were read are
pub form_reaches : (d : Contents) (b : Before) (k offset : ℕ) → k ≤ length (ops_of d) → first_other d ≡ first_from d b k offset (drop k (ops_of d)) → k ≤ in_form d (first_other d)
form_reaches d b k offset h same = go (first_other d) same
  where
    go : (x : Option Other) → x ≡ first_from d b k offset (drop k (ops_of d)) → k ≤ in_form d x
    go None e = h
    go (Some other) e = found_later d b k offset (drop k (ops_of d)) other (sym e)

-- ---- where the lines of calls end

pub none_inside : (d : Contents) (n : ℕ) → d.many ≡ false → first_inside d n ≡ None
unfolding first_inside
none_inside d zero m = refl
none_inside d (suc n) m =
    ap (λ (x : Option ℕ). or_here x (is_inside d.many (item_at d n) (left_at d n)) n) (none_inside d n m)
    ∙ ap (λ (b : Bool). or_here None (is_inside b (item_at d n) (left_at d n)) n) m ∙ go (item_at d n)
  where
    go : (x : Option Operation) → or_here None (is_inside false x (left_at d n)) n ≡ None
    go None = refl
    go (Some o) = refl

stuck_at : (d : Contents) (k : ℕ) (o : Operation) (s : State) (r : Refusal) → run (start d.many) (ops_of d) k ≡ Some s → item_at d k ≡ Some o → refusal_at o s ≡ Some r
    → run (start d.many) (ops_of d) (suc k) ≡ None
stuck_at d k o s r p e f = run-suc (start d.many) (ops_of d) k o s e p ∙ rw (refused_move o k s r f) refl

refused_end : (d : Contents) (k : ℕ) (o : Operation) (s : State) (r : Refusal) → d.many ≡ false → run (start d.many) (ops_of d) k ≡ Some s → item_at d k ≡ Some o → refusal_at o s ≡ Some r
    → calls_end d ≡ record { place = k; ending = ending.Closed 0 (closing.Refused k r) }
unfolding calls_end
refused_end d k o s r m p e f =
    let h = within (ops_of d) k o e in
    let last : reached (start d.many) (ops_of d) (length (ops_of d)) ≡ k = reached_last (start d.many) (ops_of d) k (length (ops_of d)) s p (stuck_at d k o s r p e f) (omega (arith, h)) in
    rw (last, none_inside d k m, p, e, f) refl

-- ---- the verdict

-- a place that is not in the form, before which all is allowed
pub says_other : (list : List Entry) (d : Contents) (k offset : ℕ) (why : Reason) (s : State) → first_other d ≡ Some (at_place k offset why) → first_forbidden list d k ≡ None
    → run (start d.many) (ops_of d) k ≡ Some s → verdict.Other (at_place k offset why) ≡ verdict_of list d
unfolding verdict_of
says_other list d k offset why s e none r =
    sym (ap (verdict_to list d) e
    ∙ ap (λ (x : Option ℕ). verdict_by d x (run (start d.many) (ops_of d) k) (Some (at_place k offset why))) none
    ∙ ap (λ (y : Option State). verdict_by d None y (Some (at_place k offset why))) r)

pub says_passes : (list : List Entry) (d : Contents) (k : ℕ) (s : State) → first_other d ≡ None → length (ops_of d) ≡ k → first_forbidden list d k ≡ None
    → run (start d.many) (ops_of d) k ≡ Some s → verdict.Passes ≡ verdict_of list d
unfolding verdict_of
says_passes list d k s e all none r =
    sym (ap (verdict_to list d) e
    ∙ ap (λ (n : ℕ). verdict_by d (first_forbidden list d n) (run (start d.many) (ops_of d) n) None) all
    ∙ ap (λ (x : Option ℕ). verdict_by d x (run (start d.many) (ops_of d) k) None) none
    ∙ ap (λ (y : Option State). verdict_by d None y None) r)

-- an item in the form that is not allowed
pub says_forbidden : (list : List Entry) (d : Contents) (k offset : ℕ) (o : Operation) (s t : State) (proto p : ℕ) (keeps : List Kept) → Far list d k offset s proto keeps
    → item_at d k ≡ Some o → move o k s ≡ Ok t → p ≡ protocol_here k o proto → made.Forbidden ≡ judged_event list p t.heap keeps (event_of (row_of o) (before_of s) t)
    → k + 1 ≤ in_form d (first_other d) → verdict.Forbidden k offset ≡ verdict_of list d
unfolding verdict_of first_forbidden
says_forbidden list d k offset o s t proto p keeps w e m q bad far =
    let here : p ≡ protocol_of d = q ∙ protocol_is d k o proto e w.protocol in
    let x : Option Source = event_source (protocol_of d) t.heap (sources d k) (event_of (row_of o) (before_of s) t) in
    let is : is_allowed list d k ≡ false = is_bad list (is_allowed list d k) x (part_is (has_state d k) (maker_by t.heap (event_of (row_of o) (before_of s) t))) (part_is (is_named d k) (maker_by t.heap (event_of (row_of o) (before_of s) t))) (bad ∙ judged_is list d k o s t p keeps e w.reached m here w.kept) in
    let found : first_forbidden list d (suc k) ≡ Some k = ap (λ (y : Option ℕ). or_here y (not (is_allowed list d k)) k) w.allowed ∙ ap (λ (b : Bool). or_here None (not b) k) is in
    let all : first_forbidden list d (in_form d (first_other d)) ≡ Some k = forbidden_of list d (suc k) k (in_form d (first_other d)) (omega (arith, far)) found in
    ap (verdict.Forbidden k) w.stands
    ∙ sym (ap (λ (y : Option ℕ). verdict_by d y (run (start d.many) (ops_of d) (in_form d (first_other d))) (first_other d)) all)

-- one that is refused
pub says_refused : (list : List Entry) (d : Contents) (k : ℕ) (o : Operation) (s : State) (r : Refusal) → d.many ≡ false → run (start d.many) (ops_of d) k ≡ Some s → first_forbidden list d k ≡ None
    → item_at d k ≡ Some o → refusal_at o s ≡ Some r → k + 1 ≤ in_form d (first_other d) → verdict.Ends (ending.Closed 0 (closing.Refused k r)) ≡ verdict_of list d
unfolding verdict_of
says_refused list d k o s r m p none e f far =
    let n : ℕ = in_form d (first_other d) in
    let stuck : run (start d.many) (ops_of d) (suc k) ≡ None = stuck_at d k o s r p e f in
    let all : first_forbidden list d n ≡ None = none_of list d k n (omega (arith, far)) none stuck in
    let last : run (start d.many) (ops_of d) n ≡ None = stuck_behind (start d.many) (ops_of d) (suc k) n (omega (arith, far)) stuck in
    sym (ap (λ (y : Option ℕ). verdict_by d y (run (start d.many) (ops_of d) n) (first_other d)) all
    ∙ ap (λ (z : Option State). verdict_by d None z (first_other d)) last
    ∙ ap (λ (x : CallsEnd). verdict.Ends x.ending) (refused_end d k o s r m p e f))
