-- Along a load.
use Rattle.std.proofs.Common.{◌≡◌, ◌⊎◌, ℕ, zero, suc, ◌≤◌, true, false, List, [], ◌∷◌, ◌++◌, length, drop, Option, Some, None, refl, sym, ap, subst, ◌∙◌, inl, inr, arith}
use Rattle.std.proofs.lemmas.Bool.{cases_lt}
use Rattle.std.proofs.lemmas.List.{append-nil, append_assoc}
use Rattle.std.proofs.lemmas.Option.{slice_get_within}
use Rattle.pickle_ops.specs.Object.{Object}
use Rattle.pickle_doc.specs.Document.{Contents, ReadsAs}
use Rattle.pickle_doc.specs.Place.{ops_of}
use Rattle.pickle_machine.specs.State.{State, start}
use Rattle.pickle_machine.specs.Run.{run}
use Rattle.pickle_machine.proofs.HeapGrowth.{fresh_heap}
use Rattle.pickle_form.specs.Form.{first_other}
use Rattle.pickle_loader.specs.Environment.{Value, Given, Act, Find, World}
use Rattle.pickle_loader.specs.Dispatch.{Loaded, Going, Ended, Failed, acts_of}
use Rattle.pickle_loader.specs.Values.{Knows}
use Rattle.pickle_loader.specs.Listed.{is_listed, listed_of, listed, protocol_at}
use Rattle.pickle_loader.specs.Laws.{Holds}
use Rattle.pickle_loader.specs.ByFrames.{IsAct}
use Rattle.pickle_allow.specs.declared.list.Entry.{Entry}
use Rattle.pickle_allow.specs.Allow.{Source}
use Rattle.pickle_allow.specs.Source.{text_at, source_at, source_of, with_more}
use Rattle.pickle_gate.specs.Gate.{protocol_of, sources_behind, sources, first_forbidden}
use Rattle.gate_laws.specs.Permitted.{name_text, permits_all}
use Rattle.gate_laws.proofs.Grows.{IsMore}
use Rattle.gate_laws.proofs.Walk.{in_front, behind, act_at, is_among_listed, source_stays, permits_more}
use Rattle.gate_laws.proofs.Agreeing.{Agrees, agrees_more, Reads, knows_reads, Finds, more_agrees, get_drop}
use Rattle.gate_laws.proofs.Protocols.{protocol_is}
use Rattle.gate_laws.proofs.Items.{ItemOf, item_of, no_proto, all_allowed, item_permits, item_finds}

-- ---- a load

-- what is known of a load, whichever unpickler does it: it only adds acts, and none where it failed; what is listed of it is a beginning of what the
-- items list, and the value of each object is where the object says
pub record Loads (w : World) (V : ℕ → Value) (d : Contents) (loads : ℕ → Loaded) : Type 0 where
  pub begins : acts_of (loads 0) ≡ []
  pub grows : (n : ℕ) → IsMore (acts_of (loads n)) (acts_of (loads (suc n)))
  pub over : (n : ℕ) (acts : List Act) → loads n ≡ Failed acts → loads (suc n) ≡ Failed acts
  pub lines : (n : ℕ) → (rest : List Act) × (listed_of (acts_of (loads n)) ++ rest ≡ listed V d.many (ops_of d) n)
  pub values : (n : ℕ) (s : State) → run (start d.many) (ops_of d) n ≡ Some s → Holds w V s (loads n)

-- a document that passes
pub record Passed (list : List Entry) (d : Contents) (bytes : List ℕ) : Type 0 where
  pub reads : ReadsAs false bytes d
  pub in_form : first_other d ≡ None
  pub allowed : first_forbidden list d (length (ops_of d)) ≡ None

-- ---- sources

sources_next : (d : Contents) (n : ℕ) (x : Option State) → run (start d.many) (ops_of d) (suc n) ≡ x → sources d (suc n) ≡ sources_behind (protocol_of d) (sources d n) x
unfolding sources
sources_next d n x e = ap (sources_behind (protocol_of d) (sources d n)) e

more_of : (proto : ℕ) (heap : List Object) (from : List (Option Source)) (objects : List Object) → (more : List (Option Source)) × (with_more proto heap from objects ≡ from ++ more)
more_of proto heap from [] = ([], sym (append-nil from))
more_of proto heap from (o ∷ objects) =
    let x : Option Source = source_of proto heap from o.kind o.parts in
    let rest = more_of proto heap (from ++ x ∷ []) objects in
    (x ∷ rest.0, rest.1 ∙ append_assoc from (x ∷ []) rest.0)

sources_one : (d : Contents) (n : ℕ) (x : Option State) → run (start d.many) (ops_of d) (suc n) ≡ x → (more : List (Option Source)) × (sources d (suc n) ≡ sources d n ++ more)
sources_one d n None e = ([], sources_next d n None e ∙ sym (append-nil (sources d n)))
sources_one d n (Some t) e =
    let more = more_of (protocol_of d) t.heap (sources d n) (drop (length (sources d n)) t.heap) in
    (more.0, sources_next d n (Some t) e ∙ more.1)

-- what objects come of stays
sources_stay : (d : Contents) (n m : ℕ) → m ≤ n → (id : ℕ) (s : Source) → source_at (sources d m) id ≡ Some s → source_at (sources d n) id ≡ Some s
sources_stay d zero m h id s e = let none : m ≡ 0 = omega (arith, h) in ap (λ (k : ℕ). source_at (sources d k) id) (sym none) ∙ e
sources_stay d (suc n) m h id s e = elim (cases_lt m (suc n)) [
  | inl less ↦
      let old : source_at (sources d n) id ≡ Some s = sources_stay d n m (omega (arith, less)) id s e in
      let one = sources_one d n (run (start d.many) (ops_of d) (suc n)) refl in
      ap (λ (l : List (Option Source)). source_at l id) one.1 ∙ source_stays (sources d n) one.0 id s old
  | inr far ↦ let same : m ≡ suc n = omega (arith, h, far) in ap (λ (k : ℕ). source_at (sources d k) id) (sym same) ∙ e
]

agrees_before : (V : ℕ → Value) (d : Contents) (n m : ℕ) (acts : List Act) → m ≤ n → Agrees V (sources d n) acts → Agrees V (sources d m) acts
agrees_before V d n m acts h agrees id s e = agrees id s (sources_stay d n m h id s e)

-- ---- how far it is

-- texts of each state so far are read as their values
abbrev ReadsTo : (ℕ → Value) → Contents → ℕ → Type 0
ReadsTo V d n = (m : ℕ) (s : State) → m ≤ n → run (start d.many) (ops_of d) m ≡ Some s → Reads V s.heap

data At (V : ℕ → Value) (d : Contents) (loads : ℕ → Loaded) (n : ℕ) : Type 0 where
  Over : (acts : List Act) → loads n ≡ Failed acts → At V d loads n
  Live : Agrees V (sources d n) (acts_of (loads n)) → ReadsTo V d n → At V d loads n

record Far (list : List Entry) (V : ℕ → Value) (d : Contents) (loads : ℕ → Loaded) (n : ℕ) : Type 0 where
  permitted : permits_all list [] (acts_of (loads n)) ≡ true
  at : At V d loads n

-- the item of an act that is listed
act_item : (w : World) (V : ℕ → Value) (d : Contents) (loads : ℕ → Loaded) (n : ℕ) (a : Act) → Loads w V d loads → IsAct a (acts_of (loads n)) → is_listed a ≡ true → ItemOf V d n a
act_item w V d loads n a x h is =
    let front = x.lines n in
    item_of V d n a (subst (λ (l : List Act). IsAct a l) front.1 (in_front a (listed_of (acts_of (loads n))) front.0 (is_among_listed a (acts_of (loads n)) h is)))

-- by its protocol
item_protocol : (list : List Entry) (V : ℕ → Value) (d : Contents) (bytes : List ℕ) (n : ℕ) (a : Act) → Passed list d bytes → (i : ItemOf V d n a) → protocol_at (ops_of d) i.place ≡ protocol_of d
item_protocol list V d bytes n a p i = protocol_is d bytes p.reads p.in_form i.place i.code i.there (no_proto V d n a i)

finds : (list : List Entry) (w : World) (V : ℕ → Value) (d : Contents) (bytes : List ℕ) (loads : ℕ → Loaded) (n : ℕ) → Passed list d bytes → Loads w V d loads → Finds (protocol_of d) (acts_of (loads n))
finds list w V d bytes loads n p x k q m c at =
    let i = act_item w V d loads n (Find q m c) x (act_at (acts_of (loads n)) k (Find q m c) at) refl in
    item_finds V d n q m c i ∙ item_protocol list V d bytes n (Find q m c) p i

knows : (w : World) (V : ℕ → Value) (s : State) (l : Loaded) → Holds w V s l → ((acts : List Act) → l ≡ Failed acts → ⊥) → Knows w V (acts_of l) s.heap
knows w V s (Going u) h live = subst (λ (heap : List Object). Knows w V u.acts heap) (fresh_heap s) h.objects
knows w V s (Ended v u) h live = h
knows w V s (Failed acts) h live = absurd (live acts refl)

-- ---- one step

next_permitted : (list : List Entry) (w : World) (V : ℕ → Value) (d : Contents) (bytes : List ℕ) (loads : ℕ → Loaded) (n : ℕ) → Passed list d bytes → (x : Loads w V d loads) → permits_all list [] (acts_of (loads n)) ≡ true
    → Agrees V (sources d n) (acts_of (loads n)) → ReadsTo V d n → permits_all list [] (acts_of (loads (suc n))) ≡ true
next_permitted list w V d bytes loads n p x permitted agrees reads =
    let more = x.grows n in
    subst (λ (l : List Act). permits_all list [] l ≡ true) (sym more.1)
    (permits_more list (acts_of (loads n)) more.0 permitted
    (λ a front is listed.
    let i = act_item w V d loads (suc n) a x (subst (λ (l : List Act). IsAct a l) (sym more.1) (behind a (acts_of (loads n)) more.0 is)) listed in
    item_permits list V d (suc n) a (acts_of (loads n) ++ front) i (item_protocol list V d bytes (suc n) a p i)
    (all_allowed list d (length (ops_of d)) p.allowed i.place (slice_get_within (ops_of d) i.place i.code i.there))
    (agrees_more V (sources d i.place) (acts_of (loads n)) front (agrees_before V d n i.place (acts_of (loads n)) (omega (arith, i.less)) agrees))
    (reads i.place i.before (omega (arith, i.less)) i.runs)))

reads_more : (V : ℕ → Value) (d : Contents) (n : ℕ) → ReadsTo V d n → ((s : State) → run (start d.many) (ops_of d) (suc n) ≡ Some s → Reads V s.heap) → ReadsTo V d (suc n)
reads_more V d n old new m s h e = elim (cases_lt m (suc n)) [
  | inl less ↦ old m s (omega (arith, less)) e
  | inr far ↦ let same : m ≡ suc n = omega (arith, h, far) in new s (ap (run (start d.many) (ops_of d)) (sym same) ∙ e)
]

next_agrees : (list : List Entry) (w : World) (V : ℕ → Value) (d : Contents) (bytes : List ℕ) (loads : ℕ → Loaded) (n : ℕ) (y : Option State) → run (start d.many) (ops_of d) (suc n) ≡ y → Passed list d bytes → (x : Loads w V d loads)
    → ((acts : List Act) → loads (suc n) ≡ Failed acts → ⊥) → permits_all list [] (acts_of (loads (suc n))) ≡ true → Agrees V (sources d n) (acts_of (loads (suc n))) → Agrees V (sources d (suc n)) (acts_of (loads (suc n)))
next_agrees list w V d bytes loads n None e p x live permitted agrees = subst (λ (l : List (Option Source)). Agrees V l (acts_of (loads (suc n)))) (sym (sources_next d n None e)) agrees
next_agrees list w V d bytes loads n (Some t) e p x live permitted agrees =
    subst (λ (l : List (Option Source)). Agrees V l (acts_of (loads (suc n)))) (sym (sources_next d n (Some t) e))
    (more_agrees list w V (acts_of (loads (suc n))) (protocol_of d) t.heap permitted (finds list w V d bytes loads (suc n) p x) (knows w V t (loads (suc n)) (x.values (suc n) t e) live)
    (sources d n) (drop (length (sources d n)) t.heap) agrees (λ j o there. get_drop (length (sources d n)) t.heap j o there))

-- it failed, or did not
is_over : (l : Loaded) → ((acts : List Act) × (l ≡ Failed acts)) ⊎ ((acts : List Act) → l ≡ Failed acts → ⊥)
is_over (Going u) = inr (λ acts e. absurd cc)
is_over (Ended v u) = inr (λ acts e. absurd cc)
is_over (Failed acts) = inl (acts, refl)

next : (list : List Entry) (w : World) (V : ℕ → Value) (d : Contents) (bytes : List ℕ) (loads : ℕ → Loaded) (n : ℕ) → Passed list d bytes → Loads w V d loads → permits_all list [] (acts_of (loads n)) ≡ true → At V d loads n → Far list V d loads (suc n)
next list w V d bytes loads n p x permitted (Over acts e) =
    let after : loads (suc n) ≡ Failed acts = x.over n acts e in
    record {
      permitted = ap (λ (l : Loaded). permits_all list [] (acts_of l)) (after ∙ sym e) ∙ permitted;
      at = Over acts after;
    }
next list w V d bytes loads n p x permitted (Live agrees reads) =
    let all : permits_all list [] (acts_of (loads (suc n))) ≡ true = next_permitted list w V d bytes loads n p x permitted agrees reads in
    let more = x.grows n in
    let old : Agrees V (sources d n) (acts_of (loads (suc n))) = subst (λ (l : List Act). Agrees V (sources d n) l) (sym more.1) (agrees_more V (sources d n) (acts_of (loads n)) more.0 agrees) in
    record {
      permitted = all;
      at = elim (is_over (loads (suc n))) [
        | inl failed ↦ Over failed.0 failed.1
        | inr live ↦
            Live (next_agrees list w V d bytes loads n (run (start d.many) (ops_of d) (suc n)) refl p x live all old)
            (reads_more V d n reads (λ s e. knows_reads w V (acts_of (loads (suc n))) s.heap (knows w V s (loads (suc n)) (x.values (suc n) s e) live)))
      ];
    }

-- ---- from the first on

no_source : (i : ℕ) (s : Source) → source_at [] i ≡ Some s → ⊥
no_source i s e = absurd cc

first_sources : (d : Contents) → sources d 0 ≡ []
unfolding sources
first_sources d = refl

no_texts : (V : ℕ → Value) (d : Contents) → ReadsTo V d 0
unfolding run
no_texts V d m s h e id x f =
    let none : m ≡ 0 = omega (arith, h) in
    let at : Some (start d.many) ≡ Some s = ap (run (start d.many) (ops_of d)) (sym none) ∙ e in
    let same : start d.many ≡ s = cc in
    no_text id x (subst (λ (t : State). text_at t.heap id ≡ Some x) (sym same) f)
  where
    no_text : (id : ℕ) (x : List ℕ) → text_at [] id ≡ Some x → name_text (Given (V id)) ≡ Some x
    no_text id x e = absurd cc

pub all_permitted : (list : List Entry) (w : World) (V : ℕ → Value) (d : Contents) (bytes : List ℕ) (loads : ℕ → Loaded) → Passed list d bytes → Loads w V d loads → (n : ℕ) → permits_all list [] (acts_of (loads n)) ≡ true
all_permitted list w V d bytes loads p x n = (far n).permitted
  where
    far : (n : ℕ) → Far list V d loads n
    far zero = record {
      permitted = ap (permits_all list []) x.begins;
      at = Live (subst (λ (l : List (Option Source)). Agrees V l (acts_of (loads 0))) (sym (first_sources d)) (λ id s e. absurd (no_source id s e))) (no_texts V d);
    }
    far (suc n) = let before = far n in next list w V d bytes loads n p x before.permitted before.at
