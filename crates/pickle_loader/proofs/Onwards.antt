-- Along the items that loaders take, what is listed of the unpickler is a beginning of what their lines list.
use Rattle.std.proofs.Common.{◌≡◌, ◌⊎◌, ℕ, ◌-◌, ◌<◌, Bool, true, false, List, [], ◌∷◌, ◌++◌, length, drop, Option, Some, None, Ok, Err, refl, sym, ap, subst, ◌∙◌, inl, inr, arith}
use Rattle.std.specs.Prelude.{◌&&◌, ◌==◌, slice_get, if◌then◌else◌, Result, ⊤}
use Rattle.std.proofs.lemmas.List.{append-nil}
use Rattle.pickle_ops.specs.declared.fault.FrontFault.{FrontFault}
use Rattle.pickle_ops.specs.declared.opcode.Opcode.{Opcode}
use Rattle.pickle_ops.specs.declared.opcode.Opcode.TheVariants as op
use Rattle.pickle_ops.specs.declared.row.Row.{Row}
use Rattle.pickle_ops.specs.declared.row.Row.TheVariants as row
use Rattle.pickle_ops.specs.Spelling.{Operation}
use Rattle.pickle_ops.specs.Object.{Object}
use Rattle.pickle_doc.specs.DocUnit.{is_stop}
use Rattle.pickle_machine.specs.declared.refusal.Refusal.{Refusal}
use Rattle.pickle_machine.specs.declared.loader.LoaderMove.{LoaderMove}
use Rattle.pickle_machine.specs.State.{State}
use Rattle.pickle_machine.specs.Move.{begun, fresh}
use Rattle.pickle_machine.specs.Loader.{loader_move, cleared}
use Rattle.pickle_machine.proofs.HeapGrowth.{fresh_heap}
use Rattle.pickle_lenient.specs.declared.taken.Taken.{Taken}
use Rattle.pickle_calls.specs.declared.event.Event.{Event}
use Rattle.pickle_text.specs.declared.closing.Closing.{Closing}
use Rattle.pickle_text.specs.declared.closing.Closing.TheVariants as closing
use Rattle.pickle_further.specs.declared.way.Pickles.{Pickles}
use Rattle.pickle_further.specs.declared.way.Pickles.TheVariants as pickles
use Rattle.pickle_further.specs.declared.way.Way.{Way}
use Rattle.pickle_further.specs.Going.{Standing, Going as Gone, refused_at, naming_row, over, used_op, moved_so, event_by, stops, stopped_after, closing_after, keeps, state_after, gone_to, gone_by}
use Rattle.pickle_further.specs.Parts.{are_many}
use Rattle.pickle_loader.specs.Environment.{Value, Act, Unpickler, World}
use Rattle.pickle_loader.specs.Unpickler.{Step, Ran, Stopped, Raised, item}
use Rattle.pickle_loader.specs.Dispatch.{dispatch, Loaded, Going, Ended, Failed, loaded, acts_of, new_unpickler}
use Rattle.pickle_loader.specs.Listed.{listed_of, acts_listed, protocol_after}
use Rattle.pickle_loader.specs.Values.{Knows}
use Rattle.pickle_loader.specs.Laws.{IsSame, IsResult, Holds}
use Rattle.pickle_loader.specs.Whole.{IsWhole}
use Rattle.pickle_loader.specs.Beyond.{StepFollows, MapsNew, RaisesAt, RaisesIn, Moves, Comes}
use Rattle.pickle_loader.specs.Onward.{dispatch_as, load_taken, Onward, again, reads_on, stands_behind, protocol_read, acts_gone}
use Rattle.pickle_loader.proofs.Cuts.{zero_only}
use Rattle.pickle_loader.proofs.Pushes.{top_value}
use Rattle.pickle_loader.proofs.Still.{Still, fresh_running, fresh_many, fresh_results, fresh_same, fresh_begun}
use Rattle.pickle_loader.proofs.Listing.{never_stop, ran_by}
use Rattle.pickle_loader.proofs.Wholes.{whole_fresh, whole_cleared}
use Rattle.pickle_loader.proofs.Items.{IsItem, an_item_beyond}
use Rattle.pickle_loader.proofs.Leads.{event_fresh, moved_on_fresh, only_stop, stop_is, stop_row, moved_still, Led, once_led, acts_after}

-- ---- how far both are

abbrev pub OnWay : World → (ℕ → Value) → Pickles → List Act → ℕ → State → Loaded → Type 0
OnWay w V p acts proto s (Going u) = IsSame w V (fresh s) u × (u.proto ≡ proto) × (listed_of u.acts ≡ acts)
OnWay w V p acts proto s (Ended v u) = IsSame w V (fresh s) (again p u) × ((again p u).proto ≡ proto) × (listed_of (again p u).acts ≡ acts) × (reads_on p (Ended v u) ≡ true)
OnWay w V p acts proto s (Failed done) = (rest : List Act) × (listed_of done ++ rest ≡ acts)

-- where more is read
pub record Ready (p : Pickles) (q : Standing) (x : Onward) : Type 0 where
  pub rest : x.rest ≡ q.rest
  pub left : x.left ≡ q.at.left
  pub whole : IsWhole q.state
  pub many : q.state.many ≡ are_many p
  pub few : are_many p ≡ false → q.state.results ≡ []

-- a beginning of the acts is listed
abbrev pub Begins : List Act → Loaded → Type 0
Begins acts l = (rest : List Act) × (listed_of (acts_of l) ++ rest ≡ acts)

abbrev pub Along : World → (ℕ → Value) → Pickles → List Act → ℕ → Option Standing → Onward → Type 0
Along w V p acts proto None x = Begins acts x.now × ((reads_on p x.now ≡ false) ⊎ (x.rest ≡ []))
Along w V p acts proto (Some q) x = OnWay w V p acts proto q.state x.now × (reads_on p x.now ≡ true → Ready p q x)

-- ---- a turn of an unpickler that holds what the state holds

pub record Turn (p : Pickles) : Type 0 where
  pub V : ℕ → Value
  pub w : World
  pub q : Standing
  pub acts : List Act
  pub proto : ℕ
  pub r : Unpickler
  pub same : IsSame w V (fresh q.state) r
  pub at : r.proto ≡ proto
  pub done : listed_of r.acts ≡ acts
  pub whole : IsWhole q.state
  pub many : q.state.many ≡ are_many p
  pub few : are_many p ≡ false → q.state.results ≡ []

-- the move, and what comes behind the item
abbrev move_of : (p : Pickles) → Turn p → Taken → LoaderMove
move_of p t item = loader_move item.op.opcode item.row (fresh t.q.state)

abbrev after : (p : Pickles) → Turn p → Taken → Step → Onward
after p t item step = record { now = loaded step; rest = drop item.size t.q.rest; left = item.left }

-- where it ends behind this item for this reason, if it does
abbrev gone_with : (p : Pickles) → Turn p → Taken → State → Option Closing → Gone
gone_with p t item a c = record {
  gone = record { event = event_by (move_of p t item) t.q.state a (move_of p t item).fill; row = naming_row item.row; size = item.size; left = item.left; lost = item.lost; closing = c };
  state = state_after p item.op.opcode a;
}

-- what is held behind an item: what the state says; and where the lines end there, other than by STOP, it raised
abbrev pub Raises : Loaded → Type 0
Raises (Going u) = ⊥
Raises (Ended v u) = ⊥
Raises (Failed done) = ⊤

abbrev pub EndsWith : Option Closing → Loaded → Type 0
EndsWith None l = ⊤
EndsWith (Some closing.Stopped) l = ⊤
EndsWith (Some (closing.Refused place r)) l = Raises l
EndsWith (Some (closing.Fault f offset)) l = Raises l

pub record HoldsBehind (w : World) (V : ℕ → Value) (g : Gone) (l : Loaded) : Type 0 where
  pub holds : Holds w V g.state l
  pub ends : EndsWith g.gone.closing l

pub failed_ends : (c : Option Closing) (done : List Act) → EndsWith c (Failed done)
failed_ends None done = tt
failed_ends (Some closing.Stopped) done = tt
failed_ends (Some (closing.Refused place r)) done = tt
failed_ends (Some (closing.Fault f offset)) done = tt

abbrev After : (p : Pickles) → Turn p → Taken → Step → Gone → Type 0
After p t item step g =
    Along t.w t.V p (t.acts ++ acts_gone t.V t.proto t.q g) (protocol_after item.op.opcode item.op.arg t.proto) (stands_behind t.q g) (after p t item step) × HoldsBehind t.w t.V g (loaded step)

-- what is listed is what the line has
acts_same : (p : Pickles) (t : Turn p) (item : Taken) (a : State) → IsItem item.op item.row → moved_so (move_of p t item) (used_op (move_of p t item) item.op) t.q.at.place (fresh t.q.state) ≡ Ok a
    → listed_of t.r.acts ++ acts_listed t.V t.r.proto (fresh t.q.state) a (event_by (move_of p t item) (fresh t.q.state) a (move_of p t item).fill)
    ≡ t.acts ++ acts_listed t.V t.proto (fresh t.q.state) (state_after p item.op.opcode a) (event_by (move_of p t item) t.q.state a (move_of p t item).fill)
acts_same p t item a is moved =
    let m : LoaderMove = move_of p t item in
    ap (λ (l : List Act). l ++ acts_listed t.V t.r.proto (fresh t.q.state) a (event_by m (fresh t.q.state) a m.fill)) t.done
    ∙ ap (λ (n : ℕ). t.acts ++ acts_listed t.V n (fresh t.q.state) a (event_by m (fresh t.q.state) a m.fill)) t.at
    ∙ ap (λ (e : Option Event). t.acts ++ acts_listed t.V t.proto (fresh t.q.state) a e) (sym (event_fresh m (used_op m item.op) t.q.at.place t.q.state a moved))
    ∙ ap (λ (l : List Act). t.acts ++ l) (sym (acts_after t.V t.proto t.q.at.place p item.op item.row t.q.state (fresh t.q.state) a is))

-- it raised
raised_turn : (p : Pickles) (t : Turn p) (item : Taken) (a : State) (done : List Act) (c : Option Closing) → Begins (t.acts ++ acts_gone t.V t.proto t.q (gone_with p t item a None)) (Failed done) → After p t item (Raised done) (gone_with p t item a c)
raised_turn p t item a done None begins = ((begins, λ e. absurd cc), record { holds = tt; ends = tt })
raised_turn p t item a done (Some c) begins = ((begins, inl refl), record { holds = tt; ends = failed_ends (Some c) done })

raises_turn : (p : Pickles) (t : Turn p) (item : Taken) (a : State) (step : Step) (acts : List Act) (c : Closing) → acts ≡ t.acts ++ acts_gone t.V t.proto t.q (gone_with p t item a None) → RaisesIn acts step → After p t item step (gone_with p t item a (Some c))
raises_turn p t item a (Raised done) acts c e raises = (((raises.0, raises.1 ∙ e), inl refl), record { holds = tt; ends = failed_ends (Some c) done })
raises_turn p t item a (Ran q) acts c e raises = absurd raises
raises_turn p t item a (Stopped v q) acts c e raises = absurd raises

-- ---- where nothing ends

still_of : (p : Pickles) (t : Turn p) (item : Taken) (a : State) → IsItem item.op item.row → is_stop item.op.opcode ≡ false → moved_so (move_of p t item) (used_op (move_of p t item) item.op) t.q.at.place (fresh t.q.state) ≡ Ok a
    → Still (fresh t.q.state) a × Led (fresh t.q.state) a
still_of p t item a is running moved = elim (moved_still (move_of p t item) (used_op (move_of p t item) item.op) t.q.at.place (fresh t.q.state) a (fresh_running t.q.state) moved) [
  | inl stop ↦
      let yes : is_stop item.op.opcode ≡ true = ap is_stop (only_stop item.op item.row (fresh t.q.state) is stop) in
      let two : true ≡ false = sym yes ∙ running in
      absurd cc
  | inr x ↦ x
]

keeps_not : (p : Pickles) (o : Opcode) (a : State) → is_stop o ≡ false → state_after p o a ≡ a
keeps_not pickles.OneMemo o a e = ap (λ (b : Bool). if b then cleared a else a) e
keeps_not pickles.First o a e = refl
keeps_not pickles.All o a e = refl

not_stopped : (p : Pickles) (o : Opcode) (more : ℕ) → is_stop o ≡ false → stopped_after p o more ≡ None
not_stopped p o more e = ap (λ (b : Bool). if b && stops p more then Some closing.Stopped else None) e

stop_dispatch : (w : World) (o : Opcode) (arg : List ℕ) (r : Row) (u : Unpickler) → o ≡ op.Stop → dispatch_as w r o arg u ≡ dispatch w o arg u
stop_dispatch w op.Stop arg r u e = refl
stop_dispatch w _ arg r u e = absurd cc

-- STOP does not run on
ran_on : (w : World) (item : Taken) (r u : Unpickler) (b : Bool) → is_stop item.op.opcode ≡ b → load_taken w item r ≡ Ran u → is_stop item.op.opcode ≡ false
ran_on w item r u false is e = is
ran_on w item r u true is e =
    let stop : item.op.opcode ≡ op.Stop = stop_is item.op.opcode is in
    let ran : dispatch_as w item.row item.op.opcode item.op.arg r ≡ Ran u = ran_by (w.fails r item.op) r.acts (dispatch_as w item.row item.op.opcode item.op.arg r) u e in
    absurd (never_stop w item.op.opcode item.op.arg r u stop (sym (stop_dispatch w item.op.opcode item.op.arg item.row r stop) ∙ ran))

ran_turn : (p : Pickles) (t : Turn p) (item : Taken) (a : State) (u : Unpickler) (acts : List Act) → IsItem item.op item.row → load_taken t.w item t.r ≡ Ran u → moved_so (move_of p t item) (used_op (move_of p t item) item.op) t.q.at.place (fresh t.q.state) ≡ Ok a
    → acts ≡ t.acts ++ acts_gone t.V t.proto t.q (gone_with p t item a None) → IsWhole a → StepFollows t.w t.V acts (protocol_after item.op.opcode item.op.arg t.r.proto) a (Ran u)
    → After p t item (Ran u) (gone_with p t item a (stopped_after p item.op.opcode (length (drop item.size t.q.rest))))
ran_turn p t item a u acts is loads moved e whole follows =
    let running : is_stop item.op.opcode ≡ false = ran_on t.w item t.r u (is_stop item.op.opcode) refl loads in
    let both = still_of p t item a is running moved in
    let stays : state_after p item.op.opcode a ≡ a = keeps_not p item.op.opcode a running in
    let on : fresh a ≡ a = fresh_same a (both.0.stopped ∙ fresh_running t.q.state) in
    let many : a.many ≡ are_many p = both.0.many ∙ fresh_many t.q.state ∙ t.many in
    let same : IsSame t.w t.V (fresh (state_after p item.op.opcode a)) u = subst (λ (f : State). IsSame t.w t.V f u) (sym (ap fresh stays ∙ on)) follows.0 in
    subst (λ (c : Option Closing). After p t item (Ran u) (gone_with p t item a c)) (sym (not_stopped p item.op.opcode (length (drop item.size t.q.rest)) running)) (
      (
        (same, follows.2 ∙ ap (protocol_after item.op.opcode item.op.arg) t.at, follows.1 ∙ e),
        λ reads. record {
          rest = refl;
          left = refl;
          whole = subst (λ (x : State). IsWhole x) (sym stays) whole;
          many = ap (λ (x : State). x.many) stays ∙ many;
          few = λ one. ap (λ (x : State). x.results) stays ∙ both.0.results ∙ fresh_results t.q.state ∙ t.few one;
        },
      ),
      record { holds = same; ends = tt },
    )

-- ---- where STOP ends a pickle

no_result : (V : ℕ → Value) (a : State) (v : Value) → a.results ≡ [] → IsResult V a v → ⊥
no_result V a v e (r, last, is) =
    let none : None ≡ Some r = ap (λ (l : List ℕ). slice_get l (length l - 1)) (sym e) ∙ last in
    absurd cc

-- only STOP ends
must_stop : (p : Pickles) (t : Turn p) (item : Taken) (a : State) (v : Value) (b m : Bool) → is_stop item.op.opcode ≡ b → are_many p ≡ m → IsItem item.op item.row → moved_so (move_of p t item) (used_op (move_of p t item) item.op) t.q.at.place (fresh t.q.state) ≡ Ok a
    → a.stopped ≡ a.many → IsResult t.V a v → is_stop item.op.opcode ≡ true
must_stop p t item a v true m is mode of moved ends result = is
must_stop p t item a v false true is mode of moved ends result =
    let both = still_of p t item a of is moved in
    let on : a.stopped ≡ false = both.0.stopped ∙ fresh_running t.q.state in
    let many : a.many ≡ true = both.0.many ∙ fresh_many t.q.state ∙ t.many ∙ mode in
    let two : true ≡ false = sym many ∙ sym ends ∙ on in
    absurd cc
must_stop p t item a v false false is mode of moved ends result =
    let both = still_of p t item a of is moved in
    absurd (no_result t.V a v (both.0.results ∙ fresh_results t.q.state ∙ t.few mode) result)

pub once : (o : Operation) (r : Row) (s : State) → IsItem o r → o.opcode ≡ op.Stop → (loader_move o.opcode r s).again ≡ false
once o r s is e = go o.opcode e r (stop_row o r is e)
  where
    go : (x : Opcode) → x ≡ op.Stop → (y : Row) → y ≡ row.Stop → (loader_move x y s).again ≡ false
    go op.Stop e row.Stop f = refl
    go op.Stop e _ f = absurd cc
    go _ e y f = absurd cc

pub zero_length : (xs : List ℕ) → (length xs == 0) ≡ true → xs ≡ []
zero_length [] e = refl
zero_length (x ∷ xs) e = let none : length (x ∷ xs) ≡ 0 = zero_only (length (x ∷ xs)) e in absurd (omega (arith, none))

-- why it ends behind STOP
stop_closing : (p : Pickles) (o : Opcode) (more : ℕ) (b : Bool) → is_stop o ≡ true → stops p more ≡ b → stopped_after p o more ≡ (if b then Some closing.Stopped else None)
stop_closing p o more b e f = ap (λ (c : Bool). if c && stops p more then Some closing.Stopped else None) e ∙ ap (λ (c : Bool). if c then Some closing.Stopped else None) f

stop_protocol : (o : Opcode) (arg : List ℕ) (n : ℕ) → o ≡ op.Stop → 0 ≡ protocol_after o arg n
stop_protocol op.Stop arg n e = refl
stop_protocol _ arg n e = absurd cc

record Stop (p : Pickles) (t : Turn p) (item : Taken) (a : State) (v : Value) (u : Unpickler) (acts : List Act) : Type 0 where
  adds : acts ≡ t.acts ++ acts_gone t.V t.proto t.q (gone_with p t item a None)
  done : listed_of u.acts ≡ acts
  stop : is_stop item.op.opcode ≡ true
  whole : IsWhole a
  many : a.many ≡ are_many p
  ends : a.stopped ≡ a.many
  same : IsSame t.w t.V a u

pub state_heap : (p : Pickles) (o : Opcode) (a : State) → (state_after p o a).heap ≡ a.heap
state_heap p o a = go (keeps p o)
  where
    go : (b : Bool) → (if b then cleared a else a).heap ≡ a.heap
    go true = refl
    go false = refl

-- the objects stay
stop_knows : (p : Pickles) (t : Turn p) (item : Taken) (a : State) (v : Value) (u : Unpickler) (acts : List Act) → Stop p t item a v u acts → Knows t.w t.V u.acts (state_after p item.op.opcode a).heap
stop_knows p t item a v u acts x = subst (λ (h : List Object). Knows t.w t.V u.acts h) (sym (state_heap p item.op.opcode a)) x.same.objects

stop_over : (p : Pickles) (t : Turn p) (item : Taken) (a : State) (v : Value) (u : Unpickler) (acts : List Act) → Stop p t item a v u acts → (reads_on p (Ended v u) ≡ false) ⊎ (drop item.size t.q.rest ≡ [])
    → After p t item (Stopped v u) (gone_with p t item a (Some closing.Stopped))
stop_over p t item a v u acts x over = ((([], append-nil (listed_of u.acts) ∙ x.done ∙ x.adds), over), record { holds = stop_knows p t item a v u acts x; ends = tt })

-- a loop of loads, and one unpickler that loads again
next_all : (t : Turn pickles.All) (item : Taken) (a : State) (v : Value) (u : Unpickler) (acts : List Act) → Stop pickles.All t item a v u acts → After pickles.All t item (Stopped v u) (gone_with pickles.All t item a None)
next_all t item a v u acts x =
    let begins : fresh a ≡ begun a = fresh_begun a (x.ends ∙ x.many) in (
      (
        (
          subst (λ (f : State). IsSame t.w t.V f (new_unpickler u.acts)) (sym begins) (record { stack = refl; metastack = refl; memo = refl; buffers = refl; objects = x.same.objects }),
          stop_protocol item.op.opcode item.op.arg t.proto (stop_is item.op.opcode x.stop),
          x.done ∙ x.adds,
          refl,
        ),
        λ reads. record { rest = refl; left = refl; whole = x.whole; many = x.many; few = λ one. absurd cc },
      ),
      record { holds = stop_knows pickles.All t item a v u acts x; ends = tt },
    )

cleared_state : (o : Opcode) (a : State) → is_stop o ≡ true → state_after pickles.OneMemo o a ≡ cleared a
cleared_state o a e = ap (λ (b : Bool). if b then cleared a else a) e

next_memo : (t : Turn pickles.OneMemo) (item : Taken) (a : State) (v : Value) (u : Unpickler) (acts : List Act) → Stop pickles.OneMemo t item a v u acts → After pickles.OneMemo t item (Stopped v u) (gone_with pickles.OneMemo t item a None)
next_memo t item a v u acts x =
    let is : state_after pickles.OneMemo item.op.opcode a ≡ cleared a = cleared_state item.op.opcode a x.stop in (
      (
        (
          subst (λ (f : State). IsSame t.w t.V (fresh f) (again pickles.OneMemo u)) (sym is) (record { stack = refl; metastack = refl; memo = x.same.memo; buffers = x.same.buffers; objects = x.same.objects }),
          stop_protocol item.op.opcode item.op.arg t.proto (stop_is item.op.opcode x.stop),
          x.done ∙ x.adds,
          refl,
        ),
        λ reads. record {
          rest = refl;
          left = refl;
          whole = subst (λ (f : State). IsWhole f) (sym is) (whole_cleared a x.whole);
          many = ap (λ (f : State). f.many) is ∙ x.many;
          few = λ one. ap (λ (f : State). f.results) is;
        },
      ),
      record { holds = stop_knows pickles.OneMemo t item a v u acts x; ends = tt },
    )

stop_turn : (p : Pickles) (t : Turn p) (item : Taken) (a : State) (v : Value) (u : Unpickler) (acts : List Act) (b : Bool) → stops p (length (drop item.size t.q.rest)) ≡ b → Stop p t item a v u acts
    → After p t item (Stopped v u) (gone_with p t item a (if b then Some closing.Stopped else None))
stop_turn pickles.First t item a v u acts true e x = stop_over pickles.First t item a v u acts x (inl refl)
stop_turn pickles.First t item a v u acts false e x = absurd cc
stop_turn pickles.All t item a v u acts true e x = stop_over pickles.All t item a v u acts x (inr (zero_length (drop item.size t.q.rest) e))
stop_turn pickles.All t item a v u acts false e x = next_all t item a v u acts x
stop_turn pickles.OneMemo t item a v u acts true e x = stop_over pickles.OneMemo t item a v u acts x (inr (zero_length (drop item.size t.q.rest) e))
stop_turn pickles.OneMemo t item a v u acts false e x = next_memo t item a v u acts x

stopped_turn : (p : Pickles) (t : Turn p) (item : Taken) (a : State) (v : Value) (u : Unpickler) (acts : List Act) → IsItem item.op item.row → moved_so (move_of p t item) (used_op (move_of p t item) item.op) t.q.at.place (fresh t.q.state) ≡ Ok a
    → acts ≡ t.acts ++ acts_gone t.V t.proto t.q (gone_with p t item a None) → IsWhole a → StepFollows t.w t.V acts (protocol_after item.op.opcode item.op.arg t.r.proto) a (Stopped v u)
    → After p t item (Stopped v u) (gone_with p t item a (stopped_after p item.op.opcode (length (drop item.size t.q.rest))))
stopped_turn p t item a v u acts is moved e whole follows =
    let stop : is_stop item.op.opcode ≡ true = must_stop p t item a v (is_stop item.op.opcode) (are_many p) refl refl is moved follows.3 follows.2 in
    let led = once_led (move_of p t item) (used_op (move_of p t item) item.op) t.q.at.place (fresh t.q.state) a (once item.op item.row (fresh t.q.state) is (stop_is item.op.opcode stop)) (fresh_running t.q.state) moved in
    let many : a.many ≡ are_many p = led.many ∙ fresh_many t.q.state ∙ t.many in
    let b : Bool = stops p (length (drop item.size t.q.rest)) in
    subst (λ (c : Option Closing). After p t item (Stopped v u) (gone_with p t item a c)) (sym (stop_closing p item.op.opcode (length (drop item.size t.q.rest)) b stop refl))
    (stop_turn p t item a v u acts b refl (record { adds = e; done = follows.1; stop = stop; whole = whole; many = many; ends = follows.3; same = follows.0 }))

-- ---- a turn

-- the map has the value on top for an object that is made
abbrev Maps : (p : Pickles) → Turn p → Step → State → Type 0
Maps p t step a = (u : Unpickler) → step ≡ Ran u → length t.q.state.heap < length a.heap → t.V (length t.q.state.heap) ≡ top_value u.stack

maps_new : (p : Pickles) (t : Turn p) (step x : Step) (a : State) → step ≡ x → Maps p t step a → MapsNew t.V (fresh t.q.state) a x
maps_new p t step (Ran u) a is maps =
    let size : length (fresh t.q.state).heap ≡ length t.q.state.heap = ap length (fresh_heap t.q.state) in
    λ more. ap t.V size ∙ maps u is (omega (arith, size, more))
maps_new p t step (Stopped v u) a is maps = tt
maps_new p t step (Raised done) a is maps = tt

going_turn : (p : Pickles) (t : Turn p) (item : Taken) (a : State) (step : Step) (acts : List Act) → load_taken t.w item t.r ≡ step → IsItem item.op item.row
    → moved_so (move_of p t item) (used_op (move_of p t item) item.op) t.q.at.place (fresh t.q.state) ≡ Ok a
    → acts ≡ t.acts ++ acts_gone t.V t.proto t.q (gone_with p t item a None) → IsWhole a → StepFollows t.w t.V acts (protocol_after item.op.opcode item.op.arg t.r.proto) a step
    → After p t item step (gone_with p t item a (stopped_after p item.op.opcode (length (drop item.size t.q.rest))))
going_turn p t item a (Ran u) acts loads is moved e whole follows = ran_turn p t item a u acts is loads moved e whole follows
going_turn p t item a (Stopped v u) acts loads is moved e whole follows = stopped_turn p t item a v u acts is moved e whole follows
going_turn p t item a (Raised done) acts loads is moved e whole follows = raised_turn p t item a done (stopped_after p item.op.opcode (length (drop item.size t.q.rest))) (follows.0, follows.1 ∙ e)

last_turn : (p : Pickles) (t : Turn p) (item : Taken) (a : State) (step : Step) (acts : List Act) (x : Option Refusal) → load_taken t.w item t.r ≡ step → IsItem item.op item.row
    → moved_so (move_of p t item) (used_op (move_of p t item) item.op) t.q.at.place (fresh t.q.state) ≡ Ok a
    → acts ≡ t.acts ++ acts_gone t.V t.proto t.q (gone_with p t item a None) → IsWhole a → MapsNew t.V (fresh t.q.state) a step
    → Moves t.w t.V acts (protocol_after item.op.opcode item.op.arg t.r.proto) (fresh t.q.state) a step x
    → After p t item step (gone_with p t item a (closing_after p item.op.opcode t.q.at.place (length (drop item.size t.q.rest)) x))
last_turn p t item a step acts None loads is moved e whole maps moves = going_turn p t item a step acts loads is moved e whole (moves maps)
last_turn p t item a step acts (Some r) loads is moved e whole maps moves = raises_turn p t item a step acts (closing.Refused t.q.at.place r) e moves

refused_turn : (p : Pickles) (t : Turn p) (item : Taken) (step : Step) (c : Closing) → RaisesAt (listed_of t.r.acts) step → After p t item step (over t.q.state c)
refused_turn p t item (Raised done) c e = ((([], ap (λ (l : List Act). l ++ []) (e ∙ t.done)), inl refl), record { holds = tt; ends = failed_ends (Some c) done })
refused_turn p t item (Ran u) c e = absurd e
refused_turn p t item (Stopped v u) c e = absurd e

item_turn : (way : Way) (t : Turn way.pickles) (item : Taken) (z : Result State Refusal) → IsItem item.op item.row
    → moved_so (move_of way.pickles t item) (used_op (move_of way.pickles t item) item.op) t.q.at.place (fresh t.q.state) ≡ z
    → Comes t.w t.V (fresh t.q.state) t.r (move_of way.pickles t item) (protocol_after item.op.opcode item.op.arg t.r.proto) (load_taken t.w item t.r) z
    → ((a : State) → z ≡ Ok a → Maps way.pickles t (load_taken t.w item t.r) a)
    → After way.pickles t item (load_taken t.w item t.r) (gone_to way t.q item (move_of way.pickles t item) z)
item_turn way t item (Ok a) is moved comes maps =
    last_turn way.pickles t item a (load_taken t.w item t.r) _ (move_of way.pickles t item).last refl is moved (acts_same way.pickles t item a is moved) comes.0
    (maps_new way.pickles t (load_taken t.w item t.r) (load_taken t.w item t.r) a refl (maps a refl)) comes.1
item_turn way t item (Err r) is moved comes maps = refused_turn way.pickles t item (load_taken t.w item t.r) (refused_at item.row t.q.at r) comes

-- what a reading comes to
abbrev pub read_on : (p : Pickles) → Turn p → Onward → Result Taken FrontFault → Onward
read_on p t x (Ok item) = record { now = loaded (load_taken t.w item t.r); rest = drop item.size t.q.rest; left = item.left }
read_on p t x (Err f) = record x { now = Failed t.r.acts }

abbrev RightNew : (p : Pickles) → Turn p → Onward → Gone → Type 0
RightNew p t x g = (u : Unpickler) → x.now ≡ Going u → length t.q.state.heap < length g.state.heap → t.V (length t.q.state.heap) ≡ top_value u.stack

right_maps : (way : Way) (t : Turn way.pickles) (item : Taken) (x : Onward) (z : Result State Refusal) (a : State) → z ≡ Ok a → RightNew way.pickles t (after way.pickles t item (load_taken t.w item t.r)) (gone_to way t.q item (move_of way.pickles t item) z)
    → Maps way.pickles t (load_taken t.w item t.r) a
right_maps way t item x (Ok b) a e right =
    let same : b ≡ a = cc in
    let size : length (state_after way.pickles item.op.opcode b).heap ≡ length a.heap = ap length (state_heap way.pickles item.op.opcode b) ∙ ap (λ (s : State). length s.heap) same in
    λ u is more. right u (ap loaded is) (omega (arith, size, more))
right_maps way t item x (Err r) a e right = λ u is more. absurd cc

pub read_turn : (way : Way) (t : Turn way.pickles) (x : Onward) (y : Result Taken FrontFault) → ((item : Taken) → y ≡ Ok item → IsItem item.op item.row)
    → RightNew way.pickles t (read_on way.pickles t x y) (gone_by way t.q y)
    → Along t.w t.V way.pickles (t.acts ++ acts_gone t.V t.proto t.q (gone_by way t.q y)) (protocol_read y t.proto) (stands_behind t.q (gone_by way t.q y)) (read_on way.pickles t x y)
    × HoldsBehind t.w t.V (gone_by way t.q y) (read_on way.pickles t x y).now
read_turn way t x (Ok item) items right =
    let m : LoaderMove = move_of way.pickles t item in
    let z : Result State Refusal = moved_so m (used_op m item.op) t.q.at.place t.q.state in
    let same : moved_so m (used_op m item.op) t.q.at.place (fresh t.q.state) ≡ z = sym (moved_on_fresh m (used_op m item.op) t.q.at.place t.q.state) in
    let is : IsItem item.op item.row = items item refl in
    item_turn way t item z is same
    (subst (λ (y : Result State Refusal). Comes t.w t.V (fresh t.q.state) t.r m (protocol_after item.op.opcode item.op.arg t.r.proto) (load_taken t.w item t.r) y) same
    (an_item_beyond t.w t.V (fresh t.q.state) t.r t.q.at.place item (whole_fresh t.q.state t.whole) (fresh_running t.q.state) t.same is))
    (λ a e. right_maps way t item x z a e right)
read_turn way t x (Err f) items right = ((([], ap (λ (l : List Act). l ++ []) t.done), inl refl), record { holds = tt; ends = tt })
