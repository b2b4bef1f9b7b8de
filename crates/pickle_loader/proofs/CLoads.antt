-- A whole load by the unpickler in C is one by the unpickler in Python.
use Rattle.std.proofs.Common.{◌≡◌, ℕ, zero, suc, ◌^◌, ◌<◌, Bool, true, false, List, ◌++◌, length, drop, Option, Some, None, Ok, Err, refl, sym, ap, subst, ◌∙◌}
use Rattle.std.specs.Prelude.{◌||◌, if◌then◌else◌, Result, ⊤}
use Rattle.pickle_ops.specs.declared.opcode.Opcode.{Opcode}
use Rattle.pickle_ops.specs.declared.opcode.Opcode.TheVariants as op
use Rattle.pickle_ops.specs.declared.row.Row.{Row}
use Rattle.pickle_ops.specs.declared.row.Row.TheVariants as row
use Rattle.pickle_ops.specs.declared.fault.FrontFault.{FrontFault}
use Rattle.pickle_ops.specs.Table.{form_of}
use Rattle.pickle_ops.specs.Shape.{value_fault}
use Rattle.pickle_ops.specs.Spelling.{Operation}
use Rattle.pickle_doc.specs.Document.{document_bytes}
use Rattle.pickle_doc.specs.Place.{ops_of}
use Rattle.pickle_lenient.specs.declared.taken.Frames.{Frames}
use Rattle.pickle_lenient.specs.declared.taken.Taken.{Taken}
use Rattle.pickle_lenient.specs.Stream.{taken}
use Rattle.pickle_calls.specs.declared.naming.Detail.TheVariants as detail
use Rattle.pickle_further.specs.declared.way.Pickles.{Pickles}
use Rattle.pickle_further.specs.declared.way.Pickles.TheVariants as pickles
use Rattle.pickle_further.specs.declared.way.Way.{Way}
use Rattle.pickle_further.specs.Going.{Standing}
use Rattle.pickle_further.specs.Parts.{ignoring, buffering, standing_first}
use Rattle.pickle_machine.specs.State.{State, start}
use Rattle.pickle_machine.specs.Run.{run}
use Rattle.pickle_loader.specs.Environment.{Value, Act, World}
use Rattle.pickle_loader.specs.Unpickler.{Step, Raised}
use Rattle.pickle_loader.specs.Dispatch.{Loaded, loaded, acts_of}
use Rattle.pickle_loader.specs.Listed.{listed_of, listed}
use Rattle.pickle_loader.specs.Laws.{Holds, AreListed}
use Rattle.pickle_loader.specs.Beyond.{HasValue}
use Rattle.pickle_loader.specs.Onward as onward
use Rattle.pickle_loader.specs.Onward.{Onward, reads_on, load_more, load_read, load_on, load_way, state_behind, acts_before}
use Rattle.pickle_loader.specs.CUnpickler.{CUnpickler, CStep, CRan, CStopped, CRaised, seen}
use Rattle.pickle_loader.specs.CLoad.{load_keyed, dispatch_as, c_load_taken, CLoaded, CGoing, CEnded, CFailed, c_loaded, seen_loaded, COnward, c_again, c_load_more, c_load_read, c_load_on, c_load_way, asked, raises, as_in_c, seen_onward, OneLoad, NothingBeyondInC, NothingElseInC, NothingElseInAStream}
use Rattle.pickle_loader.proofs.CSteps.{Fenced, Same, same_is, dispatched, gets_key, puts_key}
use Rattle.pickle_loader.proofs.Items.{IsItem, Itself, Gets, Puts, are_items}
use Rattle.pickle_loader.proofs.Environments.{holds_same}
use Rattle.pickle_loader.proofs.Ways.{nothing_beyond}
use Rattle.pickle_loader.proofs.Bytes.{joined}
use Rattle.pickle_loader.proofs.Ends.{through, read_is_listed}
use Rattle.pickle_loader.proofs.Streamed.{streamed}
use Rattle.pickle_loader.proofs.Reached.{reached_behind, streamed_behind}

-- ---- an item

keyed : (w : World) (r : Row) (u : CUnpickler) → Fenced u → Same (load_keyed w r u) (onward.load_keyed (as_in_c w) r (seen u))
keyed w (row.Get key) u f = gets_key key u f
keyed w (row.Put key) u f = puts_key w key u f
keyed w _ u f = (f, refl)

as_row : (w : World) (r : Row) (o : Opcode) (arg : List ℕ) (u : CUnpickler) → value_fault (form_of o) arg ≡ None → Fenced u → Same (dispatch_as w r o arg u) (if raises (asked w o arg (seen u)) then Raised u.acts else onward.dispatch_as (as_in_c w) r o arg (seen u))
as_row w r op.Frame arg u v f = keyed w r u f
as_row w r o arg u v f = dispatched w o arg u v f

-- it may raise before it does anything
first : (a b : Bool) (u : CUnpickler) (x : CStep) (y : Step) → Same x (if b then Raised u.acts else y) → Same (if a then CRaised u.acts else x) (if a || b then Raised u.acts else y)
first true b u x y same = refl
first false b u x y same = same

item_same : (w : World) (item : Taken) (u : CUnpickler) → HasValue item.op → Fenced u → Same (c_load_taken w item u) (onward.load_taken (as_in_c w) item (seen u))
item_same w item u v f =
    first (w.fails (seen u) item.op) (raises (asked w item.op.opcode item.op.arg (seen u))) u (dispatch_as w item.row item.op.opcode item.op.arg u) (onward.dispatch_as (as_in_c w) item.row item.op.opcode item.op.arg (seen u))
    (as_row w item.row item.op.opcode item.op.arg u v f)

-- an item passes the checks of its value
item_value : (o : Operation) (r : Row) → IsItem o r → HasValue o
item_value o r (Itself is value) = value
item_value o r (Gets key is to) = subst (λ (x : Operation). HasValue x) (sym is) refl
item_value o r (Puts key is to) = subst (λ (x : Operation). HasValue x) (sym is) refl

pub values_taken : (f : Frames) (left : ℕ) (bytes : List ℕ) (item : Taken) → taken f left bytes ≡ Ok item → HasValue item.op
values_taken f left bytes item e = item_value item.op item.row (are_items f left bytes item e)

-- ---- along a file

abbrev pub Held : CLoaded → Type 0
Held (CGoing u) = Fenced u
Held (CEnded v u) = Fenced u
Held (CFailed acts) = ⊤

record SameLoaded (l : CLoaded) (x : Loaded) : Type 0 where
  held : Held l
  is : seen_loaded l ≡ x

step_loaded : (x : CStep) (y : Step) → Same x y → SameLoaded (c_loaded x) (loaded y)
step_loaded (CRan u) y (f, e) = record { held = f; is = ap loaded e }
step_loaded (CStopped v u) y (f, e) = record { held = f; is = ap loaded e }
step_loaded (CRaised acts) y e = record { held = tt; is = ap loaded e }

again_seen : (p : Pickles) (u : CUnpickler) → seen (c_again p u) ≡ onward.again p (seen u)
again_seen pickles.First u = refl
again_seen pickles.All u = refl
again_seen pickles.OneMemo u = refl

again_fenced : (p : Pickles) (u : CUnpickler) → Fenced (c_again p u)
again_fenced pickles.First u = tt
again_fenced pickles.All u = tt
again_fenced pickles.OneMemo u = tt

more_same : (w : World) (p : Pickles) (item : Taken) (l : CLoaded) → HasValue item.op → Held l → SameLoaded (c_load_more w p item l) (load_more (as_in_c w) p item (seen_loaded l))
more_same w p item (CGoing u) v f = step_loaded (c_load_taken w item u) (onward.load_taken (as_in_c w) item (seen u)) (item_same w item u v f)
more_same w p item (CEnded x u) v f =
    step_loaded (c_load_taken w item (c_again p u)) (onward.load_taken (as_in_c w) item (onward.again p (seen u)))
    (same_is (c_load_taken w item (c_again p u)) (onward.load_taken (as_in_c w) item (seen (c_again p u))) (onward.load_taken (as_in_c w) item (onward.again p (seen u)))
    (ap (onward.load_taken (as_in_c w) item) (again_seen p u)) (item_same w item (c_again p u) v (again_fenced p u)))
more_same w p item (CFailed acts) v f = record { held = tt; is = refl }

pub record SameOnward (x : COnward) (y : Onward) : Type 0 where
  pub held : Held x.now
  pub is : seen_onward x ≡ y

pub read_same : (w : World) (p : Pickles) (x : COnward) (r : Result Taken FrontFault) → ((item : Taken) → r ≡ Ok item → HasValue item.op) → Held x.now → SameOnward (c_load_read w p x r) (load_read (as_in_c w) p (seen_onward x) r)
read_same w p x (Ok item) values f =
    let more = more_same w p item x.now (values item refl) f in
    record { held = more.held; is = ap (λ (l : Loaded). record { now = l; rest = drop item.size x.rest; left = item.left }) more.is }
read_same w p x (Err e) values f = record { held = tt; is = refl }

on_by : (w : World) (way : Way) (x : COnward) (b : Bool) → Held x.now
    → SameOnward (if b then c_load_read w way.pickles x (taken way.frames x.left x.rest) else x) (if b then load_read (as_in_c w) way.pickles (seen_onward x) (taken way.frames x.left x.rest) else seen_onward x)
on_by w way x true f = read_same w way.pickles x (taken way.frames x.left x.rest) (values_taken way.frames x.left x.rest) f
on_by w way x false f = record { held = f; is = refl }

on_same : (w : World) (way : Way) (x : COnward) (y : Onward) → SameOnward x y → SameOnward (c_load_on w way x) (load_on (as_in_c w) way y)
on_same w way x y same = subst (λ (z : Onward). SameOnward (c_load_on w way x) (load_on (as_in_c w) way z)) same.is (on_by w way x (reads_on way.pickles (seen_loaded x.now)) same.held)

ways_same : (w : World) (way : Way) (bytes : List ℕ) (n : ℕ) → SameOnward (c_load_way w way bytes n) (load_way (as_in_c w) way bytes n)
unfolding c_load_way load_way
ways_same w way bytes zero = record { held = tt; is = refl }
ways_same w way bytes (suc n) = on_same w way (c_load_way w way bytes n) (load_way (as_in_c w) way bytes n) (ways_same w way bytes n)

pub one_load : OneLoad
one_load w way bytes n = (ways_same w way bytes n).is

-- ---- what is listed

-- what is listed of the one in Python is listed of the one in C
pub listed_in_c : (w : World) (way : Way) (bytes : List ℕ) (V : ℕ → Value) (lines : ℕ → List Act) (state : ℕ → Option State) → AreListed (as_in_c w) V lines state (λ n. (load_way (as_in_c w) way bytes n).now)
    → AreListed w V lines state (λ n. seen_loaded (c_load_way w way bytes n).now)
listed_in_c w way bytes V lines state listed = record {
  acts = λ n. subst (λ (x : Onward). (rest : List Act) × (listed_of (acts_of x.now) ++ rest ≡ lines n)) (sym (one_load w way bytes n)) (listed.acts n);
  values = λ n s e. holds_same (as_in_c w) w V s (seen_loaded (c_load_way w way bytes n).now) refl (subst (λ (x : Onward). Holds (as_in_c w) V s x.now) (sym (one_load w way bytes n)) (listed.values n s e));
}

-- by other lines, of which the first are a beginning, and states that are among those
listed_by : (w : World) (V : ℕ → Value) (lines all : ℕ → List Act) (from to : ℕ → Option State) (loads : ℕ → Loaded) → AreListed w V lines from loads → ((n : ℕ) → (rest : List Act) × (lines n ++ rest ≡ all n)) → ((n : ℕ) (s : State) → to n ≡ Some s → from n ≡ Some s)
    → AreListed w V all to loads
listed_by w V lines all from to loads listed more same = record {
  acts = λ n.
      let front = listed.acts n in
      let behind = more n in
      (front.0 ++ behind.0, joined (listed_of (acts_of (loads n))) front.0 behind.0 (lines n) (all n) front.1 (sym behind.1));
  values = λ n s e. listed.values n s (same n s e);
}

pub nothing_beyond_in_c : NothingBeyondInC
nothing_beyond_in_c w way bytes =
    let all = nothing_beyond (as_in_c w) way bytes in
    (all.0, listed_in_c w way bytes all.0 (acts_before all.0 way (standing_first detail.Cut way.pickles bytes)) (state_behind way (standing_first detail.Cut way.pickles bytes)) all.1)

pub nothing_else_in_c : NothingElseInC
nothing_else_in_c how w p bytes d anew reads small status =
    let all = nothing_beyond_in_c w (ignoring p) bytes in
    let V : ℕ → Value = all.0 in
    let first : Standing = standing_first detail.Cut p bytes in
    let less : length (document_bytes d) < 2 ^ 64 = subst (λ (l : List ℕ). length l < 2 ^ 64) (sym reads.whole) small in (
      V,
      listed_by w V (acts_before V (ignoring p) first) (λ n. listed V d.many (ops_of d) (length (ops_of d))) (state_behind (ignoring p) first) (run (start d.many) (ops_of d)) (λ n. seen_loaded (c_load_way w (ignoring p) bytes n).now) all.1
          (λ n. subst (λ (l : List ℕ). (rest : List Act) × (acts_before V (ignoring p) (standing_first detail.Cut p l) n ++ rest ≡ listed V d.many (ops_of d) (length (ops_of d)))) reads.whole
          (read_is_listed V p d reads.document.formed less anew reads.mode (through how d status) n))
          (λ n s e. subst (λ (l : List ℕ). state_behind (ignoring p) (standing_first detail.Cut p l) n ≡ Some s) reads.whole (reached_behind detail.Cut p d reads.document.formed less anew reads.mode n s e)),
    )

-- the same of a stream
pub nothing_else_in_a_stream : NothingElseInAStream
nothing_else_in_a_stream how w p bytes d anew reads small status =
    let all = nothing_beyond_in_c w (buffering p) bytes in
    let V : ℕ → Value = all.0 in
    let first : Standing = standing_first detail.Cut p bytes in
    let less : length (document_bytes d) < 2 ^ 64 = subst (λ (l : List ℕ). length l < 2 ^ 64) (sym reads.whole) small in
    let t = through how d status in (
      V,
      listed_by w V (acts_before V (buffering p) first) (λ n. listed V d.many (ops_of d) (length (ops_of d))) (state_behind (buffering p) first) (run (start d.many) (ops_of d)) (λ n. seen_loaded (c_load_way w (buffering p) bytes n).now) all.1
          (λ n. subst (λ (l : List ℕ). (rest : List Act) × (acts_before V (buffering p) (standing_first detail.Cut p l) n ++ rest ≡ listed V d.many (ops_of d) (length (ops_of d)))) reads.whole
          (subst (λ (l : List Act). (rest : List Act) × (l ++ rest ≡ listed V d.many (ops_of d) (length (ops_of d)))) (sym (streamed detail.Cut V p d reads.document.formed less anew (reads.mode, reads.framing) t n))
          (read_is_listed V p d reads.document.formed less anew reads.mode t n)))
          (λ n s e. subst (λ (l : List ℕ). state_behind (buffering p) (standing_first detail.Cut p l) n ≡ Some s) reads.whole
          (streamed_behind detail.Cut V p d reads.document.formed less anew (reads.mode, reads.framing) t n ∙ reached_behind detail.Cut p d reads.document.formed less anew reads.mode n s e)),
    )
