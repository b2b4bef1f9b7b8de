-- The law of the unpickler in C, which reads as loaders read.
-- `Far` says of how many items that is which is listed so far; it stands in `pickle_loader/proofs/Ends.antt` too, which keeps it to itself, without `upto`.
use Rattle.std.proofs.Common.{◌≡◌, ◌⊎◌, ℕ, zero, suc, ◌^◌, ◌<◌, ◌≤◌, Bool, true, false, List, [], ◌++◌, length, Option, Some, None, Ok, Err, refl, sym, ap, subst, ◌∙◌, inl, inr, arith}
use Rattle.std.specs.Prelude.{Result, if◌then◌else◌}
use Rattle.std.specs.Map.{lookup}
use Rattle.std.specs.Ordering.{nat_cmp}
use Rattle.std.specs.BTreeMap.{is_at}
use Rattle.pickle_ops.specs.declared.opcode.Opcode.{Opcode}
use Rattle.pickle_ops.specs.declared.opcode.Opcode.TheVariants as op
use Rattle.pickle_ops.specs.declared.row.Row.{Row}
use Rattle.pickle_ops.specs.declared.row.Row.TheVariants as row
use Rattle.pickle_ops.specs.declared.fault.FrontFault.{FrontFault}
use Rattle.pickle_lenient.specs.declared.taken.Taken.{Taken}
use Rattle.pickle_lenient.specs.Stream.{taken}
use Rattle.pickle_further.specs.declared.way.Pickles.{Pickles}
use Rattle.pickle_further.specs.declared.way.Pickles.TheVariants as pickles
use Rattle.pickle_further.specs.declared.way.Way.{Way}
use Rattle.pickle_further.specs.Going.{Standing, Going as Gone}
use Rattle.pickle_further.specs.Parts.{ignoring, buffering, are_many, standing_first}
use Rattle.pickle_loader.specs.Environment.{Value, Act, Unpickler, World}
use Rattle.pickle_loader.specs.Unpickler.{Raised}
use Rattle.pickle_loader.specs.Dispatch.{Loaded, Going, Ended, Failed, loaded, acts_of}
use Rattle.pickle_loader.specs.Listed.{listed_of}
use Rattle.pickle_loader.specs.Onward.{load_keyed, dispatch_as, load_taken, Onward, again, reads_on, load_more, load_read, load_on, load_way, stands_behind, stands_on, stands, state_behind, protocol, acts_gone, acts_on, acts_before, begins_anew}
use Rattle.pickle_loader.specs.CLoad.{as_in_c, seen_loaded, c_load_way}
use Rattle.pickle_loader.proofs.Bytes.{listed_more, run_before, joined}
use Rattle.pickle_loader.proofs.Readings.{beside_all, acts_next, accepted_move}
use Rattle.pickle_loader.proofs.Ends.{IsThrough, through, going_end, rest_end}
use Rattle.pickle_loader.proofs.Streamed.{streamed}
use Rattle.pickle_loader.proofs.Reached.{reached_behind, streamed_behind}
use Rattle.pickle_loader.proofs.Ways.{nothing_beyond}
use Rattle.pickle_loader.proofs.CLoads.{one_load}
use Rattle.pickle_allow.specs.declared.list.Entry.{Entry}
use Rattle.pickle_gate.specs.Gate.{Passes}
use Rattle.gate_laws.specs.Permitted.{permits_all}
use Rattle.gate_laws.specs.Laws.{OnlyWhatIsAllowedInC}
use Rattle.gate_laws.proofs.Grows.{IsMore, Grown, no_more, pick, got_by, put_under, dispatch_grows, loaded_grows}
use Rattle.gate_laws.proofs.Loads.{Loads, Passed, all_permitted}
use Rattle.gate_laws.proofs.Law.{plain, status_zero}
use Rattle.std.proofs.lemmas.Bool.{cases_lt}
use Rattle.std.proofs.lemmas.List.{append-nil}
use Rattle.pickle_doc.specs.Document.{Contents, IsFormed, document_bytes}
use Rattle.pickle_doc.specs.Place.{ops_of}
use Rattle.pickle_machine.specs.State.{start}
use Rattle.pickle_machine.specs.Run.{run}
use Rattle.pickle_calls.specs.declared.naming.Detail.TheVariants as detail
use Rattle.pickle_loader.specs.Listed.{listed}
use Rattle.pickle_loader.proofs.Still.{move_to}

-- ---- how far the lines go

abbrev First : Pickles → Contents → Standing
First p d = standing_first detail.Cut p (document_bytes d)

-- how far the lines go: up to a place at which the reading stands, or it ended
record Far (V : ℕ → Value) (p : Pickles) (d : Contents) (n : ℕ) : Type 0 where
  place : ℕ
  within : place ≤ length (ops_of d)
  upto : place ≤ n
  acts : acts_before V (ignoring p) (First p d) n ≡ listed V d.many (ops_of d) place
  here : (stands (ignoring p) (First p d) n ≡ None) ⊎ (place ≡ n)

-- ---- behind the last item

-- ---- one item more

acts_suc : (V : ℕ → Value) (p : Pickles) (d : Contents) (n : ℕ) (x : Option Standing) → stands (ignoring p) (First p d) n ≡ x
    → acts_before V (ignoring p) (First p d) (suc n) ≡ acts_before V (ignoring p) (First p d) n ++ acts_on V (ignoring p) (protocol (ignoring p) (First p d) n) x
unfolding acts_before
acts_suc V p d n x is = ap (λ (y : Option Standing). acts_before V (ignoring p) (First p d) n ++ acts_on V (ignoring p) (protocol (ignoring p) (First p d) n) y) is

stands_suc : (p : Pickles) (d : Contents) (n : ℕ) (x : Option Standing) → stands (ignoring p) (First p d) n ≡ x → stands (ignoring p) (First p d) (suc n) ≡ stands_on (ignoring p) x
unfolding stands
stands_suc p d n x is = ap (stands_on (ignoring p)) is

first_zero : (V : ℕ → Value) (p : Pickles) (d : Contents) → acts_before V (ignoring p) (First p d) 0 ≡ listed V d.many (ops_of d) 0
unfolding acts_before listed
first_zero V p d = refl

no_both : {A : Type 0} (x : Option Standing) (q : Standing) → x ≡ Some q → x ≡ None → A
no_both x q e f = let wrong : Some q ≡ None = sym e ∙ f in absurd cc

place_is : (V : ℕ → Value) (p : Pickles) (d : Contents) (n : ℕ) (q : Standing) → stands (ignoring p) (First p d) n ≡ Some q → (far : Far V p d n) → far.place ≡ n
place_is V p d n q is far = elim far.here [
  | inl none ↦ no_both (stands (ignoring p) (First p d) n) q is none
  | inr same ↦ same
]

far_more : (V : ℕ → Value) (p : Pickles) (d : Contents) (n : ℕ) (q : Standing) → IsFormed d → length (document_bytes d) < 2 ^ 64 → begins_anew p ≡ true → d.many ≡ are_many p → (t : IsThrough d)
    → stands (ignoring p) (First p d) n ≡ Some q → n < length (ops_of d) → Far V p d (suc n)
far_more V p d n q formed small anew mode t is less =
    let after = run_before (start d.many) (ops_of d) (length (ops_of d)) (suc n) t.last t.runs (omega (arith, less)) in
    let m = move_to (start d.many) (ops_of d) n after.0 after.1 in
    let beside = beside_all detail.Cut V p d formed small anew mode n m.before q m.reached is in
    record {
      place = suc n;
      within = omega (arith, less);
      upto = omega arith;
      acts = acts_next detail.Cut V p d n m.before after.0 m.item q formed small anew m.there m.reached after.1 (accepted_move m.item n m.before after.0 m.accepted m.leads) is beside;
      here = inr refl;
    }

far_end : (V : ℕ → Value) (p : Pickles) (d : Contents) (n : ℕ) (q : Standing) → IsFormed d → length (document_bytes d) < 2 ^ 64 → begins_anew p ≡ true → d.many ≡ are_many p → (t : IsThrough d)
    → stands (ignoring p) (First p d) n ≡ Some q → n ≡ length (ops_of d) → Far V p d n → Far V p d (suc n)
far_end V p d n q formed small anew mode t is last far =
    let beside = beside_all detail.Cut V p d formed small anew mode n t.last q (ap (run (start d.many) (ops_of d)) last ∙ t.runs) is in
    let none : q.rest ≡ [] = ap (λ (x : Standing). x.rest) beside.stands_there ∙ rest_end d n last t.tail in
    let ends = going_end p q none in
    record {
      place = far.place;
      within = far.within;
      upto = omega (arith, far.upto);
      acts = acts_suc V p d n (Some q) is ∙ ap (λ (g : Gone). acts_before V (ignoring p) (First p d) n ++ acts_gone V (protocol (ignoring p) (First p d) n) q g) ends ∙ append-nil (acts_before V (ignoring p) (First p d) n) ∙ far.acts;
      here = inl (stands_suc p d n (Some q) is ∙ no_more p q none);
    }
  where
    no_more : (p : Pickles) (q : Standing) → q.rest ≡ [] → stands_on (ignoring p) (Some q) ≡ None
    no_more p q none = ap (λ (g : Gone). stands_behind q g) (going_end p q none)

far_next : (V : ℕ → Value) (p : Pickles) (d : Contents) (n : ℕ) (x : Option Standing) → stands (ignoring p) (First p d) n ≡ x → IsFormed d → length (document_bytes d) < 2 ^ 64 → begins_anew p ≡ true → d.many ≡ are_many p → IsThrough d
    → Far V p d n → Far V p d (suc n)
far_next V p d n None is formed small anew mode t far = record {
  place = far.place;
  within = far.within;
  upto = omega (arith, far.upto);
  acts = acts_suc V p d n None is ∙ append-nil (acts_before V (ignoring p) (First p d) n) ∙ far.acts;
  here = inl (stands_suc p d n None is);
}
far_next V p d n (Some q) is formed small anew mode t far = elim (cases_lt n (length (ops_of d))) [
  | inl less ↦ far_more V p d n q formed small anew mode t is less
  | inr most ↦ far_end V p d n q formed small anew mode t is (omega (arith, most, far.within, place_is V p d n q is far)) far
]

far_all : (V : ℕ → Value) (p : Pickles) (d : Contents) → IsFormed d → length (document_bytes d) < 2 ^ 64 → begins_anew p ≡ true → d.many ≡ are_many p → IsThrough d → (n : ℕ) → Far V p d n
far_all V p d formed small anew mode t zero = record { place = 0; within = omega arith; upto = omega arith; acts = first_zero V p d; here = inr refl }
far_all V p d formed small anew mode t (suc n) = far_next V p d n (stands (ignoring p) (First p d) n) refl formed small anew mode t (far_all V p d formed small anew mode t n)

-- ---- a load only adds acts

keyed_grows : (base : List Act) (w : World) (r : Row) (u : Unpickler) → IsMore base u.acts → Grown base (load_keyed w r u)
keyed_grows base w (row.Get key) u m = got_by base (lookup (is_at (nat_cmp key)) u.memo) u m
keyed_grows base w (row.Put key) u m = put_under base w key u m
keyed_grows base w _ u m = m

as_grows : (base : List Act) (w : World) (r : Row) (o : Opcode) (arg : List ℕ) (u : Unpickler) → IsMore base u.acts → Grown base (dispatch_as w r o arg u)
as_grows base w r op.Frame arg u m = keyed_grows base w r u m
as_grows base w r o arg u m = dispatch_grows base w o arg u m

taken_grows : (base : List Act) (w : World) (item : Taken) (u : Unpickler) → IsMore base u.acts → IsMore base (acts_of (loaded (load_taken w item u)))
taken_grows base w item u m =
    loaded_grows base (load_taken w item u)
    (pick base (w.fails u item.op) (Raised u.acts) (dispatch_as w item.row item.op.opcode item.op.arg u) m (as_grows base w item.row item.op.opcode item.op.arg u m))

again_acts : (p : Pickles) (u : Unpickler) → (again p u).acts ≡ u.acts
again_acts pickles.First u = refl
again_acts pickles.All u = refl
again_acts pickles.OneMemo u = refl

more_grows : (w : World) (p : Pickles) (item : Taken) (l : Loaded) → IsMore (acts_of l) (acts_of (load_more w p item l))
more_grows w p item (Going u) = taken_grows u.acts w item u (no_more u.acts)
more_grows w p item (Ended v u) = taken_grows u.acts w item (again p u) (subst (λ (l : List Act). IsMore u.acts l) (sym (again_acts p u)) (no_more u.acts))
more_grows w p item (Failed acts) = no_more acts

read_grows : (w : World) (p : Pickles) (x : Onward) (r : Result Taken FrontFault) → IsMore (acts_of x.now) (acts_of (load_read w p x r).now)
read_grows w p x (Ok item) = more_grows w p item x.now
read_grows w p x (Err f) = no_more (acts_of x.now)

on_grows : (w : World) (way : Way) (x : Onward) (b : Bool) → IsMore (acts_of x.now) (acts_of (if b then load_read w way.pickles x (taken way.frames x.left x.rest) else x).now)
on_grows w way x true = read_grows w way.pickles x (taken way.frames x.left x.rest)
on_grows w way x false = no_more (acts_of x.now)

way_grows : (w : World) (way : Way) (bytes : List ℕ) (n : ℕ) → IsMore (acts_of (load_way w way bytes n).now) (acts_of (load_way w way bytes (suc n)).now)
unfolding load_way
way_grows w way bytes n = on_grows w way (load_way w way bytes n) (reads_on way.pickles (load_way w way bytes n).now)

way_first : (w : World) (way : Way) (bytes : List ℕ) → acts_of (load_way w way bytes 0).now ≡ []
unfolding load_way
way_first w way bytes = refl

on_over : (w : World) (way : Way) (x : Onward) (acts : List Act) → x.now ≡ Failed acts → (load_on w way x).now ≡ Failed acts
on_over w way x acts e =
    let no : reads_on way.pickles x.now ≡ false = ap (reads_on way.pickles) e in
    ap (λ (b : Bool). (if b then load_read w way.pickles x (taken way.frames x.left x.rest) else x).now) no ∙ e

way_over : (w : World) (way : Way) (bytes : List ℕ) (n : ℕ) (acts : List Act) → (load_way w way bytes n).now ≡ Failed acts → (load_way w way bytes (suc n)).now ≡ Failed acts
unfolding load_way
way_over w way bytes n acts e = on_over w way (load_way w way bytes n) acts e

-- ---- the law

-- up to a place what is listed is a beginning of what the items up to it list
far_lines : (V : ℕ → Value) (d : Contents) (n : ℕ) → Far V pickles.First d n → (rest : List Act) × (acts_before V (ignoring pickles.First) (First pickles.First d) n ++ rest ≡ listed V d.many (ops_of d) n)
far_lines V d n far =
    let more = listed_more V d.many (ops_of d) n far.place far.upto in
    (more.0, ap (λ (l : List Act). l ++ more.0) far.acts ∙ sym more.1)

ignoring_loads : (list : List Entry) (bytes : List ℕ) → (p : Passes list bytes) → (w : World) → (V : ℕ → Value) × Loads w V p.document (λ n. (load_way w (ignoring pickles.First) bytes n).now)
ignoring_loads list bytes p w =
    let d : Contents = p.document in
    let t : IsThrough d = through plain d (status_zero d p.stops) in
    let formed = p.reads.document.formed in
    let less : length (document_bytes d) < 2 ^ 64 = subst (λ (l : List ℕ). length l < 2 ^ 64) (sym p.reads.whole) p.small in
    let all = nothing_beyond w (ignoring pickles.First) bytes in
    let V : ℕ → Value = all.0 in (
      V,
      record {
        begins = way_first w (ignoring pickles.First) bytes;
        grows = way_grows w (ignoring pickles.First) bytes;
        over = way_over w (ignoring pickles.First) bytes;
        lines = λ n.
            let front = all.1.acts n in
            let behind = subst (λ (l : List ℕ). (rest : List Act) × (acts_before V (ignoring pickles.First) (standing_first detail.Cut pickles.First l) n ++ rest ≡ listed V d.many (ops_of d) n)) p.reads.whole
            (far_lines V d n (far_all V pickles.First d formed less refl p.reads.mode t n)) in
            (front.0 ++ behind.0, joined (listed_of (acts_of (load_way w (ignoring pickles.First) bytes n).now)) front.0 behind.0 (acts_before V (ignoring pickles.First) (standing_first detail.Cut pickles.First bytes) n) (listed V d.many (ops_of d) n) front.1 (sym behind.1));
        values = λ n s e. all.1.values n s (subst (λ (l : List ℕ). state_behind (ignoring pickles.First) (standing_first detail.Cut pickles.First l) n ≡ Some s) p.reads.whole (reached_behind detail.Cut pickles.First d formed less refl p.reads.mode n s e));
      },
    )

buffering_loads : (list : List Entry) (bytes : List ℕ) → (p : Passes list bytes) → (w : World) → (V : ℕ → Value) × Loads w V p.document (λ n. (load_way w (buffering pickles.First) bytes n).now)
buffering_loads list bytes p w =
    let d : Contents = p.document in
    let t : IsThrough d = through plain d (status_zero d p.stops) in
    let formed = p.reads.document.formed in
    let less : length (document_bytes d) < 2 ^ 64 = subst (λ (l : List ℕ). length l < 2 ^ 64) (sym p.reads.whole) p.small in
    let all = nothing_beyond w (buffering pickles.First) bytes in
    let V : ℕ → Value = all.0 in (
      V,
      record {
        begins = way_first w (buffering pickles.First) bytes;
        grows = way_grows w (buffering pickles.First) bytes;
        over = way_over w (buffering pickles.First) bytes;
        lines = λ n.
            let front = all.1.acts n in
            let behind = subst (λ (l : List ℕ). (rest : List Act) × (acts_before V (buffering pickles.First) (standing_first detail.Cut pickles.First l) n ++ rest ≡ listed V d.many (ops_of d) n)) p.reads.whole
            (subst (λ (l : List Act). (rest : List Act) × (l ++ rest ≡ listed V d.many (ops_of d) n)) (sym (streamed detail.Cut V pickles.First d formed less refl (p.reads.mode, p.reads.framing) t n))
            (far_lines V d n (far_all V pickles.First d formed less refl p.reads.mode t n))) in
            (front.0 ++ behind.0, joined (listed_of (acts_of (load_way w (buffering pickles.First) bytes n).now)) front.0 behind.0 (acts_before V (buffering pickles.First) (standing_first detail.Cut pickles.First bytes) n) (listed V d.many (ops_of d) n) front.1 (sym behind.1));
        values = λ n s e. all.1.values n s (subst (λ (l : List ℕ). state_behind (buffering pickles.First) (standing_first detail.Cut pickles.First l) n ≡ Some s) p.reads.whole
            (streamed_behind detail.Cut V pickles.First d formed less refl (p.reads.mode, p.reads.framing) t n ∙ reached_behind detail.Cut pickles.First d formed less refl p.reads.mode n s e));
      },
    )

-- the unpickler in C does what the one in Python does in the environment that raises where it does
in_c : (list : List Entry) (w : World) (way : Way) (bytes : List ℕ) (n : ℕ) → permits_all list [] (acts_of (load_way (as_in_c w) way bytes n).now) ≡ true → permits_all list [] (acts_of (seen_loaded (c_load_way w way bytes n).now)) ≡ true
in_c list w way bytes n e = ap (λ (x : Onward). permits_all list [] (acts_of x.now)) (one_load w way bytes n) ∙ e

passed : (list : List Entry) (bytes : List ℕ) → (p : Passes list bytes) → Passed list p.document bytes
passed list bytes p = record { reads = p.reads; in_form = p.in_form; allowed = p.allowed }

pub only_what_is_allowed_in_c : OnlyWhatIsAllowedInC
only_what_is_allowed_in_c list bytes p w n =
    let x = ignoring_loads list bytes p (as_in_c w) in
    let y = buffering_loads list bytes p (as_in_c w) in (
      in_c list w (ignoring pickles.First) bytes n (all_permitted list (as_in_c w) x.0 p.document bytes (λ m. (load_way (as_in_c w) (ignoring pickles.First) bytes m).now) (passed list bytes p) x.1 n),
      in_c list w (buffering pickles.First) bytes n (all_permitted list (as_in_c w) y.0 p.document bytes (λ m. (load_way (as_in_c w) (buffering pickles.First) bytes m).now) (passed list bytes p) y.1 n),
    )
