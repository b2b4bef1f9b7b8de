-- Up to the end of the lines the unpickler in C does with any file what they list.
use Rattle.std.proofs.Common.{◌≡◌, ◌⊎◌, ℕ, zero, suc, ◌+◌, ◌-◌, ◌^◌, ◌<◌, ◌≤◌, Bool, true, false, List, [], ◌∷◌, ◌++◌, length, drop, Option, Some, None, refl, sym, ap, subst, ◌∙◌, inl, inr, arith}
use Rattle.std.specs.Prelude.{◌&&◌, MatchBool, nat_lt}
use Rattle.std.proofs.lemmas.Bool.{ltb-false}
use Rattle.std.proofs.lemmas.List.{append-nil, length-drop}
use Rattle.pickle_ops.specs.Spelling.{Operation}
use Rattle.pickle_doc.specs.declared.fault.TailFault.{TailFault}
use Rattle.pickle_doc.specs.DocUnit.{is_stop}
use Rattle.pickle_doc.specs.Document.{Contents, IsFormed, document_bytes, ended_by}
use Rattle.pickle_doc.specs.Fitting.{FitsFrom, IsLast, left_behind}
use Rattle.pickle_doc.specs.Place.{ops_of, item_at}
use Rattle.pickle_machine.specs.State.{State, start}
use Rattle.pickle_machine.specs.Run.{run}
use Rattle.pickle_calls.specs.declared.naming.Detail.TheVariants as detail
use Rattle.pickle_calls.specs.Calls.{is_inside, first_inside, left_at, calls_end}
use Rattle.pickle_further.specs.declared.way.Pickles.{Pickles}
use Rattle.pickle_further.specs.Going.{Standing}
use Rattle.pickle_further.specs.Parts.{ignoring, are_many, standing_first}
use Rattle.pickle_loader.specs.Environment.{Value, Act}
use Rattle.pickle_loader.specs.Dispatch.{acts_of}
use Rattle.pickle_loader.specs.Listed.{listed_of, listed}
use Rattle.pickle_loader.specs.Laws.{Holds}
use Rattle.pickle_loader.specs.Onward.{stands, state_behind, acts_before, begins_anew}
use Rattle.pickle_loader.specs.CLoad.{CLoaded, seen_loaded, c_load_way}
use Rattle.pickle_loader.specs.ShownFile.{c_load_file, UpToTheEndInAFile}
use Rattle.pickle_loader.proofs.Still.{move_to}
use Rattle.pickle_loader.proofs.Stops.{none_before}
use Rattle.pickle_loader.proofs.Prefixes.{none_listed}
use Rattle.pickle_loader.proofs.Bytes.{run_within, run_before, listed_more, joined}
use Rattle.pickle_loader.proofs.Readings.{beside_all, acts_next, accepted_move}
use Rattle.pickle_loader.proofs.Reached.{reached_behind}
use Rattle.pickle_loader.proofs.Streams.{fits_at}
use Rattle.pickle_loader.proofs.Ends.{acts_suc, stands_suc, first_zero}
use Rattle.pickle_loader.proofs.CLoads.{nothing_beyond_in_c}
use Rattle.pickle_loader.proofs.ShownFiles.{Quiet, file_same}

-- ---- no STOP leaves a frame unfinished

-- before the end of the lines a STOP leaves nothing, unless it is the last item before it
stop_last : (many : Bool) (left : ℕ) (o : Operation) (ops : List Operation) (tail : List ℕ) (e : Option TailFault) → many ≡ false → is_stop o.opcode ≡ true → FitsFrom many false left (o ∷ ops) tail e → ops ≡ []
stop_last true left o ops tail e one stop fits = absurd cc
stop_last false left o ops tail e one stop fits =
    let last : IsLast (left_behind false left o) ops tail e = subst (λ (b : Bool). MatchBool (b && true) (IsLast (left_behind false left o) ops tail e) (FitsFrom false false (left_behind false left o) ops tail e)) stop fits.1 in
    last.none

quiet_of_many : (d : Contents) (k : ℕ) (o : Operation) → first_inside d (suc k) ≡ None → item_at d k ≡ Some o → is_stop o.opcode ≡ true → d.many ≡ true → left_behind false (left_at d k) o ≡ 0
quiet_of_many d k o none here stop many =
    let at : is_inside d.many (Some o) (left_at d k) ≡ false = subst (λ (x : Option Operation). is_inside d.many x (left_at d k) ≡ false) here (none_before d (suc k) k none (omega arith)) in
    let kept : nat_lt 0 (left_behind false (left_at d k) o) ≡ false = ap (λ (b : Bool). b && nat_lt 0 (left_behind false (left_at d k) o)) (sym stop) ∙ ap (λ (b : Bool). b && (is_stop o.opcode && nat_lt 0 (left_behind false (left_at d k) o))) (sym many) ∙ at in
    let few : left_behind false (left_at d k) o ≤ 0 = ltb-false 0 (left_behind false (left_at d k) o) kept in
    omega (arith, few)

pub quiet_listed : (p : Pickles) (d : Contents) (most : ℕ) → IsFormed d → d.loose ≡ false → length (document_bytes d) < 2 ^ 64 → most ≤ length (ops_of d) → most ≤ (calls_end d).place → Quiet p d most
quiet_listed p d most formed framed small within listed k o before here stop anew = by d.many refl
  where
    by : (b : Bool) → d.many ≡ b → left_behind false (left_at d k) o ≡ 0
    by true many = quiet_of_many d k o (none_listed d (suc k) (omega (arith, before, listed))) here stop many
    by false one =
        let none : drop (suc k) (ops_of d) ≡ [] = stop_last d.many (left_at d k) o (drop (suc k) (ops_of d)) d.tail (ended_by d) one stop (fits_at d formed framed small k o here) in
        absurd (omega (arith, ap length none, length-drop (suc k) (ops_of d), before, within))

-- ---- the lines

-- up to a place at which the machine is, the acts of the lines are those of the items
record Upto (V : ℕ → Value) (p : Pickles) (d : Contents) (n : ℕ) : Type 0 where
  place : ℕ
  within : place ≤ n
  acts : acts_before V (ignoring p) (standing_first detail.Cut p (document_bytes d)) n ≡ listed V d.many (ops_of d) place
  here : (stands (ignoring p) (standing_first detail.Cut p (document_bytes d)) n ≡ None) ⊎ (place ≡ n)

upto_next : (V : ℕ → Value) (p : Pickles) (d : Contents) (k n : ℕ) (s : State) (x : Option Standing) → stands (ignoring p) (standing_first detail.Cut p (document_bytes d)) n ≡ x → IsFormed d → length (document_bytes d) < 2 ^ 64 → begins_anew p ≡ true → d.many ≡ are_many p → run (start d.many) (ops_of d) k ≡ Some s → n < k → Upto V p d n → Upto V p d (suc n)
upto_next V p d k n s None is formed small anew mode runs less far = record {
  place = far.place;
  within = omega (arith, far.within);
  acts = acts_suc V p d n None is ∙ append-nil (acts_before V (ignoring p) (standing_first detail.Cut p (document_bytes d)) n) ∙ far.acts;
  here = inl (stands_suc p d n None is);
}
upto_next V p d k n s (Some q) is formed small anew mode runs less far =
    let after = run_before (start d.many) (ops_of d) k (suc n) s runs (omega (arith, less)) in
    let m = move_to (start d.many) (ops_of d) n after.0 after.1 in
    let beside = beside_all detail.Cut V p d formed small anew mode n m.before q m.reached is in
    record {
      place = suc n;
      within = omega arith;
      acts = acts_next detail.Cut V p d n m.before after.0 m.item q formed small anew m.there m.reached after.1 (accepted_move m.item n m.before after.0 m.accepted m.leads) is beside;
      here = inr refl;
    }

upto : (V : ℕ → Value) (p : Pickles) (d : Contents) (k : ℕ) (s : State) → IsFormed d → length (document_bytes d) < 2 ^ 64 → begins_anew p ≡ true → d.many ≡ are_many p → run (start d.many) (ops_of d) k ≡ Some s → (n : ℕ) → n ≤ k → Upto V p d n
upto V p d k s formed small anew mode runs zero within = record { place = 0; within = omega arith; acts = first_zero V p d; here = inr refl }
upto V p d k s formed small anew mode runs (suc n) within =
    upto_next V p d k n s (stands (ignoring p) (standing_first detail.Cut p (document_bytes d)) n) refl formed small anew mode runs (omega (arith, within)) (upto V p d k s formed small anew mode runs n (omega (arith, within)))

-- ---- the law

pub up_to_the_end_in_a_file : UpToTheEndInAFile
up_to_the_end_in_a_file w shows p bytes d anew reads small =
    let formed = reads.document.formed in
    let less : length (document_bytes d) < 2 ^ 64 = subst (λ (l : List ℕ). length l < 2 ^ 64) (sym reads.whole) small in
    let all = nothing_beyond_in_c w (ignoring p) bytes in
    let V : ℕ → Value = all.0 in (
      V,
      λ n s runs listed_so.
          let within : n ≤ length (ops_of d) = run_within (start d.many) (ops_of d) n s runs in
          let same : (c_load_file w shows p bytes n).now ≡ (c_load_way w (ignoring p) bytes n).now =
          subst (λ (l : List ℕ). (c_load_file w shows p l n).now ≡ (c_load_way w (ignoring p) l n).now) reads.whole
          (file_same w shows p d n formed reads.framing less (quiet_listed p d n formed reads.framing less within listed_so) (inl within) n (omega arith)).now in
          let front = all.1.acts n in
          let far = upto V p d n s formed less anew reads.mode runs n (omega arith) in
          let more = listed_more V d.many (ops_of d) n far.place far.within in
          let lines : acts_before V (ignoring p) (standing_first detail.Cut p bytes) n ≡ listed V d.many (ops_of d) far.place = subst (λ (l : List ℕ). acts_before V (ignoring p) (standing_first detail.Cut p l) n ≡ listed V d.many (ops_of d) far.place) reads.whole far.acts in
          subst (λ (l : CLoaded). ((rest : List Act) × (listed_of (acts_of (seen_loaded l)) ++ rest ≡ listed V d.many (ops_of d) n)) × Holds w V s (seen_loaded l)) (sym same) (
            (front.0 ++ more.0, joined (listed_of (acts_of (seen_loaded (c_load_way w (ignoring p) bytes n).now))) front.0 more.0 (listed V d.many (ops_of d) far.place) (listed V d.many (ops_of d) n) (front.1 ∙ lines) more.1),
            all.1.values n s (subst (λ (l : List ℕ). state_behind (ignoring p) (standing_first detail.Cut p l) n ≡ Some s) reads.whole (reached_behind detail.Cut p d formed less anew reads.mode n s runs)),
          ),
    )
