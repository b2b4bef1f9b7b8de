-- Where the lines end with status 0, all that is listed of a reading with frames ignored is in them.
use Rattle.std.proofs.Common.{◌≡◌, ◌⊎◌, ℕ, zero, suc, ◌^◌, ◌<◌, ◌≤◌, true, List, [], ◌++◌, length, drop, Option, Some, None, refl, sym, ap, ◌∙◌, inl, inr, arith}
use Rattle.std.specs.Prelude.{◌==◌}
use Rattle.std.proofs.lemmas.Bool.{cases_lt}
use Rattle.std.proofs.lemmas.List.{append-nil}
use Rattle.pickle_ops.specs.Spelling.{Operation}
use Rattle.pickle_ops.specs.declared.fault.FrontFault.TheVariants as fault
use Rattle.pickle_doc.specs.declared.fault.TailFault.TheVariants as tail
use Rattle.pickle_doc.specs.declared.fault.Finish.{Finish}
use Rattle.pickle_doc.specs.declared.fault.Finish.TheVariants as finish
use Rattle.pickle_doc.specs.DocUnit.{bytes_of}
use Rattle.pickle_doc.specs.Document.{Contents, IsFormed, items_of, document_bytes, finish_of}
use Rattle.pickle_doc.specs.Place.{ops_of, item_at, offset_of}
use Rattle.pickle_machine.specs.declared.refusal.Refusal.{Refusal}
use Rattle.pickle_machine.specs.State.{State, start}
use Rattle.pickle_machine.specs.Run.{run}
use Rattle.pickle_lenient.specs.declared.taken.Frames.TheVariants as frames
use Rattle.pickle_lenient.specs.Stream.{taken}
use Rattle.pickle_calls.specs.Manner.{Manner}
use Rattle.pickle_calls.specs.declared.naming.Detail.TheVariants as detail
use Rattle.pickle_text.specs.declared.closing.Closing.TheVariants as closing
use Rattle.pickle_text.specs.Reached.{reached}
use Rattle.pickle_text.specs.Closing.{refused_on}
use Rattle.pickle_calls.specs.Calls.{first_inside, closing_of, closing_to, kept_by, calls}
use Rattle.pickle_text.proofs.Places.{is_reached}
use Rattle.pickle_further.specs.declared.way.Pickles.{Pickles}
use Rattle.pickle_further.specs.Going.{Standing, Going as Gone, gone_by, going, over}
use Rattle.pickle_further.specs.Parts.{ignoring, are_many, standing_first}
use Rattle.pickle_loader.specs.Environment.{Value, Act}
use Rattle.pickle_loader.specs.Listed.{listed}
use Rattle.pickle_loader.specs.Onward.{stands_behind, stands_on, stands, protocol, acts_gone, acts_on, acts_before, begins_anew}
use Rattle.pickle_loader.proofs.Still.{move_to}
use Rattle.pickle_loader.proofs.Lines.{zero_end, not_refused, all_reached}
use Rattle.pickle_loader.proofs.Bytes.{drop_all, listed_more, run_before, status_finish, closing_none}
use Rattle.pickle_loader.proofs.Items.{none_taken}
use Rattle.pickle_loader.proofs.Onwards.{zero_length}
use Rattle.pickle_loader.proofs.Readings.{beside_all, acts_next, accepted_move, rest_is}

-- every item is accepted, and nothing is behind them
pub record IsThrough (d : Contents) : Type 0 where
  pub last : State
  pub runs : run (start d.many) (ops_of d) (length (ops_of d)) ≡ Some last
  pub quiet : first_inside d (length (ops_of d)) ≡ None
  pub tail : d.tail ≡ []

abbrev First : Pickles → Contents → Standing
First p d = standing_first detail.Cut p (document_bytes d)

-- how far the lines go: up to a place at which the reading stands, or it ended
record Far (V : ℕ → Value) (p : Pickles) (d : Contents) (n : ℕ) : Type 0 where
  place : ℕ
  within : place ≤ length (ops_of d)
  acts : acts_before V (ignoring p) (First p d) n ≡ listed V d.many (ops_of d) place
  here : (stands (ignoring p) (First p d) n ≡ None) ⊎ (place ≡ n)

-- ---- behind the last item

pub going_end : (p : Pickles) (q : Standing) → q.rest ≡ [] → going (ignoring p) q ≡ over q.state (closing.Fault (tail.Front fault.Ended) q.at.offset)
unfolding going
going_end p q e = ap (gone_by (ignoring p) q) (ap (taken frames.Ignored q.at.left) e ∙ none_taken frames.Ignored q.at.left)

all_dropped : (ops : List Operation) (n : ℕ) → n ≡ length ops → drop n ops ≡ []
all_dropped ops n e = ap (λ (m : ℕ). drop m ops) e ∙ drop_all ops

pub rest_end : (d : Contents) (n : ℕ) → n ≡ length (ops_of d) → d.tail ≡ [] → drop (offset_of d n) (document_bytes d) ≡ []
rest_end d n e none = rest_is (items_of d) d.tail n ∙ ap (λ (l : List Operation). bytes_of l ++ d.tail) (all_dropped (ops_of d) n e) ∙ none

-- ---- one item more

pub acts_suc : (V : ℕ → Value) (p : Pickles) (d : Contents) (n : ℕ) (x : Option Standing) → stands (ignoring p) (First p d) n ≡ x
    → acts_before V (ignoring p) (First p d) (suc n) ≡ acts_before V (ignoring p) (First p d) n ++ acts_on V (ignoring p) (protocol (ignoring p) (First p d) n) x
unfolding acts_before
acts_suc V p d n x is = ap (λ (y : Option Standing). acts_before V (ignoring p) (First p d) n ++ acts_on V (ignoring p) (protocol (ignoring p) (First p d) n) y) is

pub stands_suc : (p : Pickles) (d : Contents) (n : ℕ) (x : Option Standing) → stands (ignoring p) (First p d) n ≡ x → stands (ignoring p) (First p d) (suc n) ≡ stands_on (ignoring p) x
unfolding stands
stands_suc p d n x is = ap (stands_on (ignoring p)) is

pub first_zero : (V : ℕ → Value) (p : Pickles) (d : Contents) → acts_before V (ignoring p) (First p d) 0 ≡ listed V d.many (ops_of d) 0
unfolding acts_before listed
first_zero V p d = refl

no_both : {A : Type 0} (x : Option Standing) (q : Standing) → x ≡ Some q → x ≡ None → A
no_both x q e f = let wrong : Some q ≡ None = sym e ∙ f in absurd cc

place_is : (V : ℕ → Value) (p : Pickles) (d : Contents) (n : ℕ) (q : Standing) → stands (ignoring p) (First p d) n ≡ Some q → (far : Far V p d n) → far.place ≡ n
place_is V p d n q is far = elim far.here [
  | inl none ↦ no_both (stands (ignoring p) (First p d) n) q is none
  | inr same ↦ same
]

far_more : (V : ℕ → Value) (p : Pickles) (d : Contents) (n : ℕ) (q : Standing) → IsFormed d → length (document_bytes d) < 2 ^ 64 → begins_anew p ≡ true → d.many ≡ are_many p → (t : IsThrough d)
    → stands (ignoring p) (First p d) n ≡ Some q → n < length (ops_of d) → Far V p d (suc n)
far_more V p d n q formed small anew mode t is less =
    let after = run_before (start d.many) (ops_of d) (length (ops_of d)) (suc n) t.last t.runs (omega (arith, less)) in
    let m = move_to (start d.many) (ops_of d) n after.0 after.1 in
    let beside = beside_all detail.Cut V p d formed small anew mode n m.before q m.reached is in
    record {
      place = suc n;
      within = omega (arith, less);
      acts = acts_next detail.Cut V p d n m.before after.0 m.item q formed small anew m.there m.reached after.1 (accepted_move m.item n m.before after.0 m.accepted m.leads) is beside;
      here = inr refl;
    }

far_end : (V : ℕ → Value) (p : Pickles) (d : Contents) (n : ℕ) (q : Standing) → IsFormed d → length (document_bytes d) < 2 ^ 64 → begins_anew p ≡ true → d.many ≡ are_many p → (t : IsThrough d)
    → stands (ignoring p) (First p d) n ≡ Some q → n ≡ length (ops_of d) → Far V p d n → Far V p d (suc n)
far_end V p d n q formed small anew mode t is last far =
    let beside = beside_all detail.Cut V p d formed small anew mode n t.last q (ap (run (start d.many) (ops_of d)) last ∙ t.runs) is in
    let none : q.rest ≡ [] = ap (λ (x : Standing). x.rest) beside.stands_there ∙ rest_end d n last t.tail in
    let ends = going_end p q none in
    record {
      place = far.place;
      within = far.within;
      acts = acts_suc V p d n (Some q) is ∙ ap (λ (g : Gone). acts_before V (ignoring p) (First p d) n ++ acts_gone V (protocol (ignoring p) (First p d) n) q g) ends ∙ append-nil (acts_before V (ignoring p) (First p d) n) ∙ far.acts;
      here = inl (stands_suc p d n (Some q) is ∙ no_more p q none);
    }
  where
    no_more : (p : Pickles) (q : Standing) → q.rest ≡ [] → stands_on (ignoring p) (Some q) ≡ None
    no_more p q none = ap (λ (g : Gone). stands_behind q g) (going_end p q none)

far_next : (V : ℕ → Value) (p : Pickles) (d : Contents) (n : ℕ) (x : Option Standing) → stands (ignoring p) (First p d) n ≡ x → IsFormed d → length (document_bytes d) < 2 ^ 64 → begins_anew p ≡ true → d.many ≡ are_many p → IsThrough d
    → Far V p d n → Far V p d (suc n)
far_next V p d n None is formed small anew mode t far = record {
  place = far.place;
  within = far.within;
  acts = acts_suc V p d n None is ∙ append-nil (acts_before V (ignoring p) (First p d) n) ∙ far.acts;
  here = inl (stands_suc p d n None is);
}
far_next V p d n (Some q) is formed small anew mode t far = elim (cases_lt n (length (ops_of d))) [
  | inl less ↦ far_more V p d n q formed small anew mode t is less
  | inr most ↦ far_end V p d n q formed small anew mode t is (omega (arith, most, far.within, place_is V p d n q is far)) far
]

far_all : (V : ℕ → Value) (p : Pickles) (d : Contents) → IsFormed d → length (document_bytes d) < 2 ^ 64 → begins_anew p ≡ true → d.many ≡ are_many p → IsThrough d → (n : ℕ) → Far V p d n
far_all V p d formed small anew mode t zero = record { place = 0; within = omega arith; acts = first_zero V p d; here = inr refl }
far_all V p d formed small anew mode t (suc n) = far_next V p d n (stands (ignoring p) (First p d) n) refl formed small anew mode t (far_all V p d formed small anew mode t n)

-- status 0
pub through : (how : Manner) (d : Contents) → (calls how d).status ≡ 0 → IsThrough d
through how d status =
    let far = is_reached (start d.many) (ops_of d) (length (ops_of d)) in
    let k : ℕ = reached (start d.many) (ops_of d) (length (ops_of d)) in
    let ended = zero_end how d k far.state refl far.is status in
    let none : refused_on (item_at d k) far.state ≡ None = not_refused d k (refused_on (item_at d k) far.state) ended.1 in
    let all : k ≡ length (ops_of d) = all_reached d k far.state (item_at d k) refl far.is none far.most far.within in
    let stopped : finish_of d ≡ finish.Stopped = status_finish d (finish_of d) (closing_none d k (refused_on (item_at d k) far.state) none ended.1) in
    record {
      last = far.state;
      runs = ap (run (start d.many) (ops_of d)) (sym all) ∙ far.is;
      quiet = ap (first_inside d) (sym all) ∙ ended.0;
      tail = zero_length d.tail (sym (ap (λ (r : Option Refusal). kept_by d (closing_to d k r) == 0) none ∙ ap (λ (f : Finish). kept_by d (closing_of d f) == 0) stopped) ∙ ended.2);
    }

pub read_is_listed : (V : ℕ → Value) (p : Pickles) (d : Contents) → IsFormed d → length (document_bytes d) < 2 ^ 64 → begins_anew p ≡ true → d.many ≡ are_many p → IsThrough d → (n : ℕ)
    → (rest : List Act) × (acts_before V (ignoring p) (standing_first detail.Cut p (document_bytes d)) n ++ rest ≡ listed V d.many (ops_of d) (length (ops_of d)))
read_is_listed V p d formed small anew mode t n =
    let far = far_all V p d formed small anew mode t n in
    let more = listed_more V d.many (ops_of d) (length (ops_of d)) far.place far.within in
    (more.0, ap (λ (l : List Act). l ++ more.0) far.acts ∙ sym more.1)
