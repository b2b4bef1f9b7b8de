-- The loop that steps over the items of a source: how far it has come, and how it ends.
use Rattle.std.proofs.Common.{◌≡◌, ℕ, ◌+◌, ◌-◌, ◌<◌, ◌≤◌, ◌==◌, ◌&&◌, Bool, true, false, List, length, drop, Option, Some, None, Ok, refl, sym, ap, subst, ◌∙◌, arith, length-append}
use Rattle.std.specs.Prelude.{take, MatchBool}
use Rattle.std.proofs.lemmas.List.{take_all, length-map}
use Rattle.std.proofs.lemmas.Option.{slice_get_within}
use Rattle.pickle_ops.specs.Spelling.{Operation, size_of}
use Rattle.pickle_doc.specs.declared.item.Item.{Item}
use Rattle.pickle_doc.specs.declared.fault.TailFault.{TailFault}
use Rattle.pickle_doc.specs.declared.fault.Finish.TheVariants as finish
use Rattle.pickle_doc.specs.declared.fault.End.TheVariants as end
use Rattle.pickle_doc.specs.DocUnit.{bytes_of, is_stop, ends_reading}
use Rattle.pickle_doc.specs.Document.{Contents, items_of, ends_with_stop, finish_by, finish_of, ReadsIn, size_limit}
use Rattle.pickle_doc.specs.Tail.{HasTailFault}
use Rattle.pickle_doc.specs.Fitting.{left_behind}
use Rattle.pickle_doc.specs.Unread.{IsNextItem}
use Rattle.pickle_doc.specs.Place.{ops_of, item_at, tail_offset, end_at}
use Rattle.pickle_doc.specs.Stream.{HasRead, IsDone}
use Rattle.pickle_doc.proofs.Ends.{finish_at, finish_stopped}
use Rattle.pickle_doc.proofs.Streams.{stands_first, item_in, fault_in}
use Rattle.pickle_doc.proofs.Units.{length_bytes}
use Rattle.pickle_machine.specs.declared.refusal.Refusal.{Refusal}
use Rattle.pickle_machine.specs.State.{State, start}
use Rattle.pickle_machine.specs.Move.{move, refusal_at}
use Rattle.pickle_machine.specs.Run.{run}
use Rattle.pickle_text.specs.declared.closing.Closing.TheVariants as closing
use Rattle.pickle_text.specs.Closing.{closing_at, refused_on}
use Rattle.object_texts.specs.Report.{Closes}
use Rattle.object_texts.specs.Inside.Ending.{EndsIn}
use Rattle.object_texts.specs.Inside.Stepped.{Stepped}
use Rattle.pickle_text.proofs.Runs.{run_nothing, run_next, few_items, last_taken}

pub stepped_none : {loose : Bool} (many : Bool) (bytes : List ℕ) → (some : (d : Contents) × ReadsIn many loose bytes d) → length bytes ≤ size_limit → Stepped many loose bytes bytes 0 0 (start many) false
stepped_none many bytes some small = record {
  d = some.0;
  reads = some.1;
  stands = stands_first many _ bytes some.0 (omega (arith, small)) some.1;
  reached = run_nothing (start some.0.many) (ops_of some.0) ∙ ap (λ (b : Bool). Some (start b)) some.1.mode;
  heap = omega arith;
  ends = refl;
}

-- there are no more items than bytes
pub place_within : {loose : Bool} (many : Bool) (bytes rest : List ℕ) (left k : ℕ) (o : Operation) (s : State) (last : Bool) → Stepped many loose bytes rest left k s last → IsNextItem loose left rest o (size_of o) → k < length bytes
place_within many bytes rest left k o s last w n =
    let g = item_in _ w.d k left rest o (size_of o) w.reads.framing w.stands n in
    let within : k < length (ops_of w.d) = slice_get_within (ops_of w.d) k o g.there in
    omega (arith, within, length-map (items_of w.d) (λ (i : Item). i.op), few_items w.d, ap length w.reads.whole)

-- ---- ends

-- item k is refused
pub refused_ends : {loose : Bool} (many : Bool) (bytes rest : List ℕ) (left k : ℕ) (o : Operation) (s : State) (last : Bool) (r : Refusal)
    → Stepped many loose bytes rest left k s last → IsNextItem loose left rest o (size_of o) → refusal_at o s ≡ Some r → EndsIn many loose bytes s (closing.Refused k r)
refused_ends many bytes rest left k o s last r w n f =
    let g = item_in _ w.d k left rest o (size_of o) w.reads.framing w.stands n in
    (w.d, w.reads, (k, w.reached, (refl, ap (λ (x : Option Operation). refused_on x s) g.there ∙ f)))

-- all items were stepped over, and the document ends so
tail_closes : (d : Contents) (k : ℕ) (s : State) (f : TailFault) (x : Bool) (offset : ℕ) → length (ops_of d) ≡ k → finish_of d ≡ finish_by x (Some f) → tail_offset d ≡ offset
    → Closes d k s (closing_at x f offset)
tail_closes d k s f true offset all is at = (sym all ∙ length-map (items_of d) (λ (i : Item). i.op), ap (end_at (tail_offset d)) is)
tail_closes d k s f false offset all is at =
    (sym all ∙ length-map (items_of d) (λ (i : Item). i.op), ap (end_at (tail_offset d)) is ∙ ap (λ (n : ℕ). end.Fault f n) at)

-- what is not read has this fault
pub tail_ends : {loose : Bool} (many : Bool) (bytes rest : List ℕ) (left k : ℕ) (s : State) (last : Bool) (f : TailFault)
    → Stepped many loose bytes rest left k s last → HasTailFault loose left rest f → EndsIn many loose bytes s (closing_at (length rest == 0 && last) f (length bytes - length rest))
tail_ends many bytes rest left k s last f w h =
    let done = fault_in _ w.d k left rest f w.reads.framing w.stands h in
    let all : take k (items_of w.d) ≡ items_of w.d = take_all k (items_of w.d) (omega (arith, done.all, length-map (items_of w.d) (λ (i : Item). i.op))) in
    let last_is : ends_with_stop (items_of w.d) ≡ last = ap ends_with_stop (sym all) ∙ w.ends in
    let stopped : (length w.d.tail == 0 && ends_with_stop (items_of w.d)) ≡ (length rest == 0 && last) = rw (last_is, done.tail) refl in
    let is : finish_of w.d ≡ finish_by (length rest == 0 && last) (Some f) = sym (finish_at w.d f (length rest == 0 && last) done.ended stopped) in
    let at : tail_offset w.d ≡ length bytes - length rest =
    omega (arith, length_bytes (items_of w.d), length-append (bytes_of (ops_of w.d)) w.d.tail, ap length w.reads.whole, ap length done.tail) in
    (w.d, w.reads, (k, w.reached, tail_closes w.d k s f (length rest == 0 && last) (length bytes - length rest) done.all is at))

-- what is not read are no more bytes than all
pub tail_within : {loose : Bool} (many : Bool) (bytes rest : List ℕ) (left k : ℕ) (s : State) (last : Bool) (f : TailFault) → Stepped many loose bytes rest left k s last → HasTailFault loose left rest f → length rest ≤ length bytes
tail_within many bytes rest left k s last f w h =
    let done = fault_in _ w.d k left rest f w.reads.framing w.stands h in
    omega (arith, length-append (bytes_of (ops_of w.d)) w.d.tail, ap length w.reads.whole, ap length done.tail)

-- ---- item k

-- item k was stepped: what is read now stands after it
pub record Moved (many loose : Bool) (bytes rest : List ℕ) (left k : ℕ) (o : Operation) (s : State) : Type 0 where
  pub d : Contents
  pub reads : ReadsIn many loose bytes d
  pub there : item_at d k ≡ Some o
  pub goes : MatchBool (ends_reading many o.opcode) (IsDone d (k + 1) rest None) (HasRead d (k + 1) rest left)
  pub reached : run (start d.many) (ops_of d) (k + 1) ≡ Some s
  pub heap : length s.heap ≤ k + 1

pub moved : {loose : Bool} (many : Bool) (bytes rest : List ℕ) (left k : ℕ) (o : Operation) (s t : State) (last : Bool)
    → Stepped many loose bytes rest left k s last → IsNextItem loose left rest o (size_of o) → move o k s ≡ Ok t → length t.heap ≤ length s.heap + 1
    → Moved many loose bytes (drop (size_of o) rest) (left_behind loose left o) k o t
moved {loose = loose} many bytes rest left k o s t last w n m h =
    let g = item_in _ w.d k left rest o (size_of o) w.reads.framing w.stands n in
    record {
      d = w.d;
      reads = w.reads;
      there = g.there;
      goes = subst (λ (x : Bool). MatchBool (ends_reading x o.opcode) (IsDone w.d (k + 1) (drop (size_of o) rest) None) (HasRead w.d (k + 1) (drop (size_of o) rest) (left_behind loose left o))) w.reads.mode g.goes;
      reached = run_next (start w.d.many) (ops_of w.d) o k s t w.reached g.there m;
      heap = omega (arith, h, w.heap);
    }

pub goes_on : {loose : Bool} (many : Bool) (bytes rest : List ℕ) (left k : ℕ) (o : Operation) (s : State) → Moved many loose bytes rest left k o s → ends_reading many o.opcode ≡ false
    → Stepped many loose bytes rest left (k + 1) s (is_stop o.opcode)
goes_on many bytes rest left k o s w miss =
    let stands : HasRead w.d (k + 1) rest left = rw miss at w.goes in
    record { d = w.d; reads = w.reads; stands = stands; reached = w.reached; heap = w.heap; ends = last_taken (items_of w.d) k o w.there }

pub stop_ends : {loose : Bool} (many : Bool) (bytes rest : List ℕ) (left k : ℕ) (o : Operation) (s : State) → Moved many loose bytes rest left k o s → ends_reading many o.opcode ≡ true → EndsIn many loose bytes s closing.Stopped
stop_ends many bytes rest left k o s w hit =
    let done : IsDone w.d (k + 1) rest None = rw hit at w.goes in
    let is : finish_of w.d ≡ finish.Stopped = sym (finish_stopped w.d done.ended) in
    (w.d, w.reads, (k + 1, w.reached, (sym done.all ∙ length-map (items_of w.d) (λ (i : Item). i.op), ap (end_at (tail_offset w.d)) is)))

-- no more items were read than there are bytes
pub place_small : {loose : Bool} (many : Bool) (bytes rest : List ℕ) (left k : ℕ) (s : State) (last : Bool) → Stepped many loose bytes rest left k s last → k ≤ length bytes
place_small many bytes rest left k s last w =
    let parts : length (ops_of w.d) ≡ length w.stands.done + length w.stands.to_come = ap length w.stands.parts ∙ length-append w.stands.done w.stands.to_come in
    omega (arith, parts, w.stands.count, length-map (items_of w.d) (λ (i : Item). i.op), few_items w.d, ap length w.reads.whole)
