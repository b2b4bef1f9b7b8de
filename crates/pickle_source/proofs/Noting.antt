-- The loop that steps over the items of a source and notes what they do: how far it has come, and how it ends.
use Rattle.std.proofs.Common.{◌≡◌, ℕ, suc, ◌+◌, ◌-◌, ◌<◌, ◌≤◌, ◌==◌, ◌&&◌, Bool, true, false, List, [], length, drop, Option, Some, None, Ok, refl, sym, ap, subst, ◌∙◌, arith, add-one, length-append}
use Rattle.std.specs.Prelude.{take, MatchBool, if◌then◌else◌}
use Rattle.std.proofs.lemmas.List.{take_all, length-map}
use Rattle.std.proofs.lemmas.Option.{slice_get_within}
use Rattle.pickle_ops.specs.declared.row.Row.{Row}
use Rattle.pickle_ops.specs.declared.row.Row.TheVariants as row
use Rattle.pickle_ops.specs.declared.row.Filling.TheVariants as filling
use Rattle.pickle_ops.specs.Spelling.{Operation, size_of}
use Rattle.pickle_ops.specs.Row.{row_of}
use Rattle.pickle_doc.specs.declared.item.Item.{Item}
use Rattle.pickle_doc.specs.declared.fault.TailFault.{TailFault}
use Rattle.pickle_doc.specs.declared.fault.Finish.TheVariants as finish
use Rattle.pickle_doc.specs.declared.fault.End.TheVariants as end
use Rattle.pickle_doc.specs.DocUnit.{bytes_of, is_stop, ends_reading}
use Rattle.pickle_doc.specs.Document.{Contents, items_of, ends_with_stop, finish_by, finish_of, document_bytes, ReadsIn, size_limit}
use Rattle.pickle_doc.specs.Tail.{HasTailFault}
use Rattle.pickle_doc.specs.Fitting.{left_behind}
use Rattle.pickle_doc.specs.Unread.{IsNextItem}
use Rattle.pickle_doc.specs.Place.{ops_of, item_at, offset_of, tail_offset, end_at}
use Rattle.pickle_doc.specs.Stream.{HasRead, IsDone}
use Rattle.pickle_doc.proofs.Ends.{finish_at, finish_stopped}
use Rattle.pickle_doc.proofs.Streams.{stands_first, item_in, fault_in}
use Rattle.pickle_doc.proofs.Units.{length_bytes}
use Rattle.pickle_machine.specs.declared.refusal.Refusal.{Refusal}
use Rattle.pickle_machine.specs.State.{State, start}
use Rattle.pickle_machine.specs.Move.{move, next, refusal_of, refusal_at, begun, fresh}
use Rattle.pickle_machine.specs.Run.{run}
use Rattle.pickle_text.specs.declared.closing.Closing.TheVariants as closing
use Rattle.pickle_text.specs.Closing.{closing_at, refused_on}
use Rattle.pickle_text.proofs.Runs.{run_nothing, run_next, few_items, last_taken}
use Rattle.pickle_text.proofs.Places.{offset_next, offset_small, ops_within}
use Rattle.object_texts.specs.Report.{Closes}
use Rattle.pickle_calls.specs.Event.{before_of}
use Rattle.pickle_calls.proofs.Walking.{accepted}
use Rattle.pickle_source.specs.declared.fact.Fact.{Fact}
use Rattle.pickle_source.specs.declared.act.Act.{Act}
use Rattle.pickle_source.specs.Act.{protocol_after}
use Rattle.pickle_source.specs.Tale.{noted, noted_act, facts_at, protocol_at, acts_at, TaleOf}
use Rattle.pickle_source.specs.Inside.Noted.{GoesAlong, Noted}

-- ---- nothing was read

facts_none : (d : Contents) → facts_at d 0 ≡ []
unfolding facts_at
facts_none d = refl

acts_none : (d : Contents) → acts_at d 0 ≡ []
unfolding acts_at
acts_none d = refl

pub noted_none : {loose : Bool} (many : Bool) (bytes : List ℕ) → (some : (d : Contents) × ReadsIn many loose bytes d) → length bytes ≤ size_limit
    → Noted many loose bytes bytes 0 0 0 (start many) false 0 [] []
noted_none many bytes some small = record {
  d = some.0;
  reads = some.1;
  stands = stands_first many _ bytes some.0 (omega (arith, small)) some.1;
  reached = run_nothing (start some.0.many) (ops_of some.0) ∙ ap (λ (b : Bool). Some (start b)) some.1.mode;
  heap = omega arith;
  ends = refl;
  along = record { stands = refl; read_by = refl; known = sym (facts_none some.0); done = sym (acts_none some.0) };
}

-- ---- what is noted of an item

-- the first step of a further pickle fetches nothing and fills nothing, so that the same is noted from the state of the pickle before
facts_begun : (r : Row) (s t : State) (facts : List Fact) → refusal_of r (begun s) ≡ None → noted r (before_of s) t facts ≡ noted r (before_of (begun s)) t facts
facts_begun (row.Change filling.Append) s t facts e = absurd cc
facts_begun (row.Change filling.SetItem) s t facts e = absurd cc
facts_begun (row.Change filling.Add) s t facts e = absurd cc
facts_begun (row.Change filling.Build) s t facts e = absurd cc
facts_begun (row.CutChange f) s t facts e = absurd cc
facts_begun _ s t facts e = refl

facts_by : (b : Bool) (r : Row) (s t : State) (facts : List Fact) → refusal_of r (if b then begun s else s) ≡ None
    → noted r (before_of s) t facts ≡ noted r (before_of (if b then begun s else s)) t facts
facts_by true r s t facts e = facts_begun r s t facts e
facts_by false r s t facts e = refl

acts_begun : (offset protocol : ℕ) (r : Row) (s t : State) (acts : List Act) → refusal_of r (begun s) ≡ None → noted_act offset protocol r (before_of s) t acts ≡ noted_act offset protocol r (before_of (begun s)) t acts
acts_begun offset protocol (row.Change filling.Append) s t acts e = absurd cc
acts_begun offset protocol (row.Change filling.SetItem) s t acts e = absurd cc
acts_begun offset protocol (row.Change filling.Add) s t acts e = absurd cc
acts_begun offset protocol (row.Change filling.Build) s t acts e = absurd cc
acts_begun offset protocol (row.CutChange f) s t acts e = absurd cc
acts_begun offset protocol row.Stop s t acts e = absurd cc
acts_begun offset protocol _ s t acts e = refl

acts_by : (b : Bool) (offset protocol : ℕ) (r : Row) (s t : State) (acts : List Act) → refusal_of r (if b then begun s else s) ≡ None
    → noted_act offset protocol r (before_of s) t acts ≡ noted_act offset protocol r (before_of (if b then begun s else s)) t acts
acts_by true offset protocol r s t acts e = acts_begun offset protocol r s t acts e
acts_by false offset protocol r s t acts e = refl

pub facts_is : (o : Operation) (k : ℕ) (s t : State) (facts : List Fact) → move o k s ≡ Ok t → noted (row_of o) (before_of s) t facts ≡ noted (row_of o) (before_of (fresh s)) t facts
facts_is o k s t facts e = facts_by s.stopped (row_of o) s t facts (accepted (refusal_at o s) (next o k s) t e)

pub acts_is : (o : Operation) (k offset protocol : ℕ) (s t : State) (acts : List Act) → move o k s ≡ Ok t
    → noted_act offset protocol (row_of o) (before_of s) t acts ≡ noted_act offset protocol (row_of o) (before_of (fresh s)) t acts
acts_is o k offset protocol s t acts e = acts_by s.stopped offset protocol (row_of o) s t acts (accepted (refusal_at o s) (next o k s) t e)

pub facts_next : (d : Contents) (k : ℕ) (o : Operation) (s t : State) → item_at d k ≡ Some o → run (start d.many) (ops_of d) k ≡ Some s → run (start d.many) (ops_of d) (suc k) ≡ Some t
    → facts_at d (suc k) ≡ noted (row_of o) (before_of (fresh s)) t (facts_at d k)
unfolding facts_at
facts_next d k o s t e r g = rw (e, r, g) refl

pub acts_next : (d : Contents) (k : ℕ) (o : Operation) (s t : State) → item_at d k ≡ Some o → run (start d.many) (ops_of d) k ≡ Some s → run (start d.many) (ops_of d) (suc k) ≡ Some t
    → acts_at d (suc k) ≡ noted_act (offset_of d k) (protocol_at d k) (row_of o) (before_of (fresh s)) t (acts_at d k)
unfolding acts_at
acts_next d k o s t e r g = rw (e, r, g) refl

protocol_next : (d : Contents) (k : ℕ) (o : Operation) → item_at d k ≡ Some o → protocol_at d (suc k) ≡ protocol_after (row_of o) (protocol_at d k)
protocol_next d k o e = rw e refl

-- item k was stepped, and this was noted
pub went_on : (d : Contents) (k offset : ℕ) (protocol next_protocol : ℕ) (facts next_facts : List Fact) (acts next_acts : List Act) (o : Operation) (s t : State)
    → GoesAlong d k offset protocol facts acts → item_at d k ≡ Some o → run (start d.many) (ops_of d) k ≡ Some s → run (start d.many) (ops_of d) (k + 1) ≡ Some t → move o k s ≡ Ok t
    → next_facts ≡ noted (row_of o) (before_of s) t facts → next_acts ≡ noted_act offset protocol (row_of o) (before_of s) t acts
    → next_protocol ≡ protocol_after (row_of o) protocol → GoesAlong d (k + 1) (offset + size_of o) next_protocol next_facts next_acts
went_on d k offset protocol next_protocol facts next_facts acts next_acts o s t w there r g m f a n =
    let after : run (start d.many) (ops_of d) (suc k) ≡ Some t = rw (sym (add-one k)) g in
    let same : noted_act offset protocol (row_of o) (before_of (fresh s)) t acts ≡ noted_act (offset_of d k) (protocol_at d k) (row_of o) (before_of (fresh s)) t (acts_at d k) =
    ap (λ (x : ℕ). noted_act x protocol (row_of o) (before_of (fresh s)) t acts) w.stands
    ∙ ap (λ (x : ℕ). noted_act (offset_of d k) x (row_of o) (before_of (fresh s)) t acts) w.read_by
    ∙ ap (λ (x : List Act). noted_act (offset_of d k) (protocol_at d k) (row_of o) (before_of (fresh s)) t x) w.done in
    record {
      stands = rw w.stands (sym (offset_next d k o there));
      read_by = rw (add-one k) (n ∙ ap (λ (x : ℕ). protocol_after (row_of o) x) w.read_by ∙ sym (protocol_next d k o there));
      known = rw (add-one k) (f ∙ facts_is o k s t facts m ∙ ap (λ (x : List Fact). noted (row_of o) (before_of (fresh s)) t x) w.known ∙ sym (facts_next d k o s t there r after));
      done = rw (add-one k) (a ∙ acts_is o k offset protocol s t acts m ∙ same ∙ sym (acts_next d k o s t there r after));
    }

-- ---- ends

-- there are no more items than bytes
pub place_within : {loose : Bool} (many : Bool) (bytes rest : List ℕ) (left k offset : ℕ) (o : Operation) (s : State) (last : Bool) (protocol : ℕ) (facts : List Fact) (acts : List Act)
    → Noted many loose bytes rest left k offset s last protocol facts acts → IsNextItem loose left rest o (size_of o) → k < length bytes
place_within many bytes rest left k offset o s last protocol facts acts w n =
    let g = item_in _ w.d k left rest o (size_of o) w.reads.framing w.stands n in
    let within : k < length (ops_of w.d) = slice_get_within (ops_of w.d) k o g.there in
    omega (arith, within, length-map (items_of w.d) (λ (i : Item). i.op), few_items w.d, ap length w.reads.whole)

-- the offset behind the next item is no more than there are bytes
pub offset_within : {loose : Bool} (many : Bool) (bytes rest : List ℕ) (left k offset : ℕ) (o : Operation) (s : State) (last : Bool) (protocol : ℕ) (facts : List Fact) (acts : List Act)
    → Noted many loose bytes rest left k offset s last protocol facts acts → IsNextItem loose left rest o (size_of o) → offset + size_of o ≤ length bytes
offset_within many bytes rest left k offset o s last protocol facts acts w n =
    let g = item_in _ w.d k left rest o (size_of o) w.reads.framing w.stands n in
    let size : length (document_bytes w.d) ≡ length bytes = ap length w.reads.whole in
    omega (arith, w.along.stands, offset_next w.d k o g.there, offset_small w.d (k + 1), ops_within w.d, size)

-- item k is refused
pub refused_ends : {loose : Bool} (many : Bool) (bytes rest : List ℕ) (left k offset : ℕ) (o : Operation) (s : State) (last : Bool) (protocol : ℕ) (facts : List Fact) (acts : List Act) (r : Refusal)
    → Noted many loose bytes rest left k offset s last protocol facts acts → IsNextItem loose left rest o (size_of o) → refusal_at o s ≡ Some r → TaleOf many loose bytes s facts acts (closing.Refused k r)
refused_ends many bytes rest left k offset o s last protocol facts acts r w n f =
    let g = item_in _ w.d k left rest o (size_of o) w.reads.framing w.stands n in (
      w.d,
      w.reads,
      record { place = k; reached = w.reached; closes = (refl, ap (λ (x : Option Operation). refused_on x s) g.there ∙ f); facts_are = w.along.known; acts_are = w.along.done },
    )

-- all items were stepped over, and the document ends so
tail_closes : (d : Contents) (k : ℕ) (s : State) (f : TailFault) (x : Bool) (offset : ℕ) → length (ops_of d) ≡ k → finish_of d ≡ finish_by x (Some f) → tail_offset d ≡ offset
    → Closes d k s (closing_at x f offset)
tail_closes d k s f true offset all is at = (sym all ∙ length-map (items_of d) (λ (i : Item). i.op), ap (end_at (tail_offset d)) is)
tail_closes d k s f false offset all is at =
    (sym all ∙ length-map (items_of d) (λ (i : Item). i.op), ap (end_at (tail_offset d)) is ∙ ap (λ (n : ℕ). end.Fault f n) at)

-- what is not read has this fault
pub tail_ends : {loose : Bool} (many : Bool) (bytes rest : List ℕ) (left k offset : ℕ) (s : State) (last : Bool) (protocol : ℕ) (facts : List Fact) (acts : List Act) (f : TailFault)
    → Noted many loose bytes rest left k offset s last protocol facts acts → HasTailFault loose left rest f
    → TaleOf many loose bytes s facts acts (closing_at (length rest == 0 && last) f (length bytes - length rest))
tail_ends many bytes rest left k offset s last protocol facts acts f w h =
    let done = fault_in _ w.d k left rest f w.reads.framing w.stands h in
    let all : take k (items_of w.d) ≡ items_of w.d = take_all k (items_of w.d) (omega (arith, done.all, length-map (items_of w.d) (λ (i : Item). i.op))) in
    let last_is : ends_with_stop (items_of w.d) ≡ last = ap ends_with_stop (sym all) ∙ w.ends in
    let stopped : (length w.d.tail == 0 && ends_with_stop (items_of w.d)) ≡ (length rest == 0 && last) = rw (last_is, done.tail) refl in
    let is : finish_of w.d ≡ finish_by (length rest == 0 && last) (Some f) = sym (finish_at w.d f (length rest == 0 && last) done.ended stopped) in
    let at : tail_offset w.d ≡ length bytes - length rest =
    omega (arith, length_bytes (items_of w.d), length-append (bytes_of (ops_of w.d)) w.d.tail, ap length w.reads.whole, ap length done.tail) in (
      w.d,
      w.reads,
      record {
        place = k;
        reached = w.reached;
        closes = tail_closes w.d k s f (length rest == 0 && last) (length bytes - length rest) done.all is at;
        facts_are = w.along.known;
        acts_are = w.along.done;
      },
    )

-- what is not read are no more bytes than all
pub tail_within : {loose : Bool} (many : Bool) (bytes rest : List ℕ) (left k offset : ℕ) (s : State) (last : Bool) (protocol : ℕ) (facts : List Fact) (acts : List Act) (f : TailFault)
    → Noted many loose bytes rest left k offset s last protocol facts acts → HasTailFault loose left rest f → length rest ≤ length bytes
tail_within many bytes rest left k offset s last protocol facts acts f w h =
    let done = fault_in _ w.d k left rest f w.reads.framing w.stands h in
    omega (arith, length-append (bytes_of (ops_of w.d)) w.d.tail, ap length w.reads.whole, ap length done.tail)

-- ---- item k

-- item k was stepped: what is read now stands after it
pub record Moved (many loose : Bool) (bytes rest : List ℕ) (left k offset : ℕ) (o : Operation) (s : State) (protocol : ℕ) (facts : List Fact) (acts : List Act) : Type 0 where
  pub d : Contents
  pub reads : ReadsIn many loose bytes d
  pub there : item_at d k ≡ Some o
  pub goes : MatchBool (ends_reading many o.opcode) (IsDone d (k + 1) rest None) (HasRead d (k + 1) rest left)
  pub reached : run (start d.many) (ops_of d) (k + 1) ≡ Some s
  pub heap : length s.heap ≤ k + 1
  pub along : GoesAlong d (k + 1) offset protocol facts acts

pub moved : {loose : Bool} (many : Bool) (bytes rest : List ℕ) (left k offset : ℕ) (o : Operation) (s t : State) (last : Bool) (protocol next_protocol : ℕ) (facts next_facts : List Fact) (acts next_acts : List Act)
    → Noted many loose bytes rest left k offset s last protocol facts acts → IsNextItem loose left rest o (size_of o) → move o k s ≡ Ok t → length t.heap ≤ length s.heap + 1
    → next_facts ≡ noted (row_of o) (before_of s) t facts → next_acts ≡ noted_act offset protocol (row_of o) (before_of s) t acts
    → next_protocol ≡ protocol_after (row_of o) protocol
    → Moved many loose bytes (drop (size_of o) rest) (left_behind loose left o) k (offset + size_of o) o t next_protocol next_facts next_acts
moved {loose = loose} many bytes rest left k offset o s t last protocol next_protocol facts next_facts acts next_acts w n m h f a i =
    let g = item_in _ w.d k left rest o (size_of o) w.reads.framing w.stands n in
    let reached : run (start w.d.many) (ops_of w.d) (k + 1) ≡ Some t = run_next (start w.d.many) (ops_of w.d) o k s t w.reached g.there m in
    record {
      d = w.d;
      reads = w.reads;
      there = g.there;
      goes = subst (λ (x : Bool). MatchBool (ends_reading x o.opcode) (IsDone w.d (k + 1) (drop (size_of o) rest) None) (HasRead w.d (k + 1) (drop (size_of o) rest) (left_behind loose left o))) w.reads.mode g.goes;
      reached = reached;
      heap = omega (arith, h, w.heap);
      along = went_on w.d k offset protocol next_protocol facts next_facts acts next_acts o s t w.along g.there w.reached reached m f a i;
    }

pub goes_on : {loose : Bool} (many : Bool) (bytes rest : List ℕ) (left k offset : ℕ) (o : Operation) (s : State) (protocol : ℕ) (facts : List Fact) (acts : List Act)
    → Moved many loose bytes rest left k offset o s protocol facts acts → ends_reading many o.opcode ≡ false
    → Noted many loose bytes rest left (k + 1) offset s (is_stop o.opcode) protocol facts acts
goes_on many bytes rest left k offset o s protocol facts acts w miss =
    let stands : HasRead w.d (k + 1) rest left = rw miss at w.goes in
    record { d = w.d; reads = w.reads; stands = stands; reached = w.reached; heap = w.heap; ends = last_taken (items_of w.d) k o w.there; along = w.along }

pub stop_ends : {loose : Bool} (many : Bool) (bytes rest : List ℕ) (left k offset : ℕ) (o : Operation) (s : State) (protocol : ℕ) (facts : List Fact) (acts : List Act)
    → Moved many loose bytes rest left k offset o s protocol facts acts → ends_reading many o.opcode ≡ true → TaleOf many loose bytes s facts acts closing.Stopped
stop_ends many bytes rest left k offset o s protocol facts acts w hit =
    let done : IsDone w.d (k + 1) rest None = rw hit at w.goes in
    let is : finish_of w.d ≡ finish.Stopped = sym (finish_stopped w.d done.ended) in (
      w.d,
      w.reads,
      record {
        place = k + 1;
        reached = w.reached;
        closes = (sym done.all ∙ length-map (items_of w.d) (λ (i : Item). i.op), ap (end_at (tail_offset w.d)) is);
        facts_are = w.along.known;
        acts_are = w.along.done;
      },
    )

-- no more items were read than there are bytes
pub place_small : {loose : Bool} (many : Bool) (bytes rest : List ℕ) (left k offset : ℕ) (s : State) (last : Bool) (protocol : ℕ) (facts : List Fact) (acts : List Act)
    → Noted many loose bytes rest left k offset s last protocol facts acts → k ≤ length bytes
place_small many bytes rest left k offset s last protocol facts acts w =
    let parts : length (ops_of w.d) ≡ length w.stands.done + length w.stands.to_come = ap length w.stands.parts ∙ length-append w.stands.done w.stands.to_come in
    omega (arith, parts, w.stands.count, length-map (items_of w.d) (λ (i : Item). i.op), few_items w.d, ap length w.reads.whole)
