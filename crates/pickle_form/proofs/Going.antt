-- The loop that goes over the items: what they come to so far, and what is found from there on.
use Rattle.std.proofs.Common.{◌≡◌, ℕ, zero, suc, ◌+◌, ◌<◌, ◌≤◌, Bool, true, false, List, [], ◌∷◌, length, drop, Option, Some, None, refl, sym, ap, ◌∙◌, add-one, arith, length-append}
use Rattle.std.specs.Prelude.{slice_get, nat_lt, if◌then◌else◌, ◌||◌}
use Rattle.std.proofs.lemmas.List.{drop_all, length-drop}
use Rattle.pickle_ops.specs.Spelling.{Operation, spelling, size_of}
use Rattle.pickle_doc.specs.declared.fault.TailFault.{TailFault}
use Rattle.pickle_doc.specs.DocUnit.{is_stop, ends_reading}
use Rattle.pickle_doc.specs.Document.{Contents, ReadsAs, ended_by, size_limit}
use Rattle.pickle_doc.specs.Place.{ops_of}
use Rattle.pickle_doc.specs.Tail.{HasTailFault}
use Rattle.pickle_doc.specs.Fitting.{left_behind}
use Rattle.pickle_doc.specs.Unread.{IsNextItem}
use Rattle.pickle_doc.specs.Stream.{HasRead, IsDone, IsItemAt}
use Rattle.pickle_doc.proofs.Streams.{stands_first, item_in, fault_in}
use Rattle.pickle_form.specs.declared.reason.Reason.{Reason}
use Rattle.pickle_form.specs.declared.reason.Reason.TheVariants as reason
use Rattle.pickle_form.specs.Run.{Run, is_frame, is_proto, is_large, loose_after}
use Rattle.pickle_form.specs.Form.{Before, begin, after, reason_of, fault_reason, end_reason, at_place, other_here, first_from, first_other}

-- k items of the document that the bytes read as were read, which come to this
pub record Going (d : Contents) (bytes rest : List ℕ) (left k offset : ℕ) (b : Before) : Type 0 where
  pub reads : ReadsAs false bytes d
  pub stands : HasRead d k rest left
  pub same : first_other d ≡ first_from d b k offset (drop k (ops_of d))
  pub size : offset + length rest ≡ length bytes
  pub small : length bytes ≤ size_limit
  pub few : k ≤ offset
  pub loose : b.run.loose ≤ offset

pub going_begins : (d : Contents) (bytes : List ℕ) → ReadsAs false bytes d → length bytes ≤ size_limit → Going d bytes bytes 0 0 0 begin
unfolding first_other
going_begins d bytes reads fits = record {
  reads = reads;
  stands = stands_first false false bytes d (omega (arith, fits)) reads;
  same = refl;
  size = omega arith;
  small = fits;
  few = omega arith;
  loose = omega arith;
}

-- ---- the end

ends_with : (d : Contents) (b : Before) (k offset : ℕ) (e : Option TailFault) (rest : List ℕ) → ended_by d ≡ e → d.tail ≡ rest
    → first_from d b k offset [] ≡ other_here k offset (end_reason e (length rest)) None
ends_with d b k offset e rest p q = rw (p, q) refl

done_at : (d : Contents) (b : Before) (k offset : ℕ) (rest : List ℕ) (e : Option TailFault) → IsDone d k rest e
    → first_from d b k offset (drop k (ops_of d)) ≡ other_here k offset (end_reason e (length rest)) None
done_at d b k offset rest e done =
    ap (first_from d b k offset) (drop_all k (ops_of d) (omega (arith, done.all))) ∙ ends_with d b k offset e rest done.ended done.tail

pub at_fault : (d : Contents) (bytes rest : List ℕ) (left k offset : ℕ) (b : Before) (f : TailFault) → Going d bytes rest left k offset b → HasTailFault false left rest f
    → first_other d ≡ Some (at_place k offset (fault_reason f))
at_fault d bytes rest left k offset b f w h = w.same ∙ done_at d b k offset rest (Some f) (fault_in false d k left rest f w.reads.framing w.stands h)

-- ---- an item

drop_next : {X : Type 0} (xs : List X) (k : ℕ) (x : X) → slice_get xs k ≡ Some x → drop k xs ≡ x ∷ drop (k + 1) xs
drop_next xs k x e = go xs k e ∙ ap (λ (n : ℕ). x ∷ drop n xs) (sym (add-one k))
  where
    go : {X : Type 0} {x : X} (xs : List X) (k : ℕ) → slice_get xs k ≡ Some x → drop k xs ≡ x ∷ drop (suc k) xs
    go [] k e = absurd cc
    go {x = x} (y ∷ ys) zero e = let same : y ≡ x = cc in ap (λ z. z ∷ ys) same
    go (y ∷ ys) (suc k) e = go ys k e

pub there : (d : Contents) (bytes rest : List ℕ) (left k offset : ℕ) (b : Before) (o : Operation) → Going d bytes rest left k offset b → IsNextItem false left rest o (size_of o)
    → IsItemAt d k o (drop (size_of o) rest) (left_behind false left o)
there d bytes rest left k offset b o w n = item_in false d k left rest o (size_of o) w.reads.framing w.stands n

item_at : (d : Contents) (bytes rest : List ℕ) (left k offset : ℕ) (b : Before) (o : Operation) → Going d bytes rest left k offset b → IsNextItem false left rest o (size_of o)
    → first_other d ≡ other_here k offset (reason_of o b) (first_from d (after o b) (k + 1) (offset + size_of o) (drop (k + 1) (ops_of d)))
item_at d bytes rest left k offset b o w n = w.same ∙ ap (first_from d b k offset) (drop_next (ops_of d) k o (there d bytes rest left k offset b o w n).there)

pub at_item : (d : Contents) (bytes rest : List ℕ) (left k offset : ℕ) (b : Before) (o : Operation) (why : Reason) → Going d bytes rest left k offset b → IsNextItem false left rest o (size_of o)
    → Some why ≡ reason_of o b → first_other d ≡ Some (at_place k offset why)
at_item d bytes rest left k offset b o why w n e =
    item_at d bytes rest left k offset b o w n
    ∙ ap (λ (r : Option Reason). other_here k offset r (first_from d (after o b) (k + 1) (offset + size_of o) (drop (k + 1) (ops_of d)))) (sym e)

-- behind an item that is in the form
pub behind : (d : Contents) (bytes rest : List ℕ) (left k offset : ℕ) (b : Before) (o : Operation) → Going d bytes rest left k offset b → IsNextItem false left rest o (size_of o)
    → None ≡ reason_of o b → first_other d ≡ first_from d (after o b) (k + 1) (offset + size_of o) (drop (k + 1) (ops_of d))
behind d bytes rest left k offset b o w n e =
    item_at d bytes rest left k offset b o w n
    ∙ ap (λ (r : Option Reason). other_here k offset r (first_from d (after o b) (k + 1) (offset + size_of o) (drop (k + 1) (ops_of d)))) (sym e)

-- ---- going on

size_at : (rest : List ℕ) (left : ℕ) (o : Operation) → IsNextItem false left rest o (size_of o) → size_of o + length (drop (size_of o) rest) ≡ length rest
size_at rest left o n = omega (arith, length-drop (size_of o) rest, ap length n.spelled, length-append (spelling o) n.rest)

loose_grows : (o : Operation) (r : Run) → loose_after o r ≤ r.loose + size_of o
loose_grows o r = by (is_frame o.opcode || is_proto o.opcode || is_large (size_of o) || nat_lt 0 r.left)
  where
    by : (b : Bool) → (if b then 0 else r.loose + size_of o) ≤ r.loose + size_of o
    by true = omega arith
    by false = omega arith

-- the bytes of an item, and what is in front of them, are no more than there are
pub record Within (bytes : List ℕ) (k offset : ℕ) (b : Before) (o : Operation) : Type 0 where
  pub place : k < length bytes
  pub behind : offset + size_of o ≤ length bytes
  pub loose : b.run.loose + size_of o ≤ length bytes
  pub small : length bytes ≤ size_limit

pub item_within : (d : Contents) (bytes rest : List ℕ) (left k offset : ℕ) (b : Before) (o : Operation) → Going d bytes rest left k offset b → IsNextItem false left rest o (size_of o)
    → Within bytes k offset b o
item_within d bytes rest left k offset b o w n = record {
  place = omega (arith, w.few, w.size, size_at rest left o n);
  behind = omega (arith, w.size, size_at rest left o n);
  loose = omega (arith, w.loose, w.size, size_at rest left o n);
  small = w.small;
}

-- no STOP was read, so that the reading goes on
pub goes_on : (d : Contents) (bytes rest : List ℕ) (left k offset : ℕ) (b : Before) (o : Operation) → Going d bytes rest left k offset b → IsNextItem false left rest o (size_of o)
    → None ≡ reason_of o b → is_stop o.opcode ≡ false → Going d bytes (drop (size_of o) rest) (left_behind false left o) (k + 1) (offset + size_of o) (after o b)
goes_on d bytes rest left k offset b o w n e go =
    let i = there d bytes rest left k offset b o w n in
    let more : ends_reading d.many o.opcode ≡ false = rw go refl in
    record {
      reads = w.reads;
      stands = rw more at i.goes;
      same = behind d bytes rest left k offset b o w n e;
      size = omega (arith, w.size, size_at rest left o n);
      small = w.small;
      few = omega (arith, w.few);
      loose = omega (arith, w.loose, loose_grows o b.run);
    }

-- STOP was read: the last item of the document
pub done_behind : (d : Contents) (bytes rest : List ℕ) (left k offset : ℕ) (b : Before) (o : Operation) → Going d bytes rest left k offset b → IsNextItem false left rest o (size_of o)
    → is_stop o.opcode ≡ true → IsDone d (k + 1) (drop (size_of o) rest) None
done_behind d bytes rest left k offset b o w n hit =
    let i = there d bytes rest left k offset b o w n in
    let shut : ends_reading d.many o.opcode ≡ true = rw (hit, w.reads.mode) refl in
    rw shut at i.goes

ended_at : (d : Contents) (bytes rest : List ℕ) (left k offset : ℕ) (b : Before) (o : Operation) → Going d bytes rest left k offset b → IsNextItem false left rest o (size_of o)
    → None ≡ reason_of o b → is_stop o.opcode ≡ true → first_other d ≡ other_here (k + 1) (offset + size_of o) (end_reason None (length (drop (size_of o) rest))) None
ended_at d bytes rest left k offset b o w n e hit =
    behind d bytes rest left k offset b o w n e
    ∙ done_at d (after o b) (k + 1) (offset + size_of o) (drop (size_of o) rest) None (done_behind d bytes rest left k offset b o w n hit)

pub at_end : (d : Contents) (bytes rest : List ℕ) (left k offset : ℕ) (b : Before) (o : Operation) → Going d bytes rest left k offset b → IsNextItem false left rest o (size_of o)
    → None ≡ reason_of o b → is_stop o.opcode ≡ true → nat_lt 0 (length (drop (size_of o) rest)) ≡ false → first_other d ≡ None
at_end d bytes rest left k offset b o w n e hit none = ended_at d bytes rest left k offset b o w n e hit ∙ rw none refl

pub at_bytes : (d : Contents) (bytes rest : List ℕ) (left k offset : ℕ) (b : Before) (o : Operation) → Going d bytes rest left k offset b → IsNextItem false left rest o (size_of o)
    → None ≡ reason_of o b → is_stop o.opcode ≡ true → nat_lt 0 (length (drop (size_of o) rest)) ≡ true → first_other d ≡ Some (at_place (k + 1) (offset + size_of o) reason.Behind)
at_bytes d bytes rest left k offset b o w n e hit some = ended_at d bytes rest left k offset b o w n e hit ∙ rw some refl
