-- The rounds of the gate's loop: how one begins, goes on and ends.
use Rattle.std.proofs.Common.{◌≡◌, ℕ, ◌+◌, ◌≤◌, Bool, true, false, List, [], length, drop, Some, None, Ok, refl, arith}
use Rattle.std.specs.Prelude.{nat_lt, if◌then◌else◌}
use Rattle.pickle_ops.specs.Spelling.{Operation, size_of}
use Rattle.pickle_ops.specs.Row.{row_of}
use Rattle.pickle_doc.specs.declared.fault.TailFault.{TailFault}
use Rattle.pickle_doc.specs.DocUnit.{is_stop}
use Rattle.pickle_doc.specs.Document.{Contents, ReadsAs, size_limit}
use Rattle.pickle_doc.specs.Place.{ops_of}
use Rattle.pickle_doc.specs.Tail.{HasTailFault}
use Rattle.pickle_doc.specs.Fitting.{left_behind}
use Rattle.pickle_doc.specs.Unread.{IsNextItem}
use Rattle.pickle_machine.specs.declared.refusal.Refusal.{Refusal}
use Rattle.pickle_machine.specs.State.{State, start}
use Rattle.pickle_machine.specs.Move.{move, refusal_at}
use Rattle.pickle_text.specs.declared.closing.Closing.TheVariants as closing
use Rattle.pickle_calls.specs.declared.end.Ending.TheVariants as ending
use Rattle.pickle_calls.specs.Event.{before_of, event_of}
use Rattle.pickle_text.proofs.Places.{within}
use Rattle.pickle_form.specs.declared.reason.Reason.{Reason}
use Rattle.pickle_form.specs.declared.reason.Reason.TheVariants as reason
use Rattle.pickle_form.specs.Form.{Before, begin, after, reason_of, fault_reason, at_place, first_other}
use Rattle.pickle_form.proofs.Going.{Going, Within, going_begins, there, item_within, at_fault, at_item, behind, goes_on, done_behind, at_end, at_bytes}
use Rattle.pickle_allow.specs.declared.list.Entry.{Entry}
use Rattle.pickle_gate.specs.declared.packed.Kept.{Kept}
use Rattle.pickle_gate.specs.declared.verdict.Verdict.TheVariants as verdict
use Rattle.pickle_gate.specs.declared.judge.Made.TheVariants as made
use Rattle.pickle_gate.specs.Kept.{judged_event, kept_behind, protocol_here}
use Rattle.pickle_gate.specs.Verdict.{in_form, IsVerdict}
use Rattle.pickle_gate.proofs.Gating.{Far, far_begins, far_goes_on, form_reaches, says_other, says_passes, says_forbidden, says_refused}

-- of the document that the bytes read as, the first k items are in the form, were run and are allowed
pub record Round (list : List Entry) (bytes rest : List ℕ) (left k offset : ℕ) (b : Before) (s : State) (proto : ℕ) (keeps : List Kept) : Type 0 where
  pub d : Contents
  pub going : Going d bytes rest left k offset b
  pub far : Far list d k offset s proto keeps

pub begins : (list : List Entry) (bytes : List ℕ) (proto : ℕ) → ((d : Contents) × ReadsAs false bytes d) → length bytes ≤ size_limit → Round list bytes bytes 0 0 0 begin (start false) proto []
begins list bytes proto some fits = record {
  d = some.0;
  going = going_begins some.0 bytes some.1 fits;
  far = far_begins list some.0 proto some.1.mode;
}

pub ends_at_fault : {list : List Entry} {proto : ℕ} {keeps : List Kept} (bytes rest : List ℕ) (left k offset : ℕ) (b : Before) (s : State) (f : TailFault)
    → Round list bytes rest left k offset b s proto keeps → HasTailFault false left rest f → IsVerdict list bytes (verdict.Other (at_place k offset (fault_reason f)))
ends_at_fault {list = list} bytes rest left k offset b s f w h =
    (w.d, w.going.reads, says_other list w.d k offset (fault_reason f) s (at_fault w.d bytes rest left k offset b f w.going h) w.far.allowed w.far.reached)

pub ends_out_of_form : {list : List Entry} {proto : ℕ} {keeps : List Kept} (bytes rest : List ℕ) (left k offset : ℕ) (b : Before) (s : State) (o : Operation) (why : Reason)
    → Round list bytes rest left k offset b s proto keeps → IsNextItem false left rest o (size_of o) → Some why ≡ reason_of o b → IsVerdict list bytes (verdict.Other (at_place k offset why))
ends_out_of_form {list = list} bytes rest left k offset b s o why w n e =
    (w.d, w.going.reads, says_other list w.d k offset why s (at_item w.d bytes rest left k offset b o why w.going n e) w.far.allowed w.far.reached)

-- an item in the form is one of those before the first that is not
reaches : (d : Contents) (bytes rest : List ℕ) (left k offset : ℕ) (b : Before) (o : Operation) → Going d bytes rest left k offset b → IsNextItem false left rest o (size_of o) → None ≡ reason_of o b
    → k + 1 ≤ in_form d (first_other d)
reaches d bytes rest left k offset b o w n e =
    form_reaches d (after o b) (k + 1) (offset + size_of o) (omega (arith, within (ops_of d) k o (there d bytes rest left k offset b o w n).there)) (behind d bytes rest left k offset b o w n e)

pub ends_refused : {list : List Entry} {proto : ℕ} {keeps : List Kept} (bytes rest : List ℕ) (left k offset : ℕ) (b : Before) (s : State) (o : Operation) (r : Refusal)
    → Round list bytes rest left k offset b s proto keeps → IsNextItem false left rest o (size_of o) → None ≡ reason_of o b → refusal_at o s ≡ Some r
    → IsVerdict list bytes (verdict.Ends (ending.Closed 0 (closing.Refused k r)))
ends_refused {list = list} bytes rest left k offset b s o r w n e f =
    let i = there w.d bytes rest left k offset b o w.going n in
    (w.d, w.going.reads, says_refused list w.d k o s r w.going.reads.mode w.far.reached w.far.allowed i.there f (reaches w.d bytes rest left k offset b o w.going n e))

-- an item in the form that has a move: the state behind it, the protocol of imports there
pub record Stepped (k : ℕ) (b : Before) (s t : State) (o : Operation) (proto p : ℕ) : Type 0 where
  pub formed : None ≡ reason_of o b
  pub moves : move o k s ≡ Ok t
  pub protocol : p ≡ protocol_here k o proto

pub ends_forbidden : {list : List Entry} {proto : ℕ} {keeps : List Kept} (bytes rest : List ℕ) (left k offset : ℕ) (b : Before) (s t : State) (o : Operation) (p : ℕ)
    → Round list bytes rest left k offset b s proto keeps → IsNextItem false left rest o (size_of o) → Stepped k b s t o proto p
    → made.Forbidden ≡ judged_event list p t.heap keeps (event_of (row_of o) (before_of s) t) → IsVerdict list bytes (verdict.Forbidden k offset)
ends_forbidden {list = list} {proto = proto} {keeps = keeps} bytes rest left k offset b s t o p w n m bad =
    let i = there w.d bytes rest left k offset b o w.going n in
    (w.d, w.going.reads, says_forbidden list w.d k offset o s t proto p keeps w.far i.there m.moves m.protocol bad (reaches w.d bytes rest left k offset b o w.going n m.formed))

pub goes_round : {list : List Entry} {proto : ℕ} {keeps : List Kept} (bytes rest : List ℕ) (left k offset : ℕ) (b : Before) (s t : State) (o : Operation) (p : ℕ) (g : Kept)
    → Round list bytes rest left k offset b s proto keeps → IsNextItem false left rest o (size_of o) → Stepped k b s t o proto p
    → made.Allowed g ≡ judged_event list p t.heap keeps (event_of (row_of o) (before_of s) t) → is_stop o.opcode ≡ false
    → Round list bytes (drop (size_of o) rest) (left_behind false left o) (k + 1) (offset + size_of o) (after o b) t p (kept_behind t.heap g (event_of (row_of o) (before_of s) t) keeps)
goes_round {list = list} {proto = proto} {keeps = keeps} bytes rest left k offset b s t o p g w n m good go =
    let i = there w.d bytes rest left k offset b o w.going n in
    record {
      d = w.d;
      going = goes_on w.d bytes rest left k offset b o w.going n m.formed go;
      far = far_goes_on list w.d k offset o s t proto p keeps g w.far i.there m.moves m.protocol good;
    }

pub ends_at_stop : {list : List Entry} {proto : ℕ} {keeps : List Kept} (bytes rest : List ℕ) (left k offset : ℕ) (b : Before) (s t : State) (o : Operation) (p : ℕ) (g : Kept)
    → Round list bytes rest left k offset b s proto keeps → IsNextItem false left rest o (size_of o) → Stepped k b s t o proto p
    → made.Allowed g ≡ judged_event list p t.heap keeps (event_of (row_of o) (before_of s) t) → is_stop o.opcode ≡ true
    → IsVerdict list bytes (if nat_lt 0 (length (drop (size_of o) rest)) then verdict.Other (at_place (k + 1) (offset + size_of o) reason.Behind) else verdict.Passes)
ends_at_stop {list = list} {proto = proto} {keeps = keeps} bytes rest left k offset b s t o p g w n m good hit =
    by (nat_lt 0 (length (drop (size_of o) rest))) refl
  where
    far : Far list w.d (k + 1) (offset + size_of o) t p (kept_behind t.heap g (event_of (row_of o) (before_of s) t) keeps)
    far = far_goes_on list w.d k offset o s t proto p keeps g w.far (there w.d bytes rest left k offset b o w.going n).there m.moves m.protocol good

    by : (more : Bool) → nat_lt 0 (length (drop (size_of o) rest)) ≡ more → IsVerdict list bytes (if more then verdict.Other (at_place (k + 1) (offset + size_of o) reason.Behind) else verdict.Passes)
    by true q = (w.d, w.going.reads, says_other list w.d (k + 1) (offset + size_of o) reason.Behind t (at_bytes w.d bytes rest left k offset b o w.going n m.formed hit q) far.allowed far.reached)
    by false q = (w.d, w.going.reads, says_passes list w.d (k + 1) t (at_end w.d bytes rest left k offset b o w.going n m.formed hit q) (done_behind w.d bytes rest left k offset b o w.going n hit).all far.allowed far.reached)

-- what is there of an item
pub record Bounds (bytes : List ℕ) (k offset : ℕ) (b : Before) (s : State) (o : Operation) : Type 0 where
  pub within : Within bytes k offset b o
  pub heap : length s.heap ≤ k

pub bounds : {list : List Entry} {proto : ℕ} {keeps : List Kept} (bytes rest : List ℕ) (left k offset : ℕ) (b : Before) (s : State) (o : Operation)
    → Round list bytes rest left k offset b s proto keeps → IsNextItem false left rest o (size_of o) → Bounds bytes k offset b s o
bounds bytes rest left k offset b s o w n = record { within = item_within w.d bytes rest left k offset b o w.going n; heap = w.far.heap }
