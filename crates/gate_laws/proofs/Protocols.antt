-- A pickle in the form of picklers has one protocol, which PROTO in front says.
use Rattle.std.proofs.Common.{◌≡◌, ℕ, zero, suc, ◌+◌, Bool, true, false, List, [], ◌∷◌, Option, Some, None, refl, sym, ap, subst, ◌∙◌}
use Rattle.std.specs.Prelude.{◌||◌, not, slice_get, if◌then◌else◌}
use Rattle.pickle_ops.specs.declared.opcode.Opcode.{Opcode}
use Rattle.pickle_ops.specs.declared.opcode.Opcode.TheVariants as op
use Rattle.pickle_ops.specs.declared.form.Form.TheVariants as form
use Rattle.pickle_ops.specs.Argument.{number_of}
use Rattle.pickle_ops.specs.Spelling.{Operation, size_of}
use Rattle.pickle_doc.specs.DocUnit.{is_stop}
use Rattle.pickle_doc.specs.Document.{Contents, ReadsAs, OnlyLastStops, items_of}
use Rattle.pickle_doc.specs.Place.{ops_of, item_at}
use Rattle.pickle_form.specs.declared.reason.Reason.{Reason}
use Rattle.pickle_form.specs.declared.reason.Reason.TheVariants as reason
use Rattle.pickle_form.specs.declared.reason.Other.{Other}
use Rattle.pickle_form.specs.Spelled.{unless, or_else, other_argument}
use Rattle.pickle_form.specs.Run.{is_proto, other_proto, other_run}
use Rattle.pickle_form.specs.Form.{Before, begin, reason_of, after, other_here, first_from, first_other}
use Rattle.pickle_loader.specs.Listed.{protocol_after, protocol_at}
use Rattle.pickle_loader.proofs.Listing.{next_protocol}
use Rattle.pickle_loader.proofs.Still.{no_stop}
use Rattle.pickle_gate.specs.Gate.{protocol_said, protocol_of}

-- ---- PROTO stands in front alone

none_here : (place offset : ℕ) (r : Option Reason) (rest : Option Other) → other_here place offset r rest ≡ None → (r ≡ None) × (rest ≡ None)
none_here place offset None rest e = (refl, e)
none_here place offset (Some r) rest e = absurd cc

none_else : (x y : Option Reason) → or_else x y ≡ None → (x ≡ None) × (y ≡ None)
none_else None y e = (refl, e)
none_else (Some r) y e = absurd cc

unless_none : (b : Bool) (r : Reason) → unless b r ≡ None → b ≡ true
unless_none true r e = refl
unless_none false r e = absurd cc

not_both : (p b : Bool) → b ≡ true → (not p || not b) ≡ true → p ≡ false
not_both true true e f = absurd cc
not_both true false e f = absurd cc
not_both false b e f = refl

no_proto : (o : Operation) (b : Before) → b.run.begun ≡ true → reason_of o b ≡ None → is_proto o.opcode ≡ false
no_proto o b begun e =
    let one = none_else (other_argument o.opcode o.arg) _ e in
    let two = none_else (other_run o b.run) _ one.1 in
    let three = none_else (other_proto o b.run) _ two.0 in
    not_both (is_proto o.opcode) b.run.begun begun (unless_none (not (is_proto o.opcode) || not b.run.begun) reason.SecondProtocol three.0)

none_later : (d : Contents) (b : Before) (place offset : ℕ) (ops : List Operation) → b.run.begun ≡ true → first_from d b place offset ops ≡ None → (k : ℕ) (o : Operation) → slice_get ops k ≡ Some o → is_proto o.opcode ≡ false
none_later d b place offset [] begun e k o f = absurd cc
none_later d b place offset (x ∷ ops) begun e zero o f =
    let same : x ≡ o = cc in
    ap (λ (y : Operation). is_proto y.opcode) (sym same) ∙ no_proto x b begun (none_here place offset (reason_of x b) _ e).0
none_later d b place offset (x ∷ ops) begun e (suc k) o f = none_later d (after x b) (place + 1) (offset + size_of x) ops refl (none_here place offset (reason_of x b) _ e).1 k o f

front_alone : (d : Contents) (ops : List Operation) → first_from d begin 0 0 ops ≡ None → (k : ℕ) (o : Operation) → slice_get ops (suc k) ≡ Some o → is_proto o.opcode ≡ false
front_alone d [] e k o f = absurd cc
front_alone d (x ∷ ops) e k o f = none_later d (after x begin) (0 + 1) (0 + size_of x) ops refl (none_here 0 0 (reason_of x begin) _ e).1 k o f

pub one_protocol : (d : Contents) → first_other d ≡ None → (k : ℕ) (o : Operation) → item_at d (suc k) ≡ Some o → is_proto o.opcode ≡ false
unfolding first_other
one_protocol d e k o f = front_alone d (ops_of d) e k o f

-- ---- which it is

said_first : (o : Opcode) (arg : List ℕ) → protocol_after o arg 0 ≡ (if is_proto o then number_of form.Uint1 arg else 0)
said_first op.Proto arg = refl
said_first op.Stop arg = refl
said_first _ arg = refl

stays_same : (o : Opcode) (arg : List ℕ) (n : ℕ) → is_proto o ≡ false → is_stop o ≡ false → protocol_after o arg n ≡ n
stays_same op.Proto arg n e f = absurd cc
stays_same op.Stop arg n e f = absurd cc
stays_same _ arg n e f = refl

earlier : (ops : List Operation) (k : ℕ) (o : Operation) → slice_get ops (suc k) ≡ Some o → (x : Operation) × (slice_get ops k ≡ Some x)
earlier [] k o e = absurd cc
earlier (x ∷ ops) zero o e = (x, refl)
earlier (x ∷ ops) (suc k) o e = earlier ops k o e

-- behind the first opcode, and at it where it is no PROTO
pub protocol_is : (d : Contents) (bytes : List ℕ) → ReadsAs false bytes d → first_other d ≡ None → (k : ℕ) (o : Operation) → item_at d k ≡ Some o → is_proto o.opcode ≡ false → protocol_at (ops_of d) k ≡ protocol_of d
unfolding protocol_at
protocol_is d bytes reads in_form zero o there plain =
    sym (ap protocol_said there ∙ ap (λ (b : Bool). if b then number_of form.Uint1 o.arg else 0) plain)
protocol_is d bytes reads in_form (suc zero) o there plain =
    let x = earlier (ops_of d) 0 o there in
    next_protocol (ops_of d) 0 x.0 x.1 ∙ said_first x.0.opcode x.0.arg ∙ sym (ap protocol_said x.1)
protocol_is d bytes reads in_form (suc (suc k)) o there plain =
    let x = earlier (ops_of d) (suc k) o there in
    let no : is_proto x.0.opcode ≡ false = one_protocol d in_form k x.0 x.1 in
    let only : OnlyLastStops false (items_of d) = subst (λ (b : Bool). OnlyLastStops b (items_of d)) reads.mode reads.document.formed.last_stops in
    let on : is_stop x.0.opcode ≡ false = no_stop (items_of d) (suc k) x.0 o only x.1 there in
    next_protocol (ops_of d) (suc k) x.0 x.1 ∙ stays_same x.0.opcode x.0.arg (protocol_at (ops_of d) (suc k)) no on ∙ protocol_is d bytes reads in_form (suc k) x.0 x.1 no
