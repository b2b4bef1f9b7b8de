-- Where a reading with a buffer loses nothing, the one whose buffer stays behind STOP is the same; and both tell what the lines tell.
use Rattle.std.proofs.Common.{◌≡◌, ℕ, zero, suc, ◌+◌, ◌-◌, ◌≤◌, Bool, true, false, List, [], ◌++◌, length, take, Option, Some, None, Ok, Err, refl, sym, ap, ◌∙◌, inl, inr, append_assoc, arith}
use Rattle.std.specs.Prelude.{◌||◌, nat_lt, nat_le, if◌then◌else◌, Result}
use Rattle.std.proofs.lemmas.Bool.{cases_lt, ltb-false}
use Rattle.std.proofs.lemmas.List.{append-nil}
use Rattle.pickle_ops.specs.declared.fault.FrontFault.{FrontFault}
use Rattle.pickle_ops.specs.declared.opcode.Opcode.{Opcode}
use Rattle.pickle_ops.specs.declared.opcode.Opcode.TheVariants as op
use Rattle.pickle_ops.specs.declared.row.Row.{Row}
use Rattle.pickle_ops.specs.Spelling.{Operation}
use Rattle.pickle_ops.specs.Front.{front_of}
use Rattle.pickle_doc.specs.DocUnit.{is_stop, is_frame, frame_number}
use Rattle.pickle_machine.specs.declared.refusal.Refusal.{Refusal}
use Rattle.pickle_machine.specs.declared.loader.LoaderMove.{LoaderMove}
use Rattle.pickle_machine.specs.State.{State}
use Rattle.pickle_machine.specs.Move.{fresh}
use Rattle.pickle_machine.specs.Loader.{loader_move}
use Rattle.pickle_lenient.specs.declared.taken.Frames.TheVariants as frames
use Rattle.pickle_lenient.specs.declared.taken.Taken.{Taken}
use Rattle.pickle_lenient.specs.Lenient.{Lenient, lenient}
use Rattle.pickle_lenient.specs.Stream.{first_read, joined, ends_in, refilled, framed, settled, taken_as, within, across, taken}
use Rattle.pickle_calls.specs.declared.naming.Detail.{Detail}
use Rattle.pickle_calls.specs.declared.event.Event.{Event}
use Rattle.pickle_further.specs.declared.way.Pickles.{Pickles}
use Rattle.pickle_further.specs.declared.way.Way.{Way}
use Rattle.pickle_further.specs.Going.{Standing, Going, refused_at, used_op, moved_so, over, gone_to, gone_by, going}
use Rattle.pickle_further.specs.Parts.{ignoring, buffering, holding, standing_first}
use Rattle.pickle_loader.specs.Environment.{Value, Act}
use Rattle.pickle_loader.specs.Listed.{acts_listed}
use Rattle.pickle_loader.specs.Onward.{stands_behind, stands_on, stands, protocol, acts_gone, acts_on, acts_before, unbuffered, NoneLost}
use Rattle.pickle_loader.proofs.Streams.{settled_op}
use Rattle.pickle_loader.proofs.Buffers.{none_of, alike_all}
use Rattle.pickle_loader.proofs.Reaches.{few, flat_item}

-- ---- what is taken

stop_no_frame : (o : Opcode) → is_stop o ≡ true → is_frame o ≡ false
stop_no_frame op.Stop e = refl
stop_no_frame _ e = absurd cc

refilled_none : (t : Taken) → (refilled 0 t).lost ≡ false → refilled 0 t ≡ t
refilled_none t lost =
    let both = none_of t.lost (nat_lt 0 t.left) lost in
    let none : t.left ≡ 0 = omega (arith, ltb-false 0 t.left both.1) in
    let size : t.size + t.left ≡ t.size = omega (arith, none) in
    ap (λ (n : ℕ). record { op = t.op; row = t.row; size = n; left = 0; lost = t.lost || nat_lt 0 t.left }) size
    ∙ ap (λ (b : Bool). record { op = t.op; row = t.row; size = t.size; left = 0; lost = b }) (lost ∙ sym both.0)
    ∙ ap (λ (n : ℕ). record { op = t.op; row = t.row; size = t.size; left = n; lost = t.lost }) (sym none)

-- by whether it is STOP, and FRAME
settled_same : (b c : Bool) (bytes : List ℕ) (t : Taken) → (b ≡ true → c ≡ false) → (if b then refilled 0 t else (if c then framed bytes t (frame_number t.op) else t)).lost ≡ false
    → (if b then refilled 0 t else (if c then framed bytes t (frame_number t.op) else t)) ≡ (if c then framed bytes t (frame_number t.op) else t)
settled_same true true bytes t apart lost = let wrong : true ≡ false = apart refl in absurd cc
settled_same true false bytes t apart lost = refilled_none t lost
settled_same false c bytes t apart lost = refl

-- what is taken where STOP ends the buffer, and where it leaves it: the same operation, and where nothing is lost the same
abbrev AreHeld : Result Taken FrontFault → Result Taken FrontFault → Type 0
AreHeld (Ok a) (Ok b) = (a.op ≡ b.op) × (a.row ≡ b.row) × (a.lost ≡ false → a ≡ b)
AreHeld (Err f) (Err g) = f ≡ g
AreHeld (Ok a) (Err g) = ⊥
AreHeld (Err f) (Ok b) = ⊥

held_settled : (bytes : List ℕ) (t : Taken) → AreHeld (Ok (settled true bytes t)) (Ok (settled false bytes t))
held_settled bytes t =
    let a = settled_op (is_stop t.op.opcode) (is_frame t.op.opcode) bytes t in
    let b = settled_op false (is_frame t.op.opcode) bytes t in
    (a.0 ∙ sym b.0, a.1 ∙ sym b.1, settled_same (is_stop t.op.opcode) (is_frame t.op.opcode) bytes t (stop_no_frame t.op.opcode))

held_within : (bytes : List ℕ) (size : ℕ) (x : Result Lenient FrontFault) → AreHeld (within true bytes size x) (within false bytes size x)
held_within bytes size (Ok l) = held_settled bytes (taken_as 0 (size - l.size) l)
held_within bytes size (Err f) = refl

held_across : (bytes : List ℕ) (gap : ℕ) (x : Result Lenient FrontFault) → AreHeld (across true bytes gap x) (across false bytes gap x)
held_across bytes gap (Ok l) = held_settled bytes (taken_as gap 0 l)
held_across bytes gap (Err f) = refl

held_by : (b : Bool) (left : ℕ) (bytes : List ℕ)
    → AreHeld (if b then within true bytes (length (take left bytes)) (lenient (take left bytes)) else across true bytes (length (take left bytes) - first_read (take left bytes)) (lenient (joined left bytes)))
    (if b then within false bytes (length (take left bytes)) (lenient (take left bytes)) else across false bytes (length (take left bytes) - first_read (take left bytes)) (lenient (joined left bytes)))
held_by true left bytes = held_within bytes (length (take left bytes)) (lenient (take left bytes))
held_by false left bytes = held_across bytes (length (take left bytes) - first_read (take left bytes)) (lenient (joined left bytes))

held_taken : (left : ℕ) (bytes : List ℕ) → AreHeld (taken frames.Buffered left bytes) (taken frames.Held left bytes)
unfolding taken
held_taken left bytes = held_by (ends_in (front_of (take left bytes))) left bytes

-- ---- an item

held_to : (p : Pickles) (q : Standing) (a b : Taken) (m : LoaderMove) (z : Result State Refusal) → a.row ≡ b.row → (a.lost ≡ false → a ≡ b) → (gone_to (buffering p) q a m z).gone.lost ≡ false
    → gone_to (holding p) q b m z ≡ gone_to (buffering p) q a m z
held_to p q a b m (Ok t) row same lost = ap (λ (x : Taken). gone_to (holding p) q x m (Ok t)) (sym (same lost))
held_to p q a b m (Err r) row same lost = ap (λ (x : Row). over q.state (refused_at x q.at r)) (sym row)

abbrev move_in : Standing → Operation → Row → LoaderMove
move_in q o r = loader_move o.opcode r (fresh q.state)

abbrev gone_in : Way → Standing → Taken → Operation → Row → Going
gone_in w q item o r = gone_to w q item (move_in q o r) (moved_so (move_in q o r) (used_op (move_in q o r) o) q.at.place q.state)

held_going : (p : Pickles) (q : Standing) (x y : Result Taken FrontFault) → AreHeld x y → (gone_by (buffering p) q x).gone.lost ≡ false → gone_by (holding p) q y ≡ gone_by (buffering p) q x
held_going p q (Err f) (Err g) h lost = ap (λ (e : FrontFault). gone_by (holding p) q (Err e)) (sym h)
held_going p q (Ok a) (Ok b) h lost =
    let m : LoaderMove = move_in q a.op a.row in
    ap (λ (o : Operation). gone_in (holding p) q b o b.row) (sym h.0) ∙ ap (gone_in (holding p) q b a.op) (sym h.1)
    ∙ held_to p q a b m (moved_so m (used_op m a.op) q.at.place q.state) h.1 h.2 lost
held_going p q (Ok a) (Err g) h lost = absurd h
held_going p q (Err f) (Ok b) h lost = absurd h

pub held_item : (p : Pickles) (q : Standing) → (going (buffering p) q).gone.lost ≡ false → going (holding p) q ≡ going (buffering p) q
unfolding going
held_item p q lost = held_going p q (taken frames.Buffered q.at.left q.rest) (taken frames.Held q.at.left q.rest) (held_taken q.at.left q.rest) lost

-- ---- along the items

held_on : (p : Pickles) (x y : Option Standing) → y ≡ x → ((q : Standing) → x ≡ Some q → (going (buffering p) q).gone.lost ≡ false) → stands_on (holding p) y ≡ stands_on (buffering p) x
held_on p None y e none = ap (stands_on (holding p)) e
held_on p (Some q) y e none = ap (stands_on (holding p)) e ∙ ap (stands_behind q) (held_item p q (none q refl))

held_stands : (p : Pickles) (how : Detail) (bytes : List ℕ) (n : ℕ) → NoneLost (buffering p) (standing_first how p bytes) n → stands (holding p) (standing_first how p bytes) n ≡ stands (buffering p) (standing_first how p bytes) n
unfolding stands
held_stands p how bytes zero none = refl
held_stands p how bytes (suc n) none =
    held_on p (stands (buffering p) (standing_first how p bytes) n) (stands (holding p) (standing_first how p bytes) n) (held_stands p how bytes n (λ j q less there. none j q (omega (arith, less)) there))
    (λ q there. none n q (omega arith) there)

pub held_none : (p : Pickles) (how : Detail) (bytes : List ℕ) (n : ℕ) → NoneLost (buffering p) (standing_first how p bytes) n → NoneLost (holding p) (standing_first how p bytes) n
held_none p how bytes n none = λ j q less there.
    let first : Standing = standing_first how p bytes in
    let same : stands (buffering p) first j ≡ Some q = sym (held_stands p how bytes j (λ i r before stood. none i r (omega (arith, less, before)) stood)) ∙ there in
    let kept : (going (buffering p) q).gone.lost ≡ false = none j q less same in
    ap (λ (g : Going). g.gone.lost) (held_item p q kept) ∙ kept

-- ---- what is listed where nothing is lost

pub none_at_all : (w : Way) (how : Detail) (bytes : List ℕ) (n : ℕ) → NoneLost w (standing_first how w.pickles bytes) (suc (length bytes)) → NoneLost w (standing_first how w.pickles bytes) n
none_at_all w how bytes n none = λ j q less there. none j q (omega (arith, few w (standing_first how w.pickles bytes) j q there)) there

acts_next : (V : ℕ → Value) (w : Way) (p : Standing) (n : ℕ) (x : Option Standing) → stands w p n ≡ x → acts_before V w p (suc n) ≡ acts_before V w p n ++ acts_on V w (protocol w p n) x
unfolding acts_before
acts_next V w p n x e = ap (λ (y : Option Standing). acts_before V w p n ++ acts_on V w (protocol w p n) y) e

pub acts_more : (V : ℕ → Value) (w : Way) (p : Standing) (n m : ℕ) → m ≤ n → (rest : List Act) × (acts_before V w p n ≡ acts_before V w p m ++ rest)
unfolding acts_before
acts_more V w p zero m h = let none : 0 ≡ m = omega (arith, h) in ([], ap (acts_before V w p) none ∙ sym (append-nil (acts_before V w p m)))
acts_more V w p (suc n) m h = elim (cases_lt m (suc n)) [
  | inl less ↦
      let before = acts_more V w p n m (omega (arith, less)) in
      let new : List Act = acts_on V w (protocol w p n) (stands w p n) in
      (before.0 ++ new, ap (λ (l : List Act). l ++ new) before.1 ∙ append_assoc (acts_before V w p m) before.0 new)
  | inr far ↦ let same : suc n ≡ m = omega (arith, h, far) in ([], ap (acts_before V w p) same ∙ sym (append-nil (acts_before V w p m)))
]

-- as far as some item of the reading that ignores frames
abbrev pub TellsTo : (ℕ → Value) → Way → Standing → ℕ → Type 0
TellsTo V w p n = (m : ℕ) × (m ≤ n) × (acts_before V w p n ≡ acts_before V (ignoring w.pickles) p m)

tells_item : (V : ℕ → Value) (w : Way) (how : Detail) (bytes : List ℕ) (n : ℕ) (q : Standing) (x : Option Event) → (going w q).gone.event ≡ x → stands w (standing_first how w.pickles bytes) n ≡ Some q
    → NoneLost w (standing_first how w.pickles bytes) (suc n) → TellsTo V w (standing_first how w.pickles bytes) (suc n)
tells_item V w how bytes n q None is there none =
    let p : Standing = standing_first how w.pickles bytes in
    let alike = alike_all how V w bytes n q there (λ j r less stood. none j r (omega (arith, less)) stood) in
    let nothing : acts_gone V (protocol w p n) q (going w q) ≡ [] = ap (λ (y : Option Event). acts_listed V (protocol w p n) (fresh q.state) (going w q).state y) is in
    (n, omega arith, acts_next V w p n (Some q) there ∙ ap (λ (l : List Act). acts_before V w p n ++ l) nothing ∙ append-nil (acts_before V w p n) ∙ alike.acts)
tells_item V w how bytes n q (Some e) is there none =
    let p : Standing = standing_first how w.pickles bytes in
    let alike = alike_all how V w bytes n q there (λ j r less stood. none j r (omega (arith, less)) stood) in
    let same = flat_item w q e is (none n q (omega arith) there) in
    let proto : ℕ = protocol (ignoring w.pickles) p n in (
      suc n,
      omega arith,
      acts_next V w p n (Some q) there ∙ ap (λ (l : List Act). l ++ acts_gone V (protocol w p n) q (going w q)) alike.acts
          ∙ ap (λ (k : ℕ). acts_before V (ignoring w.pickles) p n ++ acts_gone V k q (going w q)) alike.proto
          ∙ ap (λ (g : Going). acts_before V (ignoring w.pickles) p n ++ acts_gone V proto (unbuffered q) g) (sym same)
          ∙ sym (acts_next V (ignoring w.pickles) p n (Some (unbuffered q)) alike.stood),
    )

tells_on : (V : ℕ → Value) (w : Way) (how : Detail) (bytes : List ℕ) (n : ℕ) (x : Option Standing) → stands w (standing_first how w.pickles bytes) n ≡ x → NoneLost w (standing_first how w.pickles bytes) (suc n)
    → TellsTo V w (standing_first how w.pickles bytes) n → TellsTo V w (standing_first how w.pickles bytes) (suc n)
tells_on V w how bytes n None is none (m, less, same) =
    let p : Standing = standing_first how w.pickles bytes in
    (m, omega (arith, less), acts_next V w p n None is ∙ append-nil (acts_before V w p n) ∙ same)
tells_on V w how bytes n (Some q) is none before = tells_item V w how bytes n q (going w q).gone.event refl is none

tells_none : (V : ℕ → Value) (w : Way) (p : Standing) → TellsTo V w p 0
unfolding acts_before
tells_none V w p = (0, omega arith, refl)

pub tells_to : (V : ℕ → Value) (w : Way) (how : Detail) (bytes : List ℕ) (n : ℕ) → NoneLost w (standing_first how w.pickles bytes) n → TellsTo V w (standing_first how w.pickles bytes) n
tells_to V w how bytes zero none = tells_none V w (standing_first how w.pickles bytes)
tells_to V w how bytes (suc n) none =
    tells_on V w how bytes n (stands w (standing_first how w.pickles bytes) n) refl none (tells_to V w how bytes n (λ j q less there. none j q (omega (arith, less)) there))
