-- What a line says is one thing, memory apart.
use Rattle.std.proofs.Common.{◌≡◌, ◌≢◌, ℕ, List, [], ◌∷◌, Option, Some, None, Result, Ok, Err, refl, sym, ap, ◌∙◌}
use Rattle.std.proofs.lemmas.List.{append-nil}
use Rattle.pickle_ops.specs.declared.opcode.Opcode.{Opcode}
use Rattle.pickle_ops.specs.declared.fault.OpFault.{OpFault}
use Rattle.pickle_ops.specs.declared.fault.OpFault.TheVariants as fault
use Rattle.pickle_ops.specs.declared.fault.FrontFault.TheVariants as at_front
use Rattle.pickle_ops.specs.Spelling.{Operation, Whole, IsFront, IsSpelled, alone_fault, or_too_long, FailsAsArg, HasArgFault}
use Rattle.pickle_ops.specs.Table.{code_of}
use Rattle.pickle_ops.proofs.Fronts.{found_front}
use Rattle.pickle_script.specs.declared.conversation.line.Line.{Line}
use Rattle.pickle_script.specs.declared.conversation.line.Syntax.{Syntax}
use Rattle.pickle_script.specs.declared.conversation.line.Syntax.TheVariants as syntax
use Rattle.pickle_script.specs.Grammar.{AnswersWords, IsSpelledOp, OpFails, op_in}

-- ---- the fault of an argument

some_same : {A : Type 0} (a b : A) → Some a ≡ Some b → a ≡ b
some_same a b e = cc

arg_fault : (o : Opcode) (bytes : List ℕ) (f : OpFault) → f ≢ fault.Memory → FailsAsArg o bytes f → HasArgFault o bytes f
arg_fault o bytes (fault.Front at_front.Ended) n h = absurd h
arg_fault o bytes (fault.Front (at_front.UnknownOpcode byte)) n h = absurd h
arg_fault o bytes (fault.Front at_front.Truncated) n h = h
arg_fault o bytes (fault.Front at_front.NegativeLength) n h = h
arg_fault o bytes (fault.Front at_front.BadArgument) n h = h
arg_fault o bytes fault.TooLong n h = h
arg_fault o bytes fault.Memory n h = absurd (n refl)

one_arg_fault : (o : Opcode) (bytes : List ℕ) (f g : OpFault) → HasArgFault o bytes f → HasArgFault o bytes g → f ≡ g
one_arg_fault o bytes f g x y =
    let same = sym (found_front (code_of o ∷ bytes) x.0 x.1) ∙ found_front (code_of o ∷ bytes) y.0 y.1 in
    some_same f g (sym x.2 ∙ ap alone_fault same ∙ y.2)

whole : (op : Operation) → IsSpelled op → IsFront (code_of op.opcode ∷ op.arg) (Whole op.opcode op.arg [])
whole op s = (ap (λ (l : List ℕ). code_of op.opcode ∷ l) (sym (append-nil op.arg)), s.arg)

spelled_alone : (op : Operation) → IsSpelled op → alone_fault (Whole op.opcode op.arg []) ≡ None
spelled_alone op s = ap (or_too_long []) s.value

not_both : (op : Operation) (f : OpFault) → IsSpelled op → HasArgFault op.opcode op.arg f → ⊥
not_both op f s x =
    let same = sym (found_front (code_of op.opcode ∷ op.arg) x.0 x.1) ∙ found_front (code_of op.opcode ∷ op.arg) (Whole op.opcode op.arg []) (whole op s) in
    let bad : Some f ≡ None = sym x.2 ∙ ap alone_fault same ∙ spelled_alone op s in
    absurd cc

-- ---- the fault of an operation

fails_not_spelled : (o : Option Operation) (f : Syntax) → f ≢ syntax.Memory → OpFails o f → IsSpelledOp o → ⊥
fails_not_spelled None f n h s = absurd h
fails_not_spelled (Some op) (syntax.BadOp f) n h s = not_both op f s (arg_fault op.opcode op.arg f h.0 h.1)
fails_not_spelled (Some op) syntax.Memory n h s = absurd (n refl)
fails_not_spelled (Some op) syntax.UnknownWord n h s = absurd h
fails_not_spelled (Some op) syntax.MissingWord n h s = absurd h
fails_not_spelled (Some op) syntax.BadNumber n h s = absurd h
fails_not_spelled (Some op) syntax.UnknownOpcodeName n h s = absurd h
fails_not_spelled (Some op) syntax.BadHex n h s = absurd h
fails_not_spelled (Some op) syntax.ExtraWord n h s = absurd h
fails_not_spelled (Some op) syntax.LineTooLong n h s = absurd h

-- it is that of its argument
record IsBadOp (op : Operation) (f : Syntax) : Type 0 where
  pub why : OpFault
  pub is : f ≡ syntax.BadOp why
  pub has : HasArgFault op.opcode op.arg why

bad_op : (op : Operation) (f : Syntax) → f ≢ syntax.Memory → OpFails (Some op) f → IsBadOp op f
bad_op op (syntax.BadOp f) n h = record { why = f; is = refl; has = arg_fault op.opcode op.arg f h.0 h.1 }
bad_op op syntax.Memory n h = absurd (n refl)
bad_op op syntax.UnknownWord n h = absurd h
bad_op op syntax.MissingWord n h = absurd h
bad_op op syntax.BadNumber n h = absurd h
bad_op op syntax.UnknownOpcodeName n h = absurd h
bad_op op syntax.BadHex n h = absurd h
bad_op op syntax.ExtraWord n h = absurd h
bad_op op syntax.LineTooLong n h = absurd h

one_fault : (o : Option Operation) (f g : Syntax) → f ≢ syntax.Memory → g ≢ syntax.Memory → OpFails o f → OpFails o g → f ≡ g
one_fault None f g n m h k = absurd h
one_fault (Some op) f g n m h k =
    let x = bad_op op f n h in
    let y = bad_op op g m k in
    x.is ∙ ap (λ (w : OpFault). syntax.BadOp w) (one_arg_fault op.opcode op.arg x.why y.why x.has y.has) ∙ sym y.is

-- ---- the reading

pub one_reading : (words a b : Result Line Syntax) → a ≢ Err syntax.Memory → b ≢ Err syntax.Memory → AnswersWords words a → AnswersWords words b → a ≡ b
one_reading (Err f) a b n m x y = x ∙ sym y
one_reading (Ok says) (Ok l) (Ok k) n m x y = ap (λ (z : Line). Ok z) (x.0 ∙ sym y.0)
one_reading (Ok says) (Ok l) (Err g) n m x y = absurd (fails_not_spelled (op_in says) g (λ e. m (ap (λ (z : Syntax). Err z) e)) y x.1)
one_reading (Ok says) (Err f) (Ok k) n m x y = absurd (fails_not_spelled (op_in says) f (λ e. n (ap (λ (z : Syntax). Err z) e)) x y.1)
one_reading (Ok says) (Err f) (Err g) n m x y =
    ap (λ (z : Syntax). Err z) (one_fault (op_in says) f g (λ e. n (ap (λ (z : Syntax). Err z) e)) (λ e. m (ap (λ (z : Syntax). Err z) e)) x y)
