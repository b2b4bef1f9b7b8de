-- Texts in quotes, byte by byte.
use Rattle.std.proofs.Common.{◌≡◌, ℕ, List, [], ◌∷◌, ◌++◌, length, Some, None, Ok, Err, refl, sym, ap, ◌∙◌, append_assoc}
use Rattle.std.proofs.lemmas.List.{append-nil, nil_from_length}
use Rattle.opcode_assembler.specs.declared.fault.Reason.TheVariants as why
use Rattle.opcode_assembler.specs.declared.fault.Fault.{Fault}
use Rattle.opcode_assembler.specs.declared.fault.Fault.TheVariants as fault
use Rattle.opcode_assembler.specs.declared.scan.Mode.{Mode}
use Rattle.opcode_assembler.specs.declared.scan.Mode.TheVariants as mode
use Rattle.opcode_assembler.specs.declared.scan.Step.{Step}
use Rattle.opcode_assembler.specs.declared.scan.Step.TheVariants as step
use Rattle.opcode_assembler.specs.Quotes.{Read, step_of, in_front, by_step, scanned, Steps}
use Rattle.opcode_assembler.specs.Reading.{Fails}

pub front_nothing : (r : Read) → in_front [] r ≡ r
front_nothing (Ok p) = refl
front_nothing (Err r) = refl

front_twice : (a b : List ℕ) (r : Read) → in_front a (in_front b r) ≡ in_front (a ++ b) r
front_twice a b (Ok p) = ap (λ (bytes : List ℕ). Ok (bytes, p.1)) (sym (append_assoc a b p.0))
front_twice a b (Err r) = refl

-- the text that goes on behind a byte of this step
abbrev pub onward : ℕ → Step → List ℕ → Read
onward quote s left = by_step s left (λ (n : Mode). scanned quote n left)

pub by_byte : (quote : ℕ) (m : Mode) (byte : ℕ) (left : List ℕ) → scanned quote m (byte ∷ left) ≡ onward quote (step_of quote m byte) left
unfolding scanned
by_byte quote m byte left = refl

pub by_end : (quote : ℕ) (m : Mode) → scanned quote m [] ≡ Err why.NoText
unfolding scanned
by_end quote m = refl

pub onward_is : (quote : ℕ) (bytes rest left : List ℕ) (m : Mode) (byte : ℕ) (s : Step) (whole : Read) → rest ≡ byte ∷ left → s ≡ step_of quote m byte → in_front bytes (scanned quote m rest) ≡ whole → in_front bytes (onward quote s left) ≡ whole
onward_is quote bytes rest left m byte s whole e h inv =
    ap (λ (x : Step). in_front bytes (onward quote x left)) h ∙ sym (ap (in_front bytes) (ap (scanned quote m) e ∙ by_byte quote m byte left)) ∙ inv

pub over : (quote : ℕ) (bytes rest : List ℕ) (m : Mode) (whole : Read) → length rest ≡ 0 → in_front bytes (scanned quote m rest) ≡ whole → whole ≡ Err why.NoText
over quote bytes rest m whole h inv = sym inv ∙ ap (in_front bytes) (ap (scanned quote m) (nil_from_length rest h) ∙ by_end quote m)

pub goes_on : (quote : ℕ) (s : Step) (old new : List ℕ) (m : Mode) (left : List ℕ) → Steps s old new (Ok (Some m)) → in_front new (scanned quote m left) ≡ in_front old (onward quote s left)
goes_on quote step.End old new m left h = absurd h
goes_on quote step.Wrong old new m left h = absurd h
goes_on quote (step.Goes n) old new m left h = rw (h.0, h.1) refl
goes_on quote (step.Byte byte) old new m left h = rw (h.0, h.1) (sym (front_twice old (byte ∷ []) (scanned quote mode.Plain left)))

pub ended : (quote : ℕ) (s : Step) (old new left : List ℕ) → Steps s old new (Ok None) → in_front old (onward quote s left) ≡ Ok (new, left)
ended quote step.End old new left h = rw h (ap (λ (bytes : List ℕ). Ok (bytes, left)) (append-nil old))
ended quote step.Wrong old new left h = absurd h
ended quote (step.Goes n) old new left h = absurd h
ended quote (step.Byte byte) old new left h = absurd h

pub failed : (quote : ℕ) (s : Step) (old new left : List ℕ) (f : Fault) → Steps s old new (Err f) → Fails (in_front old (onward quote s left)) f
failed quote step.End old new left fault.Memory h = tt
failed quote step.End old new left (fault.Wrong r) h = absurd h
failed quote step.Wrong old new left fault.Memory h = tt
failed quote step.Wrong old new left (fault.Wrong r) h = ap Err (sym h)
failed quote (step.Goes n) old new left fault.Memory h = tt
failed quote (step.Goes n) old new left (fault.Wrong r) h = absurd h
failed quote (step.Byte byte) old new left fault.Memory h = tt
failed quote (step.Byte byte) old new left (fault.Wrong r) h = absurd h
