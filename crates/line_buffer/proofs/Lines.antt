-- What a buffer shows of a line that was written to it.
use Rattle.std.proofs.Common.{◌≡◌, ℕ, ◌<◌, ◌≤◌, ◌-◌, Bool, true, false, List, [], ◌++◌, length, take, Option, Some, None, Result, Ok, Err, refl, sym, ap, ◌∙◌, subst, length-append, arith, leb-true}
use Rattle.std.specs.Prelude.{nat_le, if◌then◌else◌}
use Rattle.pickle_io.specs.Device.{Told, Writes}
use Rattle.line_buffer.specs.declared.buffer.LineBuffer.{LineBuffer}
use Rattle.line_buffer.specs.Line.{line_text, held_by, failures_of}

abbrev told : LineBuffer → Told
told b = record { taken = Some (held_by b); held = 0; failures = failures_of b }

none_of : (line : List ℕ) → 4096 < length line → line_text line ≡ None
unfolding line_text
none_of line long = go (nat_le (length line) 4096) refl
  where
    go : (b : Bool) → nat_le (length line) 4096 ≡ b → (if b then Some (take (length line - 1) line) else None) ≡ None
    go false e = refl
    go true e = let short : length line ≤ 4096 = leb-true _ _ e in absurd (omega (arith, long, short))

-- all of the line was written, or a beginning of it that is too long
pub line_shown : {A E : Type 0} (old new : LineBuffer) (r : Result A E) (line : List ℕ) → held_by old ≡ [] → failures_of old ≡ 0
    → Writes (told old) (told new) r line → line_text (held_by new) ≡ line_text line
line_shown old new (Ok x) line none calm w =
    let whole : held_by new ≡ line = w.taken ∙ ap (λ (l : List ℕ). l ++ line) none in
    ap line_text whole
line_shown old new (Err e) line none calm w =
    let front : held_by new ≡ w.front.0 = w.front.2 ∙ ap (λ (l : List ℕ). l ++ w.front.0) none in
    let failed : 0 < failures_of new = omega (arith, calm, w.failed (omega (arith, calm))) in
    let over : 4096 < length (held_by new) = new.full failed in
    let longer : 4096 < length line = omega (arith, over, ap length front, ap length w.front.1.1, length-append w.front.0 w.front.1.0) in
    none_of (held_by new) over ∙ sym (none_of line longer)

-- what is written of what the buffer shows is written of the line
pub Writes-shown : {A E B F : Type 0} (a b : Told) (r : Result A E) (old new : LineBuffer) (s : Result B F) (line : List ℕ) (text : Option (List ℕ) → List ℕ)
    → held_by old ≡ [] → failures_of old ≡ 0 → Writes (told old) (told new) s line → Writes a b r (text (line_text (held_by new)))
    → Writes a b r (text (line_text line))
Writes-shown a b r old new s line text none calm w written =
    subst (λ (o : Option (List ℕ)). Writes a b r (text o)) (line_shown old new s line none calm w) written
