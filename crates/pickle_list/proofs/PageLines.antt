-- The line of an item on a page.
use Rattle.std.proofs.Common.{◌≡◌, ℕ, ◌+◌, ◌-◌, ◌*◌, ◌≤◌, List, [], ◌∷◌, ◌++◌, length, take, Option, Result, sym, ap, subst, ◌∙◌, arith, inl, inr, length-append, append_assoc}
use Rattle.std.specs.Prelude.{decimal, codes, max}
use Rattle.std.proofs.lemmas.Bool.{cases_lt}
use Rattle.std.proofs.lemmas.List.{take-append-le, take_at, replicate-append-replicate, append-nil}
use lib.ListN.{length-replicate}
use Rattle.std.proofs.Math.Seq.{take-length}
use Rattle.pickle_io.specs.Device.{Told, Wrote, Broke, Writes}
use Rattle.pickle_io.proofs.Devices.{Writes-next, Broke-longer}
use Rattle.pickle_ops.specs.declared.opcode.Opcode.{Opcode}
use Rattle.pickle_ops.specs.Spelling.{Operation}
use Rattle.pickle_io.specs.Text.{◌⧺◌}
use Rattle.pickle_list.specs.declared.note.Note.{Note}
use Rattle.pickle_text.specs.Column.{blanks, left_aligned, right_aligned, newline}
use Rattle.pickle_list.specs.ArgTexts.{ArgTexts}
use Rattle.pickle_list.specs.Line.{offset_column, code_column, item_line_in, named_in}

-- the head of a line: where the item stands, and its code
pub head_there : (o : Opcode) (block : List ℕ) (offset : ℕ) → take 7 block ≡ code_column o → right_aligned 5 (decimal offset) ⧺ take 7 block ≡ offset_column offset ⧺ code_column o
unfolding offset_column
head_there o block offset code = ap (λ (x : List ℕ). right_aligned 5 (decimal offset) ⧺ x) code

-- a name that was filled with blanks
pub name_there : (a b : Told) (name : List ℕ) → Wrote a b (take (length name) (name ++ blanks (16 - length name))) → Wrote a b name
name_there a b name w = subst (Wrote a b) (take-append-le (length name) name (blanks (16 - length name)) (omega arith) ∙ take-length name) w

-- the same, of which ten places are filled, and a blank
take_filled : (name : List ℕ) → length name ≤ 16 → take (max (length name) 10) (name ++ blanks (16 - length name)) ≡ name ++ blanks (10 - length name)
take_filled name h = elim (cases_lt (length name) 10) [
  | inl low ↦
      let more : blanks (16 - length name) ≡ blanks (10 - length name) ++ blanks 6 =
      (let same : 16 - length name ≡ (10 - length name) + 6 = omega (arith, low) in ap blanks same ∙ sym (replicate-append-replicate (10 - length name) 6 32)) in
      let whole : name ++ blanks (16 - length name) ≡ (name ++ blanks (10 - length name)) ++ blanks 6 =
      ap (λ (l : List ℕ). name ++ l) more ∙ sym (append_assoc name (blanks (10 - length name)) (blanks 6)) in
      ap (λ (l : List ℕ). take (max (length name) 10) l) whole
      ∙ take_at (name ++ blanks (10 - length name)) (blanks 6) (max (length name) 10) (omega (arith, low, length-append name (blanks (10 - length name)), length-replicate {A = ℕ} (10 - length name) 32))
  | inr high ↦
      let none : blanks (10 - length name) ≡ [] = (let same : 10 - length name ≡ 0 = omega (arith, high) in ap blanks same) in
      take_at name (blanks (16 - length name)) (max (length name) 10) (omega (arith, high)) ∙ sym (append-nil name) ∙ ap (λ (l : List ℕ). name ++ l) (sym none)
]

pub filled_there : (a b : Told) (name : List ℕ) → length name ≤ 16 → Wrote a b (take (max (length name) 10) (name ++ blanks (16 - length name)) ++ 32 ∷ []) → Wrote a b (left_aligned 10 name ⧺ codes " ")
unfolding left_aligned ◌⧺◌
filled_there a b name h w = subst (Wrote a b) (ap (λ (l : List ℕ). l ++ 32 ∷ []) (take_filled name h)) w

-- ---- the line

-- what stands before the name
abbrev head : Opcode → ℕ → ℕ → List ℕ
head o offset marks = offset_column offset ⧺ code_column o ⧺ blanks (4 * marks)

pub joined : (args : ArgTexts) (o : Operation) (offset marks : ℕ) (n : Option Note) → head o.opcode offset marks ⧺ (named_in args o n ⧺ newline) ≡ item_line_in args o offset marks n
unfolding item_line_in ◌⧺◌
joined args o offset marks n = sym (append_assoc ((offset_column offset ++ code_column o.opcode) ++ blanks (4 * marks)) (named_in args o n) newline)

pub line_behind : {A E : Type 0} (args : ArgTexts) (a b c : Told) (x : Result A E) (o : Operation) (offset marks : ℕ) (n : Option Note)
    → Writes b c x (named_in args o n ⧺ newline) → Wrote a b (head o.opcode offset marks) → Writes a c x (item_line_in args o offset marks n)
line_behind args a b c x o offset marks n w v = subst (λ (t : List ℕ). Writes a c x t) (joined args o offset marks n) (Writes-next a b c x (head o.opcode offset marks) (named_in args o n ⧺ newline) w v)

pub line_broken : (args : ArgTexts) (a b : Told) (o : Operation) (offset marks : ℕ) (n : Option Note) → Broke a b (head o.opcode offset marks) → Broke a b (item_line_in args o offset marks n)
line_broken args a b o offset marks n w = subst (λ (t : List ℕ). Broke a b t) (joined args o offset marks n) (Broke-longer a b (head o.opcode offset marks) (named_in args o n ⧺ newline) w)
