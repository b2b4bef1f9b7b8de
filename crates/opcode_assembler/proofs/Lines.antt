-- Lines, one after another.
use Rattle.std.proofs.Common.{◌≡◌, ℕ, ◌+◌, List, [], ◌∷◌, ◌++◌, Option, Some, None, option_map, Ok, Err, Bor, inl, inr, refl, sym, ap, subst, ◌∙◌, append_assoc}
use Rattle.std.specs.List.{slice_split}
use Rattle.std.proofs.lemmas.List.{append-nil}
use Rattle.opcode_assembler.specs.declared.fault.Reason.{Reason}
use Rattle.opcode_assembler.specs.declared.fault.Refusal.{Refusal}
use Rattle.opcode_assembler.specs.declared.fault.Refusal.TheVariants as refusal
use Rattle.opcode_assembler.specs.Cut.{before, behind}
use Rattle.opcode_assembler.specs.Assembly.{is_newline, AddsLine, AreLines, AreWrong, Refuses}
use Rattle.opcode_assembler.proofs.Cuts.{split_left, split_cut, split_some}

-- the lines that are left
abbrev pub lines_left : Option (Bor (List ℕ)) → List (List ℕ)
lines_left rest = split_left is_newline (option_map (λ r. r.now) rest)

-- bytes and the lines behind them give the whole
abbrev pub Completes : Option (Bor (List ℕ)) → List ℕ → List (List ℕ) → Type 0
Completes rest out all = (bytes : List ℕ) → AreLines (lines_left rest) bytes → AreLines all (out ++ bytes)

-- a wrong line of those that are left is one of the whole
abbrev pub Finds : Option (Bor (List ℕ)) → ℕ → List (List ℕ) → Type 0
Finds rest number all = (m : ℕ) (r : Reason) → AreWrong (number + 1) (lines_left rest) m r → AreWrong 1 all m r

one_line : (rest next : Option (Bor (List ℕ))) (left : Bor (List ℕ)) (line : List ℕ) → rest ≡ Some left → line ≡ before is_newline left.now
    → option_map (λ r. r.now) next ≡ behind is_newline left.now → line ∷ lines_left next ≡ lines_left rest
one_line rest next left line e f b =
    ap (λ (x : List ℕ). x ∷ lines_left next) f
    ∙ ap (λ (o : Option (List ℕ)). before is_newline left.now ∷ split_left is_newline o) b
    ∙ sym (split_some is_newline rest left e ∙ split_cut is_newline left.now)

pub completes_more : (rest next : Option (Bor (List ℕ))) (left : Bor (List ℕ)) (line old new : List ℕ) (number : ℕ) (all : List (List ℕ)) → rest ≡ Some left → line ≡ before is_newline left.now
    → option_map (λ r. r.now) next ≡ behind is_newline left.now → AddsLine number line old new (Ok tt) → Completes rest old all → Completes next new all
completes_more rest next left line old new number all e f b adds h = λ bytes a.
    let lines = one_line rest next left line e f b in
    let here : AreLines (line ∷ lines_left next) (adds.0 ++ bytes) = (adds.0, bytes, adds.1, a, refl) in
    let whole : AreLines all (old ++ (adds.0 ++ bytes)) = h (adds.0 ++ bytes) (subst (λ (ls : List (List ℕ)). AreLines ls (adds.0 ++ bytes)) lines here) in
    let same : old ++ (adds.0 ++ bytes) ≡ new ++ bytes = sym (append_assoc old adds.0 bytes) ∙ ap (λ (x : List ℕ). x ++ bytes) (sym adds.2) in
    subst (λ (x : List ℕ). AreLines all x) same whole

pub finds_more : (rest next : Option (Bor (List ℕ))) (left : Bor (List ℕ)) (line old new : List ℕ) (number : ℕ) (all : List (List ℕ)) → rest ≡ Some left → line ≡ before is_newline left.now
    → option_map (λ r. r.now) next ≡ behind is_newline left.now → AddsLine (number + 1) line old new (Ok tt) → Finds rest number all → Finds next (number + 1) all
finds_more rest next left line old new number all e f b adds h = λ m r a.
    let lines = one_line rest next left line e f b in
    let here : AreWrong (number + 1) (line ∷ lines_left next) m r = inr (adds.0, adds.1, a) in
    h m r (subst (λ (ls : List (List ℕ)). AreWrong (number + 1) ls m r) lines here)

pub refuses_line : (rest next : Option (Bor (List ℕ))) (left : Bor (List ℕ)) (line old new : List ℕ) (number : ℕ) (all : List (List ℕ)) (m : ℕ) (r : Reason) → rest ≡ Some left → line ≡ before is_newline left.now
    → option_map (λ r. r.now) next ≡ behind is_newline left.now → AddsLine (number + 1) line old new (Err (refusal.Line m r)) → Finds rest number all → AreWrong 1 all m r
refuses_line rest next left line old new number all m r e f b adds h =
    let lines = one_line rest next left line e f b in
    let here : AreWrong (number + 1) (line ∷ lines_left next) m r = inl adds in
    h m r (subst (λ (ls : List (List ℕ)). AreWrong (number + 1) ls m r) lines here)

pub nothing_left : (rest : Option (Bor (List ℕ))) (out : List ℕ) (all : List (List ℕ)) → rest ≡ None → Completes rest out all → AreLines all out
nothing_left rest out all e h =
    let here : AreLines (lines_left rest) [] = rw e refl in
    subst (λ (x : List ℕ). AreLines all x) (append-nil out) (h [] here)

pub refuses : (rest next : Option (Bor (List ℕ))) (left : Bor (List ℕ)) (line old new text : List ℕ) (number : ℕ) (e : Refusal) → rest ≡ Some left → line ≡ before is_newline left.now
    → option_map (λ r. r.now) next ≡ behind is_newline left.now → AddsLine (number + 1) line old new (Err e) → Finds rest number (slice_split is_newline text) → Refuses text e
refuses rest next left line old new text number (refusal.Line m r) e f b adds h = refuses_line rest next left line old new number (slice_split is_newline text) m r e f b adds h
refuses rest next left line old new text number refusal.Memory e f b adds h = tt
