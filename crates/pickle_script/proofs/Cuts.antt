-- Cutting bytes into lines: in one way, and as more of them come.
use Rattle.std.proofs.Common.{◌≡◌, ◌≢◌, ℕ, Bool, true, false, ◌==◌, List, [], ◌∷◌, ◌++◌, refl, sym, ap, subst, ◌∙◌, append_assoc, append-nil, arith}
use Rattle.std.specs.List.{AllByRecursion}
use Rattle.pickle_script.specs.Script.{Cut, HasNoNewline, IsCut, OneCut, joined}

-- ---- more bytes

HasNoNewline-push : (bs : List ℕ) (b : ℕ) → HasNoNewline bs → b ≢ 10 → HasNoNewline (bs ++ b ∷ [])
HasNoNewline-push [] b p h = (h, tt)
HasNoNewline-push (c ∷ cs) b p h = (p.0, HasNoNewline-push cs b p.1 h)

lines-append : (ls ms : List (List ℕ)) → AllByRecursion HasNoNewline ls → AllByRecursion HasNoNewline ms → AllByRecursion HasNoNewline (ls ++ ms)
lines-append [] ms p q = q
lines-append (l ∷ ls) ms p q = (p.0, lines-append ls ms p.1 q)

joined-append : (ls ms : List (List ℕ)) → joined (ls ++ ms) ≡ joined ls ++ joined ms
joined-append [] ms = refl
joined-append (l ∷ ls) ms = ap (λ (t : List ℕ). l ++ 10 ∷ t) (joined-append ls ms) ∙ sym (append_assoc l (10 ∷ joined ls) (joined ms))

-- the cut of bytes goes on with the cut of what is after their last newline
abbrev pub after : Cut → Cut → Cut
after c d = record { complete = c.complete ++ d.complete; rest = d.rest }

pub IsCut-more : (bytes more : List ℕ) (c d : Cut) → IsCut bytes c → IsCut (c.rest ++ more) d → IsCut (bytes ++ more) (after c d)
IsCut-more bytes more c d p q = record {
  whole =
      ap (λ (t : List ℕ). t ++ d.rest) (joined-append c.complete d.complete)
      ∙ append_assoc (joined c.complete) (joined d.complete) d.rest
      ∙ ap (λ (t : List ℕ). joined c.complete ++ t) q.whole
      ∙ sym (append_assoc (joined c.complete) c.rest more)
      ∙ ap (λ (t : List ℕ). t ++ more) p.whole;
  lines = lines-append c.complete d.complete p.lines q.lines;
  rest = q.rest;
}

abbrev pub nothing : Cut
nothing = record { complete = []; rest = [] }

pub IsCut-none : IsCut [] nothing
IsCut-none = record { whole = refl; lines = tt; rest = tt }

-- a newline ends the line
abbrev pub ended : Cut → Cut
ended c = record { complete = c.complete ++ c.rest ∷ []; rest = [] }

pub IsCut-newline : (bytes : List ℕ) (c : Cut) → IsCut bytes c → IsCut (bytes ++ 10 ∷ []) (ended c)
IsCut-newline bytes c p =
    IsCut-more bytes (10 ∷ []) c (record { complete = c.rest ∷ []; rest = [] }) p (record { whole = append-nil (c.rest ++ 10 ∷ []); lines = (p.rest, tt); rest = tt })

-- any other byte lengthens it
abbrev pub lengthened : Cut → ℕ → Cut
lengthened c b = record c { rest = c.rest ++ b ∷ [] }

pub IsCut-byte : (bytes : List ℕ) (c : Cut) (b : ℕ) → b ≢ 10 → IsCut bytes c → IsCut (bytes ++ b ∷ []) (lengthened c b)
IsCut-byte bytes c b h p =
    subst (λ (ls : List (List ℕ)). IsCut (bytes ++ b ∷ []) (record { complete = ls; rest = c.rest ++ b ∷ [] })) (append-nil c.complete)
    (IsCut-more bytes (b ∷ []) c (record { complete = []; rest = c.rest ++ b ∷ [] }) p (record { whole = refl; lines = tt; rest = HasNoNewline-push c.rest b p.rest h }))

-- ---- one at least

pub record SomeCut (bytes : List ℕ) : Type 0 where
  pub cut : Cut
  pub is_cut : IsCut bytes cut

cut_other : (b : ℕ) (bs rest : List ℕ) (ls : List (List ℕ)) → b ≢ 10 → IsCut bs (record { complete = ls; rest = rest }) → SomeCut (b ∷ bs)
cut_other b bs rest [] h p = record {
  cut = record { complete = []; rest = b ∷ rest };
  is_cut = record { whole = ap (λ (t : List ℕ). b ∷ t) p.whole; lines = tt; rest = (h, p.rest) };
}
cut_other b bs rest (l ∷ ls) h p = record {
  cut = record { complete = (b ∷ l) ∷ ls; rest = rest };
  is_cut = record { whole = ap (λ (t : List ℕ). b ∷ t) p.whole; lines = ((h, p.lines.0), p.lines.1); rest = p.rest };
}

cut_newline : (b : ℕ) (bs : List ℕ) (c : Cut) → b ≡ 10 → IsCut bs c → SomeCut (b ∷ bs)
cut_newline b bs c h p = record {
  cut = record { complete = [] ∷ c.complete; rest = c.rest };
  is_cut = record { whole = rw h (ap (λ (t : List ℕ). 10 ∷ t) p.whole); lines = (tt, p.lines); rest = p.rest };
}

pub is_newline : (b : ℕ) → (b == 10) ≡ true → b ≡ 10
is_newline b h = grind arith

is_other : (b : ℕ) → (b == 10) ≡ false → b ≢ 10
is_other b h = grind arith

pub some_cut : (bytes : List ℕ) → SomeCut bytes
some_cut [] = record { cut = nothing; is_cut = IsCut-none }
some_cut (b ∷ bs) = go (b == 10) refl (some_cut bs)
  where
    go : (t : Bool) → (b == 10) ≡ t → SomeCut bs → SomeCut (b ∷ bs)
    go true h c = cut_newline b bs c.cut (is_newline b h) c.is_cut
    go false h c = cut_other b bs c.cut.rest c.cut.complete (is_other b h) c.is_cut

-- ---- one at most

record SameFirst (l m x y : List ℕ) : Type 0 where
  line : l ≡ m
  rest : x ≡ y

same_first : (l m x y : List ℕ) → HasNoNewline l → HasNoNewline m → l ++ 10 ∷ x ≡ m ++ 10 ∷ y → SameFirst l m x y
same_first [] [] x y p q e = record { line = refl; rest = cc }
same_first [] (b ∷ m) x y p q e = absurd (q.0 cc)
same_first (b ∷ l) [] x y p q e = absurd (p.0 cc)
same_first (b ∷ l) (c ∷ m) x y p q e =
    let tail : l ++ 10 ∷ x ≡ m ++ 10 ∷ y = cc in
    let head : b ≡ c = cc in
    let r = same_first l m x y p.1 q.1 tail in
    record { line = ap (λ (t : ℕ). t ∷ l) head ∙ ap (λ (t : List ℕ). c ∷ t) r.line; rest = r.rest }

no_line : (l x rest : List ℕ) → HasNoNewline rest → l ++ 10 ∷ x ≡ rest → ⊥
no_line [] x [] p e = absurd cc
no_line [] x (b ∷ bs) p e = p.0 cc
no_line (c ∷ l) x [] p e = absurd cc
no_line (c ∷ l) x (b ∷ bs) p e = no_line l x bs p.1 cc

record SameParts (ls ms : List (List ℕ)) (r s : List ℕ) : Type 0 where
  complete : ls ≡ ms
  rest : r ≡ s

same_parts : (ls ms : List (List ℕ)) (r s : List ℕ) → AllByRecursion HasNoNewline ls → AllByRecursion HasNoNewline ms → HasNoNewline r → HasNoNewline s
    → joined ls ++ r ≡ joined ms ++ s → SameParts ls ms r s
same_parts [] [] r s p q u v e = record { complete = refl; rest = e }
same_parts [] (m ∷ ms) r s p q u v e = absurd (no_line m (joined ms ++ s) r u (sym (e ∙ append_assoc m (10 ∷ joined ms) s)))
same_parts (l ∷ ls) [] r s p q u v e = absurd (no_line l (joined ls ++ r) s v (sym (append_assoc l (10 ∷ joined ls) r) ∙ e))
same_parts (l ∷ ls) (m ∷ ms) r s p q u v e =
    let first = same_first l m (joined ls ++ r) (joined ms ++ s) p.0 q.0 (sym (append_assoc l (10 ∷ joined ls) r) ∙ e ∙ append_assoc m (10 ∷ joined ms) s) in
    let more = same_parts ls ms r s p.1 q.1 u v first.rest in
    record { complete = ap (λ (t : List ℕ). t ∷ ls) first.line ∙ ap (λ (t : List (List ℕ)). m ∷ t) more.complete; rest = more.rest }

same_cut : (bytes : List ℕ) (c d : Cut) → IsCut bytes c → IsCut bytes d → c ≡ d
same_cut bytes c d p q =
    let s = same_parts c.complete d.complete c.rest d.rest p.lines q.lines p.rest q.rest (p.whole ∙ sym q.whole) in
    ap (λ (ls : List (List ℕ)). record c { complete = ls }) s.complete ∙ ap (λ (r : List ℕ). record d { rest = r }) s.rest

pub one_cut : OneCut
one_cut bytes = let some = some_cut bytes in (some.cut, some.is_cut, λ d p. same_cut bytes some.cut d some.is_cut p)
