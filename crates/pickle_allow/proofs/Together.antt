-- Lists that stand one after another.
use Rattle.std.proofs.Common.{◌≡◌, ℕ, ◌+◌, Bool, true, false, cond, List, [], ◌∷◌, ◌++◌, Option, Some, None, Result, Ok, Err, refl, sym, ap, ◌∙◌, append_assoc}
use Rattle.std.specs.List.{slice_split, onto_first}
use Rattle.std.proofs.lemmas.List.Splits.{slice_split-cons_yes}
use Rattle.pickle_allow.specs.Grammar.{Row, is_newline, line_says, in_front, lines_say, text_lists}
use Rattle.pickle_allow.specs.Together.{ListsTogether}
use Rattle.pickle_allow.proofs.Cuts.{split_cut}

two_splits : (p : ℕ → Bool) (a b : List ℕ) (c : ℕ) → p c ≡ true → slice_split p (a ++ c ∷ b) ≡ slice_split p a ++ slice_split p b
two_splits p [] b c h = slice_split-cons_yes p c b h
two_splits p (x ∷ a) b c h = go (p x) (two_splits p a b c h)
  where
    first : onto_first x (slice_split p a ++ slice_split p b) ≡ onto_first x (slice_split p a) ++ slice_split p b
    first = ap (λ (l : List (List ℕ)). onto_first x (l ++ slice_split p b)) (split_cut p a) ∙ sym (ap (λ (l : List (List ℕ)). onto_first x l ++ slice_split p b) (split_cut p a))

    go : (t : Bool) → slice_split p (a ++ c ∷ b) ≡ slice_split p a ++ slice_split p b
        → cond t ([] ∷ slice_split p (a ++ c ∷ b)) (onto_first x (slice_split p (a ++ c ∷ b))) ≡ cond t ([] ∷ slice_split p a) (onto_first x (slice_split p a)) ++ slice_split p b
    go true e = ap (λ (l : List (List ℕ)). [] ∷ l) e
    go false e = ap (onto_first x) e ∙ first

-- the numbers of lines say nothing of what they list
front_any : (n m : ℕ) (said : Option (List Row)) (rest other : Result (List Row) ℕ) (rows : List Row) → ((more : List Row) → rest ≡ Ok more → other ≡ Ok more) → in_front n said rest ≡ Ok rows → in_front m said other ≡ Ok rows
front_any n m None rest other rows so h = absurd cc
front_any n m (Some r) (Err w) other rows so h = absurd cc
front_any n m (Some r) (Ok more) other rows so h = ap (in_front m (Some r)) (so more refl) ∙ h

any_number : (lines : List (List ℕ)) (n m : ℕ) (rows : List Row) → lines_say n lines ≡ Ok rows → lines_say m lines ≡ Ok rows
any_number [] n m rows h = h
any_number (line ∷ lines) n m rows h = front_any n m (line_says line) (lines_say (n + 1) lines) (lines_say (m + 1) lines) rows (λ more e. any_number lines (n + 1) (m + 1) more e) h

abbrev rows_of : (r : Result (List Row) ℕ) → List Row
rows_of (Ok rows) = rows
rows_of (Err n) = []

front_both : (n : ℕ) (said : Option (List Row)) (rest both : Result (List Row) ℕ) (rows more : List Row) → ((r : List Row) → rest ≡ Ok r → both ≡ Ok (r ++ more)) → in_front n said rest ≡ Ok rows
    → in_front n said both ≡ Ok (rows ++ more)
front_both n None rest both rows more so h = absurd cc
front_both n (Some r) (Err w) both rows more so h = absurd cc
front_both n (Some r) (Ok rs) both rows more so h =
    ap (in_front n (Some r)) (so rs refl) ∙ ap Ok (sym (append_assoc r rs more)) ∙ ap (λ (x : Result (List Row) ℕ). Ok (rows_of x ++ more)) h

lines_both : (xs ys : List (List ℕ)) (n : ℕ) (rows more : List Row) → lines_say n xs ≡ Ok rows → lines_say 1 ys ≡ Ok more → lines_say n (xs ++ ys) ≡ Ok (rows ++ more)
lines_both [] ys n rows more h g = any_number ys 1 n more g ∙ ap (λ (x : Result (List Row) ℕ). Ok (rows_of x ++ more)) h
lines_both (line ∷ xs) ys n rows more h g =
    front_both n (line_says line) (lines_say (n + 1) xs) (lines_say (n + 1) (xs ++ ys)) rows more (λ r e. lines_both xs ys (n + 1) r more e g) h

pub together : ListsTogether
unfolding text_lists
together a b rows more h g = ap (lines_say 1) (two_splits is_newline a b 10 refl) ∙ lines_both (slice_split is_newline a) (slice_split is_newline b) 1 rows more h g
