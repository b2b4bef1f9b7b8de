-- Lines, words and parts that are read one after another.
use Rattle.std.proofs.Common.{◌≡◌, ℕ, ◌+◌, ◌<◌, length, Bool, true, false, List, [], ◌∷◌, ◌++◌, map, Option, Some, None, option_map, Result, Ok, Err, Bor, refl, sym, ap, subst, ◌∙◌, append_assoc, arith}
use Rattle.std.specs.Prelude.{◌&&◌, ◌||◌}
use Rattle.std.specs.Option.{option_map_or}
use Rattle.std.specs.List.{list_all, list_any, slice_split}
use Rattle.pickle_allow.specs.declared.list.Entry.{Entry}
use Rattle.pickle_allow.specs.declared.words.Said.{Said}
use Rattle.pickle_allow.specs.Grammar.{Row, is_blank, is_newline, before, behind, with_piece, with_pieces, to_last, line_says, in_front, lines_say, entry_row}
use Rattle.pickle_allow.specs.Lines.{AddsLine}
use Rattle.pickle_allow.proofs.Cuts.{split_left, split_cut, split_some, size_left, less_left}

-- ---- words

-- a piece more is read
pub piece_read : (s t : Said) (rest next : Option (Bor (List ℕ))) (left : Bor (List ℕ)) (front : List ℕ) (whole : Option Said) → rest ≡ Some left → front ≡ before is_blank left.now
    → option_map (λ r. r.now) next ≡ behind is_blank left.now → Some t ≡ with_piece s front → with_pieces s (split_left is_blank (option_map (λ r. r.now) rest)) ≡ whole
    → with_pieces t (split_left is_blank (option_map (λ r. r.now) next)) ≡ whole
piece_read s t rest next left front whole e f b r h =
    let after = split_left is_blank (behind is_blank left.now) in
    ap (λ (o : Option (List ℕ)). with_pieces t (split_left is_blank o)) b
    ∙ ap (λ (x : Option Said). option_map_or (λ (u : Said). with_pieces u after) x None) (r ∙ ap (with_piece s) f)
    ∙ sym (ap (with_pieces s) (split_some is_blank rest left e ∙ split_cut is_blank left.now)) ∙ h

pub piece_wrong : (s : Said) (rest : Option (Bor (List ℕ))) (left : Bor (List ℕ)) (front : List ℕ) (whole : Option Said) → rest ≡ Some left → front ≡ before is_blank left.now
    → None ≡ with_piece s front → with_pieces s (split_left is_blank (option_map (λ r. r.now) rest)) ≡ whole → None ≡ whole
piece_wrong s rest left front whole e f r h =
    let after = split_left is_blank (behind is_blank left.now) in
    ap (λ (x : Option Said). option_map_or (λ (u : Said). with_pieces u after) x None) (r ∙ ap (with_piece s) f)
    ∙ sym (ap (with_pieces s) (split_some is_blank rest left e ∙ split_cut is_blank left.now)) ∙ h

-- ---- tests of pieces

-- a piece passes a test that all have to pass
pub all_read : (p : ℕ → Bool) (test : List ℕ → Bool) (rest next : Option (Bor (List ℕ))) (left : Bor (List ℕ)) (front : List ℕ) (whole : Bool) → rest ≡ Some left → front ≡ before p left.now
    → option_map (λ r. r.now) next ≡ behind p left.now → test front ≡ true → list_all test (split_left p (option_map (λ r. r.now) rest)) ≡ whole
    → list_all test (split_left p (option_map (λ r. r.now) next)) ≡ whole
all_read p test rest next left front whole e f b g h =
    let after = split_left p (behind p left.now) in
    ap (λ (o : Option (List ℕ)). list_all test (split_left p o)) b
    ∙ sym (ap (λ (x : Bool). x && list_all test after) (sym (ap test f) ∙ g))
    ∙ sym (ap (list_all test) (split_some p rest left e ∙ split_cut p left.now)) ∙ h

pub all_wrong : (p : ℕ → Bool) (test : List ℕ → Bool) (rest : Option (Bor (List ℕ))) (left : Bor (List ℕ)) (front : List ℕ) (whole : Bool) → rest ≡ Some left → front ≡ before p left.now
    → test front ≡ false → list_all test (split_left p (option_map (λ r. r.now) rest)) ≡ whole → false ≡ whole
all_wrong p test rest left front whole e f g h =
    let after = split_left p (behind p left.now) in
    sym (ap (λ (x : Bool). x && list_all test after) (sym (ap test f) ∙ g))
    ∙ sym (ap (list_all test) (split_some p rest left e ∙ split_cut p left.now)) ∙ h

-- a piece fails a test that one has to pass
pub any_read : (p : ℕ → Bool) (test : List ℕ → Bool) (rest next : Option (Bor (List ℕ))) (left : Bor (List ℕ)) (front : List ℕ) (whole : Bool) → rest ≡ Some left → front ≡ before p left.now
    → option_map (λ r. r.now) next ≡ behind p left.now → test front ≡ false → list_any test (split_left p (option_map (λ r. r.now) rest)) ≡ whole
    → list_any test (split_left p (option_map (λ r. r.now) next)) ≡ whole
any_read p test rest next left front whole e f b g h =
    let after = split_left p (behind p left.now) in
    ap (λ (o : Option (List ℕ)). list_any test (split_left p o)) b
    ∙ sym (ap (λ (x : Bool). x || list_any test after) (sym (ap test f) ∙ g))
    ∙ sym (ap (list_any test) (split_some p rest left e ∙ split_cut p left.now)) ∙ h

pub any_found : (p : ℕ → Bool) (test : List ℕ → Bool) (rest : Option (Bor (List ℕ))) (left : Bor (List ℕ)) (front : List ℕ) (whole : Bool) → rest ≡ Some left → front ≡ before p left.now
    → test front ≡ true → list_any test (split_left p (option_map (λ r. r.now) rest)) ≡ whole → true ≡ whole
any_found p test rest left front whole e f g h =
    let after = split_left p (behind p left.now) in
    sym (ap (λ (x : Bool). x || list_any test after) (sym (ap test f) ∙ g))
    ∙ sym (ap (list_any test) (split_some p rest left e ∙ split_cut p left.now)) ∙ h

-- ---- pieces of which the last one is taken otherwise

abbrev Taker : Type 0
Taker = Said → List ℕ → Option Said

behind_is : (p : ℕ → Bool) (rest : Option (Bor (List ℕ))) (left : List ℕ) (x : Option (Bor (List ℕ))) → option_map (λ r. r.now) rest ≡ behind p left → rest ≡ x → behind p left ≡ option_map (λ r. r.now) x
behind_is p rest left x b n = sym b ∙ ap (λ (o : Option (Bor (List ℕ))). option_map (λ r. r.now) o) n

-- what is left, by its first piece
by_first : (p : ℕ → Bool) (one last : Taker) (s : Said) (left front : List ℕ) (after : Option (List ℕ)) → front ≡ before p left → behind p left ≡ after
    → to_last one last s (slice_split p left) ≡ to_last one last s (front ∷ split_left p after)
by_first p one last s left front after f b =
    ap (to_last one last s) (split_cut p left) ∙ ap (λ (x : List ℕ). to_last one last s (x ∷ split_left p (behind p left))) (sym f)
    ∙ ap (λ (o : Option (List ℕ)). to_last one last s (front ∷ split_left p o)) b

pub last_read : (p : ℕ → Bool) (one last : Taker) (s : Said) (rest : Option (Bor (List ℕ))) (left front : List ℕ) (result whole : Option Said) → front ≡ before p left
    → option_map (λ r. r.now) rest ≡ behind p left → rest ≡ None → result ≡ last s front → to_last one last s (slice_split p left) ≡ whole → result ≡ whole
last_read p one last s rest left front result whole f b n r h = r ∙ sym (by_first p one last s left front None f (behind_is p rest left None b n)) ∙ h

-- what is left, by a first piece that is not the last one
by_two : (p : ℕ → Bool) (one last : Taker) (s : Said) (rest : Option (Bor (List ℕ))) (left front : List ℕ) (next : Bor (List ℕ)) → front ≡ before p left
    → option_map (λ r. r.now) rest ≡ behind p left → rest ≡ Some next
    → to_last one last s (slice_split p left) ≡ option_map_or (λ (t : Said). to_last one last t (slice_split p next.now)) (one s front) None
by_two p one last s rest left front next f b n =
    let e = split_cut p next.now in
    by_first p one last s left front (Some next.now) f (behind_is p rest left (Some next) b n)
    ∙ ap (λ (l : List (List ℕ)). to_last one last s (front ∷ l)) e
    ∙ ap (λ (l : List (List ℕ)). option_map_or (λ (t : Said). to_last one last t l) (one s front) None) (sym e)

pub first_read : (p : ℕ → Bool) (one last : Taker) (s t : Said) (rest : Option (Bor (List ℕ))) (left front : List ℕ) (next : Bor (List ℕ)) (whole : Option Said) → front ≡ before p left
    → option_map (λ r. r.now) rest ≡ behind p left → rest ≡ Some next → Some t ≡ one s front → to_last one last s (slice_split p left) ≡ whole → to_last one last t (slice_split p next.now) ≡ whole
first_read p one last s t rest left front next whole f b n r h =
    ap (λ (x : Option Said). option_map_or (λ (u : Said). to_last one last u (slice_split p next.now)) x None) r ∙ sym (by_two p one last s rest left front next f b n) ∙ h

pub first_wrong : (p : ℕ → Bool) (one last : Taker) (s : Said) (rest : Option (Bor (List ℕ))) (left front : List ℕ) (next : Bor (List ℕ)) (whole : Option Said) → front ≡ before p left
    → option_map (λ r. r.now) rest ≡ behind p left → rest ≡ Some next → None ≡ one s front → to_last one last s (slice_split p left) ≡ whole → None ≡ whole
first_wrong p one last s rest left front next whole f b n r h =
    ap (λ (x : Option Said). option_map_or (λ (u : Said). to_last one last u (slice_split p next.now)) x None) r ∙ sym (by_two p one last s rest left front next f b n) ∙ h

pub next_smaller : (p : ℕ → Bool) (rest : Option (Bor (List ℕ))) (left : List ℕ) (next : Bor (List ℕ)) → option_map (λ r. r.now) rest ≡ behind p left → rest ≡ Some next → length next.now < length left
next_smaller p rest left next b n = let s = less_left p left in omega (arith, s, ap size_left (behind_is p rest left (Some next) b n))

-- ---- lines

-- rows in front of what the lines behind them list
abbrev pub onto : List Row → Result (List Row) ℕ → Result (List Row) ℕ
onto rows (Ok more) = Ok (rows ++ more)
onto rows (Err n) = Err n

onto_onto : (rows more : List Row) (n : ℕ) (rest : Result (List Row) ℕ) → onto rows (in_front n (Some more) rest) ≡ onto (rows ++ more) rest
onto_onto rows more n (Ok all) = ap Ok (sym (append_assoc rows more all))
onto_onto rows more n (Err m) = refl

pub onto_nothing : (rest : Result (List Row) ℕ) → onto [] rest ≡ rest
onto_nothing (Ok rows) = refl
onto_nothing (Err n) = refl

-- what is listed by what is left, by its first line
by_line : (rows : List Row) (n : ℕ) (rest : Option (Bor (List ℕ))) (left : Bor (List ℕ)) (front : List ℕ) (said : Option (List Row)) → rest ≡ Some left → front ≡ before is_newline left.now → line_says front ≡ said
    → onto rows (lines_say n (split_left is_newline (option_map (λ r. r.now) rest))) ≡ onto rows (in_front n said (lines_say (n + 1) (split_left is_newline (behind is_newline left.now))))
by_line rows n rest left front said e f s =
    let after = lines_say (n + 1) (split_left is_newline (behind is_newline left.now)) in
    ap (λ (lines : List (List ℕ)). onto rows (lines_say n lines)) (split_some is_newline rest left e ∙ split_cut is_newline left.now)
    ∙ ap (λ (x : Option (List Row)). onto rows (in_front n x after)) (ap line_says (sym f) ∙ s)

-- a line more is read
pub line_read : (entries new : List Entry) (n : ℕ) (rest next : Option (Bor (List ℕ))) (left : Bor (List ℕ)) (front : List ℕ) (good : Bool) (whole : Result (List Row) ℕ) → rest ≡ Some left
    → front ≡ before is_newline left.now → option_map (λ r. r.now) next ≡ behind is_newline left.now → AddsLine front entries new good → good ≡ true
    → onto (map entry_row entries) (lines_say n (split_left is_newline (option_map (λ r. r.now) rest))) ≡ whole
    → onto (map entry_row new) (lines_say (n + 1) (split_left is_newline (option_map (λ r. r.now) next))) ≡ whole
line_read entries new n rest next left front good whole e f b adds g h =
    let a : AddsLine front entries new true = subst (λ (x : Bool). AddsLine front entries new x) g adds in
    let after = lines_say (n + 1) (split_left is_newline (behind is_newline left.now)) in
    ap (λ (o : Option (List ℕ)). onto (map entry_row new) (lines_say (n + 1) (split_left is_newline o))) b
    ∙ ap (λ (rows : List Row). onto rows after) a.2
    ∙ sym (onto_onto (map entry_row entries) a.0 n after)
    ∙ sym (by_line (map entry_row entries) n rest left front (Some a.0) e f a.1) ∙ h

pub line_wrong : (entries new : List Entry) (n : ℕ) (rest : Option (Bor (List ℕ))) (left : Bor (List ℕ)) (front : List ℕ) (good : Bool) (whole : Result (List Row) ℕ) → rest ≡ Some left
    → front ≡ before is_newline left.now → AddsLine front entries new good → good ≡ false
    → onto (map entry_row entries) (lines_say n (split_left is_newline (option_map (λ r. r.now) rest))) ≡ whole → whole ≡ Err n
line_wrong entries new n rest left front good whole e f adds g h =
    let a : AddsLine front entries new false = subst (λ (x : Bool). AddsLine front entries new x) g adds in
    sym h ∙ by_line (map entry_row entries) n rest left front None e f a
