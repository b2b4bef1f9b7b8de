-- Rests of patterns and rests of texts.
use Rattle.std.proofs.Common.{◌≡◌, ℕ, zero, suc, ◌+◌, ◌<◌, ◌≤◌, Bool, true, false, if◌then◌else◌, List, [], ◌∷◌, ◌++◌, length, take, drop, set, get_or, replicate, ◌-◌, ◌⊎◌, inl, inr, refl, sym, ap, ◌∙◌, bytes_eq, arith, add-one}
use Rattle.std.specs.Prelude.{◌==◌, ◌&&◌, ◌||◌, not, codes}
use Rattle.std.proofs.lemmas.Bool.{and_parts, or_right, cases_eq, eq-eqb, ne_eqb}
use Rattle.std.proofs.lemmas.Slice.Eq.{bytes_eq-Decides}
use Rattle.std.specs.List.{list_any}
use Rattle.std.proofs.lemmas.List.{drop_more, drop_all, take_rest}
use Rattle.pickle_allow.specs.Allow.{some_rest, byte_then, is_nothing, is_star, is_point, under_star, fits}
use Rattle.pickle_allow.specs.Rests.{rests_fit, in_front, first_of_rests, next_rests}

-- ---- a text with one byte more

first_fits : (pattern text : List ℕ) → first_of_rests (rests_fit pattern text) ≡ fits pattern text
first_fits [] text = refl
first_fits (p ∷ pattern) text = refl

front_fits : (p : ℕ) (pattern : List ℕ) (c : ℕ) (text : List ℕ) → in_front p pattern c (fits (p ∷ pattern) text) (fits pattern text) (fits pattern (c ∷ text)) ≡ fits (p ∷ pattern) (c ∷ text)
front_fits p pattern c text = go (is_star p)
  where
    go : (b : Bool) → (if b then fits pattern (c ∷ text) || (under_star pattern c && (if b then some_rest (under_star pattern) (fits pattern) text else byte_then p (fits pattern) text)) else p == c && fits pattern text)
        ≡ (if b then fits pattern (c ∷ text) || (under_star pattern c && some_rest (under_star pattern) (fits pattern) text) else p == c && fits pattern text)
    go true = refl
    go false = refl

pub next_fits : (pattern : List ℕ) (c : ℕ) (text : List ℕ) → next_rests pattern false c (rests_fit pattern text) ≡ rests_fit pattern (c ∷ text)
next_fits [] c text = refl
next_fits (p ∷ pattern) c text =
    let e = next_fits pattern c text in
    let star : first_of_rests (next_rests pattern false c (rests_fit pattern text)) ≡ fits pattern (c ∷ text) = ap first_of_rests e ∙ first_fits pattern (c ∷ text) in
    ap (λ (s : Bool). in_front p pattern c (fits (p ∷ pattern) text) (first_of_rests (rests_fit pattern text)) s ∷ next_rests pattern false c (rests_fit pattern text)) star
    ∙ ap (λ (b : Bool). in_front p pattern c (fits (p ∷ pattern) text) b (fits pattern (c ∷ text)) ∷ next_rests pattern false c (rests_fit pattern text)) (first_fits pattern text)
    ∙ ap (λ (b : Bool). b ∷ next_rests pattern false c (rests_fit pattern text)) (front_fits p pattern c text)
    ∙ ap (λ (bs : List Bool). fits (p ∷ pattern) (c ∷ text) ∷ bs) e

-- ---- the empty text

front_none : (p : ℕ) (pattern : List ℕ) → in_front p pattern 0 false false (fits pattern []) ≡ fits (p ∷ pattern) []
front_none p pattern = go (is_star p) (fits pattern []) (under_star pattern 0) (p == 0)
  where
    go : (b f u e : Bool) → (if b then f || (u && false) else e && false) ≡ (if b then f else false)
    go true true u e = refl
    go true false true e = refl
    go true false false e = refl
    go false f u true = refl
    go false f u false = refl

first_false : (n : ℕ) → first_of_rests (replicate n false) ≡ false
first_false zero = refl
first_false (suc n) = refl

pub none_fits : (pattern : List ℕ) (n : ℕ) → n ≡ length pattern → next_rests pattern true 0 (replicate (suc n) false) ≡ rests_fit pattern []
none_fits [] n h = refl
none_fits (p ∷ pattern) zero h = absurd (omega (arith, h))
none_fits (p ∷ pattern) (suc n) h =
    let e = none_fits pattern n (omega (arith, h)) in
    let star : first_of_rests (next_rests pattern true 0 (replicate (suc n) false)) ≡ fits pattern [] = ap first_of_rests e ∙ first_fits pattern [] in
    ap (λ (s : Bool). in_front p pattern 0 false false s ∷ next_rests pattern true 0 (replicate (suc n) false)) star
    ∙ ap (λ (b : Bool). b ∷ next_rests pattern true 0 (replicate (suc n) false)) (front_none p pattern)
    ∙ ap (λ (bs : List Bool). fits (p ∷ pattern) [] ∷ bs) e

-- ---- one rest of the pattern more

pub length-rests : (pattern text : List ℕ) → length (rests_fit pattern text) ≡ length pattern + 1
length-rests [] text = omega arith
length-rests (p ∷ pattern) text = let e = length-rests pattern text in omega (arith, e)

pub length-next : (pattern : List ℕ) (end : Bool) (c : ℕ) (old : List Bool) → length old ≡ length pattern + 1 → length (next_rests pattern end c old) ≡ length pattern + 1
length-next [] end c old h = omega arith
length-next (p ∷ pattern) end c [] h = absurd (omega (arith, h))
length-next (p ∷ pattern) end c (same ∷ old) h = let e = length-next pattern end c old (omega (arith, h)) in omega (arith, e)

first_is : (xs : List Bool) (d : Bool) → 0 < length xs → get_or xs 0 d ≡ first_of_rests xs
first_is [] d h = absurd (omega (arith, h))
first_is (x ∷ xs) d h = refl

-- what is done for all rests from i on; those before are as they were
abbrev pub done_from : List ℕ → Bool → ℕ → List Bool → ℕ → List Bool
done_from pattern end c old i = take i old ++ next_rests (drop i pattern) end c (drop i old)

-- nothing but the empty rest is done
pub none_done : (pattern : List ℕ) (end : Bool) (c : ℕ) (old : List Bool) → length old ≡ length pattern + 1 → set old (length pattern) end ≡ done_from pattern end c old (length pattern)
none_done [] end c [] h = absurd (omega (arith, h))
none_done [] end c (o ∷ []) h = refl
none_done [] end c (o ∷ x ∷ old) h = absurd (omega (arith, h))
none_done (p ∷ pattern) end c [] h = absurd (omega (arith, h))
none_done (p ∷ pattern) end c (o ∷ old) h = ap (λ (bs : List Bool). o ∷ bs) (none_done pattern end c old (omega (arith, h)))

pub both_first : (pattern : List ℕ) (old : List Bool) (d : Bool) → length old ≡ length pattern + 1 → get_or old (length pattern) d ≡ first_of_rests (drop (length pattern) old)
both_first [] [] d h = absurd (omega (arith, h))
both_first [] (o ∷ old) d h = refl
both_first (p ∷ pattern) [] d h = absurd (omega (arith, h))
both_first (p ∷ pattern) (o ∷ old) d h = both_first pattern old d (omega (arith, h))

pub same_at : (pattern : List ℕ) (end : Bool) (c : ℕ) (old : List Bool) (i : ℕ) (d : Bool) → i < length pattern → length old ≡ length pattern + 1 → get_or (done_from pattern end c old (suc i)) i d ≡ first_of_rests (drop i old)
same_at [] end c old i d l h = absurd (omega (arith, l))
same_at (p ∷ pattern) end c [] i d l h = absurd (omega (arith, h))
same_at (p ∷ pattern) end c (o ∷ old) zero d l h = refl
same_at (p ∷ pattern) end c (o ∷ old) (suc i) d l h = same_at pattern end c old i d (omega (arith, l)) (omega (arith, h))

pub star_at : (pattern : List ℕ) (end : Bool) (c : ℕ) (old : List Bool) (i : ℕ) (d : Bool) → i < length pattern → length old ≡ length pattern + 1 → get_or (done_from pattern end c old (suc i)) (suc i) d ≡ first_of_rests (next_rests (drop (suc i) pattern) end c (drop (suc i) old))
star_at [] end c old i d l h = absurd (omega (arith, l))
star_at (p ∷ pattern) end c [] i d l h = absurd (omega (arith, h))
star_at (p ∷ pattern) end c (o ∷ old) zero d l h = let n = length-next pattern end c old (omega (arith, h)) in first_is (next_rests pattern end c old) d (omega (arith, n))
star_at (p ∷ pattern) end c (o ∷ old) (suc i) d l h = star_at pattern end c old i d (omega (arith, l)) (omega (arith, h))

pub one_done : (pattern : List ℕ) (end : Bool) (c : ℕ) (old : List Bool) (i d : ℕ) → i < length pattern → length old ≡ length pattern + 1
    → set (done_from pattern end c old (suc i)) i (in_front (get_or pattern i d) (drop (suc i) pattern) c (first_of_rests (drop i old)) (first_of_rests (drop (suc i) old)) (first_of_rests (next_rests (drop (suc i) pattern) end c (drop (suc i) old))))
    ≡ done_from pattern end c old i
one_done [] end c old i d l h = absurd (omega (arith, l))
one_done (p ∷ pattern) end c [] i d l h = absurd (omega (arith, h))
one_done (p ∷ pattern) end c (o ∷ old) zero d l h = refl
one_done (p ∷ pattern) end c (o ∷ old) (suc i) d l h = ap (λ (bs : List Bool). o ∷ bs) (one_done pattern end c old i d (omega (arith, l)) (omega (arith, h)))

-- ---- the steps of a loop

pub record StepsTo (pattern : List ℕ) (end : Bool) (c : ℕ) (old now : List Bool) (i : ℕ) (same out : Bool) : Type 0 where
  pub done : set now i out ≡ done_from pattern end c old i
  pub both : same ≡ first_of_rests (drop i old)

step : (pattern : List ℕ) (end : Bool) (c : ℕ) (old now : List Bool) (i : ℕ) (both same star out : Bool) → i < length pattern → length old ≡ length pattern + 1
    → now ≡ done_from pattern end c old (suc i) → both ≡ first_of_rests (drop (suc i) old) → same ≡ get_or now i same → star ≡ get_or now (suc i) star
    → out ≡ in_front (get_or pattern i 0) (take (length pattern - suc i) (drop (suc i) pattern)) c same both star → StepsTo pattern end c old now i same out
step pattern end c old now i both same star out l h d b s t o =
    let s_is : same ≡ first_of_rests (drop i old) = s ∙ ap (λ (xs : List Bool). get_or xs i same) d ∙ same_at pattern end c old i same l h in
    let t_is : star ≡ first_of_rests (next_rests (drop (suc i) pattern) end c (drop (suc i) old)) = t ∙ ap (λ (xs : List Bool). get_or xs (suc i) star) d ∙ star_at pattern end c old i star l h in
    let rest = drop (suc i) pattern in
    let out_is : out ≡ in_front (get_or pattern i 0) rest c (first_of_rests (drop i old)) (first_of_rests (drop (suc i) old)) (first_of_rests (next_rests rest end c (drop (suc i) old)))
    = o ∙ ap (λ (r : List ℕ). in_front (get_or pattern i 0) r c same both star) (take_rest pattern (suc i))
    ∙ ap (λ (x : Bool). in_front (get_or pattern i 0) rest c x both star) s_is
    ∙ ap (λ (x : Bool). in_front (get_or pattern i 0) rest c (first_of_rests (drop i old)) x star) b
    ∙ ap (λ (x : Bool). in_front (get_or pattern i 0) rest c (first_of_rests (drop i old)) (first_of_rests (drop (suc i) old)) x) t_is in
    record {
      done = ap (λ (xs : List Bool). set xs i out) d ∙ ap (λ (x : Bool). set (done_from pattern end c old (suc i)) i x) out_is ∙ one_done pattern end c old i 0 l h;
      both = s_is;
    }

-- the same, counted down from n to i; j is n too
pub step_down : (pattern : List ℕ) (end : Bool) (c : ℕ) (old now : List Bool) (n i j : ℕ) (both same star out : Bool) → n ≡ suc i → j ≡ suc i → i < length pattern → length old ≡ length pattern + 1
    → now ≡ done_from pattern end c old n → both ≡ first_of_rests (drop n old) → same ≡ get_or now i same → star ≡ get_or now j star
    → out ≡ in_front (get_or pattern i 0) (take (length pattern - j) (drop j pattern)) c same both star → StepsTo pattern end c old now i same out
step_down pattern end c old now n i j both same star out n_is j_is l h d b s t o =
    step pattern end c old now i both same star out l h
    (d ∙ ap (λ (k : ℕ). done_from pattern end c old k) n_is)
    (b ∙ ap (λ (k : ℕ). first_of_rests (drop k old)) n_is)
    s
    (t ∙ ap (λ (k : ℕ). get_or now k star) j_is)
    (o ∙ ap (λ (k : ℕ). in_front (get_or pattern i 0) (take (length pattern - k) (drop k pattern)) c same both star) j_is)

-- a byte of the text more
pub byte_more : (pattern text : List ℕ) (n i : ℕ) (old new : List Bool) → n ≡ i + 1 → i < length text → old ≡ rests_fit pattern (drop n text) → new ≡ next_rests pattern false (get_or text i 0) old → new ≡ rests_fit pattern (drop i text)
byte_more pattern text n i old new e l o h =
    h ∙ ap (next_rests pattern false (get_or text i 0)) (o ∙ ap (λ (k : ℕ). rests_fit pattern (drop k text)) e)
    ∙ next_fits pattern (get_or text i 0) (drop (i + 1) text)
    ∙ ap (rests_fit pattern) (sym (drop_more text i 0 l))

pub no_byte : (pattern text : List ℕ) (n : ℕ) (old new : List Bool) → n ≡ length pattern + 1 → old ≡ replicate n false → new ≡ next_rests pattern true 0 old → new ≡ rests_fit pattern (drop (length text) text)
no_byte pattern text n old new e o h =
    h ∙ ap (next_rests pattern true 0) (o ∙ ap (λ (k : ℕ). replicate k false) (e ∙ add-one (length pattern)))
    ∙ none_fits pattern (length pattern) refl
    ∙ ap (rests_fit pattern) (sym (drop_all (length text) text (omega arith)))

pub every_byte : (pattern text : List ℕ) (i : ℕ) (rests : List Bool) (b : Bool) → i ≡ 0 → rests ≡ rests_fit pattern (drop i text) → b ≡ get_or rests 0 b → b ≡ fits pattern text
every_byte pattern text i rests b e r h = h ∙ ap (λ (xs : List Bool). get_or xs 0 b) (r ∙ ap (λ (k : ℕ). rests_fit pattern (drop k text)) e) ∙ go pattern
  where
    go : (p : List ℕ) → get_or (rests_fit p text) 0 b ≡ fits p text
    go [] = refl
    go (c ∷ p) = refl

-- ---- a front without a star

byte_both : (p : ℕ) (pattern : List ℕ) (c : ℕ) (text : List ℕ) → is_star p ≡ false → (p == c) ≡ true → fits (p ∷ pattern) (c ∷ text) ≡ fits pattern text
byte_both p pattern c text s e = go (is_star p) (p == c) s e
  where
    go : (t u : Bool) → t ≡ false → u ≡ true → (if t then some_rest (under_star pattern) (fits pattern) (c ∷ text) else u && fits pattern text) ≡ fits pattern text
    go true u h k = absurd cc
    go false true h k = refl
    go false false h k = absurd cc

pub record FrontIs (pattern text : List ℕ) (i : ℕ) : Type 0 where
  pub within : suc i ≤ length text
  pub same : fits (drop i pattern) (drop i text) ≡ fits (drop (suc i) pattern) (drop (suc i) text)

pub front_is : (pattern text : List ℕ) (i : ℕ) → i < length pattern → is_star (get_or pattern i 0) ≡ false → byte_then (get_or pattern i 0) (λ (rest : List ℕ). true) (drop i text) ≡ true → FrontIs pattern text i
front_is [] text i l s h = absurd (omega (arith, l))
front_is (p ∷ pattern) [] zero l s h = absurd cc
front_is (p ∷ pattern) (c ∷ text) zero l s h = record { within = omega arith; same = byte_both p pattern c text s (and_parts (p == c) true h).0 }
front_is (p ∷ pattern) [] (suc i) l s h = absurd cc
front_is (p ∷ pattern) (c ∷ text) (suc i) l s h =
    let f = front_is pattern text i (omega (arith, l)) s h in
    let w = f.within in
    record { within = omega (arith, w); same = f.same }

at_end : (text : List ℕ) (n : ℕ) → n ≤ length text → is_nothing (drop n text) ≡ (n == length text)
at_end text n h = go (cases_eq n (length text))
  where
    go : ((n ≡ length text) ⊎ (n ≡ length text → ⊥)) → is_nothing (drop n text) ≡ (n == length text)
    go (inl e) = ap is_nothing (drop_all n text (omega (arith, e))) ∙ sym (eq-eqb n (length text) e)
    go (inr e) = let l : n < length text = omega (arith, h, e) in ap is_nothing (drop_more text n 0 l) ∙ sym (ne_eqb n (length text) e)

-- the whole pattern is a front without a star
pub all_front : (pattern text : List ℕ) (i : ℕ) → i ≡ length pattern → i ≤ length text → fits (drop i pattern) (drop i text) ≡ fits pattern text → (length pattern == length text) ≡ fits pattern text
all_front pattern text i e w h =
    ap (λ (k : ℕ). k == length text) (sym e) ∙ sym (at_end text i w)
    ∙ ap (λ (p : List ℕ). fits p (drop i text)) (sym (drop_all i pattern (omega (arith, e)))) ∙ h

-- ---- the ends of patterns

same_bytes : (xs ys : List ℕ) → bytes_eq xs ys ≡ true → xs ≡ ys
same_bytes xs ys h = (bytes_eq-Decides xs ys).0 h

one_star_fits : (text : List ℕ) → fits (codes "*") text ≡ not (list_any is_point text)
one_star_fits [] = refl
one_star_fits (c ∷ text) = go (is_point c) (one_star_fits text)
  where
    go : (t : Bool) → fits (codes "*") text ≡ not (list_any is_point text) → (false || ((false || not t) && fits (codes "*") text)) ≡ not (t || list_any is_point text)
    go true e = refl
    go false e = e

two_stars_fit : (text : List ℕ) → fits (codes "**") text ≡ true
two_stars_fit [] = refl
two_stars_fit (c ∷ text) = or_right (fits (codes "*") (c ∷ text)) (fits (codes "**") text) (two_stars_fit text)

pub one_star : (pattern text : List ℕ) → bytes_eq pattern (codes "*") ≡ true → not (list_any is_point text) ≡ fits pattern text
one_star pattern text h = sym (ap (λ (p : List ℕ). fits p text) (same_bytes pattern (codes "*") h) ∙ one_star_fits text)

pub two_stars : (pattern text : List ℕ) → bytes_eq pattern (codes "**") ≡ true → true ≡ fits pattern text
two_stars pattern text h = sym (ap (λ (p : List ℕ). fits p text) (same_bytes pattern (codes "**") h) ∙ two_stars_fit text)
