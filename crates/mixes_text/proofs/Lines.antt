-- Lines that are written one after another.
use Rattle.std.proofs.Common.{◌≡◌, ℕ, zero, suc, ◌+◌, ◌-◌, ◌<◌, ◌≤◌, Bool, true, false, List, [], ◌∷◌, ◌++◌, length, take, drop, Option, Some, None, refl, sym, ap, subst, ◌∙◌, arith}
use Rattle.std.specs.Prelude.{codes, is_some, unwrap_or, slice_index_or, Result, Ok, Err}
use Rattle.std.proofs.lemmas.List.{take-append-drop, take_more, take_all}
use Rattle.pickle_io.specs.Text.{◌⧺◌}
use Rattle.pickle_io.specs.Device.{Told, Wrote, Broke, each}
use Rattle.pickle_io.proofs.Devices.{Wrote-none, each-append, each-cons, each-nil}
use Rattle.pickle_text.specs.declared.stop.TextStop.{TextStop}
use Rattle.pickle_text.specs.declared.stop.TextStop.TheVariants as stop
use Rattle.pickle_further.specs.CallsText.{CutsText, PutsText}
use Rattle.pickle_further.proofs.Pieces.{cut_after, cut_before, pieces}
use Rattle.pickle_ops.specs.declared.fault.FrontFault.{FrontFault}
use Rattle.pickle_io.specs.declared.hole.Hole.{Hole}
use Rattle.pickle_io.specs.Holes.{in_file}
use Rattle.pickle_lenient.specs.declared.taken.Frames.TheVariants as frames
use Rattle.pickle_lenient.specs.declared.taken.Taken.{Taken}
use Rattle.pickle_lenient.specs.declared.fault.NotTaken.{NotTaken}
use Rattle.pickle_lenient.specs.declared.fault.NotTaken.TheVariants as why
use Rattle.pickle_lenient.specs.Stream.{taken, IsTaken, IsNotTaken}
use Rattle.pickle_mixes.specs.declared.place.Place.{Place}
use Rattle.pickle_mixes.specs.Acting.{item_at}
use Rattle.mixes_text.specs.MixText.{MixWords, behind_name, item_text, place_text}

-- ---- names

pub named_some : (name : List ℕ) (arg : Option (List ℕ)) → is_some arg ≡ true → behind_name name arg ≡ name ⧺ codes " " ⧺ unwrap_or arg []
named_some name (Some text) h = refl
named_some name None h = cc

pub named_none : (name : List ℕ) (arg : Option (List ℕ)) → is_some arg ≡ false → behind_name name arg ≡ name
named_none name None h = refl
named_none name (Some text) h = cc

pub ruleset name_steps = (named_some, named_none)

-- ---- a place

place_taken : (say : MixWords) (holes : List Hole) (bytes rest : List ℕ) (p : Place) (t : Taken) (offset : ℕ) → rest ≡ drop p.offset bytes → IsTaken frames.Held p.left rest t → offset ≡ in_file holes p.offset → place_text say holes bytes p ≡ say.taken offset t.op
unfolding place_text
place_taken say holes bytes rest p t offset is item at =
    ap (item_text say holes p) (ap (taken frames.Held p.left) (sym is) ∙ item.is) ∙ ap (λ (n : ℕ). say.taken n t.op) (sym at)

pub place_wrote : (say : MixWords) (holes : List Hole) (bytes rest : List ℕ) (p : Place) (t : Taken) (offset : ℕ) (a b : Told) → rest ≡ drop p.offset bytes → IsTaken frames.Held p.left rest t → offset ≡ in_file holes p.offset → Wrote a b (say.taken offset t.op)
    → Wrote a b (place_text say holes bytes p)
place_wrote say holes bytes rest p t offset a b is item at w = subst (Wrote a b) (sym (place_taken say holes bytes rest p t offset is item at)) w

pub place_broke : (say : MixWords) (holes : List Hole) (bytes rest : List ℕ) (p : Place) (t : Taken) (offset : ℕ) (a b : Told) → rest ≡ drop p.offset bytes → IsTaken frames.Held p.left rest t → offset ≡ in_file holes p.offset → Broke a b (say.taken offset t.op)
    → CutsText a b (place_text say holes bytes p) stop.Failed
place_broke say holes bytes rest p t offset a b is item at w = subst (Broke a b) (sym (place_taken say holes bytes rest p t offset is item at)) w

-- nothing is taken there
none_there : (say : MixWords) (holes : List Hole) (bytes rest : List ℕ) (p : Place) (f : FrontFault) → rest ≡ drop p.offset bytes → taken frames.Held p.left rest ≡ Err f → place_text say holes bytes p ≡ []
unfolding place_text
none_there say holes bytes rest p f is item = ap (item_text say holes p) (ap (taken frames.Held p.left) (sym is) ∙ item)

pub place_none : (say : MixWords) (holes : List Hole) (bytes rest : List ℕ) (p : Place) (w : NotTaken) (f : FrontFault) (a : Told) → w ≡ why.Fault f → rest ≡ drop p.offset bytes → IsNotTaken frames.Held p.left rest w → Wrote a a (place_text say holes bytes p)
place_none say holes bytes rest p w f a same is item =
    subst (Wrote a a) (sym (none_there say holes bytes rest p f is (subst (IsNotTaken frames.Held p.left rest) same item))) (Wrote-none a)

pub drop_long : (n : ℕ) (xs : List ℕ) → length xs < n → [] ≡ drop n xs
drop_long zero xs less = absurd (omega (arith, less))
drop_long (suc n) [] less = refl
drop_long (suc n) (x ∷ xs) less = drop_long n xs (omega (arith, less))

-- ---- one after another

parts : {X : Type 0} (text : X → List ℕ) (xs : List X) (i : ℕ) (x : X) → i < length xs → each text xs ≡ (each text (take i xs) ++ text (slice_index_or xs i x)) ++ each text (drop (i + 1) xs)
parts text xs i x less =
    ap (each text) (sym (take-append-drop (i + 1) xs)) ∙ each-append text (take (i + 1) xs) (drop (i + 1) xs)
    ∙ ap (λ (t : List ℕ). t ++ each text (drop (i + 1) xs)) (ap (each text) (take_more xs i x less) ∙ each-append text (take i xs) (slice_index_or xs i x ∷ []) ∙ ap (λ (t : List ℕ). each text (take i xs) ++ t) one)
  where
    none : (t : List ℕ) → t ++ [] ≡ t
    none [] = refl
    none (b ∷ t) = ap (λ (l : List ℕ). b ∷ l) (none t)

    one : each text (slice_index_or xs i x ∷ []) ≡ text (slice_index_or xs i x)
    one = each-cons text (slice_index_or xs i x) [] ∙ ap (λ (t : List ℕ). text (slice_index_or xs i x) ++ t) (each-nil text) ∙ none (text (slice_index_or xs i x))

-- the next is cut short
pub each_cut : {X : Type 0} (text : X → List ℕ) (a b c : Told) (xs : List X) (i : ℕ) (x : X) (e : TextStop) → i < length xs → CutsText b c (text (slice_index_or xs i x)) e → Wrote a b (each text (take i xs)) → CutsText a c (each text xs) e
each_cut text a b c xs i x e less cut wrote =
    subst (λ (t : List ℕ). CutsText a c t e) (sym (parts text xs i x less))
    (cut_before a c (each text (take i xs) ++ text (slice_index_or xs i x)) (each text (drop (i + 1) xs)) e (cut_after a b c (each text (take i xs)) (text (slice_index_or xs i x)) e wrote cut))

-- and what comes then
pub cut_more : (a b : Told) (text more : List ℕ) (e : TextStop) → CutsText a b text e → CutsText a b (text ⧺ more) e
unfolding ◌⧺◌
cut_more a b text more e cut = cut_before a b text more e cut

-- a text behind what was written
pub put_more : {A : Type 0} (a b c : Told) (front text : List ℕ) (r : Result A TextStop) → Wrote a b front → PutsText b c text r → PutsText a c (front ⧺ text) r
unfolding ◌⧺◌
put_more a b c front text r first more = pieces a b c front text r first more
