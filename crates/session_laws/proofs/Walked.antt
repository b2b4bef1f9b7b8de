-- The walk that `show` writes has these lines.
use Rattle.std.proofs.Common.{◌≡◌, ◌≢◌, ℕ, zero, suc, ◌+◌, ◌<◌, ◌≤◌, ◌==◌, Bool, true, false, List, [], ◌∷◌, ◌++◌, length, replicate, get_or, set, Option, None, Some, refl, sym, ap, subst, ◌∙◌, inl, inr, arith, get_or-set_same, get_or-set_other}
use Rattle.std.specs.Prelude.{slice_get, ◌||◌, if◌then◌else◌}
use Rattle.std.specs.Option.{option_map_or}
use Rattle.std.specs.List.{flat_map}
use Rattle.std.proofs.lemmas.List.{length-set, length-replicate, get_or-replicate}
use Rattle.std.proofs.lemmas.Option.{slice_get_cases, slice_get_past}
use Rattle.pickle_io.specs.Text.{◌⧺◌}
use Rattle.pickle_io.specs.Device.{each}
use Rattle.pickle_ops.specs.Object.{Object}
use Rattle.object_texts.specs.Show.{WalkPlace, at_depth, content, found, first_line, again_line, walk, show_text}
use Rattle.object_texts.specs.Inside.Walking.{unseen}
use Rattle.session_laws.specs.Reached.{has_line, in_full, under, line_text, line_texts, ShowsReached}
use Rattle.calls_laws.specs.LineLaws.{cut_lines}
use Rattle.object_texts.proofs.Walks.{fits}
use Rattle.session_laws.proofs.Outlines.{IsWalk, begin, order, same_is, differ_is, walk_outline}
use Rattle.session_laws.proofs.ShownLines.{cut_shown}
use Rattle.session_laws.proofs.OneOutline.{one_outline}
use Rattle.session_laws.proofs.Reachings.{full_under, reached_has, lines_reached, one_in_full, is_in_full}

-- ---- the marks of what was seen

-- the marks say which objects have a line
record Marks (heap : List Object) (seen : List Bool) (before : List WalkPlace) : Type 0 where
  pub size : length seen ≡ length heap
  pub marked : (id : ℕ) → id < length heap → get_or seen id false ≡ has_line before id

-- so what they show is what is shown in full
marks_found : (heap : List Object) (seen : List Bool) (before : List WalkPlace) (id : ℕ) → Marks heap seen before → found heap seen id ≡ in_full heap before id
marks_found heap seen before id m = elim (order id (length heap)) [
  | inl h ↦ ap (λ (b : Bool). if b then None else slice_get heap id) (m.marked id h)
  | inr g ↦
      let far : length heap ≤ id = elim g [ inl e ↦ omega (arith, e) | inr h ↦ omega (arith, h) ] in
      none_both (get_or seen id false) (has_line before id) (slice_get heap id) (slice_get_past heap id far)
]
  where
    none_both : (a b : Bool) (x : Option Object) → x ≡ None → (if a then None else x) ≡ (if b then None else x)
    none_both true true x e = refl
    none_both true false x e = sym e
    none_both false true x e = e
    none_both false false x e = refl

-- whether an object has a line, one more being there
has_more : (before : List WalkPlace) (p : WalkPlace) (id : ℕ) → has_line (before ++ p ∷ []) id ≡ (has_line before id || p.id == id)
has_more [] p id = go (p.id == id)
  where
    go : (b : Bool) → (b || false) ≡ (false || b)
    go true = refl
    go false = refl
has_more (q ∷ before) p id = ap (λ (b : Bool). q.id == id || b) (has_more before p id) ∙ go (q.id == id) (has_line before id) (p.id == id)
  where
    go : (a b c : Bool) → (a || (b || c)) ≡ ((a || b) || c)
    go true b c = refl
    go false b c = refl

or_true : (a : Bool) → (a || true) ≡ true
or_true true = refl
or_true false = refl

or_false : (a : Bool) → (a || false) ≡ a
or_false true = refl
or_false false = refl

has_other : (before : List WalkPlace) (p : WalkPlace) (id : ℕ) → p.id ≢ id → has_line (before ++ p ∷ []) id ≡ has_line before id
has_other before p id h = has_more before p id ∙ ap (λ (b : Bool). has_line before id || b) (differ_is p.id id h) ∙ or_false (has_line before id)

has_it : (before : List WalkPlace) (p : WalkPlace) (id : ℕ) → p.id ≡ id → has_line (before ++ p ∷ []) id ≡ true
has_it before p id h = has_more before p id ∙ ap (λ (b : Bool). has_line before id || b) (same_is p.id id h) ∙ or_true (has_line before id)

-- a mark more, with a line in full
marks_full : (heap : List Object) (seen : List Bool) (before : List WalkPlace) (p : WalkPlace) → Marks heap seen before → Marks heap (set seen p.id true) (before ++ p ∷ [])
marks_full heap seen before p m = record {
  size = length-set seen p.id true ∙ m.size;
  marked = λ id h. elim (order id p.id) [
    | inl less ↦ let n : id ≢ p.id = omega (arith, less) in get_or-set_other seen p.id id true false n ∙ m.marked id h ∙ sym (has_other before p id (omega (arith, less)))
    | inr g ↦ elim g [
      | inl e ↦
          let l : p.id < length seen = omega (arith, e, h, m.size) in
          ap (λ (k : ℕ). get_or (set seen p.id true) k false) e ∙ get_or-set_same seen p.id true false l ∙ sym (has_it before p id (sym e))
      | inr more ↦ let n : id ≢ p.id = omega (arith, more) in get_or-set_other seen p.id id true false n ∙ m.marked id h ∙ sym (has_other before p id (omega (arith, more)))
    ]
  ];
}

-- a line that is not in full is of an object which has one, or of none
marks_again : (heap : List Object) (seen : List Bool) (before : List WalkPlace) (p : WalkPlace) → Marks heap seen before → found heap seen p.id ≡ None → Marks heap seen (before ++ p ∷ [])
marks_again heap seen before p m none = record {
  size = m.size;
  marked = λ id h. elim (order id p.id) [
    | inl less ↦ m.marked id h ∙ sym (has_other before p id (omega (arith, less)))
    | inr g ↦ elim g [
      | inl e ↦
          ap (λ (k : ℕ). get_or seen k false) e
          ∙ was_seen (get_or seen p.id false) refl (omega (arith, e, h))
          ∙ sym (has_it before p id (sym e))
      | inr more ↦ m.marked id h ∙ sym (has_other before p id (omega (arith, more)))
    ]
  ];
}
  where
    was_seen : (b : Bool) → get_or seen p.id false ≡ b → p.id < length heap → b ≡ true
    was_seen true e h = refl
    was_seen false e h =
        let got : slice_get heap p.id ≡ None = sym (ap (λ (b : Bool). if b then None else slice_get heap p.id) e) ∙ none in
        elim (slice_get_cases heap p.id).1 [
          | inl there ↦ let bad : Some there.0 ≡ None = sym there.2 ∙ got in absurd cc
          | inr far ↦ absurd (omega (arith, far.0, h))
        ]

marks_none : (heap : List Object) → Marks heap (replicate (length heap) false) []
marks_none heap = record { size = length-replicate (length heap) false; marked = λ id h. get_or-replicate (length heap) id false false h }

-- ---- the walk

unseen_none : (n : ℕ) → unseen (replicate n false) ≡ n
unseen_none zero = refl
unseen_none (suc n) = ap suc (unseen_none n)

walk_again : (n : ℕ) (heap : List Object) (seen : List Bool) (p : WalkPlace) (places : List WalkPlace) → found heap seen p.id ≡ None
    → walk n heap seen (p ∷ places) ≡ again_line p.depth p.id ++ walk n heap seen places
unfolding walk ◌⧺◌ each
walk_again zero heap seen p places e = refl
walk_again (suc n) heap seen p places e = rw e refl

walk_first : (n : ℕ) (heap : List Object) (seen : List Bool) (p : WalkPlace) (places : List WalkPlace) (o : Object) → found heap seen p.id ≡ Some o
    → walk (suc n) heap seen (p ∷ places) ≡ first_line p.depth p.id o ++ walk n heap (set seen p.id true) (at_depth (p.depth + 1) (content o) ++ places)
unfolding walk ◌⧺◌
walk_first n heap seen p places o e = rw e refl

walk_none : (n : ℕ) (heap : List Object) (seen : List Bool) → walk n heap seen [] ≡ []
unfolding walk each
walk_none zero heap seen = refl
walk_none (suc n) heap seen = refl

abbrev lines_text : List Object → List WalkPlace → List WalkPlace → List ℕ
lines_text heap before lines = flat_map (λ (text : List ℕ). text) (line_texts heap before lines)

-- the lines of places, and their text
record HasLines (n : ℕ) (heap : List Object) (seen : List Bool) (before places : List WalkPlace) : Type 0 where
  pub lines : List WalkPlace
  pub walked : IsWalk heap before places lines
  pub text : walk n heap seen places ≡ lines_text heap before lines

line_again : (heap : List Object) (before : List WalkPlace) (p : WalkPlace) (text : List ℕ) → in_full heap before p.id ≡ None → line_text heap before p ++ text ≡ again_line p.depth p.id ++ text
line_again heap before p text e = ap (λ (x : Option Object). option_map_or (first_line p.depth p.id) x (again_line p.depth p.id) ++ text) e

line_first : (heap : List Object) (before : List WalkPlace) (p : WalkPlace) (text : List ℕ) (o : Object) → in_full heap before p.id ≡ Some o → line_text heap before p ++ text ≡ first_line p.depth p.id o ++ text
line_first heap before p text o e = ap (λ (x : Option Object). option_map_or (first_line p.depth p.id) x (again_line p.depth p.id) ++ text) e

under_none : (heap : List Object) (before : List WalkPlace) (id : ℕ) → in_full heap before id ≡ None → under heap before id ≡ []
under_none heap before id e = ap (λ (x : Option Object). option_map_or content x []) e

-- a short line, and the lines of the other places
short : (n : ℕ) (heap : List Object) (seen : List Bool) (before : List WalkPlace) (p : WalkPlace) (places : List WalkPlace) → Marks heap seen before → found heap seen p.id ≡ None
    → HasLines n heap seen (before ++ p ∷ []) places → HasLines n heap seen before (p ∷ places)
short n heap seen before p places m e rest =
    let none : in_full heap before p.id ≡ None = sym (marks_found heap seen before p.id m) ∙ e in
    let same : places ≡ at_depth (p.depth + 1) (under heap before p.id) ++ places = ap (λ (t : List ℕ). at_depth (p.depth + 1) t ++ places) (sym (under_none heap before p.id none)) in
    record {
      lines = p ∷ rest.lines;
      walked = (places, refl, subst (λ (t : List WalkPlace). IsWalk heap (before ++ p ∷ []) t rest.lines) same rest.walked);
      text = walk_again n heap seen p places e ∙ ap (λ (t : List ℕ). again_line p.depth p.id ++ t) rest.text ∙ sym (line_again heap before p (lines_text heap (before ++ p ∷ []) rest.lines) none);
    }

-- a line in full, and the lines of its content and of the other places
full : (n : ℕ) (heap : List Object) (seen : List Bool) (before : List WalkPlace) (p : WalkPlace) (places : List WalkPlace) (o : Object) → Marks heap seen before → found heap seen p.id ≡ Some o
    → HasLines n heap (set seen p.id true) (before ++ p ∷ []) (at_depth (p.depth + 1) (content o) ++ places) → HasLines (suc n) heap seen before (p ∷ places)
full n heap seen before p places o m e rest =
    let some : in_full heap before p.id ≡ Some o = sym (marks_found heap seen before p.id m) ∙ e in
    let same : at_depth (p.depth + 1) (content o) ++ places ≡ at_depth (p.depth + 1) (under heap before p.id) ++ places =
    ap (λ (t : List ℕ). at_depth (p.depth + 1) t ++ places) (sym (full_under heap before p.id o some)) in
    record {
      lines = p ∷ rest.lines;
      walked = (places, refl, subst (λ (t : List WalkPlace). IsWalk heap (before ++ p ∷ []) t rest.lines) same rest.walked);
      text = walk_first n heap seen p places o e ∙ ap (λ (t : List ℕ). first_line p.depth p.id o ++ t) rest.text ∙ sym (line_first heap before p (lines_text heap (before ++ p ∷ []) rest.lines) o some);
    }

no_lines : (n : ℕ) (heap : List Object) (seen : List Bool) (before : List WalkPlace) → HasLines n heap seen before []
no_lines n heap seen before = record { lines = []; walked = refl; text = walk_none n heap seen }

-- where no object is without a mark, all lines are short
none_new : (heap : List Object) (seen : List Bool) (id : ℕ) → length seen ≡ length heap → unseen seen ≤ 0 → found heap seen id ≡ None
none_new heap seen id same h = go (found heap seen id) refl
  where
    go : (x : Option Object) → found heap seen id ≡ x → x ≡ None
    go None e = refl
    go (Some o) e = absurd (omega (arith, h, fits heap seen id o e same))

walk_lines : (n : ℕ) (places : List WalkPlace) (heap : List Object) (seen : List Bool) (before : List WalkPlace) → Marks heap seen before → unseen seen ≤ n → HasLines n heap seen before places
walk_lines n [] heap seen before m h = no_lines n heap seen before
walk_lines zero (p ∷ places) heap seen before m h =
    let none = none_new heap seen p.id m.size h in
    short zero heap seen before p places m none (walk_lines zero places heap seen (before ++ p ∷ []) (marks_again heap seen before p m none) h)
walk_lines (suc n) (p ∷ places) heap seen before m h =
    go (found heap seen p.id) refl
    (λ none. walk_lines (suc n) places heap seen (before ++ p ∷ []) (marks_again heap seen before p m none) h)
    (λ o some. walk_lines n (at_depth (p.depth + 1) (content o) ++ places) heap (set seen p.id true) (before ++ p ∷ []) (marks_full heap seen before p m) (omega (arith, h, fits heap seen p.id o some m.size)))
  where
    go : (x : Option Object) → found heap seen p.id ≡ x → (found heap seen p.id ≡ None → HasLines (suc n) heap seen (before ++ p ∷ []) places)
        → ((o : Object) → found heap seen p.id ≡ Some o → HasLines n heap (set seen p.id true) (before ++ p ∷ []) (at_depth (p.depth + 1) (content o) ++ places))
        → HasLines (suc n) heap seen before (p ∷ places)
    go None e f g = short (suc n) heap seen before p places m e (f e)
    go (Some o) e f g = full n heap seen before p places o m e (g o e)

-- ---- what is printed

shown_lines : (heap : List Object) (asked : ℕ) → HasLines (length heap) heap (replicate (length heap) false) [] (begin asked)
shown_lines heap asked = walk_lines (length heap) (begin asked) heap (replicate (length heap) false) [] (marks_none heap) (omega (arith, unseen_none (length heap)))

shown_text : (heap : List Object) (asked : ℕ) → show_text heap asked ≡ walk (length heap) heap (replicate (length heap) false) (begin asked)
unfolding show_text
shown_text heap asked = refl

pub shows_reached : ShowsReached
shows_reached heap asked =
    let h = shown_lines heap asked in
    let outline = walk_outline heap asked h.lines h.walked in (
      h.lines,
      record {
        whole = shown_text heap asked ∙ h.text;
        cut = ap cut_lines (shown_text heap asked ∙ h.text) ∙ cut_shown heap [] h.lines;
        outline = outline;
        only = λ others o. one_outline heap asked others h.lines o outline;
        deep = lines_reached heap asked h.lines h.walked;
        all = reached_has heap asked h.lines outline;
        once = λ n id o r e.
            let x = is_in_full heap h.lines id o (reached_has heap asked h.lines outline n id r) e in
            (x.0, x.1, λ j y. one_in_full heap h.lines id j x.0 y x.1);
      },
    )
