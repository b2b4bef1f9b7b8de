-- The first item of a kind.
use Rattle.std.proofs.Common.{◌≡◌, ℕ, suc, ◌+◌, ◌-◌, ◌≤◌, ◌<◌, true, false, length, Option, Some, None, refl, sym, ap, ◌∙◌, arith, inl, inr}
use Rattle.std.specs.Prelude.{drop, is_some}
use Rattle.std.proofs.lemmas.List.{length-drop}
use Rattle.pickle_machine.specs.State.{State}
use Rattle.pickle_text.specs.declared.closing.Closing.{Closing}
use Rattle.pickle_further.specs.declared.way.Way.{Way}
use Rattle.pickle_further.specs.declared.going.Gone.{Gone}
use Rattle.pickle_further.specs.declared.seek.Sought.{Sought}
use Rattle.pickle_further.specs.declared.seek.Visited.{Visited}
use Rattle.pickle_further.specs.Going.{Standing, Going, going, stands_after, is_sought, search, search_from}
use Rattle.pickle_further.specs.Inside.{standing_of, Goes, HasRoom, IsNext, Finds}

-- ---- one step

found : (x : Sought) (w : Way) (n : ℕ) (p : Standing) (gone : Gone) (t : State) → Goes (going w p) gone t → is_sought x w.frames p.at.left p.rest gone ≡ true → search x (suc n) w p ≡ Some p
unfolding search
found x w n p gone t g sought =
    let is : is_sought x w.frames p.at.left p.rest (going w p).gone ≡ true = ap (is_sought x w.frames p.at.left p.rest) (sym g.is) ∙ sought in
    rw is refl

over : (x : Sought) (w : Way) (n : ℕ) (p : Standing) (gone : Gone) (t : State) → Goes (going w p) gone t → is_sought x w.frames p.at.left p.rest gone ≡ false → is_some gone.closing ≡ true
    → search x (suc n) w p ≡ None
unfolding search
over x w n p gone t g other ends =
    let is : is_sought x w.frames p.at.left p.rest (going w p).gone ≡ false = ap (is_sought x w.frames p.at.left p.rest) (sym g.is) ∙ other in
    let closes : is_some (going w p).gone.closing ≡ true = ap (λ (y : Gone). is_some y.closing) (sym g.is) ∙ ends in
    rw (is, closes) refl

none : (x : Sought) (w : Way) (n : ℕ) (p : Standing) (gone : Gone) (t : State) → Goes (going w p) gone t → is_sought x w.frames p.at.left p.rest gone ≡ false → is_some gone.closing ≡ false → n ≡ 0
    → search x (suc n) w p ≡ None
unfolding search
none x w n p gone t g other goes last =
    let is : is_sought x w.frames p.at.left p.rest (going w p).gone ≡ false = ap (is_sought x w.frames p.at.left p.rest) (sym g.is) ∙ other in
    let closes : is_some (going w p).gone.closing ≡ false = ap (λ (y : Gone). is_some y.closing) (sym g.is) ∙ goes in
    rw (last, is, closes) refl

both : (c : Closing) → Some c ≡ None → ⊥
both c e = cc

pub no_closing : (x : Option Closing) → is_some x ≡ false → x ≡ None
no_closing None e = refl
no_closing (Some c) e = cc

abbrev comes_to : Gone → State → Going
comes_to gone t = record { gone = gone; state = t }

next : (x : Sought) (w : Way) (n : ℕ) (p : Standing) (gone : Gone) (t : State) → Goes (going w p) gone t → is_sought x w.frames p.at.left p.rest gone ≡ false → is_some gone.closing ≡ false
    → search x (suc n) w p ≡ search x n w (stands_after p (comes_to gone t))
unfolding search
next x w n p gone t g other goes =
    let is : is_sought x w.frames p.at.left p.rest (going w p).gone ≡ false = ap (is_sought x w.frames p.at.left p.rest) (sym g.is) ∙ other in
    let closes : is_some (going w p).gone.closing ≡ false = ap (λ (y : Gone). is_some y.closing) (sym g.is) ∙ goes in
    elim g.state [
      | inl same ↦ rw (same, g.is, is, closes) refl
      | inr ended ↦ absurd (both _ (sym ended.closing.1 ∙ no_closing gone.closing goes))
    ]

-- ---- the loop

-- what is looked for is still to be found from this item on, before which the state was this
pub record StillSought (x : Sought) (w : Way) (whole : Option Standing) (item : Visited) (now : State) (more : ℕ) : Type 0 where
  pub before : State
  pub is : whole ≡ search x (suc more) w (standing_of before item)
  pub goes : Goes (going w (standing_of before item)) item.gone now

pub record InSearch (x : Sought) (w : Way) (first : Visited) (begun : State) (item : Visited) (now : State) (more : ℕ) : Type 0 where
  pub still : (s : State) → Goes (going w (standing_of s first)) first.gone begun → StillSought x w (search_from x w (standing_of s first)) item now more
  pub room : HasRoom now item
  pub small : length item.rest.now ≤ more

pub search_begins : (x : Sought) (w : Way) (first : Visited) (begun : State) → HasRoom begun first → InSearch x w first begun first begun (length first.rest.now)
search_begins x w first begun room = record {
  still = λ s g. record { before = s; is = refl; goes = g };
  room = room;
  small = omega arith;
}

pub finds_it : (x : Sought) (w : Way) (first item : Visited) (begun now : State) (more : ℕ) → InSearch x w first begun item now more → is_sought x w.frames item.at.left item.rest.now item.gone ≡ true
    → (s : State) → Goes (going w (standing_of s first)) first.gone begun → Finds w (search_from x w (standing_of s first)) (Some item) now
finds_it x w first item begun now more k sought s g =
    let still : StillSought x w (search_from x w (standing_of s first)) item now more = k.still s g in
    let is : search_from x w (standing_of s first) ≡ Some (standing_of still.before item) =
    still.is ∙ found x w more (standing_of still.before item) item.gone now still.goes sought in
    rw is (still.before, refl, still.goes)

pub finds_none : (x : Sought) (w : Way) (first item : Visited) (begun now : State) (more : ℕ) → InSearch x w first begun item now more → is_sought x w.frames item.at.left item.rest.now item.gone ≡ false
    → is_some item.gone.closing ≡ true → (s : State) → Goes (going w (standing_of s first)) first.gone begun → Finds w (search_from x w (standing_of s first)) None now
finds_none x w first item begun now more k other ends s g =
    let still : StillSought x w (search_from x w (standing_of s first)) item now more = k.still s g in
    let is : search_from x w (standing_of s first) ≡ None = still.is ∙ over x w more (standing_of still.before item) item.gone now still.goes other ends in
    rw is tt

pub finds_no_more : (x : Sought) (w : Way) (first item : Visited) (begun now : State) (more : ℕ) → InSearch x w first begun item now more → is_sought x w.frames item.at.left item.rest.now item.gone ≡ false
    → is_some item.gone.closing ≡ false → more ≡ 0 → (s : State) → Goes (going w (standing_of s first)) first.gone begun → Finds w (search_from x w (standing_of s first)) None now
finds_no_more x w first item begun now more k other goes last s g =
    let still : StillSought x w (search_from x w (standing_of s first)) item now more = k.still s g in
    let is : search_from x w (standing_of s first) ≡ None = still.is ∙ none x w more (standing_of still.before item) item.gone now still.goes other goes last in
    rw is tt

-- it goes on behind this item
pub search_goes : (x : Sought) (w : Way) (first item after : Visited) (begun now t : State) (more : ℕ) → InSearch x w first begun item now more → is_sought x w.frames item.at.left item.rest.now item.gone ≡ false
    → is_some item.gone.closing ≡ false → 0 < more → IsNext w now item t after → HasRoom t after → length after.rest.now < length item.rest.now
    → InSearch x w first begun after t (more - 1)
search_goes x w first item after begun now t more k other goes some is room less = record {
  still = λ s g.
      let still : StillSought x w (search_from x w (standing_of s first)) item now more = k.still s g in
      let on : search x (suc more) w (standing_of still.before item) ≡ search x more w (stands_after (standing_of still.before item) (comes_to item.gone now)) =
      next x w more (standing_of still.before item) item.gone now still.goes other goes in
      let counted : more ≡ suc (more - 1) = omega (arith, some) in
      let there : search x more w (stands_after (standing_of still.before item) (comes_to item.gone now)) ≡ search x (suc (more - 1)) w (standing_of now after) =
      ap (λ (q : Standing). search x more w q) (sym is.stands) ∙ ap (λ (n : ℕ). search x n w (standing_of now after)) counted in
      record { before = now; is = still.is ∙ on ∙ there; goes = is.goes };
  room = room;
  small = omega (arith, k.small, less);
}

-- ---- the item behind another

pub room_next : (s t : State) (item next : Visited) → HasRoom s item → item.gone.closing ≡ None → next.rest.now ≡ drop item.gone.size item.rest.now
    → next.at.offset ≡ item.at.offset + item.gone.size → next.at.place ≡ item.at.place + 1 → next.gone.size ≤ length next.rest.now
    → (next.gone.closing ≡ None → 0 < next.gone.size) → length t.heap ≤ length s.heap + 2 → HasRoom t next
room_next s t item next k goes rest offset place size moves heap =
    let some : 0 < item.gone.size = k.some goes in
    let shorter : length next.rest.now ≡ length item.rest.now - item.gone.size = ap length rest ∙ length-drop item.gone.size item.rest.now in
    record {
      size = size;
      some = moves;
      few = omega (arith, k.few, shorter);
      heap = omega (arith, k.heap, heap, some, shorter, k.size);
      offset = omega (arith, k.offset, shorter, offset, k.size);
      place = omega (arith, k.place, shorter, place, some, k.size);
    }
