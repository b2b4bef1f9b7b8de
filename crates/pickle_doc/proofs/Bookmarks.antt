-- Bookmarks: one item on, one item back, the frame that is unfinished there, and edits after them.
use Rattle.std.proofs.Common.{◌≡◌, ◌+◌, ◌-◌, ◌<◌, ◌≤◌, ℕ, suc, zero, Bool, true, false, List, [], ◌∷◌, length, take, slice_get, Option, Some, None, length-append, refl, ap, sym, ◌∙◌, inl, inr, arith}
use Rattle.std.specs.Prelude.{if◌then◌else◌, nat_lt}
use Rattle.std.specs.List.{AllByRecursion}
use Rattle.std.proofs.lemmas.Bool.{cases_Bool, cases_lt, lt-ltb, le-ltb}
use Rattle.pickle_doc.specs.declared.item.Item.{Item}
use Rattle.pickle_doc.specs.declared.bookmark.FramePlace.{FramePlace}
use Rattle.pickle_doc.specs.declared.bookmark.Bookmark.{Bookmark}
use Rattle.pickle_doc.specs.declared.fault.TailFault.{TailFault}
use Rattle.pickle_doc.specs.DocUnit.{DocUnit, Loose, Frame, is_frame, item_size, sizes, frame_item, flat, operations, bytes_of, frame_number}
use Rattle.pickle_doc.specs.Document.{IsUnit, size_limit}
use Rattle.pickle_doc.specs.Alike.{AreAlike, AgreeBefore}
use Rattle.pickle_doc.specs.Edit.{is_frame_item}
use Rattle.pickle_doc.specs.Inside.Bookmark.{NoFrameBetween, IsFrameBefore, IsLastFrame, IsBookmark}
use Rattle.pickle_doc.specs.Inside.Kept.{AreParts}
use Rattle.pickle_doc.specs.Inside.Walk.{frame_left_open}
use Rattle.pickle_doc.proofs.Units.{length_bytes}
use Rattle.pickle_doc.proofs.Readers.{sizes-less}
use Rattle.pickle_doc.proofs.Lists.{within, get-within, get-behind}
use Rattle.pickle_doc.proofs.Frames.{member_plain}
use Rattle.pickle_doc.proofs.Opcodes.{frame_length}

same_item : (xs : List Item) (j k : ℕ) (x y : Item) → j ≡ k → slice_get xs j ≡ Some x → slice_get xs k ≡ Some y → x ≡ y
same_item xs j k x y at e f =
    let one : Some x ≡ Some y = sym e ∙ ap (slice_get xs) at ∙ f in cc

-- one item more
sizes-suc : (items : List Item) (k : ℕ) (i : Item) → slice_get items k ≡ Some i → sizes (take (suc k) items) ≡ sizes (take k items) + item_size i
sizes-suc [] k i e = cc
sizes-suc (x ∷ items) zero i e = let same : i ≡ x = cc in omega (arith, ap item_size same)
sizes-suc (x ∷ items) (suc k) i e = omega (arith, sizes-suc items k i e)

one : (p : ℕ) → suc p ≡ p + 1
one p = omega arith

pub sizes-next : (items : List Item) (k : ℕ) (i : Item) → slice_get items k ≡ Some i → sizes (take (k + 1) items) ≡ sizes (take k items) + item_size i
sizes-next items k i e = ap (λ (m : ℕ). sizes (take m items)) (sym (one k)) ∙ sizes-suc items k i e

-- ---- no FRAME between two places

pub none-within : (a b c d : ℕ) (items : List Item) → a ≤ c → d ≤ b → NoFrameBetween a b items → NoFrameBetween c d items
none-within a b c d items l m h = λ j i from to e. h j i (omega (arith, l, from)) (omega (arith, m, to)) e

pub none-here : (k : ℕ) (items : List Item) → NoFrameBetween k k items
none-here k items = λ j i from to e. absurd (omega (arith, from, to))

pub none-forward : (a k : ℕ) (items : List Item) (i : Item) → NoFrameBetween a k items → slice_get items k ≡ Some i → is_frame i.op.opcode ≡ false → NoFrameBetween a (k + 1) items
none-forward a k items i h e n = λ j x from to f. elim (cases_lt j k) [
  | inl low ↦ h j x from low f
  | inr high ↦ let at : j ≡ k = omega (arith, to, high) in rw (same_item items j k x i at f e) n
]

pub none-back : (k b : ℕ) (items : List Item) (i : Item) → NoFrameBetween (k + 1) b items → slice_get items k ≡ Some i → is_frame i.op.opcode ≡ false → NoFrameBetween k b items
none-back k b items i h e n = λ j x from to f. elim (cases_lt k j) [
  | inl past ↦ h j x (omega (arith, past)) to f
  | inr not ↦ let at : j ≡ k = omega (arith, from, not) in rw (same_item items j k x i at f e) n
]

-- ---- the last FRAME

pub last-some : (o : Option FramePlace) (f : FramePlace) (k : ℕ) (items : List Item) → o ≡ Some f → IsLastFrame o k items → IsFrameBefore f k items
last-some o f k items e h = rw e at h

pub last-none : (o : Option FramePlace) (k : ℕ) (items : List Item) → o ≡ None → IsLastFrame o k items → NoFrameBetween 0 k items
last-none o k items e h = rw e at h

pub last-forward : (o : Option FramePlace) (k behind : ℕ) (items : List Item) (i : Item) → IsLastFrame o k items → slice_get items k ≡ Some i → behind ≡ sizes (take (k + 1) items)
    → IsLastFrame (if is_frame i.op.opcode then Some (record { place = k; behind = behind }) else o) (k + 1) items
last-forward o k behind items i h e b = elim (cases_Bool (is_frame i.op.opcode)) [
  | inl hit ↦ rw hit (record { before = omega arith; item = i; there = e; frame = hit; behind = b; last = none-here (k + 1) items })
  | inr miss ↦ rw miss (go o h miss)
]
  where
    go : (o : Option FramePlace) → IsLastFrame o k items → is_frame i.op.opcode ≡ false → IsLastFrame o (k + 1) items
    go None h miss = none-forward 0 k items i h e miss
    go (Some f) h miss = record { before = omega (arith, h.before); item = h.item; there = h.there; frame = h.frame; behind = h.behind; last = none-forward (f.place + 1) k items i h.last e miss }

pub last-back : (f : FramePlace) (k m : ℕ) (items : List Item) → k ≤ m → f.place < k → IsFrameBefore f m items → IsFrameBefore f k items
last-back f k m items l b h = record { before = b; item = h.item; there = h.there; frame = h.frame; behind = h.behind; last = none-within (f.place + 1) m (f.place + 1) k items (omega arith) l h.last }

-- ---- the frame that is unfinished at a place

less-less : (a s left : ℕ) → nat_lt s (left - a) ≡ nat_lt (a + s) left
less-less a s left = elim (cases_lt (a + s) left) [
  | inl low ↦ lt-ltb s (left - a) (omega (arith, low)) ∙ sym (lt-ltb (a + s) left low)
  | inr high ↦ le-ltb s (left - a) (omega (arith, high)) ∙ sym (le-ltb (a + s) left high)
]

more-more : (a s t n : ℕ) → nat_lt s (t + n) ≡ nat_lt (a + s) (a + t + n)
more-more a s t n = elim (cases_lt s (t + n)) [
  | inl low ↦ lt-ltb s (t + n) low ∙ sym (lt-ltb (a + s) (a + t + n) (omega (arith, low)))
  | inr high ↦ le-ltb s (t + n) high ∙ sym (le-ltb (a + s) (a + t + n) (omega (arith, high)))
]

walk-plain : (items : List Item) (left f j k : ℕ) → k ≤ length items → NoFrameBetween 0 k items → frame_left_open false left f j k items ≡ (if nat_lt (sizes (take k items)) left then Some f else None)
walk-plain items left f j zero l h = refl
walk-plain [] left f j (suc k) l h = absurd (omega arith)
walk-plain (i ∷ items) left f j (suc k) l h =
    let n : is_frame i.op.opcode ≡ false = h 0 i (omega arith) (omega arith) refl in
    let ind = walk-plain items (left - item_size i) f (j + 1) k (omega arith) (λ m x from to e. h (suc m) x (omega arith) (omega (arith, to)) e) in
    rw n (ind ∙ ap (λ (b : Bool). if b then Some f else None) (less-less (item_size i) (sizes (take k items)) left))

walk-last : (items : List Item) (left f j p k : ℕ) (i : Item) → slice_get items p ≡ Some i → is_frame i.op.opcode ≡ true → p < k → k ≤ length items → NoFrameBetween (suc p) k items
    → frame_left_open false left f j k items ≡ (if nat_lt (sizes (take k items)) (sizes (take (suc p) items) + frame_number i.op) then Some (j + p) else None)
walk-last [] left f j p k i e hit b l h = cc
walk-last (x ∷ items) left f j zero zero i e hit b l h = absurd (omega arith)
walk-last (x ∷ items) left f j (suc p) zero i e hit b l h = absurd (omega arith)
walk-last (x ∷ items) left f j zero (suc k) i e hit b l h =
    let same : i ≡ x = cc in
    let on : is_frame x.op.opcode ≡ true = ap (λ (y : Item). is_frame y.op.opcode) (sym same) ∙ hit in
    let s = sizes (take k items) in
    let n = frame_number x.op in
    let rest = walk-plain items n j (j + 1) k (omega arith) (λ m y from to g. h (suc m) y (omega arith) (omega (arith, to)) g) in
    let end : j ≡ j + 0 = omega arith in
    let none : n ≡ 0 + n = omega arith in
    let size : nat_lt s n ≡ nat_lt (item_size x + s) (item_size x + 0 + n) = ap (λ (m : ℕ). nat_lt s m) none ∙ more-more (item_size x) s 0 n in
    rw (same, on) (rest ∙ ap (λ (b : Bool). if b then Some j else None) size ∙ ap (λ (m : ℕ). if nat_lt (item_size x + s) (item_size x + 0 + n) then Some m else None) end)
walk-last (x ∷ items) left f j (suc p) (suc k) i e hit b l h =
    let ind = walk-last items _ _ (j + 1) p k i e hit (omega (arith, b)) (omega (arith, l)) (λ m y from to g. h (suc m) y (omega (arith, from)) (omega (arith, to)) g) in
    let s = sizes (take k items) in
    let t = sizes (take (suc p) items) in
    let n = frame_number i.op in
    let end : j + 1 + p ≡ j + suc p = omega arith in
    ind ∙ ap (λ (b : Bool). if b then Some (j + 1 + p) else None) (more-more (item_size x) s t n) ∙ ap (λ (m : ℕ). if nat_lt (item_size x + s) (item_size x + t + n) then Some m else None) end

walk-bookmark : (items : List Item) (f : FramePlace) (k : ℕ) (i : Item) → IsFrameBefore f k items → k ≤ length items → slice_get items f.place ≡ Some i
    → frame_left_open false 0 0 0 k items ≡ (if nat_lt (sizes (take k items)) (f.behind + frame_number i.op) then Some f.place else None)
walk-bookmark items f k i h l e =
    let same = same_item items f.place f.place h.item i refl h.there e in
    let hit : is_frame i.op.opcode ≡ true = ap (λ (y : Item). is_frame y.op.opcode) (sym same) ∙ h.frame in
    let later : NoFrameBetween (suc f.place) k items = none-within (f.place + 1) k (suc f.place) k items (omega arith) (omega arith) h.last in
    let front : 0 + f.place ≡ f.place = omega arith in
    let behind : sizes (take (suc f.place) items) ≡ f.behind = ap (λ (m : ℕ). sizes (take m items)) (one f.place) ∙ sym h.behind in
    walk-last items 0 0 0 f.place k i e hit h.before l later
    ∙ ap (λ (b : ℕ). if nat_lt (sizes (take k items)) (b + frame_number i.op) then Some (0 + f.place) else None) behind
    ∙ ap (λ (m : ℕ). if nat_lt (sizes (take k items)) (f.behind + frame_number i.op) then Some m else None) front

-- it begins before the offset of the place
pub begins : (items : List Item) (f : FramePlace) (k : ℕ) → IsFrameBefore f k items → f.behind ≤ sizes (take k items)
begins items f k h = omega (arith, h.behind, sizes-less items (f.place + 1) k (omega (arith, h.before)))

pub walk-open : (items : List Item) (f : FramePlace) (k number offset : ℕ) (i : Item) → IsFrameBefore f k items → k ≤ length items → slice_get items f.place ≡ Some i → number ≡ frame_number i.op
    → offset ≡ sizes (take k items) → offset - f.behind < number → Some f.place ≡ frame_left_open false 0 0 0 k items
walk-open items f k number offset i h l e n o less =
    let low : sizes (take k items) < f.behind + frame_number i.op = omega (arith, n, o, less, begins items f k h) in
    sym (walk-bookmark items f k i h l e ∙ ap (λ (b : Bool). if b then Some f.place else None) (lt-ltb (sizes (take k items)) (f.behind + frame_number i.op) low))

pub walk-closed : (items : List Item) (f : FramePlace) (k number offset : ℕ) (i : Item) → IsFrameBefore f k items → k ≤ length items → slice_get items f.place ≡ Some i → number ≡ frame_number i.op
    → offset ≡ sizes (take k items) → number ≤ offset - f.behind → None ≡ frame_left_open false 0 0 0 k items
walk-closed items f k number offset i h l e n o less =
    let high : f.behind + frame_number i.op ≤ sizes (take k items) = omega (arith, n, o, less, begins items f k h) in
    sym (walk-bookmark items f k i h l e ∙ ap (λ (b : Bool). if b then Some f.place else None) (le-ltb (sizes (take k items)) (f.behind + frame_number i.op) high))

pub walk-none : (items : List Item) (k : ℕ) → k ≤ length items → NoFrameBetween 0 k items → None ≡ frame_left_open false 0 0 0 k items
walk-none items k l h =
    let no : nat_lt (sizes (take k items)) 0 ≡ false = le-ltb (sizes (take k items)) 0 (omega arith) in
    sym (walk-plain items 0 0 0 k l h ∙ ap (λ (b : Bool). if b then Some 0 else None) no)

-- where all items are loose no frame is open
walk-loose : (items : List Item) (f j k : ℕ) → None ≡ frame_left_open true 0 f j k items
walk-loose items f j zero = refl
walk-loose [] f j (suc k) = refl
walk-loose (i ∷ items) f j (suc k) = let none : 0 - item_size i ≡ 0 = omega arith in rw none (walk-loose items f (j + 1) k)

pub none-loose : (loose : Bool) (items : List Item) (k : ℕ) → loose ≡ true → None ≡ frame_left_open loose 0 0 0 k items
none-loose true items k e = walk-loose items 0 0 k
none-loose false items k e = cc

-- ---- the first place of items that were read

pub first-bookmark : {many loose : Bool} (bytes : List ℕ) (items : List Item) (tail : List ℕ) (e : Option TailFault) → AreParts many loose bytes items tail e → length bytes ≤ size_limit → IsBookmark (record { place = 0; offset = 0; frame = None }) items
first-bookmark bytes items tail e h small =
    let total = length-append (bytes_of (operations items)) tail in
    let size = length_bytes items in
    let whole = ap length h.whole in
    record { place = omega arith; offset = refl; frame = none-here 0 items; small = omega (arith, total, size, whole, small) }

-- ---- an edit leaves a bookmark that is not after it

-- each FRAME takes nine bytes
abbrev pub FramesAreNine : List Item → Type 0
FramesAreNine items = (j : ℕ) (i : Item) → slice_get items j ≡ Some i → is_frame i.op.opcode ≡ true → item_size i ≡ 9

pub frames-nine : (loose : Bool) (units : List DocUnit) → AllByRecursion (IsUnit loose) units → FramesAreNine (flat units)
frames-nine loose [] h j i e f = cc
frames-nine loose (Loose x ∷ units) h zero i e f =
    let same : i ≡ x = cc in
    let long = frame_length x.op.opcode x.op.arg (ap is_frame_item (sym same) ∙ f) h.0.spelled.arg in
    ap item_size same ∙ omega (arith, long)
frames-nine loose (Loose x ∷ units) h (suc j) i e f = frames-nine loose units h.1 j i e f
frames-nine loose (Frame id members extra ∷ units) h zero i e f =
    let same : i ≡ frame_item id (sizes members + extra) = cc in ap item_size same
frames-nine loose (Frame id members extra ∷ units) h (suc j) i e f = elim (cases_lt j (length members)) [
  | inl low ↦
      let here : slice_get members j ≡ Some i = sym (get-within members (flat units) j low) ∙ e in
      let c : true ≡ false = sym f ∙ member_plain loose members j i h.0.0 h.0.1 here in cc
  | inr high ↦ frames-nine loose units h.1 (j - length members) i (sym (get-behind members (flat units) j high) ∙ e) f
]

alike-frame : (x y : Item) → AreAlike x.op y.op → is_frame x.op.opcode ≡ is_frame y.op.opcode
alike-frame x y (inl e) = ap (λ (o : _). is_frame o.opcode) e
alike-frame x y (inr e) = ap is_frame e.0 ∙ sym (ap is_frame e.1)

pub alike-size : (x y : Item) → AreAlike x.op y.op → (is_frame x.op.opcode ≡ true → item_size x ≡ 9) → (is_frame y.op.opcode ≡ true → item_size y ≡ 9) → item_size x ≡ item_size y
alike-size x y (inl e) f g = ap (λ (o : _). item_size (record { id = 0; op = o })) e
alike-size x y (inr e) f g = f (ap is_frame e.0) ∙ sym (g (ap is_frame e.1))

sizes-alike : (k : ℕ) (xs ys : List Item) → k ≤ length xs → AgreeBefore k xs ys → FramesAreNine xs → FramesAreNine ys → sizes (take k xs) ≡ sizes (take k ys)
sizes-alike zero xs ys l a p q = refl
sizes-alike (suc k) [] ys l a p q = absurd (omega arith)
sizes-alike (suc k) (x ∷ xs) [] l a p q =
    let h = a 0 x (omega arith) refl in
    let c = within [] 0 h.0 h.1 in absurd (omega (arith, c))
sizes-alike (suc k) (x ∷ xs) (y ∷ ys) l a p q =
    let h = a 0 x (omega arith) refl in
    let one : Some y ≡ Some h.0 = h.1 in
    let same : h.0 ≡ y = cc in
    let first = alike-size x y (rw same at h.2) (p 0 x refl) (q 0 y refl) in
    omega (arith, first, sizes-alike k xs ys (omega arith) (λ i z b e. a (suc i) z (omega (arith, b)) e) (λ j i e f. p (suc j) i e f) (λ j i e f. q (suc j) i e f))

agree-less : (j k : ℕ) (xs ys : List Item) → j ≤ k → AgreeBefore k xs ys → AgreeBefore j xs ys
agree-less j k xs ys l a = λ i x b e. a i x (omega (arith, l, b)) e

none-alike : (a b : ℕ) (xs ys : List Item) → AgreeBefore b ys xs → NoFrameBetween a b xs → NoFrameBetween a b ys
none-alike a b xs ys g h = λ j y from to e. let z = g j y to e in alike-frame y z.0 z.2 ∙ h j z.0 from to z.1

last-alike : (o : Option FramePlace) (k : ℕ) (xs ys : List Item) → k ≤ length xs → AgreeBefore k xs ys → AgreeBefore k ys xs → FramesAreNine xs → FramesAreNine ys → IsLastFrame o k xs → IsLastFrame o k ys
last-alike None k xs ys l a b p q h = none-alike 0 k xs ys b h
last-alike (Some f) k xs ys l a b p q h =
    let z = a f.place h.item h.before h.there in
    let place : f.place + 1 ≤ k = omega (arith, h.before) in
    record {
      before = h.before;
      item = z.0;
      there = z.1;
      frame = sym (alike-frame h.item z.0 z.2) ∙ h.frame;
      behind = h.behind ∙ sizes-alike (f.place + 1) xs ys (omega (arith, place, l)) (agree-less (f.place + 1) k xs ys place a) p q;
      last = none-alike (f.place + 1) k xs ys b h.last;
    }

long-alike : (k : ℕ) (xs ys : List Item) → k ≤ length xs → AgreeBefore k xs ys → k ≤ length ys
long-alike zero xs ys l a = omega arith
long-alike (suc k) [] ys l a = absurd (omega arith)
long-alike (suc k) (x ∷ xs) [] l a =
    let h = a 0 x (omega arith) refl in
    let c = within [] 0 h.0 h.1 in absurd (omega (arith, c))
long-alike (suc k) (x ∷ xs) (y ∷ ys) l a = omega (arith, long-alike k xs ys (omega arith) (λ i z b e. a (suc i) z (omega (arith, b)) e))

pub bookmark-alike : (m : Bookmark) (k : ℕ) (xs ys : List Item) → IsBookmark m xs → m.place ≤ k → AgreeBefore k xs ys → AgreeBefore k ys xs → FramesAreNine xs → FramesAreNine ys → sizes ys ≤ size_limit → IsBookmark m ys
bookmark-alike m k xs ys h l a b p q s =
    let a' = agree-less m.place k xs ys l a in
    let b' = agree-less m.place k ys xs l b in
    record {
      place = long-alike m.place xs ys h.place a';
      offset = h.offset ∙ sizes-alike m.place xs ys h.place a' p q;
      frame = last-alike m.frame m.place xs ys h.place a' b' p q h.frame;
      small = s;
    }
