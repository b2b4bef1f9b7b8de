-- Two events with one line are one.
use Rattle.std.proofs.Common.{◌≡◌, ◌≢◌, ℕ, zero, suc, ◌+◌, ◌-◌, ◌^◌, ◌≤◌, ◌<◌, ◌==◌, ◌&&◌, Bool, true, false, List, [], ◌∷◌, ◌++◌, length, Option, Some, refl, sym, ap, ap₂, ◌∙◌, append_assoc, length-append, arith, rules}
use Rattle.std.specs.Prelude.{not, nat_lt, codes, decimal, drop, slice_get, slice_index, if◌then◌else◌, ◌/◌, ◌%◌}
use Rattle.std.specs.Option.{option_map_or}
use Rattle.std.specs.Fmt.{digits, digits_onto, digit_glyph}
use Rattle.std.proofs.lemmas.Fmt.{decimal_injective}
use Rattle.std.proofs.lemmas.List.{append_cancel_left, append_cancel_right}
use Rattle.std.proofs.Math.Seq.{drop-append_seam}
use Rattle.pickle_io.specs.Text.{◌⧺◌}
use Rattle.pickle_ops.specs.declared.row.Filling.{Filling}
use Rattle.pickle_ops.specs.declared.row.Filling.TheVariants as filling
use Rattle.pickle_ops.specs.Object.{Object}
use Rattle.pickle_text.specs.Column.{blanks, right_aligned}
use Rattle.pickle_text.specs.Words.{id_text}
use Rattle.pickle_calls.specs.declared.event.Event.{Event}
use Rattle.pickle_calls.specs.declared.event.Event.TheVariants as event
use Rattle.pickle_calls.specs.declared.naming.Naming.{Naming}
use Rattle.pickle_calls.specs.Brief.{value_text}
use Rattle.pickle_calls.specs.CallsLine.{made_words, made_text, made_at, state_text, fill_keyword, fill_link, filled_text, event_text, event_line}
use Rattle.calls_laws.specs.LineLaws.{HasOwnLine, AreOne, OneLineOneEvent}
use Rattle.calls_laws.proofs.LinesApart.{both_hold, first_of, rest_of}
use Rattle.calls_laws.proofs.QuotesApart.{other}

-- ---- texts that have no such byte

abbrev pub lacks : ℕ → List ℕ → Bool
lacks c [] = true
lacks c (b ∷ text) = not (b == c) && lacks c text

not_itself : (c : ℕ) → not (c == c) ≡ true → ⊥
not_itself c e = let same : (c == c) ≡ true = search rules in let wrong : false ≡ true = ap not (sym same) ∙ e in absurd cc

-- the first such byte
pub apart_first : (c : ℕ) (p q x y : List ℕ) → lacks c p ≡ true → lacks c q ≡ true → p ++ (c ∷ x) ≡ q ++ (c ∷ y) → (p ≡ q) × (x ≡ y)
apart_first c [] [] x y h k e = (refl, ap (drop 1) e)
apart_first c [] (b ∷ q) x y h k e =
    let at : c ≡ b = ap (λ (l : List ℕ). slice_index l 0) e in
    absurd (not_itself c (ap (λ (n : ℕ). not (n == c)) at ∙ first_of (not (b == c)) (lacks c q) k))
apart_first c (a ∷ p) [] x y h k e =
    let at : a ≡ c = ap (λ (l : List ℕ). slice_index l 0) e in
    absurd (not_itself c (ap (λ (n : ℕ). not (n == c)) (sym at) ∙ first_of (not (a == c)) (lacks c p) h))
apart_first c (a ∷ p) (b ∷ q) x y h k e =
    let rest = apart_first c p q x y (rest_of (not (a == c)) (lacks c p) h) (rest_of (not (b == c)) (lacks c q) k) (ap (drop 1) e) in
    (ap₂ (λ (n : ℕ) (l : List ℕ). n ∷ l) (ap (λ (l : List ℕ). slice_index l 0) e) rest.0, rest.1)

pub lacks_none : (c : ℕ) (x y : List ℕ) → lacks c (x ++ (c ∷ y)) ≡ true → ⊥
lacks_none c [] y h = not_itself c (first_of (not (c == c)) (lacks c y) h)
lacks_none c (b ∷ x) y h = lacks_none c x y (rest_of (not (b == c)) (lacks c (x ++ (c ∷ y))) h)

-- the last one
pub apart_last : (c : ℕ) (p q x y : List ℕ) → lacks c x ≡ true → lacks c y ≡ true → p ++ (c ∷ x) ≡ q ++ (c ∷ y) → (p ≡ q) × (x ≡ y)
apart_last c [] [] x y h k e = (refl, ap (drop 1) e)
apart_last c [] (b ∷ q) x y h k e =
    let behind : x ≡ q ++ (c ∷ y) = ap (drop 1) e in
    absurd (lacks_none c q y (sym (ap (lacks c) behind) ∙ h))
apart_last c (a ∷ p) [] x y h k e =
    let behind : p ++ (c ∷ x) ≡ y = ap (drop 1) e in
    absurd (lacks_none c p x (ap (lacks c) behind ∙ k))
apart_last c (a ∷ p) (b ∷ q) x y h k e =
    let rest = apart_last c p q x y h k (ap (drop 1) e) in
    (ap₂ (λ (n : ℕ) (l : List ℕ). n ∷ l) (ap (λ (l : List ℕ). slice_index l 0) e) rest.0, rest.1)

-- ---- numbers

differ : (m n : ℕ) → (m ≡ n → ⊥) → not (m == n) ≡ true
differ m n h = go (m == n) refl
  where
    go : (b : Bool) → (m == n) ≡ b → not b ≡ true
    go false e = refl
    go true e = let same : m ≡ n = search rules in absurd (h same)

-- a byte that is no digit
abbrev pub IsNoDigit : ℕ → Type 0
IsNoDigit c = (d : ℕ) → d < 10 → 48 + d ≡ c → ⊥

glyph_lacks : (c d : ℕ) → IsNoDigit c → d < 10 → not (digit_glyph false d == c) ≡ true
glyph_lacks c d h less = go (nat_lt d 10) refl
  where
    go : (b : Bool) → nat_lt d 10 ≡ b → not ((if b then 48 + d else (87 + d)) == c) ≡ true
    go true e = differ (48 + d) c (h d less)
    go false e = let no : 10 ≤ d = search rules in absurd (omega (arith, less, no))

choice : (c : ℕ) (b : Bool) (x y : List ℕ) → lacks c x ≡ true → lacks c y ≡ true → lacks c (if b then x else y) ≡ true
choice c true x y p q = p
choice c false x y p q = q

onto_lacks : (c k n : ℕ) (acc : List ℕ) → IsNoDigit c → lacks c acc ≡ true → lacks c (digits_onto k 10 false n acc) ≡ true
onto_lacks c zero n acc h p = p
onto_lacks c (suc k) n acc h p =
    let next : lacks c (digit_glyph false (n % 10) ∷ acc) ≡ true = both_hold (not (digit_glyph false (n % 10) == c)) (lacks c acc) (glyph_lacks c (n % 10) h (omega arith)) p in
    choice c (n / 10 == 0) (digit_glyph false (n % 10) ∷ acc) (digits_onto k 10 false (n / 10) (digit_glyph false (n % 10) ∷ acc)) next
    (onto_lacks c k (n / 10) (digit_glyph false (n % 10) ∷ acc) h next)

pub decimal_lacks : (c n : ℕ) → IsNoDigit c → lacks c (decimal n) ≡ true
unfolding digits
decimal_lacks c n h = onto_lacks c 64 n [] h refl

pub no_hash : IsNoDigit 35
no_hash d h e = absurd (omega (arith, e))

pub no_colon : IsNoDigit 58
no_colon d h e = absurd (omega (arith, h, e))

pub no_blank : IsNoDigit 32
no_blank d h e = absurd (omega (arith, e))

-- ---- the offset

pub lacks_joined : (c : ℕ) (x y : List ℕ) → lacks c x ≡ true → lacks c y ≡ true → lacks c (x ++ y) ≡ true
lacks_joined c [] y p q = q
lacks_joined c (b ∷ x) y p q = both_hold (not (b == c)) (lacks c (x ++ y)) (first_of (not (b == c)) (lacks c x) p) (lacks_joined c x y (rest_of (not (b == c)) (lacks c x) p) q)

blanks_lack : (n : ℕ) → lacks 58 (blanks n) ≡ true
blanks_lack zero = refl
blanks_lack (suc n) = blanks_lack n

pub right_lacks : (n : ℕ) → lacks 58 (right_aligned 5 (decimal n)) ≡ true
unfolding right_aligned ◌⧺◌
right_lacks n = lacks_joined 58 (blanks (5 - length (decimal n))) (decimal n) (blanks_lack (5 - length (decimal n))) (decimal_lacks 58 n no_colon)

-- behind blanks
blanks_apart : (j k : ℕ) (x y : List ℕ) → lacks 32 x ≡ true → lacks 32 y ≡ true → blanks j ++ x ≡ blanks k ++ y → x ≡ y
blanks_apart zero zero x y p q e = e
blanks_apart zero (suc k) x y p q e = absurd (lacks_none 32 [] (blanks k ++ y) (sym (ap (lacks 32) e) ∙ p))
blanks_apart (suc j) zero x y p q e = absurd (lacks_none 32 [] (blanks j ++ x) (ap (lacks 32) e ∙ q))
blanks_apart (suc j) (suc k) x y p q e = blanks_apart j k x y p q (ap (drop 1) e)

pub right_apart : (m n : ℕ) → m < 2 ^ 64 → n < 2 ^ 64 → right_aligned 5 (decimal m) ≡ right_aligned 5 (decimal n) → m ≡ n
unfolding right_aligned ◌⧺◌
right_apart m n h k e =
    decimal_injective m n h k
    (blanks_apart (5 - length (decimal m)) (5 - length (decimal n)) (decimal m) (decimal n) (decimal_lacks 32 m no_blank) (decimal_lacks 32 n no_blank) e)

pub line_is : (offset : ℕ) (m : Naming) (heap : List Object) (e : Event) → event_line offset m heap e ≡ right_aligned 5 (decimal offset) ++ (58 ∷ 32 ∷ (event_text m heap e ++ 10 ∷ []))
unfolding event_line ◌⧺◌
line_is offset m heap e =
    append_assoc (right_aligned 5 (decimal offset) ++ codes ": ") (event_text m heap e) (10 ∷ [])
    ∙ append_assoc (right_aligned 5 (decimal offset)) (codes ": ") (event_text m heap e ++ 10 ∷ [])

-- ---- events

-- a text and the object that it is about
abbrev pub About : List ℕ → ℕ → List ℕ
About front id = front ++ (35 ∷ decimal id)

pub about_apart : (p q : List ℕ) (i j : ℕ) → i < 2 ^ 64 → j < 2 ^ 64 → About p i ≡ About q j → (p ≡ q) × (i ≡ j)
about_apart p q i j h k e =
    let parts = apart_last 35 p q (decimal i) (decimal j) (decimal_lacks 35 i no_hash) (decimal_lacks 35 j no_hash) e in
    (parts.0, decimal_injective i j h k parts.1)

id_is : (id : ℕ) → id_text id ≡ 35 ∷ decimal id
unfolding id_text ◌⧺◌
id_is id = refl

pub made_is : (m : Naming) (heap : List Object) (id : ℕ) (o : Object) → slice_get heap id ≡ Some o → event_text m heap (event.Made id) ≡ About (made_words m heap o.kind o.parts ++ codes " as ") id
unfolding event_text made_text ◌⧺◌
made_is m heap id o e = ap (λ (x : Option Object). option_map_or (made_text m heap id) x []) e ∙ ap (λ (t : List ℕ). (made_words m heap o.kind o.parts ++ codes " as ") ++ t) (id_is id)

pub state_is : (m : Naming) (heap : List Object) (v id : ℕ) → event_text m heap (event.State v id) ≡ About ((codes "state " ++ value_text m heap v) ++ codes " to ") id
unfolding event_text state_text ◌⧺◌
state_is m heap v id = ap (λ (t : List ℕ). ((codes "state " ++ value_text m heap v) ++ codes " to ") ++ t) (id_is id)

pub filled_is : (m : Naming) (heap : List Object) (f : Filling) (n id : ℕ) → event_text m heap (event.Filled f n id) ≡ About ((fill_keyword f ++ decimal n) ++ fill_link f) id
unfolding event_text filled_text ◌⧺◌
filled_is m heap f n id = ap (λ (t : List ℕ). ((fill_keyword f ++ decimal n) ++ fill_link f) ++ t) (id_is id)

-- equal texts have equal ends of one length
same_end : (p q s t : List ℕ) → length s ≡ length t → p ++ s ≡ q ++ t → s ≡ t
same_end p q s t h e =
    let sizes : length p ≡ length q = omega (arith, h, ap (λ (l : List ℕ). length l) e, length-append p s, length-append q t) in
    sym (drop-append_seam p s) ∙ ap (drop (length p)) e ∙ ap (λ (n : ℕ). drop n (q ++ t)) sizes ∙ drop-append_seam q t

abbrev second : List ℕ → ℕ
second text = slice_index text 1

abbrev first : List ℕ → ℕ
first text = slice_index text 0

as_to : (p q : List ℕ) → p ++ codes " as " ≡ q ++ codes " to " → ⊥
as_to p q e = other 97 116 refl (ap second (same_end p q (codes " as ") (codes " to ") refl e))

as_in : (p q : List ℕ) → p ++ codes " as " ≡ q ++ codes " in " → ⊥
as_in p q e = other 97 105 refl (ap second (same_end p q (codes " as ") (codes " in ") refl e))

to_in : (p q : List ℕ) → p ++ codes " to " ≡ q ++ codes " in " → ⊥
to_in p q e = other 116 105 refl (ap second (same_end p q (codes " to ") (codes " in ") refl e))

-- what was made is no filling
made_filled : (p : List ℕ) (f : Filling) (n : ℕ) → f ≢ filling.Build → p ++ codes " as " ≡ (fill_keyword f ++ decimal n) ++ fill_link f → ⊥
unfolding fill_keyword fill_link
made_filled p filling.Append n h e = as_to p (codes "append " ++ decimal n) e
made_filled p filling.SetItem n h e = as_in p (codes "set " ++ decimal n) e
made_filled p filling.Add n h e = as_to p (codes "add " ++ decimal n) e
made_filled p filling.Build n h e = h refl

state_filled : (v : List ℕ) (f : Filling) (n : ℕ) → f ≢ filling.Build → (codes "state " ++ v) ++ codes " to " ≡ (fill_keyword f ++ decimal n) ++ fill_link f → ⊥
unfolding fill_keyword fill_link
state_filled v filling.Append n h e = other 115 97 refl (ap first e)
state_filled v filling.SetItem n h e = to_in (codes "state " ++ v) (codes "set " ++ decimal n) e
state_filled v filling.Add n h e = other 115 97 refl (ap first e)
state_filled v filling.Build n h e = h refl

-- the same filling, of as many
same_count : (keyword link : List ℕ) (a b : ℕ) → a < 2 ^ 64 → b < 2 ^ 64 → (keyword ++ decimal a) ++ link ≡ (keyword ++ decimal b) ++ link → a ≡ b
same_count keyword link a b h k e =
    decimal_injective a b h k (append_cancel_left keyword (decimal a) (decimal b) (append_cancel_right (keyword ++ decimal a) (keyword ++ decimal b) link e))

filled_apart : (f g : Filling) (a b : ℕ) → f ≢ filling.Build → g ≢ filling.Build → a < 2 ^ 64 → b < 2 ^ 64
    → (fill_keyword f ++ decimal a) ++ fill_link f ≡ (fill_keyword g ++ decimal b) ++ fill_link g → (f ≡ g) × (a ≡ b)
unfolding fill_keyword fill_link
filled_apart filling.Append filling.Append a b p q h k e = (refl, same_count (codes "append ") (codes " to ") a b h k e)
filled_apart filling.Append filling.SetItem a b p q h k e = absurd (to_in (codes "append " ++ decimal a) (codes "set " ++ decimal b) e)
filled_apart filling.Append filling.Add a b p q h k e = absurd (other 112 100 refl (ap second e))
filled_apart filling.SetItem filling.Append a b p q h k e = absurd (to_in (codes "append " ++ decimal b) (codes "set " ++ decimal a) (sym e))
filled_apart filling.SetItem filling.SetItem a b p q h k e = (refl, same_count (codes "set ") (codes " in ") a b h k e)
filled_apart filling.SetItem filling.Add a b p q h k e = absurd (to_in (codes "add " ++ decimal b) (codes "set " ++ decimal a) (sym e))
filled_apart filling.Add filling.Append a b p q h k e = absurd (other 100 112 refl (ap second e))
filled_apart filling.Add filling.SetItem a b p q h k e = absurd (to_in (codes "add " ++ decimal a) (codes "set " ++ decimal b) e)
filled_apart filling.Add filling.Add a b p q h k e = (refl, same_count (codes "add ") (codes " to ") a b h k e)
filled_apart filling.Build g a b p q h k e = absurd (p refl)
filled_apart f filling.Build a b p q h k e = absurd (q refl)

-- the words of what was made
words_same : (m n : Naming) (heap other : List Object) (i j : ℕ) → event_text m heap (event.Made i) ≡ event_text n other (event.Made j) → made_at m heap i ≡ made_at n other j
unfolding event_text
words_same m n heap other i j e = e

events_apart : (m n : Naming) (heap others : List Object) (e f : Event) → HasOwnLine heap e → HasOwnLine others f → event_text m heap e ≡ event_text n others f → AreOne m heap e n others f
events_apart m n heap others (event.Made i) (event.Made j) h k e =
    let p = about_apart _ _ i j h.1 k.1 (sym (made_is m heap i h.0.0 h.0.1) ∙ e ∙ made_is n others j k.0.0 k.0.1) in
    (p.1, words_same m n heap others i j e)
events_apart m n heap others (event.Made i) (event.State v j) h k e =
    let p = about_apart _ _ i j h.1 k (sym (made_is m heap i h.0.0 h.0.1) ∙ e ∙ state_is n others v j) in
    absurd (as_to (made_words m heap h.0.0.kind h.0.0.parts) (codes "state " ++ value_text n others v) p.0)
events_apart m n heap others (event.Made i) (event.Filled f a j) h k e =
    let p = about_apart _ _ i j h.1 k.1.1 (sym (made_is m heap i h.0.0 h.0.1) ∙ e ∙ filled_is n others f a j) in
    absurd (made_filled _ f a k.0 p.0)
events_apart m n heap others (event.State v i) (event.Made j) h k e =
    let p = about_apart _ _ i j h k.1 (sym (state_is m heap v i) ∙ e ∙ made_is n others j k.0.0 k.0.1) in
    absurd (as_to (made_words n others k.0.0.kind k.0.0.parts) (codes "state " ++ value_text m heap v) (sym p.0))
events_apart m n heap others (event.State v i) (event.State w j) h k e =
    let p = about_apart _ _ i j h k (sym (state_is m heap v i) ∙ e ∙ state_is n others w j) in
    (p.1, append_cancel_left (codes "state ") (value_text m heap v) (value_text n others w) (append_cancel_right (codes "state " ++ value_text m heap v) (codes "state " ++ value_text n others w) (codes " to ") p.0))
events_apart m n heap others (event.State v i) (event.Filled f a j) h k e =
    let p = about_apart _ _ i j h k.1.1 (sym (state_is m heap v i) ∙ e ∙ filled_is n others f a j) in
    absurd (state_filled (value_text m heap v) f a k.0 p.0)
events_apart m n heap others (event.Filled f a i) (event.Made j) h k e =
    let p = about_apart _ _ i j h.1.1 k.1 (sym (filled_is m heap f a i) ∙ e ∙ made_is n others j k.0.0 k.0.1) in
    absurd (made_filled _ f a h.0 (sym p.0))
events_apart m n heap others (event.Filled f a i) (event.State w j) h k e =
    let p = about_apart _ _ i j h.1.1 k (sym (filled_is m heap f a i) ∙ e ∙ state_is n others w j) in
    absurd (state_filled (value_text n others w) f a h.0 (sym p.0))
events_apart m n heap others (event.Filled f a i) (event.Filled g b j) h k e =
    let p = about_apart _ _ i j h.1.1 k.1.1 (sym (filled_is m heap f a i) ∙ e ∙ filled_is n others g b j) in
    let q = filled_apart f g a b h.0 k.0 h.1.0 k.1.0 p.0 in
    (q.0, (q.1, p.1))

pub one_line_one_event : OneLineOneEvent
one_line_one_event x y m n heap others e f small less h k same =
    let parts = apart_first 58 (right_aligned 5 (decimal x)) (right_aligned 5 (decimal y)) _ _ (right_lacks x) (right_lacks y) (sym (line_is x m heap e) ∙ same ∙ line_is y n others f) in
    let texts : event_text m heap e ≡ event_text n others f = append_cancel_right (event_text m heap e) (event_text n others f) (10 ∷ []) (ap (drop 1) parts.1) in
    (right_apart x y small less parts.0, events_apart m n heap others e f h k texts)
