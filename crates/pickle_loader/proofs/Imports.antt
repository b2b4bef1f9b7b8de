-- Only imports say that they import.
use Rattle.std.proofs.Common.{◌≡◌, ℕ, suc, ◌+◌, ◌<◌, ◌==◌, Bool, true, false, List, [], ◌∷◌, ◌++◌, length, Option, Some, None, refl, sym, ap, ◌∙◌, append_assoc, arith}
use Rattle.std.specs.Prelude.{drop, slice_get, slice_index, codes, decimal, if◌then◌else◌}
use Rattle.std.specs.Option.{option_map_or}
use Rattle.std.proofs.lemmas.List.{append-nil, append_cancel_left, append_cancel_right}
use Rattle.pickle_io.specs.Text.{◌⧺◌, quoted}
use Rattle.pickle_names.specs.Value.{decode_all, raw_text, whole_text}
use Rattle.pickle_ops.specs.declared.kind.Kind.{Kind}
use Rattle.pickle_ops.specs.declared.kind.Kind.TheVariants as kind
use Rattle.pickle_ops.specs.declared.row.Filling.{Filling}
use Rattle.pickle_ops.specs.declared.row.Filling.TheVariants as filling
use Rattle.pickle_ops.specs.Object.{Object}
use Rattle.pickle_io.specs.declared.hole.Hole.{Hole}
use Rattle.pickle_io.specs.Holes.{in_file}
use Rattle.pickle_text.specs.Column.{right_aligned}
use Rattle.pickle_text.specs.Words.{id_text}
use Rattle.pickle_calls.specs.declared.event.Event.{Event}
use Rattle.pickle_calls.specs.declared.event.Event.TheVariants as event
use Rattle.pickle_calls.specs.declared.naming.Naming.{Naming}
use Rattle.pickle_calls.specs.Naming.{Spelled, Pair, NewPair, member_text, said_text, pair_text, pair_renamed, import_text, import_for, names_by, names_text, global_pair, stack_pair}
use Rattle.pickle_calls.specs.Brief.{value_text}
use Rattle.pickle_calls.specs.CallsLine.{inst_text, call_text, call_with_text, obj_text, made_words, made_text, fill_keyword, fill_link, event_text, event_line, line_of}
use Rattle.calls_laws.specs.LineLaws.{names_of, names_by_kind, two_quoted, member_of, import_said}
use Rattle.calls_laws.proofs.QuotesApart.{other, quotes_apart}
use Rattle.calls_laws.proofs.OneEvent.{lacks, lacks_none, apart_first, apart_last, decimal_lacks, no_hash, right_lacks, line_is, About, made_is, state_is, filled_is}
use Rattle.pickle_further.specs.declared.way.Way.{Way}
use Rattle.pickle_further.specs.Going.{Standing, going}
use Rattle.pickle_loader.specs.Text.{line_gone}
use Rattle.pickle_loader.specs.Import.{import_line, IsSaid, IsImport}

-- ---- a name

abbrev first : List ℕ → ℕ
first text = slice_index text 0

abbrev second : List ℕ → ℕ
second text = slice_index text 1

apart_at : {A : Type 0} (m n : ℕ) → (m == n) ≡ false → m ≡ n → A
apart_at m n test e = absurd (other m n test e)

quoted_first : (q x : List ℕ) → first (quoted q ++ x) ≡ 39
unfolding quoted ◌⧺◌
quoted_first q x = refl

-- what is said where the text begins with a quote
record SaysQuoted (s : Option Spelled) (id : ℕ) : Type 0 where
  value : List ℕ
  is : said_text s id ≡ quoted value
  reads : (text : List ℕ) → quoted value ≡ quoted text → IsSaid s text

whole_quoted : (s : Spelled) (id : ℕ) (b : Bool) (x : List ℕ) → (decode_all s.coding s.bytes).good ≡ b → first ((if b then quoted (decode_all s.coding s.bytes).value else raw_text s.bytes) ++ x) ≡ 39 → SaysQuoted (Some s) id
unfolding said_text whole_text raw_text ◌⧺◌
whole_quoted s id true x good e = record {
  value = (decode_all s.coding s.bytes).value;
  is = ap (λ (b : Bool). if b then quoted (decode_all s.coding s.bytes).value else raw_text s.bytes) good;
  reads = λ text same. (good, same);
}
whole_quoted s id false x good e = apart_at 114 39 refl e

says_quoted : (s : Option Spelled) (id : ℕ) (x : List ℕ) → first (said_text s id ++ x) ≡ 39 → SaysQuoted s id
unfolding said_text whole_text id_text ◌⧺◌
says_quoted (Some s) id x e = whole_quoted s id (decode_all s.coding s.bytes).good x refl e
says_quoted None id x e = apart_at 35 39 refl e

-- a name that is said as what is between these quotes, and what is behind
record SaidBefore (s : Option Spelled) (text x y : List ℕ) : Type 0 where
  is : IsSaid s text
  behind : x ≡ y

said_before : (s : Option Spelled) (id : ℕ) (text x y : List ℕ) → said_text s id ++ x ≡ quoted text ++ y → SaidBefore s text x y
said_before s id text x y e =
    let q = says_quoted s id x (ap first e ∙ quoted_first text y) in
    let both = quotes_apart q.value text x y (sym (ap (λ (l : List ℕ). l ++ x) q.is) ∙ e) in
    record { is = q.reads text both.0; behind = both.1 }

-- ---- two names

pair_is : (p : Pair) (x : List ℕ) → pair_text p ++ x ≡ said_text p.from p.from_id ++ (32 ∷ (said_text p.name p.name_id ++ x))
unfolding pair_text ◌⧺◌
pair_is p x = append_assoc (said_text p.from p.from_id ++ codes " ") (said_text p.name p.name_id) x ∙ append_assoc (said_text p.from p.from_id) (codes " ") (said_text p.name p.name_id ++ x)

two_is : (from name x : List ℕ) → two_quoted from name ++ x ≡ quoted from ++ (32 ∷ (quoted name ++ x))
unfolding ◌⧺◌
two_is from name x = append_assoc (quoted from ++ codes " ") (quoted name) x ∙ append_assoc (quoted from) (codes " ") (quoted name ++ x)

record PairSaid (p : Pair) (from name x y : List ℕ) : Type 0 where
  from_is : IsSaid p.from from
  name_is : IsSaid p.name name
  behind : x ≡ y

pair_said : (p : Pair) (from name x y : List ℕ) → pair_text p ++ x ≡ two_quoted from name ++ y → PairSaid p from name x y
pair_said p from name x y e =
    let a = said_before p.from p.from_id from (32 ∷ (said_text p.name p.name_id ++ x)) (32 ∷ (quoted name ++ y)) (sym (pair_is p x) ∙ e ∙ two_is from name y) in
    let b = said_before p.name p.name_id name x y (ap (drop 1) a.behind) in
    record { from_is = a.is; name_is = b.is; behind = b.behind }

-- the member of what Python 3 imports for them
member_apart : (n : Option (List ℕ)) (p : Pair) (name x y : List ℕ) → member_text n p ++ x ≡ quoted name ++ y → x ≡ y
member_apart (Some n) p name x y e = (quotes_apart n name x y e).1
member_apart None p name x y e = (said_before p.name p.name_id name x y e).behind

for_is : (i : NewPair) (p : Pair) (x : List ℕ) → import_for i p ++ x ≡ quoted i.from ++ (32 ∷ (member_text i.name p ++ (codes " for " ++ (pair_text p ++ x))))
unfolding import_for import_text ◌⧺◌
for_is i p x =
    append_assoc (((quoted i.from ++ codes " ") ++ member_text i.name p) ++ codes " for ") (pair_text p) x
    ∙ append_assoc ((quoted i.from ++ codes " ") ++ member_text i.name p) (codes " for ") (pair_text p ++ x)
    ∙ append_assoc (quoted i.from ++ codes " ") (member_text i.name p) (codes " for " ++ (pair_text p ++ x))
    ∙ append_assoc (quoted i.from) (codes " ") (member_text i.name p ++ (codes " for " ++ (pair_text p ++ x)))

-- two names, perhaps for two others
data TwoOrFor (text from name : List ℕ) : Type 0 where
  Two : text ≡ two_quoted from name → TwoOrFor text from name
  TwoFor : (a b : List ℕ) → text ≡ two_quoted a b ++ (codes " for " ++ two_quoted from name) → TwoOrFor text from name

import_is : (old : Bool) (i : Option NewPair) (from name : List ℕ) → TwoOrFor (import_said old i from name) from name
unfolding ◌⧺◌
import_is old None from name = Two refl
import_is false (Some i) from name = Two refl
import_is true (Some i) from name = TwoFor i.from (member_of i.name name) (append_assoc (two_quoted i.from (member_of i.name name)) (codes " for ") (two_quoted from name))

abbrev BothSaid : Pair → List ℕ → List ℕ → Type 0
BothSaid p from name = IsSaid p.from from × IsSaid p.name name

no_more : {A : Type 0} (x : List ℕ) → [] ≡ codes " for " ++ x → A
no_more x e = let wrong : 0 ≡ suc _ = ap (λ (l : List ℕ). length l) e in absurd (omega (arith, wrong))

both_said : (p : Pair) (text from name : List ℕ) → pair_text p ≡ text → TwoOrFor text from name → BothSaid p from name
both_said p text from name e (Two f) =
    let s = pair_said p from name [] [] (ap (λ (l : List ℕ). l ++ []) (e ∙ f)) in (s.from_is, s.name_is)
both_said p text from name e (TwoFor a b f) =
    let s = pair_said p a b [] (codes " for " ++ two_quoted from name) (append-nil (pair_text p) ∙ e ∙ f) in no_more (two_quoted from name) s.behind

for_said : (i : NewPair) (p : Pair) (text from name : List ℕ) → import_for i p ≡ text → TwoOrFor text from name → BothSaid p from name
for_said i p text from name e (Two f) =
    let a = quotes_apart i.from from (32 ∷ (member_text i.name p ++ (codes " for " ++ (pair_text p ++ [])))) (32 ∷ (quoted name ++ [])) (sym (for_is i p []) ∙ ap (λ (l : List ℕ). l ++ []) (e ∙ f) ∙ two_is from name []) in
    no_more (pair_text p ++ []) (sym (member_apart i.name p name (codes " for " ++ (pair_text p ++ [])) [] (ap (drop 1) a.1)))
for_said i p text from name e (TwoFor a b f) =
    let x = quotes_apart i.from a (32 ∷ (member_text i.name p ++ (codes " for " ++ (pair_text p ++ [])))) (32 ∷ (quoted b ++ (codes " for " ++ two_quoted from name)))
    (sym (for_is i p []) ∙ append-nil (import_for i p) ∙ e ∙ f ∙ two_is a b (codes " for " ++ two_quoted from name)) in
    let y = member_apart i.name p b (codes " for " ++ (pair_text p ++ [])) (codes " for " ++ two_quoted from name) (ap (drop 1) x.1) in
    let s = pair_said p from name [] [] (append_cancel_left (codes " for ") (pair_text p ++ []) (two_quoted from name) y ∙ sym (append-nil (two_quoted from name))) in
    (s.from_is, s.name_is)

names_said : (m : Naming) (p : Pair) (text from name : List ℕ) → names_text m None p ≡ text → TwoOrFor text from name → BothSaid p from name
unfolding names_text
names_said m p text from name e t = go (pair_renamed p) m.old refl e
  where
    go : (i : Option NewPair) (b : Bool) → m.old ≡ b → names_by m None i p ≡ text → BothSaid p from name
    go None b is f = both_said p text from name f t
    go (Some i) true is f = for_said i p text from name (sym (ap (λ (b : Bool). if b then import_for i p else pair_text p) is) ∙ f) t
    go (Some i) false is f = both_said p text from name (sym (ap (λ (b : Bool). if b then import_for i p else pair_text p) is) ∙ f) t

-- ---- the words of what was made

said_first : (text from name x : List ℕ) → TwoOrFor text from name → first (text ++ x) ≡ 39
said_first text from name x (Two e) = ap (λ (l : List ℕ). first (l ++ x)) e ∙ ap first (two_is from name x) ∙ quoted_first from (32 ∷ (quoted name ++ x))
said_first text from name x (TwoFor a b e) =
    let more : List ℕ = codes " for " ++ two_quoted from name in
    ap (λ (l : List ℕ). first (l ++ x)) (e ∙ two_is a b more) ∙ ap first (append_assoc (quoted a) (32 ∷ (quoted b ++ more)) x) ∙ quoted_first a ((32 ∷ (quoted b ++ more)) ++ x)

-- by its kind: only GLOBAL and STACK_GLOBAL import by two names
abbrev Imports : List Object → Kind → List ℕ → List ℕ → List ℕ → Type 0
Imports heap k parts from name = (p : Pair) × (names_by_kind heap k parts ≡ Some p) × BothSaid p from name

words_import : (m : Naming) (heap : List Object) (k : Kind) (parts text from name : List ℕ) → TwoOrFor text from name → made_words m heap k parts ≡ codes "import " ++ text → Imports heap k parts from name
unfolding made_words inst_text call_text call_with_text obj_text ◌⧺◌
words_import m heap (kind.Global names) parts text from name t e =
    let p : Pair = global_pair names.first names.second in
    (p, refl, names_said m p text from name (append_cancel_left (codes "import ") (names_text m None p) text e) t)
words_import m heap kind.StackGlobal parts text from name t e =
    let p : Pair = stack_pair heap parts in
    (p, refl, names_said m p text from name (append_cancel_left (codes "import ") (names_text m None p) text e) t)
words_import m heap (kind.Ext n) parts text from name t e =
    let at : 101 ≡ first (text ++ []) = ap (λ (l : List ℕ). slice_index l 7) e ∙ sym (ap first (append-nil text)) in
    apart_at 101 39 refl (at ∙ said_first text from name [] t)
words_import m heap (kind.Inst names) parts text from name t e = apart_at 110 109 refl (ap second e)
words_import m heap kind.Call parts text from name t e = apart_at 99 105 refl (ap first e)
words_import m heap kind.New parts text from name t e = apart_at 110 105 refl (ap first e)
words_import m heap kind.NewEx parts text from name t e = apart_at 110 105 refl (ap first e)
words_import m heap kind.Obj parts text from name t e = apart_at 99 105 refl (ap first e)
words_import m heap (kind.PersistentLine q) parts text from name t e = apart_at 112 105 refl (ap first e)
words_import m heap kind.Persistent parts text from name t e = apart_at 112 105 refl (ap first e)
words_import m heap (kind.Buffer n) parts text from name t e = apart_at 98 105 refl (ap first e)
words_import m heap kind.ReadOnly parts text from name t e = apart_at 114 105 refl (ap first e)
words_import m heap _ parts text from name t e = let wrong : 0 ≡ suc _ = ap (λ (l : List ℕ). length l) e in absurd (omega (arith, wrong))

-- ---- the event

record EventImports (heap : List Object) (e : Event) (from name : List ℕ) (id : ℕ) : Type 0 where
  made : ℕ
  is : e ≡ event.Made made
  object : Object
  there : slice_get heap made ≡ Some object
  pair : Pair
  names : names_of heap object ≡ Some pair
  from_is : IsSaid pair.from from
  name_is : IsSaid pair.name name
  number : decimal made ≡ decimal id

abbrev import_words : List ℕ → List ℕ
import_words text = (codes "import " ++ text) ++ codes " as "

made_imports : (m : Naming) (heap : List Object) (i : ℕ) (text from name : List ℕ) (id : ℕ) (x : Option Object) → slice_get heap i ≡ x → TwoOrFor text from name → event_text m heap (event.Made i) ≡ About (import_words text) id → EventImports heap (event.Made i) from name id
unfolding event_text
made_imports m heap i text from name id None is t e =
    let nothing : [] ≡ About (import_words text) id = sym (ap (λ (y : Option Object). option_map_or (made_text m heap i) y []) is) ∙ e in
    let wrong : 0 ≡ suc _ = ap (λ (l : List ℕ). length l) nothing in absurd (omega (arith, wrong))
made_imports m heap i text from name id (Some o) is t e =
    let parts = apart_last 35 (made_words m heap o.kind o.parts ++ codes " as ") (import_words text) (decimal i) (decimal id) (decimal_lacks 35 i no_hash) (decimal_lacks 35 id no_hash) (sym (made_is m heap i o is) ∙ e) in
    let w = words_import m heap o.kind o.parts text from name t (append_cancel_right (made_words m heap o.kind o.parts) (codes "import " ++ text) (codes " as ") parts.0) in
    record { made = i; is = refl; object = o; there = is; pair = w.0; names = w.1; from_is = w.2.0; name_is = w.2.1; number = parts.1 }

no_i : (d : ℕ) → d < 10 → 48 + d ≡ 105 → ⊥
no_i d h e = absurd (omega (arith, h, e))

-- what fills an object imports nothing
filled_no : {A : Type 0} (f : Filling) (n : ℕ) (text : List ℕ) → (fill_keyword f ++ decimal n) ++ fill_link f ≡ import_words text → A
unfolding fill_keyword fill_link
filled_no filling.Append n text e = apart_at 97 105 refl (ap first e)
filled_no filling.SetItem n text e = apart_at 115 105 refl (ap first e)
filled_no filling.Add n text e = apart_at 97 105 refl (ap first e)
filled_no filling.Build n text e =
    let digits : lacks 105 (import_words text) ≡ true = ap (lacks 105) (sym e ∙ append-nil (decimal n)) ∙ decimal_lacks 105 n no_i in
    absurd (lacks_none 105 [] (drop 1 (import_words text)) digits)

event_imports : (m : Naming) (heap : List Object) (e : Event) (text from name : List ℕ) (id : ℕ) → TwoOrFor text from name → event_text m heap e ≡ About (import_words text) id → EventImports heap e from name id
event_imports m heap (event.Made i) text from name id t e = made_imports m heap i text from name id (slice_get heap i) refl t e
event_imports m heap (event.State v i) text from name id t e =
    let parts = apart_last 35 ((codes "state " ++ value_text m heap v) ++ codes " to ") (import_words text) (decimal i) (decimal id) (decimal_lacks 35 i no_hash) (decimal_lacks 35 id no_hash) (sym (state_is m heap v i) ∙ e) in
    apart_at 115 105 refl (ap first parts.0)
event_imports m heap (event.Filled f n i) text from name id t e =
    let parts = apart_last 35 ((fill_keyword f ++ decimal n) ++ fill_link f) (import_words text) (decimal i) (decimal id) (decimal_lacks 35 i no_hash) (decimal_lacks 35 id no_hash) (sym (filled_is m heap f n i) ∙ e) in
    filled_no f n text parts.0

-- ---- the line

pub import_line_is : (old : Bool) (other : Option NewPair) (from name : List ℕ) (offset id : ℕ)
    → import_line old other from name offset id ≡ right_aligned 5 (decimal offset) ++ (58 ∷ 32 ∷ (About (import_words (import_said old other from name)) id ++ 10 ∷ []))
unfolding id_text ◌⧺◌
import_line_is old other from name offset id =
    append_assoc (right_aligned 5 (decimal offset) ++ codes ": ") (About (import_words (import_said old other from name)) id) (10 ∷ [])
    ∙ append_assoc (right_aligned 5 (decimal offset)) (codes ": ") (About (import_words (import_said old other from name)) id ++ 10 ∷ [])

line_imports : (holes : List Hole) (w : Way) (q : Standing) (old : Bool) (other : Option NewPair) (from name : List ℕ) (offset id : ℕ) (e : Event) → (going w q).gone.event ≡ Some e
    → event_line (in_file holes q.at.offset) q.naming (going w q).state.heap e ≡ import_line old other from name offset id → IsImport holes from name offset id w q
line_imports holes w q old other from name offset id e is same =
    let at : ℕ = in_file holes q.at.offset in
    let heap : List Object = (going w q).state.heap in
    let text : List ℕ = import_said old other from name in
    let parts = apart_first 58 (right_aligned 5 (decimal at)) (right_aligned 5 (decimal offset)) _ _ (right_lacks at) (right_lacks offset) (sym (line_is at q.naming heap e) ∙ same ∙ import_line_is old other from name offset id) in
    let x = event_imports q.naming heap e text from name id (import_is old other from name) (append_cancel_right (event_text q.naming heap e) (About (import_words text) id) (10 ∷ []) (ap (drop 1) parts.1)) in
    record {
      made = x.made;
      event = is ∙ ap Some x.is;
      object = x.object;
      there = x.there;
      pair = x.pair;
      names = x.names;
      from_is = x.from_is;
      name_is = x.name_is;
      number_is = x.number;
      offset_is = parts.0;
    }

line_none : {A : Type 0} (old : Bool) (other : Option NewPair) (from name : List ℕ) (offset id : ℕ) → [] ≡ import_line old other from name offset id → A
line_none old other from name offset id e = absurd (lacks_none 58 (right_aligned 5 (decimal offset)) _ (ap (lacks 58) (sym (import_line_is old other from name offset id) ∙ sym e)))

-- an item whose line is that of an import is one
pub gone_imports : (holes : List Hole) (w : Way) (q : Standing) (old : Bool) (other : Option NewPair) (from name : List ℕ) (offset id : ℕ)
    → line_gone holes q (going w q) ≡ import_line old other from name offset id → IsImport holes from name offset id w q
gone_imports holes w q old other from name offset id same = go (going w q).gone.event refl
  where
    at : Option Event → List ℕ
    at x = line_of (in_file holes q.at.offset) q.naming (going w q).state.heap x

    go : (x : Option Event) → (going w q).gone.event ≡ x → IsImport holes from name offset id w q
    go None is = line_none old other from name offset id (sym (ap at is) ∙ same)
    go (Some e) is = line_imports holes w q old other from name offset id e is (sym (ap at is) ∙ same)
