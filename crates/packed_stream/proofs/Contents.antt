-- A packed file opens to one thing, or to nothing.
use Rattle.std.proofs.Common.{◌≡◌, ◌≢◌, ℕ, zero, suc, ◌+◌, ◌-◌, ◌<◌, ◌≤◌, Bool, true, false, List, [], ◌∷◌, ◌++◌, length, length-drop, drop, get_or, take, inl, inr, Ok, Err, refl, sym, ap, subst, ◌∙◌, arith}
use Rattle.std.specs.Prelude.{Result, Vec, IfOk, ◌==◌, ◌&&◌, eqb, min, nat_lt, slice_index, if◌then◌else◌, Option, Some, None}
use Rattle.std.specs.List.{starts_with}
use Rattle.std.proofs.lemmas.Bool.{eqb-true, cases_lt, lt-ltb, le-ltb}
use Rattle.inflate.specs.declared.refusal.Refusal.{Refusal as Broken}
use Rattle.inflate.specs.Stream.{inflated, Inflates}
use Rattle.inflate.proofs.Meaning.{same_meaning, fits_within}
use Rattle.packed_stream.specs.declared.reason.Packing.{Packing}
use Rattle.packed_stream.specs.declared.reason.Packing.TheVariants as packing
use Rattle.packed_stream.specs.declared.reason.Reason.TheVariants as reason
use Rattle.packed_stream.specs.declared.reason.Refusal.{Refusal}
use Rattle.packed_stream.specs.Header.{refusal_at, refused, begins_as_gzip, name_size, behind_name, gzip_header, are_zlib, begins_as_zlib, zlib_header, header_of, packing_of}
use Rattle.packed_stream.specs.Packed.{end_size, has_checksum, has_size, IsPacked, seen, checked, unpacked, opened_behind, opened}
use Rattle.packed_stream.specs.Reader.{IsFirst, ReadsOn, OneContent, NothingFollows}

-- ---- answers that are values

ok_same : {A : Type 0} (a b : A) → ◌≡◌ {A = Result A Refusal} (Ok a) (Ok b) → a ≡ b
ok_same a b e = cc

no_value : {A : Type 0} (e : Refusal) (a : A) → ◌≡◌ {A = Result A Refusal} (Err e) (Ok a) → ⊥
no_value e a h = absurd cc

-- where a test that refuses is passed by
passed_by : {A : Type 0} (t : Bool) (e : Refusal) (r : Result A Refusal) (a : A) → (if t then Err e else r) ≡ Ok a → (t ≡ false) × (r ≡ Ok a)
passed_by true e r a h = absurd (no_value e a h)
passed_by false e r a h = (refl, h)

-- or one that is asked for is passed
passed : {A : Type 0} (t : Bool) (e : Refusal) (r : Result A Refusal) (a : A) → (if t then r else Err e) ≡ Ok a → (t ≡ true) × (r ≡ Ok a)
passed true e r a h = (refl, h)
passed false e r a h = absurd (no_value e a h)

-- ---- headers

gzip_begins : (bytes : List ℕ) (start : ℕ) → gzip_header bytes ≡ Ok start → begins_as_gzip bytes ≡ true
unfolding gzip_header
gzip_begins bytes start h =
    let long = passed_by (nat_lt (length bytes) 10) (refusal_at reason.Cut (length bytes)) _ start h in
    both (begins_as_gzip bytes) (slice_index bytes 2 == 8) (passed (begins_as_gzip bytes && slice_index bytes 2 == 8) (refusal_at reason.Header 0) _ start long.1).0
  where
    both : (a b : Bool) → (a && b) ≡ true → a ≡ true
    both true b h = refl
    both false b h = absurd cc

zlib_begins : (bytes : List ℕ) (start : ℕ) → zlib_header bytes ≡ Ok start → begins_as_zlib bytes ≡ true
unfolding zlib_header
zlib_begins bytes start h =
    let long = passed_by (nat_lt (length bytes) 2) (refusal_at reason.Cut (length bytes)) _ start h in
    (passed (begins_as_zlib bytes) (refusal_at reason.Header 0) (Ok 2) start long.1).0

-- by the first byte
pub gzip_first : (bytes : List ℕ) → begins_as_gzip bytes ≡ true → get_or bytes 0 0 ≡ 31
gzip_first [] h = absurd cc
gzip_first (x ∷ rest) h = sym (eqb-true 31 x (front (eqb 31 x) _ h))
  where
    front : (a b : Bool) → (a && b) ≡ true → a ≡ true
    front true b h = refl
    front false b h = absurd cc

pub zlib_first : (bytes : List ℕ) → begins_as_zlib bytes ≡ true → get_or bytes 0 0 ≡ 120
zlib_first bytes h = eqb-true (get_or bytes 0 0) 120 (front (get_or bytes 0 0 == 120) _ h)
  where
    front : (a b : Bool) → (a && b) ≡ true → a ≡ true
    front true b h = refl
    front false b h = absurd cc

apart : (bytes : List ℕ) (s t : ℕ) → gzip_header bytes ≡ Ok s → zlib_header bytes ≡ Ok t → ⊥
apart bytes s t g z = omega (arith, gzip_first bytes (gzip_begins bytes s g), zlib_first bytes (zlib_begins bytes t z))

one_kind : (p q : Packing) (bytes : List ℕ) (s t : ℕ) → header_of p bytes ≡ Ok s → header_of q bytes ≡ Ok t → p ≡ q
one_kind packing.Gzip packing.Gzip bytes s t h k = refl
one_kind packing.Gzip packing.Zlib bytes s t h k = absurd (apart bytes s t h k)
one_kind packing.Zlib packing.Gzip bytes s t h k = absurd (apart bytes t s k h)
one_kind packing.Zlib packing.Zlib bytes s t h k = refl

-- bytes with the header of a kind begin as this kind
pub begins_as : (p : Packing) (bytes : List ℕ) (start : ℕ) → header_of p bytes ≡ Ok start → packing_of bytes ≡ Some p
begins_as packing.Gzip bytes start h =
    ap (λ (a : Bool). if a then Some packing.Gzip else (if begins_as_zlib bytes then Some packing.Zlib else None)) (gzip_begins bytes start h)
begins_as packing.Zlib bytes start h = go (begins_as_gzip bytes) refl (begins_as_zlib bytes) (zlib_begins bytes start h)
  where
    go : (a : Bool) → begins_as_gzip bytes ≡ a → (b : Bool) → b ≡ true → (if a then Some packing.Gzip else (if b then Some packing.Zlib else None)) ≡ Some packing.Zlib
    go true gzip b zlib = absurd (omega (arith, gzip_first bytes gzip, zlib_first bytes (zlib_begins bytes start h)))
    go false gzip true zlib = refl
    go false gzip false zlib = absurd cc

-- no header stands in no bytes
none_in_none : (p : Packing) (start : ℕ) → header_of p [] ≡ Ok start → ⊥
none_in_none packing.Gzip start h = let first : 0 ≡ 31 = gzip_first [] (gzip_begins [] start h) in omega (arith, first)
none_in_none packing.Zlib start h = let first : 0 ≡ 120 = zlib_first [] (zlib_begins [] start h) in omega (arith, first)

-- ---- one thing

same_stream : (p : Packing) (bytes a b : List ℕ) (s t m n : ℕ) → header_of p bytes ≡ Ok s → header_of p bytes ≡ Ok t → Inflates (drop s bytes) (a, m) → Inflates (drop t bytes) (b, n)
    → (t ≡ s) × (b ≡ a) × (n ≡ m)
same_stream p bytes a b s t m n h k i j =
    let here : t ≡ s = ok_same t s (sym k ∙ h) in
    let there : Inflates (drop s bytes) (b, n) = subst (λ (x : ℕ). Inflates (drop x bytes) (b, n)) here j in
    let same : ◌≡◌ {A = List ℕ × ℕ} (b, n) (a, m) = same_meaning (drop s bytes) (b, n) (a, m) there i in
    (here, ap (λ (x : List ℕ × ℕ). x.0) same, ap (λ (x : List ℕ × ℕ). x.1) same)

pub one_content : OneContent
one_content p q bytes content other a b =
    let kind : p ≡ q = one_kind p q bytes a.start b.start a.header b.header in
    (kind, (same_stream p bytes content other a.start b.start a.taken b.taken a.header (subst (λ (k : Packing). header_of k bytes ≡ Ok b.start) (sym kind) b.header) a.stream b.stream).1)

-- ---- and nothing behind it

all_dropped : (n : ℕ) (xs : List ℕ) → length xs ≡ n → drop n xs ≡ []
all_dropped zero [] h = refl
all_dropped zero (x ∷ xs) h = absurd (omega (arith, h))
all_dropped (suc n) [] h = refl
all_dropped (suc n) (x ∷ xs) h = all_dropped n xs (omega (arith, h))

nothing_left : (n : ℕ) (q : Packing) (bytes read : List ℕ) → bytes ≡ [] → ReadsOn n q bytes read → (n ≡ 0) × (read ≡ [])
nothing_left zero q bytes read none r = (refl, r.1)
nothing_left (suc n) q bytes read none r =
    absurd (none_in_none q r.3.start (ap (header_of q) (sym none) ∙ r.3.header))

no_more : (xs : List ℕ) → xs ++ [] ≡ xs
no_more [] = refl
no_more (x ∷ xs) = ap (λ (l : List ℕ). x ∷ l) (no_more xs)

pub nothing_follows : NothingFollows
nothing_follows zero p q bytes content read a r = absurd (none_in_none p a.start (ap (header_of p) (sym r.0) ∙ a.header))
nothing_follows (suc n) p q bytes content read a r =
    let kind : p ≡ q = one_kind p q bytes a.start r.3.start a.header r.3.header in
    let same = same_stream p bytes content r.0 a.start r.3.start a.taken r.3.taken a.header (subst (λ (k : Packing). header_of k bytes ≡ Ok r.3.start) (sym kind) r.3.header) a.stream r.3.stream in
    let behind : drop r.3.taken (drop r.3.start bytes) ≡ drop a.taken (drop a.start bytes) = ap (λ (x : ℕ). drop x (drop r.3.start bytes)) same.2 ∙ ap (λ (x : ℕ). drop a.taken (drop x bytes)) same.0 in
    let none : r.1 ≡ [] =
    r.3.behind ∙ ap (λ (k : Packing). drop (end_size k) (drop r.3.taken (drop r.3.start bytes))) (sym kind) ∙ ap (drop (end_size p)) behind ∙ all_dropped (end_size p) (drop a.taken (drop a.start bytes)) a.whole in
    let rest = nothing_left n q r.1 r.2 none r.4 in
    (ap suc rest.0, r.5 ∙ ap (λ (l : List ℕ). r.0 ++ l) rest.1 ∙ no_more r.0 ∙ same.1)

-- ---- what is answered

not_less : (m n : ℕ) → nat_lt m n ≡ false → n ≤ m
not_less m n h =
    elim (cases_lt m n) [
      | inl lt ↦ let bad : true ≡ false = sym (lt-ltb m n lt) ∙ h in absurd cc
      | inr le ↦ le
    ]

checked_so : (p : Packing) (bytes behind made content : List ℕ) → checked p bytes behind made ≡ Ok content
    → (length behind ≡ end_size p) × (has_checksum p behind made ≡ true) × (has_size p behind made ≡ true) × (made ≡ content)
unfolding checked
checked_so p bytes behind made content h =
    let one = passed_by (nat_lt (length behind) (end_size p)) (refusal_at reason.End (length bytes)) _ content h in
    let two = passed_by (nat_lt (end_size p) (length behind)) (refusal_at reason.Rest (length bytes - length behind + end_size p)) _ content one.1 in
    let three = passed (has_checksum p behind made) (refusal_at reason.Checksum (length bytes - length behind)) _ content two.1 in
    let four = passed (has_size p behind made) (refusal_at reason.Size (length bytes - 4)) (Ok made) content three.1 in
    (omega (arith, not_less (length behind) (end_size p) one.0, not_less (end_size p) (length behind) two.0), three.0, four.0, ok_same made content four.1)

checked_holds : (p : Packing) (bytes behind made : List ℕ) → length behind ≡ end_size p → has_checksum p behind made ≡ true → has_size p behind made ≡ true
    → checked p bytes behind made ≡ Ok made
unfolding checked
checked_holds p bytes behind made whole sound long =
    let one : nat_lt (length behind) (end_size p) ≡ false = le-ltb (length behind) (end_size p) (omega (arith, whole)) in
    let two : nat_lt (end_size p) (length behind) ≡ false = le-ltb (end_size p) (length behind) (omega (arith, whole)) in
    rw (one, two, sound, long) refl

found : (limit : ℕ) (p : Packing) (bytes content : List ℕ) → opened limit p bytes ≡ Ok content → IsPacked p bytes content
found limit p bytes content given = by_header (header_of p bytes) refl given
  where
    by_stream : (start : ℕ) → header_of p bytes ≡ Ok start → (r : Result (List ℕ × ℕ) Broken) → inflated limit (drop start bytes) ≡ r → unpacked p bytes start r ≡ Ok content
        → IsPacked p bytes content
    by_stream start header (Ok x) made h =
        let all = checked_so p bytes (drop x.1 (drop start bytes)) x.0 content h in
        record {
          start = start;
          taken = x.1;
          header = header;
          stream = subst (λ (c : List ℕ). Inflates (drop start bytes) (c, x.1)) all.3 (limit, made);
          whole = all.0;
          sound = subst (λ (c : List ℕ). has_checksum p (drop x.1 (drop start bytes)) c ≡ true) all.3 all.1;
          long = subst (λ (c : List ℕ). has_size p (drop x.1 (drop start bytes)) c ≡ true) all.3 all.2;
        }
    by_stream start header (Err e) made h = absurd (no_value _ content h)

    by_header : (r : Result ℕ Refusal) → header_of p bytes ≡ r → opened_behind limit p bytes r ≡ Ok content → IsPacked p bytes content
    by_header (Ok start) header h = by_stream start header (inflated limit (drop start bytes)) refl h
    by_header (Err e) header h = absurd (no_value e content h)

pub opens_so : (limit : ℕ) (p : Packing) (bytes content : List ℕ) → IsPacked p bytes content → length content ≤ limit → opened limit p bytes ≡ Ok content
opens_so limit p bytes content is few =
    ap (opened_behind limit p bytes) is.header
    ∙ ap (unpacked p bytes is.start) (fits_within limit (drop is.start bytes) (content, is.taken) is.stream few)
    ∙ checked_holds p bytes (drop is.taken (drop is.start bytes)) content is.whole is.sound is.long

-- ---- of what a function returned

pub is_found : {Z E : Type 0} (limit : ℕ) (p : Packing) (bytes : List ℕ) (r : Result (Result (Vec ℕ Z) Refusal) E) → IfOk r (λ s. seen s ≡ opened limit p bytes)
    → IfOk r (λ s. IfOk s (λ v. IsPacked p bytes v.items))
is_found limit p bytes (Ok (Ok v)) h = found limit p bytes v.items (sym h)
is_found limit p bytes (Ok (Err e)) h = tt
is_found limit p bytes (Err e) h = tt

pub only_found : {Z E : Type 0} (limit : ℕ) (p : Packing) (bytes content : List ℕ) (r : Result (Result (Vec ℕ Z) Refusal) E) → IsPacked p bytes content → length content ≤ limit
    → IfOk r (λ s. seen s ≡ opened limit p bytes) → IfOk r (λ s. seen s ≡ Ok content)
only_found limit p bytes content (Ok s) is few h = h ∙ opens_so limit p bytes content is few
only_found limit p bytes content (Err e) is few h = tt
