-- A reader of the items of a document: what it finds is what a reader of the document's bytes would find.
use Rattle.std.proofs.Common.{Bool, ◌≡◌, ℕ, zero, suc, ◌+◌, ◌-◌, ◌<◌, ◌≤◌, true, List, [], ◌∷◌, ◌++◌, length, drop, slice_get, Some, None, refl, sym, ap, subst, ◌∙◌, inl, inr, arith, length-append, append_assoc}
use Rattle.std.proofs.lemmas.Bool.{cases_Bool}
use Rattle.std.proofs.lemmas.List.{length-drop}
use Rattle.std.proofs.lemmas.Option.{slice_get_within}
use Rattle.pickle_ops.specs.Spelling.{Operation, spelling, size_of}
use Rattle.pickle_doc.specs.declared.stream.NextRef.{NextRef}
use Rattle.pickle_doc.specs.declared.stream.NextRef.TheVariants as next
use Rattle.pickle_doc.specs.DocUnit.{opens_frame, ends_reading, bytes_of, frame_number}
use Rattle.pickle_doc.specs.Document.{Contents, document_bytes, IsDocument, size_limit, ended_by}
use Rattle.pickle_doc.specs.Place.{ops_of}
use Rattle.pickle_doc.specs.Fitting.{FitsFrom, IsLast, left_behind}
use Rattle.pickle_doc.specs.Unread.{IsNextItem, Unread, Follows, unread_at, IsPlaced}
use Rattle.pickle_doc.proofs.Opcodes.{opens_at, frame_goes}
use Rattle.pickle_doc.proofs.Fits.{reaches}
use Rattle.pickle_doc.proofs.Lists.{past}
use Rattle.pickle_doc.proofs.Units.{small_document, document_fits}
use Rattle.pickle_doc.proofs.Readings.{rest_is}

-- the items to come begin with the next one
drop_next : {X : Type 0} (xs : List X) (k : ℕ) (x : X) → slice_get xs k ≡ Some x → drop k xs ≡ x ∷ drop (k + 1) xs
drop_next xs k x e = let n : k + 1 ≡ suc k = omega arith in rw n (go xs k e)
  where
    go : {X : Type 0} {x : X} (xs : List X) (k : ℕ) → slice_get xs k ≡ Some x → drop k xs ≡ x ∷ drop (suc k) xs
    go [] k e = cc
    go (y ∷ xs) zero e = cc
    go (y ∷ xs) (suc k) e = go xs k e

drop_past : {X : Type 0} (xs : List X) (k : ℕ) → length xs ≤ k → drop k xs ≡ []
drop_past [] zero h = refl
drop_past [] (suc k) h = refl
drop_past (x ∷ xs) zero h = absurd (omega arith)
drop_past (x ∷ xs) (suc k) h = drop_past xs k (omega arith)

abbrev with_rest : Bool → ℕ → List ℕ → Unread
with_rest loose left rest = record { loose = loose; rest = rest; left = left }

-- what follows an item
record Next (d : Contents) (k : ℕ) (behind : Unread) (o : Operation) : Type 0 where
  pub ops : drop k (ops_of d) ≡ o ∷ drop (k + 1) (ops_of d)
  pub loose : behind.loose ≡ d.loose
  pub tail : behind.rest ≡ d.tail
  pub fit : FitsFrom d.many d.loose behind.left (o ∷ drop (k + 1) (ops_of d)) d.tail (ended_by d)
  pub within : k < length (ops_of d)

next_of : (d : Contents) (k ahead : ℕ) (behind : Unread) (o : Operation) → IsPlaced d k ahead behind → slice_get (ops_of d) k ≡ Some o → Next d k behind o
next_of d k ahead behind o p e =
    let ops = drop_next (ops_of d) k o e in
    let here = slice_get_within (ops_of d) k o e in
    let there = p.stands here in
    record { ops = ops; loose = p.loose; tail = there.0; fit = subst (λ (xs : List Operation). FitsFrom d.many d.loose behind.left xs d.tail (ended_by d)) ops there.1; within = here }

rest_of : (d : Contents) (k : ℕ) (behind : Unread) (o : Operation) → Next d k behind o
    → (unread_at d k behind).rest ≡ spelling o ++ (bytes_of (drop (k + 1) (ops_of d)) ++ behind.rest)
rest_of d k behind o n =
    ap (λ (xs : List Operation). bytes_of xs ++ behind.rest) n.ops ∙ append_assoc (spelling o) (bytes_of (drop (k + 1) (ops_of d))) behind.rest

number_within : (left : ℕ) (o : Operation) (ops : List Operation) (rest tail : List ℕ) (d : Contents) → FitsFrom d.many d.loose left (o ∷ ops) tail (ended_by d) → rest ≡ tail → opens_frame d.loose o.opcode ≡ true → frame_number o ≤ length (bytes_of ops ++ rest)
number_within left o ops rest tail d f e hit =
    let next : FitsFrom d.many d.loose (left_behind d.loose left o) ops tail (ended_by d) = rw (frame_goes d.many o.opcode (opens_at d.loose o.opcode hit)) at f.1 in
    let number : left_behind d.loose left o ≡ frame_number o = rw hit refl in
    let far = reaches d.many d.loose ops (left_behind d.loose left o) tail (ended_by d) next in
    let same : length (bytes_of ops ++ rest) ≡ length (bytes_of ops ++ tail) = ap (λ (t : List ℕ). length (bytes_of ops ++ t)) e in
    omega (arith, far, number, same)

is_next : (d : Contents) (k : ℕ) (behind : Unread) (o : Operation) → Next d k behind o → IsNextItem behind.loose behind.left (unread_at d k behind).rest o (size_of o)
is_next d k behind o n = record {
  stands = rw n.loose n.fit.0;
  size_is = refl;
  rest = bytes_of (drop (k + 1) (ops_of d)) ++ behind.rest;
  spelled = rest_of d k behind o n;
  number = λ hit. number_within behind.left o (drop (k + 1) (ops_of d)) behind.rest d.tail d n.fit n.tail (rw n.loose at hit);
}

-- an item is read
pub item_follows : (d : Contents) (k ahead : ℕ) (behind : Unread) (o : Operation) → IsPlaced d k ahead behind → slice_get (ops_of d) k ≡ Some o
    → Follows (unread_at d k behind) (unread_at d (k + 1) (record { loose = behind.loose; rest = behind.rest; left = left_behind behind.loose behind.left o })) (next.Item o)
unfolding is_next
item_follows d k ahead behind o p e =
    let n = next_of d k ahead behind o p e in
    let i = is_next d k behind o n in
    (i, ap (with_rest behind.loose (left_behind behind.loose behind.left o)) (sym (rest_is behind.left (unread_at d k behind).rest o (size_of o) i)))

-- how many bytes spell the items to come
size_next : (d : Contents) (k : ℕ) (behind : Unread) (o : Operation) → Next d k behind o → length (bytes_of (drop k (ops_of d))) ≡ size_of o + length (bytes_of (drop (k + 1) (ops_of d)))
size_next d k behind o n =
    omega (arith, ap (λ (xs : List Operation). length (bytes_of xs)) n.ops, length-append (spelling o) (bytes_of (drop (k + 1) (ops_of d))))

goes_on : (d : Contents) (k : ℕ) (behind : Unread) (o : Operation) → Next d k behind o → k + 1 < length (ops_of d)
    → FitsFrom d.many d.loose (left_behind d.loose behind.left o) (drop (k + 1) (ops_of d)) d.tail (ended_by d)
goes_on d k behind o n h = elim (cases_Bool (ends_reading d.many o.opcode)) [
  | inl last ↦
      let f : IsLast (left_behind d.loose behind.left o) (drop (k + 1) (ops_of d)) d.tail (ended_by d) = rw last at n.fit.1 in
      absurd (omega (arith, length-drop (k + 1) (ops_of d), ap length f.none))
  | inr more ↦ rw more at n.fit.1
]

pub item_placed : (d : Contents) (k ahead : ℕ) (behind : Unread) (o : Operation) → IsPlaced d k ahead behind → slice_get (ops_of d) k ≡ Some o
    → IsPlaced d (k + 1) (ahead - size_of o) (record { loose = behind.loose; rest = behind.rest; left = left_behind behind.loose behind.left o })
item_placed d k ahead behind o p e =
    let n = next_of d k ahead behind o p e in
    let size = size_next d k behind o n in
    record {
      size = omega (arith, p.size, size);
      loose = p.loose;
      stands = λ h. (n.tail, rw p.loose (goes_on d k behind o n h));
      within = p.within;
      few = omega (arith, p.few);
    }

-- how many bytes spell it, and where it stands
pub record Bounded (d : Contents) (k ahead : ℕ) (o : Operation) : Type 0 where
  pub size : size_of o ≤ ahead
  pub place : k < size_limit

ops_few : (ops : List Operation) → length ops ≤ length (bytes_of ops)
ops_few [] = omega arith
ops_few (o ∷ ops) = omega (arith, length-append (spelling o) (bytes_of ops), ops_few ops)

pub item_bounded : (d : Contents) (k ahead : ℕ) (behind : Unread) (o : Operation) → IsPlaced d k ahead behind → slice_get (ops_of d) k ≡ Some o → Bounded d k ahead o
item_bounded d k ahead behind o p e =
    let n = next_of d k ahead behind o p e in
    let size = size_next d k behind o n in
    record {
      size = omega (arith, p.size, size);
      place = omega (arith, n.within, ops_few (ops_of d), length-append (bytes_of (ops_of d)) d.tail, p.within);
    }

-- after the items
pub rest_behind : (d : Contents) (k : ℕ) (behind : Unread) → slice_get (ops_of d) k ≡ None → unread_at d k behind ≡ behind
rest_behind d k behind e = ap (λ (xs : List Operation). with_rest behind.loose behind.left (bytes_of xs ++ behind.rest)) (drop_past (ops_of d) k (past (ops_of d) k e))

no_longer : (old new : Unread) (r : NextRef) → Follows old new r → length new.rest ≤ length old.rest
no_longer old new (next.Item o) f = omega (arith, ap (λ (u : Unread). length u.rest) f.1, length-drop (size_of o) old.rest)
no_longer old new (next.Tail fault) f = omega (arith, ap (λ (u : Unread). length u.rest) f.1)

same_loose : (old new : Unread) (r : NextRef) → Follows old new r → new.loose ≡ old.loose
same_loose old new (next.Item o) f = ap (λ (u : Unread). u.loose) f.1
same_loose old new (next.Tail fault) f = ap (λ (u : Unread). u.loose) f.1

pub placed_behind : (d : Contents) (k ahead : ℕ) (behind new : Unread) (r : NextRef) → IsPlaced d k ahead behind → slice_get (ops_of d) k ≡ None → Follows behind new r → IsPlaced d k ahead new
placed_behind d k ahead behind new r p e f = record {
  size = p.size;
  loose = same_loose behind new r f ∙ p.loose;
  stands = λ h. absurd (omega (arith, past (ops_of d) k e, h));
  within = p.within;
  few = omega (arith, p.few, no_longer behind new r f);
}

pub follows_behind : (d : Contents) (k : ℕ) (behind new : Unread) (r : NextRef) → slice_get (ops_of d) k ≡ None → Follows behind new r
    → Follows (unread_at d k behind) (unread_at d k new) r
follows_behind d k behind new r e f = rw (rest_behind d k behind e, rest_behind d k new e) f

-- before the first item
pub first_placed : (d : Contents) (n : ℕ) (tail : List ℕ) → IsDocument d → length (document_bytes d) ≤ size_limit → tail ≡ d.tail → n ≡ length (document_bytes d) - length tail
    → IsPlaced d 0 n (record { loose = d.loose; rest = tail; left = 0 })
first_placed d n tail is small e m =
    let f = is.formed in
    let bytes = length-append (bytes_of (ops_of d)) d.tail in
    let behind : length tail ≡ length d.tail = ap length e in
    record {
      size = omega (arith, m, bytes, behind);
      loose = refl;
      stands = λ h. (e, document_fits d f (small_document (document_bytes d) d (omega (arith, small)) refl f.reach));
      within = small;
      few = omega (arith, m, bytes, behind, small);
    }
