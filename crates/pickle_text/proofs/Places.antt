-- The state that operations reach, and how far they go: place by place.
use Rattle.std.proofs.Common.{◌≡◌, ℕ, zero, suc, ◌+◌, ◌-◌, ◌<◌, ◌≤◌, List, [], ◌∷◌, length, take, Option, Some, None, refl, ap, subst, ◌∙◌, length-append, inl, inr, arith}
use Rattle.std.specs.Prelude.{slice_get}
use Rattle.std.specs.Result.{result_ok}
use Rattle.std.proofs.lemmas.Bool.{cases_lt}
use Rattle.pickle_ops.specs.Spelling.{Operation, spelling, size_of}
use Rattle.pickle_doc.specs.declared.item.Item.{Item}
use Rattle.pickle_doc.specs.DocUnit.{sizes, operations, bytes_of}
use Rattle.pickle_doc.specs.Document.{Contents, items_of, document_bytes}
use Rattle.pickle_doc.specs.Place.{ops_of, item_at, offset_of}
use Rattle.pickle_doc.proofs.Units.{length_bytes}
use Rattle.pickle_machine.specs.State.{State}
use Rattle.pickle_machine.specs.Move.{move}
use Rattle.pickle_machine.specs.Run.{run, after}
use Rattle.pickle_text.specs.Reached.{reached}
use Rattle.std.proofs.lemmas.Option.{slice_get_cases}

-- ---- sizes

size_next : (xs : List Item) (k : ℕ) (o : Operation) → slice_get (operations xs) k ≡ Some o → sizes (take (suc k) xs) ≡ sizes (take k xs) + size_of o
size_next [] k o e = cc
size_next (x ∷ xs) zero o e =
    let same : x.op ≡ o = cc in
    omega (arith, ap (λ (p : Operation). size_of p) same)
size_next (x ∷ xs) (suc k) o e = omega (arith, size_next xs k o e)

-- where the next item begins
pub offset_next : (d : Contents) (k : ℕ) (o : Operation) → item_at d k ≡ Some o → offset_of d (k + 1) ≡ offset_of d k + size_of o
offset_next d k o e = let same : k + 1 ≡ suc k = omega arith in rw same (size_next (items_of d) k o e)

sizes_front : (xs : List Item) (k : ℕ) → sizes (take k xs) ≤ sizes xs
sizes_front xs zero = omega arith
sizes_front [] (suc k) = omega arith
sizes_front (x ∷ xs) (suc k) = omega (arith, sizes_front xs k)

pub offset_small : (d : Contents) (k : ℕ) → offset_of d k ≤ length (bytes_of (ops_of d))
offset_small d k = omega (arith, length_bytes (items_of d), sizes_front (items_of d) k)

pub length-bytes_of : (ops : List Operation) → length ops ≤ length (bytes_of ops)
length-bytes_of [] = omega arith
length-bytes_of (o ∷ ops) = omega (arith, length-append (spelling o) (bytes_of ops), length-bytes_of ops)

-- ---- runs

pub run-suc : (from : State) (ops : List Operation) (n : ℕ) (o : Operation) (s : State) → slice_get ops n ≡ Some o → run from ops n ≡ Some s → run from ops (suc n) ≡ result_ok (move o n s)
unfolding run
run-suc from ops n o s e r = rw (e, r) refl

stuck-suc : (from : State) (ops : List Operation) (n : ℕ) → run from ops n ≡ None → run from ops (suc n) ≡ None
unfolding run
stuck-suc from ops n r = rw r (go (slice_get ops n))
  where
    go : (o : Option Operation) → after o n None ≡ None
    go None = refl
    go (Some o) = refl

stuck : (from : State) (ops : List Operation) (k d : ℕ) → run from ops k ≡ None → run from ops (k + d) ≡ None
stuck from ops k zero r = let e : k + 0 ≡ k = omega arith in rw e r
stuck from ops k (suc d) r = let e : k + suc d ≡ suc (k + d) = omega arith in rw e (stuck-suc from ops (k + d) (stuck from ops k d r))

pub stuck_behind : (from : State) (ops : List Operation) (k n : ℕ) → k ≤ n → run from ops k ≡ None → run from ops n ≡ None
stuck_behind from ops k n h r =
    let d : (d : ℕ) × (k + d ≡ n) = le_gap k n h in
    subst (λ (m : ℕ). run from ops m ≡ None) d.1 (stuck from ops k d.0 r)
  where
    le_gap : (k n : ℕ) → k ≤ n → (d : ℕ) × (k + d ≡ n)
    le_gap k n h = (n - k, omega arith)

-- ---- how far

pub reached_here : (from : State) (ops : List Operation) (n : ℕ) (s : State) → run from ops n ≡ Some s → reached from ops n ≡ n
unfolding reached
reached_here from ops zero s r = refl
reached_here from ops (suc n) s r = rw r refl

reached-stuck : (from : State) (ops : List Operation) (n : ℕ) → run from ops (suc n) ≡ None → reached from ops (suc n) ≡ reached from ops n
unfolding reached
reached-stuck from ops n r = rw r refl

-- where the next item has no move, no further place is reached
pub reached_last : (from : State) (ops : List Operation) (k n : ℕ) (s : State) → run from ops k ≡ Some s → run from ops (suc k) ≡ None → k ≤ n → reached from ops n ≡ k
reached_last from ops k n s r t h = elim (cases_lt k n) [
  | inl more ↦ go from ops k n s r t more
  | inr none ↦ let e : n ≡ k = omega arith in rw e (reached_here from ops k s r)
]
  where
    go : (from : State) (ops : List Operation) (k n : ℕ) (s : State) → run from ops k ≡ Some s → run from ops (suc k) ≡ None → k < n → reached from ops n ≡ k
    go from ops k zero s r t h = absurd (omega arith)
    go from ops k (suc n) s r t h =
        let none : run from ops (suc n) ≡ None = stuck_behind from ops (suc k) (suc n) (omega arith) t in
        reached-stuck from ops n none ∙ (elim (cases_lt k n) [
          | inl more ↦ go from ops k n s r t more
          | inr last ↦ let e : n ≡ k = omega arith in rw e (reached_here from ops k s r)
        ])

-- the greatest place that is reached: its state is, and it is no less than another that is
pub record Reached (from : State) (ops : List Operation) (n k : ℕ) : Type 0 where
  pub state : State
  pub is : run from ops k ≡ Some state
  pub within : k ≤ n
  pub most : (j : ℕ) (s : State) → j ≤ n → run from ops j ≡ Some s → j ≤ k

run-zero : (from : State) (ops : List Operation) → (s : State) × (run from ops 0 ≡ Some s)
unfolding run
run-zero from ops = (_, refl)

reached_more : (from : State) (ops : List Operation) (n : ℕ) (r : Option State) → run from ops (suc n) ≡ r → Reached from ops n (reached from ops n) → Reached from ops (suc n) (reached from ops (suc n))
reached_more from ops n (Some s) e before = rw (reached_here from ops (suc n) s e) (record { state = s; is = e; within = omega arith; most = λ j t h r. h })
reached_more from ops n None e before =
    rw (reached-stuck from ops n e) (record {
      state = before.state;
      is = before.is;
      within = omega (arith, before.within);
      most = λ j t h r. (elim (cases_lt n j) [
        | inl far ↦ let same : j ≡ suc n = omega arith in let none = rw same at r in absurd cc
        | inr near ↦ before.most j t near r
      ]);
    })

reached-zero : (from : State) (ops : List Operation) → reached from ops 0 ≡ 0
unfolding reached
reached-zero from ops = refl

pub is_reached : (from : State) (ops : List Operation) (n : ℕ) → Reached from ops n (reached from ops n)
is_reached from ops zero = let z = run-zero from ops in rw (reached-zero from ops) (record { state = z.0; is = z.1; within = omega arith; most = λ j s h r. h })
is_reached from ops (suc n) = reached_more from ops n (run from ops (suc n)) refl (is_reached from ops n)

-- ---- bounds

pub within : (ops : List Operation) (k : ℕ) (o : Operation) → slice_get ops k ≡ Some o → k < length ops
within ops k o e = elim (slice_get_cases ops k).1 [
  | inl there ↦ there.1
  | inr past ↦ let none = past.1 in absurd cc
]

pub place_within : (ops : List Operation) (k : ℕ) (o : Operation) → slice_get ops k ≡ Some o → k < length (bytes_of ops)
place_within ops k o e = omega (arith, within ops k o e, length-bytes_of ops)

pub ops_within : (d : Contents) → length (bytes_of (ops_of d)) ≤ length (document_bytes d)
ops_within d = omega (arith, length-append (bytes_of (ops_of d)) d.tail)
