-- The records of the latest steps.
use Rattle.std.proofs.Common.{◌≡◌, ℕ, zero, suc, ◌+◌, ◌-◌, ◌<◌, ◌≤◌, true, List, [], ◌∷◌, length, slice_get, Some, None, refl, sym, subst, inl, inr, arith}
use Rattle.std.specs.Prelude.{nat_le}
use Rattle.std.proofs.lemmas.Bool.{lt-ltb, le-ltb, le-leb, cases_lt}
use Rattle.pickle_ops.specs.Spelling.{Operation}
use Rattle.pickle_doc.specs.Document.{Contents}
use Rattle.pickle_doc.specs.Place.{ops_of}
use Rattle.pickle_machine.specs.State.{State, start}
use Rattle.pickle_machine.specs.Run.{run}
use Rattle.pickle_machine.specs.Held.{Held}
use Rattle.pickle_machine.specs.Back.{Record}
use Rattle.pickle_session.specs.Steps.{record_on, record_at, kept_record}
use Rattle.pickle_session.specs.declared.way.Walker.{Walker}
use Rattle.pickle_session.specs.Inside.Trail.{AreRecords, Stands}

-- each record is that of its place
pub records_get : (from : State) (ops : List Operation) (m : Held) (k i : ℕ) (rs : List Record) → i < length rs → AreRecords from ops m k rs
    → slice_get rs i ≡ record_on (slice_get ops (k + i)) (run from ops (k + i))
records_get from ops m k i [] h a = absurd (omega (arith, h))
records_get from ops m k zero (r ∷ rs) h a =
    let same : k ≡ k + 0 = omega arith in
    subst (λ (n : ℕ). Some r ≡ record_on (slice_get ops n) (run from ops n)) same (sym a.0.kept)
records_get from ops m k (suc i) (r ∷ rs) h a =
    let same : (k + 1) + i ≡ k + suc i = omega arith in
    subst (λ (n : ℕ). slice_get rs i ≡ record_on (slice_get ops n) (run from ops n)) same (records_get from ops m (k + 1) i rs (omega (arith, h)) a.1)

-- ---- the records that a walker keeps

past_last : (rs : List Record) (i : ℕ) → length rs ≤ i → slice_get rs i ≡ None
past_last [] zero h = refl
past_last [] (suc i) h = refl
past_last (r ∷ rs) zero h = absurd (omega (arith, h))
past_last (r ∷ rs) (suc i) h = past_last rs i (omega (arith, h))

-- from the first of them on
pub is_kept : (d : Contents) (w : Walker) (rs : List Record) (k first : ℕ) → Stands d w rs → first ≡ w.place - length rs → first ≤ k
    → slice_get rs (k - first) ≡ kept_record d (length rs) w.place k
is_kept d w rs k first s e h =
    let from : nat_le (w.place - length rs) k ≡ true = le-leb (w.place - length rs) k (omega (arith, e, h)) in
    elim (cases_lt k w.place) [
      | inl before ↦
          let same : (w.place - length rs) + (k - first) ≡ k = omega (arith, e, h) in
          let there : slice_get rs (k - first) ≡ record_at d k =
          subst (λ (n : ℕ). slice_get rs (k - first) ≡ record_at d n) same
          (records_get (start d.many) (ops_of d) w.machine (w.place - length rs) (k - first) rs (omega (arith, e, h, before, s.trail.within)) s.trail.records) in
          rw (from, lt-ltb k w.place before) there
      | inr behind ↦ rw (from, le-ltb k w.place behind) (past_last rs (k - first) (omega (arith, e, behind, s.trail.within)))
    ]
