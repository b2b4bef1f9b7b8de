-- A text that was put into memory is the one that was wanted.
use Rattle.std.proofs.Common.{◌≡◌, ◌<◌, ℕ, List, length, length-take, sym, ap, inl, inr, arith}
use Rattle.std.specs.Prelude.{◌≢◌, ◌⊎◌}
use Rattle.pickle_doc.specs.Document.{size_limit}
use Rattle.library_answers.specs.declared.fill.Written.{Written}
use Rattle.library_answers.specs.Answer.{Puts, Fills}

stays : {X : Type 0} (x y : X) (answer : ℕ) → (answer ≡ 0) ⊎ (answer ≡ 3) → (answer ≡ 3 → y ≡ x) → answer ≢ 0 → y ≡ x
stays x y answer (inl zero) short other = absurd (other zero)
stays x y answer (inr three) short other = short three

pub filled : (IsWanted : List ℕ → ℕ → Type 0) (bytes old new text part : List ℕ) (status : ℕ) (written : Written) (answer : ℕ) → IsWanted text status
    → part ≡ text → (size_limit < length bytes → ⊥) → Puts part status old new written answer → Fills IsWanted bytes old new written answer
filled IsWanted bytes old new text part status written answer wanted same small p =
    let holds : IsWanted part status = rw same wanted in record {
      whole = λ done. rw (p.size, (p.whole done).0, p.status_is) holds;
      fits = λ done. omega (arith, p.size, ap length (p.whole done).0, length-take (length part) new);
      behind = λ done. rw p.size (p.whole done).1;
      short = λ none. (rw p.size (p.short none).0, (part, rw p.status_is holds, sym p.size));
      untouched = stays old new answer p.either (λ three. (p.short three).1);
      large = (λ two. absurd (omega (arith, two, p.either)), λ more. absurd (small more));
      bounded = omega (arith, p.either);
    }
