-- Keys and values in turn.
use Rattle.std.proofs.Common.{◌≡◌, ℕ, List, [], ◌∷◌, ◌++◌, None, Some, refl, sym, ap, ◌∙◌, append_assoc}
use Rattle.pickle_io.specs.Text.{◌⧺◌}
use Rattle.std.specs.Prelude.{Result, Ok, Err, IsErrAnd}
use Rattle.pickle_io.specs.Device.{Told, Wrote, Broke, Writes, WroteAllBut}
use Rattle.pickle_io.proofs.Devices.{Wrote-trans, Broke-after, Broke-more, WroteAllBut-all}
use Rattle.source_texts.specs.Held.{then_pair, pairs_text}
use Rattle.source_texts.specs.Inside.Pairs.{FirstPair, first_pair}

split : (xs : List ℕ) (p : FirstPair) → Some p ≡ first_pair xs → xs ≡ p.key ∷ p.value ∷ p.rest
split [] p e = absurd cc
split (k ∷ []) p e = absurd cc
split (k ∷ v ∷ rest) p e = let same : p ≡ record { key = k; value = v; rest = rest } = cc in ap (λ (q : FirstPair). q.key ∷ q.value ∷ q.rest) (sym same)

none_left : (say : ℕ → List ℕ) (xs : List ℕ) → None ≡ first_pair xs → pairs_text say xs ≡ []
none_left say [] e = refl
none_left say (k ∷ []) e = refl
none_left say (k ∷ v ∷ rest) e = absurd cc

-- the text of what is left, and of what is left after one pair more
next : (say : ℕ → List ℕ) (xs : List ℕ) (p : FirstPair) → Some p ≡ first_pair xs → pairs_text say xs ≡ then_pair say p.key p.value ++ pairs_text say p.rest
unfolding ◌⧺◌
next say xs p e = ap (pairs_text say) (split xs p e)

-- one pair more was written
pub pair_written : (say : ℕ → List ℕ) (a b c : Told) (text xs : List ℕ) (p : FirstPair) → WroteAllBut a b text (pairs_text say xs) → Some p ≡ first_pair xs → Wrote b c (then_pair say p.key p.value)
    → WroteAllBut a c text (pairs_text say p.rest)
pair_written say a b c text xs p w e q = record {
  front = w.front ++ then_pair say p.key p.value;
  parts = w.parts ∙ ap (λ (t : List ℕ). w.front ++ t) (next say xs p e) ∙ sym (append_assoc w.front (then_pair say p.key p.value) (pairs_text say p.rest));
  wrote = Wrote-trans a b c w.front (then_pair say p.key p.value) w.wrote q;
}

-- a beginning of it was
pub pair_broken : (say : ℕ → List ℕ) (a b c : Told) (text xs : List ℕ) (p : FirstPair) → WroteAllBut a b text (pairs_text say xs) → Some p ≡ first_pair xs → Broke b c (then_pair say p.key p.value) → Broke a c text
pair_broken say a b c text xs p w e k =
    let longer : Broke b c (pairs_text say xs) = rw (next say xs p e) (Broke-more b c (then_pair say p.key p.value) (pairs_text say p.rest) k) in
    rw w.parts (Broke-after a b c w.front (pairs_text say xs) w.wrote longer)

-- no pair is left
pub pairs_written : (say : ℕ → List ℕ) (a b : Told) (text xs : List ℕ) → WroteAllBut a b text (pairs_text say xs) → None ≡ first_pair xs → Wrote a b text
pairs_written say a b text xs w e = WroteAllBut-all a b text (pairs_text say xs) w (none_left say xs e)

pub ruleset pair_rules = (pair_written, pair_broken, pairs_written)

-- after an error that is passed on
pub stopped : {A E : Type 0} (a b : Told) (r : Result A E) (text : List ℕ) (e : E) → IsErrAnd r (λ x. x ≡ e) → Broke a b text → Writes a b r text
stopped a b (Ok x) text e h k = absurd h
stopped a b (Err x) text e h k = k
