-- Names that are what they say.
use Rattle.std.proofs.Common.{◌≡◌, ℕ, Bool, true, false, List, Option, Some, None, refl}
use Rattle.std.specs.Prelude.{◌&&◌, not, nat_le, if◌then◌else◌}
use Rattle.pickle_calls.specs.declared.naming.Naming.{Naming}
use Rattle.pickle_calls.specs.Naming.{Pair, NewPair, is_text, said_names, pair_renamed, names_by, names_text, is_as_said}

now_by : (old : Bool) (a b : List ℕ) → not old ≡ true → (if old then a else b) ≡ b
now_by true a b h = absurd cc
now_by false a b h = refl

known_by : (old known from text : Bool) (a b c : List ℕ) → (not old && known) ≡ true
    → (if known && text then (if old then a else (if from && text then b else c)) else c) ≡ (if from && text then b else c)
known_by true known from text a b c h = absurd cc
known_by false true from true a b c h = refl
known_by false true true false a b c h = refl
known_by false true false false a b c h = refl
known_by false false from text a b c h = absurd cc

said_by : (m : Naming) (object : Option ℕ) (i : Option NewPair) (p : Pair) → is_as_said m object ≡ true → names_by m object i p ≡ said_names object p
said_by m object None p h = refl
said_by m None (Some i) p h = now_by m.old _ _ h
said_by m (Some id) (Some i) p h = known_by m.old (nat_le m.since id) (is_text p.from) (is_text p.name) _ _ _ h

pub as_said : (m : Naming) (object : Option ℕ) (p : Pair) → is_as_said m object ≡ true → names_text m object p ≡ said_names object p
unfolding names_text
as_said m object p h = said_by m object (pair_renamed p) p h
