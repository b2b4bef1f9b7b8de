-- What the lean machine does to its classes.
use Rattle.std.proofs.Common.{◌≡◌, ℕ, false, List, [], ◌∷◌, ◌++◌, length, Option, Some, None, refl, sym, ap, ◌∙◌}
use Rattle.std.proofs.lemmas.Option.{slice_get-map}
use Rattle.std.proofs.lemmas.List.{length-map, map-append}
use Rattle.std.specs.Prelude.{map, slice_get}
use Rattle.std.specs.Option.{option_map, option_map_or}
use Rattle.pickle_ops.specs.declared.kind.Kind.{Kind}
use Rattle.pickle_ops.specs.declared.class.Demand.{Demand}
use Rattle.pickle_ops.specs.Object.{Object}
use Rattle.pickle_ops.specs.Class.{class_meets}
use Rattle.pickle_ops.specs.Kind.{class_of, meets}
use Rattle.pickle_machine.specs.Seen.{class_at}
use Rattle.pickle_ops.specs.declared.class.Class.{Class}
use Rattle.pickle_machine.specs.Outline.{sample, bared, sample_object}
use Rattle.pickle_machine.proofs.Outlines.{class_of_sample}

-- classes are outlines already
pub map_samples : (cs : List Class) → map bared (map sample_object cs) ≡ map sample_object cs
map_samples [] = refl
map_samples (c ∷ cs) =
    ap (λ (k : Kind). record { kind = k; parts = []; changes = [] } ∷ map bared (map sample_object cs)) (ap sample (class_of_sample c))
    ∙ ap (λ (l : List Object). sample_object c ∷ l) (map_samples cs)

-- one more class is one more object
pub more_samples : (cs : List Class) (c : Class) (parts : List ℕ) → map sample_object (cs ++ c ∷ []) ≡ map bared (map sample_object cs ++ record { kind = sample c; parts = parts; changes = [] } ∷ [])
more_samples cs c parts =
    map-append sample_object cs (c ∷ [])
    ∙ ap (λ (l : List Object). l ++ sample_object c ∷ []) (sym (map_samples cs))
    ∙ ap (λ (k : Kind). map bared (map sample_object cs) ++ record { kind = k; parts = []; changes = [] } ∷ []) (sym (ap sample (class_of_sample c)))
    ∙ sym (map-append bared (map sample_object cs) (record { kind = sample c; parts = parts; changes = [] } ∷ []))

pub length_samples : (cs : List Class) → length (map sample_object cs) ≡ length cs
length_samples cs = length-map cs sample_object

meets_some : (d : Demand) (g : Option Class) → option_map_or (λ (o : Object). meets d o.kind) (option_map sample_object g) false ≡ option_map_or (class_meets d) g false
meets_some d None = refl
meets_some d (Some c) = ap (class_meets d) (class_of_sample c)

-- whether an object meets a demand is read off its class
pub meets_by_class : (d : Demand) (cs : List Class) (id : ℕ) → option_map_or (λ (o : Object). meets d o.kind) (slice_get (map sample_object cs) id) false ≡ option_map_or (class_meets d) (slice_get cs id) false
meets_by_class d cs id =
    ap (λ (g : Option Object). option_map_or (λ (o : Object). meets d o.kind) g false) (slice_get-map sample_object cs id) ∙ meets_some d (slice_get cs id)

class_some : (g : Option Class) → option_map (λ (o : Object). class_of o.kind) (option_map sample_object g) ≡ g
class_some None = refl
class_some (Some c) = ap Some (class_of_sample c)

-- the class of an object is the one that is kept
pub class_by_number : (cs : List Class) (id : ℕ) → class_at (map sample_object cs) id ≡ slice_get cs id
class_by_number cs id = ap (λ (g : Option Object). option_map (λ (o : Object). class_of o.kind) g) (slice_get-map sample_object cs id) ∙ class_some (slice_get cs id)

pub ruleset lean_rules = (map_samples, more_samples, length_samples)
