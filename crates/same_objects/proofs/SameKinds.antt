-- Kinds that are told apart by nothing are the same.
use Rattle.std.proofs.Common.{◌≡◌, ℕ, ℤ, pos, negsuc, List, refl, sym, ap, ◌∙◌, cond}
use Rattle.std.specs.Prelude.{◌==◌, if◌then◌else◌}
use Rattle.pickle_ops.specs.declared.kind.Kind.{Kind}
use Rattle.pickle_ops.specs.declared.kind.Kind.TheVariants as kind
use Rattle.same_objects.specs.Telling.{tag_of, number_of, first_of, second_of}

abbrev natural : ℤ → ℕ
natural (pos n) = n
natural (negsuc n) = 0

-- the kind of a tag and of what was given
abbrev kind_from : ℕ → ℤ → List ℕ → List ℕ → Kind
kind_from tag n first second =
    if tag == 0 then kind.None else
    if tag == 1 then kind.True else
    if tag == 2 then kind.False else
    if tag == 3 then kind.Int n else
    if tag == 4 then kind.Long first else
    if tag == 5 then kind.IntLine first else
    if tag == 6 then kind.LongLine first else
    if tag == 7 then kind.FloatLine first else
    if tag == 8 then kind.Float first else
    if tag == 9 then kind.LegacyString first else
    if tag == 10 then kind.LegacyLine first else
    if tag == 11 then kind.Text first else
    if tag == 12 then kind.TextLine first else
    if tag == 13 then kind.Bytes first else
    if tag == 14 then kind.ByteArray first else
    if tag == 15 then kind.Tuple else
    if tag == 16 then kind.List else
    if tag == 17 then kind.Set else
    if tag == 18 then kind.FrozenSet else
    if tag == 19 then kind.Dict else
    if tag == 20 then kind.Global (record { first = first; second = second }) else
    if tag == 21 then kind.StackGlobal else
    if tag == 22 then kind.Call else
    if tag == 23 then kind.New else
    if tag == 24 then kind.NewEx else
    if tag == 25 then kind.Inst (record { first = first; second = second }) else
    if tag == 26 then kind.Obj else
    if tag == 27 then kind.PersistentLine first else
    if tag == 28 then kind.Persistent else
    if tag == 29 then kind.Ext n else
    if tag == 30 then kind.Buffer (natural n) else
    kind.ReadOnly

again : (k : Kind) → kind_from (tag_of k) (number_of k) (first_of k) (second_of k) ≡ k
again kind.None = refl
again kind.True = refl
again kind.False = refl
again (kind.Int x) = refl
again (kind.Long x) = refl
again (kind.IntLine x) = refl
again (kind.LongLine x) = refl
again (kind.FloatLine x) = refl
again (kind.Float x) = refl
again (kind.LegacyString x) = refl
again (kind.LegacyLine x) = refl
again (kind.Text x) = refl
again (kind.TextLine x) = refl
again (kind.Bytes x) = refl
again (kind.ByteArray x) = refl
again kind.Tuple = refl
again kind.List = refl
again kind.Set = refl
again kind.FrozenSet = refl
again kind.Dict = refl
again (kind.Global x) = refl
again kind.StackGlobal = refl
again kind.Call = refl
again kind.New = refl
again kind.NewEx = refl
again (kind.Inst x) = refl
again kind.Obj = refl
again (kind.PersistentLine x) = refl
again kind.Persistent = refl
again (kind.Ext x) = refl
again (kind.Buffer x) = refl
again kind.ReadOnly = refl

pub same_kind : (k l : Kind) → tag_of k ≡ tag_of l → number_of k ≡ number_of l → first_of k ≡ first_of l → second_of k ≡ second_of l → k ≡ l
same_kind k l t n a b =
    sym (again k)
    ∙ ap (λ (x : ℕ). kind_from x (number_of k) (first_of k) (second_of k)) t
    ∙ ap (λ (x : ℤ). kind_from (tag_of l) x (first_of k) (second_of k)) n
    ∙ ap (λ (x : List ℕ). kind_from (tag_of l) (number_of l) x (second_of k)) a
    ∙ ap (λ (x : List ℕ). kind_from (tag_of l) (number_of l) (first_of l) x) b
    ∙ again l
