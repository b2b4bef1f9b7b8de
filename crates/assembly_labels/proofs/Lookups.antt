-- Where no name can stand, no label does.
use Rattle.std.proofs.Common.{◌≡◌, ℕ, ◌-◌, ◌==◌, ◌||◌, Bool, true, false, cond, List, [], ◌∷◌, length, Option, Some, None, refl, sym, ap, ◌∙◌, inl, inr}
use Rattle.std.specs.Prelude.{is_some, slice_index, if◌then◌else◌}
use Rattle.std.specs.List.{find}
use Rattle.std.specs.Option.{option_map_or}
use Rattle.std.specs.Str.{bytes_eq}
use Rattle.std.proofs.lemmas.Bool.{cases_Bool}
use Rattle.std.proofs.lemmas.Slice.Eq.{bytes_eq-Decides}
use Rattle.pickle_ops.specs.declared.opcode.Opcode.{Opcode}
use Rattle.pickle_ops.specs.declared.opcode.Opcode.TheVariants as op
use Rattle.pickle_ops.specs.Table.{name_of, opcode_named}
use Rattle.opcode_assembler.specs.Words.{trimmed, word, after_word, is_over, is_place, unnumbered}
use Rattle.opcode_assembler.specs.Assembly.{unplaced}
use Rattle.assembly_labels.specs.Labels.{named, opcode_in, has_key, key_word, if_label, label_of}
use Rattle.assembly_labels.specs.Quick.{may_have_key, may_have_label}

-- what a text has as its label
abbrev pub label_behind : Option (Opcode × List ℕ) → Option (List ℕ)
label_behind found = option_map_or (λ (p : Opcode × List ℕ). option_map_or if_label (key_word p) None) found None

abbrev pub label_in : List ℕ → Option (List ℕ)
label_in text = label_behind (if is_over (unnumbered text) then None else named (unplaced text))

-- ---- names

some_is : {A : Type 0} (a b : A) → Some a ≡ Some b → a ≡ b
some_is a b e = cc

found_passes : {A : Type 0} (test : A → Bool) (xs : List A) (x : A) → find test xs ≡ Some x → test x ≡ true
found_passes test [] x e = absurd cc
found_passes test (y ∷ ys) x e = elim (cases_Bool (test y)) [
  | inl hit ↦ let same : Some y ≡ Some x = rw hit at e in ap test (sym (some_is y x same)) ∙ hit
  | inr miss ↦ found_passes test ys x (rw miss at e)
]

-- all opcodes, in the order of the table
abbrev all_opcodes : List Opcode
all_opcodes = op.Int ∷ op.BinInt ∷ op.BinInt1 ∷ op.BinInt2 ∷ op.Long ∷ op.Long1 ∷ op.Long4 ∷ op.String ∷ op.BinString ∷ op.ShortBinString ∷ op.BinBytes ∷ op.ShortBinBytes ∷ op.BinBytes8 ∷ op.ByteArray8 ∷ op.NextBuffer ∷ op.ReadOnlyBuffer ∷ op.None ∷ op.NewTrue ∷ op.NewFalse ∷ op.Unicode ∷ op.ShortBinUnicode ∷ op.BinUnicode ∷ op.BinUnicode8 ∷ op.Float ∷ op.BinFloat ∷ op.EmptyList ∷ op.Append ∷ op.Appends ∷ op.List ∷ op.EmptyTuple ∷ op.Tuple ∷ op.Tuple1 ∷ op.Tuple2 ∷ op.Tuple3 ∷ op.EmptyDict ∷ op.Dict ∷ op.SetItem ∷ op.SetItems ∷ op.EmptySet ∷ op.AddItems ∷ op.FrozenSet ∷ op.Pop ∷ op.Dup ∷ op.Mark ∷ op.PopMark ∷ op.Get ∷ op.BinGet ∷ op.LongBinGet ∷ op.Put ∷ op.BinPut ∷ op.LongBinPut ∷ op.Memoize ∷ op.Ext1 ∷ op.Ext2 ∷ op.Ext4 ∷ op.Global ∷ op.StackGlobal ∷ op.Reduce ∷ op.Build ∷ op.Inst ∷ op.Obj ∷ op.NewObj ∷ op.NewObjEx ∷ op.Proto ∷ op.Stop ∷ op.Frame ∷ op.PersId ∷ op.BinPersId ∷ []

name_is : (w : List ℕ) (o : Opcode) → opcode_named w ≡ Some o → name_of o ≡ w
unfolding opcode_named
name_is w o e = (bytes_eq-Decides (name_of o) w).0 (found_passes (λ (x : Opcode). bytes_eq (name_of x) w) all_opcodes o e)

key_name : (o : Opcode) → has_key o ≡ true → may_have_key (name_of o) ≡ true
key_name op.Get k = refl
key_name op.BinGet k = refl
key_name op.LongBinGet k = refl
key_name op.Put k = refl
key_name op.BinPut k = refl
key_name op.LongBinPut k = refl
key_name _ k = absurd cc

or_parts : (a b : Bool) → (a || b) ≡ false → (a ≡ false) × (b ≡ false)
or_parts false false h = (refl, refl)
or_parts true b h = absurd cc
or_parts false true h = absurd cc

-- ---- a line of which no word ends so

no_key : (text : List ℕ) → may_have_key (word text) ≡ false → label_behind (named text) ≡ None
no_key text h = go (opcode_named (word text)) refl
  where
    go : (x : Option Opcode) → opcode_named (word text) ≡ x → label_behind (named text) ≡ None
    go None e = rw e refl
    go (Some o) e = elim (cases_Bool (has_key o)) [
      | inl has ↦ let no : true ≡ false = sym (key_name o has) ∙ ap may_have_key (name_is (word text) o e) ∙ h in absurd cc
      | inr lacks ↦ rw e (rw lacks refl)
    ]

pub quick_none : (line : List ℕ) → may_have_label line ≡ false → label_of line ≡ None
unfolding opcode_in
quick_none line h = elim (cases_Bool (is_over (unnumbered (trimmed line)))) [
  | inl over ↦ rw over refl
  | inr more ↦ rw more (elim (cases_Bool (is_place (word (trimmed line)))) [
    | inl place ↦
        let both = or_parts (may_have_key (word (after_word (trimmed line)))) (may_have_key (word (after_word (after_word (trimmed line))))) (rw place at h) in
        elim (cases_Bool (is_some (opcode_named (word (after_word (trimmed line)))))) [
          | inl code ↦ rw place (rw code (no_key (after_word (trimmed line)) both.0))
          | inr none ↦ rw place (rw none (no_key (after_word (after_word (trimmed line))) both.1))
        ]
    | inr none ↦
        let both = or_parts (may_have_key (word (trimmed line))) (may_have_key (word (after_word (trimmed line)))) (rw none at h) in
        rw none (no_key (trimmed line) both.0)
  ])
]
