-- The words of kinds are those of the texts for people.
use Rattle.std.proofs.Common.{refl, inl, inr}
use Rattle.pickle_io.specs.Text.{◌⧺◌}
use Rattle.pickle_ops.specs.declared.kind.Kind.TheVariants as kind
use Rattle.pickle_text.specs.Words.{kind_text}
use Rattle.objects_json.specs.ObjectFields.{kind_word}
use Rattle.objects_json.specs.Agreeing.{WordsAgree}

pub words_agree : WordsAgree
unfolding kind_text kind_word ◌⧺◌
words_agree kind.None = inl refl
words_agree kind.True = inl refl
words_agree kind.False = inl refl
words_agree kind.Tuple = inl refl
words_agree kind.List = inl refl
words_agree kind.Set = inl refl
words_agree kind.FrozenSet = inl refl
words_agree kind.Dict = inl refl
words_agree kind.StackGlobal = inl refl
words_agree kind.Call = inl refl
words_agree kind.New = inl refl
words_agree kind.NewEx = inl refl
words_agree kind.Obj = inl refl
words_agree kind.Persistent = inl refl
words_agree kind.ReadOnly = inl refl
words_agree _ = inr (_, refl)
