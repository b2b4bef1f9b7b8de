-- One Unpickler that loads again, and so keeps its memo: with status 0 the lines of `calls --memo kept` tell all that it does.
-- Source: Lib/pickle.py, `load`; Modules/_pickle.c, `Unpickler.load` (CPython 3.11): each load begins with an empty stack and protocol 0, and the
-- memo stays.
use Rattle.std.specs.Prelude.{◌≡◌, ℕ, List}
use Rattle.pickle_lenient.specs.declared.taken.Frames.{Frames}
use Rattle.pickle_calls.specs.Manner.{Manner}
use Rattle.pickle_text.specs.Output.{Output}
use Rattle.pickle_further.specs.declared.way.Pickles.TheVariants as pickles
use Rattle.pickle_further.specs.Parts.{ignoring, standing_first}
use Rattle.pickle_further.specs.CallsText.{IsCallsText}
use Rattle.pickle_loader.specs.Environment.{Value, World}
use Rattle.pickle_loader.specs.Onward.{load_way, AreListedFrom}
use Rattle.pickle_loader.specs.CLoad.{seen_loaded, c_load_way}
use Rattle.pickle_loader.specs.Text.{way_of}

-- in every environment, be frames ignored, or in a buffer that STOP ends or leaves: however long it runs over the pickles, one after another,
-- all that is listed of what it does is a beginning of what the lines list, of the values that it holds
abbrev pub NothingElseWithOneMemo : Type 0
NothingElseWithOneMemo = (how : Manner) (w : World) (f : Frames) (bytes : List ℕ) (o : Output) → IsCallsText how pickles.OneMemo bytes o → o.status ≡ 0
    → (V : ℕ → Value)
    × AreListedFrom w V (ignoring pickles.OneMemo) (standing_first how.detail pickles.OneMemo bytes) (λ n. (load_way w (way_of pickles.OneMemo f) bytes n).now)

-- and so of the one in C
abbrev pub NothingElseWithOneMemoInC : Type 0
NothingElseWithOneMemoInC = (how : Manner) (w : World) (f : Frames) (bytes : List ℕ) (o : Output) → IsCallsText how pickles.OneMemo bytes o → o.status ≡ 0
    → (V : ℕ → Value)
    × AreListedFrom w V (ignoring pickles.OneMemo) (standing_first how.detail pickles.OneMemo bytes)
    (λ n. seen_loaded (c_load_way w (way_of pickles.OneMemo f) bytes n).now)
