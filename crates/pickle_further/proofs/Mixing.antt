-- From where frames may be mixed, and the text of what loaders do that lose bytes of frames.
use Rattle.std.proofs.Common.{◌≡◌, ℕ, List, ◌++◌, Option, Some, None, refl, sym, ap, subst, ◌∙◌}
use Rattle.pickle_io.specs.Text.{◌⧺◌}
use Rattle.pickle_machine.specs.State.{State}
use Rattle.pickle_io.specs.Device.{Told, Wrote, Broke}
use Rattle.pickle_io.proofs.Devices.{Wrote-trans, Broke-after}
use Rattle.pickle_calls.specs.Manner.{Manner}
use Rattle.pickle_text.specs.declared.stop.TextStop.{TextStop}
use Rattle.pickle_text.specs.declared.stop.TextStop.TheVariants as stop
use Rattle.pickle_further.specs.declared.way.Pickles.{Pickles}
use Rattle.pickle_further.specs.declared.way.Way.{Way}
use Rattle.pickle_further.specs.declared.going.Gone.{Gone}
use Rattle.pickle_further.specs.declared.seek.Visited.{Visited}
use Rattle.pickle_further.specs.Going.{Standing}
use Rattle.pickle_further.specs.Parts.{Wording, buffering, lost_by_in, mixed_there, mixed_from, first_mixed, mixed_text_in, lost_text_in}
use Rattle.pickle_further.specs.Inside.{standing_of, Finds}
use Rattle.pickle_further.specs.CallsText.{CutsText}
use Rattle.pickle_further.proofs.Pieces.{cut_before, cut_after, memory_first}

-- ---- from where frames may be mixed

mixed_by : (w : Way) (p : Option Standing) (v : Visited) (t : State) → Finds w p (Some v) t → mixed_there v.gone v.rest.now v.at.offset ≡ mixed_from w p
mixed_by w (Some p) v t f = ap (λ (g : Gone). mixed_there g v.rest.now v.at.offset) f.2.is ∙ ap (λ (q : Standing). mixed_from w (Some q)) (sym f.1)
mixed_by w None v t f = absurd f

none_by : (w : Way) (p : Option Standing) (t : State) → Finds w p None t → None ≡ mixed_from w p
none_by w (Some p) t f = absurd f
none_by w None t f = refl

pub mixed_found : (w : Way) (p : Option Standing) (v : Visited) (x : Option Visited) (t : State) → x ≡ Some v → Finds w p x t → mixed_there v.gone v.rest.now v.at.offset ≡ mixed_from w p
mixed_found w p v x t is f = mixed_by w p v t (subst (λ (y : Option Visited). Finds w p y t) is f)

pub none_mixed : (w : Way) (p : Option Standing) (x : Option Visited) (t : State) → x ≡ None → Finds w p x t → None ≡ mixed_from w p
none_mixed w p x t is f = none_by w p t (subst (λ (y : Option Visited). Finds w p y t) is f)

-- ---- the text

-- the part, cut short
pub lossy_cut : (tell : Wording) (how : Manner) (p : Pickles) (bytes : List ℕ) (a b : Told) (x : TextStop) → CutsText a b (lost_by_in tell how (buffering p) bytes) x → CutsText a b (lost_text_in tell how p bytes) x
unfolding ◌⧺◌
lossy_cut tell how p bytes a b x w = cut_before a b (lost_by_in tell how (buffering p) bytes) (mixed_text_in tell how.holes (first_mixed how.detail p bytes)) x w

-- all of it, and memory ran out
pub lossy_first : (tell : Wording) (how : Manner) (p : Pickles) (bytes : List ℕ) (a b : Told) (x : TextStop) → x ≡ stop.Memory → Wrote a b (lost_by_in tell how (buffering p) bytes) → CutsText a b (lost_text_in tell how p bytes) x
unfolding ◌⧺◌
lossy_first tell how p bytes a b x is w =
    let more : List ℕ = mixed_text_in tell how.holes (first_mixed how.detail p bytes) in
    cut_after a b b (lost_by_in tell how (buffering p) bytes) more x w (memory_first b more x is)

-- and a beginning of the line
pub lossy_broken : (tell : Wording) (how : Manner) (p : Pickles) (bytes : List ℕ) (mixed : Option ℕ) (a b c : Told) → mixed ≡ first_mixed how.detail p bytes → Wrote a b (lost_by_in tell how (buffering p) bytes) → Broke b c (mixed_text_in tell how.holes mixed)
    → Broke a c (lost_text_in tell how p bytes)
unfolding ◌⧺◌
lossy_broken tell how p bytes mixed a b c is w q =
    let line : Broke b c (mixed_text_in tell how.holes (first_mixed how.detail p bytes)) = rw (← is) q in
    Broke-after a b c (lost_by_in tell how (buffering p) bytes) (mixed_text_in tell how.holes (first_mixed how.detail p bytes)) w line

pub lossy_done : (tell : Wording) (how : Manner) (p : Pickles) (bytes : List ℕ) (mixed : Option ℕ) (a b c : Told) → mixed ≡ first_mixed how.detail p bytes → Wrote a b (lost_by_in tell how (buffering p) bytes) → Wrote b c (mixed_text_in tell how.holes mixed)
    → Wrote a c (lost_text_in tell how p bytes)
unfolding ◌⧺◌
lossy_done tell how p bytes mixed a b c is w q =
    let line : Wrote b c (mixed_text_in tell how.holes (first_mixed how.detail p bytes)) = rw (← is) q in
    Wrote-trans a b c (lost_by_in tell how (buffering p) bytes) (mixed_text_in tell how.holes (first_mixed how.detail p bytes)) w line
