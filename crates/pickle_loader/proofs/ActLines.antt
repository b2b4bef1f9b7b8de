-- Each act that is listed of an unpickler has its line in the text.
use Rattle.std.proofs.Common.{◌≡◌, ◌≢◌, ◌⊎◌, ℕ, zero, suc, ◌^◌, ◌<◌, true, List, [], ◌∷◌, ◌++◌, length, Option, Some, None, refl, subst, ◌∙◌, inl, inr}
use Rattle.pickle_lenient.specs.declared.taken.Frames.{Frames}
use Rattle.pickle_lenient.specs.declared.taken.Frames.TheVariants as frames
use Rattle.pickle_calls.specs.Manner.{Manner}
use Rattle.pickle_text.specs.Output.{Output}
use Rattle.pickle_calls.specs.declared.naming.Detail.TheVariants as detail
use Rattle.pickle_further.specs.declared.way.Pickles.{Pickles}
use Rattle.pickle_further.specs.declared.way.Pickles.TheVariants as pickles
use Rattle.pickle_further.specs.declared.way.Way.{Way}
use Rattle.pickle_further.specs.Going.{Standing, going}
use Rattle.pickle_further.specs.Parts.{standing_first}
use Rattle.pickle_further.specs.CallsText.{IsCallsText}
use Rattle.pickle_loader.specs.Environment.{Value, Act}
use Rattle.pickle_loader.specs.Dispatch.{acts_of}
use Rattle.pickle_loader.specs.Listed.{listed_of}
use Rattle.pickle_loader.specs.Onward.{stands, protocol, acts_gone, acts_on, acts_before}
use Rattle.pickle_loader.specs.Text.{way_of, is_in_text}
use Rattle.pickle_loader.specs.CLoad.{seen_loaded, c_load_way}
use Rattle.pickle_loader.specs.ByFrames.{load_framed, tells_frames, IsAct, HasLine, EachActHasItsLine, EachActInCHasItsLine}
use Rattle.pickle_loader.proofs.ByFrames.{nothing_beyond_by_frames}
use Rattle.pickle_loader.proofs.CLoads.{nothing_beyond_in_c}
use Rattle.pickle_loader.proofs.Details.{detail_tells_alike}
use Rattle.pickle_loader.proofs.OneMemo.{each_reach_has_its_line}

-- ---- one of some acts

in_front : (a : Act) (xs ys : List Act) → IsAct a xs → IsAct a (xs ++ ys)
in_front a [] ys h = absurd h
in_front a (x ∷ xs) ys (inl e) = inl e
in_front a (x ∷ xs) ys (inr h) = inr (in_front a xs ys h)

in_either : (a : Act) (xs ys : List Act) → IsAct a (xs ++ ys) → IsAct a xs ⊎ IsAct a ys
in_either a [] ys h = inr h
in_either a (x ∷ xs) ys (inl e) = inl (inl e)
in_either a (x ∷ xs) ys (inr h) = elim (in_either a xs ys h) [
  | inl front ↦ inl (inr front)
  | inr back ↦ inr back
]

some_act : (a : Act) (xs : List Act) → IsAct a xs → xs ≢ []
some_act a xs h none = subst (λ (l : List Act). IsAct a l) none h

-- ---- the item of an act

record ActOf (V : ℕ → Value) (w : Way) (p : Standing) (a : Act) : Type 0 where
  place : ℕ
  at : Standing
  stood : stands w p place ≡ Some at
  is_act : IsAct a (acts_gone V (protocol w p place) at (going w at))

act_on : (V : ℕ → Value) (w : Way) (p : Standing) (n : ℕ) (a : Act) (x : Option Standing) → stands w p n ≡ x → IsAct a (acts_on V w (protocol w p n) x) → ActOf V w p a
act_on V w p n a None e h = absurd h
act_on V w p n a (Some q) e h = record { place = n; at = q; stood = e; is_act = h }

act_of : (V : ℕ → Value) (w : Way) (p : Standing) (n : ℕ) (a : Act) → IsAct a (acts_before V w p n) → ActOf V w p a
unfolding acts_before
act_of V w p zero a h = absurd h
act_of V w p (suc n) a h = elim (in_either a (acts_before V w p n) (acts_on V w (protocol w p n) (stands w p n)) h) [
  | inl front ↦ act_of V w p n a front
  | inr back ↦ act_on V w p n a (stands w p n) refl back
]

-- ---- the law

-- these readings are in the text
frames_in_text : (p : Pickles) (f : Frames) → tells_frames p f ≡ true → is_in_text p f ≡ true
frames_in_text pickles.First frames.Ignored e = refl
frames_in_text pickles.First frames.Buffered e = refl
frames_in_text pickles.First frames.Held e = absurd cc
frames_in_text pickles.All frames.Ignored e = absurd cc
frames_in_text pickles.All frames.Buffered e = refl
frames_in_text pickles.All frames.Held e = absurd cc
frames_in_text pickles.OneMemo f e = refl

-- of an act among those of which a reading's lines tell a beginning
act_line : (how : Manner) (V : ℕ → Value) (p : Pickles) (f : Frames) (bytes : List ℕ) (o : Output) (n : ℕ) (done rest : List Act) (a : Act) → IsCallsText how p bytes o → length bytes < 2 ^ 64 → is_in_text p f ≡ true
    → done ++ rest ≡ acts_before V (way_of p f) (standing_first detail.Cut p bytes) n → IsAct a done → HasLine how V p f bytes o a
act_line how V p f bytes o n done rest a text small in_text begins is =
    let from : Standing = standing_first how.detail p bytes in
    let here : IsAct a (acts_before V (way_of p f) from n) =
    subst (λ (l : List Act). IsAct a l) (begins ∙ detail_tells_alike detail.Cut how.detail V (way_of p f) bytes n) (in_front a done rest is) in
    let x = act_of V (way_of p f) from n a here in
    let reach = each_reach_has_its_line how p f bytes o text small in_text x.place x.at x.stood in
    let line = reach.1 (reach.0 V (protocol (way_of p f) from x.place) (some_act a _ x.is_act)) in
    (x.place, x.at, x.stood, x.is_act, line.1)

pub each_act_has_its_line : EachActHasItsLine
each_act_has_its_line how w p f bytes o text small tells =
    let all = nothing_beyond_by_frames w p f bytes tells in (
      all.0,
      all.1,
      λ n a is. act_line how all.0 p f bytes o n (listed_of (acts_of (load_framed w p bytes n).now)) (all.1.acts n).0 a text small (frames_in_text p f tells) (all.1.acts n).1 is,
    )

pub each_act_in_c_has_its_line : EachActInCHasItsLine
each_act_in_c_has_its_line how w p f bytes o text small in_text =
    let all = nothing_beyond_in_c w (way_of p f) bytes in (
      all.0,
      all.1,
      λ n a is. act_line how all.0 p f bytes o n (listed_of (acts_of (seen_loaded (c_load_way w (way_of p f) bytes n).now))) (all.1.acts n).0 a text small in_text (all.1.acts n).1 is,
    )
