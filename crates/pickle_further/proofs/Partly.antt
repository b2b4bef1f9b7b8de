-- What loaders may do behind the end of the lines, as texts.
use Rattle.std.proofs.Common.{◌≡◌, ℕ, List, [], ◌++◌, length, Option, Some, None, refl, sym, ap, subst}
use Rattle.std.specs.Prelude.{Result}
use Rattle.std.specs.Option.{option_map}
use Rattle.pickle_io.specs.Text.{◌⧺◌}
use Rattle.pickle_io.specs.Device.{Told, Wrote, Broke}
use Rattle.pickle_io.proofs.Devices.{Wrote-none, Wrote-trans, Broke-after, Broke-more}
use Rattle.pickle_machine.specs.State.{State}
use Rattle.pickle_io.specs.declared.hole.Hole.{Hole}
use Rattle.pickle_calls.specs.Manner.{closing_in}
use Rattle.pickle_text.specs.declared.stop.TextStop.{TextStop}
use Rattle.pickle_further.specs.declared.way.Way.{Way}
use Rattle.pickle_further.specs.declared.way.Spot.{Spot}
use Rattle.pickle_further.specs.declared.seek.Sought.TheVariants as sought
use Rattle.pickle_further.specs.declared.seek.Visited.{Visited}
use Rattle.pickle_further.specs.declared.engine.TaleEnd.{TaleEnd}
use Rattle.pickle_further.specs.Going.{Standing, going, Tale, search_from}
use Rattle.pickle_further.specs.Parts.{Wording, tale_text_in, part_text_in, text_from_in, found_text_in}
use Rattle.pickle_further.specs.CallsText.{CutsText, PutsText}
use Rattle.pickle_further.specs.Inside.{standing_of, Goes, tale_here, WroteTale, Finds}
use Rattle.pickle_further.proofs.Pieces.{pieces, cut_before}
use Rattle.pickle_further.proofs.Tales.{next_tale}

pub tale_cut : (tell : Wording) (holes : List Hole) (t : Tale) (a b : Told) (x : TextStop) → CutsText a b t.lines.text x → CutsText a b (tale_text_in tell holes t) x
unfolding tale_text_in ◌⧺◌
tale_cut tell holes t a b x w = cut_before a b t.lines.text (tell.words.closed t.lines.imports t.lines.calls (closing_in holes t.closing) t.leads) x w

tale_is : (tell : Wording) (holes : List Hole) (t : Tale) (a b : Told) (e : TaleEnd) → WroteTale a b t e → tale_text_in tell holes t ≡ t.lines.text ++ tell.words.closed e.course.imports e.course.calls (closing_in holes e.closing) e.leads
unfolding tale_text_in ◌⧺◌
tale_is tell holes t a b e w = rw (w.imports, w.calls, w.closing, w.leads) refl

pub end_cut : (tell : Wording) (holes : List Hole) (t : Tale) (a b c : Told) (e : TaleEnd) → WroteTale a b t e → Broke b c (tell.words.closed e.course.imports e.course.calls (closing_in holes e.closing) e.leads) → Broke a c (tale_text_in tell holes t)
end_cut tell holes t a b c e w q = rw (tale_is tell holes t a b e w) (Broke-after a b c t.lines.text (tell.words.closed e.course.imports e.course.calls (closing_in holes e.closing) e.leads) w.written q)

pub end_done : (tell : Wording) (holes : List Hole) (t : Tale) (a b c : Told) (e : TaleEnd) → WroteTale a b t e → Wrote b c (tell.words.closed e.course.imports e.course.calls (closing_in holes e.closing) e.leads) → Wrote a c (tale_text_in tell holes t)
end_done tell holes t a b c e w q = rw (tale_is tell holes t a b e w) (Wrote-trans a b c t.lines.text (tell.words.closed e.course.imports e.course.calls (closing_in holes e.closing) e.leads) w.written q)

-- ---- from here on

-- the part that begins with an item that was gone over
part_is : (tell : Wording) (holes : List Hole) (w : Way) (s t : State) (v : Visited) → Goes (going w (standing_of s v)) v.gone t
    → part_text_in tell holes w (Some (standing_of s v)) ≡ tell.words.heading w.frames ++ tale_text_in tell holes (tale_here tell.telling holes (length v.rest.now) w (standing_of t v) v.gone)
unfolding ◌⧺◌
part_is tell holes w s t v g = ap (λ (x : Tale). tell.words.heading w.frames ++ tale_text_in tell holes x) (next_tale tell.telling holes (length v.rest.now) w (standing_of s v) v.gone t g)

pub header_broken : (tell : Wording) (holes : List Hole) (w : Way) (s t : State) (v : Visited) (a b : Told) → Goes (going w (standing_of s v)) v.gone t → Broke a b (tell.words.heading w.frames)
    → Broke a b (part_text_in tell holes w (Some (standing_of s v)))
header_broken tell holes w s t v a b g q = rw (part_is tell holes w s t v g) (Broke-more a b (tell.words.heading w.frames) (tale_text_in tell holes (tale_here tell.telling holes (length v.rest.now) w (standing_of t v) v.gone)) q)

pub tale_puts : {A : Type 0} (tell : Wording) (holes : List Hole) (w : Way) (s t : State) (v : Visited) (a b c : Told) (r : Result A TextStop) → Goes (going w (standing_of s v)) v.gone t → Wrote a b (tell.words.heading w.frames)
    → PutsText b c (tale_text_in tell holes (tale_here tell.telling holes (length v.rest.now) w (standing_of t v) v.gone)) r → PutsText a c (part_text_in tell holes w (Some (standing_of s v))) r
tale_puts tell holes w s t v a b c r g q k =
    rw (part_is tell holes w s t v g) (pieces a b c (tell.words.heading w.frames) (tale_text_in tell holes (tale_here tell.telling holes (length v.rest.now) w (standing_of t v) v.gone)) r q k)

-- ---- what is looked for

-- from the item on that was found
found_puts : {A : Type 0} (w : Way) (text : Option Standing → List ℕ) (p : Option Standing) (v : Visited) (t : State) (a b : Told) (r : Result A TextStop)
    → Finds w p (Some v) t → ((s : State) → Goes (going w (standing_of s v)) v.gone t → PutsText a b (text (Some (standing_of s v))) r) → PutsText a b (text p) r
found_puts w text (Some p) v t a b r f puts = rw f.1 (puts f.0 f.2)
found_puts w text None v t a b r f puts = absurd f

-- none was found, and nothing is written
none_puts : (w : Way) (text : Option Standing → List ℕ) (p : Option Standing) (t : State) (a : Told) → text None ≡ [] → Finds w p None t → Wrote a a (text p)
none_puts w text (Some p) t a is f = absurd f
none_puts w text None t a is f = rw is (Wrote-none a)

-- the first item with an event
pub event_puts : {A : Type 0} (tell : Wording) (holes : List Hole) (w : Way) (p : Standing) (v : Visited) (x : Option Visited) (t : State) (a b : Told) (r : Result A TextStop) → x ≡ Some v
    → Finds w (search_from sought.Event w p) x t → ((s : State) → Goes (going w (standing_of s v)) v.gone t → PutsText a b (part_text_in tell holes w (Some (standing_of s v))) r)
    → PutsText a b (text_from_in tell holes w p) r
unfolding text_from_in
event_puts tell holes w p v x t a b r is f puts =
    found_puts w (part_text_in tell holes w) (search_from sought.Event w p) v t a b r (subst (λ (y : Option Visited). Finds w (search_from sought.Event w p) y t) is f) puts

pub no_event_puts : (tell : Wording) (holes : List Hole) (w : Way) (p : Standing) (x : Option Visited) (t : State) (a : Told) → x ≡ None → Finds w (search_from sought.Event w p) x t → Wrote a a (text_from_in tell holes w p)
unfolding text_from_in
no_event_puts tell holes w p x t a is f =
    none_puts w (part_text_in tell holes w) (search_from sought.Event w p) t a refl (subst (λ (y : Option Visited). Finds w (search_from sought.Event w p) y t) is f)

-- the first item whose reading loses bytes
pub lost_puts : {A : Type 0} (tell : Wording) (holes : List Hole) (w : Way) (p : Option Standing) (v : Visited) (x : Option Visited) (t : State) (a b : Told) (r : Result A TextStop) → x ≡ Some v → Finds w p x t
    → ((s : State) → Goes (going w (standing_of s v)) v.gone t → PutsText a b (text_from_in tell holes w (standing_of s v)) r) → PutsText a b (found_text_in tell holes w p) r
lost_puts tell holes w p v x t a b r is f puts = found_puts w (found_text_in tell holes w) p v t a b r (subst (λ (y : Option Visited). Finds w p y t) is f) puts

-- where it is
offset_by : (w : Way) (p : Option Standing) (v : Visited) (t : State) → Finds w p (Some v) t → Some v.at.offset ≡ option_map (λ (q : Standing). q.at.offset) p
offset_by w (Some p) v t f = ap (λ (q : Standing). Some q.at.offset) (sym f.1)
offset_by w None v t f = absurd f

none_by : (w : Way) (p : Option Standing) (t : State) → Finds w p None t → None ≡ option_map (λ (q : Standing). q.at.offset) p
none_by w (Some p) t f = absurd f
none_by w None t f = refl

pub found_offset : (w : Way) (p : Option Standing) (v : Visited) (x : Option Visited) (t : State) → x ≡ Some v → Finds w p x t → Some v.at.offset ≡ option_map (λ (q : Standing). q.at.offset) p
found_offset w p v x t is f = offset_by w p v t (subst (λ (y : Option Visited). Finds w p y t) is f)

pub no_offset : (w : Way) (p : Option Standing) (x : Option Visited) (t : State) → x ≡ None → Finds w p x t → None ≡ option_map (λ (q : Standing). q.at.offset) p
no_offset w p x t is f = none_by w p t (subst (λ (y : Option Visited). Finds w p y t) is f)
