-- A part begins at its first line.
use Rattle.std.proofs.Common.{◌≡◌, ℕ, zero, suc, ◌+◌, List, [], length, Option, Some, None, refl, sym, ap, ap₂, subst, ◌∙◌, arith}
use Rattle.std.specs.Prelude.{is_some, if◌then◌else◌}
use Rattle.std.specs.Option.{option_map_or}
use Rattle.pickle_io.specs.Text.{◌⧺◌}
use Rattle.pickle_io.specs.declared.hole.Hole.{Hole}
use Rattle.pickle_io.specs.Holes.{in_file}
use Rattle.pickle_text.specs.declared.closing.Closing.{Closing}
use Rattle.pickle_calls.specs.declared.event.Event.{Event}
use Rattle.pickle_calls.specs.Calls.{counted_text}
use Rattle.pickle_further.specs.declared.way.Way.{Way}
use Rattle.pickle_further.specs.declared.seek.Sought.TheVariants as sought
use Rattle.pickle_further.specs.Leads.{event_leads}
use Rattle.pickle_further.specs.Going.{Standing, Going, going, Tale, tale_over, tale_after, tale, tale_in, stands_after, search}
use Rattle.pickle_further.specs.Laws.{BeginsAtLine, PartsBeginAtLines}

-- an item without an event adds nothing
added : (text : List ℕ) → [] ⧺ text ≡ text
unfolding ◌⧺◌
added text = refl

same_tale : (t : Tale) (text : List ℕ) (imports calls : ℕ) → text ≡ t.lines.text → imports ≡ t.lines.imports → calls ≡ t.lines.calls
    → record { lines = record { text = text; imports = imports; calls = calls }; closing = t.closing; leads = t.leads } ≡ t
same_tale t text imports calls e f g = rw (e, f, g) refl

nothing_added : (t : Tale) → tale_after (record { text = []; imports = 0; calls = 0 }) None t ≡ t
nothing_added t = same_tale t ([] ⧺ t.lines.text) (0 + t.lines.imports) (0 + t.lines.calls) (added t.lines.text) (omega arith) (omega arith)

no_text : (c : Closing) → (tale_after (record { text = []; imports = 0; calls = 0 }) None (tale_over c)).lines.text ≡ []
unfolding ◌⧺◌
no_text c = refl

carried : (holes : List Hole) (n : ℕ) (w : Way) (p next : Standing) (x : Option Standing) → tale holes (suc n) w p ≡ tale holes n w next → BeginsAtLine holes n w next x → BeginsAtLine holes (suc n) w p x
carried holes n w p next (Some q) e h = (h.0, (h.1.0, e ∙ h.1.1))
carried holes n w p next None e h = ap (λ (t : Tale). t.lines.text) e ∙ h

-- one item, by its event and by why it ends there
one_item : (holes : List Hole) (n : ℕ) (w : Way) (p : Standing) (e : Option Event) (c : Option Closing) → (going w p).gone.event ≡ e → (going w p).gone.closing ≡ c
    → BeginsAtLine holes n w (stands_after p (going w p)) (search sought.Event n w (stands_after p (going w p))) → BeginsAtLine holes (suc n) w p (search sought.Event (suc n) w p)
unfolding tale_in search
one_item holes n w p (Some x) c is closes more =
    let after : Option Standing = search sought.Event n w (stands_after p (going w p)) in
    let found : search sought.Event (suc n) w p ≡ Some p = ap (λ (y : Option Event). if is_some y then Some p else (if is_some (going w p).gone.closing then None else after)) is in
    subst (BeginsAtLine holes (suc n) w p) (sym found) (ap (λ (y : Option Event). is_some y) is, (n, refl))
one_item holes n w p None (Some x) is closes more =
    let g : Going = going w p in
    let after : Option Standing = search sought.Event n w (stands_after p g) in
    let none : search sought.Event (suc n) w p ≡ None =
    ap₂ (λ (y : Option Event) (z : Option Closing). if is_some y then Some p else (if is_some z then None else after)) is closes in
    let here : tale holes (suc n) w p ≡ tale_after (record { text = []; imports = 0; calls = 0 }) None (tale_over x) =
    ap₂ (λ (y : Option Event) (z : Option Closing). tale_after (counted_text (in_file holes p.at.offset) p.naming g.state.heap y) (event_leads g.state.heap y) (option_map_or tale_over z (tale holes n w (stands_after p g)))) is closes in
    subst (BeginsAtLine holes (suc n) w p) (sym none) (ap (λ (t : Tale). t.lines.text) here ∙ no_text x)
one_item holes n w p None None is closes more =
    let g : Going = going w p in
    let after : Option Standing = search sought.Event n w (stands_after p g) in
    let on : search sought.Event (suc n) w p ≡ after =
    ap₂ (λ (y : Option Event) (z : Option Closing). if is_some y then Some p else (if is_some z then None else after)) is closes in
    let here : tale holes (suc n) w p ≡ tale_after (record { text = []; imports = 0; calls = 0 }) None (tale holes n w (stands_after p g)) =
    ap₂ (λ (y : Option Event) (z : Option Closing). tale_after (counted_text (in_file holes p.at.offset) p.naming g.state.heap y) (event_leads g.state.heap y) (option_map_or tale_over z (tale holes n w (stands_after p g)))) is closes in
    subst (BeginsAtLine holes (suc n) w p) (sym on) (carried holes n w p (stands_after p g) after (here ∙ nothing_added (tale holes n w (stands_after p g))) more)

no_items : (holes : List Hole) (w : Way) (p : Standing) → BeginsAtLine holes 0 w p (search sought.Event 0 w p)
unfolding tale_in search
no_items holes w p = refl

begins : (holes : List Hole) (n : ℕ) (w : Way) (p : Standing) → BeginsAtLine holes n w p (search sought.Event n w p)
begins holes zero w p = no_items holes w p
begins holes (suc n) w p = one_item holes n w p (going w p).gone.event (going w p).gone.closing refl refl (begins holes n w (stands_after p (going w p)))

pub parts_begin_at_lines : PartsBeginAtLines
parts_begin_at_lines holes w p = begins holes (suc (length p.rest)) w p
