-- The text of bytes that one unpickler reads on and on.
use Rattle.std.proofs.Common.{◌≡◌, ℕ, false, List, ◌++◌, length, Option, Some, None, refl, sym, ap, ◌∙◌}
use Rattle.std.specs.Prelude.{Result}
use Rattle.pickle_io.specs.Text.{◌⧺◌}
use Rattle.pickle_io.specs.Device.{Told, Wrote, Broke}
use Rattle.pickle_io.proofs.Devices.{Wrote-trans, Broke-after, Broke-more}
use Rattle.pickle_machine.specs.State.{State}
use Rattle.pickle_text.specs.declared.closing.Closing.{Closing}
use Rattle.pickle_text.specs.Output.{Output}
use Rattle.pickle_calls.specs.declared.end.Ending.TheVariants as ending
use Rattle.pickle_text.specs.declared.stop.TextStop.{TextStop}
use Rattle.pickle_text.specs.declared.stop.TextStop.TheVariants as stop
use Rattle.pickle_io.specs.Holes.{in_file}
use Rattle.pickle_calls.specs.Manner.{Manner, ending_in}
use Rattle.pickle_calls.specs.CallsLine.{ending_status}
use Rattle.pickle_further.specs.declared.way.Pickles.TheVariants as pickles
use Rattle.pickle_further.specs.declared.way.Way.{Way}
use Rattle.pickle_further.specs.declared.going.Gone.{Gone}
use Rattle.pickle_further.specs.declared.engine.TaleEnd.{TaleEnd}
use Rattle.pickle_further.specs.Leads.{warned_status}
use Rattle.pickle_further.specs.Going.{Standing, going, Tale}
use Rattle.pickle_further.specs.Parts.{Wording, ignoring, buffering, holding, standing_first, lost_by_in, first_mixed, mixed_text_in}
use Rattle.pickle_further.specs.CallsText.{tale_calls_in, first_loss, loss_text_in, losses_text_in, kept_behind_in, kept_status, kept_with, kept_calls_in, CutsText, PutsText, CompletesTextIn, CutsCallsTextIn}
use Rattle.pickle_further.specs.Inside.{standing, Goes, tale_here, WroteTale}
use Rattle.pickle_further.proofs.Pieces.{cut_before, cut_after, pieces}
use Rattle.pickle_further.proofs.Tales.{next_tale}

abbrev way : Way
way = ignoring pickles.OneMemo

abbrev first : Manner → List ℕ → Standing
first how bytes = standing_first how.detail pickles.OneMemo bytes

-- what the first item came to
abbrev pub kept_tale : Wording → Manner → List ℕ → Gone → State → Tale
kept_tale tell how bytes gone t = tale_here tell.telling how.holes (length bytes) way (standing t bytes (first how bytes).at (first how bytes).naming) gone

-- the lines with the last ones, and what is behind them
abbrev lines_of : Wording → Manner → List ℕ → Tale → List ℕ
lines_of tell how bytes t = (t.lines.text ++ tell.telling.last bytes t.lines.imports t.lines.calls (ending_in how.holes (ending.Closed 0 t.closing))) ++ tell.words.leading t.leads

abbrev more_of : Wording → Manner → List ℕ → List ℕ
more_of tell how bytes = kept_behind_in tell how bytes (first_loss how.detail bytes) (first_mixed how.detail pickles.OneMemo bytes)

kept_is : (tell : Wording) (how : Manner) (bytes : List ℕ) (gone : Gone) (t : State) → Goes (going way (first how bytes)) gone t → kept_calls_in tell how bytes ≡ kept_with tell how bytes (first_loss how.detail bytes) (first_mixed how.detail pickles.OneMemo bytes) (tale_calls_in tell how bytes (kept_tale tell how bytes gone t))
unfolding kept_calls_in
kept_is tell how bytes gone t g = ap (λ (x : Tale). kept_with tell how bytes (first_loss how.detail bytes) (first_mixed how.detail pickles.OneMemo bytes) (tale_calls_in tell how bytes x)) (next_tale tell.telling how.holes (length bytes) way (first how bytes) gone t g)

kept_all : (tell : Wording) (how : Manner) (bytes : List ℕ) (gone : Gone) (t : State) → Goes (going way (first how bytes)) gone t → (kept_calls_in tell how bytes).text ≡ lines_of tell how bytes (kept_tale tell how bytes gone t) ++ more_of tell how bytes
unfolding ◌⧺◌
kept_all tell how bytes gone t g = ap (λ (o : Output). o.text) (kept_is tell how bytes gone t g)

lines_end : (tell : Wording) (how : Manner) (bytes : List ℕ) (x : Tale) (a b : Told) (e : TaleEnd) → WroteTale a b x e
    → lines_of tell how bytes x ≡ (x.lines.text ++ tell.telling.last bytes e.course.imports e.course.calls (ending_in how.holes (ending.Closed 0 e.closing))) ++ tell.words.leading e.leads
lines_end tell how bytes x a b e w = rw (w.imports, w.calls, w.closing, w.leads) refl

lines_written : (tell : Wording) (how : Manner) (bytes : List ℕ) (x : Tale) (a b c d : Told) (e : TaleEnd) → WroteTale a b x e → Wrote b c (tell.telling.last bytes e.course.imports e.course.calls (ending_in how.holes (ending.Closed 0 e.closing)))
    → Wrote c d (tell.words.leading e.leads) → Wrote a d (lines_of tell how bytes x)
lines_written tell how bytes x a b c d e w q v =
    let end : List ℕ = tell.telling.last bytes e.course.imports e.course.calls (ending_in how.holes (ending.Closed 0 e.closing)) in
    rw (lines_end tell how bytes x a b e w) (Wrote-trans a c d (x.lines.text ++ end) (tell.words.leading e.leads) (Wrote-trans a b c x.lines.text end w.written q) v)

cut_of : (tell : Wording) (how : Manner) (bytes : List ℕ) (gone : Gone) (t : State) (a b : Told) (x : TextStop) → Goes (going way (first how bytes)) gone t → CutsText a b (lines_of tell how bytes (kept_tale tell how bytes gone t) ++ more_of tell how bytes) x
    → CutsCallsTextIn tell how pickles.OneMemo bytes a b x
cut_of tell how bytes gone t a b x g w = (kept_calls_in tell how bytes, refl, rw (kept_all tell how bytes gone t g) w)

-- the first lines, cut short
pub kept_cut : (tell : Wording) (how : Manner) (bytes : List ℕ) (gone : Gone) (t : State) (a b : Told) (x : TextStop) → Goes (going way (first how bytes)) gone t → CutsText a b (kept_tale tell how bytes gone t).lines.text x
    → CutsCallsTextIn tell how pickles.OneMemo bytes a b x
kept_cut tell how bytes gone t a b x g w = cut_of tell how bytes gone t a b x g (cut_before a b (lines_of tell how bytes (kept_tale tell how bytes gone t)) (more_of tell how bytes) x (go w))
  where
    l : Tale
    l = kept_tale tell how bytes gone t

    go : CutsText a b l.lines.text x → CutsText a b (lines_of tell how bytes l) x
    go w =
        let end : List ℕ = tell.telling.last bytes l.lines.imports l.lines.calls (ending_in how.holes (ending.Closed 0 l.closing)) in
        cut_before a b (l.lines.text ++ end) (tell.words.leading l.leads) x (cut_before a b l.lines.text end x w)

-- all lines and a beginning of the last ones
pub kept_broken : (tell : Wording) (how : Manner) (bytes : List ℕ) (gone : Gone) (t : State) (a b c : Told) (e : TaleEnd) → Goes (going way (first how bytes)) gone t → WroteTale a b (kept_tale tell how bytes gone t) e
    → Broke b c (tell.telling.last bytes e.course.imports e.course.calls (ending_in how.holes (ending.Closed 0 e.closing))) → CutsCallsTextIn tell how pickles.OneMemo bytes a c stop.Failed
kept_broken tell how bytes gone t a b c e g w q =
    let l : Tale = kept_tale tell how bytes gone t in
    let end : List ℕ = tell.telling.last bytes e.course.imports e.course.calls (ending_in how.holes (ending.Closed 0 e.closing)) in
    let cut : Broke a c (lines_of tell how bytes l) =
    rw (lines_end tell how bytes l a b e w) (Broke-more a c (l.lines.text ++ end) (tell.words.leading e.leads) (Broke-after a b c l.lines.text end w.written q)) in
    cut_of tell how bytes gone t a c stop.Failed g (cut_before a c (lines_of tell how bytes l) (more_of tell how bytes) stop.Failed cut)

-- all of these and a beginning of the line that an import leads to the unpickler
pub warning_broken : (tell : Wording) (how : Manner) (bytes : List ℕ) (gone : Gone) (t : State) (a b c d : Told) (e : TaleEnd) → Goes (going way (first how bytes)) gone t → WroteTale a b (kept_tale tell how bytes gone t) e
    → Wrote b c (tell.telling.last bytes e.course.imports e.course.calls (ending_in how.holes (ending.Closed 0 e.closing))) → Broke c d (tell.words.leading e.leads) → CutsCallsTextIn tell how pickles.OneMemo bytes a d stop.Failed
warning_broken tell how bytes gone t a b c d e g w q v =
    let l : Tale = kept_tale tell how bytes gone t in
    let end : List ℕ = tell.telling.last bytes e.course.imports e.course.calls (ending_in how.holes (ending.Closed 0 e.closing)) in
    let cut : Broke a d (lines_of tell how bytes l) =
    rw (lines_end tell how bytes l a b e w) (Broke-after a c d (l.lines.text ++ end) (tell.words.leading e.leads) (Wrote-trans a b c l.lines.text end w.written q) v) in
    cut_of tell how bytes gone t a d stop.Failed g (cut_before a d (lines_of tell how bytes l) (more_of tell how bytes) stop.Failed cut)

-- all of these and a beginning of what is behind them
pub behind_cut : (tell : Wording) (how : Manner) (bytes : List ℕ) (gone : Gone) (t : State) (a b c d z : Told) (e : TaleEnd) (loss mixed : Option ℕ) (x : TextStop) → Goes (going way (first how bytes)) gone t → WroteTale a b (kept_tale tell how bytes gone t) e
    → Wrote b c (tell.telling.last bytes e.course.imports e.course.calls (ending_in how.holes (ending.Closed 0 e.closing))) → Wrote c d (tell.words.leading e.leads) → loss ≡ first_loss how.detail bytes
    → mixed ≡ first_mixed how.detail pickles.OneMemo bytes → CutsText d z (kept_behind_in tell how bytes loss mixed) x → CutsCallsTextIn tell how pickles.OneMemo bytes a z x
behind_cut tell how bytes gone t a b c d z e loss mixed x g w q v lost may k =
    let l : Tale = kept_tale tell how bytes gone t in
    let more : CutsText d z (more_of tell how bytes) x = rw (← lost, ← may) k in
    cut_of tell how bytes gone t a z x g (cut_after a d z (lines_of tell how bytes l) (more_of tell how bytes) x (lines_written tell how bytes l a b c d e w q v) more)

-- all of it
pub kept_done : (tell : Wording) (how : Manner) (bytes : List ℕ) (gone : Gone) (t : State) (a b c d z : Told) (e : TaleEnd) (loss mixed : Option ℕ) (status : ℕ) → Goes (going way (first how bytes)) gone t → WroteTale a b (kept_tale tell how bytes gone t) e
    → Wrote b c (tell.telling.last bytes e.course.imports e.course.calls (ending_in how.holes (ending.Closed 0 e.closing))) → Wrote c d (tell.words.leading e.leads) → status ≡ ending_status (ending.Closed 0 e.closing) → loss ≡ first_loss how.detail bytes
    → mixed ≡ first_mixed how.detail pickles.OneMemo bytes → Wrote d z (kept_behind_in tell how bytes loss mixed) → CompletesTextIn tell how pickles.OneMemo bytes a z (kept_status loss mixed (warned_status e.leads status))
kept_done tell how bytes gone t a b c d z e loss mixed status g w q v is lost may k =
    let l : Tale = kept_tale tell how bytes gone t in
    let more : Wrote d z (more_of tell how bytes) = rw (← lost, ← may) k in
    let all : Wrote a z (kept_calls_in tell how bytes).text = rw (kept_all tell how bytes gone t g) (Wrote-trans a d z (lines_of tell how bytes l) (more_of tell how bytes) (lines_written tell how bytes l a b c d e w q v) more) in
    let both : ℕ → ℕ = kept_status (first_loss how.detail bytes) (first_mixed how.detail pickles.OneMemo bytes) in
    let same : kept_status loss mixed (warned_status e.leads status) ≡ (kept_calls_in tell how bytes).status =
    ap (λ (x : Option ℕ). kept_status x mixed (warned_status e.leads status)) lost
    ∙ ap (λ (x : Option ℕ). kept_status (first_loss how.detail bytes) x (warned_status e.leads status)) may
    ∙ ap (λ (x : Option ℕ). both (warned_status x status)) w.leads
    ∙ ap (λ (x : ℕ). both (warned_status l.leads x)) (is ∙ ap (λ (c : Closing). ending_status (ending.Closed 0 c)) w.closing)
    ∙ ap (λ (o : Output). o.status) (sym (kept_is tell how bytes gone t g)) in
    (kept_calls_in tell how bytes, refl, all, same)

-- ---- where bytes are lost

abbrev left_text : Wording → Manner → List ℕ → List ℕ
left_text tell how bytes = lost_by_in tell how (buffering pickles.OneMemo) bytes

abbrev held_text : Wording → Manner → List ℕ → List ℕ
held_text tell how bytes = lost_by_in tell how (holding pickles.OneMemo) bytes

pub loss_broken : (tell : Wording) (how : Manner) (bytes : List ℕ) (n : ℕ) (a b : Told) → Broke a b (tell.words.losing (in_file how.holes n)) → Broke a b (loss_text_in tell how bytes n)
unfolding loss_text_in ◌⧺◌
loss_broken tell how bytes n a b w = Broke-more a b (tell.words.losing (in_file how.holes n)) (left_text tell how bytes ++ held_text tell how bytes) w

pub loss_cut : (tell : Wording) (how : Manner) (bytes : List ℕ) (n : ℕ) (a b c : Told) (x : TextStop) → Wrote a b (tell.words.losing (in_file how.holes n)) → CutsText b c (left_text tell how bytes) x → CutsText a c (loss_text_in tell how bytes n) x
unfolding loss_text_in ◌⧺◌
loss_cut tell how bytes n a b c x q w = cut_after a b c (tell.words.losing (in_file how.holes n)) (left_text tell how bytes ++ held_text tell how bytes) x q (cut_before b c (left_text tell how bytes) (held_text tell how bytes) x w)

pub loss_put : {A : Type 0} (tell : Wording) (how : Manner) (bytes : List ℕ) (n : ℕ) (a b c d : Told) (r : Result A TextStop) → Wrote a b (tell.words.losing (in_file how.holes n)) → Wrote b c (left_text tell how bytes) → PutsText c d (held_text tell how bytes) r
    → PutsText a d (loss_text_in tell how bytes n) r
unfolding loss_text_in ◌⧺◌
loss_put tell how bytes n a b c d r q k w = pieces a b d (tell.words.losing (in_file how.holes n)) (left_text tell how bytes ++ held_text tell how bytes) r q (pieces b c d (left_text tell how bytes) (held_text tell how bytes) r k w)

-- ---- what is behind the lines

pub losses_cut : (tell : Wording) (how : Manner) (bytes : List ℕ) (loss mixed : Option ℕ) (a b : Told) (x : TextStop) → CutsText a b (losses_text_in tell how bytes loss) x → CutsText a b (kept_behind_in tell how bytes loss mixed) x
unfolding ◌⧺◌
losses_cut tell how bytes loss mixed a b x w = cut_before a b (losses_text_in tell how bytes loss) (mixed_text_in tell how.holes mixed) x w

pub behind_broken : (tell : Wording) (how : Manner) (bytes : List ℕ) (loss mixed : Option ℕ) (a b c : Told) → Wrote a b (losses_text_in tell how bytes loss) → Broke b c (mixed_text_in tell how.holes mixed) → Broke a c (kept_behind_in tell how bytes loss mixed)
unfolding ◌⧺◌
behind_broken tell how bytes loss mixed a b c w q = Broke-after a b c (losses_text_in tell how bytes loss) (mixed_text_in tell how.holes mixed) w q

pub behind_done : (tell : Wording) (how : Manner) (bytes : List ℕ) (loss mixed : Option ℕ) (a b c : Told) → Wrote a b (losses_text_in tell how bytes loss) → Wrote b c (mixed_text_in tell how.holes mixed) → Wrote a c (kept_behind_in tell how bytes loss mixed)
unfolding ◌⧺◌
behind_done tell how bytes loss mixed a b c w q = Wrote-trans a b c (losses_text_in tell how bytes loss) (mixed_text_in tell how.holes mixed) w q
