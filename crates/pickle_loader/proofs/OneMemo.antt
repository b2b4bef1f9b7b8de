-- One Unpickler that loads again does nothing else, and each reach has its line.
use Rattle.std.proofs.Common.{◌≡◌, ◌≢◌, ℕ, suc, ◌^◌, ◌<◌, Bool, true, false, List, [], ◌∷◌, ◌++◌, length, Option, Some, None, refl, sym, ap, subst, ◌∙◌, inl, inr, arith}
use Rattle.std.specs.Prelude.{◌-◌, Ok, Err, Result}
use Rattle.std.specs.Option.{option_map}
use Rattle.pickle_ops.specs.declared.fault.FrontFault.{FrontFault}
use Rattle.pickle_machine.specs.declared.refusal.Refusal.{Refusal}
use Rattle.pickle_machine.specs.declared.loader.LoaderMove.{LoaderMove}
use Rattle.pickle_machine.specs.State.{State}
use Rattle.pickle_machine.specs.Move.{fresh}
use Rattle.pickle_machine.specs.Loader.{loader_move}
use Rattle.pickle_lenient.specs.declared.taken.Taken.{Taken}
use Rattle.pickle_lenient.specs.Lenient.{Lenient, lenient}
use Rattle.pickle_lenient.specs.Stream.{taken_as, plain, taken}
use Rattle.pickle_doc.specs.Document.{Contents, ReadsAs, AreBytes}
use Rattle.pickle_doc.proofs.Existence.{one_document}
use Rattle.pickle_io.specs.Holes.{in_file}
use Rattle.pickle_lenient.specs.declared.taken.Frames.{Frames}
use Rattle.pickle_lenient.specs.declared.taken.Frames.TheVariants as frames
use Rattle.pickle_calls.specs.declared.naming.Detail.{Detail}
use Rattle.pickle_calls.specs.declared.naming.Detail.TheVariants as detail
use Rattle.pickle_calls.specs.declared.event.Event.{Event}
use Rattle.pickle_calls.specs.Manner.{Manner}
use Rattle.pickle_text.specs.Output.{Output}
use Rattle.calls_laws.specs.LineLaws.{cut_lines}
use Rattle.pickle_further.specs.declared.way.Pickles.{Pickles}
use Rattle.pickle_further.specs.declared.way.Pickles.TheVariants as pickles
use Rattle.pickle_further.specs.declared.way.Way.{Way}
use Rattle.pickle_further.specs.Going.{Standing, Going, used_op, moved_so, gone_to, gone_by, tale_of, going}
use Rattle.pickle_further.specs.Parts.{ignoring, buffering, holding, are_many, standing_first, loss_at, first_mixed, loss_line}
use Rattle.pickle_further.specs.CallsText.{document_calls, first_loss, kept_status, tale_calls, kept_calls, IsCallsText, kept_calls_in}
use Rattle.pickle_loader.specs.Environment.{Value, Act}
use Rattle.pickle_loader.specs.Dispatch.{acts_of}
use Rattle.pickle_loader.specs.Listed.{listed_of}
use Rattle.pickle_loader.specs.Onward.{stands, state_behind, begins_anew, acts_before, unbuffered, NoneLost, IsFound, load_way}
use Rattle.pickle_loader.specs.CLoad.{as_in_c}
use Rattle.pickle_loader.specs.Text.{line_gone, lines_if, lost_lines, mixed_lines, document_lines, kept_first, kept_last, kept_parts, kept_lines, IsAmong, way_of, is_in_text, OneWholeText, EachReachHasItsLine}
use Rattle.pickle_loader.specs.OneMemo.{NothingElseWithOneMemo, NothingElseWithOneMemoInC}
use Rattle.pickle_loader.proofs.Bytes.{joined}
use Rattle.pickle_loader.proofs.Losses.{loss_is_found}
use Rattle.pickle_loader.proofs.Ways.{by_items}
use Rattle.pickle_loader.proofs.CLoads.{listed_in_c}
use Rattle.pickle_loader.proofs.MemoValues.{memo_holds}
use Rattle.pickle_loader.proofs.Details.{detail_tells_alike}
use Rattle.pickle_loader.proofs.Holding.{held_none, none_at_all, acts_more, tells_to}
use Rattle.pickle_loader.proofs.Reaches.{among_left, among_right, tells_event, line_some, few, HasEvent, among_before, among_from, IsBehindLoss, plain_or_lost}
use Rattle.pickle_loader.proofs.EachReach.{IsReadSo, ignoring_reach, buffering_reach}
use Rattle.pickle_loader.proofs.FirstPickle.{first_reach}
use Rattle.pickle_loader.proofs.WholeText.{whole_text_is_its_lines}

-- ---- status 0

lost_to : (p : Pickles) (q : Standing) (item : Taken) (m : LoaderMove) (z : Result State Refusal) → item.lost ≡ false → (gone_to (ignoring p) q item m z).gone.lost ≡ false
lost_to p q item m (Ok t) e = e
lost_to p q item m (Err r) e = refl

lost_by : (p : Pickles) (q : Standing) (x : Result Lenient FrontFault) → (gone_by (ignoring p) q (plain x)).gone.lost ≡ false
lost_by p q (Err f) = refl
lost_by p q (Ok l) =
    let item : Taken = taken_as 0 0 l in
    let m : LoaderMove = loader_move item.op.opcode item.row (fresh q.state) in
    lost_to p q item m (moved_so m (used_op m item.op) q.at.place q.state) refl

never_lost : (p : Pickles) (q : Standing) → (going (ignoring p) q).gone.lost ≡ false
unfolding going taken
never_lost p q = lost_by p q (lenient q.rest)

abbrev pub Memo : Manner → List ℕ → Standing
Memo how bytes = standing_first how.detail pickles.OneMemo bytes

pub no_loss : (how : Manner) (bytes : List ℕ) (o : Output) → o ≡ kept_calls how bytes → o.status ≡ 0 → loss_at how.detail (buffering pickles.OneMemo) bytes ≡ None
unfolding kept_calls_in
no_loss how bytes o e status = go (loss_at how.detail (buffering pickles.OneMemo) bytes) refl
  where
    rest : ℕ
    rest = (tale_calls how bytes (tale_of how.holes (ignoring pickles.OneMemo) (standing_first how.detail pickles.OneMemo bytes))).status

    go : (x : Option Standing) → loss_at how.detail (buffering pickles.OneMemo) bytes ≡ x → loss_at how.detail (buffering pickles.OneMemo) bytes ≡ None
    go None is = is
    go (Some q) is =
        let one : 1 ≡ 0 = sym (ap (λ (x : Option Standing). kept_status (option_map (λ (p : Standing). p.at.offset) x) (first_mixed how.detail pickles.OneMemo bytes) rest) is) ∙ ap (λ (x : Output). x.status) (sym e) ∙ status in
        absurd (omega (arith, one))

pub nothing_lost : (how : Detail) (bytes : List ℕ) → loss_at how (buffering pickles.OneMemo) bytes ≡ None → (f : Frames) (n : ℕ) → NoneLost (way_of pickles.OneMemo f) (standing_first how pickles.OneMemo bytes) n
nothing_lost how bytes none f n = none_at_all (way_of pickles.OneMemo f) how bytes n (go f)
  where
    all : NoneLost (buffering pickles.OneMemo) (standing_first how pickles.OneMemo bytes) (suc (length bytes))
    all = subst (IsFound (buffering pickles.OneMemo) (standing_first how pickles.OneMemo bytes) (suc (length bytes))) none (loss_is_found (suc (length bytes)) (buffering pickles.OneMemo) (standing_first how pickles.OneMemo bytes))

    go : (f : Frames) → NoneLost (way_of pickles.OneMemo f) (standing_first how pickles.OneMemo bytes) (suc (length bytes))
    go frames.Ignored = λ j q less there. never_lost pickles.OneMemo q
    go frames.Buffered = all
    go frames.Held = held_none pickles.OneMemo how bytes (suc (length bytes)) all

abbrev pub TellsAll : (ℕ → Value) → Manner → List ℕ → ℕ → List Act → Type 0
TellsAll V how bytes n done = (rest : List Act) × (done ++ rest ≡ acts_before V (ignoring pickles.OneMemo) (Memo how bytes) n)

pub tells_all : (V : ℕ → Value) (how : Manner) (f : Frames) (bytes : List ℕ) (n : ℕ) (done : List Act) → loss_at how.detail (buffering pickles.OneMemo) bytes ≡ None
    → (rest : List Act) × (done ++ rest ≡ acts_before V (way_of pickles.OneMemo f) (standing_first detail.Cut pickles.OneMemo bytes) n) → TellsAll V how bytes n done
tells_all V how f bytes n done none (rest, e) =
    let w : Way = way_of pickles.OneMemo f in
    let p : Standing = Memo how bytes in
    let t = tells_to V w how.detail bytes n (nothing_lost how.detail bytes none f n) in
    let more = acts_more V (ignoring pickles.OneMemo) p n t.0 t.1 in (
      rest ++ more.0,
      joined done rest more.0 (acts_before V (ignoring pickles.OneMemo) p t.0) (acts_before V (ignoring pickles.OneMemo) p n) (e ∙ detail_tells_alike detail.Cut how.detail V w bytes n ∙ t.2) more.1,
    )

pub nothing_else_with_one_memo : NothingElseWithOneMemo
nothing_else_with_one_memo how w f bytes o e status =
    let all = by_items w (way_of pickles.OneMemo f) bytes in
    let none = no_loss how bytes o e status in (
      all.V,
      record {
        acts = λ n. tells_all all.V how f bytes n (listed_of (acts_of (load_way w (way_of pickles.OneMemo f) bytes n).now)) none (all.listed.acts n);
        values = λ n s is. memo_holds how.detail w f bytes all n s (nothing_lost how.detail bytes none f n) is;
      },
    )

pub nothing_else_with_one_memo_in_c : NothingElseWithOneMemoInC
nothing_else_with_one_memo_in_c how w f bytes o e status =
    let all = nothing_else_with_one_memo how (as_in_c w) f bytes o e status in
    (all.0, listed_in_c w (way_of pickles.OneMemo f) bytes all.0 (acts_before all.0 (ignoring pickles.OneMemo) (Memo how bytes)) (state_behind (ignoring pickles.OneMemo) (Memo how bytes)) all.1)

-- ---- each reach, with one memo

memo_ignoring : (how : Manner) (bytes : List ℕ) (n : ℕ) (q : Standing) → stands (ignoring pickles.OneMemo) (Memo how bytes) n ≡ Some q → HasEvent (ignoring pickles.OneMemo) q
    → IsAmong (line_gone how.holes q (going (ignoring pickles.OneMemo) q)) (kept_lines how bytes)
memo_ignoring how bytes n q there ev =
    let w : Way = ignoring pickles.OneMemo in
    let p : Standing = Memo how bytes in
    let line : List ℕ = line_gone how.holes q (going w q) in
    let last : List (List ℕ) = kept_last how bytes (tale_of how.holes w p) in
    among_left line (kept_first how p ++ last) (kept_parts how bytes (first_loss how.detail bytes) ++ mixed_lines how pickles.OneMemo bytes)
    (among_left line (kept_first how p) last (among_before how.holes w p n (suc (length bytes)) q (omega (arith, few w p n q there)) there (line_some how.holes q (going w q) ev.0 ev.1)))

-- where bytes are lost, both parts are there
memo_parts : (how : Manner) (bytes : List ℕ) (q : Standing) (line : List ℕ) → loss_at how.detail (buffering pickles.OneMemo) bytes ≡ Some q
    → IsAmong line (lost_lines how (buffering pickles.OneMemo) bytes ++ lost_lines how (holding pickles.OneMemo) bytes) → IsAmong line (kept_lines how bytes)
memo_parts how bytes q line is h =
    let p : Standing = Memo how bytes in
    let both : List (List ℕ) = lost_lines how (buffering pickles.OneMemo) bytes ++ lost_lines how (holding pickles.OneMemo) bytes in
    let parts : IsAmong line (kept_parts how bytes (Some q.at.offset)) = among_right line (loss_line (in_file how.holes q.at.offset) ∷ []) both h in
    let lossy : List (List ℕ) = kept_parts how bytes (first_loss how.detail bytes) in
    let mixed : List (List ℕ) = mixed_lines how pickles.OneMemo bytes in
    among_right line (kept_first how p ++ kept_last how bytes (tale_of how.holes (ignoring pickles.OneMemo) p)) (lossy ++ mixed)
    (among_left line lossy mixed (subst (λ (x : Option Standing). IsAmong line (kept_parts how bytes (option_map (λ (y : Standing). y.at.offset) x))) (sym is) parts))

memo_lost : (how : Manner) (f : Frames) (bytes : List ℕ) (n : ℕ) (q : Standing) (x : Option Standing) → loss_at how.detail (buffering pickles.OneMemo) bytes ≡ x → IsBehindLoss how.detail (way_of pickles.OneMemo f) bytes n q → HasEvent (way_of pickles.OneMemo f) q
    → IsAmong (line_gone how.holes q (going (way_of pickles.OneMemo f) q)) (kept_lines how bytes)
memo_lost how frames.Ignored bytes n q x is l ev = let wrong : true ≡ false = sym l.lost ∙ never_lost pickles.OneMemo l.first in absurd cc
memo_lost how f bytes n q None is l ev =
    let kept : (going (way_of pickles.OneMemo f) l.first).gone.lost ≡ false = nothing_lost how.detail bytes is f (suc l.place) l.place l.first (omega arith) l.stood in
    let wrong : true ≡ false = sym l.lost ∙ kept in absurd cc
memo_lost how frames.Buffered bytes n q (Some r) is l ev =
    let w : Way = buffering pickles.OneMemo in
    let line : List ℕ = line_gone how.holes q (going w q) in
    let here : IsAmong line (lost_lines how w bytes) = subst (λ (y : Option Standing). IsAmong line (lines_if how.holes w y)) (sym l.found) (among_from how.holes w l.first (n - l.place) q l.there ev) in
    memo_parts how bytes r line is (among_left line (lost_lines how w bytes) (lost_lines how (holding pickles.OneMemo) bytes) here)
memo_lost how frames.Held bytes n q (Some r) is l ev =
    let w : Way = holding pickles.OneMemo in
    let line : List ℕ = line_gone how.holes q (going w q) in
    let here : IsAmong line (lost_lines how w bytes) = subst (λ (y : Option Standing). IsAmong line (lines_if how.holes w y)) (sym l.found) (among_from how.holes w l.first (n - l.place) q l.there ev) in
    memo_parts how bytes r line is (among_right line (lost_lines how (buffering pickles.OneMemo) bytes) (lost_lines how w bytes) here)

memo_reach : (how : Manner) (f : Frames) (bytes : List ℕ) (n : ℕ) (q : Standing) → stands (way_of pickles.OneMemo f) (Memo how bytes) n ≡ Some q → HasEvent (way_of pickles.OneMemo f) q
    → IsAmong (line_gone how.holes q (going (way_of pickles.OneMemo f) q)) (kept_lines how bytes)
memo_reach how f bytes n q there ev =
    let w : Way = way_of pickles.OneMemo f in
    elim (plain_or_lost how.detail w bytes n q there ev) [
      | inl plain ↦
          let same = plain.goes in
          let here = memo_ignoring how bytes n (unbuffered q) plain.there (ev.0, ap (λ (g : Going). g.gone.event) same ∙ ev.1) in
          subst (λ (g : Going). IsAmong (line_gone how.holes (unbuffered q) g) (kept_lines how bytes)) same here
      | inr lost ↦ memo_lost how f bytes n q (loss_at how.detail (buffering pickles.OneMemo) bytes) refl lost ev
    ]

-- ---- of any text

pub read_so : (p : Pickles) (bytes : List ℕ) (d : Contents) → ReadsAs (are_many p) bytes d → length bytes < 2 ^ 64 → begins_anew p ≡ true → IsReadSo p d
read_so p bytes d reads small anew = record {
  formed = reads.document.formed;
  small = subst (λ (l : List ℕ). length l < 2 ^ 64) (sym reads.whole) small;
  anew = anew;
  mode = reads.mode;
  framing = reads.framing;
}

abbrev Reaches : Manner → Pickles → Frames → List ℕ → List (List ℕ) → Type 0
Reaches how p f bytes lines = (n : ℕ) (q : Standing) → stands (way_of p f) (standing_first how.detail p bytes) n ≡ Some q → HasEvent (way_of p f) q → IsAmong (line_gone how.holes q (going (way_of p f) q)) lines

document_reaches : (how : Manner) (p : Pickles) (f : Frames) (bytes : List ℕ) (d : Contents) → ReadsAs (are_many p) bytes d → length bytes < 2 ^ 64 → begins_anew p ≡ true → is_in_text p f ≡ true → Reaches how p f bytes (document_lines how p d)
document_reaches how pickles.First frames.Ignored bytes d reads small anew in_text =
    subst (λ (l : List ℕ). Reaches how pickles.First frames.Ignored l (document_lines how pickles.First d)) reads.whole (λ n q there ev. ignoring_reach how pickles.First d n q (read_so pickles.First bytes d reads small anew) there ev)
document_reaches how pickles.All frames.Ignored bytes d reads small anew in_text =
    subst (λ (l : List ℕ). Reaches how pickles.All frames.Ignored l (document_lines how pickles.All d)) reads.whole (λ n q there ev. ignoring_reach how pickles.All d n q (read_so pickles.All bytes d reads small anew) there ev)
document_reaches how pickles.All frames.Buffered bytes d reads small anew in_text =
    subst (λ (l : List ℕ). Reaches how pickles.All frames.Buffered l (document_lines how pickles.All d)) reads.whole (λ n q there ev. buffering_reach how d n q (read_so pickles.All bytes d reads small anew) there ev)
document_reaches how pickles.All frames.Held bytes d reads small anew in_text = absurd cc
document_reaches how pickles.First frames.Buffered bytes d reads small anew in_text =
    subst (λ (l : List ℕ). Reaches how pickles.First frames.Buffered l (document_lines how pickles.First d)) reads.whole (λ n q there ev. first_reach how d n q (read_so pickles.First bytes d reads small anew) there ev)
document_reaches how pickles.First frames.Held bytes d reads small anew in_text = absurd cc
document_reaches how pickles.OneMemo f bytes d reads small anew in_text = absurd cc

lines_reach : (how : Manner) (p : Pickles) (f : Frames) (bytes : List ℕ) (o : Output) → IsCallsText how p bytes o → length bytes < 2 ^ 64 → is_in_text p f ≡ true → Reaches how p f bytes (cut_lines o.text)
lines_reach how pickles.OneMemo f bytes o text small in_text = λ n q there ev.
    subst (IsAmong (line_gone how.holes q (going (way_of pickles.OneMemo f) q))) (sym (whole_text_is_its_lines how pickles.OneMemo bytes o text)) (memo_reach how f bytes n q there ev)
lines_reach how pickles.First f bytes o text small in_text =
    let x = whole_text_is_its_lines how pickles.First bytes o text in
    subst (Reaches how pickles.First f bytes) (sym x.2) (document_reaches how pickles.First f bytes x.0 x.1 small refl in_text)
lines_reach how pickles.All f bytes o text small in_text =
    let x = whole_text_is_its_lines how pickles.All bytes o text in
    subst (Reaches how pickles.All f bytes) (sym x.2) (document_reaches how pickles.All f bytes x.0 x.1 small refl in_text)

event_of : (x : Option Event) → x ≢ None → (e : Event) × (x ≡ Some e)
event_of None h = absurd (h refl)
event_of (Some e) h = (e, refl)

no_event : {A : Type 0} (e : Event) (x : Option Event) → x ≡ Some e → x ≡ None → A
no_event e x is none = let wrong : Some e ≡ None = sym is ∙ none in absurd cc

pub each_reach_has_its_line : EachReachHasItsLine
each_reach_has_its_line how p f bytes o text small in_text n q there =
    let g : Going = going (way_of p f) q in (
      λ V proto some none. let ev = tells_event V proto q g some in no_event ev.0 g.gone.event ev.1 none,
      λ some. let ev = event_of g.gone.event some in (line_some how.holes q g ev.0 ev.1, lines_reach how p f bytes o text small in_text n q there ev),
    )

-- ---- one text

one_of : (how : Manner) (p : Pickles) (many : Bool) (bytes : List ℕ) → AreBytes bytes → length bytes < 2 ^ 64
    → (d : Contents) × ReadsAs many bytes d × ((e : Contents) → ReadsAs many bytes e → document_calls how p d ≡ document_calls how p e)
one_of how p many bytes good small =
    let one = one_document many false bytes good small in
    (one.0, one.1, λ e reads. ap (document_calls how p) (one.2 e reads))

pub one_whole_text : OneWholeText
one_whole_text how pickles.OneMemo bytes good small = (kept_calls how bytes, refl, λ e is. sym is)
one_whole_text how pickles.First bytes good small =
    let one = one_of how pickles.First false bytes good small in
    (document_calls how pickles.First one.0, (one.0, one.1, refl), λ o x. one.2 x.0 x.1 ∙ sym x.2)
one_whole_text how pickles.All bytes good small =
    let one = one_of how pickles.All true bytes good small in
    (document_calls how pickles.All one.0, (one.0, one.1, refl), λ o x. one.2 x.0 x.1 ∙ sym x.2)
