-- `closed` owns nothing. Assumes `Logic`.
use Rattle.std.proofs.Common.{◌≡◌, List, [], ◌∷◌, ◌++◌, refl, w64}
use mir.Syntax.{Fn}
use mir.Val.{Val, vint}
use base.Logic.{SProp, emp}
use prog.Wp.{WpFn}
use contract.Monad.{fact, fact_i}
use contract.Running.{tables}
use types.Kit.{‵, raw, ◌⊛◌, prop, ◌$◌, ◌∵◌, !, qed, by, move, keep, use0, split, regoal, fjoin}
use types.Part.{agg}
use types.Run.{no_more, and_then, returns, enter}
use types.ByLocal.{alloc_all, pass_all, free_all, look_at, get, sets}
use denote.RattleType.{owns}
use denote.RawPtr.{ptr_val}
use denote.Signature.{types_at}
use denote.Steps.{nothing, heard}
use Rattle.std.specs.Prelude.{None}
use Rattle.std_alloc.proofs.ResultValues.{and_tt}
use Rattle.library_answers.proofs.Values.{ptr_typed, sized_val, sized_own, sized_made, slot_at}
use denote.Triple.Entry.{alive}
use denote.Triple.Walked.{Stays, stay_dropped, walk_of, Goes-dropped}
use Rattle.std.proofs.raw_atomic.Walks.{proved_at, leaves}
use Rattle.library_answers.specs.contracts.handle.Handle as handle
use Rattle.library_answers.specs.contracts.handle.Handle.closed.{ended, clauses}
use Rattle.library_answers.specs.contracts.handle.Handle.closed.Key.{name as #self}
use Rattle.library_answers.proofs.handle.Handle.closed.Statement.{statement}
use Rattle.library_answers.proofs.handle.Handle.closed.Code as compiled

pub closed_spec : {M : Type 1} → statement M
closed_spec 𝓤 𝓛 𝓜 𝓡 wired =
    let H = 𝓛.H in
    let En = ended in
    let c = clauses 𝓛 𝓜.mem 𝓡.returns in
    let fn : Fn = compiled.function in
    let hs : Stays En.signature.params En.kept = (stay_dropped (slot_at 0 En.signature.params) En.kept.0, (stay_dropped (slot_at 1 En.signature.params) En.kept.1.0, tt)) in
    let C = (tables 𝓤 H 𝓜 𝓡 𝓡.env).C in
    let Λ = (tables 𝓤 H 𝓜 𝓡 𝓡.env).Λ in
    proved_at 𝓛 En hs c 𝓜 𝓡 (Goes-dropped 𝓛 0 (slot_at 0 En.signature.params) En.kept.0 (λ κs x f. refl), (Goes-dropped 𝓛 0 (slot_at 1 En.signature.params) En.kept.1.0 (λ κs x f. refl), tt)) #self fn (compiled.unfolded 𝓤 H 𝓜 𝓡 wired) (λ z are.
    let Post : Val → SProp 𝓤 = (walk_of 𝓛 En hs c).post z in
    let p = z.0.3.0 in
    let n = z.0.3.1.0 in
    let fits = are.1.0.1 in
    let Asked : Type 0 = n ≡ 0 in
    qed 𝓛 ((raw (alive 𝓛 En.signature z.0.0 z.0.1) ⊛ ‵ (owns (types_at En.signature.params z.0.0) z.0.3 z.0.4)) ∷ raw (fact 𝓤 Asked) ∷ []) ∵ move ! (1 ∷ []) $ heard ! Asked (λ asked. split ! $ keep ! (0 ∷ []) $
    let x : handle.the_row.Denot = record { at = p; is_open = n; talk = None; tells = asked } in
    let Said : Type 0 = x.talk ≡ None in
    regoal ! (λ (us : List Val). prop (WpFn 𝓤 H C Λ fn us Post)) (λ i. are.0 i ++ (are.1.0.0 i ++ [])) refl $
    enter ! C Λ fn (ptr_val p ∷ vint w64 n ∷ []) Post $ alloc_all ! (λ l. pass_all ! refl ((ptr_typed p), ((tt, record { fits = fits }), tt)) $
    sets ! (agg ! (and_then ! (get ! refl) (and_then ! (get ! refl) (no_more !)))) refl (and_tt _ ((ptr_typed p).0), ((ptr_typed p).1, (record { fits = fits }, tt))) $
    returns ! (look_at ! 0 refl) $ free_all ! refl $
    nothing ! $ use0 𝓛 (‵ (sized_own p n (sized_val p n ∷ []))) (sized_made 𝓛 p n fits) $ fjoin ! $ use0 𝓛 (raw (fact 𝓤 Said)) (fact_i 𝓤 Said (emp 𝓤) refl) $ nothing ! $ nothing ! $ fjoin ! $ nothing ! $ fjoin ! $ move ! (3 ∷ 0 ∷ 2 ∷ 1 ∷ []) $
    by ! (leaves 𝓛 En hs c z (sized_val p n) x (tt, (tt, tt)) (tt, (tt, tt))))))
