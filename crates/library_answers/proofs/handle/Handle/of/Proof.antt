-- `of` takes over what the box owns. Assumes `Logic`.
use Rattle.std.proofs.Common.{◌≡◌, List, [], ◌∷◌, ◌++◌, refl, w64}
use mir.Syntax.{Fn}
use mir.Val.{Val, vint}
use base.Logic.{SProp, emp}
use prog.Wp.{WpFn}
use contract.Monad.{fact, fact_i}
use contract.Running.{tables}
use types.Kit.{‵, raw, ◌⊛◌, prop, ◌$◌, ◌∵◌, !, qed, by, move, keep, use0, split, regoal, fsplit, fjoin, fpack}
use types.Part.{agg, sub, whole}
use types.Run.{stop, fld, of_opd, no_more, and_then, returns, enter}
use types.ByLocal.{alloc_all, pass_all, free_all, look_at, get, get_in, sets}
use denote.RattleType.{RattleType, owns}
use denote.RawPtr.{block_ptr}
use denote.Signature.{types_at}
use denote.Steps.{nothing, heard}
use mir.Val.{vptr}
use Rattle.std.specs.Prelude.{Some}
use Rattle.std.specs.declared.alloc.Global.{Global}
use Rattle.std.specs.contracts.alloc.Global as heap
use Rattle.std.proofs.alloc.Global.TheLaws as heap_laws
use Rattle.std.specs.contracts.impls.GlobalAllocator.TheImpl.{ghosts}
use Rattle.std_alloc.specs.Box.Ownership.{box_owns}
use Rattle.library_answers.specs.contracts.conversation.Conversation as conversation
use Rattle.library_answers.proofs.Values.{both, loose_good, loose_out, sized_val, sized_own, sized_made, sized_typed, slot_at}
use denote.Triple.Entry.{alive}
use denote.Triple.Walked.{Stays, stay_dropped, walk_of, Goes-dropped}
use Rattle.core.proofs.alloc.Calls.{Goes-blank}
use Rattle.std.proofs.raw_atomic.Walks.{proved_at, leaves}
use Rattle.library_answers.specs.contracts.handle.Handle as handle
use Rattle.library_answers.specs.contracts.handle.Handle.of.{ended, clauses}
use Rattle.library_answers.specs.contracts.handle.Handle.of.Key.{name as #self}
use Rattle.library_answers.proofs.handle.Handle.of.Statement.{statement}
use Rattle.library_answers.proofs.handle.Handle.of.Code as compiled

pub of_spec : {M : Type 1} → statement M
of_spec 𝓤 𝓛 𝓜 𝓡 wired =
    let H = 𝓛.H in
    let En = ended in
    let c = clauses 𝓛 𝓜.mem 𝓡.returns in
    let fn : Fn = compiled.function in
    let hs : Stays En.signature.params En.kept = (stay_dropped (slot_at 0 En.signature.params) En.kept.0, (stay_dropped (slot_at 1 En.signature.params) En.kept.1.0, tt)) in
    let C = (tables 𝓤 H 𝓜 𝓡 𝓡.env).C in
    let Λ = (tables 𝓤 H 𝓜 𝓡 𝓡.env).Λ in
    proved_at 𝓛 En hs c 𝓜 𝓡 (Goes-blank 𝓛 0 (slot_at 0 En.signature.params) En.kept.0 (λ κs x f. tt), (Goes-dropped 𝓛 0 (slot_at 1 En.signature.params) En.kept.1.0 (λ κs x f. refl), tt)) #self fn (compiled.unfolded 𝓤 H 𝓜 𝓡 wired) (λ z are.
    let Post : Val → SProp 𝓤 = (walk_of 𝓛 En hs c).post z in
    let R : RattleType = conversation.the_row in
    let Z : RattleType = heap.the_row in
    let LZ = heap_laws.the_row_laws in
    let d = z.0.3.0 in
    let n = z.0.3.1.0 in
    let fits = are.1.0.1 in
    let Asked : Type 0 = n ≡ 1 in
    qed 𝓛 ((raw (alive 𝓛 En.signature z.0.0 z.0.1) ⊛ ‵ (owns (types_at En.signature.params z.0.0) z.0.3 z.0.4)) ∷ raw (fact 𝓤 Asked) ∷ []) ∵ move ! (1 ∷ []) $ heard ! Asked (λ asked. split ! $ move ! (1 ∷ []) $
    fsplit ! $ loose_out R Z LZ ghosts ! d z.0.4.0 (λ b o h e ws good. keep ! (0 ∷ 3 ∷ []) $
    fpack ! Global (λ (heap : Global). box_owns (ghosts.dealloc_token heap) R (block_ptr b o) d.value) d.alloc $
    let x : handle.the_row.Denot = record { at = block_ptr b o; is_open = n; talk = Some d.value; tells = asked } in
    let Said : Type 0 = x.talk ≡ Some d.value in
    regoal ! (λ (us : List Val). prop (WpFn 𝓤 H C Λ fn us Post)) (λ i. ws i ++ (are.1.0.0 i ++ [])) refl $
    enter ! C Λ fn (both (vptr b o) h ∷ vint w64 n ∷ []) Post $ alloc_all ! (λ l. pass_all ! refl (loose_good R Z LZ ghosts b o h good, ((tt, record { fits = fits }), tt)) $
    sets ! (of_opd ! (get_in ! (fld ! refl (stop !)) (sub ! 0 refl (whole !)))) refl (tt, tt) $ sets ! (of_opd ! (get ! refl)) refl (tt, tt) $
    sets ! (agg ! (and_then ! (get ! refl) (and_then ! (get ! refl) (no_more !)))) refl (sized_typed (block_ptr b o) n fits) $
    returns ! (look_at ! 0 refl) $ free_all ! refl $
    use0 𝓛 (‵ (sized_own x.at n (sized_val x.at n ∷ []))) (sized_made 𝓛 x.at n fits) $ fjoin ! $ use0 𝓛 (raw (fact 𝓤 Said)) (fact_i 𝓤 Said (emp 𝓤) refl) $ nothing ! $ nothing ! $ fjoin ! $ nothing ! $ fjoin ! $ move ! (3 ∷ 0 ∷ 2 ∷ 1 ∷ []) $
    by ! (leaves 𝓛 En hs c z (sized_val x.at n) x (tt, (tt, tt)) (tt, (tt, tt)))))))
