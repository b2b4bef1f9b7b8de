-- `into_loose` hands over what an open handle owns. Assumes `Logic`.
use Rattle.std.proofs.Common.{◌≡◌, ◌∙◌, List, [], ◌∷◌, ◌++◌, refl, ap}
use mir.Syntax.{Fn}
use mir.Val.{Val, vint}
use base.Logic.{SProp, emp}
use prog.Wp.{WpFn}
use contract.Monad.{fact, fact_i}
use contract.Running.{tables}
use base.Logic.{never, fst∗, id⊢}
use types.Logic.{sem}
use types.Kit.{‵, raw, ◌⊛◌, prop, ◌$◌, ◌∵◌, !, qed, by, move, keep, drop, use0, use1, split, regoal, rewrite, fsplit, fjoin, fpick}
use types.Part.{whole, sub, agg}
use types.Run.{stop, fld, of_opd, no_more, and_then, returns, enter}
use types.ByLocal.{alloc_all, pass_all, free_all, look_at, get, get_in, sets}
use mir.Raw.{raw as bare}
use mir.Val.{vptr}
use denote.RattleType.{RattleType, owns}
use denote.RawPtr.{Ptr, block_ptr, null_ptr, in_a_block}
use denote.Signature.{types_at}
use denote.Steps.{nothing, heard}
use denote.Memory.{lone}
use denote.Param.{layout}
use Rattle.std.specs.Prelude.{Option, Some}
use Rattle.std.specs.contracts.alloc.Global as heap
use Rattle.std.proofs.alloc.Global.TheLaws as heap_laws
use Rattle.std.specs.contracts.impls.GlobalAllocator.TheImpl.{ghosts}
use Rattle.core.proofs.cell.Inside.{one}
use Rattle.std_alloc.specs.Box.Ownership.{box_owns}
use Rattle.library_answers.specs.Talk.{Talk}
use Rattle.library_answers.specs.Owned.{owned}
use Rattle.library_answers.specs.contracts.conversation.Conversation as conversation
use Rattle.library_answers.proofs.Values.{both, Loose, loose_good, loose_in, sized_val, sized_told, sized_typed, slot_at}
use Rattle.library_answers.proofs.Opened.{has_talk}
use denote.Triple.Entry.{alive}
use denote.Triple.Walked.{Stays, stay_dropped, walk_of, Goes-dropped}
use Rattle.core.proofs.alloc.Calls.{Goes-blank}
use Rattle.std.proofs.raw_atomic.Walks.{proved_at, leaves}
use Rattle.library_answers.specs.contracts.handle.Handle as handle
use Rattle.library_answers.specs.contracts.handle.Handle.into_loose.{ended, clauses}
use Rattle.library_answers.specs.contracts.handle.Handle.into_loose.Key.{name as #self}
use Rattle.library_answers.proofs.handle.Handle.into_loose.Statement.{statement}
use Rattle.library_answers.proofs.handle.Handle.into_loose.Code as compiled

pub into_loose_spec : {M : Type 1} → statement M
into_loose_spec 𝓤 𝓛 𝓜 𝓡 wired =
    let H = 𝓛.H in
    let En = ended in
    let c = clauses 𝓛 𝓜.mem 𝓡.returns in
    let fn : Fn = compiled.function in
    let hs : Stays En.signature.params En.kept = (stay_dropped (slot_at 0 En.signature.params) En.kept.0, (stay_dropped (slot_at 1 En.signature.params) En.kept.1.0, tt)) in
    let C = (tables 𝓤 H 𝓜 𝓡 𝓡.env).C in
    let Λ = (tables 𝓤 H 𝓜 𝓡 𝓡.env).Λ in
    proved_at 𝓛 En hs c 𝓜 𝓡 (Goes-blank 𝓛 0 (slot_at 0 En.signature.params) En.kept.0 (λ κs x f. tt), (Goes-dropped 𝓛 0 (slot_at 1 En.signature.params) En.kept.1.0 (λ κs x f. refl), tt)) #self fn (compiled.unfolded 𝓤 H 𝓜 𝓡 wired) (λ z are.
    let Post : Val → SProp 𝓤 = (walk_of 𝓛 En hs c).post z in
    let R : RattleType = conversation.the_row in
    let Z : RattleType = heap.the_row in
    let LZ = heap_laws.the_row_laws in
    let x = z.0.3.0 in
    let a = z.0.3.1.0 in
    let n = x.is_open in
    let told = sized_told x.at n z.0.4.0 are.0.0 in
    let h = one (layout Z) z.0.4.1.0 ((LZ.lawful 𝓛).typed a z.0.4.1.0 are.1.0) in
    let Asked : Type 0 = n ≡ 1 in
    qed 𝓛 ((raw (alive 𝓛 En.signature z.0.0 z.0.1) ⊛ ‵ (owns (types_at En.signature.params z.0.0) z.0.3 z.0.4)) ∷ raw (fact 𝓤 Asked) ∷ []) ∵ move ! (1 ∷ []) $ heard ! Asked (λ asked. split ! $ move ! (1 ∷ []) $
    fsplit ! $ fsplit ! $ drop ! $
    let it = has_talk n x.talk x.tells asked in
    rewrite ! 0 (λ (t : Option Talk). ‵ (owned x.at t)) it.1 refl $
    fpick ! (λ heap₀. in_a_block ! x.at (λ p. box_owns (ghosts.dealloc_token heap₀) R p it.0) (fst∗ 𝓤 (never 𝓤) (sem 𝓛 (ghosts.dealloc_token heap₀ (bare (lone R.mir)) null_ptr))) (λ b o e.
    -- (the right to free a block does not read the handle)
    use1 𝓛 (‵ (box_owns (ghosts.dealloc_token a) R (block_ptr b o) it.0)) (id⊢ 𝓤 _) $
    move ! (1 ∷ []) $ fsplit ! $ rewrite ! 0 (λ (us : List Val). ‵ (Z.own_val a us)) h.1 refl $ keep ! (2 ∷ 0 ∷ 3 ∷ []) $
    let d : (Loose R Z LZ ghosts).Denot = record { at = block_ptr b o; alloc = a; value = it.0 } in
    let Said : Type 0 = x.talk ≡ Some d.value in
    regoal ! (λ (us : List Val). prop (WpFn 𝓤 H C Λ fn us Post)) (λ i. (told.0 ∙ ap (λ (p : Ptr). sized_val p n ∷ []) e) i ++ (h.1 i ++ [])) refl $
    enter ! C Λ fn (sized_val (block_ptr b o) n ∷ h.0 ∷ []) Post $ alloc_all ! (λ l. pass_all ! refl (sized_typed (block_ptr b o) n told.1, (h.2, tt)) $
    sets ! (of_opd ! (get_in ! (fld ! refl (stop !)) (sub ! 0 refl (whole !)))) refl (tt, tt) $ sets ! (of_opd ! (get ! refl)) refl (tt, tt) $
    sets ! (agg ! (and_then ! (get ! refl) (and_then ! (get ! refl) (no_more !)))) refl (loose_good R Z LZ ghosts b o h.0 h.2) $
    returns ! (look_at ! 0 refl) $ free_all ! refl $
    loose_in R Z LZ ghosts ! b o h.0 a it.0 $ use0 𝓛 (raw (fact 𝓤 Said)) (fact_i 𝓤 Said (emp 𝓤) it.1) $ nothing ! $ nothing ! $ fjoin ! $ nothing ! $ fjoin ! $ move ! (3 ∷ 0 ∷ 2 ∷ 1 ∷ []) $
    by ! (leaves 𝓛 En hs c z (both (vptr b o) h.0) d (tt, (tt, tt)) (tt, (tt, tt))))))))
