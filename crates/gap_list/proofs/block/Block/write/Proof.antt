-- `write` fills the room of an empty place. Assumes `Logic`.
use mathlib.Core.Path.{◌≡◌, refl, sym, subst, ◌∙◌}
use Prim.Native.Nat.{ℕ, ◌+◌, ◌*◌, ◌<◌, ◌^◌}
use native.Mathlib.Omega.{arith}
use mathlib.Core.List.{List, [], ◌∷◌, ◌++◌}
use lib.ListN.{length, set, get_or, length-set}
use base.Fraction.{full_share}
use mir.Syntax.{Fn, w64}
use mir.MapTy.{inst_fn}
use mir.Val.{Val, vptr, vint, vunit}
use base.Logic.{SProp, emp, never, id⊢}
use base.Fml.{Lft, Share, ftrue, fat, flft}
use prog.Wp.{Env, WpFn}
use contract.BorrowLft.{◌⊑◌}
use contract.Monad.{fact, fact_i}
use contract.Running.{tables}
use types.Kit.{‵, raw, ◌⊛◌, prop, at_ret, ◌$◌, ◌∵◌, !, qed, by, move, keep, drop, use0, use1, use2, split, join, regoal, rewrite, fsplit, fsplit3, fjoin, fjoin3, feq_i, flt_i, flt_l}
use types.Part.{whole, sub}
use types.Run.{init, stop, fld, bin, size_lit, of_opd, unit_lit, assigns_last, first, blocks, exec, returns, enter}
use types.ByLocal.{alloc_all, pass_all, free_all, look_at, get, get_in, through, sets, take_at, give_at, env}
use denote.Builtin.{usize}
use denote.Param.{layout}
use denote.RattleType.{RattleType, owns}
use denote.RawPtr.{Ptr, block_ptr, in_a_block}
use denote.Signature.{plain, types_at}
use denote.Steps.{nothing, heard, opens, closes}
use denote.Triple.Entry.{alive}
use denote.Triple.Walked.{Stays, stay_dropped, stay_ref, walk_of, Goes-dropped, Goes-ref}
use Rattle.core.proofs.alloc.Calls.{Al}
use Rattle.core.proofs.alloc.Shapes.{after}
use Rattle.core.proofs.mem.Param.{El, R, elτ, lawful, one}
use Rattle.core.proofs.ptr.Rows.{times_below, one_below}
use Rattle.core.proofs.slots.Leases.{args, P}
use Rattle.std.proofs.raw_atomic.Walks.{proved_at, leaves}
use Rattle.std.specs.Prelude.{Some, None}
use Rattle.std_alloc.proofs.RawLayout.{as_written}
use Rattle.std_alloc.proofs.RcSteps.{word, word-Good}
use Rattle.gap_list.specs.Inside.Ownership.{place, places, deed, block_owns}
use Rattle.gap_list.proofs.Memory.{sz, Place, item_in, Besides, place_out, place_in}
use Rattle.gap_list.specs.contracts.block.Block as block
use Rattle.gap_list.specs.contracts.block.Start as start
use Rattle.gap_list.proofs.block.Start.TheLaws.{lowers}
use Rattle.gap_list.specs.contracts.block.Block.write.{ended, clauses}
use Rattle.gap_list.specs.contracts.block.Block.write.Key.{name as #self}
use Rattle.gap_list.proofs.block.Block.write.Statement.{statement}
use Rattle.gap_list.proofs.block.Block.write.Code as code

pub write_spec : {M : Type 1} → statement M
write_spec 𝓤 𝓛 𝓜 𝓡 wired T A LT LA g d dd met md =
    let E : El = record { row = T; laws = LT } in
    let Z : Al = record { row = A; laws = LA; g = g; d = d; drops = dd } in
    let Bk : RattleType = block.the_row (R E) (P E Z) g in
    let f = ended T A g d dd in
    let c = clauses T A g d dd 𝓛 𝓜.mem 𝓡.returns in
    let fn : Fn = inst_fn (args E Z) code.function in
    let stays : Stays f.signature.params f.kept = (stay_ref (0 ∷ []) tt (plain (λ _. Bk)), (stay_dropped (plain (λ _. start.the_row)) f.kept.1.0, (stay_dropped (plain (λ _. usize)) f.kept.1.1.0, (stay_dropped (plain (λ _. R E)) f.kept.1.1.1.0, tt)))) in
    let H = 𝓛.H in let C = (tables 𝓤 H 𝓜 𝓡 𝓡.env).C in let Λ = (tables 𝓤 H 𝓜 𝓡 𝓡.env).Λ in
    proved_at 𝓛 f stays c 𝓜 𝓡 (Goes-ref 𝓛 3 0 tt (plain (λ _. Bk)), (Goes-dropped 𝓛 3 (plain (λ _. start.the_row)) f.kept.1.0 (λ κs x w. refl), (Goes-dropped 𝓛 3 (plain (λ _. usize)) f.kept.1.1.0 (λ κs x w. refl), (Goes-dropped 𝓛 3 (plain (λ _. R E)) f.kept.1.1.1.0 (λ κs x w. refl), tt))))
    (#self (args E Z)) fn (code.unfolded 𝓤 H 𝓜 𝓡 wired (T, (A, tt)) d dd) (λ z are.
    let Post : Val → SProp 𝓤 = (walk_of 𝓛 f stays c).post z in
    let a = z.0.3 in let vss = z.0.4 in let κ : Lft = z.0.0.0 in let q : Share = z.0.1.0 in let κ₁ = z.0.0.1.0 in let κ₂ = z.0.0.1.1.0 in
    let rb = a.0.ref_ptr.0 in let ro = a.0.ref_ptr.1 in let k = a.0.now in let begin = a.1.0 in let i = a.1.1.0 in let x = a.1.1.1.0 in
    let begin_is = lowers.val_is begin vss.1.0 are.1.0 in let fits = are.1.1.0.1 in
    let item = one E vss.1.1.1.0 ((lawful E 𝓛).typed x vss.1.1.1.0 are.1.1.1.0) in let v = item.0 in let good = item.2 in
    let Asked : Type 0 = (begin.ptr ≡ k.at) × (i < length k.slots) × (get_or k.slots i None ≡ None) in
    qed 𝓛 ((raw (alive 𝓛 f.signature z.0.0 z.0.1) ⊛ ‵ (owns (types_at f.signature.params z.0.0) a vss)) ∷ (raw (fact 𝓤 (κ₁ ⊑ T.lives)) ⊛ raw (fact 𝓤 (κ₂ ⊑ A.lives)) ⊛ raw (fact 𝓤 Asked)) ∷ []) ∵
    move ! (1 ∷ []) $ split ! $ drop ! $ split ! $ drop ! $ heard ! Asked (λ asked. split ! $ move ! (1 ∷ []) $
    fsplit ! $ fsplit3 ! $ drop ! $ move ! (2 ∷ []) $ fsplit ! $ drop ! $ fsplit ! $ drop ! $ fsplit ! $ rewrite ! 0 (λ (vs : List Val). ‵ (T.own_val x vs)) item.1 refl $
    move ! (4 ∷ []) $ use1 𝓛 (‵ (flft κ q) ⊛ (‵ (flft κ₁ z.0.1.1.0) ⊛ ‵ (flft κ₂ z.0.1.1.1.0) ⊛ ‵ ftrue)) (id⊢ 𝓤 _) $ split ! $ keep ! (4 ∷ 5 ∷ 0 ∷ 1 ∷ 2 ∷ []) $
    -- [the loan's value; its borrow; the token; the other tokens; the item]
    regoal ! (λ (us : List Val). prop (WpFn 𝓤 H C Λ fn us Post)) (λ j. are.0.0 j ++ (begin_is j ++ (are.1.1.0.0 j ++ (item.1 j ++ [])))) refl $
    enter ! C Λ fn (vptr rb ro ∷ word begin.ptr ∷ vint w64 i ∷ v ∷ []) Post $
    alloc_all ! (λ l. pass_all ! refl ((tt, tt), (word-Good [] begin.ptr, ((tt, record { fits = fits }), (good, tt)))) $ let En : Env 𝓤 𝓛.H = env fn.locals l in
    opens ! tt Bk {h = k} rb ro (λ vs. move ! (1 ∷ []) $ fsplit ! $ move ! (1 ∷ []) $
    in_a_block ! k.at (λ p. block_owns (R E) (g.dealloc_token k.alloc) p k.slots) (id⊢ 𝓤 (never 𝓤)) (λ b o e. fsplit ! $ flt_l ! (λ all_small. fsplit ! $
    let s = sz E in let inside = asked.1 in
    let small : s < 2 ^ 64 = omega (arith, one_below (length k.slots) s (2 ^ 63) (omega arith) all_small) in
    let far : i * s < 2 ^ 64 = omega (arith, times_below i (length k.slots) s (2 ^ 63) (omega arith) all_small) in
    let new : Bk.Denot = record { mark = k.mark; at = k.at; slots = set k.slots i (Some x); alloc = k.alloc } in
    let same : length k.slots ≡ length new.slots = sym (length-set k.slots i (Some x)) in
    take_at ! 2 $ rewrite ! 0 (λ (p : Ptr). ‵ (fat full_share (layout start.the_row) (l 2) 0 (word p))) (asked.0 ∙ e) refl $ give_at ! 2 $
    first ! $ blocks ! $ sets ! (of_opd ! (get_in ! (fld ! refl (stop !)) (sub ! 0 refl (whole !)))) refl (tt, tt) $
    sets ! (bin ! (get ! refl) (size_lit ! (record { fits = small })) (record { fits = far })) refl (tt, record { fits = far }) $
    sets ! (bin ! (get ! refl) (get ! refl) tt) refl (tt, tt) $
    use1 𝓛 (‵ (place (R E) b (i * s + o) (get_or k.slots i None)) ⊛ ‵ (Besides E 𝓛 b o k.slots i)) (place_out E 𝓛 b k.slots i o (i * s + o) refl inside) $ split ! $
    rewrite ! 0 (λ (u : Place E). ‵ (place (R E) b (i * s + o) u)) asked.2 refl $ as_written ! (elτ E) b (i * s + o) $
    sets ! (of_opd ! (get ! refl)) refl good $ assigns_last ! (of_opd ! (get ! refl)) (through ! refl (stop !)) (init ! 0 refl good) $
    exec ! C Λ En (after 1 fn.body) (at_ret En Post) $ sets ! (of_opd ! (unit_lit !)) refl (tt, tt) $
    -- [the item's bytes; the other places; the deed; the mark; its cell; the open borrow, in three entries; the other tokens; what the item owns]
    move ! (0 ∷ 9 ∷ []) $ use2 𝓛 (‵ (place (R E) b (i * s + o) (Some x))) (item_in E 𝓛 b x (i * s + o) v) $
    use2 𝓛 (‵ (places (R E) b o new.slots)) (place_in E 𝓛 b k.slots i o (i * s + o) (Some x) refl inside) $
    rewrite ! 1 (λ (n : ℕ). ‵ (deed (R E) (g.dealloc_token k.alloc) (block_ptr b o) n)) same refl $ fjoin ! $
    flt_i ! (length new.slots * s) (2 ^ 63) (subst (λ n. n * s < 2 ^ 63) same all_small) $ fjoin ! $
    rewrite ! 0 (λ (p : Ptr). ‵ (block_owns (R E) (g.dealloc_token k.alloc) p new.slots)) (sym e) refl $ move ! (1 ∷ 0 ∷ []) $ fjoin ! $ move ! (1 ∷ 0 ∷ []) $ closes ! tt Bk new vs rb ro $
    returns ! (look_at ! 0 refl) $ free_all ! refl $
    -- [the loan's value; its borrow; the token; the other tokens]
    feq_i ! (List Val) vss.0 (vptr rb ro ∷ []) are.0.0 $ fjoin3 ! $ nothing ! $ nothing ! $ fjoin ! $ nothing ! $ fjoin ! $ nothing ! $ fjoin ! $ move ! (1 ∷ 0 ∷ []) $ fjoin ! $ move ! (1 ∷ 2 ∷ []) $ join ! $
    let Slots : Type 0 = (k.at ≡ k.at) × (k.alloc ≡ k.alloc) × (new.slots ≡ new.slots) in
    use0 𝓛 (raw (fact 𝓤 Slots)) (fact_i 𝓤 Slots (emp 𝓤) (refl, refl, refl)) $ feq_i ! (List Val) (vunit ∷ []) (vunit ∷ []) refl $ move ! (2 ∷ 3 ∷ 0 ∷ 1 ∷ []) $
    by ! (leaves 𝓛 f stays c z vunit tt (new, (tt, (tt, (tt, tt)))) (tt, (tt, (tt, (tt, tt)))))))))))
