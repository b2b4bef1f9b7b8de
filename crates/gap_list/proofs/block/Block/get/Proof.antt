-- `get` shows one item of those that a `&` to the block shows. Assumes `Logic`.
use mathlib.Core.Path.{◌≡◌, refl, ◌∙◌}
use Prim.Native.Nat.{◌+◌, ◌*◌, ◌<◌, ◌^◌}
use native.Mathlib.Omega.{arith}
use mathlib.Core.List.{List, [], ◌∷◌, ◌++◌}
use lib.ListN.{length, get_or}
use base.Fraction.{full_share}
use mir.Syntax.{Fn, w64}
use mir.MapTy.{inst_fn}
use mir.Val.{Val, vptr, vint}
use base.Logic.{SProp, emp, never, id⊢}
use base.Fml.{Lft, Share, ftrue, fat, flft}
use prog.Wp.{Env, WpFn}
use contract.BorrowLft.{◌⊑◌}
use contract.Monad.{fact, fact_i}
use contract.Running.{tables}
use types.Kit.{‵, raw, ◌⊛◌, prop, at_ret, ◌$◌, ◌∵◌, !, qed, by, move, keep, drop, use0, use1, split, join, regoal, rewrite, fsplit, fjoin, feq_i, flt_l}
use types.Part.{whole, sub}
use types.Run.{stop, fld, addr, bin, size_lit, of_opd, first, blocks, exec, returns, enter}
use types.ByLocal.{alloc_all, pass_all, free_all, look_at, get, get_in, through, sets, sets_last, take_at, give_at, env}
use denote.Builtin.{RefOf, usize}
use denote.Memory.{hidden_shr}
use denote.Opens.{hide, unhide}
use denote.Ref.{Bor}
use denote.Param.{layout}
use denote.RattleType.{RattleType, owns}
use denote.RawPtr.{Ptr, in_a_block}
use denote.Signature.{plain, types_at}
use denote.Steps.{nothing, heard}
use denote.Triple.Entry.{alive}
use denote.Triple.Walked.{Stays, stay_dropped, walk_of, Goes-dropped}
use Rattle.core.proofs.alloc.Calls.{Al}
use Rattle.core.proofs.alloc.Shapes.{after}
use Rattle.core.proofs.mem.Param.{El, R}
use Rattle.core.proofs.ptr.Rows.{times_below, one_below}
use Rattle.core.proofs.slots.Leases.{args, P}
use Rattle.std.proofs.raw_atomic.Walks.{proved_at, leaves}
use Rattle.std.specs.Prelude.{Some, None}
use Rattle.std_alloc.proofs.RcSteps.{word, word-Good}
use Rattle.gap_list.specs.Inside.Places.{IsFilled}
use Rattle.gap_list.specs.Inside.Ownership.{place_seen, block_lends}
use Rattle.gap_list.proofs.Memory.{sz, Place, within, place_shown}
use Rattle.gap_list.specs.contracts.block.Block as block
use Rattle.gap_list.specs.contracts.block.Start as start
use Rattle.gap_list.proofs.block.Start.TheLaws.{lowers}
use Rattle.gap_list.specs.contracts.block.Block.get.{ended, clauses}
use Rattle.gap_list.specs.contracts.block.Block.get.Key.{name as #self}
use Rattle.gap_list.proofs.block.Block.get.Statement.{statement}
use Rattle.gap_list.proofs.block.Block.get.Code as code

pub get_spec : {M : Type 1} → statement M
get_spec 𝓤 𝓛 𝓜 𝓡 wired T A LT LA g d dd met md =
    let E : El = record { row = T; laws = LT } in
    let Z : Al = record { row = A; laws = LA; g = g; d = d; drops = dd } in
    let Bk : RattleType = block.the_row (R E) (P E Z) g in
    let f = ended T A g d dd in
    let c = clauses T A g d dd 𝓛 𝓜.mem 𝓡.returns in
    let fn : Fn = inst_fn (args E Z) code.function in
    let stays : Stays f.signature.params f.kept = (stay_dropped (RefOf (0 ∷ []) tt (plain (λ _. Bk)) (λ _. tt)) f.kept.0, (stay_dropped (plain (λ _. start.the_row)) f.kept.1.0, (stay_dropped (plain (λ _. usize)) f.kept.1.1.0, tt))) in
    let H = 𝓛.H in let C = (tables 𝓤 H 𝓜 𝓡 𝓡.env).C in let Λ = (tables 𝓤 H 𝓜 𝓡 𝓡.env).Λ in
    proved_at 𝓛 f stays c 𝓜 𝓡 (Goes-dropped 𝓛 3 (RefOf (0 ∷ []) tt (plain (λ _. Bk)) (λ _. tt)) f.kept.0 (λ κs x w. refl), (Goes-dropped 𝓛 3 (plain (λ _. start.the_row)) f.kept.1.0 (λ κs x w. refl), (Goes-dropped 𝓛 3 (plain (λ _. usize)) f.kept.1.1.0 (λ κs x w. refl), tt)))
    (#self (args E Z)) fn (code.unfolded 𝓤 H 𝓜 𝓡 wired (T, (A, tt)) d dd) (λ z are.
    let Post : Val → SProp 𝓤 = (walk_of 𝓛 f stays c).post z in
    let a = z.0.3 in let vss = z.0.4 in let κ : Lft = z.0.0.0 in let q : Share = z.0.1.0 in let κ₁ = z.0.0.1.0 in let κ₂ = z.0.0.1.1.0 in
    let rb = a.0.ref_ptr.0 in let ro = a.0.ref_ptr.1 in let k = a.0.now in let begin = a.1.0 in let i = a.1.1.0 in
    let begin_is = lowers.val_is begin vss.1.0 are.1.0 in let fits = are.1.1.0.1 in
    let Asked : Type 0 = (begin.ptr ≡ k.at) × IsFilled k.slots i in
    qed 𝓛 ((raw (alive 𝓛 f.signature z.0.0 z.0.1) ⊛ ‵ (owns (types_at f.signature.params z.0.0) a vss)) ∷ (raw (fact 𝓤 (κ₁ ⊑ T.lives)) ⊛ raw (fact 𝓤 (κ₂ ⊑ A.lives)) ⊛ raw (fact 𝓤 Asked)) ∷ []) ∵
    move ! (1 ∷ []) $ split ! $ drop ! $ split ! $ drop ! $ heard ! Asked (λ asked. split ! $ move ! (1 ∷ []) $
    fsplit ! $ move ! (1 ∷ []) $ drop ! $ fsplit ! $ drop ! $ move ! (1 ∷ []) $ use1 𝓛 (‵ (flft κ q) ⊛ (‵ (flft κ₁ z.0.1.1.0) ⊛ ‵ (flft κ₂ z.0.1.1.1.0) ⊛ ‵ ftrue)) (id⊢ 𝓤 _) $ split ! $ move ! (2 ∷ 0 ∷ []) $
    use1 𝓛 (‵ (hidden_shr Bk κ k rb ro)) (id⊢ 𝓤 _) $
    -- [the `&`; the token; the other tokens]
    regoal ! (λ (us : List Val). prop (WpFn 𝓤 H C Λ fn us Post)) (λ j. are.0.0 j ++ (begin_is j ++ (are.1.1.0.0 j ++ []))) refl $
    enter ! C Λ fn (vptr rb ro ∷ word begin.ptr ∷ vint w64 i ∷ []) Post $
    alloc_all ! (λ l. pass_all ! refl ((tt, tt), (word-Good [] begin.ptr, ((tt, record { fits = fits }), tt))) $ let En : Env 𝓤 𝓛.H = env fn.locals l in
    unhide ! $ fsplit ! $ drop ! $ in_a_block ! k.at (λ p. block_lends (R E) p k.slots κ) (id⊢ 𝓤 (never 𝓤)) (λ b o e. fsplit ! $ flt_l ! (λ all_small. fsplit ! $
    let s = sz E in let x = asked.1.0 in let inside = within k.slots i x asked.1.1 in
    let small : s < 2 ^ 64 = omega (arith, one_below (length k.slots) s (2 ^ 63) (omega arith) all_small) in
    let far : i * s < 2 ^ 64 = omega (arith, times_below i (length k.slots) s (2 ^ 63) (omega arith) all_small) in
    let shown : Bor T.Denot = record { ref_ptr = (b, i * s + o); now = x } in
    take_at ! 2 $ rewrite ! 0 (λ (p : Ptr). ‵ (fat full_share (layout start.the_row) (l 2) 0 (word p))) (asked.0 ∙ e) refl $ give_at ! 2 $
    first ! $ blocks ! $ sets ! (of_opd ! (get_in ! (fld ! refl (stop !)) (sub ! 0 refl (whole !)))) refl (tt, tt) $
    sets ! (bin ! (get ! refl) (size_lit ! (record { fits = small })) (record { fits = far })) refl (tt, record { fits = far }) $
    sets ! (bin ! (get ! refl) (get ! refl) tt) refl (tt, tt) $
    use1 𝓛 (‵ (place_seen (R E) b (i * s + o) (get_or k.slots i None) κ)) (place_shown E 𝓛 b κ k.slots i o (i * s + o) refl inside) $
    rewrite ! 0 (λ (u : Place E). ‵ (place_seen (R E) b (i * s + o) u κ)) asked.1.1 refl $ hide ! $
    sets_last ! (addr ! (through ! refl (stop !))) refl (tt, tt) $ exec ! C Λ En (after 1 fn.body) (at_ret En Post) $ sets ! (of_opd ! (get ! refl)) refl (tt, tt) $
    feq_i ! (List Val) (vptr b (i * s + o) ∷ []) (vptr b (i * s + o) ∷ []) refl $ fjoin ! $
    returns ! (look_at ! 0 refl) $ free_all ! refl $
    -- [the item's `&`; nothing; the token; the other tokens]
    move ! (2 ∷ 3 ∷ []) $ join ! $ nothing ! $ nothing ! $ fjoin ! $ nothing ! $ fjoin ! $ nothing ! $ fjoin ! $
    let Value : Type 0 = get_or k.slots i None ≡ Some x in use0 𝓛 (raw (fact 𝓤 Value)) (fact_i 𝓤 Value (emp 𝓤) asked.1.1) $ keep ! (2 ∷ 1 ∷ 3 ∷ 0 ∷ []) $
    by ! (leaves 𝓛 f stays c z (vptr b (i * s + o)) shown (tt, (tt, (tt, tt))) (tt, (tt, (tt, tt)))))))))
