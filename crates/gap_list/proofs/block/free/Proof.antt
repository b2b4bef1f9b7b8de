-- `free` makes one room of the empty places, and gives it back. Assumes `Logic`.
use mathlib.Core.Path.{◌≡◌, refl, sym, ap, subst}
use Prim.Native.Nat.{ℕ, ◌*◌, ◌<◌, ◌^◌}
use native.Mathlib.Omega.{arith}
use mathlib.Core.List.{List, [], ◌∷◌, ◌++◌}
use lib.Dec.{T as Holds}
use lib.ListN.{length, replicate, length-replicate}
use mir.Syntax.{Fn, ty_unit, ty_array, w64}
use mir.MapTy.{inst_fn}
use mir.Val.{Val, vptr, vint, vunit, has_ty, WT}
use base.Logic.{SProp, never, id⊢}
use base.Fml.{Lft, Share, ftrue, froom, flft}
use prog.Capped.{capped_fits}
use prog.Memory.{align, capped}
use prog.Wp.{Env, WpFn}
use contract.BorrowLft.{◌⊑◌, ⊑_trans}
use contract.Monad.{fact}
use contract.Running.{tables}
use types.Kit.{‵, raw, ◌⊛◌, given, later, learn, prop, at_ret, ◌$◌, ◌∵◌, !, qed, by, move, keep, drop, use1, await, split, join, group, regoal, rewrite, fsplit, fjoin, feq_i, flt_l}
use types.Part.{whole, sub}
use types.Run.{stop, fld, bin, size_word, align_word, unit_lit, of_opd, and_then, no_more, first, blocks, exec, returns, enter}
use types.ByLocal.{alloc_all, pass_all, free_all, look_at, get, get_in, is, sets, lands_last, env}
use denote.Builtin.{RefOf, usize}
use denote.RattleType.{RattleType, owns}
use denote.RawPtr.{Ptr, block_ptr, in_a_block}
use denote.Signature.{plain, types_at}
use denote.Steps.{nothing, heard}
use denote.Triple.Call.{calls_at_last}
use denote.Triple.Entry.{alive}
use denote.Triple.Walked.{Stays, stay_dropped, walk_of, Goes-dropped}
use Rattle.core.proofs.alloc.Calls.{Al, seen, Goes-blank, Gives, at_gives, Gives-goes, Gives-Gives}
use Rattle.core.proofs.alloc.Shapes.{after}
use Rattle.core.proofs.atomic.Steps.{fm}
use Rattle.core.proofs.mem.Param.{El, R, elτ}
use Rattle.core.proofs.slots.Leases.{uncapped, block_ty, block_size, block_align, args, P}
use Rattle.std.proofs.raw_atomic.Walks.{proved_at, leaves}
use Rattle.std.specs.Prelude.{None}
use Rattle.std_alloc.proofs.RawLayout.{as_raw}
use Rattle.std_alloc.proofs.RcSteps.{word}
use Rattle.gap_list.specs.Inside.Ownership.{deed, block_owns}
use Rattle.gap_list.proofs.Memory.{sz, Place, to_room}
use Rattle.gap_list.proofs.Values.{block_val, block_is}
use Rattle.gap_list.specs.contracts.block.Block as block
use Rattle.gap_list.specs.contracts.block.Start as start
use Rattle.gap_list.proofs.block.Start.TheLaws.{lowers}
use Rattle.gap_list.specs.contracts.block.free.{ended, clauses}
use Rattle.gap_list.specs.contracts.block.free.Key.{name as #self}
use Rattle.gap_list.proofs.block.free.Statement.{statement}
use Rattle.gap_list.proofs.block.free.Code as code

pub free_spec : {M : Type 1} → statement M
free_spec 𝓤 𝓛 𝓜 𝓡 wired T A LT LA g d dd met md =
    let E : El = record { row = T; laws = LT } in
    let Z : Al = record { row = A; laws = LA; g = g; d = d; drops = dd } in
    let Bk : RattleType = block.the_row (R E) (P E Z) g in
    let f = ended T A g d dd in
    let c = clauses T A g d dd 𝓛 𝓜.mem 𝓡.returns in
    let fn : Fn = inst_fn (args E Z) code.function in
    let stays : Stays f.signature.params f.kept = (stay_dropped (RefOf (0 ∷ []) tt (plain (λ _. P E Z)) (λ _. tt)) f.kept.0, (stay_dropped (plain (λ _. start.the_row)) f.kept.1.0, (stay_dropped (plain (λ _. usize)) f.kept.1.1.0, (stay_dropped (plain (λ _. Bk)) f.kept.1.1.1.0, tt)))) in
    let H = 𝓛.H in let C = (tables 𝓤 H 𝓜 𝓡 𝓡.env).C in let Λ = (tables 𝓤 H 𝓜 𝓡 𝓡.env).Λ in
    proved_at 𝓛 f stays c 𝓜 𝓡 (Goes-dropped 𝓛 3 (RefOf (0 ∷ []) tt (plain (λ _. P E Z)) (λ _. tt)) f.kept.0 (λ κs x w. refl), (Goes-dropped 𝓛 3 (plain (λ _. start.the_row)) f.kept.1.0 (λ κs x w. refl), (Goes-dropped 𝓛 3 (plain (λ _. usize)) f.kept.1.1.0 (λ κs x w. refl), (Goes-blank 𝓛 3 (plain (λ _. Bk)) f.kept.1.1.1.0 (λ κs x w. tt), tt))))
    (#self (args E Z)) fn (code.unfolded 𝓤 H 𝓜 𝓡 wired (T, (A, tt)) d dd) (λ z are.
    let Post : Val → SProp 𝓤 = (walk_of 𝓛 f stays c).post z in
    let a = z.0.3 in let vss = z.0.4 in let κ : Lft = z.0.0.0 in let q : Share = z.0.1.0 in let κ₁ = z.0.0.1.0 in let κ₂ = z.0.0.1.1.0 in
    let rb = a.0.ref_ptr.0 in let ro = a.0.ref_ptr.1 in let h = a.0.now in let begin = a.1.0 in let n = a.1.1.0 in let k = a.1.1.1.0 in
    let begin_is = lowers.val_is begin vss.1.0 are.1.0 in let fits = are.1.1.0.1 in let marked = block_is vss.1.1.1.0 are.1.1.1.0.0 in
    let Asked : Type 0 = (k.at ≡ begin.ptr) × (k.slots ≡ replicate n None) × (k.alloc ≡ h) in
    qed 𝓛 ((raw (alive 𝓛 f.signature z.0.0 z.0.1) ⊛ ‵ (owns (types_at f.signature.params z.0.0) a vss)) ∷ (raw (fact 𝓤 (κ₁ ⊑ T.lives)) ⊛ raw (fact 𝓤 (κ₂ ⊑ A.lives)) ⊛ raw (fact 𝓤 Asked)) ∷ []) ∵
    move ! (1 ∷ []) $ split ! $ drop ! $ split ! $ heard ! (κ₂ ⊑ A.lives) (λ lives. heard ! Asked (λ asked. split ! $ move ! (1 ∷ []) $
    fsplit ! $ fsplit ! $ drop ! $ use1 𝓛 (‵ (seen Z κ (rb, ro) h)) (id⊢ 𝓤 _) $ move ! (1 ∷ []) $ fsplit ! $ drop ! $ fsplit ! $ drop ! $ fsplit ! $ fsplit ! $ drop ! $
    move ! (3 ∷ []) $ use1 𝓛 (‵ (flft κ q) ⊛ (‵ (flft κ₁ z.0.1.1.0) ⊛ ‵ (flft κ₂ z.0.1.1.1.0) ⊛ ‵ ftrue)) (id⊢ 𝓤 _) $ split ! $ keep ! (2 ∷ 4 ∷ 0 ∷ 1 ∷ []) $
    -- [what the block owns; the `&` to the allocator; the token; the other tokens]
    regoal ! (λ (us : List Val). prop (WpFn 𝓤 H C Λ fn us Post)) (λ j. are.0.0 j ++ (begin_is j ++ (are.1.1.0.0 j ++ (marked j ++ [])))) refl $
    rewrite ! 0 (λ (u : A.Denot × Ptr × List (Place E)). ‵ (block_owns (R E) (g.dealloc_token u.0) u.1 u.2)) (λ j. (asked.2 j, asked.0 j, asked.1 j)) refl $
    in_a_block ! begin.ptr (λ p. block_owns (R E) (g.dealloc_token h) p (replicate n None)) (id⊢ 𝓤 (never 𝓤)) (λ b o e. fsplit ! $ flt_l ! (λ all_small. fsplit ! $
    let s = sz E in let al : ℕ = capped (align (elτ E)) in
    let empty : List (Place E) = replicate n None in let long : length empty ≡ n = length-replicate n None in
    let small : n * s < 2 ^ 63 = subst (λ m. m * s < 2 ^ 63) long all_small in let bytes : n * s < 2 ^ 64 = omega arith in
    let y = at_gives Z 𝓛 𝓜.mem 𝓡.returns κ q (rb, ro) h b o (n * s) al (block_ty E n) in
    regoal ! (λ (p : Ptr). prop (WpFn 𝓤 H C Λ fn (vptr rb ro ∷ word p ∷ vint w64 n ∷ block_val ∷ []) Post)) e refl $
    use1 𝓛 (‵ (froom (ty_array (elτ E) n) b o)) (to_room E 𝓛 b n o) $ as_raw ! (ty_array (elτ E) n) b o $
    rewrite ! 1 (λ (m : ℕ). ‵ (deed (R E) (g.dealloc_token h) (block_ptr b o) m)) long refl $
    enter ! C Λ fn (vptr rb ro ∷ word (block_ptr b o) ∷ vint w64 n ∷ block_val ∷ []) Post $
    alloc_all ! (λ l. pass_all ! refl ((tt, tt), ((tt, (tt, tt)), ((tt, record { fits = fits }), ((tt, (tt, tt)), tt)))) $ let En : Env 𝓤 𝓛.H = env fn.locals l in
    first ! $ blocks ! $
    sets ! (is ! (bin ! (get ! refl) (size_word !) (record { fits = subst (λ (k : ℕ). k < 2 ^ 64) (sym (uncapped n s bytes)) bytes })) (ap (vint w64) (uncapped n s bytes))) refl (tt, record { fits = bytes }) $
    group ! 4 $ use1 𝓛 (raw ((Gives Z 𝓛 𝓜.mem 𝓡.returns).pre y)) (Gives-goes Z 𝓛 𝓜.mem 𝓡.returns κ q (rb, ro) h (⊑_trans κ κ₂ A.lives z.0.2.0 lives) b o (n * s) al (block_ty E n) (block_size E n bytes) (block_align E n) bytes (capped_fits (align (elτ E)))) $
    calls_at_last ! (fm 𝓛 𝓜 𝓡) (Gives Z 𝓛 𝓜.mem 𝓡.returns) (met.deallocate dd) y (and_then ! (get ! refl) (and_then ! (get_in ! (fld ! refl (stop !)) (sub ! 0 refl (whole !))) (and_then ! (get ! refl) (and_then ! (align_word !) (no_more !))))) (λ v.
    use1 𝓛 (later (given (v ≡ vunit) (‵ (flft κ q)))) (Gives-Gives Z 𝓛 𝓜.mem 𝓡.returns κ q (rb, ro) h b o (n * s) al (block_ty E n) v) $ await ! tt $ learn ! (λ is_unit.
    lands_last ! refl (subst (λ (u : Val). Holds (has_ty ty_unit u) × WT u) (sym is_unit) (tt, tt)) $ exec ! C Λ En (after 1 fn.body) (at_ret En Post) $
    sets ! (of_opd ! (unit_lit !)) refl (tt, tt) $ returns ! (look_at ! 0 refl) $ free_all ! refl $
    -- [the token; the other tokens]
    join ! $ feq_i ! (List Val) (vunit ∷ []) (vunit ∷ []) refl $ nothing ! $ nothing ! $ nothing ! $ fjoin ! $ nothing ! $ fjoin ! $ nothing ! $ fjoin ! $ nothing ! $ fjoin ! $ move ! (3 ∷ 0 ∷ 2 ∷ 1 ∷ []) $
    by ! (leaves 𝓛 f stays c z vunit tt (tt, (tt, (tt, (tt, tt)))) (tt, (tt, (tt, (tt, tt)))))))))))))
