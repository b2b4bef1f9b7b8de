-- What one Unpickler that loads again holds, where nothing is lost: what the lines say that ignore frames.
use Rattle.std.proofs.Common.{◌≡◌, ◌⊎◌, ℕ, zero, suc, ◌<◌, Bool, true, false, List, [], Option, Some, None, Ok, Err, refl, sym, ap, subst, ◌∙◌, inl, inr, arith}
use Rattle.std.specs.Prelude.{if◌then◌else◌, Result}
use Rattle.pickle_ops.specs.declared.fault.FrontFault.{FrontFault}
use Rattle.pickle_ops.specs.declared.row.Row.{Row}
use Rattle.pickle_machine.specs.declared.refusal.Refusal.{Refusal}
use Rattle.pickle_machine.specs.declared.loader.LoaderMove.{LoaderMove}
use Rattle.pickle_machine.specs.State.{State}
use Rattle.pickle_machine.specs.Move.{fresh}
use Rattle.pickle_machine.specs.Loader.{loader_move}
use Rattle.pickle_lenient.specs.declared.taken.Frames.{Frames}
use Rattle.pickle_lenient.specs.declared.taken.Frames.TheVariants as frames
use Rattle.pickle_lenient.specs.declared.taken.Taken.{Taken}
use Rattle.pickle_lenient.specs.Row.{is_far}
use Rattle.pickle_lenient.specs.Stream.{taken}
use Rattle.pickle_doc.specs.declared.fault.TailFault.TheVariants as tail
use Rattle.pickle_ops.specs.declared.fault.FrontFault.TheVariants as fault
use Rattle.pickle_calls.specs.declared.naming.Detail.{Detail}
use Rattle.pickle_calls.specs.declared.naming.Detail.TheVariants as detail
use Rattle.pickle_text.specs.declared.closing.Closing.TheVariants as closing
use Rattle.pickle_further.specs.declared.way.Pickles.TheVariants as pickles
use Rattle.pickle_further.specs.declared.way.Spot.{Spot}
use Rattle.pickle_further.specs.declared.way.Way.{Way}
use Rattle.pickle_further.specs.Going.{Standing, Going as Gone, refused_at, used_op, moved_so, gone_to, gone_by, going}
use Rattle.pickle_further.specs.Parts.{ignoring, standing_first}
use Rattle.pickle_loader.specs.Environment.{Value, Plain, World}
use Rattle.pickle_ops.specs.declared.kind.Kind.TheVariants as kind
use Rattle.pickle_loader.specs.Dispatch.{Loaded, Going, Ended, Failed}
use Rattle.pickle_loader.specs.Laws.{Holds}
use Rattle.pickle_loader.specs.Onward.{Onward, reads_on, load_read, load_on, load_way, stands, state_on, state_behind, unbuffered, NoneLost}
use Rattle.pickle_loader.specs.Text.{way_of}
use Rattle.pickle_loader.proofs.Items.{none_taken}
use Rattle.pickle_loader.proofs.Onwards.{Raises, EndsWith, HoldsBehind}
use Rattle.pickle_loader.proofs.Ways.{state_is, ByItems}
use Rattle.pickle_loader.proofs.Buffers.{plain_item, buffered_same, flat, flat_to, alike_all}
use Rattle.pickle_loader.proofs.Details.{stands_named, over_named}

-- where it raised nothing is left to say
pub raised_holds : (w : World) (V : ℕ → Value) (s : State) (l : Loaded) → Raises l → Holds w V s l
raised_holds w V s (Going u) raises = absurd raises
raised_holds w V s (Ended v u) raises = absurd raises
raised_holds w V s (Failed acts) raises = tt

-- ---- an item

refused_raises : (r : Row) (at : Spot) (e : Refusal) (b : Bool) (l : Loaded) → EndsWith (Some (if b then closing.Fault (tail.Front fault.BadArgument) at.offset else closing.Refused at.place e)) l → Raises l
refused_raises r at e true l ends = ends
refused_raises r at e false l ends = ends

abbrev HoldsHere : World → (ℕ → Value) → Way → Standing → Loaded → Type 0
HoldsHere w V way q l = Holds w V (going (ignoring way.pickles) (unbuffered q)).state l

plainly_goes : (way : Way) (q : Standing) (item : Taken) → taken frames.Ignored 0 q.rest ≡ Ok (plain_item item) → going (ignoring way.pickles) (unbuffered q) ≡ gone_by (ignoring way.pickles) (unbuffered q) (Ok (plain_item item))
unfolding going
plainly_goes way q item e = ap (gone_by (ignoring way.pickles) (unbuffered q)) e

holds_to : (w : World) (V : ℕ → Value) (way : Way) (q : Standing) (item : Taken) (l : Loaded) (z : Result State Refusal) → taken way.frames q.at.left q.rest ≡ Ok item
    → moved_so (loader_move item.op.opcode item.row (fresh q.state)) (used_op (loader_move item.op.opcode item.row (fresh q.state)) item.op) q.at.place q.state ≡ z
    → (gone_to way q item (loader_move item.op.opcode item.row (fresh q.state)) z).gone.lost ≡ false → HoldsBehind w V (gone_to way q item (loader_move item.op.opcode item.row (fresh q.state)) z) l → HoldsHere w V way q l
holds_to w V way q item l (Ok t) reads moved lost held =
    let m : LoaderMove = loader_move item.op.opcode item.row (fresh q.state) in
    let plain : taken frames.Ignored 0 q.rest ≡ Ok (plain_item item) = buffered_same way.frames q.at.left 0 q.rest item reads lost in
    let goes : going (ignoring way.pickles) (unbuffered q) ≡ flat (gone_to way q item m (Ok t)) =
    plainly_goes way q item plain ∙ ap (gone_to (ignoring way.pickles) (unbuffered q) (plain_item item) m) moved ∙ flat_to way q item m (Ok t) in
    subst (λ (g : Gone). Holds w V g.state l) (sym goes) held.holds
holds_to w V way q item l (Err r) reads moved lost held =
    raised_holds w V (going (ignoring way.pickles) (unbuffered q)).state l (refused_raises item.row q.at r (is_far item.row) l held.ends)

holds_by : (w : World) (V : ℕ → Value) (way : Way) (q : Standing) (l : Loaded) (y : Result Taken FrontFault) → taken way.frames q.at.left q.rest ≡ y → (gone_by way q y).gone.lost ≡ false → HoldsBehind w V (gone_by way q y) l → HoldsHere w V way q l
holds_by w V way q l (Err f) reads lost held = raised_holds w V (going (ignoring way.pickles) (unbuffered q)).state l held.ends
holds_by w V way q l (Ok item) reads lost held =
    let m : LoaderMove = loader_move item.op.opcode item.row (fresh q.state) in
    holds_to w V way q item l (moved_so m (used_op m item.op) q.at.place q.state) reads refl lost held

going_is : (way : Way) (q : Standing) → going way q ≡ gone_by way q (taken way.frames q.at.left q.rest)
unfolding going
going_is way q = refl

holds_plainly : (w : World) (V : ℕ → Value) (way : Way) (q : Standing) (l : Loaded) → (going way q).gone.lost ≡ false → HoldsBehind w V (going way q) l → HoldsHere w V way q l
holds_plainly w V way q l lost held =
    holds_by w V way q l (taken way.frames q.at.left q.rest) refl (subst (λ (g : Gone). g.gone.lost ≡ false) (going_is way q) lost) (subst (λ (g : Gone). HoldsBehind w V g l) (going_is way q) held)

-- ---- where the lines are over

abbrev one : Frames → Way
one f = way_of pickles.OneMemo f

reads_no_more : (l : Loaded) → reads_on pickles.OneMemo l ≡ false → Raises l
reads_no_more (Going u) e = absurd cc
reads_no_more (Ended v u) e = absurd cc
reads_no_more (Failed acts) e = tt

over_by : (w : World) (f : Frames) (x : Onward) (b : Bool) → reads_on pickles.OneMemo x.now ≡ b → (reads_on pickles.OneMemo x.now ≡ false) ⊎ (x.rest ≡ []) → Raises (if b then load_read w pickles.OneMemo x (taken f x.left x.rest) else x).now
over_by w f x false is over = reads_no_more x.now is
over_by w f x true is (inl stops) = let two : true ≡ false = sym is ∙ stops in absurd cc
over_by w f x true is (inr none) =
    let nothing : taken f x.left x.rest ≡ Err _ = ap (taken f x.left) none ∙ none_taken f x.left in
    subst (λ (y : Result Taken FrontFault). Raises (load_read w pickles.OneMemo x y).now) (sym nothing) tt

over_raises : (w : World) (f : Frames) (bytes : List ℕ) (n : ℕ) → (reads_on pickles.OneMemo (load_way w (one f) bytes n).now ≡ false) ⊎ ((load_way w (one f) bytes n).rest ≡ []) → Raises (load_way w (one f) bytes (suc n)).now
unfolding load_way
over_raises w f bytes n over = over_by w f (load_way w (one f) bytes n) (reads_on pickles.OneMemo (load_way w (one f) bytes n).now) refl over

-- ---- all items

holds_on : (how : Detail) (w : World) (f : Frames) (bytes : List ℕ) (all : ByItems w (one f) bytes) (n : ℕ) (s : State) (x : Option Standing) → stands (one f) (standing_first how pickles.OneMemo bytes) n ≡ x
    → NoneLost (one f) (standing_first how pickles.OneMemo bytes) (suc n) → state_on (ignoring pickles.OneMemo) (stands (ignoring pickles.OneMemo) (standing_first how pickles.OneMemo bytes) n) ≡ Some s
    → Holds w all.V s (load_way w (one f) bytes (suc n)).now
holds_on how w f bytes all n s None is none e = raised_holds w all.V s (load_way w (one f) bytes (suc n)).now (over_raises w f bytes n (all.over n (over_named how detail.Cut (one f) bytes n is)))
holds_on how w f bytes all n s (Some q) is none e =
    let l : Loaded = (load_way w (one f) bytes (suc n)).now in
    let cut = stands_named how detail.Cut (one f) bytes n q is in
    let held : HoldsBehind w all.V (going (one f) q) l = subst (λ (g : Gone). HoldsBehind w all.V g l) cut.goes (all.holds n cut.other cut.there) in
    let alike = alike_all how (λ id. Plain kind.None) (one f) bytes n q is (λ j r less stood. none j r (omega (arith, less)) stood) in
    let g : Gone = going (ignoring pickles.OneMemo) (unbuffered q) in
    let same : g.state ≡ s = state_is g.gone.closing g.state s (sym (ap (state_on (ignoring pickles.OneMemo)) alike.stood) ∙ e) in
    subst (λ (a : State). Holds w all.V a l) same (holds_plainly w all.V (one f) q l (none n q (omega arith) is) held)

pub memo_holds : (how : Detail) (w : World) (f : Frames) (bytes : List ℕ) (all : ByItems w (one f) bytes) (n : ℕ) (s : State) → NoneLost (one f) (standing_first how pickles.OneMemo bytes) n
    → state_behind (ignoring pickles.OneMemo) (standing_first how pickles.OneMemo bytes) n ≡ Some s → Holds w all.V s (load_way w (one f) bytes n).now
unfolding state_behind
memo_holds how w f bytes all zero s none e = all.listed.values zero s e
memo_holds how w f bytes all (suc n) s none e = holds_on how w f bytes all n s (stands (one f) (standing_first how pickles.OneMemo bytes) n) refl none e
