-- The unpickler in Python that reads each frame by itself: it is where one with a buffer is, or nothing is left to read.
use Rattle.std.proofs.Common.{◌≡◌, ℕ, zero, suc, Bool, true, false, List, [], ◌∷◌, drop, Ok, refl, sym, ap, subst, ◌∙◌}
use Rattle.std.specs.Prelude.{◌||◌, ◌&&◌, not, if◌then◌else◌}
use Rattle.std.proofs.lemmas.List.{drop-drop}
use Rattle.std.proofs.lemmas.List.Elements.{All-nil, All-cons, All-head, All-tail}
use Rattle.pickle_ops.specs.Spelling.{Operation}
use Rattle.pickle_ops.specs.declared.row.Row.{Row}
use Rattle.pickle_lenient.specs.declared.taken.Frames.TheVariants as frames
use Rattle.pickle_lenient.specs.declared.taken.Taken.{Taken}
use Rattle.pickle_lenient.specs.Stream.{taken}
use Rattle.pickle_further.specs.declared.way.Pickles.{Pickles}
use Rattle.pickle_loader.specs.Environment.{Act, Make, Find, Extension, Call, New, NewEx, Instance, SetState, Fill, Persist, NextBuffer, View, Method, Unpickler, World}
use Rattle.pickle_loader.specs.Unpickler.{Step, Ran, Stopped, Raised}
use Rattle.pickle_loader.specs.Dispatch.{Loaded, Going, Ended, Failed, loaded, acts_of, dispatch, load_op}
use Rattle.pickle_loader.specs.Listed.{is_listed, listed_of}
use Rattle.pickle_loader.specs.Onward.{again, reads_on}
use Rattle.pickle_loader.specs.Reader.{Reader, Fetched, Fetch, NoFetch, fetch, frame_left, all_left}
use Rattle.pickle_loader.specs.Bytes.{Loading}
use Rattle.pickle_loader.specs.ByFrames.{load_found, load_framed}
use Rattle.pickle_loader.proofs.Plain.{IsOf, Itself, Keyed, IsQuiet}
use Rattle.pickle_loader.proofs.Buffering.{IsNext, IsTaken, Reads, Last, Never, loads_as, are_taken}
use Rattle.pickle_loader.proofs.ByFrames.{no_piece}
use Rattle.pickle_reach.specs.declared.granted.Granted.{Granted}
use Rattle.pickle_reach.specs.declared.spot.Spot.{Spot}
use Rattle.pickle_reach.specs.declared.spot.Step.TheVariants as move
use Rattle.pickle_reach.specs.Item.{opcode_names, is_unread, reaches, ends, names}
use Rattle.pickle_reach.specs.Reach.{behind, step_at, first_spot, NothingFrom}
use Rattle.reach_laws.specs.Reached.{is_refused, act_reaches, NoneReaches, IsGranted, NothingReachedByFrames}
use Rattle.reach_laws.proofs.Tame.{Tame, IsTame, StepTame, widened}
use Rattle.reach_laws.proofs.Ending.{Ends}
use Rattle.reach_laws.proofs.Mixes.{or_before, literal_tame, as_tame, as_ends, fails_tame, fails_ends, step_is, from_step, again_tame}

-- ---- what is listed

not_listed : (g : Granted) (a : Act) → is_listed a ≡ false → act_reaches g a ≡ false
not_listed g (SetState target state) e = let two : true ≡ false = e in absurd cc
not_listed g (Make ty items) e = refl
not_listed g (Fill how target items) e = ap (λ (b : Bool). b && not (is_refused g (Fill how target items))) e
not_listed g (View v) e = refl
not_listed g Method e = refl
not_listed g (Find proto module_name member_name) e = let two : true ≡ false = e in absurd cc
not_listed g (Extension code) e = let two : true ≡ false = e in absurd cc
not_listed g (Call function arguments) e = let two : true ≡ false = e in absurd cc
not_listed g (New cls arguments) e = let two : true ≡ false = e in absurd cc
not_listed g (NewEx cls arguments keywords) e = let two : true ≡ false = e in absurd cc
not_listed g (Instance cls arguments) e = let two : true ≡ false = e in absurd cc
not_listed g (Persist identity) e = let two : true ≡ false = e in absurd cc
not_listed g (NextBuffer number) e = let two : true ≡ false = e in absurd cc

abbrev Reaching : Granted → Act → Type 0
Reaching g a = act_reaches g a ≡ false

listed_none : (g : Granted) (acts : List Act) → NoneReaches g acts → NoneReaches g (listed_of acts)
listed_none g [] all = all
listed_none g (a ∷ acts) all = by (is_listed a) (listed_none g acts (All-tail (Reaching g) a acts all))
  where
    by : (b : Bool) → NoneReaches g (listed_of acts) → NoneReaches g (if b then a ∷ listed_of acts else listed_of acts)
    by true more = All-cons (Reaching g) a (listed_of acts) (All-head (Reaching g) a acts all) more
    by false more = more

none_by : (g : Granted) (a : Act) (acts : List Act) (b : Bool) → (NoneReaches g (listed_of acts) → NoneReaches g acts) → is_listed a ≡ b → NoneReaches g (if b then a ∷ listed_of acts else listed_of acts) → NoneReaches g (a ∷ acts)
none_by g a acts true more e some = All-cons (Reaching g) a acts (All-head (Reaching g) a (listed_of acts) some) (more (All-tail (Reaching g) a (listed_of acts) some))
none_by g a acts false more e some = All-cons (Reaching g) a acts (not_listed g a e) (more some)

none_of_listed : (g : Granted) (acts : List Act) → NoneReaches g (listed_of acts) → NoneReaches g acts
none_of_listed g [] all = all
none_of_listed g (a ∷ acts) all = none_by g a acts (is_listed a) (λ some. none_of_listed g acts some) refl all

none_like : (g : Granted) (done acts : List Act) → listed_of done ≡ listed_of acts → NoneReaches g acts → NoneReaches g done
none_like g done acts same all = none_of_listed g done (subst (NoneReaches g) (sym same) (listed_none g acts all))

quiet_none : (g : Granted) (u : Unpickler) (x : Step) → IsQuiet u x → NoneReaches g u.acts → NoneReaches g (acts_of (loaded x))
quiet_none g u (Ran q) quiet all = none_like g q.acts u.acts quiet all
quiet_none g u (Stopped v q) quiet all = absurd quiet
quiet_none g u (Raised done) quiet all = none_like g done u.acts quiet all

-- ---- where it is

abbrev At : Granted → List ℕ → Spot → Loaded → Reader → Type 0
At g bytes s (Going u) r = IsTame g s.named u × (all_left r ≡ drop s.offset bytes) × (frame_left r.frame ≡ s.left)
At g bytes s (Ended v u) r = IsTame g s.named u × (all_left r ≡ drop s.offset bytes) × (frame_left r.frame ≡ s.left)
At g bytes s (Failed acts) r = NoneReaches g acts

data IsBeside (g : Granted) (bytes : List ℕ) (x : Loading) : Type 0 where
  Level : (s : Spot) → NothingFrom g bytes s → At g bytes s x.now x.reader → IsBeside g bytes x
  Over : NoneReaches g (acts_of x.now) → all_left x.reader ≡ [] → IsBeside g bytes x

at_none : (g : Granted) (bytes : List ℕ) (s : Spot) (l : Loaded) (r : Reader) → At g bytes s l r → NoneReaches g (acts_of l)
at_none g bytes s (Going u) r at = at.0.acts
at_none g bytes s (Ended v u) r at = at.0.acts
at_none g bytes s (Failed acts) r at = at

-- ---- an opcode

-- what is not read is not read whatever it is taken as
of_unread : (w : World) (g : Granted) (o op : Operation) (r : Row) (u : Unpickler) (b : Bool) → IsGranted g w → IsOf o op r → is_unread op.opcode op.arg ≡ b → w.fails u o ≡ false → b ≡ false
of_unread w g o op r u false keeps of e f = refl
of_unread w g o op r u true keeps (Itself is own) e f =
    let two : true ≡ false = sym (keeps.unread u o (subst (λ (x : Operation). is_unread x.opcode x.arg ≡ true) is e)) ∙ f in
    absurd cc
of_unread w g o op r u true keeps (Keyed is stop frame loads) e f =
    let two : false ≡ true = subst (λ (x : Operation). is_unread x.opcode x.arg ≡ true) is e in
    absurd cc

over : (w : World) (g : Granted) (named : Bool) (o : Operation) (item : Taken) (u : Unpickler) → IsGranted g w → IsOf o item.op item.row → reaches g named item.op ≡ false → ends item.op ≡ true → IsTame g named u → Ends g (load_op w o u)
unfolding reaches ends
over w g named o item u keeps of none ended tame =
    fails_ends g named (w.fails u o) u (dispatch w o.opcode o.arg u) tame
    (λ e. subst (Ends g) (loads_as o item.op item.row of w u)
    (as_ends w g named item.row item.op.opcode item.op.arg u keeps none ended (of_unread w g o item.op item.row u (is_unread item.op.opcode item.op.arg) keeps of refl e) tame))

goes : (w : World) (g : Granted) (named : Bool) (o : Operation) (item : Taken) (u : Unpickler) → IsOf o item.op item.row → ends item.op ≡ false → IsTame g named u → StepTame g (named || names item.op) (load_op w o u)
unfolding ends names
goes w g named o item u of on tame =
    let more : Bool = named || opcode_names item.op.opcode item.op.arg in
    let wide : IsTame g more u = widened g named more u (or_before named (opcode_names item.op.opcode item.op.arg)) tame in
    fails_tame g more (w.fails u o) u (dispatch w o.opcode o.arg u) wide
    (subst (StepTame g more) (loads_as o item.op item.row of w u) (as_tame w g more item.row item.op.opcode item.op.arg u on (literal_tame named item.op.opcode item.op.arg) wide))

ended_at : (g : Granted) (bytes : List ℕ) (s : Spot) (x : Step) (r : Reader) → Ends g x → At g bytes s (loaded x) r
ended_at g bytes s (Ran q) r e = absurd e
ended_at g bytes s (Stopped v q) r e = absurd e
ended_at g bytes s (Raised acts) r e = e

went_at : (g : Granted) (bytes : List ℕ) (s : Spot) (item : Taken) (x : Step) (r after : Reader) → StepTame g (s.named || names item.op) x → all_left r ≡ drop s.offset bytes → drop item.size (all_left r) ≡ all_left after → item.left ≡ frame_left after.frame
    → At g bytes (behind s item) (loaded x) after
went_at g bytes s item (Ran q) r after t e next left = (t, sym next ∙ ap (drop item.size) e ∙ drop-drop item.size s.offset bytes, sym left)
went_at g bytes s item (Stopped v q) r after t e next left = (t, sym next ∙ ap (drop item.size) e ∙ drop-drop item.size s.offset bytes, sym left)
went_at g bytes s item (Raised acts) r after t e next left = t

item_next : (w : World) (g : Granted) (bytes : List ℕ) (s : Spot) (o : Operation) (r after : Reader) (item : Taken) (u : Unpickler) (a b : Bool) → IsGranted g w → NothingFrom g bytes s → taken frames.Buffered s.left (drop s.offset bytes) ≡ Ok item → IsOf o item.op item.row
    → IsNext frames.Buffered o r after item → reaches g s.named item.op ≡ a → ends item.op ≡ b → IsTame g s.named u → all_left r ≡ drop s.offset bytes → IsBeside g bytes (record { now = loaded (load_op w o u); reader = after })
item_next w g bytes s o r after item u true b keeps none takes of next hit ended tame e =
    let is : step_at g bytes frames.Buffered s ≡ move.Reaches = step_is g bytes frames.Buffered s item takes ∙ ap (λ (x : Bool). if x then move.Reaches else if ends item.op then move.Ends else move.Goes (behind s item)) hit in
    let two : true ≡ false = from_step g bytes frames.Buffered false s move.Reaches none is [] in
    absurd cc
item_next w g bytes s o r after item u false true keeps none takes of next miss ended tame e =
    Level s none (ended_at g bytes s (load_op w o u) after (over w g s.named o item u keeps of miss ended tame))
item_next w g bytes s o r after item u false false keeps none takes of next miss on tame e =
    let is : step_at g bytes frames.Buffered s ≡ move.Goes (behind s item) =
    step_is g bytes frames.Buffered s item takes ∙ ap (λ (x : Bool). if x then move.Reaches else if ends item.op then move.Ends else move.Goes (behind s item)) miss
    ∙ ap (λ (x : Bool). if x then move.Ends else move.Goes (behind s item)) on in
    Level (behind s item) (λ mix. from_step g bytes frames.Buffered false s (move.Goes (behind s item)) none is mix)
    (went_at g bytes s item (load_op w o u) r after (goes w g s.named o item u of on tame) e next.0 next.1)

-- of whichever kind it is
fails_none : (g : Granted) (b : Bool) (u : Unpickler) (x : Step) → NoneReaches g u.acts → NoneReaches g (acts_of (loaded x)) → NoneReaches g (acts_of (loaded (if b then Raised u.acts else x)))
fails_none g true u x all some = all
fails_none g false u x all some = some

never_at : (g : Granted) (bytes : List ℕ) (s : Spot) (b : Bool) (u : Unpickler) (x : Step) (r : Reader) → x ≡ Raised u.acts → NoneReaches g u.acts → At g bytes s (loaded (if b then Raised u.acts else x)) r
never_at g bytes s true u x r e all = all
never_at g bytes s false u x r e all = subst (λ (y : Step). At g bytes s (loaded y) r) (sym e) all

op_next : (w : World) (g : Granted) (bytes : List ℕ) (s : Spot) (o : Operation) (r after : Reader) (u : Unpickler) → IsGranted g w → NothingFrom g bytes s → IsTaken frames.Buffered r o after → IsTame g s.named u → all_left r ≡ drop s.offset bytes → frame_left r.frame ≡ s.left
    → IsBeside g bytes (record { now = loaded (load_op w o u); reader = after })
op_next w g bytes s o r after u keeps none (Reads item takes of next) tame e left =
    let here : taken frames.Buffered s.left (drop s.offset bytes) ≡ Ok item = sym (ap (λ (n : ℕ). taken frames.Buffered n (all_left r)) left ∙ ap (taken frames.Buffered s.left) e) ∙ takes in
    item_next w g bytes s o r after item u (reaches g s.named item.op) (ends item.op) keeps none here of next refl refl tame e
op_next w g bytes s o r after u keeps none (Last empty silent) tame e left =
    Over (fails_none g (w.fails u o) u (dispatch w o.opcode o.arg u) tame.acts (quiet_none g u (dispatch w o.opcode o.arg u) (silent w u) tame.acts)) empty
op_next w g bytes s o r after u keeps none (Never raises) tame e left =
    Level s none (never_at g bytes s (w.fails u o) u (dispatch w o.opcode o.arg u) after (raises w u) tame.acts)

no_held : frames.Buffered ≡ frames.Held → ⊥
no_held e = absurd cc

-- ---- along a file

found_next : (w : World) (g : Granted) (p : Pickles) (bytes : List ℕ) (s : Spot) (l : Loaded) (r : Reader) (f : Fetched) → IsGranted g w → NothingFrom g bytes s → fetch r ≡ f → At g bytes s l r → IsBeside g bytes (load_found w p (record { now = l; reader = r }) f)
found_next w g p bytes s l r NoFetch keeps none is at = Level s none (at_none g bytes s l r at)
found_next w g p bytes s (Going u) r (Fetch o after) keeps none is at = op_next w g bytes s o r after u keeps none (are_taken frames.Buffered r o after no_held is) at.0 at.1 at.2
found_next w g p bytes s (Ended v u) r (Fetch o after) keeps none is at =
    op_next w g bytes s o r after (again p u) keeps none (are_taken frames.Buffered r o after no_held is) (again_tame g s.named p u at.0) at.1 at.2
found_next w g p bytes s (Failed acts) r (Fetch o after) keeps none is at = Level s none at

over_next : (w : World) (g : Granted) (p : Pickles) (bytes : List ℕ) (x : Loading) → NoneReaches g (acts_of x.now) → all_left x.reader ≡ [] → IsBeside g bytes (load_found w p x (fetch x.reader))
over_next w g p bytes x all empty = subst (λ (f : Fetched). IsBeside g bytes (load_found w p x f)) (sym (no_piece x.reader empty)) (Over all empty)

frames_by : (w : World) (g : Granted) (p : Pickles) (bytes : List ℕ) (x : Loading) (b : Bool) → IsGranted g w → IsBeside g bytes x → IsBeside g bytes (if b then load_found w p x (fetch x.reader) else x)
frames_by w g p bytes x true keeps (Level s none at) = found_next w g p bytes s x.now x.reader (fetch x.reader) keeps none refl at
frames_by w g p bytes x true keeps (Over all empty) = over_next w g p bytes x all empty
frames_by w g p bytes x false keeps beside = beside

drop_zero : (xs : List ℕ) → xs ≡ drop 0 xs
drop_zero [] = refl
drop_zero (x ∷ xs) = refl

beside : (w : World) (g : Granted) (p : Pickles) (bytes : List ℕ) → IsGranted g w → NothingFrom g bytes first_spot → (n : ℕ) → IsBeside g bytes (load_framed w p bytes n)
unfolding load_framed
beside w g p bytes keeps none zero =
    Level first_spot none (record { stack = All-nil (Tame false); below = tt; memo = tt; acts = All-nil (Reaching g) }, drop_zero bytes, refl)
beside w g p bytes keeps none (suc n) = frames_by w g p bytes (load_framed w p bytes n) (reads_on p (load_framed w p bytes n).now) keeps (beside w g p bytes keeps none n)

beside_none : (g : Granted) (bytes : List ℕ) (x : Loading) → IsBeside g bytes x → NoneReaches g (acts_of x.now)
beside_none g bytes x (Level s none at) = at_none g bytes s x.now x.reader at
beside_none g bytes x (Over all empty) = all

pub nothing_reached_by_frames : NothingReachedByFrames
nothing_reached_by_frames g w p bytes none keeps n = beside_none g bytes (load_framed w p bytes n) (beside w g p bytes keeps none n)
