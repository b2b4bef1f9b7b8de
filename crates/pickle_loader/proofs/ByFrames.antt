-- Along the bytes of a file, what is listed of the unpickler in Python with its frames is a beginning of what the lines list.
use Rattle.std.proofs.Common.{◌≡◌, ◌⊎◌, ℕ, zero, suc, Bool, true, false, List, [], ◌∷◌, ◌++◌, length, take, drop, ◌-◌, Option, Some, None, Ok, refl, sym, ap, subst, ◌∙◌, inl, inr}
use Rattle.std.specs.Prelude.{nat_le, if◌then◌else◌, Result}
use Rattle.std.proofs.lemmas.List.{append_assoc}
use Rattle.pickle_ops.specs.declared.fault.FrontFault.{FrontFault}
use Rattle.pickle_ops.specs.declared.opcode.Opcode.{Opcode}
use Rattle.pickle_ops.specs.declared.opcode.Opcode.TheVariants as op
use Rattle.pickle_ops.specs.Spelling.{Operation}
use Rattle.pickle_doc.specs.DocUnit.{is_stop}
use Rattle.pickle_machine.specs.State.{State}
use Rattle.pickle_lenient.specs.declared.taken.Frames.{Frames}
use Rattle.pickle_lenient.specs.declared.taken.Frames.TheVariants as frames
use Rattle.pickle_lenient.specs.declared.taken.Taken.{Taken}
use Rattle.pickle_lenient.specs.Stream.{taken}
use Rattle.pickle_calls.specs.declared.naming.Detail.TheVariants as detail
use Rattle.pickle_further.specs.declared.way.Pickles.{Pickles}
use Rattle.pickle_further.specs.declared.way.Pickles.TheVariants as pickles
use Rattle.pickle_further.specs.declared.way.Way.{Way}
use Rattle.pickle_further.specs.Going.{Standing}
use Rattle.pickle_further.specs.Parts.{ignoring, are_many, standing_first}
use Rattle.pickle_loader.specs.Environment.{Value, Act, Unpickler, World}
use Rattle.pickle_loader.specs.Unpickler.{Step, Ran, Stopped, Raised, item}
use Rattle.pickle_loader.specs.Dispatch.{dispatch, Loaded, Going, Ended, Failed, loaded, acts_of, load_op, load_item}
use Rattle.pickle_loader.specs.Reader.{Reader, Fetched, Fetch, NoFetch, fetch, all_left, frame_left, frame_bytes}
use Rattle.pickle_loader.specs.Listed.{listed_of}
use Rattle.pickle_loader.specs.Laws.{Holds}
use Rattle.pickle_loader.specs.Onward.{load_taken, dispatch_as, Onward, again, reads_on, load_more, load_read, load_on, load_way, stands, state_behind, protocol, acts_on, acts_before, begins_anew}
use Rattle.pickle_loader.specs.Bytes.{Loading, goes_on, load_fetched, load_next, load_bytes}
use Rattle.pickle_loader.specs.Text.{way_of}
use Rattle.pickle_loader.specs.ByFrames.{load_once, load_found, load_frames, load_framed, FramedIsBytes, tells_frames, state_left, NothingBeyondByFrames, NothingElseByFrames}
use Rattle.pickle_loader.proofs.Onwards.{Begins, Raises}
use Rattle.pickle_loader.proofs.Plain.{IsQuiet}
use Rattle.pickle_loader.proofs.Buffering.{IsNext, IsTaken, Reads, Last, Never, loads_as, are_taken}
use Rattle.pickle_loader.proofs.Environments.{holds_same}
use Rattle.pickle_loader.proofs.Ways.{by_items, nothing_beyond}
use Rattle.pickle_loader.proofs.MemoValues.{raised_holds, memo_holds}
use Rattle.pickle_loader.proofs.OneMemo.{no_loss, nothing_lost, tells_all}

-- ---- one load and a loop

item_once : (w : World) (p : Pickles) (o : Operation) (l : Loaded) → begins_anew p ≡ true → reads_on p l ≡ true → load_once w p o l ≡ load_item w (are_many p) (Some o) l
item_once w p o (Going u) anew reads = refl
item_once w pickles.First o (Ended v u) anew reads = absurd cc
item_once w pickles.All o (Ended v u) anew reads = refl
item_once w pickles.OneMemo o (Ended v u) anew reads = absurd cc
item_once w p o (Failed acts) anew reads = refl

on_goes : (p : Pickles) (l : Loaded) → begins_anew p ≡ true → reads_on p l ≡ goes_on (are_many p) l
on_goes pickles.First (Going u) anew = refl
on_goes pickles.All (Going u) anew = refl
on_goes pickles.First (Ended v u) anew = refl
on_goes pickles.All (Ended v u) anew = refl
on_goes pickles.First (Failed acts) anew = refl
on_goes pickles.All (Failed acts) anew = refl
on_goes pickles.OneMemo l anew = absurd cc

found_fetched : (w : World) (p : Pickles) (x : Loading) (f : Fetched) → begins_anew p ≡ true → reads_on p x.now ≡ true → load_found w p x f ≡ load_fetched w (are_many p) x f
found_fetched w p x (Fetch o after) anew reads = ap (λ (l : Loaded). record { now = l; reader = after }) (item_once w p o x.now anew reads)
found_fetched w p x NoFetch anew reads = refl

next_by : (w : World) (p : Pickles) (x : Loading) (b : Bool) → begins_anew p ≡ true → reads_on p x.now ≡ b → (if b then load_found w p x (fetch x.reader) else x) ≡ (if b then load_fetched w (are_many p) x (fetch x.reader) else x)
next_by w p x true anew is = found_fetched w p x (fetch x.reader) anew is
next_by w p x false anew is = refl

next_same : (w : World) (p : Pickles) (x : Loading) → begins_anew p ≡ true → load_frames w p x ≡ load_next w (are_many p) x
next_same w p x anew =
    next_by w p x (reads_on p x.now) anew refl ∙ ap (λ (b : Bool). if b then load_fetched w (are_many p) x (fetch x.reader) else x) (on_goes p x.now anew)

pub framed_is_bytes : FramedIsBytes
unfolding load_framed load_bytes
framed_is_bytes w p bytes zero anew = refl
framed_is_bytes w p bytes (suc n) anew = ap (load_frames w p) (framed_is_bytes w p bytes n anew) ∙ next_same w p (load_bytes w (are_many p) bytes n) anew

-- ---- an environment in which no opcode raises before it does anything

abbrev never_fails : World → World
never_fails w = record w { fails = λ (u : Unpickler) (o : Operation). false }

same_world : (w : World) (o : Opcode) (arg : List ℕ) (u : Unpickler) → dispatch (never_fails w) o arg u ≡ dispatch w o arg u
same_world w op.Proto arg u = refl
same_world w _ arg u = refl

-- ---- beside each other

-- the reading stands where the unpickler does
abbrev IsLevel : Frames → Onward → Reader → Type 0
IsLevel frames.Ignored y r = y.rest ≡ all_left r
IsLevel frames.Buffered y r = (y.rest ≡ all_left r) × (y.left ≡ frame_left r.frame)
IsLevel frames.Held y r = ⊥

-- both loaded the same; or the unpickler did a beginning and does nothing more
data IsBeside (acts : List Act) (p : Pickles) (f : Frames) (x : Loading) (y : Onward) : Type 0 where
  Level : x.now ≡ y.now → (reads_on p x.now ≡ true → IsLevel f y x.reader) → IsBeside acts p f x y
  Over : Begins acts x.now → (Raises x.now) ⊎ (all_left x.reader ≡ []) → IsBeside acts p f x y

longer : (acts more : List Act) (l : Loaded) → Begins acts l → Begins (acts ++ more) l
longer acts more l b = (b.0 ++ more, sym (append_assoc (listed_of (acts_of l)) b.0 more) ∙ ap (λ (a : List Act). a ++ more) b.1)

-- ---- where nothing is left

pub no_piece : (r : Reader) → all_left r ≡ [] → fetch r ≡ NoFetch
no_piece r e = by_frame r.frame r.file e
  where
    by_frame : (frame : Option (List ℕ)) (file : List ℕ) → frame_bytes frame ++ file ≡ [] → fetch (record { frame = frame; file = file }) ≡ NoFetch
    by_frame None [] f = refl
    by_frame None (b ∷ file) f = absurd cc
    by_frame (Some []) [] f = refl
    by_frame (Some []) (b ∷ file) f = absurd cc
    by_frame (Some (b ∷ frame)) file f = absurd cc

reads_none : (p : Pickles) (l : Loaded) → Raises l → reads_on p l ≡ true → ⊥
reads_none p (Going u) raises e = raises
reads_none p (Ended v u) raises e = raises
reads_none p (Failed acts) raises e = absurd cc

over_next : (w : World) (acts : List Act) (p : Pickles) (f : Frames) (x : Loading) (y : Onward) (b : Bool) → reads_on p x.now ≡ b → Begins acts x.now → (Raises x.now) ⊎ (all_left x.reader ≡ [])
    → IsBeside acts p f (if b then load_found w p x (fetch x.reader) else x) y
over_next w acts p f x y false is begins over = Over begins over
over_next w acts p f x y true is begins (inl raises) = absurd (reads_none p x.now raises is)
over_next w acts p f x y true is begins (inr none) =
    subst (λ (g : Fetched). IsBeside acts p f (load_found w p x g) y) (sym (no_piece x.reader none)) (Over begins (inl tt))

-- ---- an opcode

-- the unpickler that reads it
pub record IsReader (p : Pickles) (l : Loaded) (u : Unpickler) : Type 0 where
  pub once : (w : World) (o : Operation) → load_once w p o l ≡ loaded (load_op w o u)
  pub more : (w : World) (item : Taken) → load_more w p item l ≡ loaded (load_taken w item u)
  pub acts : acts_of l ≡ u.acts

again_acts : (p : Pickles) (u : Unpickler) → u.acts ≡ (again p u).acts
again_acts pickles.First u = refl
again_acts pickles.All u = refl
again_acts pickles.OneMemo u = refl

pub reader_of : (p : Pickles) (l : Loaded) → reads_on p l ≡ true → (u : Unpickler) × IsReader p l u
reader_of p (Going u) e = (u, record { once = λ w o. refl; more = λ w item. refl; acts = refl })
reader_of p (Ended v u) e = (again p u, record { once = λ w o. refl; more = λ w item. refl; acts = again_acts p u })
reader_of p (Failed acts) e = absurd cc

-- nothing of it is listed
quiet_begins : (acts : List Act) (u : Unpickler) (x : Step) → Begins acts (Going u) → IsQuiet u x → Begins acts (loaded x)
quiet_begins acts u (Ran q) b quiet = (b.0, ap (λ (l : List Act). l ++ b.0) quiet ∙ b.1)
quiet_begins acts u (Stopped v q) b quiet = absurd quiet
quiet_begins acts u (Raised done) b quiet = (b.0, ap (λ (l : List Act). l ++ b.0) quiet ∙ b.1)

-- with frames ignored one pickle is read, which STOP ends
stop_ends : (w : World) (o : Opcode) (arg : List ℕ) (u : Unpickler) → is_stop o ≡ true → reads_on pickles.First (loaded (dispatch w o arg u)) ≡ false
stop_ends w op.Stop arg u e = either (nat_le 1 (length u.stack))
  where
    either : (b : Bool) → reads_on pickles.First (loaded (if b then Stopped (item 0 (drop (length u.stack - 1) u.stack)) (record u { stack = take (length u.stack - 1) u.stack }) else Raised u.acts)) ≡ false
    either true = refl
    either false = refl
stop_ends w _ arg u e = absurd cc

level_next : (w : World) (p : Pickles) (f : Frames) (o : Operation) (r after : Reader) (item : Taken) (u : Unpickler) (y : Onward) → tells_frames p f ≡ true → y.rest ≡ all_left r → IsNext f o r after item
    → reads_on p (loaded (dispatch w o.opcode o.arg u)) ≡ true → IsLevel f (record { now = loaded (dispatch w o.opcode o.arg u); rest = drop item.size y.rest; left = item.left }) after
level_next w p frames.Buffered o r after item u y tells rest next reads = (ap (drop item.size) rest ∙ next.0, next.1)
level_next w pickles.First frames.Ignored o r after item u y tells rest next reads = by_stop (is_stop o.opcode) refl
  where
    by_stop : (b : Bool) → is_stop o.opcode ≡ b → drop item.size y.rest ≡ all_left after
    by_stop false is = ap (drop item.size) rest ∙ next is
    by_stop true is = let two : true ≡ false = sym reads ∙ stop_ends w o.opcode o.arg u is in absurd cc
level_next w pickles.All frames.Ignored o r after item u y tells rest next reads = absurd cc
level_next w pickles.OneMemo frames.Ignored o r after item u y tells rest next reads = absurd cc
level_next w p frames.Held o r after item u y tells rest next reads = absurd next

-- it goes on
go_next : (w : World) (acts : List Act) (p : Pickles) (f : Frames) (o : Operation) (r after : Reader) (u : Unpickler) (y : Onward) (z : Result Taken FrontFault) → tells_frames p f ≡ true → y.rest ≡ all_left r → taken f y.left y.rest ≡ z
    → Begins acts (Going u) → ((item : Taken) → z ≡ Ok item → (load_read (never_fails w) p y z).now ≡ loaded (dispatch_as (never_fails w) item.row item.op.opcode item.op.arg u))
    → IsTaken f r o after → ((item : Taken) → taken f (frame_left r.frame) (all_left r) ≡ Ok item → z ≡ Ok item)
    → IsBeside acts p f (record { now = loaded (dispatch w o.opcode o.arg u); reader = after }) (load_read (never_fails w) p y z)
go_next w acts p f o r after u y z tells rest is begins now (Last none silent) same = Over (quiet_begins acts u (dispatch w o.opcode o.arg u) begins (silent w u)) (inr none)
go_next w acts p f o r after u y z tells rest is begins now (Never raises) same =
    subst (λ (x : Step). IsBeside acts p f (record { now = loaded x; reader = after }) (load_read (never_fails w) p y z)) (sym (raises w u)) (Over begins (inl tt))
go_next w acts p f o r after u y z tells rest is begins now (Reads item takes of next) same =
    let here : z ≡ Ok item = same item takes in
    let at : loaded (dispatch w o.opcode o.arg u) ≡ (load_read (never_fails w) p y z).now = ap loaded (sym (same_world w o.opcode o.arg u)) ∙ ap loaded (sym (loads_as o item.op item.row of (never_fails w) u)) ∙ sym (now item here) in
    subst (λ (t : Result Taken FrontFault). loaded (dispatch w o.opcode o.arg u) ≡ (load_read (never_fails w) p y t).now → IsBeside acts p f (record { now = loaded (dispatch w o.opcode o.arg u); reader = after }) (load_read (never_fails w) p y t)) (sym here)
    (λ e. Level e (λ reads. level_of f (level_next w p f o r after item u y tells rest next reads))) at
  where
    level_of : (g : Frames) → IsLevel g (record { now = loaded (dispatch w o.opcode o.arg u); rest = drop item.size y.rest; left = item.left }) after → IsLevel g (load_read (never_fails w) p y (Ok item)) after
    level_of frames.Ignored l = l
    level_of frames.Buffered l = l
    level_of frames.Held l = l

-- it may raise before it does anything
op_next : (w : World) (acts : List Act) (p : Pickles) (f : Frames) (o : Operation) (after : Reader) (u : Unpickler) (y : Onward) (b : Bool) → Begins acts (Going u)
    → IsBeside acts p f (record { now = loaded (dispatch w o.opcode o.arg u); reader = after }) y → IsBeside acts p f (record { now = loaded (if b then Raised u.acts else dispatch w o.opcode o.arg u); reader = after }) y
op_next w acts p f o after u y true begins beside = Over begins (inl tt)
op_next w acts p f o after u y false begins beside = beside

-- where it stands the same is taken
abbrev SameTaken : Frames → Onward → Reader → Type 0
SameTaken f y r = (y.rest ≡ all_left r) × (taken f y.left y.rest ≡ taken f (frame_left r.frame) (all_left r))

level_taken : (f : Frames) (y : Onward) (r : Reader) → IsLevel f y r → SameTaken f y r
unfolding taken
level_taken frames.Ignored y r level = (level, ap (λ (l : List ℕ). taken frames.Ignored 0 l) level)
level_taken frames.Buffered y r level = (level.0, ap (λ (n : ℕ). taken frames.Buffered n y.rest) level.1 ∙ ap (taken frames.Buffered (frame_left r.frame)) level.0)
level_taken frames.Held y r level = absurd level

not_held : (p : Pickles) (f : Frames) → tells_frames p f ≡ true → f ≡ frames.Held → ⊥
not_held pickles.First frames.Held tells e = absurd cc
not_held pickles.All frames.Held tells e = absurd cc
not_held pickles.OneMemo frames.Held tells e = absurd cc
not_held p frames.Ignored tells e = absurd cc
not_held p frames.Buffered tells e = absurd cc

fetched_next : (w : World) (acts : List Act) (p : Pickles) (f : Frames) (x : Loading) (y : Onward) (g : Fetched) → fetch x.reader ≡ g → tells_frames p f ≡ true → reads_on p x.now ≡ true → x.now ≡ y.now → IsLevel f y x.reader → Begins acts x.now
    → IsBeside acts p f (load_found w p x g) (load_read (never_fails w) p y (taken f y.left y.rest))
fetched_next w acts p f x y NoFetch is tells reads same level begins = Over begins (inl tt)
fetched_next w acts p f x y (Fetch o after) is tells reads same level begins =
    let t = reader_of p x.now reads in
    let u : Unpickler = t.0 in
    let all = level_taken f y x.reader level in
    let z : Result Taken FrontFault = taken f y.left y.rest in
    let here : Begins acts (Going u) = subst (λ (l : List Act). (rest : List Act) × (listed_of l ++ rest ≡ acts)) t.1.acts begins in
    subst (λ (l : Loaded). IsBeside acts p f (record { now = l; reader = after }) (load_read (never_fails w) p y z)) (sym (t.1.once w o))
    (op_next w acts p f o after u (load_read (never_fails w) p y z) (w.fails u o) here
    (go_next w acts p f o x.reader after u y z tells all.0 refl here (λ item e. now_is u t.1 item z e) (are_taken f x.reader o after (not_held p f tells) is) (λ item e. all.1 ∙ e)))
  where
    now_is : (u : Unpickler) → IsReader p x.now u → (item : Taken) (z : Result Taken FrontFault) → z ≡ Ok item → (load_read (never_fails w) p y z).now ≡ loaded (dispatch_as (never_fails w) item.row item.op.opcode item.op.arg u)
    now_is u one item z e =
        ap (λ (t : Result Taken FrontFault). (load_read (never_fails w) p y t).now) e
        ∙ ap (load_more (never_fails w) p item) (sym same)
        ∙ one.more (never_fails w) item

-- ---- along a file

level_on : (w : World) (acts : List Act) (p : Pickles) (f : Frames) (x : Loading) (y : Onward) (b : Bool) → reads_on p x.now ≡ b → tells_frames p f ≡ true → x.now ≡ y.now → (reads_on p x.now ≡ true → IsLevel f y x.reader) → Begins acts x.now
    → IsBeside acts p f (if b then load_found w p x (fetch x.reader) else x) (if b then load_read (never_fails w) p y (taken f y.left y.rest) else y)
level_on w acts p f x y true is tells same level begins = fetched_next w acts p f x y (fetch x.reader) refl tells is same (level is) begins
level_on w acts p f x y false is tells same level begins = Level same level

beside_next : (w : World) (acts more : List Act) (p : Pickles) (f : Frames) (x : Loading) (y : Onward) → tells_frames p f ≡ true → Begins acts y.now → IsBeside acts p f x y → IsBeside (acts ++ more) p f (load_frames w p x) (load_on (never_fails w) (way_of p f) y)
beside_next w acts more p f x y tells begins (Over b over) = over_next w (acts ++ more) p f x (load_on (never_fails w) (way_of p f) y) (reads_on p x.now) refl (longer acts more x.now b) over
beside_next w acts more p f x y tells begins (Level same level) =
    subst (λ (l : Loaded). IsBeside (acts ++ more) p f (load_frames w p x) (if reads_on p l then load_read (never_fails w) p y (taken f y.left y.rest) else y)) same
    (level_on w (acts ++ more) p f x y (reads_on p x.now) refl tells same level (subst (λ (l : Loaded). Begins (acts ++ more) l) (sym same) (longer acts more y.now begins)))

level_first : (p : Pickles) (f : Frames) (bytes : List ℕ) (y : Onward) → tells_frames p f ≡ true → y.rest ≡ bytes → y.left ≡ 0 → IsLevel f y (record { frame = None; file = bytes })
level_first p frames.Ignored bytes y tells rest left = rest
level_first p frames.Buffered bytes y tells rest left = (rest, left)
level_first p frames.Held bytes y tells rest left = absurd (not_held p frames.Held tells refl)

beside : (w : World) (p : Pickles) (f : Frames) (bytes : List ℕ) (V : ℕ → Value) → tells_frames p f ≡ true → ((n : ℕ) → Begins (acts_before V (way_of p f) (standing_first detail.Cut p bytes) n) (load_way (never_fails w) (way_of p f) bytes n).now)
    → (n : ℕ) → IsBeside (acts_before V (way_of p f) (standing_first detail.Cut p bytes) n) p f (load_framed w p bytes n) (load_way (never_fails w) (way_of p f) bytes n)
unfolding load_framed load_way acts_before
beside w p f bytes V tells begins zero = Level refl (λ reads. level_first p f bytes (load_way (never_fails w) (way_of p f) bytes 0) tells refl refl)
beside w p f bytes V tells begins (suc n) =
    beside_next w (acts_before V (way_of p f) (standing_first detail.Cut p bytes) n)
    (acts_on V (way_of p f) (protocol (way_of p f) (standing_first detail.Cut p bytes) n) (stands (way_of p f) (standing_first detail.Cut p bytes) n)) p f (load_framed w p bytes n) (load_way (never_fails w) (way_of p f) bytes n) tells (begins n) (beside w p f bytes V tells begins n)

listed_beside : (acts : List Act) (p : Pickles) (f : Frames) (x : Loading) (y : Onward) → Begins acts y.now → IsBeside acts p f x y → Begins acts x.now
listed_beside acts p f x y begins (Level same level) = subst (λ (l : Loaded). Begins acts l) (sym same) begins
listed_beside acts p f x y begins (Over b over) = b

-- as long as bytes are left, what the lines say of the one it says of the other
left_is : (bytes : List ℕ) (x : Option State) (s : State) → state_left bytes x ≡ Some s → x ≡ Some s
left_is [] x s e = absurd cc
left_is (b ∷ bytes) x s e = e

none_left : {A : Type 0} (bytes : List ℕ) (x : Option State) (s : State) → bytes ≡ [] → state_left bytes x ≡ Some s → A
none_left [] x s none e = absurd cc
none_left (b ∷ bytes) x s none e = absurd cc

holds_beside : (w : World) (V : ℕ → Value) (acts : List Act) (p : Pickles) (f : Frames) (x : Loading) (y : Onward) (state : Option State) (s : State) → IsBeside acts p f x y → state_left (all_left x.reader) state ≡ Some s
    → Holds (never_fails w) V s y.now → Holds w V s x.now
holds_beside w V acts p f x y state s (Level same level) left held = holds_same (never_fails w) w V s x.now refl (subst (λ (l : Loaded). Holds (never_fails w) V s l) (sym same) held)
holds_beside w V acts p f x y state s (Over b (inl raises)) left held = raised_holds w V s x.now raises
holds_beside w V acts p f x y state s (Over b (inr none)) left held = none_left (all_left x.reader) state s none left

pub nothing_beyond_by_frames : NothingBeyondByFrames
nothing_beyond_by_frames w p f bytes tells =
    let all = nothing_beyond (never_fails w) (way_of p f) bytes in
    let V : ℕ → Value = all.0 in
    let first : Standing = standing_first detail.Cut p bytes in (
      V,
      record {
        acts = λ n. listed_beside (acts_before V (way_of p f) first n) p f (load_framed w p bytes n) (load_way (never_fails w) (way_of p f) bytes n) (all.1.acts n) (beside w p f bytes V tells all.1.acts n);
        values = λ n s e.
            holds_beside w V (acts_before V (way_of p f) first n) p f (load_framed w p bytes n) (load_way (never_fails w) (way_of p f) bytes n) (state_behind (way_of p f) first n) s (beside w p f bytes V tells all.1.acts n) e
            (all.1.values n s (left_is (all_left (load_framed w p bytes n).reader) (state_behind (way_of p f) first n) s e));
      },
    )

pub nothing_else_by_frames : NothingElseByFrames
nothing_else_by_frames how w bytes o e status =
    let way : Way = way_of pickles.OneMemo frames.Buffered in
    let all = by_items (never_fails w) way bytes in
    let V : ℕ → Value = all.V in
    let first : Standing = standing_first detail.Cut pickles.OneMemo bytes in
    let said : Standing = standing_first how.detail pickles.OneMemo bytes in
    let none = no_loss how bytes o e status in (
      V,
      record {
        acts = λ n. tells_all V how frames.Buffered bytes n (listed_of (acts_of (load_framed w pickles.OneMemo bytes n).now)) none
            (listed_beside (acts_before V way first n) pickles.OneMemo frames.Buffered (load_framed w pickles.OneMemo bytes n) (load_way (never_fails w) way bytes n) (all.listed.acts n)
            (beside w pickles.OneMemo frames.Buffered bytes V refl all.listed.acts n));
        values = λ n s is.
            holds_beside w V (acts_before V way first n) pickles.OneMemo frames.Buffered (load_framed w pickles.OneMemo bytes n) (load_way (never_fails w) way bytes n) (state_behind (ignoring pickles.OneMemo) said n) s
            (beside w pickles.OneMemo frames.Buffered bytes V refl all.listed.acts n) is
            (memo_holds how.detail (never_fails w) frames.Buffered bytes all n s (nothing_lost how.detail bytes none frames.Buffered n)
            (left_is (all_left (load_framed w pickles.OneMemo bytes n).reader) (state_behind (ignoring pickles.OneMemo) said n) s is));
      },
    )
