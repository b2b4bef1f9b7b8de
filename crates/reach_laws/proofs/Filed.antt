-- A load from a file that shows some bytes is that of a mix, as far as it does not raise; and so what no mix reaches it does not reach.
use Rattle.std.proofs.Common.{◌≡◌, ◌⊎◌, ℕ, zero, suc, ◌-◌, ◌+◌, ◌^◌, ◌<◌, ◌≤◌, le_trans, Bool, true, false, List, [], ◌∷◌, ◌++◌, length, drop, Option, Some, None, Ok, refl, sym, ap, subst, ◌∙◌, inl, inr, arith}
use Rattle.std.specs.Prelude.{◌&&◌, not, nat_le, if◌then◌else◌, Result, Err}
use Rattle.std.proofs.lemmas.Bool.{or_parts, or_from}
use Rattle.std.proofs.lemmas.List.{length-drop}
use Rattle.pickle_ops.specs.declared.fault.FrontFault.{FrontFault}
use Rattle.pickle_ops.specs.declared.opcode.Opcode.{Opcode}
use Rattle.pickle_ops.specs.declared.opcode.Opcode.TheVariants as op
use Rattle.pickle_ops.specs.declared.row.Row.{Row}
use Rattle.pickle_ops.specs.Row.{row_of}
use Rattle.pickle_ops.specs.Spelling.{Operation}
use Rattle.pickle_doc.specs.DocUnit.{is_frame, is_stop, frame_number}
use Rattle.pickle_lenient.specs.declared.taken.Taken.{Taken}
use Rattle.pickle_lenient.specs.Lenient.{Lenient, lenient}
use Rattle.pickle_lenient.specs.Stream.{joined, refilled, settled, taken_as, across, taken}
use Rattle.pickle_further.specs.declared.way.Pickles.{Pickles}
use Rattle.pickle_further.specs.declared.way.Pickles.TheVariants as pickles
use Rattle.pickle_further.specs.Parts.{file_frames}
use Rattle.pickle_loader.specs.Environment.{Act, World}
use Rattle.pickle_loader.specs.Dispatch.{acts_of}
use Rattle.pickle_loader.specs.Onward.{reads_on}
use Rattle.pickle_loader.specs.CUnpickler.{CUnpickler, CRaised, dispatch, seen}
use Rattle.pickle_loader.specs.CLoad.{dispatch_as, c_load_taken, CLoaded, CGoing, CEnded, CFailed, c_loaded, seen_loaded, COnward, c_again, c_load_more, c_load_read}
use Rattle.pickle_loader.specs.ShownFile.{Input, behind, CFetched, CNoFetch, fetched, fetch, CLoading, c_load_op, c_load_once, c_load_found, c_load_file}
use Rattle.pickle_loader.proofs.Buffering.{same_settled}
use Rattle.pickle_loader.proofs.ShortReads.{pipe_is_file}
use Rattle.pickle_reach.specs.declared.granted.Granted.{Granted}
use Rattle.pickle_reach.specs.Item.{is_unread}
use Rattle.reach_laws.specs.Mixed.{c_opened, c_as_shown, c_load_turn, c_load_mixed}
use Rattle.reach_laws.specs.Reached.{NoneReaches, IsGranted}
use Rattle.reach_laws.specs.Filed.{file_turn, file_mix, frames_pass, IsWith, loses, turn_loses, mix_loses, FilesAreMixes, NothingReachedInAFile, NothingReachedOfAPipe}
use Rattle.reach_laws.proofs.InC.{nothing_reached_in_c}
use Rattle.reach_laws.proofs.Framed.{nothing_reached_by_frames}
use Rattle.reach_laws.proofs.Split.{Split, all}
use Rattle.reach_laws.proofs.Standing.{Given, IsAt}
use Rattle.reach_laws.proofs.Wholes.{outside_only}
use Rattle.reach_laws.proofs.Covered.{IsOf, Itself, Keyed}
use Rattle.reach_laws.proofs.Fetched.{ends_loads, taken_by, IsTaken, Reads, Never, IsFetched, Nothing, Fetches, is_fetched}
use Rattle.reach_laws.proofs.Behind.{Went, IsBehind, NoMore, More, and_no, is_behind}

-- ---- an operation

-- whether FRAME raises changes nothing of what an opcode does
same_dispatch : (w : World) (o : Opcode) (arg : List ℕ) (c : CUnpickler) → dispatch (frames_pass w) o arg c ≡ dispatch w o arg c
same_dispatch w op.Frame arg c = refl
same_dispatch w _ arg c = refl

own_row : (w : World) (o : Opcode) (arg : List ℕ) (c : CUnpickler) → dispatch_as (frames_pass w) (row_of (record { opcode = o; arg = arg })) o arg c ≡ dispatch w o arg c
own_row w op.Frame arg c = refl
own_row w o arg c = same_dispatch w o arg c

-- the same is done, or it raises
abbrev OpSame : World → Operation → Taken → CUnpickler → Type 0
OpSame w o item c = (c_load_op w o c ≡ c_load_taken (frames_pass w) item c) ⊎ (c_load_op w o c ≡ CRaised c.acts)

op_by : (w : World) (o : Operation) (item : Taken) (c : CUnpickler) (b : Bool) → w.fails (seen c) o ≡ b → IsOf o item.op item.row → OpSame w o item c
op_by w o item c true e of = inr (ap (λ (x : Bool). if x then CRaised c.acts else dispatch w o.opcode o.arg c) e)
op_by w o item c false e (Itself is own) =
    let here : c_load_op w o c ≡ dispatch w o.opcode o.arg c = ap (λ (x : Bool). if x then CRaised c.acts else dispatch w o.opcode o.arg c) e in
    let passes : (not (is_frame o.opcode) && w.fails (seen c) o) ≡ false = ap (λ (x : Bool). not (is_frame o.opcode) && x) e ∙ and_no (not (is_frame o.opcode)) in
    let there : c_load_taken (frames_pass w) item c ≡ dispatch w o.opcode o.arg c =
    ap (λ (x : Operation). if not (is_frame x.opcode) && w.fails (seen c) x then CRaised c.acts else dispatch_as (frames_pass w) item.row x.opcode x.arg c) is
    ∙ ap (λ (x : Bool). if x then CRaised c.acts else dispatch_as (frames_pass w) item.row o.opcode o.arg c) passes
    ∙ ap (λ (r : Row). dispatch_as (frames_pass w) r o.opcode o.arg c) own ∙ own_row w o.opcode o.arg c in
    inl (here ∙ sym there)
op_by w o item c false e (Keyed is stop frame loads) =
    let here : c_load_op w o c ≡ dispatch w o.opcode o.arg c = ap (λ (x : Bool). if x then CRaised c.acts else dispatch w o.opcode o.arg c) e in
    let there : c_load_taken (frames_pass w) item c ≡ dispatch w o.opcode o.arg c =
    ap (λ (x : Operation). if not (is_frame x.opcode) && w.fails (seen c) x then CRaised c.acts else dispatch_as (frames_pass w) item.row x.opcode x.arg c) is
    ∙ loads (frames_pass w) c ∙ same_dispatch w o.opcode o.arg c in
    inl (here ∙ sym there)

op_same : (w : World) (o : Operation) (item : Taken) (c : CUnpickler) → IsOf o item.op item.row → OpSame w o item c
op_same w o item c of = op_by w o item c (w.fails (seen c) o) refl of

-- what it comes to
abbrev OnceSame : World → Pickles → Operation → Taken → CLoaded → Type 0
OnceSame w p o item l = (c_load_once w p o l ≡ c_load_more (frames_pass w) p item l) ⊎ (c_load_once w p o l ≡ CFailed (acts_of (seen_loaded l)))

again_acts : (p : Pickles) (c : CUnpickler) → (c_again p c).acts ≡ c.acts
again_acts pickles.First c = refl
again_acts pickles.All c = refl
again_acts pickles.OneMemo c = refl

once_by : (w : World) (o : Operation) (item : Taken) (c : CUnpickler) (acts : List Act) → c.acts ≡ acts → OpSame w o item c → (c_loaded (c_load_op w o c) ≡ c_loaded (c_load_taken (frames_pass w) item c)) ⊎ (c_loaded (c_load_op w o c) ≡ CFailed acts)
once_by w o item c acts e (inl same) = inl (ap c_loaded same)
once_by w o item c acts e (inr raised) = inr (ap c_loaded raised ∙ ap (λ (l : List Act). CFailed l) e)

once_same : (w : World) (p : Pickles) (o : Operation) (item : Taken) (l : CLoaded) → IsOf o item.op item.row → OnceSame w p o item l
once_same w p o item (CGoing c) of = once_by w o item c c.acts refl (op_same w o item c of)
once_same w p o item (CEnded v c) of = once_by w o item (c_again p c) c.acts (again_acts p c) (op_same w o item (c_again p c) of)
once_same w p o item (CFailed acts) of = inl refl

raises_op : (w : World) (o : Operation) (c : CUnpickler) (b : Bool) → dispatch w o.opcode o.arg c ≡ CRaised c.acts → (if b then CRaised c.acts else dispatch w o.opcode o.arg c) ≡ CRaised c.acts
raises_op w o c true e = refl
raises_op w o c false e = e

-- an opcode at which it raises
never_once : (w : World) (p : Pickles) (o : Operation) (l : CLoaded) → ((w : World) (c : CUnpickler) → dispatch w o.opcode o.arg c ≡ CRaised c.acts) → c_load_once w p o l ≡ CFailed (acts_of (seen_loaded l))
never_once w p o (CGoing c) raises = ap c_loaded (raises_op w o c (w.fails (seen c) o) (raises w c))
never_once w p o (CEnded v c) raises =
    let d : CUnpickler = c_again p c in
    ap c_loaded (raises_op w o d (w.fails (seen d) o) (raises w d)) ∙ ap (λ (l : List Act). CFailed l) (again_acts p c)
never_once w p o (CFailed acts) raises = refl

-- ---- along the file

-- the file shows all that it has
abbrev pub ShowsAll : (ℕ → ℕ) → List ℕ → Type 0
ShowsAll shows bytes = (turn : ℕ) → length bytes ≤ shows turn

-- the load is where the mix is; or it raised, and had done what the mix did
data IsBeside (shows : ℕ → ℕ) (bytes : List ℕ) (x : CLoading) (y : COnward) : Type 0 where
  Level : x.now ≡ y.now → (s : Split) → IsAt s x.input → y.rest ≡ all s → y.left ≡ length s.inside → length y.rest ≤ length bytes → (ShowsAll shows bytes → s.inside ≡ []) → IsBeside shows bytes x y
  Over : x.now ≡ CFailed (acts_of (seen_loaded y.now)) → IsBeside shows bytes x y

abbrev pub mixed : World → Pickles → List ℕ → List Bool → COnward
mixed w p bytes shown = c_load_mixed (frames_pass w) (file_mix p shown) (c_opened bytes)

-- the mix, which loses nothing where the file shows all
record Walked (shows : ℕ → ℕ) (w : World) (p : Pickles) (bytes : List ℕ) (x : CLoading) : Type 0 where
  mix : List Bool
  beside : IsBeside shows bytes x (mixed w p bytes mix)
  kept : ShowsAll shows bytes → mix_loses (frames_pass w) (file_mix p mix) (c_opened bytes) ≡ false

-- that of these frames
abbrev Kept : (ℕ → ℕ) → World → Pickles → List ℕ → List Bool → Type 0
Kept shows w p bytes shown = ShowsAll shows bytes → mix_loses (frames_pass w) (file_mix p shown) (c_opened bytes) ≡ false

-- one item more at the end
mix_last : (w : World) (p : Pickles) (shown : List Bool) (b : Bool) (x : COnward) → c_load_mixed w (file_mix p (shown ++ b ∷ [])) x ≡ c_load_turn w (file_turn p b) (c_load_mixed w (file_mix p shown) x)
unfolding c_load_mixed
mix_last w p [] b x = refl
mix_last w p (a ∷ shown) b x = mix_last w p shown b (c_load_turn w (file_turn p a) x)

keeps_last : (w : World) (p : Pickles) (shown : List Bool) (b : Bool) (x : COnward) → mix_loses w (file_mix p shown) x ≡ false → turn_loses (file_turn p b) (c_load_mixed w (file_mix p shown) x) ≡ false → mix_loses w (file_mix p (shown ++ b ∷ [])) x ≡ false
unfolding c_load_mixed mix_loses
keeps_last w p [] b x before here = or_from (turn_loses (file_turn p b) x) false here refl
keeps_last w p (a ∷ shown) b x before here =
    let both = or_parts (turn_loses (file_turn p a) x) (mix_loses w (file_mix p shown) (c_load_turn w (file_turn p a) x)) before in
    or_from (turn_loses (file_turn p a) x) (mix_loses w (file_mix p (shown ++ b ∷ [])) (c_load_turn w (file_turn p a) x)) both.0 (keeps_last w p shown b (c_load_turn w (file_turn p a) x) both.1 here)

-- where nothing is in the buffer nothing is lost
kept_by : (l : Lenient) (b c d e : Bool) (n m : ℕ) → (if b then refilled 0 (taken_as 0 0 l) else (if c then (if d then taken_as 0 0 l else (if e then refilled n (taken_as 0 0 l) else refilled m (taken_as 0 0 l))) else taken_as 0 0 l)).lost ≡ false
kept_by l true c d e n m = refl
kept_by l false true true e n m = refl
kept_by l false true false true n m = refl
kept_by l false true false false n m = refl
kept_by l false false d e n m = refl

kept_across : (ends : Bool) (bytes : List ℕ) (x : Result Lenient FrontFault) (item : Taken) → across ends bytes 0 x ≡ Ok item → item.lost ≡ false
kept_across ends bytes (Err f) item e = absurd cc
kept_across ends bytes (Ok l) item e =
    let t : Taken = taken_as 0 0 l in
    let same : settled ends bytes t ≡ item = cc in
    subst (λ (i : Taken). i.lost ≡ false) same
    (kept_by l (ends && is_stop t.op.opcode) (is_frame t.op.opcode) (nat_le (frame_number t.op) t.left) (nat_le (frame_number t.op) (length bytes - (t.size + t.left))) (frame_number t.op) (length bytes - (t.size + t.left)))

pub kept_empty : (p : Pickles) (bytes : List ℕ) (item : Taken) → taken (file_frames p) 0 bytes ≡ Ok item → item.lost ≡ false
kept_empty p bytes item e = kept_across (ends_loads p) bytes (lenient (joined 0 bytes)) item (sym (taken_by p 0 bytes false refl) ∙ e)

turn_keeps : (p : Pickles) (b : Bool) (y : COnward) (item : Taken) → reads_on p (seen_loaded y.now) ≡ true → taken (file_frames p) y.left y.rest ≡ Ok item → y.left ≡ 0 → turn_loses (file_turn p b) y ≡ false
turn_keeps p b y item on takes empty =
    ap (λ (c : Bool). if c then loses (taken (file_frames p) y.left y.rest) else false) on ∙ ap loses takes
    ∙ kept_empty p y.rest item (ap (λ (n : ℕ). taken (file_frames p) n y.rest) (sym empty) ∙ takes)

pub turn_is : (w : World) (p : Pickles) (b : Bool) (y : COnward) (item : Taken) → reads_on p (seen_loaded y.now) ≡ true → taken (file_frames p) y.left y.rest ≡ Ok item
    → c_load_turn w (file_turn p b) y ≡ c_as_shown b (record { now = c_load_more w p item y.now; rest = drop item.size y.rest; left = item.left })
turn_is w p b y item on takes =
    ap (λ (c : Bool). if c then c_as_shown b (c_load_read w p y (taken (file_frames p) y.left y.rest)) else y) on
    ∙ ap (λ (r : Result Taken FrontFault). c_as_shown b (c_load_read w p y r)) takes

-- behind an item
beside_shown : (shows : ℕ → ℕ) (q : Split) (all_bytes : List ℕ) (now l : CLoaded) (k : Input) (item : Taken) (bytes : List ℕ) (g : Went shows q bytes item k) (b : Bool) → g.shown ≡ b → now ≡ l → length bytes ≤ length all_bytes → (ShowsAll shows all_bytes → q.inside ≡ [])
    → IsBeside shows all_bytes (record { now = now; input = k }) (c_as_shown b (record { now = l; rest = drop item.size bytes; left = item.left }))
beside_shown shows q all_bytes now l k item bytes g true is same few empty =
    Level same g.split g.at g.rest (sym (ap (λ (c : Bool). if c then 0 else item.left) is) ∙ g.left) (omega (arith, few, length-drop item.size bytes)) (λ big. g.whole (λ turn. le_trans few (big turn)) (empty big))
beside_shown shows q all_bytes now l k item bytes g false is same few empty =
    Level same g.split g.at g.rest (sym (ap (λ (c : Bool). if c then 0 else item.left) is) ∙ g.left) (omega (arith, few, length-drop item.size bytes)) (λ big. g.whole (λ turn. le_trans few (big turn)) (empty big))

went_by : (shows : ℕ → ℕ) (w : World) (p : Pickles) (bytes : List ℕ) (shown : List Bool) (q : Split) (now : CLoaded) (k : Input) (item : Taken) → (g : Went shows q (mixed w p bytes shown).rest item k) → reads_on p (seen_loaded (mixed w p bytes shown).now) ≡ true → taken (file_frames p) (mixed w p bytes shown).left (mixed w p bytes shown).rest ≡ Ok item
    → length (mixed w p bytes shown).rest ≤ length bytes → Kept shows w p bytes shown → (ShowsAll shows bytes → (mixed w p bytes shown).left ≡ 0) → (ShowsAll shows bytes → q.inside ≡ []) → (now ≡ c_load_more (frames_pass w) p item (mixed w p bytes shown).now) ⊎ (now ≡ CFailed (acts_of (seen_loaded (mixed w p bytes shown).now))) → Walked shows w p bytes (record { now = now; input = k })
went_by shows w p bytes shown q now k item g on takes few kept none empty (inl same) =
    let y : COnward = mixed w p bytes shown in
    let next = mix_last (frames_pass w) p shown g.shown (c_opened bytes) ∙ turn_is (frames_pass w) p g.shown y item on takes in
    record {
      mix = shown ++ g.shown ∷ [];
      beside = subst (λ (z : COnward). IsBeside shows bytes (record { now = now; input = k }) z) (sym next) (beside_shown shows q bytes now (c_load_more (frames_pass w) p item y.now) k item y.rest g g.shown refl same few empty);
      kept = λ big. keeps_last (frames_pass w) p shown g.shown (c_opened bytes) (kept big) (turn_keeps p g.shown y item on takes (none big));
    }
went_by shows w p bytes shown q now k item g on takes few kept none empty (inr raised) = record { mix = shown; beside = Over raised; kept = kept }

-- what is loaded of what was read
over_found : (shows : ℕ → ℕ) (w : World) (p : Pickles) (bytes : List ℕ) (shown : List Bool) (x : CLoading) → x.now ≡ (mixed w p bytes shown).now → Kept shows w p bytes shown → Walked shows w p bytes (c_load_found w p x CNoFetch)
over_found shows w p bytes shown x now kept = record { mix = shown; beside = Over (ap (λ (l : CLoaded). CFailed (acts_of (seen_loaded l))) now); kept = kept }

never_found : (shows : ℕ → ℕ) (w : World) (p : Pickles) (bytes : List ℕ) (shown : List Bool) (x : CLoading) (o : Operation) (y : Option Input) → x.now ≡ (mixed w p bytes shown).now → Kept shows w p bytes shown → ((w : World) (c : CUnpickler) → dispatch w o.opcode o.arg c ≡ CRaised c.acts) → Walked shows w p bytes (c_load_found w p x (fetched o y))
never_found shows w p bytes shown x o None now kept raises = over_found shows w p bytes shown x now kept
never_found shows w p bytes shown x o (Some k) now kept raises = record { mix = shown; beside = Over (never_once w p o x.now raises ∙ ap (λ (l : CLoaded). CFailed (acts_of (seen_loaded l))) now); kept = kept }

item_found : (shows : ℕ → ℕ) (w : World) (p : Pickles) (bytes : List ℕ) (shown : List Bool) (x : CLoading) (q : Split) (o : Operation) (y : Option Input) (item : Taken) → x.now ≡ (mixed w p bytes shown).now → reads_on p (seen_loaded x.now) ≡ true → taken (file_frames p) (mixed w p bytes shown).left (mixed w p bytes shown).rest ≡ Ok item
    → length (mixed w p bytes shown).rest ≤ length bytes → Kept shows w p bytes shown → (ShowsAll shows bytes → (mixed w p bytes shown).left ≡ 0) → (ShowsAll shows bytes → q.inside ≡ []) → IsOf o item.op item.row → IsBehind shows q (mixed w p bytes shown).rest y item → Walked shows w p bytes (c_load_found w p x (fetched o y))
item_found shows w p bytes shown x q o y item now on takes few kept none empty of (NoMore over) =
    subst (λ (z : Option Input). Walked shows w p bytes (c_load_found w p x (fetched o z))) (sym over) (over_found shows w p bytes shown x now kept)
item_found shows w p bytes shown x q o y item now on takes few kept none empty of (More k is went) =
    let here : reads_on p (seen_loaded (mixed w p bytes shown).now) ≡ true = ap (λ (l : CLoaded). reads_on p (seen_loaded l)) (sym now) ∙ on in
    let once = subst (λ (l : CLoaded). (c_load_once w p o x.now ≡ c_load_more (frames_pass w) p item l) ⊎ (c_load_once w p o x.now ≡ CFailed (acts_of (seen_loaded l)))) now (once_same w p o item x.now of) in
    subst (λ (z : Option Input). Walked shows w p bytes (c_load_found w p x (fetched o z))) (sym is) (went_by shows w p bytes shown q (c_load_once w p o x.now) k item went here takes few kept none empty once)

-- an item as it is taken
settled_of : (p : Pickles) (o : Operation) (l : Lenient) (gap left : ℕ) (bytes : List ℕ) → IsOf o l.op l.row → IsOf o (settled (ends_loads p) bytes (taken_as gap left l)).op (settled (ends_loads p) bytes (taken_as gap left l)).row
settled_of p o l gap left bytes of =
    let t : Taken = taken_as gap left l in
    let same = same_settled (ends_loads p && is_stop t.op.opcode) (is_frame t.op.opcode) bytes t in
    subst (λ (r : Row). IsOf o (settled (ends_loads p) bytes t).op r) (sym same.1) (subst (λ (x : Operation). IsOf o x t.row) (sym same.0) of)

-- what is known of a load that is level with a mix
record IsLevel (shows : ℕ → ℕ) (bytes : List ℕ) (x : CLoading) (y : COnward) (s : Split) : Type 0 where
  now : x.now ≡ y.now
  rest : y.rest ≡ all s
  left : y.left ≡ length s.inside
  few : length y.rest ≤ length bytes
  empty : ShowsAll shows bytes → s.inside ≡ []

taken_found : (shows : ℕ → ℕ) (w : World) (p : Pickles) (bytes : List ℕ) (shown : List Bool) (x : CLoading) (s q : Split) (o : Operation) (j : Input) → IsLevel shows bytes x (mixed w p bytes shown) s → Kept shows w p bytes shown → reads_on p (seen_loaded x.now) ≡ true → IsAt q j → IsTaken p s o q → Walked shows w p bytes (c_load_found w p x (fetched o (behind shows p o.opcode o.arg j)))
taken_found shows w p bytes shown x s q o j level kept on at (Reads l gap takes of next more) =
    let item : Taken = settled (ends_loads p) (all s) (taken_as gap (length q.inside) l) in
    let here : taken (file_frames p) (mixed w p bytes shown).left (mixed w p bytes shown).rest ≡ Ok item = ap (λ (n : ℕ). taken (file_frames p) n (mixed w p bytes shown).rest) level.left ∙ ap (taken (file_frames p) (length s.inside)) level.rest ∙ takes in
    item_found shows w p bytes shown x q o (behind shows p o.opcode o.arg j) item level.now on here level.few kept (λ big. level.left ∙ ap length (level.empty big)) (λ big. more (level.empty big)) (settled_of p o l gap (length q.inside) (all s) of)
    (subst (λ (b : List ℕ). IsBehind shows q b (behind shows p o.opcode o.arg j) item) (sym level.rest) (is_behind shows p o l gap (all s) q j of at next))
taken_found shows w p bytes shown x s q o j level kept on at (Never raises) = never_found shows w p bytes shown x o (behind shows p o.opcode o.arg j) level.now kept raises

fetched_found : (shows : ℕ → ℕ) (w : World) (p : Pickles) (bytes : List ℕ) (shown : List Bool) (x : CLoading) (s : Split) → IsLevel shows bytes x (mixed w p bytes shown) s → Kept shows w p bytes shown → reads_on p (seen_loaded x.now) ≡ true → IsFetched shows p s x.input → Walked shows w p bytes (c_load_found w p x (fetch shows p x.input))
fetched_found shows w p bytes shown x s level kept on (Nothing e) = subst (λ (f : CFetched). Walked shows w p bytes (c_load_found w p x f)) (sym e) (over_found shows w p bytes shown x level.now kept)
fetched_found shows w p bytes shown x s level kept on (Fetches o q j e at takes) =
    subst (λ (f : CFetched). Walked shows w p bytes (c_load_found w p x f)) (sym e) (taken_found shows w p bytes shown x s q o j level kept on at takes)

pub no_more : (p : Pickles) (acts : List Act) → reads_on p (seen_loaded (CFailed acts)) ≡ true → ⊥
no_more pickles.First acts e = cc
no_more pickles.All acts e = cc
no_more pickles.OneMemo acts e = cc

level_next : (shows : ℕ → ℕ) (w : World) (p : Pickles) (bytes : List ℕ) (shown : List Bool) (x : CLoading) → length bytes < 2 ^ 31 → Kept shows w p bytes shown → reads_on p (seen_loaded x.now) ≡ true → IsBeside shows bytes x (mixed w p bytes shown) → Walked shows w p bytes (c_load_found w p x (fetch shows p x.input))
level_next shows w p bytes shown x small kept on (Level now s at rest left few empty) =
    let below : length (all s) < 2 ^ 31 = subst (λ (l : List ℕ). length l < 2 ^ 31) rest (omega (arith, few, small)) in
    fetched_found shows w p bytes shown x s (record { now = now; rest = rest; left = left; few = few; empty = empty }) kept on (is_fetched shows p s x.input at below)
level_next shows w p bytes shown x small kept on (Over failed) = absurd (no_more p (acts_of (seen_loaded (mixed w p bytes shown).now)) (ap (λ (l : CLoaded). reads_on p (seen_loaded l)) (sym failed) ∙ on))

next_walked : (shows : ℕ → ℕ) (w : World) (p : Pickles) (bytes : List ℕ) (x : CLoading) (b : Bool) → length bytes < 2 ^ 31 → reads_on p (seen_loaded x.now) ≡ b → Walked shows w p bytes x → Walked shows w p bytes (if b then c_load_found w p x (fetch shows p x.input) else x)
next_walked shows w p bytes x true small on walked = level_next shows w p bytes walked.mix x small walked.kept on walked.beside
next_walked shows w p bytes x false small on walked = walked

walked : (shows : ℕ → ℕ) (w : World) (p : Pickles) (bytes : List ℕ) → length bytes < 2 ^ 31 → (n : ℕ) → Walked shows w p bytes (c_load_file w shows p bytes n)
unfolding c_load_file c_load_mixed mix_loses
walked shows w p bytes small zero = record { mix = []; beside = Level refl (outside_only bytes) (Given refl refl (omega arith) refl) refl refl (omega arith) (λ big. refl); kept = λ big. refl }
walked shows w p bytes small (suc n) =
    let x : CLoading = c_load_file w shows p bytes n in
    next_walked shows w p bytes x (reads_on p (seen_loaded x.now)) small refl (walked shows w p bytes small n)

-- ---- the laws

with_mix : (shows : ℕ → ℕ) (bytes : List ℕ) (x : CLoading) (y : COnward) → IsBeside shows bytes x y → IsWith x.now y.now
with_mix shows bytes x y (Level now s at rest left few empty) = inl now
with_mix shows bytes x y (Over failed) = inr failed

-- the mix, and that it loses nothing where the file shows all
pub mix_of : (w : World) (shows : ℕ → ℕ) (p : Pickles) (bytes : List ℕ) (n : ℕ) → length bytes < 2 ^ 31 → (shown : List Bool) × IsWith (c_load_file w shows p bytes n).now (mixed w p bytes shown).now × (ShowsAll shows bytes → mix_loses (frames_pass w) (file_mix p shown) (c_opened bytes) ≡ false)
mix_of w shows p bytes n small =
    let far = walked shows w p bytes small n in
    (far.mix, with_mix shows bytes (c_load_file w shows p bytes n) (mixed w p bytes far.mix) far.beside, far.kept)

pub files_are_mixes : FilesAreMixes
files_are_mixes w shows p bytes n small = let mix = mix_of w shows p bytes n small in (mix.0, mix.1)

-- it did the same
pub same_acts : (x y : CLoaded) → IsWith x y → acts_of (seen_loaded x) ≡ acts_of (seen_loaded y)
same_acts x y (inl same) = ap (λ (l : CLoaded). acts_of (seen_loaded l)) same
same_acts x y (inr failed) = ap (λ (l : CLoaded). acts_of (seen_loaded l)) failed

-- what is refused raises there too
read_frame : (o : Opcode) (arg : List ℕ) → is_unread o arg ≡ true → is_frame o ≡ false
read_frame op.Frame arg e = let two : false ≡ true = e in absurd cc
read_frame _ arg e = refl

granted_passes : (g : Granted) (w : World) → IsGranted g w → IsGranted g (frames_pass w)
granted_passes g w keeps = record {
  refuses = keeps.refuses;
  unread = λ u o e. ap (λ (b : Bool). not b && w.fails u o) (read_frame o.opcode o.arg e) ∙ keeps.unread u o e;
}

pub nothing_reached_in_a_file : NothingReachedInAFile
nothing_reached_in_a_file g w shows p bytes none keeps small n =
    let mix = files_are_mixes w shows p bytes n small in
    let y : COnward = c_load_mixed (frames_pass w) (file_mix p mix.0) (c_opened bytes) in
    subst (NoneReaches g) (sym (same_acts (c_load_file w shows p bytes n).now y.now mix.1)) (nothing_reached_in_c g (frames_pass w) bytes none (granted_passes g w keeps) (file_mix p mix.0))

pub nothing_reached_of_a_pipe : NothingReachedOfAPipe
nothing_reached_of_a_pipe g w comes p bytes none keeps n came =
    let same = pipe_is_file w comes p bytes n came in
    subst (NoneReaches g) (sym same.2) (nothing_reached_by_frames g w p bytes none keeps same.0)
