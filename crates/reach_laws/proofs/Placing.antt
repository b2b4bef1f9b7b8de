-- Each act of a load, whatever way each item is read in, is done by an item whose place is found.
use Rattle.std.proofs.Common.{◌≡◌, ℕ, ◌+◌, ◌-◌, Bool, true, false, List, [], ◌∷◌, ◌++◌, length, take, drop, Ok, refl, sym, ap, subst, ◌∙◌, inl, inr}
use Rattle.std.specs.Prelude.{◌⊎◌, ◌==◌, ◌&&◌, ◌||◌, nat_le, if◌then◌else◌, All, Some, Result, Err, ⊤}
use Rattle.std.proofs.lemmas.List.{drop-drop}
use Rattle.std.proofs.lemmas.List.Elements.{All-nil, All-cons, All-head, All-tail}
use Rattle.pickle_ops.specs.declared.opcode.Opcode.{Opcode}
use Rattle.pickle_ops.specs.declared.opcode.Opcode.TheVariants as op
use Rattle.pickle_ops.specs.declared.fault.FrontFault.{FrontFault}
use Rattle.pickle_ops.specs.Spelling.{Operation}
use Rattle.pickle_ops.specs.Front.{front_of}
use Rattle.pickle_doc.specs.DocUnit.{is_frame, is_stop, frame_number}
use Rattle.pickle_lenient.specs.declared.taken.Frames.{Frames}
use Rattle.pickle_lenient.specs.declared.taken.Frames.TheVariants as frames
use Rattle.pickle_lenient.specs.declared.taken.Taken.{Taken}
use Rattle.pickle_lenient.specs.Lenient.{Lenient, lenient}
use Rattle.pickle_lenient.specs.Stream.{ends_in, first_read, refilled, framed, settled, taken_as, plain, within, across, joined, taken}
use Rattle.pickle_further.specs.declared.way.Pickles.{Pickles}
use Rattle.pickle_further.specs.declared.way.Pickles.TheVariants as pickles
use Rattle.pickle_loader.specs.Environment.{Act, Unpickler, World}
use Rattle.pickle_loader.specs.Unpickler.{Stopped, Raised, item, load_stop}
use Rattle.pickle_loader.specs.Dispatch.{Loaded, Going, Ended, Failed, loaded, acts_of}
use Rattle.pickle_loader.specs.Listed.{listed_of}
use Rattle.pickle_loader.specs.Onward.{Onward, dispatch_as, again, reads_on, load_more, load_read}
use Rattle.pickle_loader.specs.ByFrames.{IsAct}
use Rattle.pickle_loader.specs.CLoad.{as_in_c}
use Rattle.pickle_loader.specs.ShownFile.{c_load_file}
use Rattle.pickle_loader.proofs.Images.{listed-append}
use Rattle.pickle_loader.proofs.Buffers.{plain_item, buffered_same}
use Rattle.pickle_mixes.specs.declared.place.Place.{Place}
use Rattle.pickle_mixes.specs.Acting.{may_act, first_place, item_at, acts_by, acts_at, is_over, acting_places}
use Rattle.pickle_mixes.proofs.Looks.{behind_shown, IsTold, first_told, told_on, told_acts}
use Rattle.reach_laws.specs.Mixed.{Turn, opened, as_shown, load_turn, load_mixed, c_opened, c_load_mixed}
use Rattle.reach_laws.specs.Filed.{file_mix, frames_pass}
use Rattle.mixes_text.specs.MixText.{goes_on}
use Rattle.reach_laws.specs.Placed.{IsPlaced, IsDoneThere, covers, EachActOfAMixHasItsPlace, EachActInCHasItsPlace, EachActOfAFileHasItsPlace}
use Rattle.reach_laws.proofs.Adding.{Adds, more_adds}
use Rattle.reach_laws.proofs.Filed.{files_are_mixes, same_acts}
use Rattle.reach_laws.proofs.InC.{mixed_same}

-- ---- the operation at a place

settled_op : (ends : Bool) (bytes : List ℕ) (t : Taken) → (settled ends bytes t).op ≡ t.op
settled_op ends bytes t = by (ends && is_stop t.op.opcode) (is_frame t.op.opcode) (nat_le (frame_number t.op) t.left) (nat_le (frame_number t.op) (length bytes - (t.size + t.left)))
  where
    by : (a b c d : Bool) → (if a then refilled 0 t else if b then (if c then t else if d then refilled (frame_number t.op) t else refilled (length bytes - (t.size + t.left)) t) else t).op ≡ t.op
    by true b c d = refl
    by false true true d = refl
    by false true false true = refl
    by false true false false = refl
    by false false c d = refl

drop_none : (xs : List ℕ) → drop 0 xs ≡ xs
drop_none [] = refl
drop_none (x ∷ xs) = refl

-- of what is read with frames ignored it is the one that is read with nothing in the buffer
alone_by : (bytes : List ℕ) (r : Result Lenient FrontFault) (t : Taken) → plain r ≡ Ok t → (u : Taken) × (across false bytes 0 r ≡ Ok u) × (u.op ≡ t.op)
alone_by bytes (Ok l) t e =
    let same : taken_as 0 0 l ≡ t = cc in
    (settled false bytes (taken_as 0 0 l), refl, settled_op false bytes (taken_as 0 0 l) ∙ ap (λ (x : Taken). x.op) same)
alone_by bytes (Err f) t e = absurd cc

alone : (left : ℕ) (bytes : List ℕ) (t : Taken) → taken frames.Ignored left bytes ≡ Ok t → (u : Taken) × (taken frames.Held 0 bytes ≡ Ok u) × (u.op ≡ t.op)
unfolding taken
alone left bytes t e =
    let x = alone_by bytes (lenient bytes) t e in
    (x.0, ap (λ (b : List ℕ). across false bytes 0 (lenient b)) (drop_none bytes) ∙ x.1, x.2)

-- whether STOP ends the buffer tells nothing of other opcodes
stop_by : (bytes : List ℕ) (x : Taken) (b : Bool) → is_stop x.op.opcode ≡ b → is_stop (settled true bytes x).op.opcode ≡ false → settled true bytes x ≡ settled false bytes x
stop_by bytes x true is e =
    let two : true ≡ false = sym is ∙ ap (λ (o : Operation). is_stop o.opcode) (sym (settled_op true bytes x)) ∙ e in absurd cc
stop_by bytes x false is e = ap (λ (b : Bool). if b then refilled 0 x else if is_frame x.op.opcode then framed bytes x (frame_number x.op) else x) is

within_same : (bytes : List ℕ) (size : ℕ) (r : Result Lenient FrontFault) (t : Taken) → is_stop t.op.opcode ≡ false → within true bytes size r ≡ Ok t → within false bytes size r ≡ Ok t
within_same bytes size (Ok l) t other e =
    let x : Taken = taken_as 0 (size - l.size) l in
    let same : settled true bytes x ≡ t = cc in
    ap (λ (y : Taken). Ok y) (sym (stop_by bytes x (is_stop x.op.opcode) refl (ap (λ (y : Taken). is_stop y.op.opcode) same ∙ other)) ∙ same)
within_same bytes size (Err f) t other e = absurd cc

across_same : (bytes : List ℕ) (gap : ℕ) (r : Result Lenient FrontFault) (t : Taken) → is_stop t.op.opcode ≡ false → across true bytes gap r ≡ Ok t → across false bytes gap r ≡ Ok t
across_same bytes gap (Ok l) t other e =
    let x : Taken = taken_as gap 0 l in
    let same : settled true bytes x ≡ t = cc in
    ap (λ (y : Taken). Ok y) (sym (stop_by bytes x (is_stop x.op.opcode) refl (ap (λ (y : Taken). is_stop y.op.opcode) same ∙ other)) ∙ same)
across_same bytes gap (Err f) t other e = absurd cc

held_by : (b : Bool) (left : ℕ) (bytes : List ℕ) (t : Taken) → is_stop t.op.opcode ≡ false
    → (if b then within true bytes (length (take left bytes)) (lenient (take left bytes)) else across true bytes (length (take left bytes) - first_read (take left bytes)) (lenient (joined left bytes))) ≡ Ok t
    → (if b then within false bytes (length (take left bytes)) (lenient (take left bytes)) else across false bytes (length (take left bytes) - first_read (take left bytes)) (lenient (joined left bytes))) ≡ Ok t
held_by true left bytes t other e = within_same bytes (length (take left bytes)) (lenient (take left bytes)) t other e
held_by false left bytes t other e = across_same bytes (length (take left bytes) - first_read (take left bytes)) (lenient (joined left bytes)) t other e

held_same : (left : ℕ) (bytes : List ℕ) (t : Taken) → is_stop t.op.opcode ≡ false → taken frames.Buffered left bytes ≡ Ok t → taken frames.Held left bytes ≡ Ok t
unfolding taken
held_same left bytes t other e = held_by (ends_in (front_of (take left bytes))) left bytes t other e

no_stop : (o : Opcode) → may_act o ≡ true → is_stop o ≡ false
no_stop op.Stop e = let two : false ≡ true = e in absurd cc
no_stop _ e = refl

-- ---- where a load stands

-- beside a place that is told, and the same with nothing in the buffer
record Stands (many : Bool) (bytes : List ℕ) (found : List Place) (rest : List ℕ) (left : ℕ) : Type 0 where
  place : Place
  full : IsTold many bytes found place
  none : IsTold many bytes found (record place { left = 0 })
  rest_is : rest ≡ drop place.offset bytes
  left_is : left ≡ place.left

-- an operation that it takes there has its place
placed_alone : (many : Bool) (bytes : List ℕ) (found : List Place) (p : Place) (t u : Taken) → IsTold many bytes found (record p { left = 0 }) → may_act t.op.opcode ≡ true → item_at bytes frames.Held (record p { left = 0 }) ≡ Ok u → u.op ≡ t.op → IsPlaced bytes found p.offset t.op
unfolding acts_at
placed_alone many bytes found p t u told may takes same = record {
  place = record p { left = 0 };
  there = told_acts many bytes found (record p { left = 0 }) told
      (ap (acts_by (record p { left = 0 })) takes ∙ ap (λ (o : Operation). may_act o.opcode && true) same ∙ ap (λ (b : Bool). b && true) may);
  at = refl;
  item = u;
  takes = takes;
  same = same;
}

placed_ignored : (many : Bool) (bytes : List ℕ) (found : List Place) (p : Place) (n : ℕ) (t : Taken) → IsTold many bytes found (record p { left = 0 }) → may_act t.op.opcode ≡ true → taken frames.Ignored n (drop p.offset bytes) ≡ Ok t → IsPlaced bytes found p.offset t.op
placed_ignored many bytes found p n t told may takes = let x = alone n (drop p.offset bytes) t takes in placed_alone many bytes found p t x.0 told may x.1 x.2

or_true : (b : Bool) → (b || true) ≡ true
or_true true = refl
or_true false = refl

placed_held : (many : Bool) (bytes : List ℕ) (found : List Place) (p : Place) (t : Taken) (b : Bool) → t.lost ≡ b → IsTold many bytes found p → IsTold many bytes found (record p { left = 0 }) → may_act t.op.opcode ≡ true → item_at bytes frames.Held p ≡ Ok t → IsPlaced bytes found p.offset t.op
unfolding acts_at
placed_held many bytes found p t true lost full none may takes = record {
  place = p;
  there = told_acts many bytes found p full (ap (acts_by p) takes ∙ ap (λ (b : Bool). may_act t.op.opcode && (p.left == 0 || b)) lost ∙ ap (λ (b : Bool). may_act t.op.opcode && b) (or_true (p.left == 0)) ∙ ap (λ (b : Bool). b && true) may);
  at = refl;
  item = t;
  takes = takes;
  same = refl;
}
placed_held many bytes found p t false kept full none may takes = placed_ignored many bytes found p 0 (plain_item t) none may (buffered_same frames.Held p.left 0 (drop p.offset bytes) t takes kept)

placed : (many : Bool) (bytes : List ℕ) (found : List Place) (f : Frames) (p : Place) (t : Taken) → IsTold many bytes found p → IsTold many bytes found (record p { left = 0 }) → may_act t.op.opcode ≡ true → item_at bytes f p ≡ Ok t → IsPlaced bytes found p.offset t.op
placed many bytes found frames.Ignored p t full none may takes = placed_ignored many bytes found p p.left t none may takes
placed many bytes found frames.Held p t full none may takes = placed_held many bytes found p t t.lost refl full none may takes
placed many bytes found frames.Buffered p t full none may takes = placed_held many bytes found p t t.lost refl full none may (held_same p.left (drop p.offset bytes) t (no_stop t.op.opcode may) takes)

-- ---- along a mix

-- where it reads on it stands so
abbrev StandsNow : Bool → List ℕ → List Place → Loaded → List ℕ → ℕ → Type 0
StandsNow many bytes found (Going u) rest left = Stands many bytes found rest left
StandsNow many bytes found (Ended v u) rest left = many ≡ true → Stands many bytes found rest left
StandsNow many bytes found (Failed acts) rest left = ⊤

abbrev IsAt : Bool → List ℕ → List Place → Onward → Type 0
IsAt many bytes found x = StandsNow many bytes found x.now x.rest x.left

at_now : (many : Bool) (bytes : List ℕ) (found : List Place) (p : Pickles) (l : Loaded) (rest : List ℕ) (left : ℕ) → covers many p ≡ true → reads_on p l ≡ true → StandsNow many bytes found l rest left → Stands many bytes found rest left
at_now many bytes found p (Going u) rest left cover on at = at
at_now true bytes found p (Ended v u) rest left cover on at = at refl
at_now false bytes found pickles.First (Ended v u) rest left cover on at = let two : false ≡ true = on in absurd cc
at_now false bytes found pickles.All (Ended v u) rest left cover on at = let two : false ≡ true = cover in absurd cc
at_now false bytes found pickles.OneMemo (Ended v u) rest left cover on at = let two : false ≡ true = cover in absurd cc
at_now many bytes found p (Failed acts) rest left cover on at = let two : false ≡ true = on in absurd cc

stands_all : (many : Bool) (bytes : List ℕ) (found : List Place) (l : Loaded) (rest : List ℕ) (left : ℕ) → Stands many bytes found rest left → StandsNow many bytes found l rest left
stands_all many bytes found (Going u) rest left s = s
stands_all many bytes found (Ended v u) rest left s = λ e. s
stands_all many bytes found (Failed acts) rest left s = tt

-- behind STOP it does not read on
is_the_stop : (o : Opcode) → is_stop o ≡ true → o ≡ op.Stop
is_the_stop op.Stop e = refl
is_the_stop _ e = absurd cc

two_never : false ≡ true → ⊥
two_never e = absurd cc

stop_over : (bytes : List ℕ) (found : List Place) (u : Unpickler) (rest : List ℕ) (left : ℕ) → StandsNow false bytes found (loaded (load_stop u)) rest left
stop_over bytes found u rest left = by (nat_le 1 (length u.stack))
  where
    by : (b : Bool) → StandsNow false bytes found (loaded (if b then Stopped (item 0 (drop (length u.stack - 1) u.stack)) (record u { stack = take (length u.stack - 1) u.stack }) else Raised u.acts)) rest left
    by true = λ e. absurd (two_never e)
    by false = tt

over_step : (w : World) (bytes : List ℕ) (found : List Place) (t : Taken) (u : Unpickler) (rest : List ℕ) (left : ℕ) (b : Bool) → t.op.opcode ≡ op.Stop → StandsNow false bytes found (loaded (if b then Raised u.acts else dispatch_as w t.row t.op.opcode t.op.arg u)) rest left
over_step w bytes found t u rest left true is = tt
over_step w bytes found t u rest left false is =
    subst (λ (o : Opcode). StandsNow false bytes found (loaded (dispatch_as w t.row o t.op.arg u)) rest left) (sym is) (stop_over bytes found u rest left)

over_more : (w : World) (p : Pickles) (bytes : List ℕ) (found : List Place) (t : Taken) (l : Loaded) (rest : List ℕ) (left : ℕ) → t.op.opcode ≡ op.Stop → StandsNow false bytes found (load_more w p t l) rest left
over_more w p bytes found t (Going u) rest left is = over_step w bytes found t u rest left (w.fails u t.op) is
over_more w p bytes found t (Ended v u) rest left is = over_step w bytes found t (again p u) rest left (w.fails (again p u) t.op) is
over_more w p bytes found t (Failed acts) rest left is = tt

-- behind an item
behind : (many : Bool) (bytes : List ℕ) (found : List Place) (f : Frames) (t : Taken) (shown : Bool) (rest : List ℕ) (left : ℕ) (s : Stands many bytes found rest left) → taken f left rest ≡ Ok t → is_over many t.op ≡ false
    → (n : ℕ) → n ≡ (behind_shown shown s.place t).left → Stands many bytes found (drop t.size rest) n
behind many bytes found f t shown rest left s takes on n is = record {
  place = behind_shown shown s.place t;
  full = told_on many bytes found s.place f t shown s.full here on;
  none = alone_told shown;
  rest_is = ap (drop t.size) s.rest_is ∙ drop-drop t.size s.place.offset bytes ∙ ap (λ (k : ℕ). drop k bytes) (offset_is shown);
  left_is = is;
}
  where
    here : item_at bytes f s.place ≡ Ok t
    here = sym (ap (λ (k : ℕ). taken f k rest) s.left_is ∙ ap (taken f s.place.left) s.rest_is) ∙ takes

    offset_is : (b : Bool) → s.place.offset + t.size ≡ (behind_shown b s.place t).offset
    offset_is true = refl
    offset_is false = refl

    alone_told : (b : Bool) → IsTold many bytes found (record (behind_shown b s.place t) { left = 0 })
    alone_told true = told_on many bytes found s.place f t true s.full here on
    alone_told false = told_on many bytes found s.place f t true s.full here on

-- after a turn that takes an item
shown_at : (many : Bool) (bytes : List ℕ) (found : List Place) (shown : Bool) (x : Onward) → ((n : ℕ) → n ≡ (as_shown shown x).left → StandsNow many bytes found x.now x.rest n) → IsAt many bytes found (as_shown shown x)
shown_at many bytes found true x at = at 0 refl
shown_at many bytes found false x at = at x.left refl

goes_at : (w : World) (many : Bool) (bytes : List ℕ) (found : List Place) (turn : Turn) (x : Onward) (t : Taken) (b : Bool) → is_over many t.op ≡ b → Stands many bytes found x.rest x.left → taken turn.way.frames x.left x.rest ≡ Ok t
    → IsAt many bytes found (as_shown turn.shown (load_read w turn.way.pickles x (Ok t)))
goes_at w many bytes found turn x t false on s takes =
    shown_at many bytes found turn.shown (load_read w turn.way.pickles x (Ok t))
    (λ n is. stands_all many bytes found (load_more w turn.way.pickles t x.now) (drop t.size x.rest) n (behind many bytes found turn.way.frames t turn.shown x.rest x.left s takes on n (is ∙ left_is turn.shown)))
  where
    left_is : (b : Bool) → (as_shown b (load_read w turn.way.pickles x (Ok t))).left ≡ (behind_shown b s.place t).left
    left_is true = refl
    left_is false = refl
goes_at w true bytes found turn x t true over s takes = let two : false ≡ true = over in absurd cc
goes_at w false bytes found turn x t true over s takes =
    shown_at false bytes found turn.shown (load_read w turn.way.pickles x (Ok t)) (λ n is. over_more w turn.way.pickles bytes found t x.now (drop t.size x.rest) n (is_the_stop t.op.opcode over))

failed_at : (many : Bool) (bytes : List ℕ) (found : List Place) (shown : Bool) (x : Onward) (acts : List Act) → IsAt many bytes found (as_shown shown (record x { now = Failed acts }))
failed_at many bytes found true x acts = tt
failed_at many bytes found false x acts = tt

shown_acts : (shown : Bool) (x : Onward) → acts_of (as_shown shown x).now ≡ acts_of x.now
shown_acts true x = refl
shown_acts false x = refl

-- a turn: what it adds, and where it leads
record Turned (w : World) (many : Bool) (bytes : List ℕ) (found : List Place) (turn : Turn) (x : Onward) : Type 0 where
  added : List Act
  adds : acts_of (load_turn w turn x).now ≡ acts_of x.now ++ added
  quiet : (listed_of added ≡ []) ⊎ ((t : Taken) × (s : Stands many bytes found x.rest x.left) × (taken turn.way.frames x.left x.rest ≡ Ok t) × (may_act t.op.opcode ≡ true))
  at : IsAt many bytes found (load_turn w turn x)

append_none : (xs : List Act) → xs ≡ xs ++ []
append_none [] = refl
append_none (x ∷ xs) = ap (λ (l : List Act). x ∷ l) (append_none xs)

read_turn : (w : World) (many : Bool) (bytes : List ℕ) (found : List Place) (turn : Turn) (x : Onward) (r : Result Taken FrontFault) → Stands many bytes found x.rest x.left → reads_on turn.way.pickles x.now ≡ true → taken turn.way.frames x.left x.rest ≡ r → Turned w many bytes found turn x
read_turn w many bytes found turn x (Ok t) s on takes = record {
  added = adds.added;
  adds = ap (λ (y : Onward). acts_of y.now) is ∙ shown_acts turn.shown (load_read w turn.way.pickles x (Ok t)) ∙ adds.is;
  quiet = by (may_act t.op.opcode) refl;
  at = subst (IsAt many bytes found) (sym is) (goes_at w many bytes found turn x t (is_over many t.op) refl s takes);
}
  where
    is : load_turn w turn x ≡ as_shown turn.shown (load_read w turn.way.pickles x (Ok t))
    is = ap (λ (b : Bool). if b then as_shown turn.shown (load_read w turn.way.pickles x (taken turn.way.frames x.left x.rest)) else x) on
        ∙ ap (λ (r : Result Taken FrontFault). as_shown turn.shown (load_read w turn.way.pickles x r)) takes

    adds : Adds (may_act t.op.opcode) (acts_of x.now) (acts_of (load_more w turn.way.pickles t x.now))
    adds = more_adds w turn.way.pickles t x.now

    by : (b : Bool) → may_act t.op.opcode ≡ b → (listed_of adds.added ≡ []) ⊎ ((t : Taken) × (s : Stands many bytes found x.rest x.left) × (taken turn.way.frames x.left x.rest ≡ Ok t) × (may_act t.op.opcode ≡ true))
    by true e = inr (t, s, takes, e)
    by false e = inl (adds.quiet e)
read_turn w many bytes found turn x (Err f) s on takes = record {
  added = [];
  adds = ap (λ (y : Onward). acts_of y.now) is ∙ shown_acts turn.shown (record x { now = Failed (acts_of x.now) }) ∙ append_none (acts_of x.now);
  quiet = inl refl;
  at = subst (IsAt many bytes found) (sym is) (failed_at many bytes found turn.shown x (acts_of x.now));
}
  where
    is : load_turn w turn x ≡ as_shown turn.shown (record x { now = Failed (acts_of x.now) })
    is = ap (λ (b : Bool). if b then as_shown turn.shown (load_read w turn.way.pickles x (taken turn.way.frames x.left x.rest)) else x) on
        ∙ ap (λ (r : Result Taken FrontFault). as_shown turn.shown (load_read w turn.way.pickles x r)) takes

turned : (w : World) (many : Bool) (bytes : List ℕ) (found : List Place) (turn : Turn) (x : Onward) (b : Bool) → reads_on turn.way.pickles x.now ≡ b → covers many turn.way.pickles ≡ true → IsAt many bytes found x → Turned w many bytes found turn x
turned w many bytes found turn x true on cover at =
    read_turn w many bytes found turn x (taken turn.way.frames x.left x.rest) (at_now many bytes found turn.way.pickles x.now x.rest x.left cover on at) on refl
turned w many bytes found turn x false off cover at = record {
  added = [];
  adds = ap (λ (y : Onward). acts_of y.now) is ∙ append_none (acts_of x.now);
  quiet = inl refl;
  at = subst (IsAt many bytes found) (sym is) at;
}
  where
    is : load_turn w turn x ≡ x
    is = ap (λ (b : Bool). if b then as_shown turn.shown (load_read w turn.way.pickles x (taken turn.way.frames x.left x.rest)) else x) off

-- ---- acts

act_or : (a : Act) (xs ys : List Act) → IsAct a (xs ++ ys) → IsAct a xs ⊎ IsAct a ys
act_or a [] ys is = inr is
act_or a (x ∷ xs) ys (inl same) = inl (inl same)
act_or a (x ∷ xs) ys (inr more) = by (act_or a xs ys more)
  where
    by : IsAct a xs ⊎ IsAct a ys → IsAct a (x ∷ xs) ⊎ IsAct a ys
    by (inl here) = inl (inr here)
    by (inr there) = inr there

-- an act that is listed behind a turn was so before it, or the turn did it
new_act : (w : World) (many : Bool) (bytes : List ℕ) (found : List Place) (done mix : List Turn) (turn : Turn) (a : Act) (t : Turned w many bytes found turn (load_mixed w done (opened bytes))) → IsAct a (listed_of (acts_of (load_turn w turn (load_mixed w done (opened bytes))).now))
    → IsAct a (listed_of (acts_of (load_mixed w done (opened bytes)).now)) ⊎ IsDoneThere w bytes found (done ++ turn ∷ mix) a
new_act w many bytes found done mix turn a t is = go (act_or a (listed_of (acts_of x.now)) (listed_of t.added) (subst (IsAct a) (ap listed_of t.adds ∙ listed-append (acts_of x.now) t.added) is))
  where
    x : Onward
    x = load_mixed w done (opened bytes)

    by : IsAct a (listed_of t.added) → (listed_of t.added ≡ []) ⊎ ((i : Taken) × (s : Stands many bytes found x.rest x.left) × (taken turn.way.frames x.left x.rest ≡ Ok i) × (may_act i.op.opcode ≡ true)) → IsDoneThere w bytes found (done ++ turn ∷ mix) a
    by new (inl none) = absurd (subst (IsAct a) none new)
    by new (inr (i, s, takes, may)) = (
      record {
        front = done;
        turn = turn;
        back = mix;
        whole = refl;
        item = i;
        takes = takes;
        added = t.added;
        adds = t.adds;
        act = new;
        offset = s.place.offset;
        stands = s.rest_is;
      },
      placed many bytes found turn.way.frames s.place i s.full s.none may (sym (ap (λ (k : ℕ). taken turn.way.frames k x.rest) s.left_is ∙ ap (taken turn.way.frames s.place.left) s.rest_is) ∙ takes),
    )

    go : IsAct a (listed_of (acts_of x.now)) ⊎ IsAct a (listed_of t.added) → IsAct a (listed_of (acts_of x.now)) ⊎ IsDoneThere w bytes found (done ++ turn ∷ mix) a
    go (inl old) = inl old
    go (inr new) = inr (by new t.quiet)

abbrev Covers : Bool → Turn → Type 0
Covers many turn = covers many turn.way.pickles ≡ true

mixed_push : (w : World) (done : List Turn) (turn : Turn) (x : Onward) → load_mixed w (done ++ turn ∷ []) x ≡ load_turn w turn (load_mixed w done x)
unfolding load_mixed
mixed_push w [] turn x = refl
mixed_push w (t ∷ done) turn x = mixed_push w done turn (load_turn w t x)

push_append : (done mix : List Turn) (turn : Turn) → (done ++ turn ∷ []) ++ mix ≡ done ++ turn ∷ mix
push_append [] mix turn = refl
push_append (t ∷ done) mix turn = ap (λ (l : List Turn). t ∷ l) (push_append done mix turn)

mixed_append : (w : World) (done mix : List Turn) (x : Onward) → load_mixed w (done ++ mix) x ≡ load_mixed w mix (load_mixed w done x)
unfolding load_mixed
mixed_append w [] mix x = refl
mixed_append w (t ∷ done) mix x = mixed_append w done mix (load_turn w t x)

-- what is listed of the whole was listed behind its beginning, or is done at a place
along : (w : World) (many : Bool) (bytes : List ℕ) (found : List Place) (done mix : List Turn) → IsAt many bytes found (load_mixed w done (opened bytes)) → All (λ (turn : Turn). covers many turn.way.pickles ≡ true) mix
    → (a : Act) → IsAct a (listed_of (acts_of (load_mixed w (done ++ mix) (opened bytes)).now)) → IsAct a (listed_of (acts_of (load_mixed w done (opened bytes)).now)) ⊎ IsDoneThere w bytes found (done ++ mix) a
along w many bytes found done [] at cover a is = inl (subst (λ (l : List Turn). IsAct a (listed_of (acts_of (load_mixed w l (opened bytes)).now))) (none done) is)
  where
    none : (l : List Turn) → l ++ [] ≡ l
    none [] = refl
    none (t ∷ l) = ap (λ (k : List Turn). t ∷ k) (none l)
along w many bytes found done (turn ∷ mix) at cover a is = go (along w many bytes found (done ++ turn ∷ []) mix next_at (All-tail (Covers many) turn mix cover) a (subst (λ (l : List Turn). IsAct a (listed_of (acts_of (load_mixed w l (opened bytes)).now))) (sym (push_append done mix turn)) is))
  where
    x : Onward
    x = load_mixed w done (opened bytes)

    t : Turned w many bytes found turn x
    t = turned w many bytes found turn x (reads_on turn.way.pickles x.now) refl (All-head (Covers many) turn mix cover) at

    next_at : IsAt many bytes found (load_mixed w (done ++ turn ∷ []) (opened bytes))
    next_at = subst (IsAt many bytes found) (sym (mixed_push w done turn (opened bytes))) t.at

    go : IsAct a (listed_of (acts_of (load_mixed w (done ++ turn ∷ []) (opened bytes)).now)) ⊎ IsDoneThere w bytes found ((done ++ turn ∷ []) ++ mix) a → IsAct a (listed_of (acts_of x.now)) ⊎ IsDoneThere w bytes found (done ++ turn ∷ mix) a
    go (inl old) = new_act w many bytes found done mix turn a t (subst (λ (y : Onward). IsAct a (listed_of (acts_of y.now))) (mixed_push w done turn (opened bytes)) old)
    go (inr did) = inr (subst (λ (l : List Turn). IsDoneThere w bytes found l a) (push_append done mix turn) did)

-- ---- the laws

opened_at : (many : Bool) (bytes : List ℕ) (found : List Place) → acting_places many bytes ≡ Some found → Stands many bytes found bytes 0
opened_at many bytes found is = let told = first_told many bytes found is in record { place = first_place; full = told; none = told; rest_is = sym (drop_none bytes); left_is = refl }

pub each_act_of_a_mix_has_its_place : EachActOfAMixHasItsPlace
unfolding load_mixed
each_act_of_a_mix_has_its_place w many bytes found mix is cover a act = go (along w many bytes found [] mix (opened_at many bytes found is) cover a act)
  where
    go : IsAct a [] ⊎ IsDoneThere w bytes found mix a → IsDoneThere w bytes found mix a
    go (inl none) = absurd none
    go (inr did) = did

pub each_act_in_c_has_its_place : EachActInCHasItsPlace
each_act_in_c_has_its_place w many bytes found mix is cover a act =
    let same = mixed_same w mix (c_opened bytes) (opened bytes) (record { held = tt; is = refl }) in
    each_act_of_a_mix_has_its_place (as_in_c w) many bytes found mix is cover a (subst (λ (x : Onward). IsAct a (listed_of (acts_of x.now))) same.is act)

covers_file : (p : Pickles) (shown : List Bool) → All (λ (turn : Turn). covers (goes_on p) turn.way.pickles ≡ true) (file_mix p shown)
covers_file p [] = All-nil (Covers (goes_on p))
covers_file p (b ∷ shown) = All-cons (Covers (goes_on p)) _ (file_mix p shown) (one p) (covers_file p shown)
  where
    one : (q : Pickles) → covers (goes_on q) q ≡ true
    one pickles.First = refl
    one pickles.All = refl
    one pickles.OneMemo = refl

pub each_act_of_a_file_has_its_place : EachActOfAFileHasItsPlace
each_act_of_a_file_has_its_place w shows p bytes found n is small a act =
    let mix = files_are_mixes w shows p bytes n small in
    let y = c_load_mixed (frames_pass w) (file_mix p mix.0) (c_opened bytes) in (
      mix.0,
      each_act_in_c_has_its_place (frames_pass w) (goes_on p) bytes found (file_mix p mix.0) is (covers_file p mix.0) a
          (subst (λ (acts : List Act). IsAct a (listed_of acts)) (same_acts (c_load_file w shows p bytes n).now y.now mix.1) act),
    )
