-- A load that reads by any mix of ways reaches nothing, where no spot does.
use Rattle.std.proofs.Common.{◌≡◌, ℕ, Bool, true, false, List, [], ◌∷◌, drop, refl, sym, ap, ◌∙◌}
use Rattle.std.specs.Prelude.{◌||◌, if◌then◌else◌, Result, Ok, Err}
use Rattle.std.proofs.lemmas.List.{drop-drop}
use Rattle.std.proofs.lemmas.List.Elements.{All-nil}
use Rattle.pickle_ops.specs.declared.opcode.Opcode.{Opcode}
use Rattle.pickle_ops.specs.declared.opcode.Opcode.TheVariants as op
use Rattle.pickle_ops.specs.declared.fault.FrontFault.{FrontFault}
use Rattle.pickle_ops.specs.declared.row.Row.{Row}
use Rattle.pickle_ops.specs.declared.row.Row.TheVariants as row
use Rattle.pickle_ops.specs.Table.{int_kind}
use Rattle.pickle_ops.specs.declared.kind.Kind.TheVariants as kind
use Rattle.pickle_ops.specs.Argument.{payload}
use Rattle.pickle_ops.specs.declared.form.Form.TheVariants as form
use Rattle.pickle_ops.specs.Spelling.{Operation}
use Rattle.pickle_lenient.specs.declared.taken.Frames.{Frames}
use Rattle.pickle_lenient.specs.declared.taken.Taken.{Taken}
use Rattle.pickle_lenient.specs.Stream.{taken}
use Rattle.pickle_further.specs.declared.way.Pickles.{Pickles}
use Rattle.pickle_further.specs.declared.way.Pickles.TheVariants as pickles
use Rattle.pickle_loader.specs.Environment.{Plain, Act, Unpickler, World}
use Rattle.pickle_loader.specs.Unpickler.{Step, Ran, Stopped, Raised}
use Rattle.pickle_loader.specs.Dispatch.{Loaded, Going, Ended, Failed, loaded, acts_of}
use Rattle.pickle_loader.specs.Onward.{load_keyed, dispatch_as, load_taken, Onward, again, reads_on, load_read}
use Rattle.pickle_reach.specs.declared.granted.Granted.{Granted}
use Rattle.pickle_reach.specs.declared.spot.Spot.{Spot}
use Rattle.pickle_reach.specs.declared.spot.Step.{Step as Move}
use Rattle.pickle_reach.specs.declared.spot.Step.TheVariants as move
use Rattle.pickle_reach.specs.Item.{opcode_reaches, opcode_ends, opcode_names, is_unread, reaches, ends, names}
use Rattle.pickle_reach.specs.Reach as spots
use Rattle.pickle_reach.specs.Reach.{behind, step_taken, step_by, step_at, first_spot, reaches_on, reaches_from, NothingFrom}
use Rattle.reach_laws.specs.Mixed.{Turn, opened, as_shown, load_turn, load_mixed}
use Rattle.reach_laws.specs.Reached.{act_reaches, NoneReaches, IsGranted, NothingReached}
use Rattle.reach_laws.proofs.Tame.{tame, Tame, IsTame, StepTame, widened}
use Rattle.reach_laws.proofs.Steps.{literal, get_tame, put_tame, step_tame}
use Rattle.reach_laws.proofs.Ending.{Ends, opcode_ends_tame}

-- ---- an item

-- where a text may be held that names a module, a literal may be one
or_after : (a b : Bool) → b ≡ true → (a || b) ≡ true
or_after true b e = refl
or_after false b e = e

pub or_before : (a b : Bool) → a ≡ true → (a || b) ≡ true
or_before true b e = refl
or_before false b e = let two : false ≡ true = e in absurd cc

text_by : (a b : Bool) → (if b then (a || b) else true) ≡ true
text_by a true = or_after a true refl
text_by a false = refl

-- the truth values and numbers of a line are no texts
int_by : (a x y : Bool) (line : List ℕ) → Tame a (Plain (if x then kind.False else if y then kind.True else kind.IntLine line))
int_by a true y line = refl
int_by a false true line = refl
int_by a false false line = refl

int_tame : (a : Bool) (line : List ℕ) → Tame a (Plain (int_kind line))
int_tame a line = int_by a _ _ line

pub literal_tame : (a : Bool) (o : Opcode) (arg : List ℕ) → Tame (a || opcode_names o arg) (Plain (literal o arg))
literal_tame a op.String arg = or_after a true refl
literal_tame a op.BinString arg = text_by a (opcode_names op.BinString arg)
literal_tame a op.ShortBinString arg = text_by a (opcode_names op.ShortBinString arg)
literal_tame a op.Unicode arg = text_by a (opcode_names op.Unicode arg)
literal_tame a op.BinUnicode arg = text_by a (opcode_names op.BinUnicode arg)
literal_tame a op.ShortBinUnicode arg = text_by a (opcode_names op.ShortBinUnicode arg)
literal_tame a op.BinUnicode8 arg = text_by a (opcode_names op.BinUnicode8 arg)
literal_tame a op.Int arg = int_tame (a || false) (payload form.Line arg)
literal_tame a o arg = refl

keyed_tame : (w : World) (g : Granted) (named : Bool) (r : Row) (u : Unpickler) → IsTame g named u → StepTame g named (load_keyed w r u)
keyed_tame w g named (row.Get key) u t = get_tame g named key u t
keyed_tame w g named (row.Put key) u t = put_tame w g named key u t
keyed_tame w g named _ u t = t

pub as_tame : (w : World) (g : Granted) (named : Bool) (r : Row) (o : Opcode) (arg : List ℕ) (u : Unpickler) → opcode_ends o arg ≡ false → Tame named (Plain (literal o arg)) → IsTame g named u → StepTame g named (dispatch_as w r o arg u)
as_tame w g named r op.Frame arg u goes lit t = keyed_tame w g named r u t
as_tame w g named r o arg u goes lit t = step_tame w g named o arg u goes lit t

pub as_ends : (w : World) (g : Granted) (named : Bool) (r : Row) (o : Opcode) (arg : List ℕ) (u : Unpickler) → IsGranted g w → opcode_reaches g named o arg ≡ false → opcode_ends o arg ≡ true → is_unread o arg ≡ false → IsTame g named u → Ends g (dispatch_as w r o arg u)
as_ends w g named r op.Frame arg u keeps none over read t = let two : false ≡ true = over in absurd cc
as_ends w g named r o arg u keeps none over read t = opcode_ends_tame w g named o arg u keeps none over read t

pub fails_tame : (g : Granted) (named b : Bool) (u : Unpickler) (x : Step) → IsTame g named u → StepTame g named x → StepTame g named (if b then Raised u.acts else x)
fails_tame g named true u x t s = t.acts
fails_tame g named false u x t s = s

pub fails_ends : (g : Granted) (named b : Bool) (u : Unpickler) (x : Step) → IsTame g named u → (b ≡ false → Ends g x) → Ends g (if b then Raised u.acts else x)
fails_ends g named true u x t s = t.acts
fails_ends g named false u x t s = s refl

-- a loader goes on
goes : (w : World) (g : Granted) (named : Bool) (t : Taken) (u : Unpickler) → ends t.op ≡ false → IsTame g named u → StepTame g (named || names t.op) (load_taken w t u)
unfolding ends names
goes w g named t u on tame =
    let more : Bool = named || opcode_names t.op.opcode t.op.arg in
    let wide : IsTame g more u = widened g named more u (or_before named (opcode_names t.op.opcode t.op.arg)) tame in
    fails_tame g more (w.fails u t.op) u (dispatch_as w t.row t.op.opcode t.op.arg u) wide (as_tame w g more t.row t.op.opcode t.op.arg u on (literal_tame named t.op.opcode t.op.arg) wide)

-- or each ends
no_fail : (w : World) (g : Granted) (u : Unpickler) (o : Operation) (b : Bool) → IsGranted g w → is_unread o.opcode o.arg ≡ b → w.fails u o ≡ false → b ≡ false
no_fail w g u o true keeps is e = let two : true ≡ false = sym (keeps.unread u o is) ∙ e in absurd cc
no_fail w g u o false keeps is e = refl

over : (w : World) (g : Granted) (named : Bool) (t : Taken) (u : Unpickler) → IsGranted g w → reaches g named t.op ≡ false → ends t.op ≡ true → IsTame g named u → Ends g (load_taken w t u)
unfolding reaches ends
over w g named t u keeps none ended tame =
    fails_ends g named (w.fails u t.op) u (dispatch_as w t.row t.op.opcode t.op.arg u) tame
    (λ e. as_ends w g named t.row t.op.opcode t.op.arg u keeps none ended (no_fail w g u t.op (is_unread t.op.opcode t.op.arg) keeps refl e) tame)

-- ---- along a file

-- how far a load is, beside a spot
abbrev At : Granted → List ℕ → Spot → Loaded → List ℕ → ℕ → Type 0
At g bytes s (Going u) rest left = IsTame g s.named u × (rest ≡ drop s.offset bytes) × (left ≡ s.left)
At g bytes s (Ended v u) rest left = IsTame g s.named u × (rest ≡ drop s.offset bytes) × (left ≡ s.left)
At g bytes s (Failed acts) rest left = NoneReaches g acts

abbrev IsAt : Granted → List ℕ → Spot → Onward → Type 0
IsAt g bytes s x = At g bytes s x.now x.rest x.left

record Next (g : Granted) (bytes : List ℕ) (x : Onward) : Type 0 where
  spot : Spot
  nothing : NothingFrom g bytes spot
  at : IsAt g bytes spot x

none_acts : (g : Granted) (bytes : List ℕ) (s : Spot) (l : Loaded) (rest : List ℕ) (left : ℕ) → At g bytes s l rest left → NoneReaches g (acts_of l)
none_acts g bytes s (Going u) rest left at = at.0.acts
none_acts g bytes s (Ended v u) rest left at = at.0.acts
none_acts g bytes s (Failed acts) rest left at = at

pub step_is : (g : Granted) (bytes : List ℕ) (f : Frames) (s : Spot) (item : Taken) → taken f s.left (drop s.offset bytes) ≡ Ok item → step_at g bytes f s ≡ step_taken g s item
unfolding step_at
step_is g bytes f s item e = ap (step_by g s) e

pub from_step : (g : Granted) (bytes : List ℕ) (f : Frames) (shown : Bool) (s : Spot) (m : Move) → NothingFrom g bytes s → step_at g bytes f s ≡ m → (mix : List spots.Turn) → reaches_on m (λ t. reaches_from g bytes mix (spots.as_shown shown t)) ≡ false
unfolding reaches_from
from_step g bytes f shown s m none is mix =
    ap (λ (y : Move). reaches_on y (λ t. reaches_from g bytes mix (spots.as_shown shown t))) (sym is) ∙ none (record { frames = f; shown = shown } ∷ mix)

-- after an item at which a loader goes on
goes_at : (g : Granted) (bytes : List ℕ) (s : Spot) (item : Taken) (x : Step) (rest : List ℕ) → StepTame g (s.named || names item.op) x → rest ≡ drop s.offset bytes → At g bytes (behind s item) (loaded x) (drop item.size rest) item.left
goes_at g bytes s item (Ran q) rest t e = (t, ap (drop item.size) e ∙ drop-drop item.size s.offset bytes, refl)
goes_at g bytes s item (Stopped v q) rest t e = (t, ap (drop item.size) e ∙ drop-drop item.size s.offset bytes, refl)
goes_at g bytes s item (Raised acts) rest t e = t

ends_at : (g : Granted) (bytes : List ℕ) (s : Spot) (x : Step) (rest : List ℕ) (left : ℕ) → Ends g x → At g bytes s (loaded x) rest left
ends_at g bytes s (Ran q) rest left e = absurd e
ends_at g bytes s (Stopped v q) rest left e = absurd e
ends_at g bytes s (Raised acts) rest left e = e

-- a frame that is shown
shown_at : (g : Granted) (bytes : List ℕ) (t : Spot) (shown : Bool) (x : Onward) → IsAt g bytes t x → IsAt g bytes (spots.as_shown shown t) (as_shown shown x)
shown_at g bytes t false x at = at
shown_at g bytes t true x at = by x.now at
  where
    by : (l : Loaded) → At g bytes t l x.rest x.left → At g bytes (spots.as_shown true t) l x.rest 0
    by (Going u) a = (a.0, a.1, refl)
    by (Ended v u) a = (a.0, a.1, refl)
    by (Failed acts) a = a

failed_at : (g : Granted) (bytes : List ℕ) (t : Spot) (shown : Bool) (x : Onward) → ((rest : List ℕ) (left : ℕ) → At g bytes t x.now rest left) → IsAt g bytes t (as_shown shown x)
failed_at g bytes t false x at = at x.rest x.left
failed_at g bytes t true x at = at x.rest 0

-- by whether something is reached, and whether each loader ends
step_next : (w : World) (g : Granted) (bytes : List ℕ) (f : Frames) (shown : Bool) (s : Spot) (item : Taken) (u : Unpickler) (rest : List ℕ) (a b : Bool) → IsGranted g w → NothingFrom g bytes s → taken f s.left (drop s.offset bytes) ≡ Ok item
    → reaches g s.named item.op ≡ a → ends item.op ≡ b → IsTame g s.named u → rest ≡ drop s.offset bytes → Next g bytes (as_shown shown (record { now = loaded (load_taken w item u); rest = drop item.size rest; left = item.left }))
step_next w g bytes f shown s item u rest true b keeps none reads hit ended t e =
    let is : step_at g bytes f s ≡ move.Reaches = step_is g bytes f s item reads ∙ ap (λ (x : Bool). if x then move.Reaches else if ends item.op then move.Ends else move.Goes (behind s item)) hit in
    let two : true ≡ false = from_step g bytes f shown s move.Reaches none is [] in
    absurd cc
step_next w g bytes f shown s item u rest false true keeps none reads miss ended t e = record {
  spot = s;
  nothing = none;
  at = failed_at g bytes s shown (record { now = loaded (load_taken w item u); rest = drop item.size rest; left = item.left })
      (λ more left. ends_at g bytes s (load_taken w item u) more left (over w g s.named item u keeps miss ended t));
}
step_next w g bytes f shown s item u rest false false keeps none reads miss on t e =
    let is : step_at g bytes f s ≡ move.Goes (behind s item) =
    step_is g bytes f s item reads ∙ ap (λ (x : Bool). if x then move.Reaches else if ends item.op then move.Ends else move.Goes (behind s item)) miss
    ∙ ap (λ (x : Bool). if x then move.Ends else move.Goes (behind s item)) on in
    record {
      spot = spots.as_shown shown (behind s item);
      nothing = λ mix. from_step g bytes f shown s (move.Goes (behind s item)) none is mix;
      at = shown_at g bytes (behind s item) shown (record { now = loaded (load_taken w item u); rest = drop item.size rest; left = item.left })
          (goes_at g bytes s item (load_taken w item u) rest (goes w g s.named item u on t) e);
    }

pub again_tame : (g : Granted) (named : Bool) (p : Pickles) (u : Unpickler) → IsTame g named u → IsTame g named (again p u)
again_tame g named pickles.OneMemo u t = record { stack = All-nil (Tame named); below = tt; memo = t.memo; acts = t.acts }
again_tame g named pickles.First u t = record { stack = All-nil (Tame named); below = tt; memo = tt; acts = t.acts }
again_tame g named pickles.All u t = record { stack = All-nil (Tame named); below = tt; memo = tt; acts = t.acts }

read_next : (w : World) (g : Granted) (bytes : List ℕ) (turn : Turn) (s : Spot) (x : Onward) (l : Loaded) (y : Result Taken FrontFault) → IsGranted g w → NothingFrom g bytes s → taken turn.way.frames s.left (drop s.offset bytes) ≡ y
    → At g bytes s l x.rest x.left → Next g bytes (as_shown turn.shown (load_read w turn.way.pickles (record x { now = l }) y))
read_next w g bytes turn s x l (Err f) keeps none reads at = record {
  spot = s;
  nothing = none;
  at = failed_at g bytes s turn.shown (record x { now = Failed (acts_of l) }) (λ rest left. none_acts g bytes s l x.rest x.left at);
}
read_next w g bytes turn s x (Going u) (Ok item) keeps none reads at =
    step_next w g bytes turn.way.frames turn.shown s item u x.rest (reaches g s.named item.op) (ends item.op) keeps none reads refl refl at.0 at.1
read_next w g bytes turn s x (Ended v u) (Ok item) keeps none reads at =
    step_next w g bytes turn.way.frames turn.shown s item (again turn.way.pickles u) x.rest (reaches g s.named item.op) (ends item.op) keeps none reads refl refl (again_tame g s.named turn.way.pickles u at.0) at.1
read_next w g bytes turn s x (Failed acts) (Ok item) keeps none reads at = record {
  spot = s;
  nothing = none;
  at = failed_at g bytes s turn.shown (record { now = Failed acts; rest = drop item.size x.rest; left = item.left }) (λ rest left. at);
}

-- what it reads is what is at the spot, where it reads on
same_read : (g : Granted) (bytes : List ℕ) (p : Pickles) (f : Frames) (s : Spot) (l : Loaded) (rest : List ℕ) (left : ℕ) → reads_on p l ≡ true → At g bytes s l rest left → taken f s.left (drop s.offset bytes) ≡ taken f left rest
same_read g bytes p f s (Going u) rest left on at = sym (ap (λ (n : ℕ). taken f n rest) at.2 ∙ ap (taken f s.left) at.1)
same_read g bytes p f s (Ended v u) rest left on at = sym (ap (λ (n : ℕ). taken f n rest) at.2 ∙ ap (taken f s.left) at.1)
same_read g bytes p f s (Failed acts) rest left on at = let two : false ≡ true = on in absurd cc

turn_by : (w : World) (g : Granted) (bytes : List ℕ) (turn : Turn) (s : Spot) (x : Onward) (b : Bool) → reads_on turn.way.pickles x.now ≡ b → IsGranted g w → NothingFrom g bytes s → IsAt g bytes s x
    → Next g bytes (if b then as_shown turn.shown (load_read w turn.way.pickles x (taken turn.way.frames x.left x.rest)) else x)
turn_by w g bytes turn s x true on keeps none at =
    read_next w g bytes turn s x x.now (taken turn.way.frames x.left x.rest) keeps none (same_read g bytes turn.way.pickles turn.way.frames s x.now x.rest x.left on at) at
turn_by w g bytes turn s x false on keeps none at = record { spot = s; nothing = none; at = at }

turn_next : (w : World) (g : Granted) (bytes : List ℕ) (turn : Turn) (s : Spot) (x : Onward) → IsGranted g w → NothingFrom g bytes s → IsAt g bytes s x → Next g bytes (load_turn w turn x)
turn_next w g bytes turn s x keeps none at = turn_by w g bytes turn s x (reads_on turn.way.pickles x.now) refl keeps none at

-- ---- all items

mixed : (w : World) (g : Granted) (bytes : List ℕ) (mix : List Turn) (s : Spot) (x : Onward) → IsGranted g w → NothingFrom g bytes s → IsAt g bytes s x → NoneReaches g (acts_of (load_mixed w mix x).now)
unfolding load_mixed
mixed w g bytes [] s x keeps none at = none_acts g bytes s x.now x.rest x.left at
mixed w g bytes (turn ∷ mix) s x keeps none at =
    let n = turn_next w g bytes turn s x keeps none at in
    mixed w g bytes mix n.spot (load_turn w turn x) keeps n.nothing n.at

drop_zero : (xs : List ℕ) → xs ≡ drop 0 xs
drop_zero [] = refl
drop_zero (x ∷ xs) = refl

pub nothing_reached : NothingReached
nothing_reached g w bytes none keeps mix =
    mixed w g bytes mix first_spot (opened bytes) keeps none
    (record { stack = All-nil (Tame false); below = tt; memo = tt; acts = All-nil (λ (a : Act). act_reaches g a ≡ false) }, drop_zero bytes, refl)
