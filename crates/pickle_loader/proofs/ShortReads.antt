-- As long as all bytes come that are asked for, the unpickler in Python does with a pipe what it does with a file.
use Rattle.std.proofs.Common.{◌≡◌, ℕ, zero, suc, ◌+◌, ◌≤◌, Bool, true, false, List, [], ◌∷◌, ◌++◌, length, take, drop, Option, Some, None, refl, sym, ap, subst, ◌∙◌, arith}
use Rattle.std.specs.Prelude.{◌||◌, nat_le, nat_lt, if◌then◌else◌, ⊤}
use Rattle.byteorder.specs.Endian.{little_number}
use Rattle.pickle_ops.specs.declared.opcode.Opcode.{Opcode}
use Rattle.pickle_ops.specs.declared.opcode.Opcode.TheVariants as op
use Rattle.pickle_ops.specs.declared.form.Form.{Form}
use Rattle.pickle_ops.specs.declared.form.Form.TheVariants as form
use Rattle.pickle_ops.specs.Table.{form_of, opcode_of}
use Rattle.pickle_ops.specs.Shape.{is_negative}
use Rattle.pickle_ops.specs.Spelling.{Operation}
use Rattle.pickle_further.specs.declared.way.Pickles.{Pickles}
use Rattle.pickle_loader.specs.Environment.{Act, World}
use Rattle.pickle_loader.specs.Dispatch.{Failed, acts_of}
use Rattle.pickle_loader.specs.Reader as whole
use Rattle.pickle_loader.specs.Reader.{Reader, Piece, from_file, from_frame, first_byte, Fetched, Fetch, NoFetch}
use Rattle.pickle_loader.specs.Listed.{listed_of}
use Rattle.pickle_loader.specs.Onward.{reads_on}
use Rattle.pickle_loader.specs.Bytes.{Loading}
use Rattle.pickle_loader.specs.ByFrames as framed
use Rattle.pickle_loader.specs.ByFrames.{load_once, load_frames, load_framed, IsAct}
use Rattle.pickle_loader.specs.ShortRead.{Pipe, plain, Part, as_whole, short, file_read, read_in, read, if_all, unpack, read_line, joined, and_then, read_counted, read_signed, read_arg, frame_as_whole, short_frame, load_frame_in, behind, PFetched, PFetch, PNoFetch, fetched, with_arg, with_code, with_key, fetch, PLoading, load_found, load_pipe, PipeIsFile, EachActOfAPipeHasItsLine}
use Rattle.pickle_loader.proofs.ActLines.{each_act_has_its_line}

-- ---- reads

abbrev piece_of : Part → Piece
piece_of x = record { bytes = x.bytes; after = plain x.after }

-- where all came behind it, all came before it, and the same is read as of a file
abbrev Sees : Pipe → Option Part → Option Piece → Type 0
Sees r c d = (x : Part) → c ≡ Some x → x.after.all_came ≡ true → (r.all_came ≡ true) × (d ≡ Some (piece_of x))

same_part : (a b : Part) → Some a ≡ Some b → a ≡ b
same_part a b e = cc

-- of what is there
abbrev SeesSome : Pipe → Part → Option Piece → Type 0
SeesSome r y d = y.after.all_came ≡ true → (r.all_came ≡ true) × (d ≡ Some (piece_of y))

sees_some : (r : Pipe) (y : Part) (d : Option Piece) → SeesSome r y d → Sees r (Some y) d
sees_some r y d h x e came = subst (λ (z : Part). SeesSome r z d) (same_part y x e) h came

sees_none : (r : Pipe) (d : Option Piece) → Sees r None d
sees_none r d x e came = absurd cc

sees_whole : (r s : Pipe) (d : Option Piece) → s.all_came ≡ r.all_came → Sees r (as_whole s d) d
sees_whole r s None same = sees_none r None
sees_whole r s (Some p) same = sees_some r (record { bytes = p.bytes; after = record s { frame = p.after.frame; file = p.after.file } }) (Some p) (λ came. (sym same ∙ came, refl))

sees_short : (n : ℕ) (r : Pipe) (d : Option Piece) → Sees r (short n r) d
sees_short n r d = by (nat_lt n (length r.file))
  where
    by : (b : Bool) → Sees r (if b then Some (record { bytes = take n r.file; after = record { frame = None; file = drop n r.file; turn = r.turn + 1; all_came = false } }) else None) d
    by true = sees_some r (record { bytes = take n r.file; after = record { frame = None; file = drop n r.file; turn = r.turn + 1; all_came = false } }) d (λ e. absurd cc)
    by false = sees_none r d

sees_file : (comes : ℕ → ℕ) (n : ℕ) (r : Pipe) → Sees r (file_read comes n r) (from_file n r.file)
sees_file comes n r = by (nat_le n (comes r.turn + 1))
  where
    by : (b : Bool) → Sees r (if b then as_whole (record r { turn = r.turn + 1 }) (from_file n r.file) else short (comes r.turn + 1) r) (from_file n r.file)
    by true = sees_whole r (record r { turn = r.turn + 1 }) (from_file n r.file) refl
    by false = sees_short (comes r.turn + 1) r (from_file n r.file)

sees_in : (comes : ℕ → ℕ) (n : ℕ) (frame : Option (List ℕ)) (r : Pipe) → Sees r (read_in comes n frame r) (whole.read_in n frame r.file)
sees_in comes n None r = sees_file comes n r
sees_in comes zero (Some frame) r = sees_whole r r (from_frame zero frame r.file) refl
sees_in comes (suc n) (Some []) r = sees_file comes (suc n) r
sees_in comes (suc n) (Some (b ∷ frame)) r = sees_whole r r (from_frame (suc n) (b ∷ frame) r.file) refl

sees_read : (comes : ℕ → ℕ) (n : ℕ) (r : Pipe) → Sees r (read comes n r) (whole.read n (plain r))
sees_read comes n r = sees_in comes n r.frame r

sees_all : (n : ℕ) (r : Pipe) (c : Option Part) (d : Option Piece) → Sees r c d → Sees r (if_all n c) d
sees_all n r None d h = sees_none r d
sees_all n r (Some y) d h = by (nat_le n (length y.bytes))
  where
    by : (b : Bool) → Sees r (if b then Some y else None) d
    by true = h
    by false = sees_none r d

sees_unpack : (comes : ℕ → ℕ) (n : ℕ) (r : Pipe) → Sees r (unpack comes n r) (whole.read n (plain r))
sees_unpack comes n r = sees_all n r (read comes n r) (whole.read n (plain r)) (sees_read comes n r)

sees_line : (r : Pipe) → Sees r (read_line r) (whole.read_line (plain r))
sees_line r = sees_whole r r (whole.read_line (plain r)) refl

-- ---- arguments

sees_joined : (front : List ℕ) (r : Pipe) (c : Option Part) (d : Option Piece) → Sees r c d → Sees r (joined front c) (whole.joined front d)
sees_joined front r None d h = sees_none r (whole.joined front d)
sees_joined front r (Some y) d h = sees_some r (record y { bytes = front ++ y.bytes }) (whole.joined front d) (λ came.
    let both = h y refl came in
    (both.0, ap (whole.joined front) both.1))

-- one read and another
sees_both : (r : Pipe) (c : Option Part) (d : Option Piece) (more : List ℕ → Pipe → Option Part) (others : List ℕ → Reader → Option Piece) → Sees r c d → ((bytes : List ℕ) (q : Pipe) → Sees q (more bytes q) (others bytes (plain q)))
    → Sees r (and_then c more) (whole.and_then d others)
sees_both r None d more others h k x e came = sees_none r (whole.and_then d others) x e came
sees_both r (Some y) d more others h k x e came =
    let last = sees_joined y.bytes y.after (more y.bytes y.after) (others y.bytes (plain y.after)) (k y.bytes y.after) x e came in
    let first = h y refl last.0 in
    (first.0, ap (λ (z : Option Piece). whole.and_then z others) first.1 ∙ last.1)

sees_counted : (comes : ℕ → ℕ) (width : ℕ) (r : Pipe) → Sees r (read_counted comes width r) (whole.read_counted width (plain r))
sees_counted comes width r =
    sees_both r (unpack comes width r) (whole.read width (plain r)) (λ size q. read comes (little_number width size) q) (λ size q. whole.read (little_number width size) q) (sees_unpack comes width r)
    (λ size q. sees_read comes (little_number width size) q)

sees_signed : (comes : ℕ → ℕ) (r : Pipe) → Sees r (read_signed comes r) (whole.read_signed (plain r))
sees_signed comes r =
    sees_both r (unpack comes 4 r) (whole.read 4 (plain r)) (λ size q. if is_negative size then None else read comes (little_number 4 size) q) (λ size q. if is_negative size then None else whole.read (little_number 4 size) q)
    (sees_unpack comes 4 r) (λ size q. by (little_number 4 size) q (is_negative size))
  where
    by : (n : ℕ) (q : Pipe) (b : Bool) → Sees q (if b then None else read comes n q) (if b then None else whole.read n (plain q))
    by n q true = sees_none q None
    by n q false = sees_read comes n q

sees_arg : (comes : ℕ → ℕ) (f : Form) (r : Pipe) → Sees r (read_arg comes f r) (whole.read_arg f (plain r))
sees_arg comes form.Empty r = sees_some r (record { bytes = []; after = r }) (Some (record { bytes = []; after = plain r })) (λ came. (came, refl))
sees_arg comes form.Uint1 r = sees_unpack comes 1 r
sees_arg comes form.Uint2 r = sees_unpack comes 2 r
sees_arg comes form.Uint4 r = sees_unpack comes 4 r
sees_arg comes form.Uint8 r = sees_unpack comes 8 r
sees_arg comes form.Int4 r = sees_unpack comes 4 r
sees_arg comes form.Float8 r = sees_unpack comes 8 r
sees_arg comes form.Line r = sees_line r
sees_arg comes form.Quoted r = sees_line r
sees_arg comes form.Decimal r = sees_line r
sees_arg comes form.Two r = sees_both r (read_line r) (whole.read_line (plain r)) (λ first q. read_line q) (λ first q. whole.read_line q) (sees_line r) (λ first q. sees_line q)
sees_arg comes form.Bytes1 r = sees_counted comes 1 r
sees_arg comes form.Bytes4 r = sees_counted comes 4 r
sees_arg comes form.Bytes8 r = sees_counted comes 8 r
sees_arg comes form.String4 r = sees_signed comes r

-- ---- opcodes

abbrev SeesPipe : Pipe → Option Pipe → Option Reader → Type 0
SeesPipe r None d = ⊤
SeesPipe r (Some after) d = after.all_came ≡ true → (r.all_came ≡ true) × (d ≡ Some (plain after))

abbrev SeesOp : Pipe → PFetched → Fetched → Type 0
SeesOp r PNoFetch y = ⊤
SeesOp r (PFetch o after) y = after.all_came ≡ true → (r.all_came ≡ true) × (y ≡ Fetch o (plain after))

sees_begun : (r : Pipe) (d : Option Reader) → SeesPipe r (frame_as_whole r d) d
sees_begun r None = tt
sees_begun r (Some q) = λ came. (came, refl)

sees_frame_by : (n : ℕ) (r : Pipe) (d : Option Reader) (b : Bool) → SeesPipe r (if b then frame_as_whole r d else Some (short_frame n r)) d
sees_frame_by n r d true = sees_begun r d
sees_frame_by n r d false = λ e. absurd cc

sees_frame : (comes : ℕ → ℕ) (frame : Option (List ℕ)) (size : ℕ) (r : Pipe) → SeesPipe r (load_frame_in comes frame size r) (whole.load_frame_in frame size r.file)
sees_frame comes None size r = sees_frame_by (comes r.turn + 1) r (whole.load_frame_in None size r.file) (nat_le size (comes r.turn + 1) || nat_le (length r.file) (comes r.turn + 1))
sees_frame comes (Some []) size r = sees_frame_by (comes r.turn + 1) r (whole.load_frame_in (Some []) size r.file) (nat_le size (comes r.turn + 1) || nat_le (length r.file) (comes r.turn + 1))
sees_frame comes (Some (b ∷ frame)) size r = tt

sees_behind : (comes : ℕ → ℕ) (o : Opcode) (arg : List ℕ) (r : Pipe) → SeesPipe r (behind comes o arg r) (whole.behind o arg (plain r))
sees_behind comes op.Frame arg r = sees_frame comes r.frame (little_number 8 arg) r
sees_behind comes op.Stop arg r = λ came. (came, refl)
sees_behind comes _ arg r = λ came. (came, refl)

sees_moved : (o : Operation) (r : Pipe) (c : Option Pipe) (d : Option Reader) → SeesPipe r c d → SeesOp r (fetched o c) (whole.fetched o d)
sees_moved o r None d h = tt
sees_moved o r (Some after) d h = λ came. let both = h came in (both.0, ap (whole.fetched o) both.1)

-- what is seen behind a read is seen before it
earlier : (r q : Pipe) (c : PFetched) (y z : Fetched) → SeesOp q c y → (q.all_came ≡ true → (r.all_came ≡ true) × (z ≡ y)) → SeesOp r c z
earlier r q PNoFetch y z h k = tt
earlier r q (PFetch o after) y z h k = λ came.
    let last = h came in
    let first = k last.0 in
    (first.0, first.1 ∙ last.1)

sees_with_arg : (comes : ℕ → ℕ) (o : Opcode) (r : Pipe) (c : Option Part) (d : Option Piece) → Sees r c d → SeesOp r (with_arg comes o c) (whole.with_arg o d)
sees_with_arg comes o r None d h = tt
sees_with_arg comes o r (Some x) d h =
    earlier r x.after (with_arg comes o (Some x)) (whole.with_arg o (Some (piece_of x))) (whole.with_arg o d)
    (sees_moved (record { opcode = o; arg = x.bytes }) x.after (behind comes o x.bytes x.after) (whole.behind o x.bytes (plain x.after)) (sees_behind comes o x.bytes x.after))
    (λ came. let both = h x refl came in (both.0, ap (whole.with_arg o) both.1))

sees_code : (comes : ℕ → ℕ) (o : Option Opcode) (r : Pipe) → SeesOp r (with_code comes o r) (whole.with_code o (plain r))
sees_code comes None r = tt
sees_code comes (Some o) r = sees_with_arg comes o r (read_arg comes (form_of o) r) (whole.read_arg (form_of o) (plain r)) (sees_arg comes (form_of o) r)

sees_key : (comes : ℕ → ℕ) (r : Pipe) (c : Option Part) (d : Option Piece) → Sees r c d → SeesOp r (with_key comes c) (whole.with_key d)
sees_key comes r None d h = tt
sees_key comes r (Some x) d h =
    earlier r x.after (with_key comes (Some x)) (whole.with_key (Some (piece_of x))) (whole.with_key d) (sees_code comes (opcode_of (first_byte x.bytes)) x.after)
    (λ came. let both = h x refl came in (both.0, ap whole.with_key both.1))

sees_op : (comes : ℕ → ℕ) (r : Pipe) → SeesOp r (fetch comes r) (whole.fetch (plain r))
sees_op comes r = sees_key comes r (unpack comes 1 r) (whole.read 1 (plain r)) (sees_unpack comes 1 r)

-- ---- a load

-- it stands where the one over the file stands; or it raised, and did what that did then
data IsBeside (file : ℕ → Loading) (n : ℕ) (x : PLoading) : Type 0 where
  Level : x.now ≡ (file n).now → plain x.pipe ≡ (file n).reader → IsBeside file n x
  Over : (m : ℕ) (acts : List Act) → m ≤ n → x.now ≡ Failed acts → acts ≡ acts_of (file m).now → IsBeside file n x

-- where all came
abbrev Beside : (ℕ → Loading) → ℕ → PLoading → Type 0
Beside file n x = x.pipe.all_came ≡ true → IsBeside file n x

found_beside : (w : World) (p : Pickles) (file : ℕ → Loading) (n : ℕ) (x : PLoading) (c : PFetched) (y : Fetched) → x.now ≡ (file n).now → y ≡ whole.fetch (file n).reader → reads_on p (file n).now ≡ true → file (suc n) ≡ load_frames w p (file n) → SeesOp x.pipe c y
    → Beside file (suc n) (load_found w p x c)
found_beside w p file n x PNoFetch y now is on next h = λ came. Over n (acts_of x.now) (omega arith) refl (ap acts_of now)
found_beside w p file n x (PFetch o after) y now is on next h = λ came.
    let fetches : whole.fetch (file n).reader ≡ Fetch o (plain after) = sym is ∙ (h came).1 in
    let step : file (suc n) ≡ framed.load_found w p (file n) (Fetch o (plain after)) =
    next ∙ ap (λ (b : Bool). if b then framed.load_found w p (file n) (whole.fetch (file n).reader) else file n) on ∙ ap (framed.load_found w p (file n)) fetches in
    Level (ap (load_once w p o) now ∙ sym (ap (λ (z : Loading). z.now) step)) (sym (ap (λ (z : Loading). z.reader) step))

stays_beside : (w : World) (p : Pickles) (file : ℕ → Loading) (n : ℕ) (x : PLoading) → file (suc n) ≡ load_frames w p (file n) → reads_on p x.now ≡ false → IsBeside file n x → IsBeside file (suc n) x
stays_beside w p file n x next off (Level now reader) =
    let same : file (suc n) ≡ file n = next ∙ ap (λ (b : Bool). if b then framed.load_found w p (file n) (whole.fetch (file n).reader) else file n) (ap (reads_on p) (sym now) ∙ off) in
    Level (now ∙ ap (λ (z : Loading). z.now) (sym same)) (reader ∙ ap (λ (z : Loading). z.reader) (sym same))
stays_beside w p file n x next off (Over m acts less is did) = Over m acts (omega (arith, less)) is did

-- all came before
came_before : (w : World) (p : Pickles) (x : PLoading) (c : PFetched) (y : Fetched) → SeesOp x.pipe c y → (load_found w p x c).pipe.all_came ≡ true → x.pipe.all_came ≡ true
came_before w p x PNoFetch y h came = came
came_before w p x (PFetch o after) y h came = (h came).0

goes_beside : (w : World) (comes : ℕ → ℕ) (p : Pickles) (file : ℕ → Loading) (n : ℕ) (x : PLoading) → file (suc n) ≡ load_frames w p (file n) → reads_on p x.now ≡ true → IsBeside file n x → Beside file (suc n) (load_found w p x (fetch comes x.pipe))
goes_beside w comes p file n x next on (Level now reader) =
    found_beside w p file n x (fetch comes x.pipe) (whole.fetch (plain x.pipe)) now (ap whole.fetch reader) (ap (reads_on p) (sym now) ∙ on) next (sees_op comes x.pipe)
goes_beside w comes p file n x next on (Over m acts less is did) = absurd (failed p acts (ap (reads_on p) (sym is) ∙ on))
  where
    failed : (p : Pickles) (acts : List Act) → reads_on p (Failed acts) ≡ true → ⊥
    failed p acts e = cc

step_beside : (w : World) (comes : ℕ → ℕ) (p : Pickles) (file : ℕ → Loading) (n : ℕ) (x : PLoading) (b : Bool) → reads_on p x.now ≡ b → file (suc n) ≡ load_frames w p (file n) → Beside file n x → Beside file (suc n) (if b then load_found w p x (fetch comes x.pipe) else x)
step_beside w comes p file n x true on next beside = λ came.
    goes_beside w comes p file n x next on (beside (came_before w p x (fetch comes x.pipe) (whole.fetch (plain x.pipe)) (sees_op comes x.pipe) came)) came
step_beside w comes p file n x false off next beside = λ came. stays_beside w p file n x next off (beside came)

all_beside : (w : World) (comes : ℕ → ℕ) (p : Pickles) (bytes : List ℕ) (n : ℕ) → Beside (load_framed w p bytes) n (load_pipe w comes p bytes n)
unfolding load_pipe load_framed
all_beside w comes p bytes zero = λ came. Level refl refl
all_beside w comes p bytes (suc n) =
    step_beside w comes p (load_framed w p bytes) n (load_pipe w comes p bytes n) (reads_on p (load_pipe w comes p bytes n).now) refl refl (all_beside w comes p bytes n)

did_so : (file : ℕ → Loading) (n : ℕ) (x : PLoading) → IsBeside file n x → (m : ℕ) × (m ≤ n) × (acts_of x.now ≡ acts_of (file m).now)
did_so file n x (Level now reader) = (n, omega arith, ap acts_of now)
did_so file n x (Over m acts less is did) = (m, less, ap acts_of is ∙ did)

pub pipe_is_file : PipeIsFile
pipe_is_file w comes p bytes n came = did_so (load_framed w p bytes) n (load_pipe w comes p bytes n) (all_beside w comes p bytes n came)

pub each_act_of_a_pipe_has_its_line : EachActOfAPipeHasItsLine
each_act_of_a_pipe_has_its_line how w comes p f bytes o text small tells =
    let all = each_act_has_its_line how w p f bytes o text small tells in (
      all.0,
      λ n a came is.
          let same = pipe_is_file w comes p bytes n came in
          all.2 same.0 a (subst (λ (acts : List Act). IsAct a (listed_of acts)) same.2 is),
    )
