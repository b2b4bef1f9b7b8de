-- What the unpickler in Python reads of a file without frames loaders take, or it tells nothing and is the last.
use Rattle.std.proofs.Common.{◌≡◌, ◌⊎◌, ℕ, suc, ◌+◌, ◌-◌, ◌≤◌, Bool, true, false, List, [], ◌∷◌, ◌++◌, length, take, drop, Option, Some, None, Ok, refl, sym, ap, subst, ◌∙◌, inl, inr, arith, length-append, append_assoc, take_at}
use Rattle.std.specs.Prelude.{nat_le, if◌then◌else◌}
use Rattle.std.specs.List.{list_any, position, position_or_len}
use Rattle.std.specs.Map.{lookup}
use Rattle.std.specs.Ordering.{nat_cmp}
use Rattle.std.specs.BTreeMap.{insert_entry, is_at}
use Rattle.std.proofs.lemmas.Bool.{cases_Bool, lt-ltb}
use Rattle.std.proofs.lemmas.List.{append-nil, take-append-drop, length-take-le}
use Rattle.byteorder.specs.Endian.{little_number}
use Rattle.pickle_ops.specs.declared.fault.FrontFault.{FrontFault}
use Rattle.pickle_ops.specs.declared.fault.FrontFault.TheVariants as fault
use Rattle.pickle_ops.specs.declared.opcode.Opcode.{Opcode}
use Rattle.pickle_ops.specs.declared.opcode.Opcode.TheVariants as op
use Rattle.pickle_ops.specs.declared.form.Form.{Form}
use Rattle.pickle_ops.specs.declared.form.Form.TheVariants as form
use Rattle.pickle_ops.specs.declared.kind.Kind.TheVariants as kind
use Rattle.pickle_ops.specs.declared.row.Row.{Row}
use Rattle.pickle_ops.specs.declared.row.Row.TheVariants as row
use Rattle.pickle_ops.specs.Table.{code_of, form_of, opcode_of}
use Rattle.pickle_ops.specs.Shape.{is_newline, is_negative, is_quoted, is_decimal, text_of, IsLine, IsArg, value_fault}
use Rattle.pickle_ops.specs.Spelling.{Operation, Front, Whole, Cut, front_fault}
use Rattle.pickle_ops.specs.Front.{front_behind, front_at, front_of}
use Rattle.pickle_ops.specs.Row.{row_of}
use Rattle.pickle_ops.specs.Inside.Sizes.{arg_size}
use Rattle.pickle_ops.proofs.Measures.{measures}
use Rattle.pickle_ops.proofs.Fronts.{found_front}
use Rattle.pickle_ops.proofs.TableLemmas.{opcode_of-code, code-opcode_of}
use Rattle.pickle_doc.specs.DocUnit.{frame_op, is_frame, is_stop}
use Rattle.pickle_lenient.specs.Key.{key_of}
use Rattle.pickle_lenient.specs.Lenient.{Lenient, mended, lenient, lenient_at, faulty, odd, odd_so, keyed_by, cut_line, mended_so}
use Rattle.pickle_lenient.specs.Stream.{ends_in}
use Rattle.pickle_loader.specs.Environment.{Method, Reply, Raises, Answers, Value, Plain, Unpickler, World}
use Rattle.pickle_loader.specs.Unpickler.{Step, Ran, Stopped, Raised, load_literal, load_get, load_put, got, answered, append, item}
use Rattle.pickle_loader.specs.Dispatch.{is_nul, int_key, with_int, dispatch}
use Rattle.pickle_loader.specs.Listed.{listed_of}
use Rattle.pickle_loader.specs.Onward.{load_keyed}
use Rattle.pickle_loader.specs.Reader.{Reader, Piece, read, read_arg, and_then, joined, Fetch, behind, fetched, with_arg, with_code, with_key, fetch, opened, all_left}
use Rattle.pickle_loader.proofs.CutLines.{IsCut, cut_reads}
use Rattle.pickle_loader.proofs.Fetching.{Side, InFile, at_side, piece, reads, reads_line, reads_arg}
use Rattle.pickle_loader.proofs.Pushes.{listed_one}

-- ---- how it is covered

-- the operation is taken as it is; or of GET and PUT as a FRAME with the row of the key
pub data IsOf (o op : Operation) (r : Row) : Type 0 where
  Itself : op ≡ o → r ≡ row_of o → IsOf o op r
  Keyed : op ≡ frame_op 0 → is_stop o.opcode ≡ false → is_frame o.opcode ≡ false → ((w : World) (u : Unpickler) → load_keyed w r u ≡ dispatch w o.opcode o.arg u) → IsOf o op r

-- a step of which nothing is listed
abbrev pub IsQuiet : Unpickler → Step → Type 0
IsQuiet u (Ran q) = listed_of q.acts ≡ listed_of u.acts
IsQuiet u (Stopped v q) = ⊥
IsQuiet u (Raised done) = listed_of done ≡ listed_of u.acts

abbrev pub IsSilent : Operation → Type 0
IsSilent o = (w : World) (u : Unpickler) → IsQuiet u (dispatch w o.opcode o.arg u)

-- loaders take the first opcode of bytes, and these are behind it; or they end there, where it does nothing that is listed; or it raises
pub data IsCovered (bytes : List ℕ) (o : Operation) (more : List ℕ) : Type 0 where
  Takes : (l : Lenient) → lenient bytes ≡ Ok l → IsOf o l.op l.row → l.size ≤ length bytes → drop l.size bytes ≡ more → IsCovered bytes o more
  Ends : ends_in (front_of bytes) ≡ false → more ≡ [] → is_stop o.opcode ≡ false → IsSilent o → IsCovered bytes o more
  Fails : ((w : World) (u : Unpickler) → dispatch w o.opcode o.arg u ≡ Raised u.acts) → IsCovered bytes o more

-- ---- an opcode that was read

pub record IsRead (c : Opcode) (x : Option Piece) (o : Operation) (after : Reader) : Type 0 where
  pub piece : Piece
  pub is : x ≡ Some piece
  pub moved : behind c piece.bytes piece.after ≡ Some after
  pub same : record { opcode = c; arg = piece.bytes } ≡ o

pub is_read : (c : Opcode) (x : Option Piece) (o : Operation) (after : Reader) → with_arg c x ≡ Fetch o after → IsRead c x o after
is_read c None o after e = absurd cc
is_read c (Some p) o after e = go (behind c p.bytes p.after) refl e
  where
    go : (y : Option Reader) → behind c p.bytes p.after ≡ y → fetched (record { opcode = c; arg = p.bytes }) y ≡ Fetch o after → IsRead c (Some p) o after
    go None f e = absurd cc
    go (Some q) f e =
        let one : record { opcode = c; arg = p.bytes } ≡ o = cc in
        let two : q ≡ after = cc in
        record { piece = p; is = refl; moved = f ∙ ap Some two; same = one }

-- it is the piece that is there
pub record IsThere (c : Opcode) (arg : List ℕ) (r : Reader) (o : Operation) (after : Reader) : Type 0 where
  pub same : record { opcode = c; arg = arg } ≡ o
  pub moved : behind c arg r ≡ Some after

pub is_there : (c : Opcode) (x : Option Piece) (p : Piece) (o : Operation) (after : Reader) → with_arg c x ≡ Fetch o after → x ≡ Some p → IsThere c p.bytes p.after o after
is_there c x p o after e f =
    let it = is_read c x o after e in
    let one : it.piece ≡ p = some_is it.piece p (sym it.is ∙ f) in
    record {
      same = ap (λ (q : Piece). record { opcode = c; arg = q.bytes }) (sym one) ∙ it.same;
      moved = ap (λ (q : Piece). behind c q.bytes q.after) (sym one) ∙ it.moved;
    }
  where
    some_is : (a b : Piece) → Some a ≡ Some b → a ≡ b
    some_is a b e = cc

-- ---- lines, as loaders read keys

line_at : (text more : List ℕ) → list_any is_newline text ≡ false → position_or_len is_newline (text ++ 10 ∷ more) ≡ length text
line_at [] more h = refl
line_at (b ∷ bs) more h = elim (cases_Bool (is_newline b)) [
  | inl hit ↦ let f : true ≡ false = rw hit at h in cc
  | inr miss ↦ let g : list_any is_newline bs ≡ false = rw miss at h in rw (miss, line_at bs more g) (omega arith)
]

pub line_found : (text more : List ℕ) → list_any is_newline text ≡ false → position is_newline (text ++ 10 ∷ more) ≡ Some (length text)
line_found text more h =
    rw (lt-ltb (position_or_len is_newline (text ++ 10 ∷ more)) (length (text ++ 10 ∷ more)) (omega (arith, line_at text more h, length-append text (10 ∷ more)))) (ap Some (line_at text more h))

odd_line_is : (code : ℕ) (text more : List ℕ) → list_any is_newline text ≡ false → odd (code ∷ (text ++ 10 ∷ more)) ≡ odd_so (keyed_by code (length text + 2) (key_of text))
odd_line_is code text more h = rw (line_found text more h, take_at text (10 ∷ more) (length text) refl) refl

pub odd_is : (code : ℕ) (arg more : List ℕ) (l : IsLine arg) → odd (code ∷ (arg ++ more)) ≡ odd_so (keyed_by code (length l.0 + 2) (key_of l.0))
odd_is code arg more (text, none, is) = rw (is, append_assoc text (10 ∷ []) more) (odd_line_is code text more none)

pub text_is : (arg : List ℕ) (l : IsLine arg) → text_of arg ≡ l.0
text_is arg (text, none, is) = ap text_of is ∙ take_at text (10 ∷ []) (length (text ++ 10 ∷ []) - 1) (omega (arith, length-append text (10 ∷ [])))

pub line_length : (arg : List ℕ) (l : IsLine arg) → length arg ≡ length l.0 + 1
line_length arg (text, none, is) = ap length is ∙ length-append text (10 ∷ [])

-- what int() reads PyLong_FromString reads
int_is_key : (line : List ℕ) (key : ℕ) → int_key line ≡ Some key → key_of line ≡ Some key
int_is_key line key e = go (list_any is_nul line) e
  where
    go : (b : Bool) → (if b then None else key_of line) ≡ Some key → key_of line ≡ Some key
    go true e = absurd cc
    go false e = e

-- ---- a whole opcode

-- where no value is wrong
pub whole_front : (c : Opcode) (rest : List ℕ) (n : ℕ) → arg_size (form_of c) rest ≡ Some n → front_of (code_of c ∷ rest) ≡ Whole c (take n rest) (drop n rest)
whole_front c rest n size = ap (front_at (code_of c) rest) (opcode_of-code c) ∙ ap (front_behind c rest) size

pub at_front : (bytes : List ℕ) (f : Front) (x : Option FrontFault) → front_of bytes ≡ f → front_fault f ≡ x → lenient bytes ≡ lenient_at bytes f x
unfolding lenient
at_front bytes f x e g = ap (λ (y : Front). lenient_at bytes y (front_fault y)) e ∙ ap (lenient_at bytes f) g

behind_size : (c : Opcode) (rest : List ℕ) (n m : ℕ) → m ≡ n + 1 → drop m (code_of c ∷ rest) ≡ drop n rest
behind_size c rest n m e = let one : m ≡ suc n = omega (arith, e) in ap (λ (k : ℕ). drop k (code_of c ∷ rest)) one

good_covered : (c : Opcode) (rest : List ℕ) (n : ℕ) → arg_size (form_of c) rest ≡ Some n → value_fault (form_of c) (take n rest) ≡ None → IsCovered (code_of c ∷ rest) (record { opcode = c; arg = take n rest }) (drop n rest)
good_covered c rest n size value =
    let o : Operation = record { opcode = c; arg = take n rest } in
    let found = (measures (form_of c)).found rest n size in
    let long : length (take n rest) ≡ n = length-take-le n rest found.0 in
    Takes (record { op = o; row = row_of o; size = length (take n rest) + 1 })
    (at_front (code_of c ∷ rest) (Whole c (take n rest) (drop n rest)) None (whole_front c rest n size) value)
    (Itself refl refl) (omega (arith, long, found.0)) (behind_size c rest n (length (take n rest) + 1) (ap (λ (m : ℕ). m + 1) long))

pub refused : (b : Bool) (f g : FrontFault) → (if b then None else Some f) ≡ Some g → b ≡ false
refused true f g e = absurd cc
refused false f g e = refl

-- a key that is spelled otherwise: one that is read, or none
keyed_covered : (c : Opcode) (rest : List ℕ) (n : ℕ) (r : ℕ → Row) (key : ℕ) → arg_size (form_of c) rest ≡ Some n → form_of c ≡ form.Decimal → value_fault (form_of c) (take n rest) ≡ Some fault.BadArgument
    → ((size : ℕ) → odd_so (keyed_by (code_of c) size (Some key)) ≡ Ok (record { op = frame_op 0; row = r key; size = size }))
    → is_stop c ≡ false → is_frame c ≡ false → ((w : World) (u : Unpickler) → load_keyed w (r key) u ≡ dispatch w c (take n rest) u) → int_key (text_of (take n rest)) ≡ Some key
    → IsCovered (code_of c ∷ rest) (record { opcode = c; arg = take n rest }) (drop n rest)
keyed_covered c rest n r key size decimal bad reads_so stops frames loads is =
    let found = (measures (form_of c)).found rest n size in
    let long : length (take n rest) ≡ n = length-take-le n rest found.0 in
    let line : IsLine (take n rest) = subst (λ (f : Form). IsArg f (take n rest)) decimal found.1 in
    let text : text_of (take n rest) ≡ line.0 = text_is (take n rest) line in
    let key_is : key_of line.0 ≡ Some key = ap key_of (sym text) ∙ int_is_key (text_of (take n rest)) key is in
    let all : take n rest ++ drop n rest ≡ rest = take-append-drop n rest in
    let m : ℕ = length line.0 + 2 in
    Takes (record { op = frame_op 0; row = r key; size = m })
    (at_front (code_of c ∷ rest) (Whole c (take n rest) (drop n rest)) (Some fault.BadArgument) (whole_front c rest n size) bad
    ∙ ap (λ (l : List ℕ). odd (code_of c ∷ l)) (sym all)
    ∙ odd_is (code_of c) (take n rest) (drop n rest) line
    ∙ ap (λ (x : Option ℕ). odd_so (keyed_by (code_of c) m x)) key_is
    ∙ reads_so m)
    (Keyed refl stops frames loads) (omega (arith, long, found.0, line_length (take n rest) line)) (behind_size c rest n m (omega (arith, long, line_length (take n rest) line)))

get_covered : (rest : List ℕ) (n : ℕ) (x : Option ℕ) → arg_size form.Decimal rest ≡ Some n → value_fault form.Decimal (take n rest) ≡ Some fault.BadArgument → int_key (text_of (take n rest)) ≡ x
    → IsCovered (code_of op.Get ∷ rest) (record { opcode = op.Get; arg = take n rest }) (drop n rest)
get_covered rest n None size bad is = Fails (λ w u. ap (λ (y : Option ℕ). with_int y u (λ key. load_get key u)) is)
get_covered rest n (Some key) size bad is = keyed_covered op.Get rest n (λ (k : ℕ). row.Get k) key size refl bad (λ m. refl) refl refl (λ w u. sym (ap (λ (y : Option ℕ). with_int y u (λ k. load_get k u)) is)) is

put_covered : (rest : List ℕ) (n : ℕ) (x : Option ℕ) → arg_size form.Decimal rest ≡ Some n → value_fault form.Decimal (take n rest) ≡ Some fault.BadArgument → int_key (text_of (take n rest)) ≡ x
    → IsCovered (code_of op.Put ∷ rest) (record { opcode = op.Put; arg = take n rest }) (drop n rest)
put_covered rest n None size bad is = Fails (λ w u. ap (λ (y : Option ℕ). with_int y u (λ key. load_put w key u)) is)
put_covered rest n (Some key) size bad is = keyed_covered op.Put rest n (λ (k : ℕ). row.Put k) key size refl bad (λ m. refl) refl refl (λ w u. sym (ap (λ (y : Option ℕ). with_int y u (λ k. load_put w k u)) is)) is

pub bad_decimal : (arg : List ℕ) (g : FrontFault) → value_fault form.Decimal arg ≡ Some g → value_fault form.Decimal arg ≡ Some fault.BadArgument
bad_decimal arg g e = ap (λ (b : Bool). if b then None else Some fault.BadArgument) (refused (is_decimal (text_of arg)) fault.BadArgument g e)

-- a negative length is not read
pub negative : (b : Bool) (g : FrontFault) → (if b then Some fault.NegativeLength else None) ≡ Some g → b ≡ true
negative true g e = refl
negative false g e = absurd cc

signed_fails : (s : Side) (arg rest : List ℕ) (g : FrontFault) → IsArg form.String4 arg → value_fault form.String4 arg ≡ Some g → read_arg form.String4 (at_side s (arg ++ rest)) ≡ None
signed_fails s arg rest g (h, size) e =
    let below : is_negative arg ≡ true = negative (is_negative arg) g e in
    let four : length arg ≡ 4 = size ∙ ap (λ (b : Bool). 4 + (if b then 0 else little_number 4 arg)) below in
    ap (λ (x : Option Piece). and_then x (λ size q. if is_negative size then None else read (little_number 4 size) q)) (reads s 4 arg rest four)
    ∙ ap (λ (b : Bool). joined arg (if b then None else read (little_number 4 arg) (at_side s rest))) below

-- what is read of a whole argument
whole_read : (s : Side) (f : Form) (arg rest : List ℕ) (x : Option FrontFault) → value_fault f arg ≡ x → IsArg f arg → (read_arg f (at_side s (arg ++ rest)) ≡ Some (piece s arg rest)) ⊎ (read_arg f (at_side s (arg ++ rest)) ≡ None)
whole_read s f arg rest None e is = inl (reads_arg s f arg rest is e)
whole_read s form.Quoted arg rest (Some g) e is = inl (reads_line s arg rest is)
whole_read s form.Decimal arg rest (Some g) e is = inl (reads_line s arg rest is)
whole_read s form.String4 arg rest (Some g) e is = inr (signed_fails s arg rest g is e)
whole_read s _ arg rest (Some g) e is = absurd cc

no_piece : (p : Piece) (x : Option Piece) → x ≡ None → x ≡ Some p → ⊥
no_piece p x e f = let two : None ≡ Some p = sym e ∙ f in absurd cc

whole_covered : (s : Side) (c : Opcode) (rest : List ℕ) (n : ℕ) (x : Option FrontFault) (p : Piece) → arg_size (form_of c) rest ≡ Some n → value_fault (form_of c) (take n rest) ≡ x → read_arg (form_of c) (at_side s rest) ≡ Some p
    → IsCovered (code_of c ∷ rest) (record { opcode = c; arg = take n rest }) (drop n rest)
whole_covered s c rest n None p size e is = good_covered c rest n size e
whole_covered s op.Get rest n (Some g) p size e is = get_covered rest n (int_key (text_of (take n rest))) size (bad_decimal (take n rest) g e) refl
whole_covered s op.Put rest n (Some g) p size e is = put_covered rest n (int_key (text_of (take n rest))) size (bad_decimal (take n rest) g e) refl
whole_covered s op.String rest n (Some g) p size e is =
    Fails (λ w u. ap (λ (b : Bool). if b then load_literal (kind.LegacyLine (text_of (take n rest))) u else Raised u.acts) (refused (is_quoted (text_of (take n rest))) fault.BadArgument g e))
whole_covered s op.BinString rest n (Some g) p size e is =
    absurd (no_piece p (read_arg form.String4 (at_side s rest)) (ap (λ (l : List ℕ). read_arg form.String4 (at_side s l)) (sym (take-append-drop n rest)) ∙ signed_fails s (take n rest) (drop n rest) g ((measures form.String4).found rest n size).1 e) is)
whole_covered s op.Long4 rest n (Some g) p size e is =
    absurd (no_piece p (read_arg form.String4 (at_side s rest)) (ap (λ (l : List ℕ). read_arg form.String4 (at_side s l)) (sym (take-append-drop n rest)) ∙ signed_fails s (take n rest) (drop n rest) g ((measures form.String4).found rest n size).1 e) is)
whole_covered s _ rest n (Some g) p size e is = absurd cc

-- a whole opcode and what is behind it
pub record AtWhole (s : Side) (c : Opcode) (rest : List ℕ) (n : ℕ) (o : Operation) (after : Reader) : Type 0 where
  pub covered : IsCovered (code_of c ∷ rest) o (drop n rest)
  pub moved : behind o.opcode o.arg (at_side s (drop n rest)) ≡ Some after

at_piece : (s : Side) (c : Opcode) (rest : List ℕ) (n : ℕ) (o : Operation) (after : Reader) → arg_size (form_of c) rest ≡ Some n → with_arg c (read_arg (form_of c) (at_side s rest)) ≡ Fetch o after
    → read_arg (form_of c) (at_side s rest) ≡ Some (piece s (take n rest) (drop n rest)) → AtWhole s c rest n o after
at_piece s c rest n o after size e is =
    let there = is_there c (read_arg (form_of c) (at_side s rest)) (piece s (take n rest) (drop n rest)) o after e is in
    record {
      covered =
          subst (λ (x : Operation). IsCovered (code_of c ∷ rest) x (drop n rest)) there.same
          (whole_covered s c rest n (value_fault (form_of c) (take n rest)) (piece s (take n rest) (drop n rest)) size refl is);
      moved = subst (λ (x : Operation). behind x.opcode x.arg (at_side s (drop n rest)) ≡ Some after) there.same there.moved;
    }

pub at_whole : (s : Side) (c : Opcode) (rest : List ℕ) (n : ℕ) (o : Operation) (after : Reader) → arg_size (form_of c) rest ≡ Some n → with_arg c (read_arg (form_of c) (at_side s rest)) ≡ Fetch o after → AtWhole s c rest n o after
at_whole s c rest n o after size e =
    let found = (measures (form_of c)).found rest n size in
    let all : take n rest ++ drop n rest ≡ rest = take-append-drop n rest in
    elim (whole_read s (form_of c) (take n rest) (drop n rest) (value_fault (form_of c) (take n rest)) refl found.1) [
      | inl is ↦ at_piece s c rest n o after size e (ap (λ (l : List ℕ). read_arg (form_of c) (at_side s l)) (sym all) ∙ is)
      | inr none ↦
          let read = is_read c (read_arg (form_of c) (at_side s rest)) o after e in
          absurd (no_piece read.piece (read_arg (form_of c) (at_side s rest)) (ap (λ (l : List ℕ). read_arg (form_of c) (at_side s l)) (sym all) ∙ none) read.is)
    ]

-- ---- a line that the end of the file cuts

string_quiet : (b : Bool) (u q : Unpickler) → listed_of q.acts ≡ listed_of u.acts → IsQuiet u (if b then Ran q else Raised u.acts)
string_quiet true u q e = e
string_quiet false u q e = refl

got_quiet : (u : Unpickler) (x : Option Value) → IsQuiet u (got x u)
got_quiet u None = refl
got_quiet u (Some v) = refl

get_quiet : (u : Unpickler) (x : Option ℕ) → IsQuiet u (with_int x u (λ key. load_get key u))
get_quiet u None = refl
get_quiet u (Some key) = got_quiet u (lookup (is_at (nat_cmp key)) u.memo)

method_quiet : (u q : Unpickler) (r : Reply) → listed_of q.acts ≡ listed_of u.acts → IsQuiet u (answered r Method q (λ v p. Ran p))
method_quiet u q Raises e = listed_one q.acts Method ∙ append-nil (listed_of q.acts) ∙ e
method_quiet u q (Answers t) e = listed_one q.acts Method ∙ append-nil (listed_of q.acts) ∙ e

test_quiet : (u : Unpickler) (b : Bool) (x : Step) → IsQuiet u x → IsQuiet u (if b then x else Raised u.acts)
test_quiet u true x q = q
test_quiet u false x q = refl

put_quiet : (w : World) (u : Unpickler) (x : Option ℕ) → IsQuiet u (with_int x u (λ key. load_put w key u))
put_quiet w u None = refl
put_quiet w u (Some key) =
    let q : Unpickler = record u { memo = insert_entry nat_cmp u.memo key (item (length u.stack - 1) u.stack) } in
    test_quiet u (nat_le 1 (length u.stack)) (answered (w.reply u.acts Method) Method q (λ v p. Ran p)) (method_quiet u q (w.reply u.acts Method) refl)

-- it tells its line, if it is of GLOBAL, INST or PERSID
cut_taken : (c : Opcode) (rest : List ℕ) (p : Piece) → arg_size (form_of c) rest ≡ None → IsCut (form_of c) rest p → value_fault (form_of c) p.bytes ≡ None
    → ((bytes : List ℕ) → faulty (code_of c ∷ bytes) fault.Truncated ≡ cut_line (code_of c ∷ bytes))
    → ((x : IsCut (form_of c) rest p) → (more : List ℕ) × (mended (code_of c ∷ rest) ≡ code_of c ∷ (p.bytes ++ more)) × IsArg (form_of c) p.bytes)
    → IsCovered (code_of c ∷ rest) (record { opcode = c; arg = p.bytes }) []
cut_taken c rest p none cut value tells ends =
    let x = ends cut in
    let o : Operation = record { opcode = c; arg = p.bytes } in
    let front : front_of (mended (code_of c ∷ rest)) ≡ Whole c p.bytes x.0 = found_front (mended (code_of c ∷ rest)) (Whole c p.bytes x.0) (x.1, x.2) in
    Takes (record { op = o; row = row_of o; size = length (code_of c ∷ rest) })
    (at_front (code_of c ∷ rest) (Cut c) (Some fault.Truncated) (ap (front_at (code_of c) rest) (opcode_of-code c) ∙ ap (front_behind c rest) none) refl
    ∙ tells rest
    ∙ ap (λ (f : Front). mended_so (length (code_of c ∷ rest)) f (front_fault f)) front
    ∙ ap (λ (y : Option FrontFault). mended_so (length (code_of c ∷ rest)) (Whole c p.bytes x.0) y) value)
    (Itself refl refl) (omega arith) (dropped (code_of c ∷ rest))
  where
    dropped : (xs : List ℕ) → drop (length xs) xs ≡ []
    dropped [] = refl
    dropped (x ∷ xs) = dropped xs

pub cut_ends : (c : Opcode) (rest : List ℕ) → arg_size (form_of c) rest ≡ None → ends_in (front_of (code_of c ∷ rest)) ≡ false
cut_ends c rest none = ap ends_in (ap (front_at (code_of c) rest) (opcode_of-code c) ∙ ap (front_behind c rest) none)

cut_covered : (c : Opcode) (rest : List ℕ) (p : Piece) → arg_size (form_of c) rest ≡ None → IsCut (form_of c) rest p → IsCovered (code_of c ∷ rest) (record { opcode = c; arg = p.bytes }) []
cut_covered op.PersId rest p none cut = cut_taken op.PersId rest p none cut refl (λ bytes. refl) (λ x. (x.more, ap (λ (l : List ℕ). 80 ∷ l) x.mended, x.arg))
cut_covered op.Global rest p none cut = cut_taken op.Global rest p none cut refl (λ bytes. refl) (λ x. (x.more, ap (λ (l : List ℕ). 99 ∷ l) x.mended, x.arg))
cut_covered op.Inst rest p none cut = cut_taken op.Inst rest p none cut refl (λ bytes. refl) (λ x. (x.more, ap (λ (l : List ℕ). 105 ∷ l) x.mended, x.arg))
cut_covered op.Int rest p none cut = Ends (cut_ends op.Int rest none) refl refl (λ w u. refl)
cut_covered op.Long rest p none cut = Ends (cut_ends op.Long rest none) refl refl (λ w u. refl)
cut_covered op.Float rest p none cut = Ends (cut_ends op.Float rest none) refl refl (λ w u. refl)
cut_covered op.Unicode rest p none cut = Ends (cut_ends op.Unicode rest none) refl refl (λ w u. refl)
cut_covered op.String rest p none cut = Ends (cut_ends op.String rest none) refl refl (λ w u. string_quiet (is_quoted (text_of p.bytes)) u (append (Plain (kind.LegacyLine (text_of p.bytes))) u) refl)
cut_covered op.Get rest p none cut = Ends (cut_ends op.Get rest none) refl refl (λ w u. get_quiet u (int_key (text_of p.bytes)))
cut_covered op.Put rest p none cut = Ends (cut_ends op.Put rest none) refl refl (λ w u. put_quiet w u (int_key (text_of p.bytes)))
cut_covered _ rest p none cut = absurd cut

-- ---- all of it

same_reader : (a b : Reader) → Some a ≡ Some b → a ≡ b
same_reader a b e = cc

-- in a file nothing is lost behind an opcode
pub file_behind : (o : Opcode) (arg rest : List ℕ) (after : Reader) → behind o arg (opened rest) ≡ Some after → all_left after ≡ rest
file_behind op.Frame arg rest after e =
    let n : ℕ = little_number 8 arg in
    ap all_left (sym (same_reader (record { frame = Some (take n rest); file = drop n rest }) after e)) ∙ take-append-drop n rest
file_behind op.Stop arg rest after e = ap all_left (sym (same_reader (opened rest) after e))
file_behind _ arg rest after e = ap all_left (sym (same_reader (opened rest) after e))

-- the first opcode of a file, and what is behind it
pub record IsPlainly (bytes : List ℕ) (o : Operation) (after : Reader) : Type 0 where
  pub rest : List ℕ
  pub covered : IsCovered bytes o rest
  pub moved : behind o.opcode o.arg (opened rest) ≡ Some after

at_file : (c : Opcode) (rest : List ℕ) (o : Operation) (after : Reader) (x : Option ℕ) → arg_size (form_of c) rest ≡ x → with_arg c (read_arg (form_of c) (opened rest)) ≡ Fetch o after → IsPlainly (code_of c ∷ rest) o after
at_file c rest o after (Some n) size e =
    let w = at_whole InFile c rest n o after size e in
    record { rest = drop n rest; covered = w.covered; moved = w.moved }
at_file c rest o after None none e =
    let it = is_read c (read_arg (form_of c) (opened rest)) o after e in
    let cut = cut_reads (form_of c) rest it.piece none it.is in
    let moved : behind c it.piece.bytes (opened []) ≡ Some after = ap (behind c it.piece.bytes) (sym cut.0) ∙ it.moved in
    record {
      rest = [];
      covered = subst (λ (x : Operation). IsCovered (code_of c ∷ rest) x []) it.same (cut_covered c rest it.piece none cut.1);
      moved = subst (λ (x : Operation). behind x.opcode x.arg (opened []) ≡ Some after) it.same moved;
    }

by_code : (code : ℕ) (rest : List ℕ) (o : Operation) (after : Reader) (x : Option Opcode) → opcode_of code ≡ x → with_code x (opened rest) ≡ Fetch o after → IsPlainly (code ∷ rest) o after
by_code code rest o after None is e = absurd cc
by_code code rest o after (Some c) is e = subst (λ (b : ℕ). IsPlainly (b ∷ rest) o after) (code-opcode_of code c is) (at_file c rest o after (arg_size (form_of c) rest) refl e)

pub plainly : (bytes : List ℕ) (o : Operation) (after : Reader) → fetch (opened bytes) ≡ Fetch o after → IsPlainly bytes o after
plainly [] o after e = absurd cc
plainly (code ∷ rest) o after e = by_code code rest o after (opcode_of code) refl (sym (ap with_key (reads InFile 1 (code ∷ []) rest refl)) ∙ e)
