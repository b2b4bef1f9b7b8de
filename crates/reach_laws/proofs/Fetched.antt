-- What the unpickler in C reads from a file is what is taken where frames are in a buffer, or it raises.
use Rattle.std.proofs.Common.{◌≡◌, ◌⊎◌, ℕ, suc, ◌+◌, ◌-◌, ◌^◌, ◌<◌, ◌≤◌, Bool, true, false, List, [], ◌∷◌, ◌++◌, length, take, drop, Option, Some, None, Ok, refl, sym, ap, subst, ◌∙◌, inl, inr, arith, length-append}
use Rattle.std.specs.Prelude.{if◌then◌else◌}
use Rattle.std.proofs.Math.Seq.{take-append_seam, drop-append_seam, drop-append-add}
use Rattle.std.proofs.lemmas.List.{take-append-drop, length-take-le, length-drop, drop-append-le}
use Rattle.pickle_ops.specs.declared.opcode.Opcode.{Opcode}
use Rattle.pickle_ops.specs.declared.form.Form.{Form}
use Rattle.pickle_ops.specs.declared.form.Form.TheVariants as form
use Rattle.pickle_ops.specs.Table.{code_of, form_of, opcode_of}
use Rattle.pickle_ops.specs.Shape.{is_negative, IsArg, value_fault}
use Rattle.pickle_ops.specs.Spelling.{Operation}
use Rattle.pickle_ops.specs.Front.{front_of}
use Rattle.pickle_ops.specs.Inside.Sizes.{arg_size}
use Rattle.pickle_ops.proofs.Measures.{measures}
use Rattle.pickle_ops.proofs.TableLemmas.{opcode_of-code, code-opcode_of}
use Rattle.pickle_lenient.specs.Lenient.{Lenient, lenient}
use Rattle.pickle_lenient.specs.Stream as stream
use Rattle.pickle_lenient.specs.Stream.{arg_read, code_read, first_read, ends_in, settled, taken_as, within, across, taken}
use Rattle.pickle_further.specs.declared.way.Pickles.{Pickles}
use Rattle.pickle_further.specs.declared.way.Pickles.TheVariants as pickles
use Rattle.pickle_further.specs.Parts.{file_frames}
use Rattle.pickle_loader.specs.Environment.{World}
use Rattle.pickle_loader.specs.CUnpickler.{CUnpickler, CRaised, dispatch}
use Rattle.pickle_loader.specs.ShownFile as input
use Rattle.pickle_loader.specs.ShownFile.{Input, Chunk, read, behind, CFetched, CFetch, CNoFetch, fetched, with_arg, with_code, with_key, fetch}
use Rattle.pickle_loader.proofs.Plain.{whole_front, cut_ends}
use Rattle.reach_laws.proofs.Split.{Split, all, Got, reads, reads_arg}
use Rattle.reach_laws.proofs.Standing.{IsAt, Sees, sees_read, sees_arg}
use Rattle.reach_laws.proofs.Wholes.{Side, Inside, Outside, at_side, piece, gives, gives_arg, gives_below, outside_only, none_arg, none_fixed}
use Rattle.reach_laws.proofs.Across.{read_as}
use Rattle.reach_laws.proofs.Across as cross
use Rattle.reach_laws.proofs.Covered.{IsOf, Covered, Takes, Fails, covers}

-- ---- what is taken

-- whether STOP loses what is left of the buffer
abbrev pub ends_loads : Pickles → Bool
ends_loads pickles.OneMemo = false
ends_loads p = true

pub taken_by : (p : Pickles) (left : ℕ) (bytes : List ℕ) (b : Bool) → ends_in (front_of (take left bytes)) ≡ b
    → taken (file_frames p) left bytes ≡ (if b then within (ends_loads p) bytes (length (take left bytes)) (lenient (take left bytes)) else across (ends_loads p) bytes (length (take left bytes) - first_read (take left bytes)) (lenient (stream.joined left bytes)))
unfolding taken
taken_by pickles.First left bytes b e = ap (λ (c : Bool). if c then within true bytes (length (take left bytes)) (lenient (take left bytes)) else across true bytes (length (take left bytes) - first_read (take left bytes)) (lenient (stream.joined left bytes))) e
taken_by pickles.All left bytes b e = ap (λ (c : Bool). if c then within true bytes (length (take left bytes)) (lenient (take left bytes)) else across true bytes (length (take left bytes) - first_read (take left bytes)) (lenient (stream.joined left bytes))) e
taken_by pickles.OneMemo left bytes b e = ap (λ (c : Bool). if c then within false bytes (length (take left bytes)) (lenient (take left bytes)) else across false bytes (length (take left bytes) - first_read (take left bytes)) (lenient (stream.joined left bytes))) e

-- it is taken, and this is left, before what FRAME and STOP do; or the unpickler raises at it
pub data IsTaken (p : Pickles) (s : Split) (o : Operation) (q : Split) : Type 0 where
  Reads : (l : Lenient) (gap : ℕ) → taken (file_frames p) (length s.inside) (all s) ≡ Ok (settled (ends_loads p) (all s) (taken_as gap (length q.inside) l)) → IsOf o l.op l.row → drop (l.size + gap) (all s) ≡ all q → (s.inside ≡ [] → q.inside ≡ []) → IsTaken p s o q
  Never : ((w : World) (c : CUnpickler) → dispatch w o.opcode o.arg c ≡ CRaised c.acts) → IsTaken p s o q

-- in the buffer
inside_taken : (p : Pickles) (c : Opcode) (body outside : List ℕ) (n : ℕ) (o : Operation) → arg_size (form_of c) body ≡ Some n → Covered (code_of c ∷ body) o (n + 1) → IsTaken p (record { inside = code_of c ∷ body; outside = outside }) o (record { inside = drop n body; outside = outside })
inside_taken p c body outside n o size (Takes l is of long) =
    let some : List ℕ = code_of c ∷ body in
    let bytes : List ℕ = some ++ outside in
    let found = (measures (form_of c)).found body n size in
    let front : take (length some) bytes ≡ some = take-append_seam some outside in
    let left : length some - l.size ≡ length (drop n body) = omega (arith, long, length-drop n body) in
    let one : l.size + 0 ≡ suc n = omega (arith, long) in
    Reads l 0
    (taken_by p (length some) bytes true (ap (λ (x : List ℕ). ends_in (front_of x)) front ∙ ap ends_in (whole_front c body n size))
    ∙ ap (λ (x : List ℕ). within (ends_loads p) bytes (length x) (lenient x)) front
    ∙ ap (within (ends_loads p) bytes (length some)) is
    ∙ ap (λ (m : ℕ). Ok (settled (ends_loads p) bytes (taken_as 0 m l))) left)
    of (ap (λ (m : ℕ). drop m bytes) one ∙ drop-append-le n body outside found.0) (λ none. absurd cc)
inside_taken p c body outside n o size (Fails fails) = Never fails

-- behind it, where it is empty
outside_taken : (p : Pickles) (c : Opcode) (rest : List ℕ) (n : ℕ) (o : Operation) → Covered (code_of c ∷ rest) o (n + 1) → IsTaken p (outside_only (code_of c ∷ rest)) o (outside_only (drop n rest))
outside_taken p c rest n o (Takes l is of long) =
    let bytes : List ℕ = code_of c ∷ rest in
    let one : l.size + 0 ≡ suc n = omega (arith, long) in
    let no_gap : length (take 0 bytes) - first_read (take 0 bytes) ≡ 0 = refl in
    Reads l 0
    (taken_by p 0 bytes false refl
    ∙ ap (λ (m : ℕ). across (ends_loads p) bytes m (lenient bytes)) no_gap
    ∙ ap (across (ends_loads p) bytes 0) is)
    of (ap (λ (m : ℕ). drop m bytes) one) (λ none. refl)
outside_taken p c rest n o (Fails fails) = Never fails

-- what is behind an argument that goes on behind the buffer
behind_across : (body outside : List ℕ) (m r : ℕ) → r ≤ length body → r ≤ m → drop (m + (length body - r)) (body ++ outside) ≡ drop m (take r body ++ outside)
behind_across body outside m r h least =
    let j : ℕ = m - r in
    let size : length (take r body) ≡ r = length-take-le r body h in
    let one : m + (length body - r) ≡ length body + j = omega (arith, h, least) in
    let two : length (take r body) + j ≡ m = omega (arith, size, least) in
    ap (λ (k : ℕ). drop k (body ++ outside)) one ∙ drop-append-add body outside j
    ∙ sym (drop-append-add (take r body) outside j) ∙ ap (λ (k : ℕ). drop k (take r body ++ outside)) two

across_taken : (p : Pickles) (c : Opcode) (body outside : List ℕ) (m r : ℕ) (o : Operation) → arg_size (form_of c) body ≡ None → r ≡ arg_read c body → r ≤ length body → r ≤ m → Covered (code_of c ∷ (take r body ++ outside)) o (m + 1)
    → IsTaken p (record { inside = code_of c ∷ body; outside = outside }) o (outside_only (drop m (take r body ++ outside)))
across_taken p c body outside m r o none is_read h least (Takes l is of long) =
    let some : List ℕ = code_of c ∷ body in
    let bytes : List ℕ = some ++ outside in
    let flat : List ℕ = code_of c ∷ (take r body ++ outside) in
    let gap : ℕ = length some - suc r in
    let front : take (length some) bytes ≡ some = take-append_seam some outside in
    let back : drop (length some) bytes ≡ outside = drop-append_seam some outside in
    let reads_first : first_read some ≡ suc r = ap (code_read body) (opcode_of-code c) ∙ omega (arith, is_read) in
    let joined : stream.joined (length some) bytes ≡ flat =
    ap (λ (x : List ℕ). take (first_read x) x ++ drop (length some) bytes) front
    ∙ ap (λ (k : ℕ). take k some ++ drop (length some) bytes) reads_first
    ∙ ap (λ (x : List ℕ). take (suc r) some ++ x) back in
    let sum : l.size + gap ≡ suc (m + (length body - r)) = omega (arith, long, h) in
    Reads l gap
    (taken_by p (length some) bytes false (ap (λ (x : List ℕ). ends_in (front_of x)) front ∙ cut_ends c body none)
    ∙ ap (λ (x : List ℕ). across (ends_loads p) bytes (length x - first_read x) (lenient (stream.joined (length some) bytes))) front
    ∙ ap (λ (k : ℕ). across (ends_loads p) bytes (length some - k) (lenient (stream.joined (length some) bytes))) reads_first
    ∙ ap (λ (x : List ℕ). across (ends_loads p) bytes gap (lenient x)) joined
    ∙ ap (across (ends_loads p) bytes gap) is)
    of (ap (λ (k : ℕ). drop k bytes) sum ∙ behind_across body outside m r h least) (λ none. refl)
across_taken p c body outside m r o none is_read h least (Fails fails) = Never fails

-- ---- what is read

pub data IsFetched (shows : ℕ → ℕ) (p : Pickles) (s : Split) (i : Input) : Type 0 where
  Nothing : fetch shows p i ≡ CNoFetch → IsFetched shows p s i
  Fetches : (o : Operation) (q : Split) (j : Input) → fetch shows p i ≡ fetched o (behind shows p o.opcode o.arg j) → IsAt q j → IsTaken p s o q → IsFetched shows p s i

record SeesSome (g : Got) (y : Option Chunk) : Type 0 where
  after : Input
  is : y ≡ Some (record { bytes = g.bytes; after = after })
  at : IsAt g.after after

sees_some : (x : Option Got) (y : Option Chunk) (g : Got) → Sees x y → x ≡ Some g → SeesSome g y
sees_some None y g sees is = absurd cc
sees_some (Some h) None g sees is = absurd sees
sees_some (Some h) (Some c) g (e, at) is =
    let same : h ≡ g = cc in
    subst (λ (k : Got). SeesSome k (Some c)) same (record { after = c.after; is = ap (λ (l : List ℕ). Some (record { bytes = l; after = c.after })) (sym e); at = at })

pub sees_none : (x : Option Got) (y : Option Chunk) → Sees x y → x ≡ None → y ≡ None
sees_none None None sees is = refl
sees_none None (Some c) sees is = absurd sees
sees_none (Some g) y sees is = absurd cc

-- an argument that is whole on one side is read, or its length is below 0 and nothing is
abbrev Wholly : Side → Opcode → Form → List ℕ → List ℕ → Type 0
Wholly s c f arg rest = ((reads_arg c f (at_side s (arg ++ rest)) ≡ Some (piece s arg rest)) × (f ≡ form.String4 → is_negative arg ≡ false)) ⊎ (reads_arg c f (at_side s (arg ++ rest)) ≡ None)

signed_whole : (s : Side) (c : Opcode) (arg rest : List ℕ) (b : Bool) → is_negative arg ≡ b → form_of c ≡ form.String4 → IsArg form.String4 arg → length (at_side s (arg ++ rest)).inside + length (at_side s (arg ++ rest)).outside < 2 ^ 31 → Wholly s c form.String4 arg rest
signed_whole s c arg rest true below is h small = inr (gives_below s c arg rest h below small)
signed_whole s c arg rest false above is h small = inl (gives_arg s c form.String4 arg rest is h (λ e. above), λ e. above)

whole_by : (s : Side) (c : Opcode) (f : Form) (arg rest : List ℕ) → form_of c ≡ f → IsArg f arg → length (at_side s (arg ++ rest)).inside + length (at_side s (arg ++ rest)).outside < 2 ^ 31 → Wholly s c f arg rest
whole_by s c form.String4 arg rest is h small = signed_whole s c arg rest (is_negative arg) refl is h small
whole_by s c f arg rest is h small = inl (gives_arg s c f arg rest is h (λ e. absurd cc), λ e. absurd cc)

wholly : (s : Side) (c : Opcode) (body : List ℕ) (n : ℕ) → arg_size (form_of c) body ≡ Some n → length (at_side s body).inside + length (at_side s body).outside < 2 ^ 31
    → ((reads_arg c (form_of c) (at_side s body) ≡ Some (piece s (take n body) (drop n body))) × (form_of c ≡ form.String4 → is_negative (take n body) ≡ false)) ⊎ (reads_arg c (form_of c) (at_side s body) ≡ None)
wholly s c body n size small =
    let found = (measures (form_of c)).found body n size in
    let whole : take n body ++ drop n body ≡ body = take-append-drop n body in
    subst (λ (l : List ℕ). ((reads_arg c (form_of c) (at_side s l) ≡ Some (piece s (take n body) (drop n body))) × (form_of c ≡ form.String4 → is_negative (take n body) ≡ false)) ⊎ (reads_arg c (form_of c) (at_side s l) ≡ None)) whole
    (whole_by s c (form_of c) (take n body) (drop n body) refl found.1 (subst (λ (l : List ℕ). length (at_side s l).inside + length (at_side s l).outside < 2 ^ 31) (sym whole) small))

-- by the argument
read_fetched : (shows : ℕ → ℕ) (p : Pickles) (s : Split) (i : Input) (c : Opcode) (y : Option Chunk) (x : Option Got) (g : Got) → fetch shows p i ≡ with_arg shows p c y → Sees x y → x ≡ Some g → IsTaken p s (record { opcode = c; arg = g.bytes }) g.after → IsFetched shows p s i
read_fetched shows p s i c y x g e sees is taken =
    let there = sees_some x y g sees is in
    Fetches (record { opcode = c; arg = g.bytes }) g.after there.after (e ∙ ap (with_arg shows p c) there.is) there.at taken

none_fetched : (shows : ℕ → ℕ) (p : Pickles) (s : Split) (i : Input) (c : Opcode) (y : Option Chunk) (x : Option Got) → fetch shows p i ≡ with_arg shows p c y → Sees x y → x ≡ None → IsFetched shows p s i
none_fetched shows p s i c y x e sees is = Nothing (e ∙ ap (with_arg shows p c) (sees_none x y sees is))

-- of bytes behind the buffer, which are read as some that begin in it too
flat_fetched : (shows : ℕ → ℕ) (p : Pickles) (s : Split) (i : Input) (c : Opcode) (y : Option Chunk) (x : Option Got) (flat : List ℕ) (z : Option ℕ) → fetch shows p i ≡ with_arg shows p c y → Sees x y → x ≡ reads_arg c (form_of c) (outside_only flat) → length flat < 2 ^ 31 → arg_size (form_of c) flat ≡ z
    → ((m : ℕ) (o : Operation) → arg_size (form_of c) flat ≡ Some m → Covered (code_of c ∷ flat) o (m + 1) → IsTaken p s o (outside_only (drop m flat))) → IsFetched shows p s i
flat_fetched shows p s i c y x flat None e sees same small size takes = none_fetched shows p s i c y x e sees (same ∙ none_arg c (form_of c) flat size)
flat_fetched shows p s i c y x flat (Some m) e sees same small size takes = elim (wholly Outside c flat m size (omega (arith, small))) [
  | inl is ↦
      read_fetched shows p s i c y x (piece Outside (take m flat) (drop m flat)) e sees (same ∙ is.0)
      (takes m (record { opcode = c; arg = take m flat }) size (covers c flat m (value_fault (form_of c) (take m flat)) size refl is.1))
  | inr none ↦ none_fetched shows p s i c y x e sees (same ∙ none)
]

inside_fetched : (shows : ℕ → ℕ) (p : Pickles) (i j : Input) (c : Opcode) (body outside : List ℕ) (z : Option ℕ) → fetch shows p i ≡ with_arg shows p c (input.read_arg shows c (form_of c) j) → IsAt (record { inside = body; outside = outside }) j → length body + length outside < 2 ^ 31 → arg_size (form_of c) body ≡ z
    → IsFetched shows p (record { inside = code_of c ∷ body; outside = outside }) i
inside_fetched shows p i j c body outside (Some n) e at small size =
    let s : Split = record { inside = code_of c ∷ body; outside = outside } in
    let x : Option Got = reads_arg c (form_of c) (record { inside = body; outside = outside }) in
    let y : Option Chunk = input.read_arg shows c (form_of c) j in
    let sees : Sees x y = sees_arg shows c (form_of c) (record { inside = body; outside = outside }) j at in
    elim (wholly (Inside outside) c body n size small) [
      | inl is ↦
          read_fetched shows p s i c y x (piece (Inside outside) (take n body) (drop n body)) e sees is.0
          (inside_taken p c body outside n (record { opcode = c; arg = take n body }) size (covers c body n (value_fault (form_of c) (take n body)) size refl is.1))
      | inr none ↦ none_fetched shows p s i c y x e sees none
    ]
inside_fetched shows p i j c body outside None e at small size =
    let s : Split = record { inside = code_of c ∷ body; outside = outside } in
    let x : Option Got = reads_arg c (form_of c) (record { inside = body; outside = outside }) in
    let y : Option Chunk = input.read_arg shows c (form_of c) j in
    let sees : Sees x y = sees_arg shows c (form_of c) (record { inside = body; outside = outside }) j at in
    let r : ℕ = read_as c (form_of c) body in
    let crosses = cross.across c (form_of c) body outside refl size in
    let flat : List ℕ = take r body ++ outside in
    let few : length flat < 2 ^ 31 = omega (arith, small, length-append (take r body) outside, length-take-le r body crosses.within, crosses.within) in
    flat_fetched shows p s i c y x flat (arg_size (form_of c) flat) e sees crosses.same few refl
    (λ m o whole covered. across_taken p c body outside m r o size refl crosses.within (crosses.least m whole) covered)

-- by the code
code_inside : (shows : ℕ → ℕ) (p : Pickles) (i j : Input) (code : ℕ) (body outside : List ℕ) (x : Option Opcode) → opcode_of code ≡ x → fetch shows p i ≡ with_code shows p (opcode_of code) j → IsAt (record { inside = body; outside = outside }) j → length body + length outside < 2 ^ 31
    → IsFetched shows p (record { inside = code ∷ body; outside = outside }) i
code_inside shows p i j code body outside None is e at small = Nothing (e ∙ ap (λ (x : Option Opcode). with_code shows p x j) is)
code_inside shows p i j code body outside (Some c) is e at small =
    subst (λ (b : ℕ). IsFetched shows p (record { inside = b ∷ body; outside = outside }) i) (code-opcode_of code c is)
    (inside_fetched shows p i j c body outside (arg_size (form_of c) body) (e ∙ ap (λ (x : Option Opcode). with_code shows p x j) is) at small refl)

code_outside : (shows : ℕ → ℕ) (p : Pickles) (i j : Input) (code : ℕ) (rest : List ℕ) (x : Option Opcode) → opcode_of code ≡ x → fetch shows p i ≡ with_code shows p (opcode_of code) j → IsAt (outside_only rest) j → length rest < 2 ^ 31
    → IsFetched shows p (outside_only (code ∷ rest)) i
code_outside shows p i j code rest None is e at small = Nothing (e ∙ ap (λ (x : Option Opcode). with_code shows p x j) is)
code_outside shows p i j code rest (Some c) is e at small =
    subst (λ (b : ℕ). IsFetched shows p (outside_only (b ∷ rest)) i) (code-opcode_of code c is)
    (flat_fetched shows p (outside_only (code_of c ∷ rest)) i c (input.read_arg shows c (form_of c) j) (reads_arg c (form_of c) (outside_only rest)) rest (arg_size (form_of c) rest)
    (e ∙ ap (λ (x : Option Opcode). with_code shows p x j) is) (sees_arg shows c (form_of c) (outside_only rest) j at) refl small refl (λ m o whole covered. outside_taken p c rest m o covered))

-- ---- all of it

byte_fetched : (shows : ℕ → ℕ) (p : Pickles) (inside outside : List ℕ) (i : Input) → IsAt (record { inside = inside; outside = outside }) i → length inside + length outside < 2 ^ 31 → IsFetched shows p (record { inside = inside; outside = outside }) i
byte_fetched shows p [] [] i at small =
    Nothing (ap (with_key shows p) (sees_none (reads 1 (outside_only [])) (read shows 1 i) (sees_read shows 1 (outside_only []) i at) (none_fixed 1 [] refl)))
byte_fetched shows p [] (code ∷ rest) i at small =
    let there = sees_some (reads 1 (outside_only (code ∷ rest))) (read shows 1 i) (piece Outside (code ∷ []) rest) (sees_read shows 1 (outside_only (code ∷ rest)) i at) (gives Outside 1 (code ∷ []) rest refl) in
    code_outside shows p i there.after code rest (opcode_of code) refl (ap (with_key shows p) there.is) there.at (omega (arith, small))
byte_fetched shows p (code ∷ body) outside i at small =
    let s : Split = record { inside = code ∷ body; outside = outside } in
    let there = sees_some (reads 1 s) (read shows 1 i) (piece (Inside outside) (code ∷ []) body) (sees_read shows 1 s i at) (gives (Inside outside) 1 (code ∷ []) body refl) in
    code_inside shows p i there.after code body outside (opcode_of code) refl (ap (with_key shows p) there.is) there.at (omega (arith, small))

pub is_fetched : (shows : ℕ → ℕ) (p : Pickles) (s : Split) (i : Input) → IsAt s i → length (all s) < 2 ^ 31 → IsFetched shows p s i
is_fetched shows p s i at small = byte_fetched shows p s.inside s.outside i at (omega (arith, small, length-append s.inside s.outside))
