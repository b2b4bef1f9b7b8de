-- Where no STOP leaves a frame unfinished, a STOP is at most the last member of its frame.
use Rattle.std.proofs.Common.{◌≡◌, ℕ, zero, suc, ◌+◌, ◌-◌, ◌<◌, ◌≤◌, ◌^◌, Bool, true, false, cond, List, [], ◌∷◌, ◌++◌, length, Option, Some, None, refl, sym, ap, subst, ◌∙◌, inl, inr, arith, length-append}
use Rattle.std.proofs.lemmas.Bool.{lt-ltb}
use Rattle.std.specs.Prelude.{◌&&◌, ◌⊎◌, nat_lt, not, slice_get, ⊤}
use Rattle.std.specs.List.{AllByRecursion}
use Rattle.byteorder.specs.Endian.{little_number}
use Rattle.pickle_ops.specs.Spelling.{Operation, size_of}
use Rattle.pickle_doc.specs.declared.item.Item.{Item}
use Rattle.pickle_doc.specs.DocUnit.{DocUnit, Loose, Frame, is_stop, is_frame, item_size, sizes, frame_item, flat, operations, bytes_of}
use Rattle.pickle_doc.specs.Document.{Contents, OnlyLastStops, OnlyLastOpen, IsPlain, IsUnit, IsFormed, open_of, items_of, document_bytes}
use Rattle.pickle_doc.specs.Fitting.{left_behind}
use Rattle.pickle_doc.specs.Place.{ops_of, item_at}
use Rattle.pickle_calls.specs.Calls.{is_inside, or_here, left_on, left_at, first_inside}
use Rattle.pickle_loader.specs.Reader.{StopsEndFrames}
use Rattle.pickle_doc.proofs.Opcodes.{number-frame}
use Rattle.pickle_doc.proofs.Units.{length_bytes, sizes-append}
use Rattle.pickle_loader.proofs.Fetching.{open_rest, open_more, extra_within}

-- no STOP leaves bytes of a frame, of which so many are left before these operations
abbrev IsQuiet : ℕ → List Operation → Type 0
IsQuiet left [] = ⊤
IsQuiet left (o ∷ ops) = ((is_stop o.opcode && nat_lt 0 (left_behind false left o)) ≡ false) × IsQuiet (left_behind false left o) ops

-- ---- along a document

or_none : (x : Option ℕ) (here : Bool) (k : ℕ) → or_here x here k ≡ None → (x ≡ None) × (here ≡ false)
or_none (Some j) here k e = absurd cc
or_none None true k e = absurd cc
or_none None false k e = (refl, refl)

-- none of the first n items
pub none_before : (d : Contents) (n j : ℕ) → first_inside d n ≡ None → j < n → is_inside d.many (item_at d j) (left_at d j) ≡ false
unfolding first_inside
none_before d zero j e less = absurd (omega (arith, less))
none_before d (suc n) j e less =
    let both = or_none (first_inside d n) (is_inside d.many (item_at d n) (left_at d n)) n e in
    elim (last_or n j less) [
      | inl before ↦ none_before d n j both.0 before
      | inr here ↦ subst (λ (m : ℕ). is_inside d.many (item_at d m) (left_at d m) ≡ false) (sym here) both.1
    ]
  where
    last_or : (n j : ℕ) → j < suc n → (j < n) ⊎ (j ≡ n)
    last_or zero zero h = inr refl
    last_or zero (suc j) h = absurd (omega (arith, h))
    last_or (suc n) zero h = inl (omega arith)
    last_or (suc n) (suc j) h = elim (last_or n j (omega (arith, h))) [
      | inl less ↦ inl (omega (arith, less))
      | inr same ↦ inr (ap suc same)
    ]

quiet_from : (d : Contents) (k : ℕ) (ops : List Operation) → d.many ≡ true → ((i : ℕ) (o : Operation) → slice_get ops i ≡ Some o → item_at d (i + k) ≡ Some o)
    → ((i : ℕ) → i < length ops → is_inside d.many (item_at d (i + k)) (left_at d (i + k)) ≡ false) → IsQuiet (left_at d k) ops
quiet_from d k [] many there out = tt
quiet_from d k (o ∷ ops) many there out =
    let first : 0 + k ≡ k = omega arith in
    let here : item_at d k ≡ Some o = subst (λ (m : ℕ). item_at d m ≡ Some o) first (there 0 o refl) in
    let next : left_at d (suc k) ≡ left_behind false (left_at d k) o = ap (λ (x : Option Operation). left_on x (left_at d k)) here in
    let at : is_inside true (Some o) (left_at d k) ≡ false =
    subst (λ (b : Bool). is_inside b (Some o) (left_at d k) ≡ false) many (subst (λ (x : Option Operation). is_inside d.many x (left_at d k) ≡ false) here (subst (λ (m : ℕ). is_inside d.many (item_at d m) (left_at d m) ≡ false) first (out 0 (omega arith)))) in
    let step : (i : ℕ) → suc i + k ≡ i + suc k = λ i. omega arith in (
      at,
      subst (λ (left : ℕ). IsQuiet left ops) next (quiet_from d (suc k) ops many
          (λ i p e. subst (λ (m : ℕ). item_at d m ≡ Some p) (step i) (there (suc i) p e))
          (λ i less. subst (λ (m : ℕ). is_inside d.many (item_at d m) (left_at d m) ≡ false) (step i) (out (suc i) (omega (arith, less))))),
    )

-- ---- along units

-- behind a plain item a frame is as much shorter as the item is long
behind_plain : (left : ℕ) (o : Operation) → is_frame o.opcode ≡ false → left_behind false left o ≡ left - size_of o
behind_plain left o plain = ap (λ (b : Bool). cond b (little_number 8 o.arg) (left - size_of o)) plain

not_stop : (b c : Bool) → c ≡ true → (b && c) ≡ false → (b && not false) ≡ false
not_stop true true e h = absurd cc
not_stop true false e h = absurd cc
not_stop false c e h = refl

members_quiet : (members items : List Item) (extra : ℕ) → AllByRecursion (IsPlain false) members → IsQuiet (sizes members + extra) (operations (members ++ items)) → OnlyLastStops false members × IsQuiet extra (operations items)
members_quiet [] items extra plain quiet =
    let same : 0 + extra ≡ extra = omega arith in
    (tt, subst (λ (n : ℕ). IsQuiet n (operations items)) same quiet)
members_quiet (i ∷ []) items extra plain quiet =
    let size : item_size i ≡ size_of i.op = refl in
    let less : left_behind false (sizes (i ∷ []) + extra) i.op ≡ extra = behind_plain (sizes (i ∷ []) + extra) i.op plain.0.no_frame ∙ omega (arith, size) in
    (tt, subst (λ (n : ℕ). IsQuiet n (operations items)) less quiet.1)
members_quiet (i ∷ j ∷ members) items extra plain quiet =
    let size : item_size i ≡ size_of i.op = refl in
    let some : 0 < item_size j = omega arith in
    let less : left_behind false (sizes (i ∷ j ∷ members) + extra) i.op ≡ sizes (j ∷ members) + extra = behind_plain (sizes (i ∷ j ∷ members) + extra) i.op plain.0.no_frame ∙ omega (arith, size) in
    let more = members_quiet (j ∷ members) items extra plain.1 (subst (λ (n : ℕ). IsQuiet n (operations (j ∷ (members ++ items)))) less quiet.1) in
    let left : nat_lt 0 (left_behind false (sizes (i ∷ j ∷ members) + extra) i.op) ≡ true = ap (nat_lt 0) less ∙ lt-ltb 0 (sizes (j ∷ members) + extra) (omega (arith, some)) in
    ((not_stop (is_stop i.op.opcode) (nat_lt 0 (left_behind false (sizes (i ∷ j ∷ members) + extra) i.op)) left quiet.0, more.0), more.1)

-- behind a frame that is not the last nothing of it is left
quiet_behind : (id : ℕ) (members : List Item) (extra : ℕ) (units : List DocUnit) → OnlyLastOpen (Frame id members extra ∷ units) → IsQuiet extra (operations (flat units)) → IsQuiet 0 (operations (flat units))
quiet_behind id members extra [] only quiet = tt
quiet_behind id members extra (v ∷ units) only quiet = subst (λ (n : ℕ). IsQuiet n (operations (flat (v ∷ units)))) only.0 quiet

units_quiet : (units : List DocUnit) (n : ℕ) → AllByRecursion (IsUnit false) units → OnlyLastOpen units → open_of units ≤ n → sizes (flat units) + n < 2 ^ 64 → IsQuiet 0 (operations (flat units)) → StopsEndFrames units
units_quiet [] n plain only reach small quiet = tt
units_quiet (Loose i ∷ units) n plain only reach small quiet =
    let none : left_behind false 0 i.op ≡ 0 = behind_plain 0 i.op plain.0.no_frame ∙ omega arith in
    let more = units_quiet units n plain.1 (open_rest (Loose i) units only) (open_more (Loose i) units n reach) (omega (arith, small)) (subst (λ (left : ℕ). IsQuiet left (operations (flat units))) none quiet.1) in
    (tt, more)
units_quiet (Frame id members extra ∷ units) n plain only reach small quiet =
    let number : ℕ = sizes members + extra in
    let sum : sizes (flat (Frame id members extra ∷ units)) ≡ 9 + sizes (members ++ flat units) = refl in
    let both : sizes (members ++ flat units) ≡ sizes members + sizes (flat units) = sizes-append members (flat units) in
    let claims : extra ≤ n = extra_within id members extra units n only reach in
    let fewer : sizes (flat units) + n < 2 ^ 64 = omega (arith, small, sum, both) in
    let long : left_behind false 0 (frame_item id number).op ≡ number = number-frame id number (omega (arith, small, sum, both, claims)) in
    let inner = members_quiet members (flat units) extra plain.0.0 (subst (λ (left : ℕ). IsQuiet left (operations (members ++ flat units))) long quiet.1) in
    (inner.0, units_quiet units n plain.1 (open_rest (Frame id members extra) units only) (open_more (Frame id members extra) units n reach) fewer (quiet_behind id members extra units only inner.1))

-- ---- documents

pub stops_end_frames : (d : Contents) → IsFormed d → d.loose ≡ false → length (document_bytes d) < 2 ^ 64 → d.many ≡ true → first_inside d (length (ops_of d)) ≡ None → StopsEndFrames d.units
stops_end_frames d formed framed small many none =
    let size : length (document_bytes d) ≡ length (bytes_of (ops_of d)) + length d.tail = length-append (bytes_of (ops_of d)) d.tail in
    let same : (i : ℕ) → i + 0 ≡ i = λ i. omega arith in
    units_quiet d.units (length d.tail) (subst (λ (w : Bool). AllByRecursion (IsUnit w) d.units) framed formed.units) formed.last_open formed.reach (omega (arith, small, size, length_bytes (items_of d)))
    (quiet_from d 0 (ops_of d) many
    (λ i o e. subst (λ (m : ℕ). item_at d m ≡ Some o) (sym (same i)) e)
    (λ i less. subst (λ (m : ℕ). is_inside d.many (item_at d m) (left_at d m) ≡ false) (sym (same i)) (none_before d (length (ops_of d)) i none less)))
