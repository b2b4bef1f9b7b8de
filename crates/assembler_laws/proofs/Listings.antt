-- A listing is read back.
use Rattle.std.proofs.Common.{◌≡◌, ◌≢◌, ◌⊎◌, ℕ, zero, suc, ◌≤◌, ◌==◌, Bool, true, false, List, [], ◌∷◌, ◌++◌, length, take, slice_get, Option, Some, None, refl, sym, ap, subst, ◌∙◌, inl, inr, arith, append-nil}
use Rattle.std.specs.Prelude.{if◌then◌else◌}
use Rattle.std.specs.Result.{result_ok}
use Rattle.std.proofs.lemmas.Bool.{eqb-true}
use Rattle.pickle_io.specs.Text.{◌⧺◌}
use Rattle.pickle_ops.specs.Spelling.{Operation, spelling}
use Rattle.pickle_doc.specs.declared.fault.Finish.{Finish}
use Rattle.pickle_doc.specs.declared.fault.Finish.TheVariants as finish
use Rattle.pickle_doc.specs.DocUnit.{is_stop, bytes_of}
use Rattle.pickle_doc.specs.Document.{Contents, document_bytes, finish_of}
use Rattle.pickle_doc.specs.Place.{ops_of, item_at, offset_of, tail_offset}
use Rattle.pickle_machine.specs.State.{State, start, stack_size}
use Rattle.pickle_machine.specs.Move.{fresh, refusal_at, outcome, next}
use Rattle.pickle_machine.specs.declared.refusal.Refusal.{Refusal}
use Rattle.pickle_machine.specs.Run.{after, run}
use Rattle.pickle_list.specs.declared.note.Note.{Note}
use Rattle.pickle_list.specs.ArgTexts.{ArgTexts, short_args}
use Rattle.pickle_list.specs.Line.{item_line_in, left_line, protocol_line, highest_protocol}
use Rattle.pickle_text.specs.Closing.{kept_text, kept_line}
use Rattle.pickle_list.specs.Listing.{line_on_in, line_at_in, left_by, lines_in, end_lines, end_status, refused_lines, listing_to_in, listing_in}
use Rattle.pickle_text.specs.Reached.{reached}
use Rattle.pickle_text.proofs.Places.{within, is_reached}
use Rattle.pickle_text.proofs.Runs.{run_after}
use Rattle.opcode_assembler.specs.declared.fault.Reason.TheVariants as why
use Rattle.opcode_assembler.specs.Assembly.{Assembles, IsRefused}
use Rattle.whole_listing.specs.WholeArgs.{whole_args}
use Rattle.assembler_laws.specs.ReadBack.{IsDocumentOf, AllCanonical, IsReadBack, IsRefusedAtGap, ItemLineReadBack, WholeLineReadBack, ListingReadBack, GapsAreRefused, WholeListingReadBack, WholeGapsAreRefused}
use Rattle.assembler_laws.proofs.Items.{IsKnown, known, bytes_next, all_taken}
use Rattle.assembler_laws.proofs.ItemLines.{IsReadIn, body, parts, item_says}
use Rattle.assembler_laws.proofs.Stays.{AnyStays, arg_stays, body_stays}
use Rattle.assembler_laws.proofs.Wholes.{short_read, whole_read, whole_stays}
use Rattle.assembler_laws.proofs.Texts.{Gives, Gap, gives_opcode, gives_nothing, gives_join, same_bytes, left_line_gives, protocol_line_gives, kept_gap, fault_gap, refused_gap, assembled, gap_behind}

pub item_line_read_back : ItemLineReadBack
item_line_read_back op offset marks n s h c l line e = item_says short_args op offset marks n line s (short_read op s h c) l e

pub whole_line_read_back : WholeLineReadBack
whole_line_read_back op offset marks n s h l line e = item_says whole_args op offset marks n line s (whole_read op s h) l e

-- ---- what a run has come by

abbrev pub ran : Contents → ℕ → Option State
ran d k = run (start d.many) (ops_of d) k

before_it : (x : Option Operation) (y : Option State) (n : ℕ) (t : State) → after x n y ≡ Some t → (s : State) × (y ≡ Some s)
before_it None y n t e = absurd cc
before_it (Some o) None n t e = absurd cc
before_it (Some o) (Some s) n t e = (s, refl)

there_is : (x : Option Operation) (y : Option State) (n : ℕ) (t : State) → after x n y ≡ Some t → (o : Operation) × (x ≡ Some o)
there_is None y n t e = absurd cc
there_is (Some o) y n t e = (o, refl)

-- the place behind it has none
past : (from : State) (ops : List Operation) (n k : ℕ) → ((j : ℕ) (s : State) → j ≤ n → run from ops j ≡ Some s → j ≤ k) → suc k ≤ n → (y : Option State) → run from ops (suc k) ≡ y → y ≡ None
past from ops n k most h None g = refl
past from ops n k most h (Some t) g = absurd (omega (arith, most (suc k) t h g))

-- ---- the lines of items

kept_none : Gives (kept_line 0) []
unfolding kept_line
kept_none = gives_nothing

kept_is : (b : Bool) (count : ℕ) → (count == 0) ≡ b → count ≢ 0 → kept_line count ≡ kept_text count
unfolding kept_line
kept_is true count e h = absurd (h (eqb-true count 0 e))
kept_is false count e h = rw e refl

some_tail : (t : List ℕ) → t ≢ [] → length t ≢ 0
some_tail [] h = absurd (h refl)
some_tail (b ∷ t) h = λ e. absurd (omega (arith, e))

-- an item without a further state is refused
refused_by : (o : Operation) (k : ℕ) (s : State) (r : Option Refusal) → result_ok (outcome r (next o k s)) ≡ None → Gap (refused_lines r)
refused_by o k s (Some r) n = refused_gap r
refused_by o k s None n = absurd cc

run_next_is : (from : State) (ops : List Operation) (k : ℕ) (o : Operation) (s : State) → slice_get ops k ≡ Some o → run from ops k ≡ Some s → run from ops (suc k) ≡ after (Some o) k (Some s)
unfolding run
run_next_is from ops k o s e g = rw (e, g) refl

-- the text of each argument has no newline
abbrev AllStay : ArgTexts → Type 0
AllStay args = (o : Operation) → AnyStays (args.text o)

-- and is read back
abbrev AllRead : ArgTexts → Contents → Type 0
AllRead args d = (k : ℕ) (o : Operation) → item_at d k ≡ Some o → IsReadIn args o

module _ (args : ArgTexts) (stays : AllStay args) (d : Contents) (f : IsKnown d) (reads : AllRead args d) where
  item_gives : (k : ℕ) (o : Operation) (marks : ℕ) (n : Option Note) → item_at d k ≡ Some o → Gives (item_line_in args o (offset_of d k) marks n) (spelling o)
  item_gives k o marks n at =
      let line = body args o (offset_of d k) marks n in
      let p = parts args o (offset_of d k) marks n in
      subst (λ (t : List ℕ). Gives t (spelling o)) (sym p)
      (gives_opcode line o (body_stays args o (offset_of d k) marks n (stays o)) (item_says args o (offset_of d k) marks n line (f.spelled k o at) (reads k o at) (f.offset k) p) (f.spelled k o at))

  line_gives : (k : ℕ) (x : Option Operation) (y : Option State) (o : Operation) (s : State) → item_at d k ≡ Some o → x ≡ Some o → y ≡ Some s → Gives (line_on_in args d k x y) (spelling o)
  line_gives k x y o s at e g =
      subst (λ (z : Option Operation). Gives (line_on_in args d k z y) (spelling o)) (sym e)
      (subst (λ (z : Option State). Gives (line_on_in args d k (Some o) z) (spelling o)) (sym g) (item_gives k o (length (fresh s).marked) _ at))

  line_there : (k : ℕ) (o : Operation) (s : State) → item_at d k ≡ Some o → ran d k ≡ Some s → Gives (line_at_in args d k) (spelling o)
  unfolding line_at_in
  line_there k o s e g = line_gives k (item_at d k) (ran d k) o s e e g

  left_gives : (x : Option Operation) (y : Option State) → Gives (left_by x y) []
  left_gives None y = gives_nothing
  left_gives (Some o) None = gives_nothing
  left_gives (Some o) (Some s) = go (is_stop o.opcode)
    where
      go : (b : Bool) → Gives (if b then left_line (stack_size s) (length s.marked) else []) []
      go true = left_line_gives (stack_size s) (length s.marked)
      go false = gives_nothing

  -- item k behind those before it
  one_more : (k : ℕ) (o : Operation) (s : State) → item_at d k ≡ Some o → ran d k ≡ Some s → Gives (lines_in args d k) (bytes_of (take k (ops_of d)))
      → Gives (lines_in args d (suc k)) (bytes_of (take (suc k) (ops_of d)))
  unfolding lines_in
  one_more k o s e g p =
      let left = left_by (item_at d k) (ran d (suc k)) in
      let all = gives_join (lines_in args d k ⧺ line_at_in args d k) left (bytes_of (take k (ops_of d)) ++ spelling o) []
      (gives_join (lines_in args d k) (line_at_in args d k) (bytes_of (take k (ops_of d))) (spelling o) p (line_there k o s e g)) (left_gives (item_at d k) (ran d (suc k))) in
      same_bytes (lines_in args d k ⧺ line_at_in args d k ⧺ left) ((bytes_of (take k (ops_of d)) ++ spelling o) ++ []) (bytes_of (take (suc k) (ops_of d)))
      (append-nil (bytes_of (take k (ops_of d)) ++ spelling o) ∙ sym (bytes_next (ops_of d) k o e)) all

  no_lines : Gives (lines_in args d 0) []
  unfolding lines_in
  no_lines = gives_nothing

  lines_give : (n : ℕ) (s : State) → ran d n ≡ Some s → Gives (lines_in args d n) (bytes_of (take n (ops_of d)))
  lines_give zero s e = no_lines
  lines_give (suc k) s e =
      let g = run_after (start d.many) (ops_of d) k s e in
      let b = before_it (item_at d k) (ran d k) k s g in
      let o = there_is (item_at d k) (ran d k) k s g in
      one_more k o.0 b.0 o.1 b.1 (lines_give k b.0 b.1)

  -- ---- all items are listed, and no bytes are behind them

  whole_bytes : (k : ℕ) → item_at d k ≡ None → d.tail ≡ [] → bytes_of (take k (ops_of d)) ≡ document_bytes d
  whole_bytes k e t =
      ap bytes_of (all_taken (ops_of d) k e) ∙ sym (append-nil (bytes_of (ops_of d))) ∙ ap (λ (x : List ℕ). bytes_of (ops_of d) ++ x) (sym t)

  end_gives : (g : Finish) → end_status g ≡ 0 → d.tail ≡ [] → Gives (end_lines d g) []
  end_gives finish.Stopped e t = subst (λ (x : List ℕ). Gives (kept_line (length x)) []) (sym t) kept_none
  end_gives (finish.Fault g) e t = absurd (omega (arith, e))

  -- the text of a listing that ends behind its last item
  read_by : (k : ℕ) (x : Option Operation) (s : State) → item_at d k ≡ x → ran d k ≡ Some s → (listing_to_in args d k x (Some s)).status ≡ 0 → d.tail ≡ [] → Assembles (listing_to_in args d k x (Some s)).text (document_bytes d)
  read_by k (Some o) s e g z t = absurd (omega (arith, z))
  read_by k None s e g z t =
      let p = highest_protocol (take k (ops_of d)) in
      let all = gives_join (lines_in args d k) (end_lines d (finish_of d) ⧺ protocol_line p) (bytes_of (take k (ops_of d))) []
      (lines_give k s g) (gives_join (end_lines d (finish_of d)) (protocol_line p) [] [] (end_gives (finish_of d) z t) (protocol_line_gives p)) in
      assembled (lines_in args d k ⧺ (end_lines d (finish_of d) ⧺ protocol_line p)) (document_bytes d)
      (same_bytes (lines_in args d k ⧺ (end_lines d (finish_of d) ⧺ protocol_line p)) (bytes_of (take k (ops_of d)) ++ []) (document_bytes d)
      (append-nil (bytes_of (take k (ops_of d))) ∙ whole_bytes k e t) all)

  whole : (listing_in args d).status ≡ 0 → d.tail ≡ [] → Assembles (listing_in args d).text (document_bytes d)
  unfolding listing_in
  whole =
      let n = length (ops_of d) in
      let far = is_reached (start d.many) (ops_of d) n in
      let k = reached (start d.many) (ops_of d) n in
      subst (λ (y : Option State). (listing_to_in args d k (item_at d k) y).status ≡ 0 → d.tail ≡ [] → Assembles (listing_to_in args d k (item_at d k) y).text (document_bytes d)) (sym far.is)
      (read_by k (item_at d k) far.state refl far.is)

  -- ---- there is more

  end_gap : (g : Finish) → (end_status g ≢ 0) ⊎ (d.tail ≢ []) → Gap (end_lines d g)
  end_gap (finish.Fault g) h = fault_gap g (tail_offset d)
  end_gap finish.Stopped h = elim h [
    | inl differs ↦ absurd (differs refl)
    | inr more ↦ subst Gap (sym (kept_is (length d.tail == 0) (length d.tail) refl (some_tail d.tail more))) (kept_gap (length d.tail))
  ]

  gap_by : (k : ℕ) (x : Option Operation) (s : State) → item_at d k ≡ x → ran d k ≡ Some s → ((o : Operation) → x ≡ Some o → ran d (suc k) ≡ None)
      → ((listing_to_in args d k x (Some s)).status ≢ 0) ⊎ (d.tail ≢ []) → (m : ℕ) × IsRefused (listing_to_in args d k x (Some s)).text m why.LeftOut
  gap_by k None s e g last h =
      gap_behind (lines_in args d k) (end_lines d (finish_of d)) (protocol_line (highest_protocol (take k (ops_of d)))) (bytes_of (take k (ops_of d))) (lines_give k s g) (end_gap (finish_of d) h)
  gap_by k (Some o) s e g last h =
      let none : after (Some o) k (Some s) ≡ None = sym (run_next_is (start d.many) (ops_of d) k o s e g) ∙ last o refl in
      gap_behind (lines_in args d (suc k)) (refused_lines (refusal_at o s)) (protocol_line (highest_protocol (take (suc k) (ops_of d)))) (bytes_of (take (suc k) (ops_of d)))
      (one_more k o s e g (lines_give k s g)) (refused_by o k s (refusal_at o s) none)

  gap : ((listing_in args d).status ≢ 0) ⊎ (d.tail ≢ []) → (m : ℕ) × IsRefused (listing_in args d).text m why.LeftOut
  unfolding listing_in
  gap =
      let n = length (ops_of d) in
      let far = is_reached (start d.many) (ops_of d) n in
      let k = reached (start d.many) (ops_of d) n in
      subst (λ (y : Option State). ((listing_to_in args d k (item_at d k) y).status ≢ 0) ⊎ (d.tail ≢ []) → (m : ℕ) × IsRefused (listing_to_in args d k (item_at d k) y).text m why.LeftOut) (sym far.is)
      (gap_by k (item_at d k) far.state refl far.is (λ o e. past (start d.many) (ops_of d) n k far.most (omega (arith, within (ops_of d) k o e)) (ran d (suc k)) refl))

-- of a document that bytes read as
whole_of : (args : ArgTexts) → AllStay args → (bytes : List ℕ) (d : Contents) → IsDocumentOf bytes d → AllRead args d → IsReadBack bytes d (listing_in args d)
whole_of args stays bytes d h reads z t =
    subst (λ (bs : List ℕ). Assembles (listing_in args d).text bs) h.reads.whole (whole args stays d (known h.many h.loose bytes d h.good h.small h.reads) reads z t)

gap_of : (args : ArgTexts) → AllStay args → (bytes : List ℕ) (d : Contents) → IsDocumentOf bytes d → AllRead args d → IsRefusedAtGap d (listing_in args d)
gap_of args stays bytes d h reads more = gap args stays d (known h.many h.loose bytes d h.good h.small h.reads) reads more

-- by their own texts
short_all : (bytes : List ℕ) (d : Contents) → IsDocumentOf bytes d → AllCanonical d → AllRead short_args d
short_all bytes d h c k o at =
    let f = known h.many h.loose bytes d h.good h.small h.reads in
    short_read o (f.spelled k o at) (f.bytes k o at) (c k o at)

pub listing_read_back : ListingReadBack
listing_read_back bytes d h c = whole_of short_args arg_stays bytes d h (short_all bytes d h c)

pub gaps_are_refused : GapsAreRefused
gaps_are_refused bytes d h c = gap_of short_args arg_stays bytes d h (short_all bytes d h c)

-- or whole
whole_all : (bytes : List ℕ) (d : Contents) → IsDocumentOf bytes d → AllRead whole_args d
whole_all bytes d h k o at =
    let f = known h.many h.loose bytes d h.good h.small h.reads in
    whole_read o (f.spelled k o at) (f.bytes k o at)

pub whole_listing_read_back : WholeListingReadBack
whole_listing_read_back bytes d h = whole_of whole_args whole_stays bytes d h (whole_all bytes d h)

pub whole_gaps_are_refused : WholeGapsAreRefused
whole_gaps_are_refused bytes d h = gap_of whole_args whole_stays bytes d h (whole_all bytes d h)
