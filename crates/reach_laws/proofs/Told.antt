-- Each act of a load of a file has its line, or the text says from where frames may be mixed, and then which opcodes may do it.
use Rattle.std.proofs.Common.{◌≡◌, ◌≢◌, ◌⊎◌, ℕ, zero, suc, ◌^◌, ◌<◌, ◌≤◌, ◌==◌, Bool, true, false, List, [], ◌∷◌, ◌++◌, length, drop, Option, Some, None, refl, sym, ap, subst, ◌∙◌, inl, inr, arith}
use Rattle.std.specs.Prelude.{if◌then◌else◌}
use Rattle.std.proofs.lemmas.Bool.{cases_Bool, cases_lt}
use Rattle.pickle_ops.specs.Spelling.{Operation}
use Rattle.pickle_doc.specs.Document.{Contents, ReadsAs, document_bytes, items_of}
use Rattle.pickle_doc.specs.DocUnit.{bytes_of}
use Rattle.pickle_doc.specs.Place.{ops_of, offset_of}
use Rattle.pickle_doc.proofs.Ends.{stopped_last}
use Rattle.pickle_doc.proofs.Existence.{same_document}
use Rattle.pickle_io.specs.Text.{◌⧺◌}
use Rattle.pickle_io.specs.Holes.{in_file}
use Rattle.pickle_machine.specs.State.{start}
use Rattle.pickle_machine.specs.Run.{run}
use Rattle.pickle_lenient.specs.declared.taken.Frames.{Frames}
use Rattle.pickle_lenient.specs.declared.taken.Frames.TheVariants as frames
use Rattle.calls_laws.specs.LineLaws.{cut_lines, if_any}
use Rattle.pickle_calls.specs.Manner.{Manner}
use Rattle.pickle_text.specs.Output.{Output}
use Rattle.pickle_calls.specs.declared.naming.Detail.TheVariants as detail
use Rattle.pickle_calls.specs.Calls.{calls_end}
use Rattle.pickle_further.specs.declared.way.Pickles.{Pickles}
use Rattle.pickle_further.specs.declared.way.Pickles.TheVariants as pickles
use Rattle.pickle_further.specs.declared.way.Way.{Way}
use Rattle.pickle_further.specs.Going.{Standing, going, tale_of}
use Rattle.pickle_further.specs.Parts.{ignoring, buffering, are_many, is_open, standing_first, first_mixed, mixed_words, mixed_line, mixed_text, file_frames}
use Rattle.pickle_further.specs.CallsText.{document_calls, first_loss, IsCallsText}
use Rattle.pickle_loader.specs.Environment.{Value, Act, World}
use Rattle.pickle_loader.specs.Dispatch.{acts_of}
use Rattle.pickle_loader.specs.Listed.{listed_of}
use Rattle.pickle_loader.specs.Onward.{Onward, stands, reads_on, load_way, begins_anew}
use Rattle.pickle_loader.specs.Text.{line_gone, document_lines, lost_lines, mixed_lines, kept_first, kept_last, kept_parts, kept_lines, IsAmong, way_of, is_in_text}
use Rattle.pickle_loader.specs.ByFrames.{IsAct}
use Rattle.pickle_loader.specs.CLoad.{CLoaded, seen_loaded, COnward, c_load_way, as_in_c}
use Rattle.pickle_loader.specs.ShownFile.{CLoading, fetch, c_load_found, c_load_file}
use Rattle.pickle_loader.proofs.ActLines.{each_act_in_c_has_its_line}
use Rattle.pickle_loader.proofs.Bytes.{drop_all, last_stop, no_tail}
use Rattle.pickle_loader.proofs.CLoads.{one_load}
use Rattle.pickle_loader.proofs.EachReach.{IsReadSo, end_is, IsOver, first_over, in_parts, in_lossy}
use Rattle.pickle_loader.proofs.FileLines.{quiet_listed}
use Rattle.pickle_loader.proofs.OneMemo.{read_so}
use Rattle.pickle_loader.proofs.Reaches.{among_right, among_any}
use Rattle.pickle_loader.proofs.Readings.{rest_is}
use Rattle.pickle_loader.proofs.ShownFiles.{Quiet, file_same}
use Rattle.pickle_loader.proofs.Streams.{quiet_item}
use Rattle.pickle_loader.proofs.Ways.{by_items}
use Rattle.pickle_loader.proofs.WholeText.{whole_text_is_its_lines}
use Rattle.pickle_mixes.specs.declared.place.Place.{Place}
use Rattle.pickle_mixes.specs.Acting.{acting_places}
use Rattle.mixes_text.specs.MixText.{taken_line, many_line, mixes_for_people, found_text, goes_on, mixes_behind, with_mixes}
use Rattle.reach_laws.specs.Mixed.{c_opened, c_load_mixed}
use Rattle.reach_laws.specs.Filed.{file_mix, frames_pass}
use Rattle.reach_laws.specs.Told.{SaysMixed, SaysTooMany, HaveLines, HaveOpcodes, TellsMixes, EachActOfAFileIsTold}
use Rattle.reach_laws.proofs.Filed.{files_are_mixes, same_acts}
use Rattle.reach_laws.proofs.Partings.{each_did}
use Rattle.reach_laws.proofs.Placing.{each_act_of_a_file_has_its_place}
use Rattle.reach_laws.proofs.MixLines.{Ended, among_first, among_behind, among_alone, closed_ended, open_ended, kept_ended, document_status, kept_status_is, mixes_are, no_mixes, among_placed, among_many}

-- ---- where loaders go on behind the end

-- the line is there
mixed_some : (offset : ℕ) → mixed_line offset ≢ []
unfolding mixed_line mixed_words ◌⧺◌
mixed_some offset none = absurd cc

says_mixed : (how : Manner) (p : Pickles) (d : Contents) (o : Output) (n : ℕ) → cut_lines o.text ≡ document_lines how p d → is_open (calls_end d).ending ≡ true → first_mixed how.detail p (document_bytes d) ≡ Some n → SaysMixed o
says_mixed how p d o n lines goes is =
    let line : List ℕ = mixed_line (in_file how.holes n) in
    let here : IsAmong line (mixed_lines how p (document_bytes d)) =
    subst (λ (x : Option ℕ). IsAmong line (if_any (mixed_text how.holes x))) (sym is) (among_any line (mixed_some (in_file how.holes n))) in
    let lossy = among_right line (lost_lines how (buffering p) (document_bytes d)) (mixed_lines how p (document_bytes d)) here in
    (in_file how.holes n, subst (IsAmong line) (sym lines) (in_parts how p d line (in_lossy how p d line goes lossy)))

-- the acts of a load are told by one of both readings
abbrev pub Told : Manner → World → (ℕ → ℕ) → Pickles → List ℕ → Output → Type 0
Told how w shows p bytes o = (V : ℕ → Value) × (U : ℕ → Value)
    × ((n : ℕ)
    → HaveLines how V p frames.Ignored bytes o (listed_of (acts_of (seen_loaded (c_load_file w shows p bytes n).now)))
    ⊎ HaveLines how U p (file_frames p) bytes o (listed_of (acts_of (seen_loaded (c_load_file w shows p bytes n).now))))

-- at each point it did what a load in one of these ways did at some point
abbrev DidAs : World → World → (ℕ → ℕ) → Pickles → List ℕ → Frames → ℕ → Type 0
DidAs w v shows p bytes f n = (m : ℕ) × (acts_of (seen_loaded (c_load_file w shows p bytes n).now) ≡ acts_of (seen_loaded (c_load_way v (way_of p f) bytes m).now))

told_by : (how : Manner) (w v : World) (shows : ℕ → ℕ) (p : Pickles) (bytes : List ℕ) (o : Output) → IsCallsText how p bytes o → length bytes < 2 ^ 64 → is_in_text p frames.Ignored ≡ true → is_in_text p (file_frames p) ≡ true
    → ((n : ℕ) → DidAs w v shows p bytes frames.Ignored n ⊎ DidAs w v shows p bytes (file_frames p) n) → Told how w shows p bytes o
told_by how w v shows p bytes o text small plainly kept does =
    let first = each_act_in_c_has_its_line how v p frames.Ignored bytes o text small plainly in
    let second = each_act_in_c_has_its_line how v p (file_frames p) bytes o text small kept in (
      first.0,
      second.0,
      λ n. elim (does n) [
        | inl did ↦ inl (λ a is. first.2 did.0 a (subst (λ (acts : List Act). IsAct a (listed_of acts)) did.1 is))
        | inr did ↦ inr (λ a is. second.2 did.0 a (subst (λ (acts : List Act). IsAct a (listed_of acts)) did.1 is))
      ],
    )

did_open : (how : Manner) (w : World) (shows : ℕ → ℕ) (p : Pickles) (bytes : List ℕ) → length bytes < 2 ^ 31 → first_mixed how.detail p bytes ≡ None → (n : ℕ)
    → DidAs w (frames_pass w) shows p bytes frames.Ignored n ⊎ DidAs w (frames_pass w) shows p bytes (file_frames p) n
did_open how w shows p bytes small none n =
    let mix = files_are_mixes w shows p bytes n small in
    let y : COnward = c_load_mixed (frames_pass w) (file_mix p mix.0) (c_opened bytes) in
    let same = same_acts (c_load_file w shows p bytes n).now y.now mix.1 in
    elim (each_did how.detail (frames_pass w) p bytes mix.0 none) [
      | inl did ↦ inr (did.0, same ∙ did.1)
      | inr did ↦ inl (did.0, same ∙ did.1)
    ]

-- ---- where the lines end with STOP

-- it stays where it is once no more is read
stays : (w : World) (shows : ℕ → ℕ) (p : Pickles) (bytes : List ℕ) (k n : ℕ) → reads_on p (seen_loaded (c_load_file w shows p bytes k).now) ≡ false → k ≤ n → c_load_file w shows p bytes n ≡ c_load_file w shows p bytes k
unfolding c_load_file
stays w shows p bytes k zero off less = let same : 0 ≡ k = omega (arith, less) in ap (c_load_file w shows p bytes) same
stays w shows p bytes k (suc n) off less = elim (cases_lt n k) [
  | inl before ↦ let same : suc n ≡ k = omega (arith, less, before) in ap (c_load_file w shows p bytes) same
  | inr behind ↦
      let same = stays w shows p bytes k n off behind in
      let x : CLoading = c_load_file w shows p bytes n in
      let still : reads_on p (seen_loaded x.now) ≡ false = ap (λ (y : CLoading). reads_on p (seen_loaded y.now)) same ∙ off in
      ap (λ (b : Bool). if b then c_load_found w p x (fetch shows p x.input) else x) still ∙ same
]

record Closed (d : Contents) : Type 0 where
  over : IsOver d
  place : (calls_end d).place ≡ length (ops_of d)

closed_of : (d : Contents) → is_open (calls_end d).ending ≡ false → Closed d
closed_of d closed =
    let x = end_is d in
    let all = x.closed closed in
    record { over = record { last = x.state; runs = ap (run (start d.many) (ops_of d)) (sym all.0) ∙ x.reached; quiet = all.1; stopped = all.2 }; place = all.0 }

-- a load is that of the bytes at some point
abbrev IsBytes : World → (ℕ → ℕ) → Pickles → List ℕ → ℕ → Type 0
IsBytes w shows p bytes n = (m : ℕ) × ((c_load_file w shows p bytes n).now ≡ (c_load_way w (ignoring p) bytes m).now)

-- where nothing is behind the last item
bytes_whole : (w : World) (shows : ℕ → ℕ) (p : Pickles) (d : Contents) (n : ℕ) → IsReadSo p d → Closed d → d.tail ≡ [] → IsBytes w shows p (document_bytes d) n
bytes_whole w shows p d n r x tail =
    let quiet : Quiet p d n = λ k o before here stop anew. quiet_item d r.formed r.framing r.small x.over.quiet tail k o here stop in
    (n, (file_same w shows p d n r.formed r.framing r.small quiet (inr tail) n (omega arith)).now)

-- behind the one pickle that is read no more is read
abbrev bare_first : Manner
bare_first = record { detail = detail.Cut; holes = [] }

none_when : (z y : Option Standing) → z ≡ y → ((q : Standing) → z ≡ Some q → ⊥) → z ≡ None
none_when z None is none = is
none_when z (Some q) is none = absurd (none q is)

none_behind : (d : Contents) → IsReadSo pickles.First d → Closed d → stands (ignoring pickles.First) (standing_first detail.Cut pickles.First (document_bytes d)) (length (ops_of d)) ≡ None
none_behind d r x =
    let last = last_stop (items_of d) (stopped_last d r.formed x.over.stopped) in
    let w : Way = ignoring pickles.First in
    let first : Standing = standing_first detail.Cut pickles.First (document_bytes d) in
    ap (stands w first) last.2
    ∙ none_when (stands w first (suc last.0)) (stands w first (suc last.0)) refl (λ q there. first_over bare_first d last.0 last.1 q r x.over last.2 last.3 last.4 there)

-- all bytes behind the items are those of the tail
rest_tail : (d : Contents) → drop (offset_of d (length (ops_of d))) (document_bytes d) ≡ d.tail
rest_tail d = rest_is (items_of d) d.tail (length (ops_of d)) ∙ ap (λ (l : List Operation). bytes_of l ++ d.tail) (drop_all (ops_of d))

over_first : (w : World) (shows : ℕ → ℕ) (d : Contents) (b : ℕ) (rest : List ℕ) → IsReadSo pickles.First d → Closed d → d.tail ≡ b ∷ rest → reads_on pickles.First (seen_loaded (c_load_file w shows pickles.First (document_bytes d) (length (ops_of d))).now) ≡ false
over_first w shows d b rest r x tail =
    let p : Pickles = pickles.First in
    let k : ℕ = length (ops_of d) in
    let bytes : List ℕ = document_bytes d in
    let s = file_same w shows p d k r.formed r.framing r.small (quiet_listed p d k r.formed r.framing r.small (omega arith) (omega (arith, x.place))) (inl (omega arith)) k (omega arith) in
    let same = one_load w (ignoring p) bytes k in
    let now : seen_loaded (c_load_file w shows p bytes k).now ≡ (load_way (as_in_c w) (ignoring p) bytes k).now = ap seen_loaded s.now ∙ ap (λ (z : Onward). z.now) same in
    elim (cases_Bool (reads_on p (seen_loaded (c_load_file w shows p bytes k).now))) [
      | inl on ↦ elim ((by_items (as_in_c w) (ignoring p) bytes).over k (none_behind d r x)) [
        | inl off ↦ let wrong : true ≡ false = sym on ∙ ap (reads_on p) now ∙ off in absurd cc
        | inr none ↦
            let here : d.tail ≡ [] = sym (rest_tail d) ∙ sym (s.rest on) ∙ ap (λ (z : Onward). z.rest) same ∙ none in
            let wrong : b ∷ rest ≡ [] = sym tail ∙ here in absurd cc
      ]
      | inr off ↦ off
    ]

bytes_first : (w : World) (shows : ℕ → ℕ) (d : Contents) (n : ℕ) (tail : List ℕ) → IsReadSo pickles.First d → Closed d → d.tail ≡ tail → IsBytes w shows pickles.First (document_bytes d) n
bytes_first w shows d n [] r x is = bytes_whole w shows pickles.First d n r x is
bytes_first w shows d n (b ∷ rest) r x is =
    let p : Pickles = pickles.First in
    let k : ℕ = length (ops_of d) in
    let bytes : List ℕ = document_bytes d in
    let quiet = quiet_listed p d k r.formed r.framing r.small (omega arith) (omega (arith, x.place)) in
    elim (cases_lt n k) [
      | inl less ↦ (n, (file_same w shows p d k r.formed r.framing r.small quiet (inl (omega arith)) n (omega (arith, less))).now)
      | inr far ↦
          let stay = stays w shows p bytes k n (over_first w shows d b rest r x is) far in
          (k, ap (λ (y : CLoading). y.now) stay ∙ (file_same w shows p d k r.formed r.framing r.small quiet (inl (omega arith)) k (omega arith)).now)
    ]

bytes_closed : (w : World) (shows : ℕ → ℕ) (p : Pickles) (d : Contents) (n : ℕ) → IsReadSo p d → Closed d → IsBytes w shows p (document_bytes d) n
bytes_closed w shows pickles.First d n r x = bytes_first w shows d n d.tail r x refl
bytes_closed w shows pickles.All d n r x = bytes_whole w shows pickles.All d n r x (no_bytes d.tail (no_tail d r.formed r.mode x.over.stopped))
  where
    no_bytes : (l : List ℕ) → length l ≡ 0 → l ≡ []
    no_bytes [] e = refl
    no_bytes (b ∷ l) e = absurd (omega (arith, e))
bytes_closed w shows pickles.OneMemo d n r x = let wrong : false ≡ true = r.anew in absurd cc

did_closed : (w : World) (shows : ℕ → ℕ) (p : Pickles) (bytes : List ℕ) (d : Contents) → document_bytes d ≡ bytes → IsReadSo p d → is_open (calls_end d).ending ≡ false → (n : ℕ) → DidAs w w shows p bytes frames.Ignored n
did_closed w shows p bytes d whole r closed n =
    let same = subst (λ (l : List ℕ). IsBytes w shows p l n) whole (bytes_closed w shows p d n r (closed_of d closed)) in
    (same.0, ap (λ (l : CLoaded). acts_of (seen_loaded l)) same.1)

-- ---- the whole text

-- the lines, and behind them those of what may be taken
abbrev whole_of : Manner → Pickles → List ℕ → Output → Output
whole_of how p bytes x = with_mixes mixes_for_people how p bytes x

abbrev mixes_of : Manner → Pickles → List ℕ → Output → List ℕ
mixes_of how p bytes x = mixes_behind mixes_for_people how p bytes x.status

-- a line keeps its place, since the lines end with a newline, or nothing stands behind them
abbrev IsApart : Manner → Pickles → List ℕ → Output → Type 0
IsApart how p bytes x = Ended x.text ⊎ (mixes_of how p bytes x ≡ [])

stays_among : (how : Manner) (p : Pickles) (bytes : List ℕ) (x : Output) (line : List ℕ) → IsApart how p bytes x → IsAmong line (cut_lines x.text) → IsAmong line (cut_lines (whole_of how p bytes x).text)
stays_among how p bytes x line (inl ended) here = among_first line x.text (mixes_of how p bytes x) ended here
stays_among how p bytes x line (inr none) here = among_alone line x.text (mixes_of how p bytes x) none here

lines_stay : (how : Manner) (V : ℕ → Value) (p : Pickles) (f : Frames) (bytes : List ℕ) (x : Output) (acts : List Act) → IsApart how p bytes x → HaveLines how V p f bytes x acts → HaveLines how V p f bytes (whole_of how p bytes x) acts
lines_stay how V p f bytes x acts apart have a is =
    let l = have a is in
    (l.0, l.1, l.2, l.3, stays_among how p bytes x (line_gone how.holes l.1 (going (way_of p f) l.1)) apart l.4)

told_whole : (how : Manner) (w : World) (shows : ℕ → ℕ) (p : Pickles) (bytes : List ℕ) (x : Output) → IsApart how p bytes x → Told how w shows p bytes x → Told how w shows p bytes (whole_of how p bytes x)
told_whole how w shows p bytes x apart (V, U, told) = (
  V,
  U,
  λ n. elim (told n) [
    | inl have ↦ inl (lines_stay how V p frames.Ignored bytes x (listed_of (acts_of (seen_loaded (c_load_file w shows p bytes n).now))) apart have)
    | inr have ↦ inr (lines_stay how U p (file_frames p) bytes x (listed_of (acts_of (seen_loaded (c_load_file w shows p bytes n).now))) apart have)
  ],
)

-- where frames may be mixed
tells_mixes : (how : Manner) (w : World) (shows : ℕ → ℕ) (p : Pickles) (bytes : List ℕ) (x : Output) (n : ℕ) → length bytes < 2 ^ 31 → Ended x.text → (x.status == 0) ≡ false → first_mixed how.detail p bytes ≡ Some n → SaysMixed x
    → TellsMixes how w shows p bytes (whole_of how p bytes x)
tells_mixes how w shows p bytes x n small ended some is says =
    ((says.0, stays_among how p bytes x (mixed_line says.0) (inl ended) says.1), by (acting_places (goes_on p) bytes) refl)
  where
    -- a line of what was found is one of the whole
    behind : (z : Option (List Place)) (line : List ℕ) → acting_places (goes_on p) bytes ≡ z → IsAmong line (cut_lines (found_text mixes_for_people how.holes bytes z)) → IsAmong line (cut_lines (whole_of how p bytes x).text)
    behind z line e here =
        let same : mixes_of how p bytes x ≡ found_text mixes_for_people how.holes bytes z = mixes_are how p bytes x.status n some is ∙ ap (found_text mixes_for_people how.holes bytes) e in
        among_behind line x.text (mixes_of how p bytes x) ended (subst (λ (t : List ℕ). IsAmong line (cut_lines t)) (sym same) here)

    by : (z : Option (List Place)) → acting_places (goes_on p) bytes ≡ z
        → SaysTooMany (whole_of how p bytes x) ⊎ ((k : ℕ) → HaveOpcodes how w p bytes (whole_of how p bytes x) (listed_of (acts_of (seen_loaded (c_load_file w shows p bytes k).now))))
    by None e = inl (behind None many_line e (among_many how.holes bytes))
    by (Some found) e = inr (λ k a act.
        let done = each_act_of_a_file_has_its_place w shows p bytes found k e small a act in (
          done.0,
          done.1.0,
          behind (Some found) (taken_line (in_file how.holes done.1.0.offset) done.1.0.item.op) e (among_placed how.holes bytes found done.1.0.offset done.1.0.item.op done.1.1),
        ))

-- ---- the law

abbrev Tells : Manner → World → (ℕ → ℕ) → Pickles → List ℕ → Output → Type 0
Tells how w shows p bytes o = TellsMixes how w shows p bytes o ⊎ Told how w shows p bytes o

of_document : (how : Manner) (w : World) (shows : ℕ → ℕ) (p : Pickles) (bytes : List ℕ) (x : Output) (d : Contents) (b : Bool) → IsCallsText how p bytes x → length bytes < 2 ^ 31 → begins_anew p ≡ true → ReadsAs (are_many p) bytes d
    → x ≡ document_calls how p d → cut_lines x.text ≡ document_lines how p d → is_in_text p frames.Ignored ≡ true → is_in_text p (file_frames p) ≡ true → is_open (calls_end d).ending ≡ b → Tells how w shows p bytes (whole_of how p bytes x)
of_document how w shows p bytes x d false text small anew reads same lines plainly kept closed =
    inr (told_whole how w shows p bytes x (inl (subst (λ (y : Output). Ended y.text) (sym same) (closed_ended how p d closed)))
    (told_by how w w shows p bytes x text (omega (arith, small)) plainly kept (λ n. inl (did_closed w shows p bytes d reads.whole (read_so p bytes d reads (omega (arith, small)) anew) closed n))))
of_document how w shows p bytes x d true text small anew reads same lines plainly kept goes = by (first_mixed how.detail p (document_bytes d)) refl
  where
    of_bytes : (z : Option ℕ) → first_mixed how.detail p (document_bytes d) ≡ z → first_mixed how.detail p bytes ≡ z
    of_bytes z is = ap (first_mixed how.detail p) (sym reads.whole) ∙ is

    by : (z : Option ℕ) → first_mixed how.detail p (document_bytes d) ≡ z → Tells how w shows p bytes (whole_of how p bytes x)
    by (Some n) is =
        inl (tells_mixes how w shows p bytes x n small (subst (λ (y : Output). Ended y.text) (sym same) (open_ended how p d n goes is)) (ap (λ (y : Output). y.status == 0) same ∙ document_status how p d goes) (of_bytes (Some n) is)
        (says_mixed how p d x n lines goes is))
    by None is =
        let none : first_mixed how.detail p bytes ≡ None = of_bytes None is in
        inr (told_whole how w shows p bytes x (inr (no_mixes how p bytes x.status none)) (told_by how w (frames_pass w) shows p bytes x text (omega (arith, small)) plainly kept (did_open how w shows p bytes small none)))

-- of one unpickler that loads again the line stands behind all others, whatever ends them
of_kept : (how : Manner) (w : World) (shows : ℕ → ℕ) (bytes : List ℕ) (x : Output) (z : Option ℕ) → IsCallsText how pickles.OneMemo bytes x → length bytes < 2 ^ 31 → first_mixed how.detail pickles.OneMemo bytes ≡ z
    → Tells how w shows pickles.OneMemo bytes (whole_of how pickles.OneMemo bytes x)
of_kept how w shows bytes x None text small is =
    inr (told_whole how w shows pickles.OneMemo bytes x (inr (no_mixes how pickles.OneMemo bytes x.status is))
    (told_by how w (frames_pass w) shows pickles.OneMemo bytes x text (omega (arith, small)) refl refl (did_open how w shows pickles.OneMemo bytes small is)))
of_kept how w shows bytes x (Some n) text small is =
    let p : Standing = standing_first how.detail pickles.OneMemo bytes in
    let line : List ℕ = mixed_line (in_file how.holes n) in
    let first : List (List ℕ) = kept_first how p ++ kept_last how bytes (tale_of how.holes (ignoring pickles.OneMemo) p) in
    let lossy : List (List ℕ) = kept_parts how bytes (first_loss how.detail bytes) in
    let mixed : List (List ℕ) = mixed_lines how pickles.OneMemo bytes in
    let here : IsAmong line mixed = subst (λ (x : Option ℕ). IsAmong line (if_any (mixed_text how.holes x))) (sym is) (among_any line (mixed_some (in_file how.holes n))) in
    let there : IsAmong line (kept_lines how bytes) = among_right line first (lossy ++ mixed) (among_right line lossy mixed here) in
    let says : SaysMixed x = (in_file how.holes n, subst (IsAmong line) (sym (whole_text_is_its_lines how pickles.OneMemo bytes x text)) there) in
    inl (tells_mixes how w shows pickles.OneMemo bytes x n small (subst (λ (y : Output). Ended y.text) (sym text) (kept_ended how bytes n is)) (ap (λ (y : Output). y.status == 0) text ∙ kept_status_is how bytes n is) is says)

told_so : (how : Manner) (w : World) (shows : ℕ → ℕ) (p : Pickles) (bytes : List ℕ) (x : Output) → IsCallsText how p bytes x → length bytes < 2 ^ 31 → Tells how w shows p bytes (whole_of how p bytes x)
told_so how w shows pickles.First bytes x text small =
    let l = whole_text_is_its_lines how pickles.First bytes x text in
    let one = same_document false false bytes text.0 l.0 (omega (arith, small)) text.1 l.1 in
    of_document how w shows pickles.First bytes x l.0 (is_open (calls_end l.0).ending) text small refl l.1 (text.2 ∙ ap (document_calls how pickles.First) one) l.2 refl refl refl
told_so how w shows pickles.All bytes x text small =
    let l = whole_text_is_its_lines how pickles.All bytes x text in
    let one = same_document true false bytes text.0 l.0 (omega (arith, small)) text.1 l.1 in
    of_document how w shows pickles.All bytes x l.0 (is_open (calls_end l.0).ending) text small refl l.1 (text.2 ∙ ap (document_calls how pickles.All) one) l.2 refl refl refl
told_so how w shows pickles.OneMemo bytes x text small = of_kept how w shows bytes x (first_mixed how.detail pickles.OneMemo bytes) text small refl

pub each_act_of_a_file_is_told : EachActOfAFileIsTold
each_act_of_a_file_is_told how w shows p bytes o (x, text, same) small = subst (λ (y : Output). Tells how w shows p bytes y) (sym same) (told_so how w shows p bytes x text small)
