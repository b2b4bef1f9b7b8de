-- As long as a mix loses nothing, it does what is done where frames are ignored; and as long as it shows no frame, what is done where they are in a
-- buffer. So each act of a load of a file has its line.
use Rattle.std.proofs.Common.{◌≡◌, ℕ, suc, Bool, true, false, List, [], ◌∷◌, drop, Ok, refl, sym, ap, subst, ◌∙◌, arith}
use Rattle.std.specs.Prelude.{All, if◌then◌else◌, Result, Err}
use Rattle.std.proofs.lemmas.List.Elements.{All-head, All-tail}
use Rattle.pickle_ops.specs.declared.fault.FrontFault.{FrontFault}
use Rattle.pickle_lenient.specs.declared.taken.Frames.{Frames}
use Rattle.pickle_lenient.specs.declared.taken.Frames.TheVariants as frames
use Rattle.pickle_lenient.specs.declared.taken.Taken.{Taken}
use Rattle.pickle_lenient.specs.Stream.{taken}
use Rattle.pickle_further.specs.declared.way.Pickles.{Pickles}
use Rattle.pickle_further.specs.declared.way.Pickles.TheVariants as pickles
use Rattle.pickle_further.specs.declared.way.Way.{Way}
use Rattle.pickle_further.specs.Parts.{ignoring, file_frames}
use Rattle.pickle_loader.specs.Environment.{Act, World}
use Rattle.pickle_loader.specs.Dispatch.{acts_of}
use Rattle.pickle_loader.specs.Listed.{listed_of}
use Rattle.pickle_loader.specs.Onward.{reads_on}
use Rattle.pickle_loader.specs.ByFrames.{IsAct}
use Rattle.pickle_loader.specs.CLoad.{CLoaded, CGoing, CEnded, CFailed, seen_loaded, COnward, c_load_more, c_load_read, c_load_on, c_load_way}
use Rattle.pickle_loader.specs.ShownFile.{c_load_file}
use Rattle.pickle_loader.specs.Text.{way_of}
use Rattle.pickle_loader.proofs.Buffers.{plain_item, none_of, buffered_same}
use Rattle.pickle_loader.proofs.ActLines.{each_act_in_c_has_its_line}
use Rattle.reach_laws.specs.Mixed.{c_opened, c_as_shown, c_load_turn, c_load_mixed}
use Rattle.reach_laws.specs.Filed.{file_turn, file_mix, frames_pass, loses, turn_loses, mix_loses, IsReadSo, FilesThatShowAllAreBytes, EachActOfAFileHasItsLine}
use Rattle.reach_laws.proofs.Filed.{files_are_mixes, mix_of, same_acts, turn_is}

-- ---- what is shown stays

pub shown_now : (b : Bool) (x : COnward) → (c_as_shown b x).now ≡ x.now
shown_now true x = refl
shown_now false x = refl

pub shown_rest : (b : Bool) (x : COnward) → (c_as_shown b x).rest ≡ x.rest
shown_rest true x = refl
shown_rest false x = refl

-- an item loads the same, however much of a buffer is left
pub plain_more : (w : World) (p : Pickles) (item : Taken) (l : CLoaded) → c_load_more w p (plain_item item) l ≡ c_load_more w p item l
plain_more w p item (CGoing c) = refl
plain_more w p item (CEnded v c) = refl
plain_more w p item (CFailed acts) = refl

-- ---- what ended

pub off_turn : (w : World) (p : Pickles) (b : Bool) (x : COnward) → reads_on p (seen_loaded x.now) ≡ false → c_load_turn w (file_turn p b) x ≡ x
off_turn w p b x off = ap (λ (c : Bool). if c then c_as_shown b (c_load_read w p x (taken (file_frames p) x.left x.rest)) else x) off

failed_off : (p : Pickles) (l : CLoaded) (acts : List Act) → l ≡ CFailed acts → reads_on p (seen_loaded l) ≡ false
failed_off pickles.First l acts e = ap (λ (k : CLoaded). reads_on pickles.First (seen_loaded k)) e
failed_off pickles.All l acts e = ap (λ (k : CLoaded). reads_on pickles.All (seen_loaded k)) e
failed_off pickles.OneMemo l acts e = ap (λ (k : CLoaded). reads_on pickles.OneMemo (seen_loaded k)) e

pub failed_stays : (w : World) (p : Pickles) (shown : List Bool) (x : COnward) (acts : List Act) → x.now ≡ CFailed acts → (c_load_mixed w (file_mix p shown) x).now ≡ CFailed acts
unfolding c_load_mixed
failed_stays w p [] x acts e = e
failed_stays w p (b ∷ shown) x acts e =
    failed_stays w p shown (c_load_turn w (file_turn p b) x) acts (ap (λ (y : COnward). y.now) (off_turn w p b x (failed_off p x.now acts e)) ∙ e)

-- ---- along a mix

-- it did what the load of the bytes did at some point, frames ignored
abbrev IsSoFar : World → Pickles → List ℕ → COnward → Type 0
IsSoFar w p bytes x = (m : ℕ) × (acts_of (seen_loaded x.now) ≡ acts_of (seen_loaded (c_load_way w (ignoring p) bytes m).now))

pub way_next : (w : World) (p : Pickles) (bytes : List ℕ) (k : ℕ) (item : Taken) → reads_on p (seen_loaded (c_load_way w (ignoring p) bytes k).now) ≡ true → taken frames.Ignored (c_load_way w (ignoring p) bytes k).left (c_load_way w (ignoring p) bytes k).rest ≡ Ok item
    → c_load_way w (ignoring p) bytes (suc k) ≡ c_load_read w p (c_load_way w (ignoring p) bytes k) (Ok item)
unfolding c_load_way
way_next w p bytes k item on takes =
    let y : COnward = c_load_way w (ignoring p) bytes k in
    ap (λ (c : Bool). if c then c_load_read w p y (taken frames.Ignored y.left y.rest) else y) on ∙ ap (c_load_read w p y) takes

abbrev Goes : World → Pickles → List ℕ → List Bool → COnward → Type 0
Goes w p bytes shown x = (k : ℕ) → x.now ≡ (c_load_way w (ignoring p) bytes k).now → x.rest ≡ (c_load_way w (ignoring p) bytes k).rest → mix_loses w (file_mix p shown) x ≡ false → IsSoFar w p bytes (c_load_mixed w (file_mix p shown) x)

-- a turn that reads
read_turn : (w : World) (p : Pickles) (bytes : List ℕ) (b : Bool) (shown : List Bool) (x : COnward) (k : ℕ) (r : Result Taken FrontFault) → taken (file_frames p) x.left x.rest ≡ r → reads_on p (seen_loaded x.now) ≡ true → loses r ≡ false → x.now ≡ (c_load_way w (ignoring p) bytes k).now → x.rest ≡ (c_load_way w (ignoring p) bytes k).rest
    → mix_loses w (file_mix p shown) (c_load_turn w (file_turn p b) x) ≡ false → Goes w p bytes shown (c_load_turn w (file_turn p b) x) → IsSoFar w p bytes (c_load_mixed w (file_mix p shown) (c_load_turn w (file_turn p b) x))
read_turn w p bytes b shown x k (Ok item) takes on kept now rest lost goes =
    let y : COnward = c_load_way w (ignoring p) bytes k in
    let z : COnward = record { now = c_load_more w p item x.now; rest = drop item.size x.rest; left = item.left } in
    let turn : c_load_turn w (file_turn p b) x ≡ c_as_shown b z = turn_is w p b x item on takes in
    let plainly : taken frames.Ignored y.left y.rest ≡ Ok (plain_item item) = ap (taken frames.Ignored y.left) (sym rest) ∙ buffered_same (file_frames p) x.left y.left x.rest item takes kept in
    let next = way_next w p bytes k (plain_item item) (ap (λ (l : CLoaded). reads_on p (seen_loaded l)) (sym now) ∙ on) plainly in
    goes (suc k)
    (ap (λ (v : COnward). v.now) turn ∙ shown_now b z ∙ sym (plain_more w p item x.now) ∙ ap (c_load_more w p (plain_item item)) now ∙ ap (λ (v : COnward). v.now) (sym next))
    (ap (λ (v : COnward). v.rest) turn ∙ shown_rest b z ∙ ap (drop item.size) rest ∙ ap (λ (v : COnward). v.rest) (sym next)) lost
read_turn w p bytes b shown x k (Err f) takes on kept now rest lost goes =
    let acts : List Act = acts_of (seen_loaded x.now) in
    let turn : c_load_turn w (file_turn p b) x ≡ c_as_shown b (record x { now = CFailed acts }) =
    ap (λ (c : Bool). if c then c_as_shown b (c_load_read w p x (taken (file_frames p) x.left x.rest)) else x) on ∙ ap (λ (r : Result Taken FrontFault). c_as_shown b (c_load_read w p x r)) takes in
    let failed = failed_stays w p shown (c_load_turn w (file_turn p b) x) acts (ap (λ (v : COnward). v.now) turn ∙ shown_now b (record x { now = CFailed acts })) in
    (k, ap (λ (l : CLoaded). acts_of (seen_loaded l)) failed ∙ ap (λ (l : CLoaded). acts_of (seen_loaded l)) now)

turn_by : (w : World) (p : Pickles) (bytes : List ℕ) (b : Bool) (shown : List Bool) (x : COnward) (k : ℕ) (c : Bool) → reads_on p (seen_loaded x.now) ≡ c → (if c then loses (taken (file_frames p) x.left x.rest) else false) ≡ false → x.now ≡ (c_load_way w (ignoring p) bytes k).now → x.rest ≡ (c_load_way w (ignoring p) bytes k).rest
    → mix_loses w (file_mix p shown) (c_load_turn w (file_turn p b) x) ≡ false → Goes w p bytes shown (c_load_turn w (file_turn p b) x) → IsSoFar w p bytes (c_load_mixed w (file_mix p shown) (c_load_turn w (file_turn p b) x))
turn_by w p bytes b shown x k true on kept now rest lost goes = read_turn w p bytes b shown x k (taken (file_frames p) x.left x.rest) refl on kept now rest lost goes
turn_by w p bytes b shown x k false off kept now rest lost goes =
    let same : c_load_turn w (file_turn p b) x ≡ x = off_turn w p b x off in
    goes k (ap (λ (v : COnward). v.now) same ∙ now) (ap (λ (v : COnward). v.rest) same ∙ rest) lost

so_far : (w : World) (p : Pickles) (bytes : List ℕ) (shown : List Bool) (x : COnward) → Goes w p bytes shown x
unfolding c_load_mixed mix_loses
so_far w p bytes [] x k now rest lost = (k, ap (λ (l : CLoaded). acts_of (seen_loaded l)) now)
so_far w p bytes (b ∷ shown) x k now rest lost =
    let both = none_of (turn_loses (file_turn p b) x) (mix_loses w (file_mix p shown) (c_load_turn w (file_turn p b) x)) lost in
    turn_by w p bytes b shown x k (reads_on p (seen_loaded x.now)) refl both.0 now rest both.1 (so_far w p bytes shown (c_load_turn w (file_turn p b) x))

-- ---- where no frame is shown

abbrev pub reading : Pickles → Way
reading p = record { pickles = p; frames = file_frames p }

shown_none : (w : World) (p : Pickles) (bytes : List ℕ) (shown : List Bool) (x : COnward) (k : ℕ) → x ≡ c_load_way w (reading p) bytes k → All (λ (b : Bool). b ≡ false) shown
    → (m : ℕ) × (c_load_mixed w (file_mix p shown) x ≡ c_load_way w (reading p) bytes m)
unfolding c_load_mixed c_load_way
shown_none w p bytes [] x k e none = (k, e)
shown_none w p bytes (b ∷ shown) x k e none =
    let first : b ≡ false = All-head (λ (c : Bool). c ≡ false) b shown none in
    let next : c_load_turn w (file_turn p b) x ≡ c_load_on w (reading p) (c_load_way w (reading p) bytes k) =
    ap (λ (c : Bool). c_load_turn w (file_turn p c) x) first ∙ ap (c_load_on w (reading p)) e in
    shown_none w p bytes shown (c_load_turn w (file_turn p b) x) (suc k) next (All-tail (λ (c : Bool). c ≡ false) b shown none)

-- ---- the laws

-- it did what a reading did at some point
abbrev pub DidSo : World → Pickles → List ℕ → Frames → COnward → Type 0
DidSo w p bytes f x = (m : ℕ) × (acts_of (seen_loaded x.now) ≡ acts_of (seen_loaded (c_load_way w (way_of p f) bytes m).now))

from_first : (w : World) (p : Pickles) (bytes : List ℕ) (shown : List Bool) → mix_loses w (file_mix p shown) (c_opened bytes) ≡ false → IsSoFar w p bytes (c_load_mixed w (file_mix p shown) (c_opened bytes))
unfolding c_load_way
from_first w p bytes shown lost = so_far w p bytes shown (c_opened bytes) 0 refl refl lost

none_shown : (w : World) (p : Pickles) (bytes : List ℕ) (shown : List Bool) (f : Frames) → f ≡ file_frames p → All (λ (b : Bool). b ≡ false) shown → DidSo w p bytes f (c_load_mixed w (file_mix p shown) (c_opened bytes))
unfolding c_load_way
none_shown w p bytes shown f is none =
    let m = shown_none w p bytes shown (c_opened bytes) 0 refl none in
    subst (λ (g : Frames). DidSo w p bytes g (c_load_mixed w (file_mix p shown) (c_opened bytes))) (sym is) (m.0, ap (λ (x : COnward). acts_of (seen_loaded x.now)) m.1)

did_so : (w : World) (p : Pickles) (bytes : List ℕ) (shown : List Bool) (f : Frames) → IsReadSo w p bytes shown f → DidSo (frames_pass w) p bytes f (c_load_mixed (frames_pass w) (file_mix p shown) (c_opened bytes))
did_so w p bytes shown frames.Ignored so = from_first (frames_pass w) p bytes shown so
did_so w p bytes shown frames.Buffered so = none_shown (frames_pass w) p bytes shown frames.Buffered so.0 so.1
did_so w p bytes shown frames.Held so = none_shown (frames_pass w) p bytes shown frames.Held so.0 so.1

pub each_act_of_a_file_has_its_line : EachActOfAFileHasItsLine
each_act_of_a_file_has_its_line how w shows p f bytes o text small in_text =
    let all = each_act_in_c_has_its_line how (frames_pass w) p f bytes o text (omega (arith, small)) in_text in (
      all.0,
      λ n.
          let mix = files_are_mixes w shows p bytes n small in (
            mix.0,
            mix.1,
            λ so a is.
                let y : COnward = c_load_mixed (frames_pass w) (file_mix p mix.0) (c_opened bytes) in
                let did = did_so w p bytes mix.0 f so in
                all.2 did.0 a (subst (λ (acts : List Act). IsAct a (listed_of acts)) (same_acts (c_load_file w shows p bytes n).now y.now mix.1 ∙ did.1) is),
          ),
    )

pub files_that_show_all_are_bytes : FilesThatShowAllAreBytes
files_that_show_all_are_bytes w shows p bytes n small big =
    let mix = mix_of w shows p bytes n small in
    let y : COnward = c_load_mixed (frames_pass w) (file_mix p mix.0) (c_opened bytes) in
    let did = from_first (frames_pass w) p bytes mix.0 (mix.2 big) in
    (did.0, same_acts (c_load_file w shows p bytes n).now y.now mix.1 ∙ did.1)
