-- Where the status of the gate's text is 0.
use Rattle.std.proofs.Common.{◌≡◌, ◌⊎◌, ℕ, ◌≤◌, arith, Bool, true, false, List, length, length-drop, Ok, Err, inl, inr, refl, sym, ap, subst, ◌∙◌}
use Rattle.std.specs.Prelude.{Result, Option, Some, None, if◌then◌else◌}
use Rattle.pickle_doc.specs.Document.{AreBytes, size_limit}
use Rattle.pickle_text.specs.Output.{Output}
use Rattle.pickle_allow.specs.declared.list.Entry.{Entry as Allowed}
use Rattle.pickle_allow.specs.declared.listing.Listing.{Listing}
use Rattle.pickle_allow.specs.declared.listing.Listing.TheVariants as listing
use Rattle.pickle_gate.specs.Gate.{Passes}
use Rattle.pickle_script.proofs.GateLaws.{zero_where_passing}
use Rattle.zip_archive.specs.Entry.{Entry}
use Rattle.zip_archive.specs.Archive.{IsZip, are_distinct, any_case}
use Rattle.zip_archive.proofs.Whole.{one_zip}
use Rattle.zip_open.specs.Opened.{unpacked_total}
use Rattle.packed_stream.specs.declared.reason.Packing.{Packing}
use Rattle.packed_stream.specs.declared.reason.Refusal.{Refusal as PackedRefusal}
use Rattle.packed_stream.specs.declared.reason.Packing.TheVariants as packing
use Rattle.packed_stream.specs.Header.{packing_of, may_be_zlib}
use Rattle.packed_stream.specs.Packed.{IsPacked, opened}
use Rattle.packed_stream.proofs.Contents.{begins_as, one_content, opens_so}
use Rattle.npy_form.specs.declared.reason.Refusal.{Refusal as ArrayRefusal}
use Rattle.npy_form.specs.declared.array.Held.{Held}
use Rattle.npy_form.specs.declared.array.Held.TheVariants as held
use Rattle.npy_form.specs.Npy.{begins_as_array, header_size, behind_header, read_array}
use Rattle.tar_archive.specs.declared.reason.Refusal.{Refusal as TarRefusal}
use Rattle.tar_archive.specs.declared.member.Member.{Member}
use Rattle.tar_archive.specs.Tar.{read_tar}
use Rattle.tar_archive.specs.Names.{are_clear}
use Rattle.tar_archive.specs.Begins.{begins_as_tar}
use Rattle.archive_gate.specs.declared.kind.Kind.{Kind}
use Rattle.archive_gate.specs.declared.kind.Kind.TheVariants as kind
use Rattle.archive_gate.specs.Kind.{begins_as_archive, kind_by, kind_of}
use Rattle.archive_gate.specs.Members.{PassesArchive}
use Rattle.archive_gate.specs.Itself.{is_no_other, MayGive}
use Rattle.archive_gate.specs.Tar.{PassesAsTar, HasTarWays}
use Rattle.archive_gate.specs.File.{HeldPasses, PassesAsArray, PassesInside, PassesAsPacked, PassesAs, HasWaysInZip, HasWaysInside, HasTooManyWays}
use Rattle.archive_gate.proofs.Tars.{one_reading, none_fails_in_tar, itself_ways}
use Rattle.archive_gate.proofs.Nothing.{nothing_in_archives, nothing_in_packed, nothing_in_arrays}
use Rattle.archive_gate.proofs.Deciding.{none_fails, dropped_bytes, not_both, not_numbers}
use Rattle.archive_script.specs.TarText.{IsTarVerdict, IsLookedInText, IsTarBy, IsTarText}
use Rattle.archive_script.specs.SingleText.{IsBehindText, IsHeldText, IsArrayText, IsSingleText, IsPackedText}
use Rattle.archive_script.specs.GateText.{IsMembersVerdict, IsLookedAtText, IsArchiveText, IsTextAs, IsListedText, ZeroWhereFilePasses, PassesListed, ZeroMeansPassing}

no_zero : (o : Output) (text : List ℕ) (n : ℕ) → o ≡ record { text = text; status = n } → o.status ≡ 0 → n ≡ 0
no_zero o text n is zero = sym (ap (λ (x : Output). x.status) is) ∙ zero

-- ---- of an archive

members_pass : (list : List Allowed) (bytes : List ℕ) (es : List Entry) (o : Output) → IsZip bytes es → IsLookedAtText list es o → o.status ≡ 0 → PassesArchive list bytes
members_pass list bytes es o z t zero = go t.verdict
  where
    go : IsMembersVerdict list es o → PassesArchive list bytes
    go (inl passes) = record { entries = es; archive = z; apart = t.apart; within = t.within; members = passes.0 }
    go (inr failing) = let bad : 1 ≡ 0 = no_zero o _ 1 failing.text zero in absurd cc

archive_passes : (list : List Allowed) (bytes : List ℕ) (o : Output) → IsArchiveText list bytes o → o.status ≡ 0 → PassesArchive list bytes
archive_passes list bytes o (inl none) zero = let bad : 1 ≡ 0 = no_zero o _ 1 none.text zero in absurd cc
archive_passes list bytes o (inr (es, z, inl names)) zero = let bad : 1 ≡ 0 = no_zero o _ 1 names.1 zero in absurd cc
archive_passes list bytes o (inr (es, z, inr (inl large))) zero = let bad : 1 ≡ 0 = no_zero o _ 1 large.text zero in absurd cc
archive_passes list bytes o (inr (es, z, inr (inr t))) zero = members_pass list bytes es o z t zero

members_zero : (list : List Allowed) (bytes : List ℕ) (es : List Entry) (o : Output) → length bytes ≤ size_limit → IsZip bytes es → IsMembersVerdict list es o → PassesArchive list bytes
    → (o.status ≡ 0) ⊎ HasWaysInZip bytes
members_zero list bytes es o few z (inl passes) p = inl (ap (λ (x : Output). x.status) passes.1)
members_zero list bytes es o few z (inr failing) p = inr (none_fails list bytes es failing.failing few p z failing.is)

archive_zero : (list : List Allowed) (bytes : List ℕ) (o : Output) → length bytes ≤ size_limit → IsArchiveText list bytes o → PassesArchive list bytes
    → (o.status ≡ 0) ⊎ HasWaysInZip bytes
archive_zero list bytes o few (inl none) p = absurd (none.none p.entries p.archive)
archive_zero list bytes o few (inr (es, z, inl names)) p =
    let apart : are_distinct any_case es ≡ true = subst (λ (l : List Entry). are_distinct any_case l ≡ true) (one_zip bytes p.entries es p.archive z) p.apart in
    let bad : false ≡ true = sym names.0 ∙ apart in
    absurd cc
archive_zero list bytes o few (inr (es, z, inr (inl large))) p =
    let within : unpacked_total es ≤ size_limit = subst (λ (l : List Entry). unpacked_total l ≤ size_limit) (one_zip bytes p.entries es p.archive z) p.within in
    absurd (omega (arith, within, large.large))
archive_zero list bytes o few (inr (es, z, inr (inr t))) p = members_zero list bytes es o few z t.verdict p

-- ---- of an array

-- the verdict on what is behind a header
behind_zero : (list : List Allowed) (bytes : List ℕ) (o : Output) → AreBytes bytes → length bytes ≤ size_limit → IsBehindText list bytes o
    → (o.status ≡ 0 → Passes list bytes) × (Passes list bytes → o.status ≡ 0)
behind_zero list bytes o small few t =
    let law = zero_where_passing list bytes t.0 small few t.1 in
    let same : o.status ≡ t.0.status = ap (λ (x : Output). x.status) t.2 in
    ((λ zero. law.0 (sym same ∙ zero)), (λ p. same ∙ law.1 p))

held_zero : (list : List Allowed) (bytes : List ℕ) (r : Result Held ArrayRefusal) (o : Output) → read_array bytes ≡ r → AreBytes bytes → length bytes ≤ size_limit → IsHeldText list bytes r o
    → (o.status ≡ 0 → HeldPasses list bytes) × (HeldPasses list bytes → o.status ≡ 0)
held_zero list bytes (Ok held.Numbers) o is small few t = ((λ zero. inl is), (λ p. ap (λ (x : Output). x.status) t))
held_zero list bytes (Ok held.Pickle) o is small few t =
    let less : length (behind_header bytes) ≤ size_limit = omega (arith, few, length-drop (header_size bytes) bytes) in
    let law = behind_zero list (behind_header bytes) o (dropped_bytes (header_size bytes) bytes small) less t in
    ((λ zero. inr (is, law.0 zero)), go law.1)
  where
    go : (Passes list (behind_header bytes) → o.status ≡ 0) → HeldPasses list bytes → o.status ≡ 0
    go f (inl numbers) = absurd (not_numbers numbers is)
    go f (inr pickle) = f pickle.1
held_zero list bytes (Err r) o is small few t = ((λ zero. let bad : 1 ≡ 0 = no_zero o _ 1 t zero in absurd cc), go)
  where
    go : HeldPasses list bytes → o.status ≡ 0
    go (inl numbers) = absurd (not_both numbers is)
    go (inr pickle) = absurd (not_both pickle.0 is)

array_zero : (list : List Allowed) (bytes : List ℕ) (o : Output) → begins_as_array bytes ≡ true → AreBytes bytes → length bytes ≤ size_limit → IsArrayText list bytes o
    → (o.status ≡ 0 → PassesAsArray list bytes) × (PassesAsArray list bytes → o.status ≡ 0)
array_zero list bytes o is small few t =
    let law = held_zero list bytes (read_array bytes) o refl small few t in
    ((λ zero. record { held = law.0 zero; nothing = nothing_in_arrays bytes is }), (λ p. law.1 p.held))

-- ---- of a tar archive

not_read : (bytes : List ℕ) (ms : List Member) (e : TarRefusal) → read_tar bytes ≡ Ok ms → read_tar bytes ≡ Err e → ⊥
not_read bytes ms e is other = let bad : ◌≡◌ {A = Result (List Member) TarRefusal} (Ok ms) (Err e) = sym is ∙ other in absurd cc

held_passes : (list : List Allowed) (bytes : List ℕ) (ms : List Member) (o : Output) → read_tar bytes ≡ Ok ms → IsLookedInText list bytes ms o → o.status ≡ 0 → PassesAsTar list bytes
held_passes list bytes ms o is t zero = go t.verdict
  where
    go : IsTarVerdict list bytes ms o → PassesAsTar list bytes
    go (inl passes) = record { members = ms; archive = is; clear = t.clear; held = passes.0; other = t.other; nothing = t.nothing }
    go (inr failing) = let bad : 1 ≡ 0 = no_zero o _ 1 failing.said.text_is zero in absurd cc

verdict_zero : (list : List Allowed) (bytes : List ℕ) (ms : List Member) (o : Output) → read_tar bytes ≡ Ok ms → length bytes ≤ size_limit → IsTarVerdict list bytes ms o → PassesAsTar list bytes
    → (o.status ≡ 0) ⊎ HasTarWays bytes
verdict_zero list bytes ms o is few (inl passes) p = inl (ap (λ (x : Output). x.status) passes.1)
verdict_zero list bytes ms o is few (inr failing) p = inr (inl (none_fails_in_tar list bytes ms failing.failing few p is failing.is))

kinds_ways : (list : List Allowed) (bytes : List ℕ) → PassesAsTar list bytes → (is_no_other bytes ≡ false) ⊎ MayGive bytes → HasTarWays bytes
kinds_ways list bytes p (inl other) = let bad : false ≡ true = sym other ∙ p.other in absurd cc
kinds_ways list bytes p (inr may) = inr (itself_ways bytes p.nothing may)

tar_by : (list : List Allowed) (bytes : List ℕ) (r : Result (List Member) TarRefusal) (o : Output) → read_tar bytes ≡ r → length bytes ≤ size_limit → IsTarBy list bytes r o
    → (o.status ≡ 0 → PassesAsTar list bytes) × (PassesAsTar list bytes → (o.status ≡ 0) ⊎ HasTarWays bytes)
tar_by list bytes (Err e) o is few t = ((λ zero. let bad : 1 ≡ 0 = no_zero o _ 1 t zero in absurd cc), (λ p. absurd (not_read bytes p.members e p.archive is)))
tar_by list bytes (Ok ms) o is few (inl unclear) = ((λ zero. let bad : 1 ≡ 0 = no_zero o _ 1 unclear.1 zero in absurd cc), (λ p. absurd (both p)))
  where
    both : PassesAsTar list bytes → ⊥
    both p =
        let clear : are_clear bytes ms ≡ true = subst (λ (l : List Member). are_clear bytes l ≡ true) (one_reading p.members ms (read_tar bytes) p.archive is) p.clear in
        let bad : false ≡ true = sym unclear.0 ∙ clear in
        absurd cc
tar_by list bytes (Ok ms) o is few (inr (inl t)) = ((λ zero. let bad : 1 ≡ 0 = no_zero o _ 1 t.said zero in absurd cc), (λ p. inr (kinds_ways list bytes p t.kinds)))
tar_by list bytes (Ok ms) o is few (inr (inr t)) = ((λ zero. held_passes list bytes ms o is t zero), (λ p. verdict_zero list bytes ms o is few t.verdict p))

tar_zero : (list : List Allowed) (bytes : List ℕ) (o : Output) → length bytes ≤ size_limit → IsTarText list bytes o
    → (o.status ≡ 0 → PassesAsTar list bytes) × (PassesAsTar list bytes → (o.status ≡ 0) ⊎ HasTarWays bytes)
tar_zero list bytes o few t = tar_by list bytes (read_tar bytes) o refl few t

-- ---- of a packed file

-- what bytes begin as
is_array : (bytes : List ℕ) → kind_of bytes ≡ kind.Array → begins_as_array bytes ≡ true
is_array bytes is = go (begins_as_tar bytes) (begins_as_archive bytes) (packing_of bytes) is
  where
    last : (b c : Bool) → (if b then kind.Array else (if c then kind.Packed packing.Zlib else kind.Pickle)) ≡ kind.Array → b ≡ true
    last true c h = refl
    last false true h = absurd cc
    last false false h = absurd cc

    go : (t a : Bool) (o : Option Packing) → (if t then kind.Tar else (if a then kind.Archive else kind_by bytes o)) ≡ kind.Array → begins_as_array bytes ≡ true
    go true a o h = absurd cc
    go false true o h = absurd cc
    go false false (Some p) h = absurd cc
    go false false None h = last (begins_as_array bytes) (may_be_zlib bytes) h

is_archive : (bytes : List ℕ) → kind_of bytes ≡ kind.Archive → begins_as_archive bytes ≡ true
is_archive bytes is = go (begins_as_tar bytes) (begins_as_archive bytes) (packing_of bytes) is
  where
    last : (b c : Bool) → (if b then kind.Array else (if c then kind.Packed packing.Zlib else kind.Pickle)) ≡ kind.Archive → ⊥
    last true c h = absurd cc
    last false true h = absurd cc
    last false false h = absurd cc

    go : (t a : Bool) (o : Option Packing) → (if t then kind.Tar else (if a then kind.Archive else kind_by bytes o)) ≡ kind.Archive → a ≡ true
    go true a o h = absurd cc
    go false true o h = refl
    go false false (Some p) h = absurd cc
    go false false None h = absurd (last (begins_as_array bytes) (may_be_zlib bytes) h)

inside_zero : (list : List Allowed) (bytes : List ℕ) (k : Kind) (o : Output) → kind_of bytes ≡ k → AreBytes bytes → length bytes ≤ size_limit → IsSingleText list bytes k o
    → (o.status ≡ 0 → PassesInside list bytes k) × (PassesInside list bytes k → (o.status ≡ 0) ⊎ HasTarWays bytes)
inside_zero list bytes kind.Tar o is small few t = tar_zero list bytes o few t
inside_zero list bytes kind.Archive o is small few t = ((λ zero. let bad : 1 ≡ 0 = no_zero o _ 1 t zero in absurd cc), (λ p. absurd p))
inside_zero list bytes (kind.Packed q) o is small few t = ((λ zero. let bad : 1 ≡ 0 = no_zero o _ 1 t zero in absurd cc), (λ p. absurd p))
inside_zero list bytes kind.Array o is small few t = let law = array_zero list bytes o (is_array bytes is) small few t in (law.0, (λ p. inl (law.1 p)))
inside_zero list bytes kind.Pickle o is small few t = let law = zero_where_passing list bytes o small few t in (law.0, (λ p. inl (law.1 p)))

ways_inside : (bytes content : List ℕ) (p : Packing) (o said : Output) → IsPacked p bytes content → o.status ≡ said.status → (said.status ≡ 0) ⊎ HasTarWays content
    → (o.status ≡ 0) ⊎ HasWaysInside bytes
ways_inside bytes content p o said opens same (inl zero) = inl (same ∙ zero)
ways_inside bytes content p o said opens same (inr ways) = inr (record { packing = p; content = content; opens = opens; ways = ways })

packed_zero : (list : List Allowed) (bytes : List ℕ) (p : Packing) (o : Output) → IsPackedText list bytes p o
    → (o.status ≡ 0 → PassesAsPacked list bytes p) × (PassesAsPacked list bytes p → (o.status ≡ 0) ⊎ HasWaysInside bytes)
packed_zero list bytes p o (inl none) = ((λ zero. let bad : 1 ≡ 0 = no_zero o _ 1 none.2 zero in absurd cc), (λ q. absurd (not_opened q)))
  where
    not_opened : PassesAsPacked list bytes p → ⊥
    not_opened q =
        let opens : opened size_limit p bytes ≡ Ok q.content = opens_so size_limit p bytes q.content q.opens q.few in
        let bad : ◌≡◌ {A = Result (List ℕ) PackedRefusal} (Err none.0) (Ok q.content) = sym none.1 ∙ opens in
        absurd cc
packed_zero list bytes p o (inr t) =
    let law = inside_zero list t.content (kind_of t.content) t.said refl t.small t.few t.inside in
    let same : o.status ≡ t.said.status = ap (λ (x : Output). x.status) t.text in (
      (λ zero. record { content = t.content; opens = t.opens; few = t.few; inside = law.0 (sym same ∙ zero); nothing = nothing_in_packed bytes p (begins_as p bytes t.opens.start t.opens.header) }),
      (λ q. ways_inside bytes t.content p o t.said t.opens same
          (law.1 (subst (λ (c : List ℕ). PassesInside list c (kind_of c)) (one_content p p bytes t.content q.content t.opens q.opens).1 q.inside))),
    )

-- ---- of a file

in_zip : (bytes : List ℕ) (o : Output) → (o.status ≡ 0) ⊎ HasWaysInZip bytes → (o.status ≡ 0) ⊎ HasTooManyWays bytes
in_zip bytes o (inl zero) = inl zero
in_zip bytes o (inr ways) = inr (inl ways)

in_tar : (bytes : List ℕ) (o : Output) → (o.status ≡ 0) ⊎ HasTarWays bytes → (o.status ≡ 0) ⊎ HasTooManyWays bytes
in_tar bytes o (inl zero) = inl zero
in_tar bytes o (inr ways) = inr (inr (inl ways))

in_packed : (bytes : List ℕ) (o : Output) → (o.status ≡ 0) ⊎ HasWaysInside bytes → (o.status ≡ 0) ⊎ HasTooManyWays bytes
in_packed bytes o (inl zero) = inl zero
in_packed bytes o (inr ways) = inr (inr (inr ways))

by_kind : (list : List Allowed) (bytes : List ℕ) (o : Output) (k : Kind) → kind_of bytes ≡ k → AreBytes bytes → length bytes ≤ size_limit → IsTextAs list bytes k o
    → (o.status ≡ 0 → PassesAs list bytes k) × (PassesAs list bytes k → (o.status ≡ 0) ⊎ HasTooManyWays bytes)
by_kind list bytes o kind.Tar is small few t = let law = tar_zero list bytes o few t in (law.0, (λ p. in_tar bytes o (law.1 p)))
by_kind list bytes o kind.Archive is small few t = (
  (λ zero. record { members = archive_passes list bytes o t zero; nothing = nothing_in_archives bytes (is_archive bytes is) }),
  (λ p. in_zip bytes o (archive_zero list bytes o few t p.members)),
)
by_kind list bytes o (kind.Packed p) is small few t = let law = packed_zero list bytes p o t in (law.0, (λ q. in_packed bytes o (law.1 q)))
by_kind list bytes o kind.Array is small few t = let law = array_zero list bytes o (is_array bytes is) small few t in (law.0, (λ q. inl (law.1 q)))
by_kind list bytes o kind.Pickle is small few t = let law = zero_where_passing list bytes o small few t in (law.0, (λ q. inl (law.1 q)))

pub zero_where_file_passes : ZeroWhereFilePasses
zero_where_file_passes list bytes o small few t =
    let law = by_kind list bytes o (kind_of bytes) refl small few t in
    record { passes = law.0; is_zero = law.1 }

listed_passes : (l : Listing) (bytes : List ℕ) (o : Output) → AreBytes bytes → length bytes ≤ size_limit → IsListedText l bytes o → o.status ≡ 0 → PassesListed l bytes
listed_passes (listing.Entries list) bytes o small few t zero = (zero_where_file_passes list.items bytes o small few t).passes zero
listed_passes (listing.Wrong n) bytes o small few t zero = let bad : 2 ≡ 0 = no_zero o _ 2 t zero in absurd cc

pub zero_means_passing : ZeroMeansPassing
zero_means_passing list bytes o small few t zero = (t.0, t.1, listed_passes t.0 bytes o small few t.2 zero)
