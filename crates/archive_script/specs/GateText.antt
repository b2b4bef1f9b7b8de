-- The text of whether a file passes a list: a pickle, an array, a packed file, or an archive of members that pass; and what is answered where it was to be written.
-- Source: own.
use Rattle.std.specs.Prelude.{◌≡◌, ◌⊎◌, ◌≤◌, ◌<◌, ◌↔◌, ℕ, true, false, List, length, codes, decimal, Result, Err, IfOk, IfErr, ⊤}
use Rattle.pickle_io.specs.Text.{◌⧺◌}
use Rattle.pickle_io.specs.Device.{Told}
use Rattle.pickle_doc.specs.Document.{Contents, ReadsAs, AreBytes, size_limit}
use Rattle.pickle_text.specs.Column.{newline}
use Rattle.pickle_text.specs.Output.{Output}
use Rattle.pickle_allow.specs.declared.list.Entry.{Entry as Allowed}
use Rattle.pickle_allow.specs.declared.listing.Listing.{Listing}
use Rattle.pickle_allow.specs.declared.listing.Listing.TheVariants as listing
use Rattle.pickle_allow.specs.Grammar.{IsListing}
use Rattle.pickle_script.specs.GateText.{line_for, IsVerdictText, WroteText, StopsGate}
use Rattle.pickle_script.specs.declared.stop.Stop.{Stop}
use Rattle.pickle_script.specs.declared.stop.Stop.TheVariants as stop
use Rattle.zip_archive.specs.Entry.{Entry}
use Rattle.zip_archive.specs.Archive.{IsZip, are_distinct, any_case}
use Rattle.zip_archive.specs.Reader.{member_of}
use Rattle.archive_gate.specs.declared.fault.Fault.{Fault}
use Rattle.archive_gate.specs.declared.fault.Fault.TheVariants as fault
use Rattle.archive_gate.specs.declared.fault.Failing.{Failing}
use Rattle.zip_open.specs.Opened.{OpensTo, unpacked_total}
use Rattle.npy_form.specs.Npy.{behind_header}
use Rattle.archive_gate.specs.declared.fault.ArrayFault.TheVariants as array_fault
use Rattle.archive_gate.specs.declared.kind.Kind.{Kind}
use Rattle.archive_gate.specs.declared.kind.Kind.TheVariants as kind
use Rattle.archive_gate.specs.Kind.{kind_of}
use Rattle.archive_gate.specs.Members.{AllPass, IsFailing}
use Rattle.archive_gate.specs.File.{PassesFile, HasTooManyWays}
use Rattle.archive_script.specs.MembersText.{refusal_output, IsUnlisted}
use Rattle.archive_script.specs.FaultText.{named, passing_output, fault_text, fault_output}
use Rattle.archive_script.specs.TarText.{IsTarText}
use Rattle.archive_script.specs.SingleText.{too_large_line, single_output, inside_output, no_packed_output, IsArrayText, IsPackedText}
use Rattle.archive_script.specs.declared.judged.Judged.{Judged}
use Rattle.archive_script.specs.declared.judged.Judged.TheVariants as judged

-- ---- what is said of a file

unfoldable pub same_names_words : List ℕ
same_names_words = codes "two names that differ in case alone: it is not looked at\n"

abbrev pub judged_output : Judged → Output
judged_output (judged.Single s) = single_output s
judged_output (judged.Packed p s) = inside_output p (single_output s)
judged_output (judged.NoPacked r) = no_packed_output r
judged_output judged.Archive = passing_output
judged_output (judged.NoArchive r) = refusal_output r
judged_output judged.SameNames = record { text = same_names_words; status = 1 }
judged_output judged.TooLarge = record { text = too_large_line; status = 1 }
judged_output (judged.Member name f line) = record { text = named name.now (fault_text line.items f); status = 1 }

-- ---- an archive

-- this is the line of `calls` for the item of a member that is not allowed
abbrev pub IsLineIn : Entry → Fault → List ℕ → Type 0
IsLineIn e (fault.Broken b) line = ⊤
IsLineIn e fault.Archive line = ⊤
IsLineIn e (fault.Refused v) line = (bytes : List ℕ) → OpensTo (member_of e) bytes → (d : Contents) → ReadsAs false bytes d → line ≡ line_for d v
IsLineIn e (fault.Array (array_fault.Form r)) line = ⊤
IsLineIn e (fault.Array (array_fault.Refused v)) line = (bytes : List ℕ) → OpensTo (member_of e) bytes → (d : Contents) → ReadsAs false (behind_header bytes) d → line ≡ line_for d v

-- of the first member that does not pass
pub record IsFailingText (list : List Allowed) (es : List Entry) (o : Output) : Type 0 where
  pub failing : Failing
  pub is : IsFailing list es failing
  pub line : List ℕ
  pub line_is : IsLineIn is.entry failing.fault line
  pub text : o ≡ fault_output is.entry.name line failing.fault

-- each member passes, or one does not
abbrev pub IsMembersVerdict : List Allowed → List Entry → Output → Type 0
IsMembersVerdict list es o = (AllPass list es × (o ≡ passing_output)) ⊎ IsFailingText list es o

abbrev pub same_names_output : Output
same_names_output = record { text = same_names_words; status = 1 }

abbrev pub too_large_output : Output
too_large_output = record { text = too_large_line; status = 1 }

-- a reader that does not tell the case of letters finds each, and what they unpack to is looked at
pub record IsLookedAtText (list : List Allowed) (es : List Entry) (o : Output) : Type 0 where
  pub apart : are_distinct any_case es ≡ true
  pub within : unpacked_total es ≤ size_limit
  pub verdict : IsMembersVerdict list es o

-- or they are not looked at: first for their names, then for what they unpack to
pub record IsTooLargeText (es : List Entry) (o : Output) : Type 0 where
  pub apart : are_distinct any_case es ≡ true
  pub large : size_limit < unpacked_total es
  pub text : o ≡ too_large_output

abbrev pub IsEntriesText : List Allowed → List Entry → Output → Type 0
IsEntriesText list es o = ((are_distinct any_case es ≡ false) × (o ≡ same_names_output)) ⊎ (IsTooLargeText es o ⊎ IsLookedAtText list es o)

-- of the members of the archive; or, where the bytes are none, of the first rule that they break
abbrev pub IsArchiveText : List Allowed → List ℕ → Output → Type 0
IsArchiveText list bytes o = IsUnlisted bytes o ⊎ ((es : List Entry) × IsZip bytes es × IsEntriesText list es o)

-- ---- a file

-- by what it begins as
abbrev pub IsTextAs : List Allowed → List ℕ → Kind → Output → Type 0
IsTextAs list bytes kind.Tar o = IsTarText list bytes o
IsTextAs list bytes kind.Archive o = IsArchiveText list bytes o
IsTextAs list bytes (kind.Packed p) o = IsPackedText list bytes p o
IsTextAs list bytes kind.Array o = IsArrayText list bytes o
IsTextAs list bytes kind.Pickle o = IsVerdictText list bytes o

abbrev pub IsFileText : List Allowed → List ℕ → Output → Type 0
IsFileText list bytes o = IsTextAs list bytes (kind_of bytes) o

-- with the name of the file in front
abbrev pub named_output : List ℕ → Output → Output
named_output name o = record { text = named name o.text; status = o.status }

abbrev pub IsNamedText : List ℕ → List Allowed → List ℕ → Output → Type 0
IsNamedText name list bytes o = (said : Output) × IsFileText list bytes said × (o ≡ named_output name said)

-- ---- a list

unfoldable pub no_list_words : List ℕ
no_list_words = codes "not a list: line "

unfoldable pub no_entry_words : List ℕ
no_entry_words = codes " is no entry"

-- the first line of a list that is no entry
unfoldable pub no_list_line : ℕ → List ℕ
no_list_line n = no_list_words ⧺ decimal n ⧺ no_entry_words ⧺ newline

-- it is none: nothing is said of a file, and the status is that of no answer
abbrev pub no_list_output : ℕ → Output
no_list_output n = record { text = no_list_line n; status = 2 }

abbrev pub IsNoList : ℕ → Output → Type 0
IsNoList n o = o ≡ no_list_output n

-- by what a list is read as
abbrev pub IsListedText : Listing → List ℕ → Output → Type 0
IsListedText (listing.Entries list) bytes o = IsFileText list.items bytes o
IsListedText (listing.Wrong n) bytes o = IsNoList n o

-- of a list as it is written, and the bytes of a file
abbrev pub IsGateText : List ℕ → List ℕ → Output → Type 0
IsGateText list bytes o = (l : Listing) × IsListing list l × IsListedText l bytes o

-- ---- the answer

-- what is answered where a text about a file, which `Is` means, was to be written to a sink, of which `told` says what it reports
pub record AnswersWith (Is : Output → Type 0) (bytes : List ℕ) {S : Type 0} (told : S → Told) (old new : S) (answer : Result ℕ Stop) : Type 0 where
  pub whole : IfOk answer (WroteText Is (told old) (told new))
  pub stopped : IfErr answer (StopsGate Is (told old) (told new))
  -- too many bytes of the file, and only those, are refused before anything is written
  pub too_large : (answer ≡ Err stop.TooLarge) ↔ (size_limit < length bytes)
  pub untouched : answer ≡ Err stop.TooLarge → new ≡ old

-- ---- laws

-- by the entries of a list the status is 0 only where the file passes; and where it passes the status is 0, unless there are too many ways to read
-- a member of an archive
pub record IsZeroWherePassing (list : List Allowed) (bytes : List ℕ) (o : Output) : Type 0 where
  pub passes : o.status ≡ 0 → PassesFile list bytes
  pub is_zero : PassesFile list bytes → (o.status ≡ 0) ⊎ HasTooManyWays bytes

abbrev pub ZeroWhereFilePasses : Type 0
ZeroWhereFilePasses = (list : List Allowed) (bytes : List ℕ) (o : Output) → AreBytes bytes → length bytes ≤ size_limit → IsFileText list bytes o → IsZeroWherePassing list bytes o

-- a text is a list, and the file passes by its entries
abbrev pub PassesListed : Listing → List ℕ → Type 0
PassesListed (listing.Entries list) bytes = PassesFile list.items bytes
PassesListed (listing.Wrong n) bytes = ⊥

-- where the status is 0 it does
abbrev pub ZeroMeansPassing : Type 0
ZeroMeansPassing = (list bytes : List ℕ) (o : Output) → AreBytes bytes → length bytes ≤ size_limit → IsGateText list bytes o → o.status ≡ 0
    → (l : Listing) × IsListing list l × PassesListed l bytes
