-- Which members of an archive pass a list, by what they open to.
-- Source: own. Of an `.npy` file numpy's `read_array` (lib/format.py) reads the raw numbers behind the header, or loads a pickle there.
use Rattle.std.specs.Prelude.{◌≡◌, ◌≢◌, ◌⊎◌, ◌≤◌, ℕ, ◌-◌, ◌==◌, ◌&&◌, ◌||◌, not, eqb, nat_le, if◌then◌else◌, Bool, true, false, List, [], ◌∷◌, ◌++◌, length, take, drop, All, ⊤, Ok, Err}
use Rattle.std.specs.List.{starts_with}
use Rattle.pickle_doc.specs.Document.{AreBytes, size_limit}
use Rattle.pickle_allow.specs.declared.list.Entry.{Entry as Allowed}
use Rattle.pickle_gate.specs.Gate.{Passes}
use Rattle.pickle_gate.specs.Verdict.{IsVerdict}
use Rattle.pickle_gate.specs.declared.verdict.Verdict.{Verdict}
use Rattle.pickle_gate.specs.declared.verdict.Verdict.TheVariants as verdict
use Rattle.pickle_reach.specs.declared.granted.Granted.{Granted}
use Rattle.pickle_reach.specs.declared.answer.Reach.{Reach}
use Rattle.pickle_reach.specs.declared.answer.Reach.TheVariants as answer
use Rattle.pickle_reach.specs.Reach.{first_spot, NothingFrom, IsReach}
use Rattle.zip_archive.specs.Entry.{Entry}
use Rattle.zip_archive.specs.Archive.{Counts, IsZip, are_distinct, any_case}
use Rattle.zip_archive.specs.Reader.{Member, member_of, by_directory}
use Rattle.npy_form.specs.declared.array.Held.TheVariants as held
use Rattle.npy_form.specs.Npy.{begins_as_array, behind_header, read_array}
use Rattle.archive_gate.specs.Kind.{holds_members}
use Rattle.archive_gate.specs.declared.fault.ArrayFault.{ArrayFault}
use Rattle.archive_gate.specs.declared.fault.ArrayFault.TheVariants as array_fault
use Rattle.archive_gate.specs.declared.fault.Fault.{Fault}
use Rattle.archive_gate.specs.declared.fault.Fault.TheVariants as fault
use Rattle.archive_gate.specs.declared.fault.Failing.{Failing}
use Rattle.zip_open.specs.Opened.{unpacked_total, OpensTo, IsReadAs, IsBroken}

-- ---- a member

-- what a loader was given that has nothing but bytes
abbrev pub alone : Granted
alone = record { extensions = false; persistent = false; buffers = false }

-- what a loader was given that knows persistent ids, as torch's does, in a program that has no extension codes and gives it no buffers
abbrev pub with_ids : Granted
with_ids = record { extensions = false; persistent = true; buffers = false }

-- a newline, or no ASCII
abbrev pub ends_ascii : ℕ → Bool
ends_ascii byte = byte == 10 || nat_le 128 byte

-- a line, or what is left of one, has no byte but ASCII
unfoldable pub line_is_ascii : List ℕ → Bool
line_is_ascii [] = true
line_is_ascii (byte ∷ rest) = if ends_ascii byte then byte == 10 else line_is_ascii rest

abbrev pub without_last : List ℕ → List ℕ
without_last bytes = take (length bytes - 1) bytes

-- each loader raises at the first opcode: it is BINPERSID, which takes an object, and there is none; or PERSID, and its line is not ASCII
-- (Lib/pickle.py and Modules/_pickle.c, `load_binpersid`, `load_persid`). Of a line that the bytes end the unpickler in Python drops the last byte
abbrev pub raises_first : List ℕ → Bool
raises_first bytes = starts_with eqb bytes (81 ∷ []) || (starts_with eqb bytes (80 ∷ []) && not (line_is_ascii (without_last (drop 1 bytes))))

-- no loader that begins at the first of the bytes, and knows persistent ids, reaches anything
abbrev pub GivesNothing : List ℕ → Type 0
GivesNothing bytes = (raises_first bytes ≡ true) ⊎ NothingFrom with_ids bytes first_spot

-- the bytes are a pickle that passes, or give nothing
abbrev pub Gives : List Allowed → List ℕ → Type 0
Gives list bytes = Passes list bytes ⊎ GivesNothing bytes

-- an array is in the form in which numpy writes, and has numbers, or a pickle of which this holds, too
abbrev pub ArrayPasses : List Allowed → List ℕ → Type 0
ArrayPasses list bytes = (read_array bytes ≡ Ok held.Numbers) ⊎ ((read_array bytes ≡ Ok held.Pickle) × Gives list (behind_header bytes))

-- they are no archive themselves; and an array passes as one, too
pub record BytesPass (list : List Allowed) (bytes : List ℕ) : Type 0 where
  pub apart : holds_members bytes ≡ false
  pub gives : Gives list bytes
  pub array : begins_as_array bytes ≡ true → ArrayPasses list bytes

-- what the member opens to does
pub record MemberPasses (list : List Allowed) (m : Member) : Type 0 where
  pub bytes : List ℕ
  pub opens : OpensTo m bytes
  pub pass : BytesPass list bytes

abbrev pub AllPass : List Allowed → List Entry → Type 0
AllPass list [] = ⊤
AllPass list (e ∷ es) = MemberPasses list (member_of e) × AllPass list es

-- ---- the first that does not

pub record IsRefusal (list : List Allowed) (bytes : List ℕ) (v : Verdict) : Type 0 where
  pub said : IsVerdict list bytes v
  pub other : v ≢ verdict.Passes

-- the gate says this of the bytes, which do not pass, and a loader may reach something in them
pub record IsRefusedAs (list : List Allowed) (bytes : List ℕ) (v : Verdict) : Type 0 where
  pub refusal : IsRefusal list bytes v
  pub goes : raises_first bytes ≡ false
  pub found : Reach
  pub reach : IsReach with_ids bytes found
  pub reaches : (offset : ℕ) (settled : Bool) → found ≢ answer.Nothing offset settled

-- an array is none in that form, or this is so of what is behind its header
abbrev pub ArrayFails : List Allowed → List ℕ → ArrayFault → Type 0
ArrayFails list bytes (array_fault.Form r) = read_array bytes ≡ Err r
ArrayFails list bytes (array_fault.Refused v) = (read_array bytes ≡ Ok held.Pickle) × IsRefusedAs list (behind_header bytes) v

abbrev pub BytesFail : List Allowed → List ℕ → Fault → Type 0
BytesFail list bytes (fault.Broken b) = ⊥
BytesFail list bytes fault.Archive = holds_members bytes ≡ true
BytesFail list bytes (fault.Refused v) = IsRefusedAs list bytes v
BytesFail list bytes (fault.Array f) = (begins_as_array bytes ≡ true) × ArrayFails list bytes f

-- what the member opens to does not pass
pub record OpenedFails (list : List Allowed) (m : Member) (f : Fault) : Type 0 where
  pub bytes : List ℕ
  pub opens : OpensTo m bytes
  pub small : AreBytes bytes
  pub fail : BytesFail list bytes f

-- or it does not open
abbrev pub HasFault : List Allowed → Entry → Fault → Type 0
HasFault list e (fault.Broken b) = IsBroken (member_of e) b
HasFault list e f = OpenedFails list (member_of e) f

pub record IsFailing (list : List Allowed) (es : List Entry) (f : Failing) : Type 0 where
  pub before : List Entry
  pub entry : Entry
  pub after : List Entry
  pub is : es ≡ before ++ entry ∷ after
  pub place : f.place ≡ length before
  pub passed : AllPass list before
  pub has : HasFault list entry f.fault

-- ---- an archive

-- each member passes. No two names differ in case alone, and the packed members unpack to no more bytes than a file may have
pub record PassesArchive (list : List Allowed) (bytes : List ℕ) : Type 0 where
  pub entries : List Entry
  pub archive : IsZip bytes entries
  pub apart : are_distinct any_case entries ≡ true
  pub within : unpacked_total entries ≤ size_limit
  pub members : AllPass list entries

-- ---- laws

-- each member passes that a reader by the directory finds
abbrev pub EachMemberPasses : (List ℕ → ℕ → Counts) → Type 0
EachMemberPasses told = (list : List Allowed) (bytes : List ℕ) → PassesArchive list bytes → All (MemberPasses list) (by_directory told bytes (length bytes - 22))

-- and so does what a reader makes of it that compares nothing: it has the size and the checksum that are told
pub record ReadPasses (list : List Allowed) (m : Member) (read : List ℕ) : Type 0 where
  pub opens : OpensTo m read
  pub pass : BytesPass list read

abbrev pub WhatIsReadPasses : Type 0
WhatIsReadPasses = (list : List Allowed) (m : Member) (read : List ℕ) → MemberPasses list m → IsReadAs m read → ReadPasses list m read
