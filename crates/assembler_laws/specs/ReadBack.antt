-- What a listing is assembled to.
-- Source: own.
use Rattle.std.specs.Prelude.{◌≡◌, ◌≢◌, ◌⊎◌, ◌<◌, ◌^◌, ℕ, Bool, true, List, [], ◌++◌, length, Option, Some, Ok}
use Rattle.pickle_ops.specs.Spelling.{Operation, IsSpelled}
use Rattle.pickle_doc.specs.Document.{Contents, ReadsIn, AreBytes}
use Rattle.pickle_doc.specs.Place.{item_at}
use Rattle.pickle_list.specs.declared.note.Note.{Note}
use Rattle.pickle_text.specs.Column.{newline}
use Rattle.pickle_text.specs.Output.{Output}
use Rattle.pickle_list.specs.Line.{item_line}
use Rattle.pickle_list.specs.Listing.{listing}
use Rattle.opcode_assembler.specs.declared.fault.Reason.TheVariants as why
use Rattle.opcode_assembler.specs.Assembly.{OneOpcode, line_says, Assembles, IsRefused}
use Rattle.opcode_assembler.specs.Canonical.{is_canonical}
use Rattle.whole_listing.specs.WholeArgs.{whole_line, whole_listing}

-- ---- lines

-- a line of an item, without its newline, says the opcode with its argument
abbrev pub SaysAgain : Operation → List ℕ → Type 0
SaysAgain op text = (line : List ℕ) → text ≡ line ++ newline → line_says line ≡ Ok (OneOpcode op)

-- that of a listing, if the argument is the one that its text stands for
abbrev pub ItemLineReadBack : Type 0
ItemLineReadBack = (op : Operation) (offset marks : ℕ) (n : Option Note) → IsSpelled op → AreBytes op.arg → is_canonical op ≡ true → offset < 2 ^ 64
    → SaysAgain op (item_line op offset marks n)

-- and that of a whole listing
abbrev pub WholeLineReadBack : Type 0
WholeLineReadBack = (op : Operation) (offset marks : ℕ) (n : Option Note) → IsSpelled op → AreBytes op.arg → offset < 2 ^ 64 → SaysAgain op (whole_line op offset marks n)

-- ---- listings

-- the document that bytes read as, as one pickle or as several
pub record IsDocumentOf (bytes : List ℕ) (d : Contents) : Type 0 where
  pub many : Bool
  pub loose : Bool
  pub good : AreBytes bytes
  pub small : length bytes < 2 ^ 64
  pub reads : ReadsIn many loose bytes d

-- the argument of each item is the one that its text stands for
abbrev pub AllCanonical : Contents → Type 0
AllCanonical d = (k : ℕ) (op : Operation) → item_at d k ≡ Some op → is_canonical op ≡ true

-- where `list` answers 0 and keeps no bytes, its text is assembled to the bytes of the file
abbrev pub IsReadBack : List ℕ → Contents → Output → Type 0
IsReadBack bytes d o = o.status ≡ 0 → d.tail ≡ [] → Assembles o.text bytes

-- else a line of the text says that there is more, or that an item is refused, and there the text is refused
abbrev pub IsRefusedAtGap : Contents → Output → Type 0
IsRefusedAtGap d o = (o.status ≢ 0) ⊎ (d.tail ≢ []) → (m : ℕ) × IsRefused o.text m why.LeftOut

abbrev pub ListingReadBack : Type 0
ListingReadBack = (bytes : List ℕ) (d : Contents) → IsDocumentOf bytes d → AllCanonical d → IsReadBack bytes d (listing d)

abbrev pub GapsAreRefused : Type 0
GapsAreRefused = (bytes : List ℕ) (d : Contents) → IsDocumentOf bytes d → AllCanonical d → IsRefusedAtGap d (listing d)

-- of a whole listing the same holds whatever the arguments are
abbrev pub WholeListingReadBack : Type 0
WholeListingReadBack = (bytes : List ℕ) (d : Contents) → IsDocumentOf bytes d → IsReadBack bytes d (whole_listing d)

abbrev pub WholeGapsAreRefused : Type 0
WholeGapsAreRefused = (bytes : List ℕ) (d : Contents) → IsDocumentOf bytes d → IsRefusedAtGap d (whole_listing d)
