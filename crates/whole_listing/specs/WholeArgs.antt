-- The listing that is assembled to the bytes that it shows: the argument of each opcode has a text that is read back to the same bytes.
-- Source: own.
use Rattle.std.specs.Prelude.{◌≡◌, refl, ℕ, Bool, true, false, List, Option, Some, None, is_some}
use Rattle.pickle_io.specs.Device.{Told}
use Rattle.pickle_ops.specs.Spelling.{Operation}
use Rattle.pickle_ops.specs.Text.{arg_text}
use Rattle.pickle_doc.specs.Document.{Contents}
use Rattle.pickle_list.specs.declared.note.Note.{Note}
use Rattle.pickle_text.specs.declared.stop.TextStop.{TextStop}
use Rattle.pickle_list.specs.ArgTexts.{ArgTexts}
use Rattle.pickle_list.specs.Line.{item_line_in}
use Rattle.pickle_list.specs.Listing.{listing_in}
use Rattle.pickle_text.specs.Output.{Output}
use Rattle.pickle_list.specs.Written.{IsListedIn, CutsListingIn}
use Rattle.opcode_assembler.specs.Canonical.{is_canonical, hex_text, text_or, whole_text}

there_by : (b : Bool) (text : Option (List ℕ)) (bytes : List ℕ) → is_some (text_or b text bytes) ≡ is_some text
there_by true text bytes = refl
there_by false None bytes = refl
there_by false (Some text) bytes = refl

pub whole_there : (o : Operation) → is_some (whole_text o) ≡ is_some (arg_text o)
unfolding whole_text
whole_there o = there_by (is_canonical o) (arg_text o) (hex_text o.arg)

abbrev pub whole_args : ArgTexts
whole_args = record { text = whole_text; there = whole_there }

-- the line of an item at this offset, with four blanks for each open mark
abbrev pub whole_line : Operation → ℕ → ℕ → Option Note → List ℕ
whole_line o offset marks n = item_line_in whole_args o offset marks n

-- the listing of a document: in all but the texts of arguments it is the one that people read
abbrev pub whole_listing : Contents → Output
whole_listing d = listing_in whole_args d

-- what became of it: it was written whole, with this status; or a beginning of it was written
abbrev pub IsListedWhole : Bool → Bool → List ℕ → Told → Told → ℕ → Type 0
IsListedWhole many loose bytes old new status = IsListedIn whole_args many loose bytes old new status

abbrev pub CutsWhole : Bool → Bool → List ℕ → Told → Told → TextStop → Type 0
CutsWhole many loose bytes old new e = CutsListingIn whole_args many loose bytes old new e
