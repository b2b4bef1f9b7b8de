-- A text of a document with its status, and what became of the text that was to be written: `output` is the text that is meant, as a
-- function of the document.
use Rattle.std.specs.Prelude.{◌≡◌, ℕ, Bool, List}
use Rattle.pickle_io.specs.Device.{Told, Wrote, Broke, WroteAllBut}
use Rattle.pickle_doc.specs.Document.{Contents, ReadsIn}
use Rattle.pickle_text.specs.declared.stop.TextStop.{TextStop}
use Rattle.pickle_text.specs.declared.stop.TextStop.TheVariants as stop

pub record Output : Type 0 where
  pub text : List ℕ
  pub status : ℕ

-- ---- of a document

-- the whole text was written, and this is its status
abbrev pub WroteOutput : (Contents → Output) → Contents → Told → Told → ℕ → Type 0
WroteOutput output d old new status = Wrote old new (output d).text × (status ≡ (output d).status)

-- a beginning of it was written, and then the sink failed
abbrev pub BrokeOutput : (Contents → Output) → Contents → Told → Told → Type 0
BrokeOutput output d old new = Broke old new (output d).text

-- a beginning of it was written, and no failure came
abbrev pub BeganOutput : (Contents → Output) → Contents → Told → Told → Type 0
BeganOutput output d old new = (rest : List ℕ) × WroteAllBut old new (output d).text rest

-- ---- of bytes: the text of the document that they read as, as several pickles or as one, and with all items loose or with frames

-- the whole text was written, and this is its status
abbrev pub Completes : (Contents → Output) → Bool → Bool → List ℕ → Told → Told → ℕ → Type 0
Completes output many loose bytes old new status = (d : Contents) × ReadsIn many loose bytes d × WroteOutput output d old new status

-- a beginning of it was written, and then the sink failed
abbrev pub Breaks : (Contents → Output) → Bool → Bool → List ℕ → Told → Told → Type 0
Breaks output many loose bytes old new = (d : Contents) × ReadsIn many loose bytes d × BrokeOutput output d old new

-- a beginning of it was written, and no failure came
abbrev pub Begins : (Contents → Output) → Bool → Bool → List ℕ → Told → Told → Type 0
Begins output many loose bytes old new = (d : Contents) × ReadsIn many loose bytes d × BeganOutput output d old new

-- a beginning of it was written, and then the sink failed, or memory ran out
abbrev pub Cuts : (Contents → Output) → Bool → Bool → List ℕ → Told → Told → TextStop → Type 0
Cuts output many loose bytes old new stop.Failed = Breaks output many loose bytes old new
Cuts output many loose bytes old new stop.Memory = Begins output many loose bytes old new
