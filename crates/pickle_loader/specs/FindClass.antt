-- What `find_class` imports for the names that an opcode gives it, and that the line of an import says this.
-- Source: Lib/pickle.py, `find_class`, with `fix_imports`, which is on by default (CPython 3.11); the tables of Lib/_compat_pickle.py are those of
-- `renamed`. The texts of the names are decoded as `load_global`, `load_inst` and the opcodes of texts do: `IsRead`.
use Rattle.std.specs.Prelude.{◌≡◌, ℕ, nat_lt, if◌then◌else◌, List, length, slice_get, codes, decimal, Option, Some, None}
use Rattle.std.specs.Option.{unwrap_or}
use Rattle.pickle_io.specs.Text.{◌⧺◌}
use Rattle.pickle_names.specs.Renamed.{Import, renamed}
use Rattle.pickle_ops.specs.Object.{Object}
use Rattle.pickle_doc.specs.Document.{Contents}
use Rattle.pickle_doc.specs.Place.{ops_of, offset_of}
use Rattle.pickle_io.specs.Holes.{in_file}
use Rattle.pickle_machine.specs.State.{State}
use Rattle.pickle_text.specs.Column.{right_aligned, newline}
use Rattle.pickle_text.specs.Words.{id_text}
use Rattle.pickle_calls.specs.Brief.{briefs_text}
use Rattle.pickle_calls.specs.Manner.{Manner}
use Rattle.pickle_calls.specs.Naming.{Pair}
use Rattle.pickle_calls.specs.Calls.{naming_at, entry_at}
use Rattle.calls_laws.specs.CallsLaws.{IsStep}
use Rattle.calls_laws.specs.LineLaws.{names_of, inst_names, IsRead, two_quoted}
use Rattle.pickle_loader.specs.Listed.{protocol_at}

-- if self.proto < 3 and self.fix_imports: another import than the names say, where a table has one
abbrev pub fixed : ℕ → List ℕ → List ℕ → Option Import
fixed proto from name = if nat_lt proto 3 then renamed from name else None

-- find_class(module, name): from which module, and which member of it
abbrev pub find_class : ℕ → List ℕ → List ℕ → Import
find_class proto from name = unwrap_or (fixed proto from name) (record { from = from; name = name })

-- what is imported; and where that is another than the names say, the names
abbrev pub said_with : Import → Option Import → List ℕ → List ℕ → List ℕ
said_with i None from name = two_quoted i.from i.name
said_with i (Some other) from name = two_quoted i.from i.name ⧺ codes " for " ⧺ two_quoted from name

abbrev pub found_said : ℕ → List ℕ → List ℕ → List ℕ
found_said proto from name = said_with (find_class proto from name) (fixed proto from name) from name

-- an accepted item that imports an object by names which can be read has exactly the line with what find_class imports for them, by the
-- protocol of the last PROTO of the same pickle; so has INST, whose line goes on with the arguments
pub record ImportsAsFound (how : Manner) (d : Contents) (k : ℕ) (s t : State) (o : Object) (p : Pair) (from name : List ℕ) : Type 0 where
  pub import : names_of t.heap o ≡ Some p → (entry_at how d k).text ≡ right_aligned 5 (decimal (in_file how.holes (offset_of d k))) ⧺ codes ": "
      ⧺ (codes "import " ⧺ found_said (protocol_at (ops_of d) k) from name ⧺ codes " as " ⧺ id_text (length s.heap)) ⧺ newline
  pub inst : inst_names o.kind ≡ Some p → (entry_at how d k).text ≡ right_aligned 5 (decimal (in_file how.holes (offset_of d k))) ⧺ codes ": "
      ⧺ ((codes "inst " ⧺ found_said (protocol_at (ops_of d) k) from name ⧺ codes " " ⧺ briefs_text (naming_at how.detail d k) t.heap o.parts)
      ⧺ codes " as " ⧺ id_text (length s.heap)) ⧺ newline

abbrev pub FoundIsSaid : Type 0
FoundIsSaid = (how : Manner) (d : Contents) (k : ℕ) (s t : State) (o : Object) (p : Pair) (from name : List ℕ) → IsStep d k s t
    → slice_get t.heap (length s.heap) ≡ Some o
    → IsRead p.from from → IsRead p.name name → ImportsAsFound how d k s t o p from name
