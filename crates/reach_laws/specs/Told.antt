-- Each act of a load of a file has its line in the text of `calls`, or the text says that there are too many ways to mix frames.
-- Source: own.
use Rattle.std.specs.Prelude.{◌⊎◌, ℕ, ◌^◌, ◌<◌, Bool, List, length}
use Rattle.pickle_io.specs.Holes.{in_file}
use Rattle.pickle_lenient.specs.declared.taken.Frames.{Frames}
use Rattle.pickle_lenient.specs.declared.taken.Frames.TheVariants as frames
use Rattle.calls_laws.specs.LineLaws.{cut_lines}
use Rattle.pickle_calls.specs.Manner.{Manner}
use Rattle.pickle_text.specs.Output.{Output}
use Rattle.pickle_further.specs.declared.way.Pickles.{Pickles}
use Rattle.pickle_further.specs.Parts.{file_frames, mixed_line}
use Rattle.pickle_loader.specs.Environment.{Value, Act, World}
use Rattle.pickle_loader.specs.Dispatch.{acts_of}
use Rattle.pickle_loader.specs.Listed.{listed_of}
use Rattle.pickle_loader.specs.Text.{IsAmong}
use Rattle.pickle_loader.specs.ByFrames.{IsAct, HasLine}
use Rattle.pickle_loader.specs.CLoad.{seen_loaded, as_in_c}
use Rattle.pickle_loader.specs.ShownFile.{c_load_file}
use Rattle.mixes_text.specs.MixText.{taken_line, many_line}
use Rattle.mixes_text.specs.CallsWith.{IsCalls}
use Rattle.reach_laws.specs.Filed.{file_mix, frames_pass}
use Rattle.reach_laws.specs.Placed.{IsDone}

-- ---- what a text says

-- a line says from where frames may be mixed
abbrev pub SaysMixed : Output → Type 0
SaysMixed o = (offset : ℕ) × IsAmong (mixed_line offset) (cut_lines o.text)

-- a line says that there are too many ways to mix them
abbrev pub SaysTooMany : Output → Type 0
SaysTooMany o = IsAmong many_line (cut_lines o.text)

-- each of these acts has its line in this reading
abbrev pub HaveLines : Manner → (ℕ → Value) → Pickles → Frames → List ℕ → Output → List Act → Type 0
HaveLines how V p f bytes o acts = (a : Act) → IsAct a acts → HasLine how V p f bytes o a

-- each of these acts is done by an item of a mix, and the line of that, with its offset in the file, its opcode and its argument, is one of the text
abbrev pub HasOpcode : Manner → World → Pickles → List ℕ → Output → Act → Type 0
HasOpcode how w p bytes o a = (shown : List Bool) × (x : IsDone (as_in_c (frames_pass w)) bytes (file_mix p shown) a)
    × IsAmong (taken_line (in_file how.holes x.offset) x.item.op) (cut_lines o.text)

abbrev pub HaveOpcodes : Manner → World → Pickles → List ℕ → Output → List Act → Type 0
HaveOpcodes how w p bytes o acts = (a : Act) → IsAct a acts → HasOpcode how w p bytes o a

-- ---- the law

-- where frames may be mixed, this is said; and then there are too many ways to, which is said too, or after any number of opcodes each act that is
-- listed of a load of the file has the line of its opcode
abbrev pub TellsMixes : Manner → World → (ℕ → ℕ) → Pickles → List ℕ → Output → Type 0
TellsMixes how w shows p bytes o = SaysMixed o
    × (SaysTooMany o ⊎ ((n : ℕ) → HaveOpcodes how w p bytes o (listed_of (acts_of (seen_loaded (c_load_file w shows p bytes n).now)))))

-- whatever bytes are loaded by the unpickler in C, once, in a loop of loads, or by one unpickler that loads again, and however many bytes the file
-- shows at each of its turns: the whole text tells it so; or after any number of opcodes each act that is listed of it has its line, above the
-- headings or under one, in the reading that ignores frames, or in the one of a file that shows nothing
abbrev pub EachActOfAFileIsTold : Type 0
EachActOfAFileIsTold = (how : Manner) (w : World) (shows : ℕ → ℕ) (p : Pickles) (bytes : List ℕ) (o : Output) → IsCalls how p bytes o
    → length bytes < 2 ^ 31
    → TellsMixes how w shows p bytes o
    ⊎ ((V : ℕ → Value) × (U : ℕ → Value)
    × ((n : ℕ)
    → HaveLines how V p frames.Ignored bytes o (listed_of (acts_of (seen_loaded (c_load_file w shows p bytes n).now)))
    ⊎ HaveLines how U p (file_frames p) bytes o (listed_of (acts_of (seen_loaded (c_load_file w shows p bytes n).now)))))
