-- Loads by the unpickler in C from files that show some bytes ahead, as mixes; and what is reached in no such file, nor by a pipe.
-- Source: own. What is read of such a file `ShownFile` says, and what of a pipe `ShortRead`, with their sources.
use Rattle.std.specs.Prelude.{◌≡◌, ◌⊎◌, ℕ, ◌^◌, ◌<◌, ◌≤◌, ◌&&◌, ◌||◌, not, if◌then◌else◌, Bool, true, false, List, [], ◌∷◌, map, length, All, Result, Ok, Err}
use Rattle.pickle_ops.specs.declared.fault.FrontFault.{FrontFault}
use Rattle.pickle_ops.specs.Spelling.{Operation}
use Rattle.pickle_doc.specs.DocUnit.{is_frame}
use Rattle.pickle_lenient.specs.declared.taken.Frames.{Frames}
use Rattle.pickle_lenient.specs.declared.taken.Frames.TheVariants as frames
use Rattle.pickle_lenient.specs.declared.taken.Taken.{Taken}
use Rattle.pickle_lenient.specs.Stream.{taken}
use Rattle.pickle_calls.specs.Manner.{Manner}
use Rattle.pickle_text.specs.Output.{Output}
use Rattle.pickle_further.specs.declared.way.Pickles.{Pickles}
use Rattle.pickle_further.specs.Parts.{ignoring, file_frames, of_file}
use Rattle.pickle_further.specs.CallsText.{IsCallsText}
use Rattle.pickle_loader.specs.Environment.{Value, Act, Unpickler, World}
use Rattle.pickle_loader.specs.Dispatch.{acts_of}
use Rattle.pickle_loader.specs.Listed.{listed_of}
use Rattle.pickle_loader.specs.Onward.{reads_on}
use Rattle.pickle_loader.specs.Text.{is_in_text}
use Rattle.pickle_loader.specs.ByFrames.{IsAct, HasLine}
use Rattle.pickle_loader.specs.CLoad.{CLoaded, CFailed, seen_loaded, COnward, c_load_way}
use Rattle.pickle_loader.specs.ShownFile.{c_load_file}
use Rattle.pickle_loader.specs.ShortRead.{load_pipe}
use Rattle.pickle_reach.specs.declared.granted.Granted.{Granted}
use Rattle.pickle_reach.specs.Reach.{first_spot, NothingFrom}
use Rattle.reach_laws.specs.Mixed.{Turn, c_opened, c_load_turn, c_load_mixed}
use Rattle.reach_laws.specs.Reached.{NoneReaches, IsGranted}

-- ---- the mix of a file

-- all that differs from file to file is which frames are shown, and so are not lost
abbrev pub file_turn : Pickles → Bool → Turn
file_turn p shown = record { way = of_file p; shown = shown }

abbrev pub file_mix : Pickles → List Bool → List Turn
file_mix p shown = map (file_turn p) shown

-- the environment in which FRAME never raises before it does anything. GET and PUT of a key that is spelled otherwise come to a mix as a FRAME
abbrev pub frames_pass : World → World
frames_pass w = record w { fails = λ (u : Unpickler) (o : Operation). not (is_frame o.opcode) && w.fails u o }

-- the load is where the mix is; or it raised, and had done what the mix did
abbrev pub IsWith : CLoaded → CLoaded → Type 0
IsWith x y = (x ≡ y) ⊎ (x ≡ CFailed (acts_of (seen_loaded y)))

-- ---- what is lost

-- bytes of a frame are lost at an item
abbrev pub loses : Result Taken FrontFault → Bool
loses (Ok t) = t.lost
loses (Err f) = false

abbrev pub turn_loses : Turn → COnward → Bool
turn_loses turn x = if reads_on turn.way.pickles (seen_loaded x.now) then loses (taken turn.way.frames x.left x.rest) else false

-- at one of a mix
unfoldable pub mix_loses : World → List Turn → COnward → Bool
mix_loses w [] x = false
mix_loses w (turn ∷ mix) x = turn_loses turn x || mix_loses w mix (c_load_turn w turn x)

-- it is read as in this reading: where frames are ignored, nothing is lost; where they are in a buffer, no frame is shown
abbrev pub IsReadSo : World → Pickles → List ℕ → List Bool → Frames → Type 0
IsReadSo w p bytes shown frames.Ignored = mix_loses (frames_pass w) (file_mix p shown) (c_opened bytes) ≡ false
IsReadSo w p bytes shown f = (f ≡ file_frames p) × All (λ (b : Bool). b ≡ false) shown

-- ---- laws

-- whatever a file shows, at each of its turns: the load of it is that of a mix, as far as it does not raise. C reads the length of a BINSTRING
-- without a sign: so this is said of files in which no such length is there
abbrev pub FilesAreMixes : Type 0
FilesAreMixes = (w : World) (shows : ℕ → ℕ) (p : Pickles) (bytes : List ℕ) (n : ℕ) → length bytes < 2 ^ 31
    → (shown : List Bool) × IsWith (c_load_file w shows p bytes n).now (c_load_mixed (frames_pass w) (file_mix p shown) (c_opened bytes)).now

-- and a file that shows all it has is read as its bytes are, with frames ignored: so is `pickle.loads`, which reads bytes as such a file
abbrev pub FilesThatShowAllAreBytes : Type 0
FilesThatShowAllAreBytes = (w : World) (shows : ℕ → ℕ) (p : Pickles) (bytes : List ℕ) (n : ℕ) → length bytes < 2 ^ 31 → ((turn : ℕ) → length bytes ≤ shows turn)
    → (m : ℕ) × (acts_of (seen_loaded (c_load_file w shows p bytes n).now) ≡ acts_of (seen_loaded (c_load_way (frames_pass w) (ignoring p) bytes m).now))

-- where no spot reaches something, no act does, of any load of a file by the unpickler in C, by one that loads again too
abbrev pub NothingReachedInAFile : Type 0
NothingReachedInAFile = (g : Granted) (w : World) (shows : ℕ → ℕ) (p : Pickles) (bytes : List ℕ) → NothingFrom g bytes first_spot → IsGranted g w
    → length bytes < 2 ^ 31 → (n : ℕ) → NoneReaches g (acts_of (seen_loaded (c_load_file w shows p bytes n).now))

-- nor of a load of a pipe by the unpickler in Python, as long as no opcode is made of a short answer
abbrev pub NothingReachedOfAPipe : Type 0
NothingReachedOfAPipe = (g : Granted) (w : World) (comes : ℕ → ℕ) (p : Pickles) (bytes : List ℕ) → NothingFrom g bytes first_spot → IsGranted g w
    → (n : ℕ) → (load_pipe w comes p bytes n).pipe.all_came ≡ true → NoneReaches g (acts_of (load_pipe w comes p bytes n).now)

-- as long as it loses no byte of a frame, or shows no frame, whatever is listed of a load of a file has its line in the text of `calls`, behind an
-- end too
abbrev pub EachActOfAFileHasItsLine : Type 0
EachActOfAFileHasItsLine = (how : Manner) (w : World) (shows : ℕ → ℕ) (p : Pickles) (f : Frames) (bytes : List ℕ) (o : Output) → IsCallsText how p bytes o
    → length bytes < 2 ^ 31 → is_in_text p f ≡ true
    → (V : ℕ → Value)
    × ((n : ℕ) → (shown : List Bool) × IsWith (c_load_file w shows p bytes n).now (c_load_mixed (frames_pass w) (file_mix p shown) (c_opened bytes)).now
    × (IsReadSo w p bytes shown f → (a : Act) → IsAct a (listed_of (acts_of (seen_loaded (c_load_file w shows p bytes n).now))) → HasLine how V p f bytes o a))
