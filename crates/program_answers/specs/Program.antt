-- What the program answers to the words of its command line, and what it leaves.
-- Source: own.
use Rattle.std.specs.Prelude.{◌≡◌, ◌⊎◌, ◌++◌, ℕ, List, [], ◌∷◌, true, codes, Result, Ok, Err}
use Rattle.clap.specs.Words.{fault_of, subcommand_of, takes}
use Rattle.pickle_io.specs.Device.{Told, Wrote, Broke}
use Rattle.pickle_script.specs.declared.stop.Stop.{Stop}
use Rattle.pickle_script.specs.declared.stop.Stop.TheVariants as stop
use Rattle.pickle_script.specs.Stop.{stop_words}
use Rattle.program_answers.specs.declared.task.Task.{Task}
use Rattle.program_answers.specs.declared.task.Usage.{Usage}
use Rattle.program_answers.specs.CommandLine.{program, FitsOptions, IsNamed, IsMemory}
use Rattle.program_answers.specs.Files.{Gives, Reports, IsRead}
use Rattle.program_answers.specs.Skips.{StandFor, LacksWords}
use Rattle.program_answers.specs.Talk.{Untouched, CarriesOut}

-- ---- standard error

-- the status where the answer is missing or incomplete
abbrev pub no_answer : ℕ
no_answer = 2

abbrev pub error_line : Stop → List ℕ
error_line e = codes "picklestep: " ++ (stop_words e ++ (10 ∷ []))

-- the line of a stop was written there, unless that failed
pub record IsReported (e : Stop) (errors errors' : Told) (status : ℕ) : Type 0 where
  pub status_is : status ≡ no_answer
  pub said : Wrote errors errors' (error_line e) ⊎ Broke errors errors' (error_line e)

-- a status is answered, and nothing is said; a stop is reported
abbrev pub Closes : Result ℕ Stop → Told → Told → ℕ → Type 0
Closes (Ok answer) errors errors' status = (status ≡ answer) × (errors' ≡ errors)
Closes (Err e) errors errors' status = IsReported e errors errors' status

-- ---- the answer

-- clap finds no fault in the words, and a task that they name was carried out
pub record DoesTask {F O : Type 0} (r : Reports F O) (words : List (List ℕ)) (files files' : F) (source source' : Gives)
    (old new errors errors' : Told) (status : ℕ) : Type 0 where
  pub task : Task
  pub taken : fault_of program words ≡ []
  pub named : IsNamed (subcommand_of program words) task
  pub result : Result ℕ Stop
  pub does : CarriesOut task r files files' source source' old new result
  pub closes : Closes result errors errors' status

-- the words name no task, or memory ran out: clap takes no such words, or they are of `calls`, whose options do not fit
pub record NamesNone (words : List (List ℕ)) (errors errors' : Told) (status : ℕ) : Type 0 where
  pub status_is : status ≡ no_answer
  pub usage : Usage
  pub why : takes program words ≡ true → FitsOptions (subcommand_of program words) → IsMemory usage
  pub memory : IsMemory usage → IsReported stop.Memory errors errors' status

abbrev pub AnswersWords : {F O : Type 0} → Reports F O → List (List ℕ) → F → F → Gives → Gives → Told → Told → Told → Told → ℕ → Type 0
AnswersWords r words files files' source source' old new errors errors' status =
    DoesTask r words files files' source source' old new errors errors' status
    ⊎ (NamesNone words errors errors' status × Untouched files files' source source' old new)

-- the words that stand for those that were given were answered
pub record AnswersFor {F O : Type 0} (r : Reports F O) (given : List (List ℕ)) (files files' : F) (source source' : Gives)
    (old new errors errors' : Told) (status : ℕ) : Type 0 where
  pub words : List (List ℕ)
  pub stand : StandFor (λ path bytes. IsRead (r.bytes_of files path) bytes) given words
  pub answers : AnswersWords r words files files' source source' old new errors errors' status

-- there are no words for those that were given
pub record AnswersNone {F O : Type 0} (r : Reports F O) (given : List (List ℕ)) (files files' : F) (source source' : Gives)
    (old new errors errors' : Told) (status : ℕ) : Type 0 where
  pub cause : Stop
  pub lacks : LacksWords r files given cause
  pub reported : IsReported cause errors errors' status
  pub untouched : Untouched files files' source source' old new

abbrev pub Answers : {F O : Type 0} → Reports F O → List (List ℕ) → F → F → Gives → Gives → Told → Told → Told → Told → ℕ → Type 0
Answers r given files files' source source' old new errors errors' status =
    AnswersFor r given files files' source source' old new errors errors' status ⊎ AnswersNone r given files files' source source' old new errors errors' status

-- the words were answered over some input and some output
pub record AnswersHere {F O : Type 0} (r : Reports F O) (given : List (List ℕ)) (files files' : F) (errors errors' : Told) (status : ℕ) : Type 0 where
  pub source : Gives
  pub left : Gives
  pub old : Told
  pub new : Told
  pub answers : Answers r given files files' source left old new errors errors' status
