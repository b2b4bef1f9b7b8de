-- The laws of files that show bytes ahead, and of pipes.
use Rattle.std.proofs.Common.{refl, ap, ◌∙◌}
use Rattle.std.specs.Prelude.{[]}
use Rattle.pickle_further.specs.declared.way.Pickles.TheVariants as pickles
use Rattle.pickle_loader.specs.Dispatch.{acts_of}
use Rattle.pickle_loader.specs.Bytes.{Loading}
use Rattle.pickle_loader.specs.CLoad.{CLoaded, seen_loaded}
use Rattle.pickle_loader.proofs.ByFrames.{framed_is_bytes}
use Rattle.pickle_loader.proofs.ShownFiles.{loads_as_bytes}
use Rattle.pickle_loader.proofs.ShortReads.{pipe_is_file}
use Rattle.gate_laws.specs.Permitted.{permits_all}
use Rattle.gate_laws.specs.Laws.{OnlyWhatIsAllowedInAFile, OnlyWhatIsAllowedOfAPipe}
use Rattle.gate_laws.proofs.Law.{plain, status_zero, only_what_is_allowed}
use Rattle.gate_laws.proofs.LawC.{only_what_is_allowed_in_c}

pub only_what_is_allowed_in_a_file : OnlyWhatIsAllowedInAFile
only_what_is_allowed_in_a_file list bytes p w shows n =
    ap (λ (l : CLoaded). permits_all list [] (acts_of (seen_loaded l))) (loads_as_bytes plain w shows pickles.First bytes p.document p.reads p.small (status_zero p.document p.stops) n)
    ∙ (only_what_is_allowed_in_c list bytes p w n).0

pub only_what_is_allowed_of_a_pipe : OnlyWhatIsAllowedOfAPipe
only_what_is_allowed_of_a_pipe list bytes p w comes n came =
    let same = pipe_is_file w comes pickles.First bytes n came in
    ap (permits_all list []) same.2
    ∙ ap (λ (x : Loading). permits_all list [] (acts_of x.now)) (framed_is_bytes w pickles.First bytes same.0 refl)
    ∙ only_what_is_allowed list bytes p w same.0
