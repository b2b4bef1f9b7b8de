-- What a listing that is cut short leaves, and what is left of a document's.
use Rattle.std.proofs.Common.{◌≡◌, ℕ, Bool, List, Result, Ok, Err, sym, ap, ◌∙◌}
use Rattle.std.specs.Prelude.{IfErr, IfOk, IsErrAnd}
use Rattle.pickle_io.specs.Device.{Told}
use Rattle.pickle_doc.specs.Document.{Contents, document_bytes, ReadsIn, IsReadAgain}
use Rattle.pickle_text.specs.declared.stop.TextStop.{TextStop}
use Rattle.pickle_text.specs.declared.stop.TextStop.TheVariants as stop
use Rattle.pickle_list.specs.ArgTexts.{ArgTexts}
use Rattle.pickle_list.specs.Listing.{listing}
use Rattle.pickle_list.specs.Written.{WroteListing, CutListing, IsListed, BreaksListingIn, BeginsListingIn, CutsListing, CutsListingIn}
use Rattle.pickle_list.proofs.Apart.{same_listing}

-- the sink has failed
pub cut_failed : {A : Type 0} {many loose : Bool} (args : ArgTexts) (bytes : List ℕ) (a b : Told) (r : Result A TextStop) → IsErrAnd r (λ e. e ≡ stop.Failed) → BreaksListingIn args many loose bytes a b → IfErr r (CutsListingIn args many loose bytes a b)
cut_failed args bytes a b (Ok x) h w = absurd h
cut_failed args bytes a b (Err e) h w = rw h w

-- there was no memory
pub cut_memory : {A : Type 0} {many loose : Bool} (args : ArgTexts) (bytes : List ℕ) (a b : Told) (r : Result A TextStop) → IsErrAnd r (λ e. e ≡ stop.Memory) → BeginsListingIn args many loose bytes a b → IfErr r (CutsListingIn args many loose bytes a b)
cut_memory args bytes a b (Ok x) h w = absurd h
cut_memory args bytes a b (Err e) h w = rw h w

-- ---- the bytes of a document read as one that has the same listing

listed_as : (d e : Contents) → IsReadAgain d → ReadsIn d.many d.loose (document_bytes d) e → listing e ≡ listing d
listed_as d e again r = ap listing (sym (again.only e r)) ∙ sym (same_listing d again.read again.same)

pub wrote_document : (d : Contents) (a b : Told) (r : Result ℕ TextStop) → IsReadAgain d → IfOk r (IsListed d.many d.loose (document_bytes d) a b) → IfOk r (WroteListing d a b)
wrote_document d a b (Ok status) again (e, reads, (wrote, answers)) = let same = listed_as d e again reads in rw (← same) (wrote, answers)
wrote_document d a b (Err x) again h = tt

document_cut : (d : Contents) (a b : Told) (x : TextStop) → IsReadAgain d → CutsListing d.many d.loose (document_bytes d) a b x → CutListing d a b x
document_cut d a b stop.Failed again (e, reads, broke) = let same = listed_as d e again reads in rw (← same) broke
document_cut d a b stop.Memory again (e, reads, (rest, wrote)) = let same = listed_as d e again reads in rw (← same) (rest, wrote)

pub cut_document : (d : Contents) (a b : Told) (r : Result ℕ TextStop) → IsReadAgain d → IfErr r (CutsListing d.many d.loose (document_bytes d) a b) → IfErr r (CutListing d a b)
cut_document d a b (Ok status) again h = tt
cut_document d a b (Err x) again h = document_cut d a b x again h
