-- Lines by the texts for people: where the status of a line is 0.
use Rattle.std.proofs.Common.{◌≡◌, ◌≤◌, ℕ, List, length, refl, sym, ap, ◌∙◌}
use Rattle.pickle_doc.specs.Document.{AreBytes, size_limit}
use Rattle.pickle_text.specs.Output.{Output}
use Rattle.pickle_allow.specs.declared.list.Entry.{Entry as Allowed}
use Rattle.pickle_allow.specs.declared.listing.Listing.{Listing}
use Rattle.pickle_allow.specs.declared.listing.Listing.TheVariants as listing
use Rattle.pickle_allow.specs.Grammar.{IsListing}
use Rattle.archive_gate.specs.File.{PassesFile}
use Rattle.archive_script.specs.GateText.{judged_output, no_list_output, PassesListed}
use Rattle.archive_script.proofs.GateLaws.{zero_means_passing, zero_where_file_passes}
use Rattle.gate_json.specs.GateLine.{IsNamedLine, IsListedLine, IsGateLine, HasText, LinesHaveTexts}

listed_text : (list bytes : List ℕ) (o : Output) (l : Listing) → IsListing list l → IsListedLine l bytes o → HasText list bytes o
listed_text list bytes o (listing.Entries es) is (j, said, same) =
    record { text = judged_output j; said = (listing.Entries es, is, said); same = ap (λ (x : Output). x.status) same }
listed_text list bytes o (listing.Wrong n) is same =
    record { text = no_list_output n; said = (listing.Wrong n, is, refl); same = ap (λ (x : Output). x.status) same }

pub lines_have_texts : LinesHaveTexts
lines_have_texts list bytes o w = listed_text list bytes o w.0 w.1 w.2

pub line_passes : (list bytes : List ℕ) (o : Output) → AreBytes bytes → length bytes ≤ size_limit → IsGateLine list bytes o → o.status ≡ 0
    → (l : Listing) × IsListing list l × PassesListed l bytes
line_passes list bytes o small few w zero =
    let t = lines_have_texts list bytes o w in
    zero_means_passing list bytes t.text small few t.said (sym t.same ∙ zero)

pub named_line_passes : (list : List Allowed) (name bytes : List ℕ) (o : Output) → AreBytes bytes → length bytes ≤ size_limit → IsNamedLine name list bytes o → o.status ≡ 0 → PassesFile list bytes
named_line_passes list name bytes o small few is zero =
    (zero_where_file_passes list bytes (judged_output is.0) small few is.1).passes (sym (ap (λ (x : Output). x.status) is.2) ∙ zero)
