use Rattle.std.proofs.Common.{List, subst, arith}
use Rattle.pickle_allow.specs.declared.list.Entry.{Entry}
use Rattle.pickle_allow.specs.declared.listing.Listing.TheVariants as listing
use Rattle.archive_script.proofs.GateTexts.{entries_answer, gate_too_large}
use Rattle.gate_json.specs.GateLine.{IsFileLine, IsNoListJson, IsListedLine, IsGateLine}
use Rattle.gate_json.proofs.answer.write_gate_line.Goals as goal

pub returns-then-bytes-gt-LIMIT : goal.returns-then-bytes-gt-LIMIT
returns-then-bytes-gt-LIMIT g c = gate_too_large (IsGateLine c.args.list.now c.args.bytes.now) c.args.bytes.now g.S.Sink.told c.args.page.now (omega (arith, c.if-bytes-gt-LIMIT.true))

pub returns-in-Entries : goal.returns-in-Entries
returns-in-Entries g c =
    entries_answer c.args.list.now c.args.bytes.now (listing.Entries c.in-Entries.entries) (IsFileLine c.as_slice.result.now c.args.bytes.now)
    (λ l o. IsListedLine l c.args.bytes.now o) g.S.Sink.told _ _ _
    (omega (arith, c.if-bytes-gt-LIMIT.false)) (rw c.in-Entries.is at c.in_ok-entries.ensures)
    (λ o w. subst (λ (entries : List Entry). IsFileLine entries c.args.bytes.now o) c.as_slice.ensures.value w)
    c.write_file_line.ensures

pub returns-in-Wrong : goal.returns-in-Wrong
returns-in-Wrong g c =
    entries_answer c.args.list.now c.args.bytes.now (listing.Wrong c.in-Wrong.line) (IsNoListJson c.in-Wrong.line)
    (λ l o. IsListedLine l c.args.bytes.now o) g.S.Sink.told _ _ _
    (omega (arith, c.if-bytes-gt-LIMIT.false)) (rw c.in-Wrong.is at c.in_ok-entries.ensures) (λ o w. w) c.refuse_list_line.ensures
