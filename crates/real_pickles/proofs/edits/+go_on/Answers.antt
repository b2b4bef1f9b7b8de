use Rattle.std.proofs.Common.{◌≡◌, ◌+◌, ◌≤◌, length, ap, ◌∙◌, arith}
use Rattle.pickle_doc.specs.Document.{Contents, items_of}
use Rattle.pickle_doc.specs.Swap.{risen}
use Rattle.real_pickles.proofs.Risen.{risen_more, on, again}
use Rattle.real_pickles.proofs.edits.+go_on.Goals as goal

pub there_and_back-requires : goal.there_and_back-requires
there_and_back-requires t c =
    let inner = c.in_ok-go_on.ensures in
    let back = c.in_ok-record.ensures.back in
    let before = c.args.document.now.contents in
    let leads = on c.records_lead_on.ensures c.in_ok-record.record c.make.new.document.contents (risen back.0 before) c.go_on.new.document.contents inner.contents.0 inner.contents.1 back.1 in
    let few : length (items_of before) ≤ length (items_of c.go_on.new.document.contents) + c.go_on.new.document.room = omega (arith, inner.total, c.in_ok-record.ensures.total) in
    record { leads = (risen inner.contents.0 (risen back.0 before), leads, few) }

pub swap-requires : goal.swap-requires
swap-requires t c =
    let inner = c.in_ok-go_on.ensures in
    let back = c.in_ok-record.ensures.back in
    let before = c.args.document.now.contents in
    let end = risen inner.contents.0 (risen back.0 before) in
    let leads = on c.records_lead_on.ensures c.in_ok-record.record c.make.new.document.contents (risen back.0 before) c.go_on.new.document.contents inner.contents.0 inner.contents.1 back.1 in
    let turned = c.there_and_back.ensures in
    let few : length (items_of before) ≤ length (items_of c.there_and_back.new.document.contents) + c.there_and_back.new.document.room =
    omega (arith, inner.total, c.in_ok-record.ensures.total, turned.room, ap (λ (d : Contents). length (items_of d)) turned.contents) in
    record { leads = (end, again c.there_and_back.new.edit c.go_on.new.document.contents end c.there_and_back.new.document.contents turned.contents (turned.leads end leads), few) }

pub returns-clause-contents : goal.returns-clause-contents
returns-clause-contents t c =
    let inner = c.in_ok-go_on.ensures in
    let back = c.in_ok-record.ensures.back in
    let before = c.args.document.now.contents in
    let end = risen inner.contents.0 (risen back.0 before) in
    let leads = on c.records_lead_on.ensures c.in_ok-record.record c.make.new.document.contents (risen back.0 before) c.go_on.new.document.contents inner.contents.0 inner.contents.1 back.1 in
    let turned = c.there_and_back.ensures in
    let led = again c.there_and_back.new.edit c.go_on.new.document.contents end c.there_and_back.new.document.contents turned.contents (turned.leads end leads) in
    (back.0 + inner.contents.0, c.swap.ensures.other end led ∙ risen_more back.0 inner.contents.0 before)
