use Rattle.redplay_page.proofs.ReportLemmas.{checked_so}
use Rattle.redplay_page.proofs.reporting.checked_of.Goals as goal

pub returns : goal.returns
returns c =
    checked_so c.args.start.now c.args.late.now c.args.files.now c.in_ok-options.options c.empty-sink.result.bytes.items c.check_bytes-written.new.sink.bytes.items c.check_bytes-written.result c.ended.result
    c.in_ok-options.ensures c.empty-sink.ensures.bytes c.check_bytes-written.ensures.written c.ended.ensures.same c.ended.ensures.number
