use Rattle.redplay_page.proofs.ReportLemmas.{reported_so}
use Rattle.redplay_page.proofs.reporting.reported_of.Goals as goal

pub returns : goal.returns
returns c =
    reported_so c.args.start.now c.args.late.now c.args.script.now c.args.day c.args.lenient c.args.files.now c.in_ok-options.options c.empty-sink.result.bytes.items c.play_bytes-written.new.sink.bytes.items
    c.play_bytes-written.result c.ended.result c.in_ok-options.ensures c.empty-sink.ensures.bytes c.play_bytes-written.ensures.written c.ended.ensures.same c.ended.ensures.number
