use Rattle.redplay_page.proofs.TriedLemmas.{traced_so}
use Rattle.redplay_page.proofs.trying.traced_of.Goals as goal

pub returns : goal.returns
returns c =
    traced_so c.args.start.now c.args.late.now c.args.script.now c.args.day c.args.objects c.args.files.now c.in_ok-chosen.chosen c.telling_all.result c.given.result
    c.in_ok-chosen.ensures c.telling_all.ensures (c.given.ensures _ c.trace_of-made.ensures)
