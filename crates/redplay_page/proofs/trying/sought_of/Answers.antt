use Rattle.redplay_page.proofs.TriedLemmas.{sought_so}
use Rattle.redplay_page.proofs.trying.sought_of.Goals as goal

pub returns : goal.returns
returns c =
    sought_so c.args.start.now c.args.late.now c.args.day c.args.files.now c.in_ok-chosen.chosen c.fault_script.result c.found.result c.in_ok-chosen.ensures c.fault_script.ensures c.found.ensures
