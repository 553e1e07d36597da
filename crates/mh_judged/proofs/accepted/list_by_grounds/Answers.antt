use Rattle.std.proofs.Common.{◌++◌, ap, subst, ◌∙◌, List}
use Rattle.mh_findings.specs.declared.finding.Finding.{Finding}
use Rattle.mh_flow.specs.Solved.{flow_in}
use Rattle.mh_told.specs.Reading.{Source as File}
use Rattle.mh_judged.specs.Accepted.{IsNeverList, note_findings}
use Rattle.mh_judged.proofs.accepted.list_by_grounds.Goals as goal

pub returns : goal.returns
returns c =
    let added = note_findings c.args.asked c.args.service.now c.args.folder.now c.args.grounds.now in
    let never = subst
    (λ (fs : List File). IsNeverList c.args.asked.all c.args.service.now (flow_in c.args.service.now c.args.flow.now) c.args.folder.now fs c.in_ok-found.found.items)
    c.directory-directory.ensures c.in_ok-found.ensures in
    record {
      alive = never.alive;
      is = never.is;
      list = c.in_ok-push_notes.ensures ∙ ap (λ (t : List Finding). t ++ added) never.list;
    }
