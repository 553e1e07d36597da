use Rattle.std.specs.Prelude.{List, ◌∷◌}
use Rattle.std.proofs.Common.{◌∙◌, ap, subst}
use Rattle.mh_model.specs.Service.{Service}
use Rattle.mh_refusals.specs.declared.told.Told.{Told}
use Rattle.mh_refusals.specs.Listed.{AreRefusals}
use Rattle.mh_judged.specs.Others.{told_findings}
use Rattle.mh_judged.specs.Refusals.{refusal_finding}
use Rattle.mh_judged.proofs.ListLemmas.{kept_ok}
use Rattle.mh_judged.proofs.judged.list_by.Goals as goal

pub returns : goal.returns
returns c =
    let r = c.args.refusal.now in
    let folder = c.args.folder.now in
    let fs = c.args.directory.now in
    kept_ok c.list_told.result
    (λ found same. record {
      told = c.in_ok-told.told.items;
      all = subst (λ (v : Service). AreRefusals v c.args.most c.in_ok-told.told.items) c.new-service.ensures c.in_ok-told.ensures;
      list = same ∙ ap (λ (ts : List Told). refusal_finding folder fs c.args.start.now r ∷ told_findings r.service folder fs ts) c.as_slice.ensures.value;
    })
    c.list_told.ensures
