use Rattle.std.proofs.Common.{List, ◌++◌, ap, sym, ◌∙◌, append-nil}
use Rattle.mh_flow.specs.declared.chain.moves.Move.{Move}
use Rattle.mh_flow.specs.Chart.{goes_on}
use Rattle.mh_flow.specs.Sites.{Site}
use Rattle.mh_flow.specs.Steps.{ground_of}
use Rattle.mh_flow.proofs.StillLemmas.{still}
use Rattle.mh_flow.proofs.chain.searched_config.SearchedConfig.push_site.Goals as goal

pub returns-else-goes_on : goal.returns-else-goes_on
returns-else-goes_on c =
    let old = c.args.moves.now.items in
    sym (append-nil old)
    ∙ ap (λ (t : List Move). old ++ t) (still (ground_of c.args.self.now) c.args.site.now (sym (c.goes_on.ensures ∙ ap (λ (x : Site). goes_on x.act) c.site.view_is) ∙ c.if-goes_on.false))
