use Rattle.std.proofs.Common.{List, ◌++◌, ap, sym, ◌∙◌, append-nil}
use Rattle.mh_flow.specs.declared.fixpoint.constraints.Item.{Item}
use Rattle.mh_flow.proofs.OpeningLemmas.{nothing_first}
use Rattle.mh_flow.proofs.opening.numbered_config.NumberedConfig.push_firsts.Goals as goal

pub returns-else-is_holder : goal.returns-else-is_holder
returns-else-is_holder c =
    let p = c.args.self.now in
    let old = c.args.items.now.items in
    sym (append-nil old)
    ∙ ap (λ (t : List Item). old ++ t) (nothing_first p.service p.chart p.config p.bases c.args.part.now (sym c.is_holder.ensures ∙ c.if-is_holder.false))
