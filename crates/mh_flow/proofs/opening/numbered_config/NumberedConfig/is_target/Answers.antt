use Rattle.std.proofs.Common.{◌≡◌, ◌∙◌, sym, ap, subst}
use Rattle.std.specs.List.{list_any}
use Rattle.mh_model.specs.Reference.{same_ref}
use Rattle.mh_flow.specs.Chart.{IsChart}
use Rattle.mh_flow.specs.Opening.{NumberedConfig}
use Rattle.mh_flow.proofs.WalkedLemmas.{untargeted, unwalked}
use Rattle.mh_flow.proofs.opening.numbered_config.NumberedConfig.is_target.Goals as goal

pub returns-then-is_targeted : goal.returns-then-is_targeted
returns-then-is_targeted c e q =
    let p = c.args.self.now in
    unwalked p.service p.chart p.number p.config p.bases c.args.variable.now q (subst (λ (n : NumberedConfig). IsChart n.service n.chart) c.self.view_is c.self.invariant.0) (sym c.is_reference.ensures ∙ e)

pub returns-else-is_targeted : goal.returns-else-is_targeted
returns-else-is_targeted c e q =
    let p = c.args.self.now in
    untargeted p.service p.chart p.number p.config p.bases c.args.variable.now q (subst (λ (n : NumberedConfig). IsChart n.service n.chart) c.self.view_is c.self.invariant.0)
    (ap (λ (n : NumberedConfig). list_any (same_ref c.args.variable.now) n.chart.targeted) (sym c.self.view_is) ∙ sym c.is_targeted.ensures ∙ c.if-is_targeted.false)
