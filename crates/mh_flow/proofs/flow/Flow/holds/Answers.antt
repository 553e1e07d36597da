use Rattle.std.proofs.Common.{◌≡◌, false, sym, ap, ◌∙◌}
use Rattle.std.specs.Option.{option_map_or}
use Rattle.mh_flow.specs.Rows.{has}
use Rattle.mh_flow.specs.Bridge.{is_held_at}
use Rattle.mh_flow.specs.Chart.{member_of, node_of}
use Rattle.mh_flow.proofs.BridgeLemmas.{held_exactly}
use Rattle.mh_flow.proofs.flow.Flow.holds.Goals as goal

pub returns : goal.returns
returns c =
    let v = c.args.service.now in
    let f = c.args.self.now in
    let config = c.args.config.now in
    let holder = c.args.holder.now in
    let at = c.args.at.now in
    let node = c.node_of.ensures v c.requires.chart.named (ap (λ x. x.chart.holders) c.self.view_is ∙ c.requires.chart.holders) ∙ ap (λ x. node_of v x.chart config holder) c.self.view_is in
    let member = c.member_of.ensures ∙ ap (λ x. member_of x.chart at) c.self.view_is in
    let is : c.has.result ≡ is_held_at v f.chart f.rows config holder at = c.has.ensures ∙ (λ i. option_map_or (λ u. option_map_or (has f.rows u) (member i) false) (node i) false) in
    let law = held_exactly v f.chart f.rows config holder at c.requires.chart c.requires.solved in
    (λ t. law.0 (sym is ∙ t), λ d. is ∙ law.1 d)
