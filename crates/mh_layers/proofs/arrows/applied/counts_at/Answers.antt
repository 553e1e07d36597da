use Rattle.std.specs.Prelude.{false, List}
use Rattle.std.proofs.Common.{ap, ◌∙◌, sym}
use Rattle.mh_model.specs.declared.act.Argument.{Argument}
use Rattle.mh_laws.specs.Price.{counted_in}
use Rattle.mh_laws.specs.View.{done_to}
use Rattle.mh_prices.specs.Meter.{onto}
use Rattle.mh_prices.specs.Meters.{finding}
use Rattle.mh_layers.specs.Applied.{puts_so}
use Rattle.mh_layers.specs.NumberedNodes.{same_node}
use Rattle.mh_layers.specs.NumberedNodeLaws.{node_itself}
use Rattle.mh_layers.specs.Numbered.{numbered, through}
use Rattle.mh_layers.specs.Reading.{around_at, number}
use Rattle.mh_layers.proofs.SuccessorLemmas.{any_among}
use Rattle.mh_layers.proofs.HeardLemmas.{among_any}
use Rattle.mh_layers.proofs.KnowingLemmas.{sought_numbers}
use Rattle.mh_layers.proofs.arrows.applied.counts_at.Goals as goal

pub returns-clause-counts : goal.returns-clause-counts
returns-clause-counts c counts =
    let s = c.args.here.now in
    let p = puts_so s.reading s.config c.args.act.now c.args.at.now in
    let m = through (number s.reading) (finding (same_node c.args.node.now)) in
    let same = ap (λ (xs : List Argument). onto m (done_to (around_at s) c.args.act.now.name xs c.args.at.now) false) c.as_slice.ensures in
    any_among (counted_in (numbered (number s.reading) p)) c.args.node.now
    (sym (sought_numbers (number s.reading) (same_node c.args.node.now) p) ∙ sym same ∙ sym c.in_ok-counts.ensures ∙ counts)

pub returns-clause-all : goal.returns-clause-all
returns-clause-all c there =
    let s = c.args.here.now in
    let p = puts_so s.reading s.config c.args.act.now c.args.at.now in
    let m = through (number s.reading) (finding (same_node c.args.node.now)) in
    let same = ap (λ (xs : List Argument). onto m (done_to (around_at s) c.args.act.now.name xs c.args.at.now) false) c.as_slice.ensures in
    c.in_ok-counts.ensures ∙ same ∙ sought_numbers (number s.reading) (same_node c.args.node.now) p
    ∙ among_any (same_node c.args.node.now) (counted_in (numbered (number s.reading) p)) c.args.node.now there (node_itself c.args.node.now)
