use Rattle.std.proofs.Common.{◌≡◌, ap, ◌∙◌}
use Rattle.mh_model.specs.declared.object.Fixed.{Fixed}
use Rattle.mh_flow.specs.Index.{Home}
use Rattle.mh_flow.proofs.IndexLemmas.{insert_last}
use Rattle.mh_flow.proofs.index.add.Goals as goal

-- the reference is new, so its entry goes last
pub returns : goal.returns
returns c =
    let copied = c.in_ok-key.ensures.cases in
    let same : c.in_ok-key.key ≡ c.get.result.now.key = λ i. record { number = copied.0 i; group = copied.1 i } in
    let home : Home = record { part = c.in_ok-part.part; place = c.args.place } in
    c.in_ok-insert.ensures.entries
    ∙ insert_last c.args.index.now c.in_ok-key.key c.args.part.now.key home (record { part = c.args.part.now; place = c.args.place }) (same ∙ ap (λ (p : Fixed). p.key) c.get.ensures) (λ i. record { part = c.in_ok-part.ensures.cases i; place = c.args.place }) c.requires
