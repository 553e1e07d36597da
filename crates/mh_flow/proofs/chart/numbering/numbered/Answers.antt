use Rattle.std.proofs.Common.{List, ◌++◌, length, sym, ap, ◌∙◌}
use Rattle.mh_model.specs.declared.config.Config.{Config}
use Rattle.mh_flow.specs.Chart.{based, sets_from}
use Rattle.mh_flow.proofs.ChartLemmas.{numbered_next, numbered_once, sets_next}
use Rattle.mh_flow.proofs.chart.numbering.numbered.Goals as goal

pub push_numbered-requires : goal.push_numbered-requires
push_numbered-requires c =
    let v = c.args.service.now in
    let es = c.loop-config.numbered.entries in
    let first = length c.loop-config.sets.items in
    numbered_once v es first (length c.args.sets.now.items) c.in-Some.config c.next.new.self.rest.items c.args.configs.items
    (ap (λ (cs : List Config). es ++ based v first cs) (sym c.in-Some.ensures.steps.0) ∙ c.loop-config.invariant.0)
    c.requires

pub loop-config-preserved : goal.loop-config-preserved
loop-config-preserved c =
    let v = c.args.service.now in
    let es = c.loop-config.numbered.entries in
    let new = c.push_numbered.new.numbered.entries in
    let old = c.loop-config.sets.items in
    let sets = c.push_config.new.sets.items in
    let more = c.next.new.self.rest.items in (
      numbered_next v es new old sets c.in-Some.config c.in_ok-bases.bases c.len-number.result more c.in_ok-push_numbered.ensures c.in_ok-bases.ensures.bases c.in_ok-bases.ensures.sets
          ∙ ap (λ (cs : List Config). es ++ based v (length old) cs) (sym c.in-Some.ensures.steps.0)
          ∙ c.loop-config.invariant.0,
      sets_next v es new old sets c.in-Some.config c.in_ok-bases.bases c.len-number.result more c.in_ok-push_numbered.ensures c.len-number.ensures.len c.in_ok-bases.ensures.sets
          ∙ ap (λ (cs : List Config). old ++ sets_from v (length es) cs) (sym c.in-Some.ensures.steps.0)
          ∙ c.loop-config.invariant.1,
    )
