use Rattle.std.proofs.Common.{◌∙◌, ap, sym, List}
use Rattle.std.specs.List.{list_any}
use Rattle.mh_model.specs.declared.object.member.Member.{Member}
use Rattle.mh_flow.specs.Steps.{is_one_of}
use Rattle.mh_flow.proofs.ChainHoldLemmas.{no_value}
use Rattle.mh_flow.proofs.chain.sought.is_first.Goals as goal

pub returns-else-is_value : goal.returns-else-is_value
returns-else-is_value c =
    c.is_member.ensures ∙ ap (λ (ms : List Member). list_any (λ m. is_one_of c.args.sought.now.keys m.object) ms) c.first_items.ensures
    ∙ no_value (is_one_of c.args.sought.now.keys) c.args.part.now (sym c.is_value.ensures ∙ c.if-is_value.false)
