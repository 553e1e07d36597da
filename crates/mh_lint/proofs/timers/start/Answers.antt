use Rattle.std.proofs.Common.{rules, ◌≡◌, cond, Some, ◌∙◌}
use Rattle.std.specs.Map.{lookup}
use Rattle.mh_model.specs.Reference.{same_key}
use Rattle.mh_lint.proofs.UseLemmas.{had_first}
use Rattle.mh_lint.proofs.timers.start.Goals as goal

pub returns : goal.returns
returns c =
    let copied = c.in_ok-key.ensures.cases in
    let same : c.in_ok-key.key ≡ c.args.timers.now.at = λ i. record { number = copied.0 i; group = copied.1 i } in
    had_first c.args.table.now.entries c.insert.new.self.entries c.args.timers.now c.new-numbers.result c.put.new.self
    (λ r. c.in_ok-insert.ensures.updates.0 r ∙ (λ i. cond (same_key (same i) r) (Some c.put.new.self) (lookup (same_key r) c.args.table.now.entries)))
    c.requires c.new-numbers.ensures c.in_ok-put.ensures
