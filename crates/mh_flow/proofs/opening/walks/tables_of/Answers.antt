use Rattle.std.proofs.Common.{[], ◌∷◌, map, ap, ◌∙◌}
use Rattle.std.proofs.lemmas.List.{map-append}
use Rattle.mh_flow.proofs.WalkLemmas.{table_more}
use Rattle.mh_flow.proofs.opening.walks.tables_of.Goals as goal

pub loop-number-preserved : goal.loop-number-preserved
loop-number-preserved c =
    table_more c.args.service.now c.loop-number.number
    (map (λ t. t.entries) c.loop-number.tables.items) (map (λ t. t.entries) c.push.new.self.items) c.in_ok-table_at.field-0.entries c.loop-number.invariant
    (ap (map (λ t. t.entries)) c.in_ok-push.ensures.items ∙ map-append (λ t. t.entries) c.loop-number.tables.items (c.in_ok-table_at.field-0 ∷ []))
    c.in_ok-table_at.ensures
