use Rattle.std.proofs.Common.{sym, ◌∙◌, Some, None}
use Rattle.mh_codec.proofs.ColumnLemmas.{is_table, told}
use Rattle.mh_codec.proofs.tag_table.table_by.Goals as goal

pub invariant_of-result : goal.invariant_of-result
invariant_of-result c =
    is_table _ (rw (c.as_slice.ensures.value, c.as_slice-2.ensures.value, c.as_slice-3.ensures.value, c.as_slice-4.ensures.value) at (sym c.first_double.ensures ∙ c.in-None.is))
    c.in_ok-classes.ensures.full c.in_ok-classes.ensures.small c.in_ok-attributes.ensures.full c.in_ok-attributes.ensures.small
    c.in_ok-actions.ensures.full c.in_ok-actions.ensures.small c.in_ok-values.ensures.full c.in_ok-values.ensures.small

pub returns-in-Some : goal.returns-in-Some
returns-in-Some c =
    told c.args.named.now _ (Some c.in-Some.context) c.in_ok-classes.ensures.exact c.in_ok-attributes.ensures.exact c.in_ok-actions.ensures.exact c.in_ok-values.ensures.exact
    (rw (c.as_slice.ensures.value, c.as_slice-2.ensures.value, c.as_slice-3.ensures.value, c.as_slice-4.ensures.value) at (sym c.first_double.ensures ∙ c.in-Some.is))

pub returns-in-None : goal.returns-in-None
returns-in-None c =
    told c.args.named.now _ None c.in_ok-classes.ensures.exact c.in_ok-attributes.ensures.exact c.in_ok-actions.ensures.exact c.in_ok-values.ensures.exact
    (rw (c.as_slice.ensures.value, c.as_slice-2.ensures.value, c.as_slice-3.ensures.value, c.as_slice-4.ensures.value) at (sym c.first_double.ensures ∙ c.in-None.is))
