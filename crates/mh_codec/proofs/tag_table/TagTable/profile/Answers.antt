-- Where nothing is named each column is that of the profile.
use Rattle.std.proofs.Common.{◌∙◌}
use Rattle.mh_codec.proofs.ColumnLemmas.{is_table, profile_of, profile_single}
use Rattle.mh_codec.proofs.tag_table.TagTable.profile.Goals as goal

pub invariant_of-result : goal.invariant_of-result
invariant_of-result c =
    is_table _ (profile_single _ (profile_of c.as_slice-named.result.now _ (c.as_slice-named.ensures.value ∙ c.new-named.ensures.items)
    c.in_ok-classes.ensures.exact c.in_ok-attributes.ensures.exact c.in_ok-actions.ensures.exact c.in_ok-values.ensures.exact))
    c.in_ok-classes.ensures.full c.in_ok-classes.ensures.small c.in_ok-attributes.ensures.full c.in_ok-attributes.ensures.small
    c.in_ok-actions.ensures.full c.in_ok-actions.ensures.small c.in_ok-values.ensures.full c.in_ok-values.ensures.small

pub returns : goal.returns
returns c =
    profile_of c.as_slice-named.result.now _ (c.as_slice-named.ensures.value ∙ c.new-named.ensures.items)
    c.in_ok-classes.ensures.exact c.in_ok-attributes.ensures.exact c.in_ok-actions.ensures.exact c.in_ok-values.ensures.exact
