use Rattle.std.proofs.Common.{◌∙◌, sym}
use Rattle.mh_codec.proofs.TableLemmas.{action_given}
use Rattle.mh_codec.proofs.tag_table.TagTable.action_as_in_profile.Goals as goal

pub returns-then-action_tag-tag : goal.returns-then-action_tag-tag
returns-then-action_tag-tag c =
    action_given c.args.self.now c.reveal_table.ensures c.in_ok-action.action c.args.tag (sym c.action_tag.ensures ∙ c.if-action_tag-tag.true)
