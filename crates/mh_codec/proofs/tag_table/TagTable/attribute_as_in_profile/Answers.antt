use Rattle.std.proofs.Common.{◌∙◌, sym}
use Rattle.mh_codec.proofs.TableLemmas.{attribute_given}
use Rattle.mh_codec.proofs.tag_table.TagTable.attribute_as_in_profile.Goals as goal

pub returns-then-attribute_tag-tag : goal.returns-then-attribute_tag-tag
returns-then-attribute_tag-tag c =
    attribute_given c.args.self.now c.reveal_table.ensures c.in_ok-attribute.attribute c.args.tag (sym c.attribute_tag.ensures ∙ c.if-attribute_tag-tag.true)
