use Rattle.std.proofs.Common.{◌∙◌, sym}
use Rattle.mh_codec.proofs.TableLemmas.{class_given}
use Rattle.mh_codec.proofs.tag_table.TagTable.class_as_in_profile.Goals as goal

pub returns-then-class_tag-tag : goal.returns-then-class_tag-tag
returns-then-class_tag-tag c =
    class_given c.args.self.now c.reveal_table.ensures c.in_ok-class.class c.args.tag (sym c.class_tag.ensures ∙ c.if-class_tag-tag.true)
