-- The element ends behind its contents.
use Rattle.std.proofs.Common.{rules}
use Rattle.mh_group.specs.declared.attribute.Attribute.TheVariants as attribute
use Rattle.mh_codec.specs.Spelling.{own, list, ingredient, items}
use Rattle.mh_codec.specs.Tags.{attribute_tag}
use Rattle.mh_codec.proofs.WritingLemmas.{ended_with}
use Rattle.mh_codec.proofs.writing.write_items.Goals as goal

pub returns-clause-written : goal.returns-clause-written
unfolding items
returns-clause-written c =
    ended_with c.args.out.now.items (own (attribute_tag c.args.tags.now attribute.Items)) (list (ingredient c.args.tags.now) c.args.items.now) (search rules) c.in_ok-start.ensures.begun c.in_ok-start.ensures.start
    c.in_ok-write_list.ensures.written c.in_ok-end_element.ensures.ended
