-- The element ends behind its contents.
use Rattle.std.proofs.Common.{rules}
use Rattle.mh_codec.specs.Spelling.{own, value, field}
use Rattle.mh_codec.specs.Tags.{attribute_tag}
use Rattle.mh_codec.proofs.WritingLemmas.{ended_with}
use Rattle.mh_codec.proofs.writing.FieldWritable.write.Goals as goal

pub returns-clause-written : goal.returns-clause-written
unfolding field
returns-clause-written c =
    ended_with c.args.out.now.items (own (attribute_tag c.args.tags.now c.args.self.now.attribute)) (value c.args.tags.now c.args.self.now.setting) (search rules) c.in_ok-start.ensures.begun c.in_ok-start.ensures.start
    c.in_ok-write.ensures.written c.in_ok-end_element.ensures.ended
