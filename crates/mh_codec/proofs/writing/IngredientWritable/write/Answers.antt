-- The element ends behind its contents.
use Rattle.std.proofs.Common.{rules, ◌++◌, ap}
use Rattle.mh_codec.specs.Spelling.{own, natural, several, field, ingredient}
use Rattle.mh_codec.specs.Tags.{class_tag}
use Rattle.mh_codec.proofs.WritingLemmas.{ended_with, two_written}
use Rattle.mh_codec.proofs.writing.IngredientWritable.write.Goals as goal

pub returns-clause-written : goal.returns-clause-written
unfolding ingredient
returns-clause-written c =
    ended_with c.args.out.now.items (own (class_tag c.args.tags.now c.args.self.now.class)) (natural c.args.self.now.number ++ several (field c.args.tags.now) c.args.self.now.fields) (search rules) c.in_ok-start.ensures.begun c.in_ok-start.ensures.start
    (two_written c.begin_element.new.out.items (natural c.args.self.now.number) (several (field c.args.tags.now) c.args.self.now.fields) c.in_ok-write_natural.ensures (search rules) c.in_ok-write_several.ensures.written (ap (several (field c.args.tags.now)) c.as_slice.ensures)) c.in_ok-end_element.ensures.ended
