-- The element ends behind its contents.
use Rattle.std.proofs.Common.{rules, ◌++◌, refl, ap}
use Rattle.mh_codec.specs.Spelling.{own, generic, reference, several, parameter_value, action}
use Rattle.mh_codec.specs.Tags.{action_tag}
use Rattle.mh_codec.proofs.WritingLemmas.{ended_with, two_written}
use Rattle.mh_codec.proofs.writing_action.ActionWritable.write.Goals as goal

pub returns-clause-written : goal.returns-clause-written
unfolding action
returns-clause-written c =
    ended_with c.args.out.now.items (own (action_tag c.args.tags.now c.args.self.now.name)) (generic c.args.tags.now reference c.args.self.now.target ++ several (parameter_value c.args.tags.now) c.args.self.now.parameters) (search rules) c.in_ok-start.ensures.begun c.in_ok-start.ensures.start
    (two_written c.begin_element.new.out.items (generic c.args.tags.now reference c.args.self.now.target) (several (parameter_value c.args.tags.now) c.args.self.now.parameters) c.in_ok-write.ensures.written (refl) c.in_ok-write_several.ensures.written (ap (several (parameter_value c.args.tags.now)) c.as_slice.ensures)) c.in_ok-end_element.ensures.ended
