-- The element ends behind its contents.
use Rattle.std.proofs.Common.{rules, ◌++◌, refl, ap}
use Rattle.mh_der.specs.Tags.{sequence_tag}
use Rattle.mh_codec.specs.Spelling.{reference, several, list, action, member}
use Rattle.mh_codec.proofs.WritingLemmas.{ended_with, two_written}
use Rattle.mh_codec.proofs.writing_member.MemberWritable.write.Goals as goal

pub returns-clause-written : goal.returns-clause-written
unfolding member
returns-clause-written c =
    ended_with c.args.out.now.items (sequence_tag) (reference c.args.self.now.object ++ several (list (action c.args.tags.now)) c.args.self.now.slots) (search rules) c.in_ok-start.ensures.begun c.in_ok-start.ensures.start
    (two_written c.begin_element.new.out.items (reference c.args.self.now.object) (several (list (action c.args.tags.now)) c.args.self.now.slots) c.in_ok-write.ensures.written (refl) c.in_ok-write_several.ensures.written (ap (several (list (action c.args.tags.now))) c.as_slice.ensures)) c.in_ok-end_element.ensures.ended
