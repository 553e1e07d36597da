-- The element ends behind its contents.
use Rattle.std.proofs.Common.{rules, ◌++◌, to_z-of_z}
use Rattle.mh_der.specs.Tags.{sequence_tag}
use Rattle.mh_codec.specs.Spelling.{integer, position}
use Rattle.mh_codec.proofs.WritingLemmas.{ended_with, two_written}
use Rattle.mh_codec.proofs.writing_member.PositionWritable.write.Goals as goal

pub returns-clause-written : goal.returns-clause-written
unfolding position
returns-clause-written c =
    ended_with c.args.out.now.items (sequence_tag) (integer c.args.self.now.x ++ integer c.args.self.now.y) (search rules) c.in_ok-start.ensures.begun c.in_ok-start.ensures.start
    (two_written c.begin_element.new.out.items (integer c.args.self.now.x) (integer c.args.self.now.y) c.in_ok-write_integer.ensures.written (search (rules, to_z-of_z)) c.in_ok-write_integer-2.ensures.written (search (rules, to_z-of_z))) c.in_ok-end_element.ensures.ended
