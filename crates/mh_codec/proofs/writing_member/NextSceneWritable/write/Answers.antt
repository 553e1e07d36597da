-- The element ends behind its contents.
use Rattle.std.proofs.Common.{rules, ◌++◌, refl, to_z-of_z}
use Rattle.mh_der.specs.Tags.{sequence_tag}
use Rattle.mh_codec.specs.Spelling.{octet_string, integer, next_scene}
use Rattle.mh_codec.proofs.WritingLemmas.{ended_with, two_written}
use Rattle.mh_codec.proofs.writing_member.NextSceneWritable.write.Goals as goal

pub returns-clause-written : goal.returns-clause-written
unfolding next_scene
returns-clause-written c =
    ended_with c.args.out.now.items (sequence_tag) (octet_string c.args.self.now.name ++ integer c.args.self.now.weight) (search rules) c.in_ok-start.ensures.begun c.in_ok-start.ensures.start
    (two_written c.begin_element.new.out.items (octet_string c.args.self.now.name) (integer c.args.self.now.weight) c.in_ok-write_name.ensures.written (refl) c.in_ok-write_integer.ensures.written (search (rules, to_z-of_z))) c.in_ok-end_element.ensures.ended
