-- The element ends behind its contents.
use Rattle.std.proofs.Common.{rules, ◌++◌, refl}
use Rattle.mh_der.specs.Tags.{sequence_tag}
use Rattle.mh_codec.specs.Spelling.{octet_string, natural, named}
use Rattle.mh_codec.proofs.WritingLemmas.{ended_with, two_written}
use Rattle.mh_codec.proofs.writing_value.write_named.Goals as goal

pub returns-clause-written : goal.returns-clause-written
unfolding named
returns-clause-written c =
    ended_with c.args.out.now.items (sequence_tag) (octet_string c.args.name.now ++ natural c.args.number) (search rules) c.in_ok-start.ensures.begun c.in_ok-start.ensures.start
    (two_written c.begin_element.new.out.items (octet_string c.args.name.now) (natural c.args.number) c.in_ok-write_name.ensures.written (refl) c.in_ok-write_natural.ensures (refl)) c.in_ok-end_element.ensures.ended
