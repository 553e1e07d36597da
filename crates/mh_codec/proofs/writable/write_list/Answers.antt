-- The element ends behind its contents.
use Rattle.std.proofs.Common.{rules}
use Rattle.mh_der.specs.Tags.{sequence_tag}
use Rattle.mh_codec.specs.Spelling.{several, list}
use Rattle.mh_codec.proofs.WritingLemmas.{ended_with}
use Rattle.mh_codec.proofs.writable.write_list.Goals as goal

pub returns-clause-written : goal.returns-clause-written
unfolding list
returns-clause-written g c =
    ended_with c.args.out.now.items (sequence_tag) (several (g.T.Writable.spelling c.args.tags.now) c.args.members.now) (search rules) c.in_ok-start.ensures.begun c.in_ok-start.ensures.start
    c.in_ok-write_several.ensures.written c.in_ok-end_element.ensures.ended
