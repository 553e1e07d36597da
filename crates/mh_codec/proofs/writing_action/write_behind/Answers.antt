-- The element ends behind its contents.
use Rattle.std.proofs.Common.{rules}
use Rattle.mh_codec.specs.Spelling.{own}
use Rattle.mh_codec.specs.Tags.{value_tag}
use Rattle.mh_codec.proofs.WritingLemmas.{ended_with}
use Rattle.mh_codec.proofs.writing_action.write_behind.Goals as goal

pub returns-clause-written : goal.returns-clause-written
returns-clause-written g c =
    ended_with c.args.out.now.items (own (value_tag c.args.tags.now c.args.kind)) (g.T.Writable.spelling c.args.tags.now c.args.value.now) (search rules) c.in_ok-start.ensures.begun c.in_ok-start.ensures.start
    c.in_ok-write.ensures.written c.in_ok-end_element.ensures.ended
