-- The element ends behind its contents.
use Rattle.std.proofs.Common.{rules}
use Rattle.mh_codec.specs.Spelling.{own, reference}
use Rattle.mh_codec.specs.Tags.{variable_tag}
use Rattle.mh_codec.proofs.WritingLemmas.{ended_with}
use Rattle.mh_codec.proofs.writable.write_variable.Goals as goal

pub returns-clause-written : goal.returns-clause-written
returns-clause-written c =
    ended_with c.args.out.now.items (own (variable_tag c.args.tags.now)) (reference c.args.variable.now) (search rules) c.in_ok-start.ensures.begun c.in_ok-start.ensures.start
    c.in_ok-write.ensures.written c.in_ok-end_element.ensures.ended
