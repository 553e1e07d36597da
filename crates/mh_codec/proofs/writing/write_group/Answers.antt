-- The element ends behind its contents.
use Rattle.std.proofs.Common.{rules, ◌++◌, refl, ap}
use Rattle.mh_codec.specs.Spelling.{own, named, body, group}
use Rattle.mh_codec.specs.Tags.{class_tag}
use Rattle.mh_codec.proofs.WritingLemmas.{ended_with, two_written}
use Rattle.mh_codec.proofs.writing.write_group.Goals as goal

pub returns-clause-written : goal.returns-clause-written
unfolding group
returns-clause-written c =
    ended_with c.args.out.now.items (own (class_tag c.args.tags.now c.args.group.now.class)) (named c.args.group.now.identifier 0 ++ body c.args.tags.now c.args.group.now.items c.args.group.now.fields) (search rules) c.in_ok-start.ensures.begun c.in_ok-start.ensures.start
    (two_written c.begin_element.new.out.items (named c.args.group.now.identifier 0) (body c.args.tags.now c.args.group.now.items c.args.group.now.fields) c.in_ok-write_named.ensures.written (refl) c.in_ok-write_body.ensures.written (ap (body c.args.tags.now c.args.group.now.items) c.as_slice.ensures)) c.in_ok-end_element.ensures.ended
