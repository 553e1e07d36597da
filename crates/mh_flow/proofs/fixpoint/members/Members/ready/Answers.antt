use Rattle.std.proofs.Common.{◌∙◌, ap, List, Bool}
use Rattle.mh_flow.specs.Rows.{width_at}
use Rattle.mh_flow.specs.Membership.{rows_of}
use Rattle.mh_flow.proofs.MemberLemmas.{ready_new, ready_waits}
use Rattle.mh_flow.proofs.fixpoint.members.Members.ready.Goals as goal

pub returns-in_ok-lay_out-2 : goal.returns-in_ok-lay_out-2
returns-in_ok-lay_out-2 c =
    ready_new (rows_of c.args.self.now) c.args.node c.lay_out.new.rows.items c.lay_out-then-words_at-eq0.new.rows.items c.push.new.self.items c.requires.members c.requires.node c.in_ok-lay_out.ensures c.in_ok-lay_out-2.ensures c.in_ok-push.ensures.items

pub returns-else-words_at-eq0 : goal.returns-else-words_at-eq0
returns-else-words_at-eq0 c =
    ready_waits (rows_of c.args.self.now) c.args.node c.words_at.result c.lay_out.new.rows.items c.requires.members c.in_ok-lay_out.ensures
    (c.words_at.ensures ∙ ap (λ (t : List (List Bool)). width_at t c.args.node) c.as_slice.ensures.value) c.if-words_at-eq0.false
