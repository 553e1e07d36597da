use Rattle.std.proofs.Common.{arith, List, Bool, subst}
use Rattle.mh_flow.specs.Rows.{row, IsWord}
use Rattle.mh_flow.specs.Membership.{rows_of}
use Rattle.mh_flow.proofs.MemberLemmas.{put_none, put_some, put_members}
use Rattle.mh_flow.proofs.fixpoint.members.Members.put.Goals as goal

pub returns-in_ok-ready-clause-members : goal.returns-in_ok-ready-clause-members
returns-in_ok-ready-clause-members c =
    put_members (rows_of c.ready.new.self) c.put_word.new.rows.items c.put_word-then-new-ne0.new.rows.items c.args.node c.args.at c.without-new.result c.in_ok-ready.ensures.members c.put_word.ensures c.put_word-then-new-ne0.ensures

pub returns-in_ok-ready-clause-put : goal.returns-in_ok-ready-clause-put
returns-in_ok-ready-clause-put c =
    put_some (rows_of c.args.self.now) (rows_of c.ready.new.self) c.put_word.new.rows.items c.put_word-then-new-ne0.new.rows.items c.args.node c.args.at c.args.bits c.word_at.result c.without-new.result c.without-new.ensures
    (subst (λ (t : List (List Bool)). IsWord (row t c.args.node) c.args.at c.word_at.result) c.as_slice.ensures.value c.word_at.ensures)
    (omega (arith, c.if-new-ne0.true)) c.without-new.type_inv c.in_ok-ready.ensures c.put_word.ensures c.put_word-then-new-ne0.ensures

pub returns-else-new-ne0-clause-put : goal.returns-else-new-ne0-clause-put
returns-else-new-ne0-clause-put c =
    put_none (rows_of c.args.self.now) c.args.node c.args.at c.args.bits c.word_at.result c.without-new.result c.without-new.ensures
    (subst (λ (t : List (List Bool)). IsWord (row t c.args.node) c.args.at c.word_at.result) c.as_slice.ensures.value c.word_at.ensures) c.if-new-ne0.false
