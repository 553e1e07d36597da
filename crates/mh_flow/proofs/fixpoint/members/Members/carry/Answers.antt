use Rattle.std.proofs.Common.{arith, ◌<◌, ℕ, ◌∙◌, sym, subst, ap, length, List, Bool}
use Rattle.mh_flow.specs.Rows.{row, width_at, IsWord}
use Rattle.mh_flow.specs.Membership.{rows_of}
use Rattle.mh_flow.proofs.MemberLemmas.{pass_none, pass_next, passed, carried_word, known_words}
use Rattle.mh_flow.proofs.fixpoint.members.Members.carry.Goals as goal

pub loop-at-init : goal.loop-at-init
loop-at-init c = pass_none (rows_of c.args.self.now) c.args.to (row c.args.self.now.known.items c.args.from) c.requires.members

pub word_at-bits-requires : goal.word_at-bits-requires
word_at-bits-requires c =
    subst (λ (t : List (List Bool)). c.args.from < length t) (sym c.as_slice-in-loop-at.ensures.value) (subst (λ (n : ℕ). c.args.from < n) (sym c.loop-at.invariant.put.height) c.requires.from)

pub put-requires-clause-members : goal.put-requires-clause-members
put-requires-clause-members c = c.loop-at.invariant.members

pub put-requires-clause-node : goal.put-requires-clause-node
put-requires-clause-node c = subst (λ (n : ℕ). c.args.to < n) (sym c.loop-at.invariant.put.height) c.requires.to

pub put-requires-clause-at : goal.put-requires-clause-at
put-requires-clause-at c =
    let wide = c.words_at-words.ensures ∙ ap (λ (t : List (List Bool)). width_at t c.args.from) c.as_slice-2.ensures.value in
    let most = known_words (rows_of c.args.self.now) c.args.from c.requires.members in
    omega (arith, c.loop-at-test.true, wide, most, c.loop-at.invariant.put.words)

pub loop-at-preserved : goal.loop-at-preserved
loop-at-preserved c =
    pass_next (rows_of c.args.self.now) (rows_of c.loop-at.self) (rows_of c.put.new.self) c.args.to (row c.args.self.now.known.items c.args.from) c.loop-at.at c.word_at-bits.result c.loop-at.invariant
    (carried_word (rows_of c.args.self.now) (rows_of c.loop-at.self) c.args.from c.args.to c.loop-at.at c.word_at-bits.result c.loop-at.invariant
    (subst (λ (t : List (List Bool)). IsWord (row t c.args.from) c.loop-at.at c.word_at-bits.result) c.as_slice-in-loop-at.ensures.value c.word_at-bits.ensures))
    c.in_ok-put.ensures.members c.in_ok-put.ensures.put

pub returns-clause-members : goal.returns-clause-members
returns-clause-members c = c.loop-at.invariant.members

pub returns-clause-put : goal.returns-clause-put
returns-clause-put c =
    let wide = c.words_at-words.ensures ∙ ap (λ (t : List (List Bool)). width_at t c.args.from) c.as_slice-2.ensures.value in
    passed (rows_of c.args.self.now) (rows_of c.loop-at.self) c.args.to (row c.args.self.now.known.items c.args.from) c.loop-at.at c.loop-at.invariant (omega (arith, c.loop-at-test.false, wide))
