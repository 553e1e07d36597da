-- What is found grows by the token's own variable. There are no more tokens than bytes, but for one, so
-- that brackets can be counted.
use Rattle.std.proofs.Common.{rules, ◌≡◌, ◌+◌, ◌≤◌, ◌++◌, false, ◌&&◌, ◌==◌, suc, length, List, option_to_list, arith, sym, subst, ap, ◌∙◌, append_assoc}
use Rattle.mh_base.specs.Reading.{whole}
use Rattle.mh_text.specs.Left.{left}
use Rattle.mh_text.specs.Marks.{pieces_of}
use Rattle.mh_text.specs.Reading.{is_close}
use Rattle.mh_text.specs.Landmarks.{Nothing, Through, coming_of, coming_behind, through, open_behind, pieces_at, variables_from, variables_at}
use Rattle.mh_text.proofs.CountLemmas.{few_behind, few_open}
use Rattle.mh_text.proofs.VariableLemmas.{further}
use Rattle.mh_text.proofs.variables.variables_at.Goals as goal
use Rattle.mh_text.proofs.variables.variables_at.Goals.{in-Some-variable+in_ok-push, in_default-variable}

pub loop-next-init : goal.loop-next-init
unfolding variables_at
loop-next-init c =
    let first : pieces_of c.in_ok-next.next c.token_at.new.place ≡ pieces_at c.args.start (left false (whole c.args.bytes.now)).pieces =
    rw c.new-place.ensures at c.in_ok-next.ensures in
    let few : length (pieces_of c.in_ok-next.next c.token_at.new.place) ≤ suc (length c.args.bytes.now) = rw first (few_behind c.args.bytes.now c.args.start) in
    ((λ i. c.new-found.ensures.items i ++ variables_from 0 Nothing (first i)), omega (arith, few))

pub loop-next-preserved : goal.loop-next-preserved
loop-next-preserved c =
    let before = c.loop-next in
    let kept = coming_of before.coming in
    let p = c.in-Some.piece in
    let behind = before.place.pieces in
    let put : c.match-variable.found.items ≡ before.found.items ++ option_to_list c.variable.result =
    elim c.match-variable.branch [ in-Some-variable+in_ok-push w ↦ search rules | in_default-variable w ↦ search rules ] in
    let goes_on : (is_close p.sign && before.brackets == 1) ≡ false = search rules in
    let own : c.variable.result ≡ through kept p.sign = search rules in
    let brackets : c.brackets_behind-brackets.result ≡ open_behind before.brackets p.sign = search rules in
    let coming : coming_of c.coming_behind-coming.result ≡ coming_behind kept p = search rules in
    let few : before.brackets + suc (length behind) ≤ suc (length c.args.bytes.now) =
    subst (λ n. before.brackets + length (pieces_of n before.place) ≤ suc (length c.args.bytes.now)) c.in-Some.is before.invariant.1 in (
      (λ i. put i ++ variables_from (brackets i) (coming i) (c.in_ok-next-2.ensures i))
          ∙ (λ i. (before.found.items ++ option_to_list (own i)) ++ variables_from (open_behind before.brackets p.sign) (coming_behind kept p) behind)
          ∙ append_assoc before.found.items (option_to_list (through kept p.sign)) (variables_from (open_behind before.brackets p.sign) (coming_behind kept p) behind)
          ∙ ap (λ (ts : List Through). before.found.items ++ ts) (sym (further before.brackets kept p behind goes_on))
          ∙ (λ i. before.found.items ++ variables_from before.brackets kept (pieces_of (sym c.in-Some.is i) before.place))
          ∙ before.invariant.0,
      rw (brackets, c.in_ok-next-2.ensures) (few_open (suc (length c.args.bytes.now)) before.brackets p.sign (length behind) few),
    )
