use Rattle.std.specs.Prelude.{◌≡◌, ◌≢◌, ℕ, List, codes}
use Rattle.std.proofs.Common.{◌∙◌, sym, rules, subst}
use Rattle.mh_look.specs.Lines.{TakesShort, TakesDid}
use Rattle.mh_look.proofs.PartLemmas.{takes_fault, takes_refused, takes_did, takes_none}
use Rattle.mh_look.proofs.report.line.guess_part.Goals as goal

pub returns-then-eq-clause-taken : goal.returns-then-eq-clause-taken
returns-then-eq-clause-taken c =
    let word : c.before-word.result.now ≡ codes "fault" = search rules in
    takes_fault c.args.bytes.now c.in_ok-fault.fault c.map.result (sym c.before-word.ensures ∙ word) c.in_ok-fault.ensures.taken (λ f e. search rules)

pub returns-then-eq-2-clause-taken : goal.returns-then-eq-2-clause-taken
returns-then-eq-2-clause-taken c =
    let word : c.before-word.result.now ≡ codes "refused" = search rules in
    takes_refused c.args.bytes.now c.guess_short.result c.map-then-eq-2.result (sym c.before-word.ensures ∙ word)
    (subst (λ (bs : List ℕ). TakesShort bs c.guess_short.result) c.behind.ensures c.guess_short.ensures.taken)
    (λ n e. search rules)

pub returns-then-eq-3-clause-taken : goal.returns-then-eq-3-clause-taken
returns-then-eq-3-clause-taken c =
    let word : c.before-word.result.now ≡ codes "did" = search rules in
    takes_did c.args.bytes.now c.guess_did.result (sym c.before-word.ensures ∙ word)
    (subst (λ (bs : List ℕ). TakesDid bs c.guess_did.result) c.behind-then-eq-3.ensures c.guess_did.ensures.taken)

pub returns-clause-taken : goal.returns-clause-taken
returns-clause-taken c =
    let no_fault : c.before-word.result.now ≢ codes "fault" = search rules in
    let no_refused : c.before-word.result.now ≢ codes "refused" = search rules in
    let no_did : c.before-word.result.now ≢ codes "did" = search rules in
    takes_none c.args.bytes.now (λ e. no_fault (c.before-word.ensures ∙ e)) (λ e. no_refused (c.before-word.ensures ∙ e)) (λ e. no_did (c.before-word.ensures ∙ e))
