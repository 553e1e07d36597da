use Rattle.std.specs.Prelude.{◌≡◌, Some, None}
use Rattle.std.proofs.Common.{ap, ◌∙◌, sym}
use Rattle.mh_look.specs.Lines.{left_of}
use Rattle.mh_look.proofs.PartLemmas.{did_stands}
use Rattle.mh_look.proofs.report.line.guess_did.Goals as goal

pub returns-in_err-rest-clause-taken : goal.returns-in_err-rest-clause-taken
returns-in_err-rest-clause-taken c n left small rest e =
    let stands = did_stands c.args.words.now c.read_number.result c.in_ok-steps.steps c.in_ok-steps.digits n left rest c.read_number.ensures.found c.in_ok-steps.was small e in
    let told : c.guess_rest.result ≡ Some left = c.guess_rest.ensures ∙ ap left_of c.before-2.ensures ∙ stands.told in
    let none : c.guess_rest.result ≡ None = c.in_err-rest.was in
    let wrong : None ≡ Some left = sym none ∙ told in
    absurd (cc)

pub returns-clause-taken : goal.returns-clause-taken
returns-clause-taken c n left small rest e =
    let stands = did_stands c.args.words.now c.read_number.result c.in_ok-steps.steps c.in_ok-steps.digits n left rest c.read_number.ensures.found c.in_ok-steps.was small e in
    let told : c.guess_rest.result ≡ Some left = c.guess_rest.ensures ∙ ap left_of c.before-2.ensures ∙ stands.told in
    let same = stands.same in
    let was = c.in_ok-rest.was in
    cc
