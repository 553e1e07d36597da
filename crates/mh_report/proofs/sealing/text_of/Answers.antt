use Rattle.std.proofs.Common.{ap, ◌∙◌}
use Rattle.mh_seal_laws.specs.Told.{told_bounds}
use Rattle.mh_report.proofs.SealingLemmas.{handed_on, made_so, seal_as, sealable_as, unspelled_so}
use Rattle.mh_report.proofs.sealing.text_of.Goals as goal

pub returns-in_err-seal : goal.returns-in_err-seal
returns-in_err-seal c =
    let accepted = c.args.accepted.now in
    handed_on c.args.tags.now accepted.service c.from_residual.result c.in_err-seal.field-0.0 c.from_residual.ensures.1
    (λ other. unspelled_so c.args.tags.now accepted c.service.result.now accepted.service.programs c.in_err-seal.field-0.0 c.service.ensures.same c.bounds.ensures.verified (c.in_err-seal.ensures.refused other))

pub returns : goal.returns
returns c =
    let accepted = c.args.accepted.now in
    let stated = c.sealed_bounds-bounds.ensures ∙ ap told_bounds c.bounds.ensures.same in
    made_so c.args.tags.now accepted c.in_ok-seal.seal c.in_ok-seal_text.field-0.items c.bounds.ensures.verified
    (record {
      files = c.requires.files;
      scenes = c.requires.scenes;
      sealable = sealable_as _ _ accepted.service c.service.result.now accepted.service.programs c.service.ensures.same c.requires.files c.in_ok-seal.ensures.fit c.in_ok-seal.ensures.spelled;
      seal = seal_as accepted.service c.service.result.now accepted.service.programs accepted.bounds c.args.tags.now c.in_ok-seal.seal c.service.ensures.same (c.in_ok-seal.ensures.told accepted.bounds stated);
    })
    c.in_ok-seal_text.ensures.text
