use Rattle.std.proofs.Common.{◌≡◌, ap, sym, ◌∙◌}
use Rattle.mh_model.specs.Known.{each_class}
use Rattle.mh_flow.specs.Solved.{held_by}
use Rattle.mh_verify.specs.Samples.{class_in, sample}
use Rattle.mh_verify.proofs.SampleLemmas.{each_again}
use Rattle.mh_refusals.proofs.samples.KnownBySamplesKnown.of_each_class.Goals as goal

pub returns-in-Some : goal.returns-in-Some
returns-in-Some c =
    let ps = c.self.inside.known.present.now in
    let all = held_by ps c.self.inside.known.held.now c.args.variable.now in
    let kept : c.in-Some.sample.now ≡ sample ps all = c.self.invariant c.args.variable.now c.in-Some.sample.now (sym c.in-Some.ensures) in
    rw (← c.self.view_is) (ap (each_class (class_in ps)) (c.as_slice.ensures ∙ kept) ∙ each_again (class_in ps) all)
