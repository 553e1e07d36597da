use Rattle.std.specs.Prelude.{◌≡◌, ◌++◌, drop}
use Rattle.mh_model.specs.Known.{each_class, each_class_behind}
use Rattle.mh_verify.specs.Samples.{class_in}
use Rattle.mh_refusals.proofs.samples.sample.Given as goal

abbrev pub invariant-loop-at : goal.invariant-loop-at
invariant-loop-at l = l.kept ++ each_class_behind (class_in l.present) l.classes.items (drop l.at-index l.objects) ≡ each_class (class_in l.present) l.objects
