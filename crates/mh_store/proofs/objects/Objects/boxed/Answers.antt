use Rattle.mh_store.specs.Trying.{with_scene}
use Rattle.mh_store.proofs.ApartLemmas.{found_apart}
use Rattle.mh_store.proofs.BothLemmas.{found_first, found_behind}
use Rattle.mh_store.proofs.objects.Objects.boxed.Goals as goal

pub returns : goal.returns
returns c = rw (← c.self.view_is) (found_apart c.self.inside.apart c.args.at.now (with_scene c.self.inside.application c.self.inside.scene) c.in-Some.kept.now c.if-self.true c.self.invariant c.in-Some.ensures)

pub returns-in-Some-boxed : goal.returns-in-Some-boxed
returns-in-Some-boxed c = found_first c.args.at.now c.args.self.now c.in-Some-boxed.kept.now (rw (← c.self.view_is) c.in-Some-boxed.ensures)

pub returns-in-None : goal.returns-in-None
returns-in-None c = found_behind c.args.at.now c.args.self.now _ (rw (← c.self.view_is) c.in-None.ensures) (rw (← c.self.view_is) c.boxed_in-in-None.ensures)
