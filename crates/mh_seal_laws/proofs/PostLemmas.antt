-- A post beside a seal.
use Rattle.std.specs.Prelude.{◌≡◌, Bool, not}
use Rattle.std.proofs.Common.{ap, refl, sym, ◌∙◌}
use Rattle.mh_model.specs.declared.input.Input.{Input}
use Rattle.mh_model.specs.declared.input.Input.TheVariants as input
use Rattle.mh_model.specs.Late.{is_written_so, written_at}
use Rattle.mh_model.specs.Service.{Service}
use Rattle.mh_model.specs.State.{State}
use Rattle.mh_model.specs.Step.{is_another_group, obstacle_if}
use Rattle.mh_seal_laws.proofs.Whole.{IsSealOf}
use Rattle.mh_seal_laws.specs.Part.{beside}
use Rattle.mh_seal_laws.specs.Seal.{Seal, is_unfit}

pub unfit_same : (k : Seal) (v : Service) (s : State) → IsSealOf k v → s.service ≡ v → (i : Input) → is_unfit k i ≡ is_another_group i s
unfit_same k v s is e (input.Key x) = refl
unfit_same k v s is e (input.Tick n) = refl
unfit_same k v s is e (input.Stream n) = refl
unfit_same k v s is e (input.Engine n) = refl
unfit_same k v s is e (input.Arrive f) = refl
unfit_same k v s is e (input.Scene g x) = ap not (is.fits g x) ∙ ap (λ (u : Service). not (is_written_so x (written_at g u.files))) (sym e)

pub obstacle_beside : (w : Service) (s : State) (b : Bool) (i : Input) → obstacle_if b i (beside w s) ≡ obstacle_if b i s
obstacle_beside w s b (input.Key x) = refl
obstacle_beside w s b (input.Tick n) = refl
obstacle_beside w s b (input.Stream n) = refl
obstacle_beside w s b (input.Engine n) = refl
obstacle_beside w s b (input.Arrive f) = refl
obstacle_beside w s b (input.Scene g x) = refl
