-- A service beside the programs with which it was verified is the one that was verified.
use Rattle.std.specs.Prelude.{◌≡◌, true, List, [], ◌∷◌, refl}
use Rattle.std.proofs.Common.{ap, ◌∙◌, sym}
use Rattle.mh_model.specs.declared.program.Signature.{Signature}
use Rattle.mh_model.specs.Service.{Service}
use Rattle.mh_model.specs.Step.{is_empty}
use Rattle.mh_flow.specs.Equipment.{equipped}

pub same_programs : (s a : Service) (ps qs : List Signature) → equipped s ps ≡ a → qs ≡ a.programs → equipped s qs ≡ a
same_programs s a ps qs same given = ap (equipped s) (given ∙ sym (ap (λ (x : Service). x.programs) same)) ∙ same

pub empty_list : (xs : List Signature) → is_empty xs ≡ true → xs ≡ []
empty_list [] e = refl
empty_list (x ∷ xs) e = absurd cc
