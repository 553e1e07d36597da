-- What goes in and what comes out, one parameter in front of the others.
use Rattle.std.specs.Prelude.{◌≡◌, Bool, true, false, cond, ◌||◌, List, [], ◌∷◌, ◌++◌, map, Some, refl}
use Rattle.std.specs.List.{find, list_any}
use Rattle.std.specs.Option.{is_some}
use Rattle.std.proofs.Common.{sym}
use Rattle.mh_model.specs.declared.act.Argument.{Argument}
use Rattle.mh_model.specs.declared.act.Argument.TheVariants as argument
use Rattle.mh_model.specs.declared.object.Object.{Object}
use Rattle.mh_model.specs.declared.program.Param.{Param}
use Rattle.mh_model.specs.declared.program.Param.TheVariants as param
use Rattle.mh_model.specs.Arguments.{values, value_in}
use Rattle.mh_model.specs.Programs.{ins, outs}
use Rattle.mh_actions.proofs.FilterLemmas.{in_front}

pub ins_behind : (os : List Object) (p : Param) (ps : List Param) (x : Argument) (xs : List Argument) → values os (ins (p ∷ ps) (x ∷ xs)) ≡ values os (ins (p ∷ []) (x ∷ [])) ++ values os (ins ps xs)
ins_behind os (param.In p) ps x xs = sym (in_front (value_in os) (value_in os x) (values os (ins ps xs)))
ins_behind os (param.Out p) ps x xs = refl

pub outs_behind : (p : Param) (ps : List Param) (x : Argument) (xs : List Argument) → outs (p ∷ ps) (x ∷ xs) ≡ outs (p ∷ []) (x ∷ []) ++ outs ps xs
outs_behind (param.In p) ps x xs = refl
outs_behind (param.Out p) ps (argument.Through v k) xs = refl
outs_behind (param.Out p) ps _ xs = refl

-- one is found by what it is seen as just where one of what they are seen as passes
pub any_found : {X Y : Type 0} (p : Y → Bool) (f : X → Y) (xs : List X) → is_some (find (λ x. p (f x)) xs) ≡ list_any p (map f xs)
any_found p f [] = refl
any_found p f (x ∷ xs) = by (p (f x)) (any_found p f xs)
  where
    by : (b : Bool) → is_some (find (λ x. p (f x)) xs) ≡ list_any p (map f xs) → is_some (cond b (Some x) (find (λ x. p (f x)) xs)) ≡ (b || list_any p (map f xs))
    by true below = refl
    by false below = below
