-- A post that puts a group in the place of a stub.
use Rattle.std.specs.Prelude.{◌≡◌, ◌≢◌, Bool, true, false, if◌then◌else◌, Option, Some, None, refl}
use Rattle.std.specs.Option.{option_or}
use Rattle.std.proofs.Common.{ap, sym, ◌∙◌}
use Rattle.mh_model.specs.declared.input.Obstacle.{Obstacle}
use Rattle.mh_model.specs.declared.input.Obstacle.TheVariants as obstacle
use Rattle.mh_machine.specs.Refusal.{refusal_for}
use Rattle.mh_machine.specs.declared.refusal.RefusedWhy.{RefusedWhy}
use Rattle.mh_machine.specs.declared.refusal.RefusedWhy.TheVariants as refused

abbrev unfilled : Bool → Option Obstacle
unfilled b = if b then Some obstacle.Differs else None

-- nothing is in the way
pub none_either : (o : Option Obstacle) (b : Bool) → o ≡ None → b ≡ false → option_or o (unfilled b) ≡ None
none_either None b e good = ap unfilled good
none_either (Some x) b e good = cc

-- what is told first is told
pub first_told : (o : Option Obstacle) (x : Obstacle) (b : Bool) → o ≡ Some x → option_or o (unfilled b) ≡ Some x
first_told None x b e = absurd cc
first_told (Some y) x b e = e

differs_alone : (y : Obstacle) → refused.Differs ≡ refusal_for y → Some obstacle.Differs ≡ Some y
differs_alone obstacle.Differs e = refl
differs_alone _ e = absurd cc

-- and where nothing else is, that the group is none that is wanted
pub unfilled_told : (o : Option Obstacle) (b : Bool) (why : RefusedWhy) (y : Obstacle) → o ≡ None
    → (why ≢ refused.NoMemory → (why ≡ refused.Differs) × (b ≡ true)) → why ≡ refusal_for y → option_or o (unfilled b) ≡ Some y
unfilled_told (Some x) b why y e is told = cc
unfilled_told None b why y e is told =
    let both = is (never_memory y why told) in
    ap unfilled both.1 ∙ differs_alone y (sym both.0 ∙ told)
  where
    never : (z : Obstacle) → refused.NoMemory ≡ refusal_for z → ⊥
    never obstacle.Ended h = absurd cc
    never _ h = absurd cc

    never_memory : (z : Obstacle) (w : RefusedWhy) → w ≡ refusal_for z → w ≢ refused.NoMemory
    never_memory z w h m = never z (sym m ∙ h)
