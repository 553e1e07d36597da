-- An action that does not go on moves nothing, wherever its target comes to.
use Rattle.std.proofs.Common.{◌≡◌, Bool, true, false, ◌&&◌, List, [], ◌∷◌, ◌++◌, Option, Some, None, refl, ap, sym, ◌∙◌}
use Rattle.std.specs.Prelude.{if◌then◌else◌}
use Rattle.std.specs.List.{flat_map}
use Rattle.std.specs.Option.{option_to_list}
use Rattle.mh_base.specs.declared.obj_ref.ObjRef.{ObjRef}
use Rattle.mh_base.specs.declared.value.Value.TheVariants as value
use Rattle.mh_model.specs.declared.act.Argument.{Argument}
use Rattle.mh_model.specs.declared.act.Argument.TheVariants as argument
use Rattle.mh_model.specs.declared.config.Config.{Config}
use Rattle.mh_model.specs.Arguments.{receivers}
use Rattle.mh_model.proofs.ListLemmas.{both_empty}
use Rattle.mh_laws.specs.Active.{leads_to}
use Rattle.mh_laws.specs.Flow.{is_given, is_list_in}
use Rattle.mh_flow.specs.declared.chain.moves.Move.{Move}
use Rattle.mh_flow.specs.Chart.{goes_on, handed_argument, hands_on, leads_on}
use Rattle.mh_flow.specs.Sites.{Site}
use Rattle.mh_flow.specs.Steps.{SearchedConfig, done_moves, filled_moves, given_moves, handed_moves, holds, led_moves, received_moves, site_moves, targets}
use Rattle.mh_flow.proofs.BridgeLemmas.{fills_nothing, leads_nowhere, or_left, or_right}

hands_nothing : (g : SearchedConfig) (x : Site) (r : ObjRef) (o : Option Argument) → hands_on o ≡ false → flat_map (handed_moves g x r) (option_to_list o) ≡ []
hands_nothing g x r None e = refl
hands_nothing g x r (Some (argument.Direct (value.Object q))) e = cc
hands_nothing g x r (Some (argument.Direct (value.Bool y))) e = refl
hands_nothing g x r (Some (argument.Direct (value.Int y))) e = refl
hands_nothing g x r (Some (argument.Direct (value.Octets y))) e = refl
hands_nothing g x r (Some (argument.Direct (value.Content y))) e = refl
hands_nothing g x r (Some (argument.Through y k)) e = cc
hands_nothing g x r (Some (argument.Receiver y)) e = refl

moves_nothing : (g : SearchedConfig) (x : Site) (r : ObjRef) → goes_on x.act ≡ false → done_moves g x r ≡ []
moves_nothing g x r e =
    both_empty (given_moves g x r ++ filled_moves g x r) (led_moves g (leads_to g.service g.config x.act.name r))
    (both_empty (given_moves g x r) (filled_moves g x r) (hand (is_given g.present x.act.name r))
    (ap (λ (z : Bool). if z && is_list_in g.present r && holds g r then flat_map (received_moves g x r) (receivers x.act.arguments) else []) (fills_nothing x.act.name leads)))
    (ap (led_moves g) (leads_nowhere g.service g.config x.act.name r leads))
  where
    leads : leads_on x.act.name ≡ false
    leads = or_right (hands_on (handed_argument x.act)) (leads_on x.act.name) e

    hand : (z : Bool) → (if z then flat_map (handed_moves g x r) (option_to_list (handed_argument x.act)) else []) ≡ []
    hand true = hands_nothing g x r (handed_argument x.act) (or_left (hands_on (handed_argument x.act)) (leads_on x.act.name) e)
    hand false = refl

all_still : (g : SearchedConfig) (x : Site) → goes_on x.act ≡ false → (rs : List ObjRef) → [] ≡ flat_map (done_moves g x) rs
all_still g x e [] = refl
all_still g x e (r ∷ rs) = λ i. sym (moves_nothing g x r e) i ++ all_still g x e rs i

pub still : (g : SearchedConfig) (x : Site) → goes_on x.act ≡ false → [] ≡ site_moves g x
still g x e = all_still g x e (targets g.present g.sets x.act.target)
