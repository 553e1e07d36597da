-- Which services are acceptable: there is a flow, in none of whose configurations an active action, or a member of a group,
-- can be stuck for anything that its variables and lists may hold.
use Rattle.std.specs.Prelude.{◌≡◌, Bool, true, if◌then◌else◌, List}
use Rattle.std.specs.List.{list_all}
use Rattle.mh_group.specs.Table.{is_list_group}
use Rattle.mh_model.specs.declared.act.Act.{Act}
use Rattle.mh_model.specs.declared.config.Config.{Config}
use Rattle.mh_model.specs.declared.object.Fixed.{Fixed}
use Rattle.mh_model.specs.Service.{Service}
use Rattle.mh_model.specs.Configuration.{is_service, present}
use Rattle.mh_model.specs.Step.{is_empty}
use Rattle.mh_model.specs.Tokens.{members}
use Rattle.mh_model.specs.Faults.{wrongs}
use Rattle.mh_laws.specs.Active.{active_actions, known_with, item_wrongs, member_wrongs}
use Rattle.mh_laws.specs.Flow.{Flow, Sets, IsSolution, reached}

-- nothing is wrong with the action, whatever its variables refer to
abbrev pub is_right : Service → Sets → List Fixed → Act → Bool
is_right s h ps a = is_empty (wrongs (known_with s ps h) a)

-- what a token group runs and halts is there, and a visible; and so is whatever a list may have
abbrev pub has_good_members : Sets → List Fixed → Fixed → Bool
has_good_members h ps p =
    if is_list_group p.class then list_all (λ q. is_empty (item_wrongs ps p.key q)) (h p.key)
    else list_all (λ m. is_empty (member_wrongs ps m)) (members p)

abbrev pub is_free : Service → Flow → Config → Bool
is_free s w c = list_all (is_right s (w.sets c) (present s c)) (active_actions (present s c))

abbrev pub is_manned : Service → Flow → Config → Bool
is_manned s w c = list_all (has_good_members (w.sets c) (present s c)) (present s c)

-- the service is acceptable by this flow
pub record IsAcceptableBy (s : Service) (w : Flow) : Type 0 where
  pub service : is_service s ≡ true
  pub solution : IsSolution s w
  pub free : (c : Config) → reached w c ≡ true → is_free s w c ≡ true
  pub manned : (c : Config) → reached w c ≡ true → is_manned s w c ≡ true

pub record IsAcceptable (s : Service) : Type 0 where
  pub flow : Flow
  pub by : IsAcceptableBy s flow
