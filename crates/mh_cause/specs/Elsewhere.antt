-- Other groups than the one that is named.
use Rattle.std.specs.Prelude.{ℕ, ◌==◌, Bool, true, if◌then◌else◌, List, [], ◌++◌, map, filter, codes, Option, Some, None}
use Rattle.std.specs.Fmt.{decimal}
use Rattle.mh_group.specs.declared.action_name.ActionName.{ActionName}
use Rattle.mh_group.specs.declared.action_name.ActionName.TheVariants as action
use Rattle.mh_group.specs.Table.{is_application, is_scene}
use Rattle.mh_model.specs.Configuration.{is_group_of}
use Rattle.mh_model.specs.Service.{Service}
use Rattle.mh_cause.specs.declared.phrases.TheConstants as told

-- the groups to which the action can lead

unfoldable pub is_meant : Service → Option ActionName → List ℕ → Bool
is_meant s (Some action.TransitionTo) g = is_group_of is_scene s g
is_meant s (Some action.Launch) g = is_group_of is_application s g
is_meant s a g = true

abbrev pub meant_names : Service → Option ActionName → List (List ℕ)
meant_names s a = filter (is_meant s a) (map (λ e. e.0) s.groups)

abbrev pub applications : Service → List (List ℕ)
applications s = meant_names s (Some action.Launch)

-- an application that has such an object, and how that is written

unfoldable pub reference_told : ℕ → List ℕ → List ℕ
reference_told n g = g ++ told.BEHIND_NAME.now ++ decimal n ++ codes ")`"

-- the application itself has the number 0
abbrev pub has_words : ℕ → List ℕ
has_words n = if n == 0 then told.ITSELF_IS.now else told.HAS_SUCH.now

unfoldable pub written_told : ℕ → List ℕ → List ℕ
written_told n g = told.THE_APPLICATION.now ++ g ++ has_words n ++ reference_told n g

unfoldable pub elsewhere : ℕ → Option (List ℕ) → List ℕ
elsewhere n None = []
elsewhere n (Some g) = written_told n g
