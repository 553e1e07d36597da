-- The content files that a service names.
use Rattle.std.specs.Prelude.{◌≡◌, ℕ, Bool, List, [], ◌∷◌, map, Option, Some}
use Rattle.std.specs.List.{list_any, flat_map}
use Rattle.std.specs.Str.{bytes_eq}
use Rattle.mh_base.specs.declared.value.Value.{Value}
use Rattle.mh_base.specs.declared.value.Value.TheVariants as value
use Rattle.mh_group.specs.Words.{attributes}
use Rattle.mh_model.specs.declared.act.Act.{Act}
use Rattle.mh_model.specs.declared.act.Argument.{Argument}
use Rattle.mh_model.specs.declared.act.Argument.TheVariants as argument
use Rattle.mh_model.specs.declared.held.Held.{Held}
use Rattle.mh_model.specs.declared.held.Held.TheVariants as of
use Rattle.mh_model.specs.declared.object.member.Member.{Member}
use Rattle.mh_model.specs.declared.object.Fixed.{Fixed}
use Rattle.mh_model.specs.Property.{held}
use Rattle.mh_model.specs.Service.{Service}

abbrev pub value_files : Value → List (List ℕ)
value_files (value.Content name) = name ∷ []
value_files _ = []

-- what a variable holds is not written
abbrev pub argument_files : Argument → List (List ℕ)
argument_files (argument.Direct v) = value_files v
argument_files _ = []

abbrev pub act_files : Act → List (List ℕ)
act_files a = flat_map argument_files a.arguments

abbrev pub acts_files : List Act → List (List ℕ)
acts_files acts = flat_map act_files acts

-- what the slots of a member do
abbrev pub member_files : Member → List (List ℕ)
member_files m = flat_map acts_files m.slots

-- a value that is held, or those of the actions of an effect or of slots
abbrev pub held_files : Option Held → List (List ℕ)
held_files (Some (of.Value v)) = value_files v
held_files (Some (of.Effect acts)) = acts_files acts
held_files (Some (of.Members ms)) = flat_map member_files ms
held_files _ = []

-- under all attributes
abbrev pub part_files : Fixed → List (List ℕ)
part_files p = flat_map (λ a. held_files (held a p.properties)) attributes

abbrev pub parts_files : List Fixed → List (List ℕ)
parts_files ps = flat_map part_files ps

-- as often as they are named
abbrev pub files : Service → List (List ℕ)
files s = flat_map parts_files (map (λ e. e.1) s.groups)

abbrev pub names_file : Service → List ℕ → Bool
names_file s name = list_any (bytes_eq name) (files s)

-- these are the files that the service names, and no others
abbrev pub AreFilesOf : Service → List (List ℕ) → Type 0
AreFilesOf s names = (name : List ℕ) → list_any (bytes_eq name) names ≡ names_file s name
