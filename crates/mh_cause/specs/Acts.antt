-- The action of which a refusal is told.
use Rattle.std.specs.Prelude.{ℕ, ◌-◌, ◌==◌, List, [], ◌∷◌, length, slice_get, nat_lt, if◌then◌else◌, Option, Some, None}
use Rattle.std.specs.List.{find}
use Rattle.mh_group.specs.declared.attribute.Attribute.TheVariants as attribute
use Rattle.mh_model.specs.declared.act.Act.{Act}
use Rattle.mh_model.specs.declared.object.member.Member.{Member}
use Rattle.mh_model.specs.declared.object.Fixed.{Fixed}
use Rattle.mh_model.specs.Property.{as_effect, held}
use Rattle.mh_model.specs.Service.{Service, group_parts}
use Rattle.mh_model.specs.Tokens.{members}
use Rattle.mh_cause.specs.Refusing.{Refused}

-- the object with this number
abbrev pub numbered : ℕ → List Fixed → Option Fixed
numbered n ps = find (λ (p : Fixed). p.key.number == n) ps

-- the action before which so many stand: one of these, or of those behind
abbrev pub either : ℕ → List Act → (ℕ → Option Act) → Option Act
either n acts behind = if nat_lt n (length acts) then slice_get acts n else behind (n - length acts)

abbrev pub in_slots : ℕ → List (List Act) → Option Act
in_slots n [] = None
in_slots n (e ∷ es) = either n e (λ k. in_slots k es)

-- how many of so many are left behind these
abbrev pub left_behind : ℕ → List (List Act) → ℕ
left_behind n [] = n
left_behind n (e ∷ es) = left_behind (n - length e) es

abbrev pub or_behind : Option Act → Option Act → Option Act
or_behind (Some a) other = Some a
or_behind None other = other

abbrev pub in_members : ℕ → List Member → Option Act
in_members n [] = None
in_members n (m ∷ ms) = or_behind (in_slots n m.slots) (in_members (left_behind n m.slots) ms)

-- the effects of an object in their order, slots last

unfoldable pub behind_closedown : Fixed → ℕ → Option Act
behind_closedown p n = either n (as_effect (held attribute.LinkEffect p.properties)) (λ k. in_members k (members p))

unfoldable pub behind_startup : Fixed → ℕ → Option Act
behind_startup p n = either n (as_effect (held attribute.OnCloseDown p.properties)) (behind_closedown p)

unfoldable pub in_object : Fixed → ℕ → Option Act
in_object p n = either n (as_effect (held attribute.OnStartUp p.properties)) (behind_startup p)

-- the action with this number, from 1 on
abbrev pub act_in : ℕ → Option Fixed → Option Act
act_in n None = None
act_in n (Some p) = in_object p (n - 1)

-- the members of the object of which the refusal is told

abbrev pub members_in : Option Fixed → List Member
members_in None = []
members_in (Some p) = members p

unfoldable pub members_of : Service → Refused → List Member
members_of s r = members_in (numbered r.object (group_parts s r.group))

unfoldable pub act_of : Service → Refused → Option Act
act_of s r = act_in r.index (numbered r.object (group_parts s r.group))
