-- The least flow: what is reached by finite chains of what is there at first, of what actions hand on and of where they
-- lead.
use Rattle.std.specs.Prelude.{◌≡◌, ℕ, Bool, true, ◌&&◌, List, [], ◌∷◌, slice_get, Option, Some}
use Rattle.std.specs.declared.cmp.Ordering.{Ordering}
use Rattle.std.specs.Ordering.{is_lt, nat_cmp, on, then_cmp}
use Rattle.std.specs.Cmp.Lexicographic.{slice_cmp}
use Rattle.std.specs.List.{Contains}
use Rattle.mh_base.specs.declared.obj_ref.ObjRef.{ObjRef}
use Rattle.mh_base.specs.declared.value.Kind.{Kind}
use Rattle.mh_base.specs.declared.value.Value.TheVariants as value
use Rattle.mh_group.specs.Table.{is_list_group}
use Rattle.mh_model.specs.declared.act.Act.{Act}
use Rattle.mh_model.specs.declared.act.Argument.{Argument}
use Rattle.mh_model.specs.declared.act.Argument.TheVariants as argument
use Rattle.mh_model.specs.declared.act.Target.{Target}
use Rattle.mh_model.specs.declared.act.Target.TheVariants as target
use Rattle.mh_model.specs.declared.config.Config.{Config}
use Rattle.mh_model.specs.declared.object.Fixed.{Fixed}
use Rattle.mh_model.specs.Arguments.{receivers}
use Rattle.mh_model.specs.Configuration.{starting, present}
use Rattle.mh_model.specs.ListItems.{has_item}
use Rattle.mh_model.specs.Property.{value_held, as_reference}
use Rattle.mh_model.specs.Service.{Service, group_parts, fresh}
use Rattle.mh_laws.specs.Active.{active_actions, leads_to}
use Rattle.mh_laws.specs.Describing as saying
use Rattle.mh_laws.specs.Describing.{says}
use Rattle.mh_laws.specs.Flow.{Flow, IsSolution, MayBe, MayHand, fills, has, is_given, is_list_in, is_reference_in, reached, reads_reference, refers}

-- a configuration is reached; a variable or list holds a reference there; a target comes to one; an argument does
pub data Fact : Type 0 where
  Reached : Config → Fact
  Held : Config → ObjRef → ObjRef → Fact
  Comes : Config → Target → ObjRef → Fact
  Hands : Config → Argument → ObjRef → Fact

pub data Derived (v : Service) : Fact → Type 0 where
  start : Derived v (Reached (starting v))
  named : (c : Config) (r : ObjRef) → Derived v (Comes c (target.Direct r) r)
  referred : (c : Config) (w q : ObjRef) → is_reference_in (present v c) w ≡ true → Derived v (Held c w q) → Derived v (Comes c (target.Through w) q)
  written : (c : Config) (q : ObjRef) → Derived v (Hands c (argument.Direct (value.Object q)) q)
  read : (c : Config) (w q : ObjRef) (k : Option Kind) → is_reference_in (present v c) w ≡ true → Derived v (Held c w q) → Derived v (Hands c (argument.Through w k) q)
  original_value : (c : Config) (p : Fixed) (q : ObjRef) → Derived v (Reached c) → Contains (present v c) p → refers p.class ≡ true → as_reference (value_held p (fresh p).body) ≡ Some q → Derived v (Held c p.key q)
  original_item : (c : Config) (p : Fixed) (q : ObjRef) → Derived v (Reached c) → Contains (present v c) p → is_list_group p.class ≡ true → has_item q (fresh p).body.list.entries ≡ true → Derived v (Held c p.key q)
  given : (c : Config) (a : Act) (n : ℕ) (x : Argument) (r q : ObjRef) → Derived v (Reached c) → Contains (active_actions (present v c)) a → Contains (says a.name) (saying.Hands n) → slice_get a.arguments n ≡ Some x → Derived v (Comes c a.target r) → is_given (present v c) a.name r ≡ true → reads_reference x a.name ≡ true → Derived v (Hands c x q) → Derived v (Held c r q)
  filled : (c : Config) (a : Act) (r x q : ObjRef) → Derived v (Reached c) → Contains (active_actions (present v c)) a → fills a.name ≡ true → Derived v (Comes c a.target r) → is_list_in (present v c) r ≡ true → Contains (receivers a.arguments) x → is_reference_in (present v c) x ≡ true → Derived v (Held c r q) → Derived v (Held c x q)
  led : (c : Config) (a : Act) (r : ObjRef) (d : Config) → Derived v (Reached c) → Contains (active_actions (present v c)) a → Derived v (Comes c a.target r) → leads_to v c a.name r ≡ Some d → Derived v (Reached d)
  passed : (c : Config) (a : Act) (r : ObjRef) (d : Config) (g : List ℕ) (p : Fixed) (q : ObjRef) → Derived v (Reached c) → Contains (active_actions (present v c)) a → Derived v (Comes c a.target r) → leads_to v c a.name r ≡ Some d → d.scene ≡ Some g → Contains (group_parts v c.app) p → Derived v (Held c p.key q) → Derived v (Held d p.key q)

-- The order of references: by name of the group, then by number.

abbrev pub by_reference : ObjRef → ObjRef → Ordering
by_reference = then_cmp (on (λ r. r.group) (slice_cmp nat_cmp)) (on (λ r. r.number) nat_cmp)

-- each is before the next
abbrev pub are_ascending : List ObjRef → Bool
are_ascending [] = true
are_ascending (q ∷ []) = true
are_ascending (q ∷ r ∷ rs) = is_lt (by_reference q r) && are_ascending (r ∷ rs)

-- the flow is a solution, has nothing but what is derived, and its sets are in order
pub record IsLeast (v : Service) (w : Flow) : Type 0 where
  pub solution : IsSolution v w
  pub reached : (c : Config) → reached w c ≡ true → Derived v (Reached c)
  pub held : (c : Config) (r q : ObjRef) → has (w.sets c) r q ≡ true → Derived v (Held c r q)
  pub ascending : (c : Config) (r : ObjRef) → are_ascending (w.sets c r) ≡ true

-- the fact holds in the flow
abbrev pub IsIn : Service → Flow → Fact → Type 0
IsIn v w (Reached c) = reached w c ≡ true
IsIn v w (Held c r q) = has (w.sets c) r q ≡ true
IsIn v w (Comes c t q) = MayBe (w.sets c) (present v c) t q
IsIn v w (Hands c x q) = MayHand (w.sets c) (present v c) x q

-- what is derived is in every solution
abbrev pub DerivedIsInEach : Type 0
DerivedIsInEach = (v : Service) (w : Flow) → IsSolution v w → (x : Fact) → Derived v x → IsIn v w x
