-- Chains: how a reference came to a variable or a list. A chain begins where the reference is held at first or written,
-- and each further link is an action that handed it on.
use Rattle.std.specs.Prelude.{◌≡◌, ℕ, ◌≤◌, ◌≢◌, true, List, [], ◌∷◌, ◌++◌, length, slice_get, Option, Some}
use Rattle.std.specs.List.{Contains}
use Rattle.std.specs.declared.cmp.Ordering.{Ordering}
use Rattle.std.specs.declared.cmp.Ordering.TheVariants.{Less}
use Rattle.std.specs.Ordering.{nat_cmp, on, then_cmp}
use Rattle.std.specs.Cmp.Lexicographic.{slice_cmp}
use Rattle.mh_base.specs.declared.obj_ref.ObjRef.{ObjRef}
use Rattle.mh_base.specs.declared.value.Kind.{Kind}
use Rattle.mh_base.specs.declared.value.Value.TheVariants as value
use Rattle.mh_model.specs.declared.act.Argument.TheVariants as argument
use Rattle.mh_model.specs.declared.config.Config.{Config}
use Rattle.mh_model.specs.declared.object.Fixed.{Fixed}
use Rattle.mh_model.specs.Arguments.{receivers}
use Rattle.mh_model.specs.Configuration.{present}
use Rattle.mh_model.specs.Service.{Service, group_parts}
use Rattle.mh_laws.specs.Active.{leads_to}
use Rattle.mh_laws.specs.Describing as saying
use Rattle.mh_laws.specs.Describing.{says}
use Rattle.mh_laws.specs.Flow.{fills, is_given, is_list_in, is_reference_in, reads_reference}
use Rattle.mh_laws.specs.Least.{Derived, Reached, Comes, by_reference}
use Rattle.mh_flow.specs.declared.chain.link.Link.{Link}
use Rattle.mh_flow.specs.Chart.{firsts}
use Rattle.mh_flow.specs.Sites.{Site, sites_of}

abbrev pub link : ObjRef → ℕ → ObjRef → Link
link k n r = record { key = k; index = n; written = r }

-- the object has the reference at first
abbrev pub first_link : Fixed → Link
first_link p = link p.key 0 p.key

-- the action at this place wrote it
abbrev pub site_link : Site → ObjRef → Link
site_link x r = link x.key x.index r

-- in a configuration that is reached the action comes to be done to the object
pub record IsDone (v : Service) (c : Config) (x : Site) (r : ObjRef) : Type 0 where
  pub reached : Derived v (Reached c)
  pub site : Contains (sites_of (present v c)) x
  pub comes : Derived v (Comes c x.act.target r)

-- the links bring the reference to a variable or a list of a configuration: an object has it at first; an action writes
-- it; an action hands on what a variable holds; an action answers it, an item of a list, to a variable. From one
-- configuration to the next the objects of the application keep what they hold, and that is no link.
pub data Brings (v : Service) (q : ObjRef) : List Link → Config → ObjRef → Type 0 where
  original : (c : Config) (p : Fixed) → Derived v (Reached c) → Contains (present v c) p → Contains (firsts p) q
      → Brings v q (first_link p ∷ []) c p.key
  written : (c : Config) (x : Site) (r : ObjRef) (n : ℕ) → IsDone v c x r → Contains (says x.act.name) (saying.Hands n)
      → slice_get x.act.arguments n ≡ Some (argument.Direct (value.Object q)) → is_given (present v c) x.act.name r ≡ true
      → Brings v q (site_link x r ∷ []) c r
  read : (ls : List Link) (c : Config) (x : Site) (r y : ObjRef) (n : ℕ) (k : Option Kind) → IsDone v c x r
      → Contains (says x.act.name) (saying.Hands n) → slice_get x.act.arguments n ≡ Some (argument.Through y k)
      → is_given (present v c) x.act.name r ≡ true → reads_reference (argument.Through y k) x.act.name ≡ true → is_reference_in (present v c) y ≡ true → Brings v q ls c y
      → Brings v q (ls ++ site_link x r ∷ []) c r
  filled : (ls : List Link) (c : Config) (x : Site) (r y : ObjRef) → IsDone v c x r → fills x.act.name ≡ true
      → is_list_in (present v c) r ≡ true → Contains (receivers x.act.arguments) y → is_reference_in (present v c) y ≡ true
      → Brings v q ls c r
      → Brings v q (ls ++ site_link x y ∷ []) c y
  passed : (ls : List Link) (c : Config) (x : Site) (r : ObjRef) (d : Config) (g : List ℕ) (p : Fixed) → IsDone v c x r
      → leads_to v c x.act.name r ≡ Some d → d.scene ≡ Some g → Contains (group_parts v c.app) p → Brings v q ls c p.key
      → Brings v q ls d p.key

-- Places are in the order of their objects, and those of one object by their numbers.
abbrev pub by_action_site : Link → Link → Ordering
by_action_site = then_cmp (on (λ l. l.key) by_reference) (on (λ l. l.index) nat_cmp)

-- the links bring the reference there, no fewer do, and of those that are as many none whose places come before
pub record IsFirstChain (v : Service) (q : ObjRef) (c : Config) (r : ObjRef) (ls : List Link) : Type 0 where
  pub brings : Brings v q ls c r
  pub shortest : (ms : List Link) → Brings v q ms c r → length ls ≤ length ms
  pub first : (ms : List Link) → Brings v q ms c r → length ms ≡ length ls → slice_cmp by_action_site ms ls ≢ Less
