-- What an action puts that works a widget is safe.
use Rattle.std.specs.Prelude.{◌≡◌, ◌⊎◌, slice_get, Bool, true, false, if◌then◌else◌, List, [], ◌∷◌, ◌++◌, Option, Some, None, refl}
use Rattle.std.specs.List.{list_any}
use Rattle.std.proofs.Common.{inl, inr, ap, sym, subst, ◌∙◌}
use Rattle.mh_base.specs.declared.obj_ref.ObjRef.{ObjRef}
use Rattle.mh_base.specs.declared.value.Value.TheVariants as value
use Rattle.mh_base.specs.declared.value.Value.{Value}
use Rattle.mh_group.specs.declared.action_name.ActionName.TheVariants as action
use Rattle.mh_group.specs.declared.action_name.ActionName.{ActionName}
use Rattle.mh_group.specs.Table.{is_list_group}
use Rattle.mh_model.specs.declared.act.Act.{Act}
use Rattle.mh_model.specs.declared.item.Item.{Item}
use Rattle.mh_model.specs.declared.object.Body.{Body}
use Rattle.mh_model.specs.declared.object.Fixed.{Fixed}
use Rattle.mh_model.specs.declared.object.Object.{Object}
use Rattle.mh_model.specs.declared.sort.Sort.TheVariants as sort
use Rattle.mh_model.specs.declared.sort.Sort.{Sort}
use Rattle.mh_model.specs.Arguments.{values}
use Rattle.mh_model.specs.Listed.{Listed}
use Rattle.mh_model.specs.Lists.{relisted, list_changed}
use Rattle.mh_model.specs.Service.{object_at}
use Rattle.mh_model.specs.Sort.{sort_of}
use Rattle.mh_model.specs.State.{State, all}
use Rattle.mh_model.specs.Widget.{no_work}
use Rattle.mh_model.specs.Worked.{worked}
use Rattle.mh_laws.specs.Describing.{can_put, IsListed, says, IsSaid, is_list_piece, is_way_piece}
use Rattle.mh_laws.specs.Flow.{Flow}
use Rattle.mh_laws.specs.Safe.{config_of, IsSafeWork, IsSafeBy}
use Rattle.mh_model.proofs.PartLemmas.{found_there}
use Rattle.mh_laws.proofs.ActLemmas.{parts_of, IsSound}
use Rattle.mh_laws.proofs.DescribingLemmas.{widget_puts}
use Rattle.mh_laws.proofs.MemberLemmas.{listed_good, slots_safe}
use Rattle.mh_laws.proofs.PutLemmas.{IsGoodItem, Grounds, named_there, safe_all}
use Rattle.mh_laws.proofs.StateLemmas.{there}

abbrev is_whole : Sort → Bool
is_whole sort.Whole = true
is_whole _ = false

-- an action that leads elsewhere is a matter of the whole machine
pub no_way : (n : ActionName) (k : Sort) → sort_of n ≡ k → is_whole k ≡ false → list_any is_way_piece (can_put n) ≡ true → false ≡ true
no_way action.TransitionTo k is other some = sym (ap is_whole is ∙ other)
no_way action.Launch k is other some = sym (ap is_whole is ∙ other)
no_way action.Quit k is other some = sym (ap is_whole is ∙ other)
no_way _ k is other some = some

-- the grounds of an action with which nothing is wrong, done to an object that is found
pub grounds_now : {fw : Flow} (s : State) (k : IsSafeBy fw s) (a : Act) (r : ObjRef) (o : Object) → IsSound fw s k a r → object_at r (all s.objects) ≡ Some o → (list_any is_list_piece (can_put a.name) ≡ true → (x : ObjRef) → IsListed (values (all s.objects) a.arguments) o x → IsGoodItem (parts_of s) x) → (list_any is_way_piece (can_put a.name) ≡ true → false ≡ true) → Grounds s.service fw (config_of s) r (values (all s.objects) a.arguments) o (can_put a.name)
grounds_now {fw} s k a r o so e listed stays = record {
  here_it = there s k r (found_there r (all s.objects) o e);
  named = λ sends q first. named_there s k a r q so sends first;
  slots = slots_safe s k a.name r o e so.fit;
  listed = listed;
  stays = stays;
}

-- an action that is given more values than it takes changes no list

two_deleted : (v w : Value) (vs : List Value) (p : Fixed) (l : Listed) → relisted action.DelItem (v ∷ w ∷ vs) p l ≡ None
two_deleted (value.Object x) w vs p l = refl
two_deleted (value.Bool x) w vs p l = refl
two_deleted (value.Int x) w vs p l = refl
two_deleted (value.Octets x) w vs p l = refl
two_deleted (value.Content x) w vs p l = refl

two_scrolled : (v w : Value) (vs : List Value) (p : Fixed) (l : Listed) → relisted action.ScrollItems (v ∷ w ∷ vs) p l ≡ None
two_scrolled (value.Object x) w vs p l = refl
two_scrolled (value.Bool x) w vs p l = refl
two_scrolled (value.Int x) w vs p l = refl
two_scrolled (value.Octets x) w vs p l = refl
two_scrolled (value.Content x) w vs p l = refl

two_set : (v w : Value) (vs : List Value) (p : Fixed) (l : Listed) → relisted action.SetFirstItem (v ∷ w ∷ vs) p l ≡ None
two_set (value.Object x) w vs p l = refl
two_set (value.Bool x) w vs p l = refl
two_set (value.Int x) w vs p l = refl
two_set (value.Octets x) w vs p l = refl
two_set (value.Content x) w vs p l = refl

abbrev pub IsTight : ActionName → List Value → Type 0
IsTight n vs = (x : ObjRef) → slice_get vs 1 ≡ Some (value.Object x) → IsSaid vs (says n) x

pub tight_or_none : (n : ActionName) (vs : List Value) (p : Fixed) (l : Listed) → list_any is_list_piece (can_put n) ≡ true → IsTight n vs ⊎ (relisted n vs p l ≡ None)
tight_or_none action.AddItem vs p l some = inl (λ x e. inl e)
tight_or_none action.DelItem [] p l some = inl (λ x e. absurd cc)
tight_or_none action.DelItem (v ∷ []) p l some = inl (λ x e. absurd cc)
tight_or_none action.DelItem (v ∷ w ∷ vs) p l some = inr (two_deleted v w vs p l)
tight_or_none action.ScrollItems [] p l some = inl (λ x e. absurd cc)
tight_or_none action.ScrollItems (v ∷ []) p l some = inl (λ x e. absurd cc)
tight_or_none action.ScrollItems (v ∷ w ∷ vs) p l some = inr (two_scrolled v w vs p l)
tight_or_none action.SetFirstItem [] p l some = inl (λ x e. absurd cc)
tight_or_none action.SetFirstItem (v ∷ []) p l some = inl (λ x e. absurd cc)
tight_or_none action.SetFirstItem (v ∷ w ∷ vs) p l some = inr (two_set v w vs p l)
tight_or_none _ vs p l some = absurd cc

if_none : (is : Bool) (r : ObjRef) (p : Fixed) (b : Body) (m : Option Listed) → m ≡ None → (if is then list_changed r p b m else no_work b).items ≡ []
if_none true r p b m e = ap (λ (x : Option Listed). (list_changed r p b x).items) e
if_none false r p b m e = refl

pub none_listed : (n : ActionName) (vs : List Value) (r : ObjRef) (p : Fixed) (b : Body) → list_any is_list_piece (can_put n) ≡ true → relisted n vs p b.list ≡ None → (worked n vs r p b).items ≡ []
none_listed action.AddItem vs r p b some e = if_none (is_list_group p.class) r p b (relisted action.AddItem vs p b.list) e
none_listed action.DelItem vs r p b some e = if_none (is_list_group p.class) r p b (relisted action.DelItem vs p b.list) e
none_listed action.ScrollItems vs r p b some e = if_none (is_list_group p.class) r p b (relisted action.ScrollItems vs p b.list) e
none_listed action.SetFirstItem vs r p b some e = if_none (is_list_group p.class) r p b (relisted action.SetFirstItem vs p b.list) e
none_listed _ vs r p b some e = absurd cc

pub no_put_list : (n : ActionName) → sort_of n ≡ sort.Put → list_any is_list_piece (can_put n) ≡ true → false ≡ true
no_put_list action.AddItem same some = absurd cc
no_put_list action.DelItem same some = absurd cc
no_put_list action.ScrollItems same some = absurd cc
no_put_list action.SetFirstItem same some = absurd cc
no_put_list _ same some = absurd cc

-- what an action puts that works a widget
pub safe_widget : {fw : Flow} (s : State) (k : IsSafeBy fw s) (a : Act) (r : ObjRef) (o : Object) (rest : List Item) → IsSound fw s k a r → sort_of a.name ≡ sort.Widget → object_at r (all s.objects) ≡ Some o → IsSafeWork s.service fw (config_of s) rest → IsSafeWork s.service fw (config_of s) ((worked a.name (values (all s.objects) a.arguments) r o.fixed o.body).items ++ rest)
safe_widget {fw} s k a r o rest so same e behind_it = by (list_any is_list_piece (can_put a.name)) refl
  where
    vs : List Value
    vs = values (all s.objects) a.arguments

    puts : (list_any is_list_piece (can_put a.name) ≡ true → (x : ObjRef) → IsListed vs o x → IsGoodItem (parts_of s) x) → IsSafeWork s.service fw (config_of s) ((worked a.name vs r o.fixed o.body).items ++ rest)
    puts listed =
        safe_all s.service fw (config_of s) r vs o (can_put a.name) (worked a.name vs r o.fixed o.body).items rest (widget_puts a.name vs r o)
        (grounds_now s k a r o so e listed (no_way a.name sort.Widget same refl)) behind_it

    by_list : list_any is_list_piece (can_put a.name) ≡ true → IsTight a.name vs ⊎ (relisted a.name vs o.fixed o.body.list ≡ None) → IsSafeWork s.service fw (config_of s) ((worked a.name vs r o.fixed o.body).items ++ rest)
    by_list some (inl tight) = puts (listed_good s k a r o so e tight)
    by_list some (inr none) = subst (λ (is : List Item). IsSafeWork s.service fw (config_of s) (is ++ rest)) (sym (none_listed a.name vs r o.fixed o.body some none)) behind_it

    by : (b : Bool) → list_any is_list_piece (can_put a.name) ≡ b → IsSafeWork s.service fw (config_of s) ((worked a.name vs r o.fixed o.body).items ++ rest)
    by true some = by_list some (tight_or_none a.name vs o.fixed o.body.list some)
    by false none = puts (λ some. let never : false ≡ true = sym none ∙ some in absurd cc)
