-- What is known of fields and groups with which nothing is wrong.
use Rattle.std.proofs.Common.{◌≡◌, Bool, true, false, not, if◌then◌else◌, List, Option, Some, None, is_none, refl}
use Rattle.std.specs.Option.{option_or}
use Rattle.mh_group.specs.declared.class.Class.{Class}
use Rattle.mh_group.specs.declared.misfit.MisfitWhy.{MisfitWhy}
use Rattle.mh_group.specs.declared.written.Field.{Field}
use Rattle.mh_group.specs.declared.written.Written.{Written}
use Rattle.mh_group.specs.Table.{is_group_class}
use Rattle.mh_group.specs.Fit.{is_rising, has_required, takes_each, fits_each, fields_misfit, ingredients_misfit, items_of, misfit_of, is_group}

pub if_none : (b : Bool) (w : MisfitWhy) (r : Option MisfitWhy) → (if not b then Some w else r) ≡ None → (b ≡ true) × (r ≡ None)
if_none true w r e = (refl, e)
if_none false w r e = absurd cc

pub if_no_none : (b : Bool) (w : MisfitWhy) (r : Option MisfitWhy) → (if b then Some w else r) ≡ None → (b ≡ false) × (r ≡ None)
if_no_none true w r e = absurd cc
if_no_none false w r e = (refl, e)

pub or_none : (o r : Option MisfitWhy) → option_or o r ≡ None → (o ≡ None) × (r ≡ None)
or_none None r e = (refl, e)
or_none (Some w) r e = absurd cc

pub none_is : (o : Option MisfitWhy) → is_none o ≡ true → o ≡ None
none_is None h = refl
none_is (Some w) h = absurd cc

-- what an object's fields are, where nothing is wrong with them
pub record AreRight (c : Class) (fs : List Field) : Type 0 where
  pub rising : is_rising fs ≡ true
  pub required : has_required c fs ≡ true
  pub take : takes_each c fs ≡ true
  pub fit : fits_each c fs ≡ true

pub are_right : (c : Class) (fs : List Field) → fields_misfit c fs ≡ None → AreRight c fs
are_right c fs e =
    let a = if_none (is_rising fs) _ _ e in
    let b = if_none (has_required c fs) _ _ a.1 in
    let d = if_none (takes_each c fs) _ _ b.1 in
    let f = if_none (fits_each c fs) _ _ d.1 in
    record { rising = a.0; required = b.0; take = d.0; fit = f.0 }

pub record IsRight (g : Written) : Type 0 where
  pub class : is_group_class g.class ≡ true
  pub fields : AreRight g.class g.fields
  pub items : ingredients_misfit (items_of g) ≡ None

pub is_right : (g : Written) → is_group g ≡ true → IsRight g
unfolding misfit_of
is_right g h =
    let n = none_is (misfit_of g) h in
    let a = if_none (is_group_class g.class) _ _ n in
    let b = or_none (fields_misfit g.class g.fields) (ingredients_misfit (items_of g)) a.1 in
    record { class = a.0; fields = are_right g.class g.fields b.0; items = b.1 }
