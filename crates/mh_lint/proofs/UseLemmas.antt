-- Whether an object or a timer is used is found by sets and tables.
use Rattle.std.proofs.Common.{◌≡◌, ℕ, Bool, true, false, ◌||◌, ◌&&◌, cond, List, [], ◌∷◌, Option, None, Some, refl, ap, sym, ◌∙◌}
use Rattle.std.specs.Prelude.{ℤ, not, ◌==◌}
use Rattle.std.specs.Cmp.Lexicographic.{nat_list_eq_equiv}
use Rattle.std.specs.List.{list_any}
use Rattle.std.specs.Str.{bytes_eq}
use Rattle.std.specs.Map.{lookup}
use Rattle.std.specs.Option.{option_map_or}
use Rattle.std.proofs.lemmas.Cmp.{nat_eq_equiv}
use Rattle.std.proofs.Math.Bool.{and_comm, or-false, or-true}
use Rattle.mh_base.specs.declared.obj_ref.ObjRef.{ObjRef}
use Rattle.mh_model.specs.declared.act.Target.{Target}
use Rattle.mh_model.specs.declared.act.Target.TheVariants as target
use Rattle.mh_model.specs.Reference.{same_key, same_ref}
use Rattle.mh_model.proofs.ServiceLemmas.{same_ref-same}
use Rattle.mh_lint.specs.declared.timers.Timers.{Timers}
use Rattle.mh_lint.specs.Uses.{Numbers, has_number, is_among, is_key_of, is_named, is_through, is_unset, is_used, may_be_timer, numbers_have, table_has, waits_in_vain}

-- REFERENCES

pub same_back : (a b : ObjRef) → same_key a b ≡ same_ref b a
same_back a b =
    and_comm (a.number == b.number) (bytes_eq a.group b.group)
    ∙ (λ i. nat_list_eq_equiv.symm a.group b.group i && nat_eq_equiv.symm a.number b.number i)

-- one more, in a set
pub one_more : (b old : Bool) → cond b true old ≡ (old || b)
one_more true old = sym (or-true old)
one_more false old = sym (or-false old)

-- TARGETS

pub found_so : (ts : List Target) (r : ObjRef) → is_used ts r ≡ (list_any is_through ts || list_any (is_named r) ts)
found_so [] r = refl
found_so (target.Direct x ∷ ts) r = ap (λ (b : Bool). same_ref r x || b) (found_so ts r) ∙ by (same_ref r x) (list_any is_through ts)
  where
    by : (b c : Bool) → (b || (c || list_any (is_named r) ts)) ≡ (c || (b || list_any (is_named r) ts))
    by true true = refl
    by true false = refl
    by false c = refl
found_so (target.Through x ∷ ts) r = refl

-- TIMERS

-- timers more of a group that has some
pub had_more : (old new : List (ObjRef × Numbers)) (t : Timers) (v w : Numbers)
    → ((r : ObjRef) → lookup (same_key r) new ≡ cond (same_key t.at r) (Some w) (lookup (same_key r) old)) → lookup (same_key t.at) old ≡ Some v
    → ((n : ℤ) → numbers_have w n ≡ (numbers_have v n || has_number t.id n))
    → (r : ObjRef) (n : ℤ) → table_has new r n ≡ (table_has old r n || may_be_timer r n t)
had_more old new t v w put was have r n = ap (λ (o : Option Numbers). option_map_or (λ (x : Numbers). numbers_have x n) o false) (put r) ∙ by (same_key t.at r) refl
  where
    by : (b : Bool) → same_key t.at r ≡ b → option_map_or (λ (x : Numbers). numbers_have x n) (cond b (Some w) (lookup (same_key r) old)) false ≡ (table_has old r n || may_be_timer r n t)
    by true e =
        let here : r ≡ t.at = same_ref-same r t.at (sym (same_back t.at r) ∙ e) in
        let had : table_has old r n ≡ numbers_have v n = ap (λ (o : Option Numbers). option_map_or (λ (x : Numbers). numbers_have x n) o false) (ap (λ (q : ObjRef). lookup (same_key q) old) here ∙ was) in
        have n ∙ (λ i. sym had i || cond (sym (sym (same_back t.at r) ∙ e) i) (has_number t.id n) false)
    by false e = sym (or-false (table_has old r n)) ∙ ap (λ (b : Bool). table_has old r n || cond b (has_number t.id n) false) (sym (sym (same_back t.at r) ∙ e))

-- the first timers of a group
pub had_first : (old new : List (ObjRef × Numbers)) (t : Timers) (v w : Numbers)
    → ((r : ObjRef) → lookup (same_key r) new ≡ cond (same_key t.at r) (Some w) (lookup (same_key r) old)) → lookup (same_key t.at) old ≡ None
    → ((n : ℤ) → numbers_have v n ≡ false) → ((n : ℤ) → numbers_have w n ≡ (numbers_have v n || has_number t.id n))
    → (r : ObjRef) (n : ℤ) → table_has new r n ≡ (table_has old r n || may_be_timer r n t)
had_first old new t v w put was none have r n = ap (λ (o : Option Numbers). option_map_or (λ (x : Numbers). numbers_have x n) o false) (put r) ∙ by (same_key t.at r) refl
  where
    by : (b : Bool) → same_key t.at r ≡ b → option_map_or (λ (x : Numbers). numbers_have x n) (cond b (Some w) (lookup (same_key r) old)) false ≡ (table_has old r n || may_be_timer r n t)
    by true e =
        let here : r ≡ t.at = same_ref-same r t.at (sym (same_back t.at r) ∙ e) in
        let had : table_has old r n ≡ false = ap (λ (o : Option Numbers). option_map_or (λ (x : Numbers). numbers_have x n) o false) (ap (λ (q : ObjRef). lookup (same_key q) old) here ∙ was) in
        have n ∙ ap (λ (b : Bool). b || has_number t.id n) (none n) ∙ (λ i. sym had i || cond (sym (sym (same_back t.at r) ∙ e) i) (has_number t.id n) false)
    by false e = sym (or-false (table_has old r n)) ∙ ap (λ (b : Bool). table_has old r n || cond b (has_number t.id n) false) (sym (sym (same_back t.at r) ∙ e))

-- a link more that waits in vain
pub vain_more : (ts : List Timers) (r : ObjRef) (h : Timers) (n : ℤ) → h.id ≡ Some n → is_among ts h.at n ≡ false → same_ref r h.at ≡ waits_in_vain ts r h
vain_more ts r h n id none = by (same_ref r h.at) refl
  where
    by : (b : Bool) → same_ref r h.at ≡ b → b ≡ cond b (is_unset ts r h.id) false
    by true e = sym (ap (is_unset ts r) id ∙ ap (λ (q : ObjRef). not (is_among ts q n)) (same_ref-same r h.at e) ∙ ap not none)
    by false e = refl
