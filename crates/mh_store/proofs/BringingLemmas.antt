-- Objects with a text that was brought, put at their places.
use Rattle.std.proofs.Common.{◌≡◌, ℕ, zero, suc, ◌+◌, Bool, true, false, if◌then◌else◌, List, [], ◌∷◌, ◌++◌, length, refl, ap, sym, subst, ◌∙◌, append_assoc, arith}
use Rattle.std.specs.Prelude.{None, slice_get, slice_set}
use Rattle.std.proofs.lemmas.List.{length-append}
use Rattle.std.proofs.Math.Seq.{set-append_seam}
use Rattle.indexmap.specs.IndexMap.{set_value_at}
use Rattle.mh_base.specs.declared.obj_ref.ObjRef.{ObjRef}
use Rattle.mh_model.specs.declared.object.Object.{Object}
use Rattle.mh_model.specs.Rules.{with_text, text_brought}
use Rattle.mh_model.specs.State.{Objects}
use Rattle.mh_store.specs.declared.ready.Ready.{Ready}
use Rattle.mh_store.specs.Bringing.{with_brought, ready_from, all_put, entries_put, keys_of, AreOwn}
use Rattle.mh_store.specs.Table.{IsKeyed, objects_of}

-- Putting

pub objects-put : (rs : List Ready) (es : List (ℕ × Object)) → objects_of (entries_put rs es) ≡ all_put rs (objects_of es)
objects-put [] es = refl
objects-put (r ∷ rs) es = objects-put rs (set_value_at es r.place r.kept) ∙ ap (all_put rs) (objects-set es r.place r.kept)
  where
    objects-set : (fs : List (ℕ × Object)) (i : ℕ) (o : Object) → objects_of (set_value_at fs i o) ≡ slice_set (objects_of fs) i o
    objects-set [] i o = refl
    objects-set (e ∷ fs) zero o = refl
    objects-set (e ∷ fs) (suc i) o = ap (λ (os : List Object). e.1 ∷ os) (objects-set fs i o)

-- where there is no such place nothing is put
pub put_nowhere : (es : List (ℕ × Object)) (i : ℕ) (o : Object) → None ≡ slice_get (objects_of es) i → es ≡ set_value_at es i o
put_nowhere [] i o none = refl
put_nowhere (e ∷ es) zero o none = absurd cc
put_nowhere (e ∷ es) (suc i) o none = ap (λ (t : List (ℕ × Object)). e ∷ t) (put_nowhere es i o none)

-- nor where there is no object
pub put_among_none : (rs : List Ready) → [] ≡ all_put rs []
put_among_none [] = refl
put_among_none (r ∷ rs) = put_among_none rs

keys-set : (es : List (ℕ × Object)) (i : ℕ) (o : Object) → keys_of (objects_of (set_value_at es i o)) ≡ slice_set (keys_of (objects_of es)) i o.fixed.key
keys-set [] i o = refl
keys-set (e ∷ es) zero o = refl
keys-set (e ∷ es) (suc i) o = ap (λ (ks : List ObjRef). e.1.fixed.key ∷ ks) (keys-set es i o)

keyed-set : (g : List ℕ) (es : List (ℕ × Object)) (i : ℕ) (o : Object) → slice_set (keys_of (objects_of es)) i o.fixed.key ≡ keys_of (objects_of es) → IsKeyed g es → IsKeyed g (set_value_at es i o)
keyed-set g [] i o own keyed = tt
keyed-set g (e ∷ es) zero o own keyed =
    let same : o.fixed.key ≡ e.1.fixed.key = cc in
    (same ∙ keyed.0, keyed.1)
keyed-set g (e ∷ es) (suc i) o own keyed =
    let rest : slice_set (keys_of (objects_of es)) i o.fixed.key ≡ keys_of (objects_of es) = cc in
    (keyed.0, keyed-set g es i o rest keyed.1)

-- each object stays under its number
pub keyed-put : (g : List ℕ) (rs : List Ready) (es : List (ℕ × Object)) → AreOwn rs (keys_of (objects_of es)) → IsKeyed g es → IsKeyed g (entries_put rs es)
keyed-put g [] es own keyed = keyed
keyed-put g (r ∷ rs) es own keyed =
    let same : keys_of (objects_of es) ≡ keys_of (objects_of (set_value_at es r.place r.kept)) = sym (keys-set es r.place r.kept ∙ own.0) in
    keyed-put g rs (set_value_at es r.place r.kept) (subst (AreOwn rs) same own.1) (keyed-set g es r.place r.kept own.0 keyed)

-- What was made of the objects of a group is put among them

own_from : (is : ObjRef → Bool) (text : List ℕ) (os : List Object) (n : ℕ) (ks : List ObjRef) → n ≡ length ks → AreOwn (ready_from n is text os) (ks ++ keys_of os)
own_from is text [] n ks at = tt
own_from is text (o ∷ os) n ks at =
    let longer : n + 1 ≡ length (ks ++ o.fixed.key ∷ []) = omega (arith, at, length-append ks (o.fixed.key ∷ [])) in
    let joined = append_assoc ks (o.fixed.key ∷ []) (keys_of os) in
    by (is o.fixed.key) (subst (AreOwn (ready_from (n + 1) is text os)) joined (own_from is text os (n + 1) (ks ++ o.fixed.key ∷ []) longer))
  where
    by : (b : Bool) → AreOwn (ready_from (n + 1) is text os) (ks ++ keys_of (o ∷ os)) → AreOwn ((if b then record { place = n; kept = with_brought text o } ∷ [] else []) ++ ready_from (n + 1) is text os) (ks ++ keys_of (o ∷ os))
    by true rest = (ap (λ (i : ℕ). slice_set (ks ++ keys_of (o ∷ os)) i o.fixed.key) at ∙ set-append_seam ks o.fixed.key (keys_of os) o.fixed.key, rest)
    by false rest = rest

pub own_all : (is : ObjRef → Bool) (text : List ℕ) (os : List Object) → AreOwn (ready_from 0 is text os) (keys_of os)
own_all is text os = own_from is text os 0 [] refl

put_from : (is : ObjRef → Bool) (text : List ℕ) (os : List Object) (n : ℕ) (ps : List Object) → n ≡ length ps → all_put (ready_from n is text os) (ps ++ os) ≡ ps ++ with_text is text os
put_from is text [] n ps at = refl
put_from is text (o ∷ os) n ps at = by (is o.fixed.key) (λ x. behind x (put_from is text os (n + 1) (ps ++ x ∷ []) (longer x)))
  where
    longer : (x : Object) → n + 1 ≡ length (ps ++ x ∷ [])
    longer x = omega (arith, at, length-append ps (x ∷ []))

    behind : (x : Object) → all_put (ready_from (n + 1) is text os) ((ps ++ x ∷ []) ++ os) ≡ (ps ++ x ∷ []) ++ with_text is text os → all_put (ready_from (n + 1) is text os) (ps ++ x ∷ os) ≡ ps ++ x ∷ with_text is text os
    behind x rest =
        ap (all_put (ready_from (n + 1) is text os)) (sym (append_assoc ps (x ∷ []) os))
        ∙ rest
        ∙ append_assoc ps (x ∷ []) (with_text is text os)

    by : (b : Bool) → ((x : Object) → all_put (ready_from (n + 1) is text os) (ps ++ x ∷ os) ≡ ps ++ x ∷ with_text is text os) → all_put ((if b then record { place = n; kept = with_brought text o } ∷ [] else []) ++ ready_from (n + 1) is text os) (ps ++ o ∷ os) ≡ ps ++ (if b then with_brought text o else o) ∷ with_text is text os
    by true rest =
        ap (all_put (ready_from (n + 1) is text os)) (ap (λ (i : ℕ). slice_set (ps ++ o ∷ os) i (with_brought text o)) at ∙ set-append_seam ps o os (with_brought text o))
        ∙ rest (with_brought text o)
    by false rest = rest o

pub put_text : (is : ObjRef → Bool) (text : List ℕ) (os : List Object) → all_put (ready_from 0 is text os) os ≡ with_text is text os
put_text is text os = put_from is text os 0 [] refl

-- The same of what was made, as it came out

pub own_made : (is : ObjRef → Bool) (text : List ℕ) (os : List Object) (rs : List Ready) → rs ≡ ready_from 0 is text os → AreOwn rs (keys_of os)
own_made is text os rs made = subst (λ (qs : List Ready). AreOwn qs (keys_of os)) (sym made) (own_all is text os)

put_made : (is : ObjRef → Bool) (text : List ℕ) (os after : List Object) (rs : List Ready) → rs ≡ ready_from 0 is text os → after ≡ all_put rs os → after ≡ with_text is text os
put_made is text os after rs made put = put ∙ ap (λ (qs : List Ready). all_put qs os) made ∙ put_text is text os

pub both_brought : (is : ObjRef → Bool) (text : List ℕ) (os : Objects) (own others : List Object) (rs qs : List Ready) → rs ≡ ready_from 0 is text os.application → qs ≡ ready_from 0 is text os.scene → own ≡ all_put rs os.application → others ≡ all_put qs os.scene → record os { application = own; scene = others } ≡ text_brought is text os
both_brought is text os own others rs qs first second put put_too = λ i. record {
  application = put_made is text os.application own rs first put i;
  scene = put_made is text os.scene others qs second put_too i;
}
