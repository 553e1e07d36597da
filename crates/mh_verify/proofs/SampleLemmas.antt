-- Samples of samples, and one more under its variable.
use Rattle.std.specs.Prelude.{◌≡◌, Bool, true, false, cond, List, [], ◌∷◌, ◌++◌, Option, Some, None, refl}
use Rattle.std.specs.List.{list_any}
use Rattle.std.specs.Map.{lookup}
use Rattle.std.specs.Option.{is_some}
use Rattle.std.proofs.Common.{ap, sym, ◌∙◌, ◌⊎◌, inl, inr, append_assoc}
use Rattle.indexmap.proofs.CallerLemmas.{insert_entry-new}
use Rattle.indexmap.specs.IndexMap.{IndexMap, insert_entry}
use Rattle.mh_base.specs.declared.obj_ref.ObjRef.{ObjRef}
use Rattle.mh_group.specs.declared.class.Class.{Class}
use Rattle.mh_model.specs.declared.object.Fixed.{Fixed}
use Rattle.mh_model.specs.Known.{same_class, each_class_behind, each_class}
use Rattle.mh_model.specs.Reference.{same_key, same_ref}
use Rattle.mh_model.proofs.ServiceLemmas.{same_ref-same}
use Rattle.mh_laws.specs.Flow.{Sets}
use Rattle.mh_flow.proofs.IndexLemmas.{lookup_key}
use Rattle.mh_verify.specs.Samples.{AreSamples, sample, with_class, with_first}

each_again_behind : (class_of : ObjRef → Option Class) (cs : List (Option Class)) (rs : List ObjRef) → each_class_behind class_of cs (each_class_behind class_of cs rs) ≡ each_class_behind class_of cs rs
each_again_behind class_of cs [] = refl
each_again_behind class_of cs (r ∷ rs) =
    by (each_again_behind class_of cs rs) (each_again_behind class_of (cs ++ class_of r ∷ []) rs) (list_any (same_class (class_of r)) cs) refl
  where
    by : each_class_behind class_of cs (each_class_behind class_of cs rs) ≡ each_class_behind class_of cs rs
        → each_class_behind class_of (cs ++ class_of r ∷ []) (each_class_behind class_of (cs ++ class_of r ∷ []) rs) ≡ each_class_behind class_of (cs ++ class_of r ∷ []) rs
        → (t : Bool) → list_any (same_class (class_of r)) cs ≡ t → each_class_behind class_of cs (each_class_behind class_of cs (r ∷ rs)) ≡ each_class_behind class_of cs (r ∷ rs)
    by met next true e = rw e met
    by met next false e = rw (e, e) (ap (λ (qs : List ObjRef). r ∷ qs) next)

-- The next object of those that a sample is made of.
pub each_next : (class_of : ObjRef → Option Class) (qs : List ObjRef) (cs : List (Option Class)) (r : ObjRef) (rs : List ObjRef)
    → with_first qs cs (class_of r) r ++ each_class_behind class_of (with_class cs (class_of r)) rs ≡ qs ++ each_class_behind class_of cs (r ∷ rs)
each_next class_of qs cs r rs = by (list_any (same_class (class_of r)) cs) refl
  where
    by : (t : Bool) → list_any (same_class (class_of r)) cs ≡ t → with_first qs cs (class_of r) r ++ each_class_behind class_of (with_class cs (class_of r)) rs ≡ qs ++ each_class_behind class_of cs (r ∷ rs)
    by true e = rw e refl
    by false e = rw e (append_assoc qs (r ∷ []) (each_class_behind class_of (cs ++ class_of r ∷ []) rs))

-- A sample is its own sample.
pub each_again : (class_of : ObjRef → Option Class) (rs : List ObjRef) → each_class class_of (each_class class_of rs) ≡ each_class class_of rs
each_again class_of rs = each_again_behind class_of [] rs

-- what is found behind an entry more is found in front of it, or is that entry
found_last : (v k : ObjRef) (es : List (ObjRef × List ObjRef)) (qs rs : List ObjRef) → lookup (same_ref v) (es ++ (k, qs) ∷ []) ≡ Some rs → (lookup (same_ref v) es ≡ Some rs) ⊎ ((v ≡ k) × (qs ≡ rs))
found_last v k [] qs rs h = by (same_ref v k) refl h
  where
    by : (t : Bool) → same_ref v k ≡ t → cond t (Some qs) None ≡ Some rs → (lookup (same_ref v) [] ≡ Some rs) ⊎ ((v ≡ k) × (qs ≡ rs))
    by true e g = inr (same_ref-same v k e, cc)
    by false e g = absurd cc
found_last v k (e ∷ es) qs rs h = by (found_last v k es qs rs) (same_ref v e.0) refl h
  where
    by : (lookup (same_ref v) (es ++ (k, qs) ∷ []) ≡ Some rs → (lookup (same_ref v) es ≡ Some rs) ⊎ ((v ≡ k) × (qs ≡ rs)))
        → (t : Bool) → same_ref v e.0 ≡ t → cond t (Some e.1) (lookup (same_ref v) (es ++ (k, qs) ∷ [])) ≡ Some rs → (cond t (Some e.1) (lookup (same_ref v) es) ≡ Some rs) ⊎ ((v ≡ k) × (qs ≡ rs))
    by later true e g = inl g
    by later false e g = later g

-- A sample more, under its variable.
pub one_more : (ps : List Fixed) (h : Sets) (es : List (ObjRef × List ObjRef)) (v : ObjRef) → AreSamples ps h es → AreSamples ps h (es ++ (v, sample ps (h v)) ∷ [])
one_more ps h es v are w rs found = elim (found_last w v es (sample ps (h v)) rs found) [
  | inl e ↦ are w rs e
  | inr e ↦ sym e.1 ∙ ap (λ (u : ObjRef). sample ps (h u)) (sym e.0)
]

-- what is new goes last
pub insert_last : {X S : Type 0} (m : IndexMap ObjRef X S) (k : ObjRef) (x : X) → is_some (lookup (same_ref k) m.entries) ≡ false → insert_entry same_key m.entries k x ≡ m.entries ++ (k, x) ∷ []
insert_last {X} m k x none = insert_entry-new same_key m k x (lookup_key k m.entries ∙ by (lookup (same_ref k) m.entries) none)
  where
    by : (o : Option X) → is_some o ≡ false → o ≡ None
    by None h = refl
    by (Some y) h = cc
