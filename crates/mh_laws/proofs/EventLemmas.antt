-- Events of an object that is found are safe in front of safe work.
use Rattle.std.specs.Prelude.{◌≡◌, Bool, false, ◌&&◌, List, ◌++◌, Option, Some, None, refl}
use Rattle.std.proofs.Common.{ap, sym, subst, append_assoc}
use Rattle.mh_base.specs.declared.event.EventType.TheVariants as event
use Rattle.mh_base.specs.declared.event.EventType.{EventType}
use Rattle.mh_base.specs.declared.obj_ref.ObjRef.{ObjRef}
use Rattle.mh_model.specs.declared.file.File.{File}
use Rattle.mh_model.specs.declared.item.Item.{Item}
use Rattle.mh_model.specs.declared.object.Object.{Object}
use Rattle.mh_model.specs.Lifecycle.{emit_if, rise_items, loads_if}
use Rattle.mh_model.specs.Service.{object_at}
use Rattle.mh_model.specs.State.{State, all}
use Rattle.mh_laws.specs.Flow.{Flow}
use Rattle.mh_laws.specs.Safe.{config_of, IsSafeWork, IsSafeBy}
use Rattle.mh_model.proofs.PartLemmas.{found_there}
use Rattle.mh_laws.proofs.StateLemmas.{there}
use Rattle.mh_laws.proofs.WorkLemmas.{safe_emits}

-- an event of an object that is found, if it comes
pub safe_emit : {fw : Flow} (s : State) (k : IsSafeBy fw s) (r : ObjRef) (kind : EventType) (rest : List Item) (test_of : Option Object → Bool) → test_of None ≡ false → IsSafeWork s.service fw (config_of s) rest → IsSafeWork s.service fw (config_of s) (emit_if (test_of (object_at r (all s.objects))) r kind ++ rest)
safe_emit {fw} s k r kind rest test_of none behind_it = by (object_at r (all s.objects)) refl
  where
    by : (m : Option Object) → object_at r (all s.objects) ≡ m → IsSafeWork s.service fw (config_of s) (emit_if (test_of m) r kind ++ rest)
    by None e = subst (λ (b : Bool). IsSafeWork s.service fw (config_of s) (emit_if b r kind ++ rest)) (sym none) behind_it
    by (Some o) e = safe_emits s.service fw (config_of s) (record { source = r; kind = kind; «data» = None }) (test_of (Some o)) rest (there s k r (found_there r (all s.objects) o e)) behind_it

-- that an object becomes available, in front of safe work
pub safe_rise : {fw : Flow} (s : State) (k : IsSafeBy fw s) (fs : List File) (becomes : Option Object → Bool) (r : ObjRef) (rest : List Item) → becomes None ≡ false → IsSafeWork s.service fw (config_of s) rest → IsSafeWork s.service fw (config_of s) (rise_items fs becomes r (object_at r (all s.objects)) ++ rest)
safe_rise {fw} s k fs becomes r rest none behind_it =
    subst (IsSafeWork s.service fw (config_of s)) (sym (append_assoc (emit_if (becomes (object_at r (all s.objects))) r event.IsAvailable) (emit_if (loads_if fs becomes (object_at r (all s.objects))) r event.ContentAvailable) rest))
    (safe_emit s k r event.IsAvailable _ becomes none
    (safe_emit s k r event.ContentAvailable rest (loads_if fs becomes) (ap (λ (b : Bool). b && false) none) behind_it))
