-- `none` makes the handle of no session, whose address is null.
use mathlib.Core.Path.{refl}
use mathlib.Core.List.{List, [], ◌∷◌}
use lib.Dec.{T, lit<}
use mir.Val.{Val, vnull, vstruct, vcons, vnil, has_ty, WT}
use base.Logic.{emp, id⊢}
use base.Fml.{ftrue, fsep}
use types.Kit.{‵, raw, ◌⊛◌, ◌$◌, ◌∵◌, !, qed, done, move, drop, use1, split, join, fsplit, fjoin, feq_i, fpack, suffices}
use types.Part.{agg}
use types.Run.{enter, lit, no_more, and_then, returns}
use types.ByLocal.{alloc_all, pass_all, free_all, look_at, get, sets}
use denote.Exit.{yes}
use denote.RattleType.{Valss}
use denote.RawPtr.{Ptr, RawPtr, null_ptr}
use denote.Signature.{plain}
use denote.Steps.{nothing}
use denote.Struct.Owning.{shape}
use denote.Struct.Struct.{within}
use denote.Triple.Walked.{Stays, walk_of, says, stay_dropped, Goes-dropped, ends_at}
use Rattle.core.proofs.alloc.Calls.{α}
use Rattle.std_alloc.proofs.BoxSteps.Form.{P, owning, box_ty}
use Rattle.std_alloc.proofs.ResultValues.{and_tt}
use Rattle.std.proofs.raw_atomic.Walks.{proved}
use Rattle.std.specs.Prelude.{None}
use Rattle.std_heap.specs.contracts.Global.{the_row as Heap}
use Rattle.std_heap.proofs.Global.TheLaws as heap
use Rattle.redplay_page.proofs.AsBox.{E}
use Rattle.redplay_page.specs.contracts.handle.Handle.{the_row as H0}
use Rattle.redplay_page.specs.contracts.handle.Handle.none as f
use Rattle.redplay_page.proofs.handle.Handle.none.Statement.{statement}
use Rattle.redplay_page.proofs.handle.Handle.none.Code as code

abbrev stayed : Stays f.ended.signature.params f.ended.kept
stayed = (stay_dropped _ yes, tt)

pub none_spec : {M : Type 1} → statement M
none_spec 𝓤 𝓛 𝓜 𝓡 wired =
    let c = f.clauses 𝓛 𝓜.mem 𝓡.returns in let W = walk_of 𝓛 f.ended stayed c in
    proved 𝓛 f.ended stayed c 𝓜 𝓡 (Goes-dropped 𝓛 0 (plain (λ _. Heap)) yes (λ κs x w. refl), tt)
    f.Key.name code.function (code.unfolded 𝓤 𝓛.H 𝓜 𝓡 wired)
    (λ κs. ((λ h. heap.lowers.lowered h ∷ []), tt)) (λ κs. (heap.lowers.val_is, tt)) (λ κs qs bounds a _ are.
    let hv : Val = heap.lowers.lowered a.0 in
    let y : W.Ghost = ((κs, qs, bounds, a, (hv ∷ [], tt)), tt) in
    let fits = (heap.the_row_laws.lawful 𝓛).typed a.0 _ are.0 in
    let v : Val = vstruct (vcons vnull (vcons hv vnil)) in
    let typed : T (has_ty (box_ty E) v) × WT v = (and_tt (has_ty (α E.al) hv) fits.0.0, (record { fits = lit< tt }, (fits.0.1, tt))) in
    let made : H0.Denot = record { at = null_ptr; alloc = a.0; session = None } in
    qed 𝓛 ((‵ ftrue ⊛ ‵ (fsep (Heap.own_val a.0 (hv ∷ [])) ftrue)) ∷ raw (emp 𝓤) ∷ []) ∵ split ! $ drop ! $ fsplit ! $ move ! (1 ∷ 2 ∷ []) $ drop ! $ drop ! $
    feq_i ! Ptr null_ptr null_ptr refl $ nothing ! $ move ! (2 ∷ 0 ∷ []) $ fjoin ! $ feq_i ! (List Val) (vnull ∷ []) (vnull ∷ []) refl $ fjoin ! $
    feq_i ! (List Val) (v ∷ []) (v ∷ []) refl $ fjoin ! $ fpack ! (Valss (RawPtr ∷ P E ∷ [])) (within (shape (owning E)) (null_ptr, (a.0, tt)) (v ∷ [])) (vnull ∷ [], (hv ∷ [], tt)) $ fjoin ! $
    use1 𝓛 (‵ (H0.own_val made (v ∷ []))) (id⊢ 𝓤 _) $
    enter ! _ _ _ _ _ $ alloc_all ! (λ l. pass_all ! refl fits $
    sets ! (agg ! (and_then ! (lit ! tt) (and_then ! (get ! refl) (no_more !)))) refl typed $
    returns ! (look_at ! 0 refl) $ free_all ! refl $
    suffices ! _ (ends_at 𝓛 f.ended stayed c y v made (tt, tt) (tt, tt)) $ says ! refl $
    nothing ! $ nothing ! $ fjoin ! $ join ! $ nothing ! $ join ! $ done !))
