use Rattle.std.specs.Prelude.{◌≡◌, ◌+◌, ◌∷◌, ◌≤◌, List, drop, length, refl}
use Rattle.std.proofs.Common.{ap, sym, ◌∙◌, rules}
use Rattle.std.proofs.lemmas.List.{at_drop_more}
use Rattle.mh_base.specs.declared.obj_ref.ObjRef.{ObjRef}
use Rattle.mh_model.specs.State.{all}
use Rattle.mh_state.specs.Looking.{paint_of}
use Rattle.mh_state.proofs.CellLemmas.{all_shown, all_told, next_down}
use Rattle.mh_state.proofs.cell.looking.look_down.Goals as goal

pub loop-at-init : goal.loop-at-init
loop-at-init c = record { told = refl; settled = refl }

pub loop-at-preserved : goal.loop-at-preserved
loop-at-preserved c =
    let os = all c.args.objects.now in
    let rs = c.args.refs.now in
    let n = c.loop-at.at-index in
    let r = c.at-item.result in
    let here : drop n rs ≡ r ∷ drop (n + 1) rs =
    at_drop_more (λ (qs : List ObjRef). qs) rs n r c.loop-at-test.true ∙ ap (λ (q : ObjRef). q ∷ drop (n + 1) rs) (sym c.at-item.is) in
    next_down os c.args.cell rs n r _ _ _ (paint_of c.loop-at.seen) _ here c.in_ok-seen.ensures.told c.in_ok-seen.ensures.after c.loop-at.invariant

pub returns : goal.returns
returns c =
    let os = all c.args.objects.now in
    let rs = c.args.refs.now in
    let n = c.loop-at.at-index in
    let over : length rs ≤ n = search rules in record {
      told = all_told os c.args.cell rs n _ _ _ over c.loop-at.invariant;
      shown = c.settled_as.ensures ∙ all_shown os c.args.cell rs n _ _ _ over c.loop-at.invariant;
    }
