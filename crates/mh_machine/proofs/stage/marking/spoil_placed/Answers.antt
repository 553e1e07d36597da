use Rattle.std.specs.Prelude.{◌≡◌, List, ◌++◌, ◌∷◌, [], map, take, ◌+◌}
use Rattle.std.proofs.Common.{refl, ap, sym, ◌∙◌, subst}
use Rattle.std.proofs.lemmas.List.{map-append, take_more, take_all}
use Rattle.mh_base.specs.declared.obj_ref.ObjRef.{ObjRef}
use Rattle.mh_group.specs.declared.written.Position.{Position}
use Rattle.mh_model.specs.State.{all}
use Rattle.mh_machine.specs.Marks.{SpoilsEach}
use Rattle.mh_machine.proofs.MarkLemmas.{spoils_none, spoils_more}
use Rattle.mh_machine.proofs.stage.marking.spoil_placed.Goals as goal

abbrev refs : List (ObjRef × Position) → List ObjRef
refs ps = map (λ p. p.0) ps

pub loop-place-init : goal.loop-place-init
loop-place-init c = (refl, spoils_none (all c.args.objects.now) c.args.screen.now.marks c.args.screen.now.marks refl)

pub loop-place-preserved : goal.loop-place-preserved
loop-place-preserved c =
    let i = c.loop-place.place-index in
    let ps = c.args.placed.now in
    let more : refs (take i ps) ++ c.place-item.result.0 ∷ [] ≡ refs (take (i + 1) ps) =
    sym (map-append (λ (p : ObjRef × Position). p.0) (take i ps) (c.place-item.result ∷ []))
    ∙ ap refs (sym (take_more ps i c.place-item.result c.loop-place-test.true ∙ ap (λ (x : ObjRef × Position). take i ps ++ x ∷ []) (sym c.place-item.is))) in (
      c.spoil_at.ensures.same ∙ c.loop-place.invariant.0,
      subst (λ (rs : List ObjRef). SpoilsEach (all c.args.objects.now) rs c.args.screen.now.marks c.spoil_at.new.screen.marks) more
          (spoils_more (all c.args.objects.now) (refs (take i ps)) c.place-item.result.0 c.args.screen.now.marks c.loop-place.screen.marks c.spoil_at.new.screen.marks c.loop-place.invariant.1 c.spoil_at.ensures.spoilt),
    )

pub returns-clause-same : goal.returns-clause-same
returns-clause-same c = c.loop-place.invariant.0

pub returns-clause-spoilt : goal.returns-clause-spoilt
returns-clause-spoilt c =
    subst (λ (ps : List (ObjRef × Position)). SpoilsEach (all c.args.objects.now) (refs ps) c.args.screen.now.marks c.loop-place.screen.marks)
    (take_all c.loop-place.place-index c.args.placed.now c.loop-place-test.false) c.loop-place.invariant.1
