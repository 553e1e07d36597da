use Rattle.std.proofs.Common.{◌+◌, ℕ, length, Some, ap, ◌∙◌, sym}
use Rattle.std.specs.Option.{option_map}
use Rattle.mh_flow.proofs.LikelyLemmas.{of_application, of_neither, of_scene}
use Rattle.mh_flow.proofs.present.Present.place.Goals as goal

pub returns-then-eq : goal.returns-then-eq
returns-then-eq c =
    let p = c.self.inside in
    c.place_among.ensures
    ∙ of_application p.service.now p.config.now p.index.now.entries p.application.now p.scene.now c.args.self.now c.args.at.now c.self.invariant c.self.view_is (sym c.eq.ensures ∙ c.if-eq.true)

pub returns-in-None : goal.returns-in-None
returns-in-None c =
    let p = c.self.inside in
    ap (option_map (λ (i : ℕ). length p.application.now + i)) (sym c.in-None.is ∙ c.place_among-then-is_scene.ensures)
    ∙ of_scene p.service.now p.config.now p.index.now.entries p.application.now p.scene.now c.args.self.now c.args.at.now c.self.invariant c.self.view_is (sym c.eq.ensures ∙ c.if-eq.false) (sym c.is_scene.ensures ∙ c.if-is_scene.true)

pub returns-in-Some : goal.returns-in-Some
returns-in-Some c =
    let p = c.self.inside in
    ap Some c.place_behind.ensures
    ∙ ap (option_map (λ (i : ℕ). length p.application.now + i)) (sym c.in-Some.is ∙ c.place_among-then-is_scene.ensures)
    ∙ of_scene p.service.now p.config.now p.index.now.entries p.application.now p.scene.now c.args.self.now c.args.at.now c.self.invariant c.self.view_is (sym c.eq.ensures ∙ c.if-eq.false) (sym c.is_scene.ensures ∙ c.if-is_scene.true)

pub returns : goal.returns
returns c =
    let p = c.self.inside in
    of_neither p.service.now p.config.now p.index.now.entries p.application.now p.scene.now c.args.self.now c.args.at.now c.self.invariant c.self.view_is (sym c.eq.ensures ∙ c.if-eq.false) (sym c.is_scene.ensures ∙ c.if-is_scene.false)
