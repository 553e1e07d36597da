use Rattle.std.specs.Prelude.{◌≡◌, ℕ, Bool, false, List, ◌++◌, if◌then◌else◌, codes}
use Rattle.std.specs.Str.{bytes_eq}
use Rattle.std.proofs.Common.{rules, ap, append_assoc, sym, ◌∙◌}
use Rattle.std.proofs.lemmas.Result.{on_ok_weaker}
use Rattle.mh_why.specs.declared.explanation.line.TheConstants.{SHOWS_NONE, SHOWS_SCENE}
use Rattle.mh_why.proofs.explanation.more.put_scene.Goals as goal

pub returns : goal.returns
returns c =
    let text = c.args.text.now in
    let scene = c.args.scene.now in
    let other : bytes_eq scene (codes "-") ≡ false = search rules in
    on_ok_weaker c.put-3.result
    (λ h. h ∙ ap (λ (front : List ℕ). front ++ scene) c.in_ok-put.ensures ∙ append_assoc text SHOWS_SCENE.now scene
    ∙ ap (λ (b : Bool). text ++ (if b then SHOWS_NONE.now else SHOWS_SCENE.now ++ scene)) (sym other))
    c.put-3.ensures
