use Rattle.std.proofs.Common.{◌≡◌, ℕ, List, map, IfOk, ap, ◌∙◌, subst, Bor}
use Rattle.serde_json.specs.View.{view}
use Rattle.mh_served.specs.Publishing.{notice_at, paths_to_tell}
use Rattle.mh_served.proofs.publishing.notices_of.Goals as goal

pub returns : goal.returns
returns c =
    let paths : map (λ (p : Bor (List ℕ)). p.now) c.as_slice.result.now ≡ paths_to_tell c.args.path.now c.args.findings.now c.args.told.now c.args.folder.now =
    ap (map (λ (p : Bor (List ℕ)). p.now)) c.as_slice.ensures.value ∙ c.in_ok-paths.ensures in
    subst (λ (ps : List (List ℕ)). IfOk c.notices_at.result
    (λ found. map view found.items ≡ map (notice_at c.args.unit c.args.folder.now c.args.files.now c.args.findings.now) ps)) paths c.notices_at.ensures
