use Rattle.std.specs.Prelude.{◌≡◌, ◌-◌, ◌<◌, true, ◌==◌}
use Rattle.std.proofs.Common.{arith, get_or, rules, sym}
use Rattle.std.proofs.lemmas.Bool.{not-true}
use Rattle.mh_base.proofs.FolderLemmas.{folder_of-take}
use Rattle.mh_base.proofs.group_name.folder_of.Goals as goal
use Rattle.mh_base.proofs.group_name.folder_of.Goals.{then-loop-end-test+else-path-end-ne47, else-loop-end-test}

pub returns : goal.returns
returns c =
    let ends : 0 < c.loop-end.end → (get_or c.args.path.now (c.loop-end.end - 1) 0 == 47) ≡ true = λ (above : 0 < c.loop-end.end). elim c.loop-end-test.branch [
      | then-loop-end-test+else-path-end-ne47 w ↦ search rules
      | else-loop-end-test w ↦ absurd (omega arith)
    ] in
    sym (folder_of-take c.args.path.now c.loop-end.end c.loop-end.invariant.within (λ k past inside. not-true _ (c.loop-end.invariant.none k past inside)) ends)
