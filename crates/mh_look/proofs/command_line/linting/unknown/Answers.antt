use Rattle.std.specs.Prelude.{ℕ, List, Option, [], map, codes, unwrap_or, option_map}
use Rattle.std.specs.Borrow.{Bor}
use Rattle.std.specs.List.{find}
use Rattle.std.proofs.Common.{ap, sym, ◌∙◌}
use Rattle.clap.specs.Words.{found_of}
use Rattle.clap.proofs.WalkLemmas.{find-map}
use Rattle.mh_look.specs.CommandLine.{is_no_rule}
use Rattle.mh_look.proofs.CommandLemmas.{all_lent}
use Rattle.mh_look.proofs.command_line.linting.unknown.Goals as goal

pub returns-in-Some : goal.returns-in-Some
returns-in-Some c =
    ap (option_map (λ (s : Bor (List ℕ)). s.now)) c.first_unknown.ensures
    ∙ find-map is_no_rule (λ (s : Bor (List ℕ)). s.now) c.in-Some.names.now
    ∙ sym (ap (λ (o : Option (List (List ℕ))). find is_no_rule (unwrap_or o [])) (all_lent (found_of c.args.given.now) (codes "allow") c.get_strs.result c.get_strs.ensures ∙ ap (option_map (λ (s : Bor (List (Bor (List ℕ)))). map (λ v. v.now) s.now)) c.in-Some.is))

pub returns-in-None : goal.returns-in-None
returns-in-None c =
    sym (ap (λ (o : Option (List (List ℕ))). find is_no_rule (unwrap_or o [])) (all_lent (found_of c.args.given.now) (codes "allow") c.get_strs.result c.get_strs.ensures ∙ ap (option_map (λ (s : Bor (List (Bor (List ℕ)))). map (λ v. v.now) s.now)) c.in-None.is))
