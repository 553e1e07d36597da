use Rattle.std.specs.Prelude.{ℕ, List, Option, [], map, codes, unwrap_or, option_map}
use Rattle.std.specs.Borrow.{Bor}
use Rattle.std.specs.List.{list_any}
use Rattle.std.specs.Str.{bytes_eq}
use Rattle.std.proofs.Common.{ap, sym, ◌∙◌}
use Rattle.clap.specs.Words.{found_of}
use Rattle.mh_lint.specs.Rules.{rule_word}
use Rattle.mh_look.proofs.CommandLemmas.{all_lent, any_map}
use Rattle.mh_look.proofs.command_line.linting.allows.Goals as goal

pub returns-in-Some : goal.returns-in-Some
returns-in-Some c =
    let word = rule_word c.args.rule in
    c.is_among.ensures
    ∙ ap (λ (w : List ℕ). list_any (λ (s : Bor (List ℕ)). bytes_eq s.now w) c.in-Some.names.now) c.word.ensures
    ∙ sym (any_map (λ (t : List ℕ). bytes_eq t word) (λ (s : Bor (List ℕ)). s.now) c.in-Some.names.now)
    ∙ sym (ap (λ (o : Option (List (List ℕ))). list_any (λ t. bytes_eq t word) (unwrap_or o [])) (all_lent (found_of c.args.given.now) (codes "allow") c.get_strs.result c.get_strs.ensures ∙ ap (option_map (λ (s : Bor (List (Bor (List ℕ)))). map (λ v. v.now) s.now)) c.in-Some.is))

pub returns-in-None : goal.returns-in-None
returns-in-None c =
    let word = rule_word c.args.rule in
    sym (ap (λ (o : Option (List (List ℕ))). list_any (λ t. bytes_eq t word) (unwrap_or o [])) (all_lent (found_of c.args.given.now) (codes "allow") c.get_strs.result c.get_strs.ensures ∙ ap (option_map (λ (s : Bor (List (Bor (List ℕ)))). map (λ v. v.now) s.now)) c.in-None.is))
