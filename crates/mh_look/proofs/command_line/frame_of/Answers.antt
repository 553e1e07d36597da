use Rattle.std.specs.Prelude.{ℕ, List, Some, codes, option_map}
use Rattle.std.specs.Borrow.{Bor}
use Rattle.std.proofs.Common.{ap, sym, ◌∙◌}
use Rattle.clap.specs.Words.{found_of}
use Rattle.mh_command.specs.Values.{number_in}
use Rattle.mh_look.specs.CommandLine.{last_frame}
use Rattle.mh_command.proofs.ValueLemmas.{lent}
use Rattle.mh_look.proofs.command_line.frame_of.Goals as goal

pub returns-in-Some : goal.returns-in-Some
returns-in-Some c =
    ap Some c.number_in.ensures.number
    ∙ sym (ap (option_map (number_in last_frame 0)) (lent (found_of c.args.given.now) (codes "frame") c.get_str.result c.get_str.ensures ∙ ap (option_map (λ (s : Bor (List ℕ)). s.now)) c.in-Some.is))

pub returns-in-None : goal.returns-in-None
returns-in-None c =
    sym (ap (option_map (number_in last_frame 0)) (lent (found_of c.args.given.now) (codes "frame") c.get_str.result c.get_str.ensures ∙ ap (option_map (λ (s : Bor (List ℕ)). s.now)) c.in-None.is))
