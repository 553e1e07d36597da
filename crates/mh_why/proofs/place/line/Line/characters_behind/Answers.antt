use Rattle.std.specs.Prelude.{ℕ, ◌-◌, List, ◌≡◌, IfOk, take, drop, map}
use Rattle.std.proofs.Common.{ap, ◌∙◌, subst}
use Rattle.std.proofs.lemmas.List.{take_rest}
use Rattle.bstr.specs.Utf8.{lossy_chars}
use Rattle.mh_why.specs.Places.{Line, characters_of, spaced}
use Rattle.mh_why.proofs.StopLemmas.{seen_from}
use Rattle.mh_why.proofs.place.line.Line.characters_behind.Goals as goal

pub returns : goal.returns
returns c =
    subst (λ (cs : List ℕ). IfOk c.spaced_characters.result (λ characters. characters.items ≡ cs))
    (ap (λ (bs : List ℕ). take c.args.most (drop (c.args.left_out - c.stop_for-stop.result.column) (map spaced (lossy_chars bs)))) (take_rest c.without_terminator-shown.result.now c.stop_for-stop.result.before)
    ∙ seen_from c.without_terminator-shown.result.now c.stop_for-stop.result c.args.left_out c.args.most c.stop_for-stop.ensures.is c.stop_for-stop.ensures.before
    ∙ ap (λ (bs : List ℕ). take c.args.most (drop c.args.left_out (map spaced (lossy_chars bs)))) c.without_terminator-shown.ensures
    ∙ ap (λ (l : Line). take c.args.most (drop c.args.left_out (characters_of l.bytes))) c.self.view_is)
    c.spaced_characters.ensures
