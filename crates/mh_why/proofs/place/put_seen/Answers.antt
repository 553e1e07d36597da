use Rattle.std.specs.Prelude.{ℕ, List, ◌≡◌, ◌++◌, ◌-◌, OnOk, drop, take}
use Rattle.std.specs.List.{prefix_len}
use Rattle.std.proofs.Common.{ap, ◌∙◌, arith, subst, sym}
use Rattle.mh_why.specs.LineWords.{is_in_word}
use Rattle.mh_why.specs.Lines.{first_by, shown_behind}
use Rattle.mh_why.specs.Places.{Line, characters_of, window}
use Rattle.mh_why.proofs.WindowLemmas.{first_seen, window_seen}
use Rattle.mh_why.proofs.place.put_seen.Goals as goal

pub returns : goal.returns
returns c =
    let line = c.args.line.now in
    let column = c.args.column in
    let cs = characters_of line.bytes in
    let first = c.first_shown-first.result in
    let left_out = c.saturating_sub.result in
    let margin : left_out ≡ column - 40 = c.saturating_sub.ensures in
    let begins = c.first_shown-first.ensures.exact ∙ ap (λ (xs : List ℕ). first_by column (prefix_len is_in_word xs)) c.requires.seen ∙ first_seen 111 column cs (omega arith) in
    let seen = c.requires.seen ∙ ap (λ (k : ℕ). take 111 (drop k cs)) (sym margin) in
    subst (λ (shown : List ℕ). OnOk c.put_window.result (c.put_window.new.text ≡ c.args.text.now ++ shown))
    (ap (λ (l : Line). window l.number c.behind.result.now first (column - first) c.characters_meant.result) c.line.view_is
    ∙ ap (λ (xs : List ℕ). window line.number xs first (column - first) c.characters_meant.result) c.behind.ensures
    ∙ window_seen line.number 111 left_out first (column - first) c.characters_meant.result cs c.args.characters.now seen (omega (arith, margin, c.first_shown-first.ensures.from))
    (omega (arith, margin, c.first_shown-first.ensures.within)) (omega (arith, margin, c.first_shown-first.ensures.within))
    ∙ ap (λ (count : ℕ). window line.number (drop first cs) first (column - first) count) c.characters_meant.ensures
    ∙ ap (shown_behind line column c.args.size) begins)
    c.put_window.ensures
