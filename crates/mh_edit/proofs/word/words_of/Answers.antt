use Rattle.std.proofs.Common.{◌≡◌, ◌+◌, ◌-◌, ◌++◌, List, length, Option, Some, None, option_map, ap, ◌∙◌, sym, append-nil}
use Rattle.mh_base.specs.Reading.{Rest}
use Rattle.mh_edit.specs.declared.word.Word.{Word}
use Rattle.mh_edit.specs.Words.{first_word, words, words_from}
use Rattle.mh_edit.proofs.WordLemmas.{none_further, word_further}
use Rattle.mh_edit.proofs.word.words_of.Goals as goal

pub returns-in_default : goal.returns-in_default
unfolding words
returns-in_default c =
    let none : first_word c.loop.tokens ≡ None =
    sym c.next_word.ensures ∙ ap (λ (o : Option Word). option_map (λ (w : Word). (w, c.next_word.new.tokens)) o) c.in_default.is in
    sym (append-nil c.loop.found.items)
    ∙ ap (λ (ws : List Word). c.loop.found.items ++ ws) (sym (none_further (length c.args.bytes.now - c.loop.counter) c.loop.tokens none))
    ∙ c.loop.invariant

pub loop-preserved : goal.loop-preserved
loop-preserved c =
    let first : first_word c.loop.tokens ≡ Some (c.in-Some.word, c.next_word.new.tokens) =
    sym c.next_word.ensures ∙ ap (λ (o : Option Word). option_map (λ (w : Word). (w, c.next_word.new.tokens)) o) c.in-Some.is in
    ap (λ (ws : List Word). ws ++ words_from (length c.args.bytes.now - (c.loop.counter + 1)) c.next_word.new.tokens) c.in_ok-push.ensures.items
    ∙ word_further (length c.args.bytes.now) c.loop.counter c.loop.found.items c.in-Some.word c.loop.tokens c.next_word.new.tokens c.loop-test.true first
    ∙ c.loop.invariant
