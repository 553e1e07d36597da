-- The tokens of a text, one further.
use Rattle.std.specs.Prelude.{◌≡◌, ◌≢◌, ℕ, zero, suc, ◌+◌, ◌-◌, ◌<◌, List, [], ◌∷◌, ◌++◌, Option, Some, None, refl}
use Rattle.std.proofs.Common.{ap, ◌∙◌, sym, arith, append_assoc}
use Rattle.mh_base.specs.Reading.{Rest}
use Rattle.mh_text.specs.declared.text_error.TextError.{TextError}
use Rattle.mh_text.specs.declared.text_error.TextError.TheVariants.{At, NoMemory}
use Rattle.mh_text.specs.Left.{Lexed, finished, bad, token, IsBad}
use Rattle.mh_edit.specs.declared.word.Word.{Word}
use Rattle.mh_edit.specs.Words.{after, first_word, word_in, words_from}

pub none_at_bad : (e : TextError) (l : Lexed) → IsBad e l → word_in l ≡ None
none_at_bad e finished is = refl
none_at_bad e (bad start) is = refl
none_at_bad (At why offset) (token kind start text rest) is = grind arith
none_at_bad NoMemory (token kind start text rest) is = absurd is

more_words : (n : ℕ) (r : Rest) → n ≢ 0 → words_from n r ≡ after (words_from (n - 1)) (first_word r)
more_words zero r some = absurd (some refl)
more_words (suc n) r some =
    let one : n ≡ suc n - 1 = omega arith in
    ap (λ (k : ℕ). after (words_from k) (first_word r)) one

pub none_further : (n : ℕ) (r : Rest) → first_word r ≡ None → words_from n r ≡ []
none_further zero r none = refl
none_further (suc n) r none = ap (after (words_from n)) none

pub word_further : (n i : ℕ) (found : List Word) (w : Word) (r rest : Rest) → i < n → first_word r ≡ Some (w, rest)
    → (found ++ w ∷ []) ++ words_from (n - (i + 1)) rest ≡ found ++ words_from (n - i) r
word_further n i found w r rest within is =
    let some : n - i ≢ 0 = λ none. omega (arith, within, none) in
    let one : n - (i + 1) ≡ n - i - 1 = omega arith in
    append_assoc found (w ∷ []) (words_from (n - (i + 1)) rest)
    ∙ ap (λ (k : ℕ). found ++ w ∷ words_from k rest) one
    ∙ ap (λ ws. found ++ ws) (sym (more_words (n - i) r some ∙ ap (after (words_from (n - i - 1))) is))
