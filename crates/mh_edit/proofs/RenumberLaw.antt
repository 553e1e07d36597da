-- The words of a text in which an object has another number.
use Rattle.std.proofs.Common.{◌≡◌, ◌≢◌, ℕ, zero, suc, ◌+◌, ◌-◌, ◌<◌, ◌≤◌, inl, Bool, true, false, if◌then◌else◌, List, [], ◌∷◌, ◌++◌, length, take, drop, decimal, refl, ap, ap₂, sym, ◌∙◌, subst, arith, append_assoc, length-append, le_refl, rules, ◌^◌}
use Rattle.std.specs.List.{list_all}
use Rattle.std.proofs.lemmas.Fmt.{decimal_nonempty, digits_decimal}
use Rattle.std.proofs.lemmas.Str.Parse.{IsNumeralModel, numerals_by_fold}
use Rattle.mh_base.specs.Reading.{Rest, whole}
use Rattle.mh_base.specs.declared.obj_ref.ObjRef.{ObjRef}
use Rattle.mh_text.specs.declared.token.kind.TokenKind.{TokenKind}
use Rattle.mh_text.specs.declared.token.kind.TokenKind.TheVariants as kind
use Rattle.mh_text.specs.Bytes.{is_digit, number_behind}
use Rattle.mh_text.specs.Words.{AreDigits, IsWord, needs_gap, Written, AreWords}
use Rattle.mh_text.proofs.ExactLemmas.{IsNext, last_word, next_word}
use Rattle.mh_text.proofs.WordLemmas.{begins}
use Rattle.mh_edit.specs.declared.walk.Stand.{Stand}
use Rattle.mh_edit.specs.declared.word.Extent.{Extent}
use Rattle.mh_edit.specs.declared.word.Word.{Word}
use Rattle.mh_edit.specs.Objects.{is_use, uses}
use Rattle.mh_edit.specs.Renumbering.{replaced_from, with_number, OnlyNumbersChange}
use Rattle.mh_edit.specs.Senses.{sense_of}
use Rattle.mh_edit.specs.Walk.{at_first, entered, role_in, spots_from, stand_behind}
use Rattle.mh_edit.specs.Words.{after, word_in, words, words_from}
use Rattle.mh_edit.proofs.PlaceLemmas.{IsPlaced, token_placed, use_is_integer}
use Rattle.mh_edit.proofs.WordLemmas.{none_further}

-- TOKENS THAT BEGIN FURTHER BEHIND

abbrev BeginBehind : ℕ → List Extent → Type 0
BeginBehind n [] = Unit {0}
BeginBehind n (e ∷ es) = n ≤ e.start

take_past : (xs bs : List ℕ) (n : ℕ) → take (length xs + n) (xs ++ bs) ≡ xs ++ take n bs
take_past [] bs n = let none : 0 + n ≡ n = omega arith in ap (λ (k : ℕ). take k bs) none
take_past (x ∷ xs) bs n =
    let more : suc (length xs) + n ≡ suc (length xs + n) = omega arith in
    ap (λ (k : ℕ). take k (x ∷ (xs ++ bs))) more ∙ ap (λ (l : List ℕ). x ∷ l) (take_past xs bs n)

drop_past : (xs bs : List ℕ) (n : ℕ) → drop (length xs + n) (xs ++ bs) ≡ drop n bs
drop_past [] bs n = let none : 0 + n ≡ n = omega arith in ap (λ (k : ℕ). drop k bs) none
drop_past (x ∷ xs) bs n =
    let more : suc (length xs) + n ≡ suc (length xs + n) = omega arith in
    ap (λ (k : ℕ). drop k (x ∷ (xs ++ bs))) more ∙ drop_past xs bs n

replaced_past : (start : ℕ) (es : List Extent) (new xs bs : List ℕ) → BeginBehind (start + length xs) es
    → replaced_from start es new (xs ++ bs) ≡ xs ++ replaced_from (start + length xs) es new bs
replaced_past start [] new xs bs far = refl
replaced_past start (e ∷ es) new xs bs far =
    let front : e.start - start ≡ length xs + (e.start - (start + length xs)) = omega (arith, far) in
    let end : e.start + e.length - start ≡ length xs + (e.start + e.length - (start + length xs)) = omega (arith, far) in
    ap₂ (λ (x y : List ℕ). x ++ (new ++ replaced_from (e.start + e.length) es new y))
    (ap (λ (k : ℕ). take k (xs ++ bs)) front ∙ take_past xs bs (e.start - (start + length xs)))
    (ap (λ (k : ℕ). drop k (xs ++ bs)) end ∙ drop_past xs bs (e.start + e.length - (start + length xs)))
    ∙ append_assoc xs (take (e.start - (start + length xs)) bs)
    (new ++ replaced_from (e.start + e.length) es new (drop (e.start + e.length - (start + length xs)) bs))

-- where a text begins says nothing of one that is empty
replaced_at : (a b : ℕ) (es : List Extent) (new bs : List ℕ) → (0 < length bs → a ≡ b) → (bs ≡ [] → es ≡ []) → replaced_from a es new bs ≡ replaced_from b es new bs
replaced_at a b es new [] same none = ap (λ (x : List Extent). replaced_from a x new []) (none refl) ∙ sym (ap (λ (x : List Extent). replaced_from b x new []) (none refl))
replaced_at a b es new (c ∷ bs) same none = ap (λ (x : ℕ). replaced_from x es new (c ∷ bs)) (same (omega arith))

behind_at : (a b : ℕ) (es : List Extent) (bs : List ℕ) → (0 < length bs → a ≤ b) → (bs ≡ [] → es ≡ []) → BeginBehind b es → BeginBehind a es
behind_at a b [] bs less none far = tt
behind_at a b (e ∷ es) [] less none far = absurd (cc (none refl))
behind_at a b (e ∷ es) (c ∷ bs) less none far = let few : a ≤ b = less (omega arith) in omega (arith, few, far)

plus_zero : (n : ℕ) → n + 0 ≡ n
plus_zero n = omega arith

no_bytes : (bs : List ℕ) → length bs ≤ 0 → bs ≡ []
no_bytes [] few = refl
no_bytes (b ∷ bs) few = absurd (omega arith)

no_more : (xs : List ℕ) → xs ++ [] ≡ xs
no_more [] = refl
no_more (x ∷ xs) = ap (λ (l : List ℕ). x ∷ l) (no_more xs)

-- A TEXT THAT IS RENUMBERED FROM A TOKEN ON

abbrev uses_of : List ℕ → List ℕ → ObjRef → Stand → List Word → List Extent
uses_of from all o s vs = uses from all o (spots_from all s vs)

record IsRenumbered (from all : List ℕ) (o : ObjRef) (digits : List ℕ) (vs : List Word) (r : Rest) (s : Stand) (wants : Bool) (ws : List Written) : Type 0 where
  pub text : List ℕ
  pub is : replaced_from r.offset (uses_of from all o s vs) digits r.bytes ≡ text
  pub worded : AreWords wants text (with_number from all o digits (spots_from all s vs) ws)
  pub none : r.bytes ≡ [] → uses_of from all o s vs ≡ []
  pub far : BeginBehind r.offset (uses_of from all o s vs)

nothing_left : (from all : List ℕ) (o : ObjRef) (digits : List ℕ) (vs : List Word) (r : Rest) (s : Stand) (wants : Bool) → vs ≡ [] → AreWords wants r.bytes []
    → IsRenumbered from all o digits vs r s wants []
nothing_left from all o digits vs r s wants none words =
    subst (λ (x : List Word). IsRenumbered from all o digits x r s wants []) (sym none)
    (record { text = r.bytes; is = refl; worded = words; none = λ e. refl; far = tt })

some_bytes : (r : Rest) (gap text rest : List ℕ) (k : TokenKind) → IsWord k text → r.bytes ≡ (gap ++ text) ++ rest → r.bytes ≢ []
some_bytes r gap text rest k word e none =
    let first = begins k text word in
    let sizes : length r.bytes ≡ length gap + length text + length rest = ap length e ∙ length-append (gap ++ text) rest ∙ ap (λ (n : ℕ). n + length rest) (length-append gap text) in
    let empty : length r.bytes ≡ 0 = ap length none in
    let long : length text ≡ suc (length first.others) = ap length first.is in
    omega (arith, sizes, empty, long)

flagged : (b : Bool) (from all : List ℕ) (o : ObjRef) (digits : List ℕ) (vs : List Word) (r rest : Rest) (s next : Stand) (wants : Bool) (start : ℕ) (w : Written) (ws : List Written)
    → (b ≡ true → w.kind ≡ kind.Integer) → AreDigits digits → IsWord w.kind w.text
    → (wants ≡ true → needs_gap w.kind ≡ true → start ≡ r.offset → ⊥) → IsPlaced r start w.text rest
    → IsRenumbered from all o digits vs rest next (needs_gap w.kind) ws
    → (text : List ℕ) × (replaced_from r.offset ((if b then record { start = start; length = length w.text } ∷ [] else []) ++ uses_of from all o next vs) digits r.bytes ≡ text)
    × AreWords wants text ((if b then record { kind = kind.Integer; text = digits } else w) ∷ with_number from all o digits (spots_from all next vs) ws)
    × BeginBehind r.offset ((if b then record { start = start; length = length w.text } ∷ [] else []) ++ uses_of from all o next vs)
flagged true from all o digits vs r rest s next wants start w ws integer are_digits word parted placed behind =
    let es = uses_of from all o next vs in
    let is_integer : w.kind ≡ kind.Integer = integer refl in
    let far : r.offset ≤ start = omega (arith, placed.at) in
    let front : start - r.offset ≡ length placed.gap + 0 = omega (arith, placed.at) in
    let end : start + length w.text - r.offset ≡ length (placed.gap ++ w.text) + 0 = omega (arith, placed.at, length-append placed.gap w.text) in
    let taken : take (start - r.offset) r.bytes ≡ placed.gap =
    ap₂ take front (placed.bytes ∙ append_assoc placed.gap w.text rest.bytes) ∙ take_past placed.gap (w.text ++ rest.bytes) 0 ∙ no_more placed.gap in
    let left : drop (start + length w.text - r.offset) r.bytes ≡ rest.bytes = ap₂ drop end placed.bytes ∙ drop_past (placed.gap ++ w.text) rest.bytes 0 in (
      placed.gap ++ (digits ++ behind.text),
      ap₂ (λ (x y : List ℕ). x ++ (digits ++ replaced_from (start + length w.text) es digits y)) taken left
          ∙ ap (λ (x : List ℕ). placed.gap ++ (digits ++ x)) (replaced_at (start + length w.text) rest.offset es digits rest.bytes (λ some. sym (placed.behind some)) behind.none ∙ behind.is),
      (
        placed.gap,
        behind.text,
        placed.is_gap,
        sym (append_assoc placed.gap digits behind.text),
        inl are_digits,
        (λ t n none. parted t (ap needs_gap is_integer) (placed.at ∙ ap (λ (l : List ℕ). r.offset + length l) none ∙ plus_zero r.offset)),
        subst (λ (k : TokenKind). AreWords (needs_gap k) behind.text (with_number from all o digits (spots_from all next vs) ws)) is_integer behind.worded,
      ),
      far,
    )
flagged false from all o digits vs r rest s next wants start w ws integer are_digits word parted placed behind =
    let es = uses_of from all o next vs in
    let sizes : r.offset + length (placed.gap ++ w.text) ≡ start + length w.text = omega (arith, placed.at, length-append placed.gap w.text) in
    let beyond : BeginBehind (r.offset + length (placed.gap ++ w.text)) es =
    behind_at (r.offset + length (placed.gap ++ w.text)) rest.offset es rest.bytes (λ some. omega (arith, sizes, placed.behind some)) behind.none behind.far in (
      (placed.gap ++ w.text) ++ behind.text,
      ap (replaced_from r.offset es digits) placed.bytes ∙ replaced_past r.offset es digits (placed.gap ++ w.text) rest.bytes beyond
          ∙ ap (λ (x : List ℕ). (placed.gap ++ w.text) ++ x)
          (replaced_at (r.offset + length (placed.gap ++ w.text)) rest.offset es digits rest.bytes (λ some. sizes ∙ sym (placed.behind some)) behind.none ∙ behind.is),
      (
        placed.gap,
        behind.text,
        placed.is_gap,
        refl,
        word,
        (λ t n none. parted t n (placed.at ∙ ap (λ (l : List ℕ). r.offset + length l) none ∙ plus_zero r.offset)),
        behind.worded,
      ),
      behind_at r.offset (r.offset + length (placed.gap ++ w.text)) es r.bytes (λ some. omega arith)
          (λ none. absurd (some_bytes r placed.gap w.text rest.bytes w.kind word placed.bytes none)) beyond,
    )

renumbered_next : (from all : List ℕ) (o : ObjRef) (digits : List ℕ) → AreDigits digits → (vs : List Word) (r : Rest) (s : Stand) (wants : Bool) (w : Written) (ws : List Written)
    (next : IsNext r wants w ws)
    → IsRenumbered from all o digits vs next.rest
    (stand_behind (entered s (sense_of all (record { kind = w.kind; at = record { start = next.start; length = length w.text } })))
    (sense_of all (record { kind = w.kind; at = record { start = next.start; length = length w.text } }))) (needs_gap w.kind) ws
    → IsRenumbered from all o digits (record { kind = w.kind; at = record { start = next.start; length = length w.text } } ∷ vs) r s wants (w ∷ ws)
renumbered_next from all o digits are_digits vs r s wants w ws next behind =
    let at : Extent = record { start = next.start; length = length w.text } in
    let x = sense_of all (record { kind = w.kind; at = at }) in
    let here = entered s x in
    let placed = token_placed r w.kind next.start w.text next.rest next.is in
    let made = flagged (is_use from all o (role_in here x)) from all o digits vs r next.rest s (stand_behind here x) wants next.start w ws
    (use_is_integer from all o here w.kind at) are_digits next.word next.parted placed behind in
    record {
      text = made.0;
      is = made.1;
      worded = made.2;
      none = λ e. absurd (some_bytes r placed.gap w.text next.rest.bytes w.kind next.word placed.bytes e);
      far = made.3;
    }

fewer : (r : Rest) (gap text rest : List ℕ) (k : TokenKind) (n : ℕ) → IsWord k text → r.bytes ≡ (gap ++ text) ++ rest → length r.bytes ≤ suc n → length rest ≤ n
fewer r gap text rest k n word e few =
    let first = begins k text word in
    let sizes : length r.bytes ≡ length gap + length text + length rest = ap length e ∙ length-append (gap ++ text) rest ∙ ap (λ (x : ℕ). x + length rest) (length-append gap text) in
    let long : length text ≡ suc (length first.others) = ap length first.is in
    omega (arith, sizes, few, long)

renumbered_from : (from all : List ℕ) (o : ObjRef) (digits : List ℕ) → AreDigits digits → (n : ℕ) (r : Rest) (s : Stand) (wants : Bool) (ws : List Written)
    → length r.bytes ≤ n → AreWords wants r.bytes ws → IsRenumbered from all o digits (words_from n r) r s wants ws
renumbered_from from all o digits are_digits n r s wants [] few are =
    nothing_left from all o digits (words_from n r) r s wants (none_further n r (ap word_in (last_word r wants are))) are
renumbered_from from all o digits are_digits zero r s wants (w ∷ ws) few are =
    let next = next_word r wants w ws are in
    let placed = token_placed r w.kind next.start w.text next.rest next.is in
    absurd (some_bytes r placed.gap w.text next.rest.bytes w.kind next.word placed.bytes (no_bytes r.bytes few))
renumbered_from from all o digits are_digits (suc n) r s wants (w ∷ ws) few are =
    let next = next_word r wants w ws are in
    let placed = token_placed r w.kind next.start w.text next.rest next.is in
    subst (λ (vs : List Word). IsRenumbered from all o digits vs r s wants (w ∷ ws)) (sym (ap (after (words_from n)) (ap word_in next.is)))
    (renumbered_next from all o digits are_digits (words_from n next.rest) r s wants w ws next
    (renumbered_from from all o digits are_digits n next.rest _ (needs_gap w.kind) ws
    (fewer r placed.gap w.text next.rest.bytes w.kind n next.word placed.bytes few) next.words))

-- THE LAW

own : IsNumeralModel (λ ds. list_all is_digit ds ≡ true) (number_behind 0)
own = numerals_by_fold _ (search rules) number_behind (search rules)

fits : (n : ℕ) → n < 2 ^ 32 → n < 2 ^ 64
fits n small = omega (arith, small)

pub only_numbers : OnlyNumbersChange
unfolding words
only_numbers from o n bs ws small are =
    let digits : AreDigits (decimal n) = (decimal_nonempty n (fits n small), digits_decimal own n (fits n small)) in
    let now = renumbered_from from bs o (decimal n) digits (length bs) (whole bs) at_first false ws (le_refl (length bs)) are in
    subst (λ (x : List ℕ). AreWords false x (with_number from bs o (decimal n) (spots_from bs at_first (words_from (length bs) (whole bs))) ws)) (sym now.is) now.worded
