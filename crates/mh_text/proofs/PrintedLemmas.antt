-- Printed forms are spellings: what is printed of a part, with words behind it, is words with that part in front.
use Rattle.std.proofs.Common.{◌≡◌, ◌≢◌, ℕ, suc, ◌+◌, ◌*◌, ◌/◌, ◌%◌, ◌<◌, ◌≤◌, ◌^◌, inl, inr, ℤ, pos, negsuc, int_le, Bool, true, false, ◌&&◌, not, ◌==◌, nat_lt, nat_le, if◌then◌else◌, List, [], ◌∷◌, ◌++◌, length, refl, ap, sym, subst, rules, arith, codes}
use Rattle.std.specs.List.{list_all, flat_map}
use Rattle.std.specs.Fmt.{decimal, signed_decimal}
use Rattle.std.proofs.lemmas.Fmt.{digits_decimal, digits_value-decimal, decimal_nonempty}
use Rattle.std.proofs.lemmas.Str.Parse.{IsNumeralModel, numerals_by_fold}
use Rattle.std.proofs.lemmas.Bool.{and_parts}
use Rattle.std.proofs.lemmas.Bool.Decides.{nat_tests}
use Rattle.std.proofs.lemmas.List.{append_assoc}
use Rattle.mh_base.specs.Path.{is_name_byte}
use Rattle.mh_base.specs.Limits.{longest_list}
use Rattle.mh_base.specs.declared.value.Kind.TheVariants as value_kind
use Rattle.mh_group.specs.declared.reference.Ref.{Ref}
use Rattle.mh_group.specs.declared.reference.Ref.TheVariants as ref
use Rattle.mh_group.specs.declared.reference.Generic.{Generic}
use Rattle.mh_group.specs.declared.reference.Generic.TheVariants.{Direct, Indirect}
use Rattle.mh_group.specs.declared.action.Content.{Content}
use Rattle.mh_group.specs.declared.action.Content.TheVariants as of_content
use Rattle.mh_group.specs.declared.action.EventData.{EventData}
use Rattle.mh_group.specs.declared.action.EventData.TheVariants as of_data
use Rattle.mh_group.specs.declared.action.Typed.{Typed}
use Rattle.mh_group.specs.declared.action.Typed.TheVariants as of_typed
use Rattle.mh_group.specs.Holdable.{is_integer, is_number, is_name, is_octets, is_plain, is_reference, is_generic, is_typed, is_content, is_data, is_list}
use Rattle.mh_group.specs.Words.{kind_word}
use Rattle.mh_text.specs.declared.token.kind.TokenKind.{TokenKind}
use Rattle.mh_text.specs.declared.token.kind.TokenKind.TheVariants as kind
use Rattle.mh_text.specs.Bytes.{is_digit, is_text_byte, is_quoted_byte, is_hexadecimal, hexadecimal_value, number_behind, negated}
use Rattle.mh_text.specs.Words.{Quotes, AreDigits, IsWord, needs_gap, Written, AreWords}
use Rattle.mh_text.specs.Words.IsGap.{blank, nothing as no_gap}
use Rattle.mh_text.specs.Words.Quotes.{nothing, plain, escaped}
use Rattle.mh_text.specs.Spelling.{IsFirst, IsOpen, IsClose, IsKeyword, Writes, IsInteger, IsNumber, IsName, AreOctets, IsTruth, IsNamed, IsRef, IsGeneric, IsContentName, IsTyped, IsContent, IsData, AreSeveral, IsListOf}
use Rattle.mh_text.specs.Printed.{opening, closing, keyword, word, truth, integer, natural, name, hexadecimal_digit, quoted, octets, list, named, reference, indirect_word, generic, content_name, typed_value, content_value, data_value}
use Rattle.mh_text.proofs.TableWords.{is_keyword, keyword_good, is_letters, letters_good}

-- the text is these words, whatever stands in front of it
abbrev pub SpacedWords : List ℕ → List Written → Type 0
SpacedWords bs ws = (wants : Bool) → AreWords wants bs ws

-- What is printed so, in front of a text that is words, makes it words that begin so.
abbrev pub Prints : (List Written → List Written → Type 0) → List ℕ → Type 0
Prints Is bytes = (tail : List ℕ) (rest : List Written) → SpacedWords tail rest → (ws : List Written) × SpacedWords (bytes ++ tail) ws × Is ws rest

space_is_there : (bs : List ℕ) → (32 ∷ bs) ≢ []
space_is_there bs e = cc

pub word_prints : (k : TokenKind) (text : List ℕ) → IsWord k text → Prints (IsFirst k text) (32 ∷ text)
word_prints k text good tail rest spaced =
    let first : Written = record { kind = k; text = text } in
    (first ∷ rest, (λ wants. (32 ∷ [], tail, blank 32 [] refl no_gap, refl, good, (λ _ _. space_is_there []), spaced (needs_gap k))), refl)

moved : (a b tail : List ℕ) (ws : List Written) → SpacedWords (a ++ (b ++ tail)) ws → SpacedWords ((a ++ b) ++ tail) ws
moved a b tail ws spaced wants = subst (λ (t : List ℕ). AreWords wants t ws) (sym (append_assoc a b tail)) (spaced wants)

-- parts one after the other

pub two : {A B : List Written → List Written → Type 0} (a b : List ℕ) → Prints A a → Prints B b → Prints (λ ws rest. (m : List Written) × A ws m × B m rest) (a ++ b)
two a b p q tail rest spaced =
    let y = q tail rest spaced in
    let x = p (b ++ tail) y.0 y.1 in
    (x.0, moved a b tail x.0 x.1, (y.0, x.2, y.2))

pub three : {A B C : List Written → List Written → Type 0} (a b c : List ℕ) → Prints A a → Prints B b → Prints C c
    → Prints (λ ws rest. (m : List Written) × (n : List Written) × A ws m × B m n × C n rest) (a ++ b ++ c)
three a b c p q r tail rest spaced =
    let z = two (a ++ b) c (two a b p q) r tail rest spaced in
    (z.0, z.1, (z.2.1.0, z.2.0, z.2.1.1, z.2.1.2, z.2.2))

pub four : {A B C D : List Written → List Written → Type 0} (a b c d : List ℕ) → Prints A a → Prints B b → Prints C c → Prints D d
    → Prints (λ ws rest. (m : List Written) × (n : List Written) × (o : List Written) × A ws m × B m n × C n o × D o rest) (a ++ b ++ c ++ d)
four a b c d p q r s tail rest spaced =
    let z = two (a ++ b ++ c) d (three a b c p q r) s tail rest spaced in
    (z.0, z.1, (z.2.1.0, z.2.1.1, z.2.0, z.2.1.2, z.2.1.3, z.2.1.4, z.2.2))

pub five : {A B C D E : List Written → List Written → Type 0} (a b c d e : List ℕ) → Prints A a → Prints B b → Prints C c → Prints D d → Prints E e
    → Prints (λ ws rest. (m : List Written) × (n : List Written) × (o : List Written) × (u : List Written) × A ws m × B m n × C n o × D o u × E u rest) (a ++ b ++ c ++ d ++ e)
five a b c d e p q r s t tail rest spaced =
    let z = two (a ++ b ++ c ++ d) e (four a b c d p q r s) t tail rest spaced in
    (z.0, z.1, (z.2.1.0, z.2.1.1, z.2.1.2, z.2.0, z.2.1.3, z.2.1.4, z.2.1.5, z.2.1.6, z.2.2))

pub each_prints : {A : Type 0} (IsOne : A → List Written → List Written → Type 0) (f : A → List ℕ) (ok : A → Bool)
    → ((x : A) → ok x ≡ true → Prints (IsOne x) (f x)) → (xs : List A) → list_all ok xs ≡ true → Prints (AreSeveral IsOne xs) (flat_map f xs)
each_prints IsOne f ok one [] h tail rest spaced = (rest, spaced, refl)
each_prints IsOne f ok one (x ∷ xs) h tail rest spaced =
    let parts = and_parts (ok x) (list_all ok xs) h in
    two (f x) (flat_map f xs) (one x parts.0) (each_prints IsOne f ok one xs parts.1) tail rest spaced

pub opening_prints : Prints IsOpen opening
opening_prints = word_prints kind.OpenParenthesis (40 ∷ []) refl

pub closing_prints : Prints IsClose closing
closing_prints = word_prints kind.CloseParenthesis (41 ∷ []) refl

pub few : (n m : ℕ) → nat_le n m ≡ true → n ≤ m
few n m h = grind (arith, nat_tests)

pub list_prints : {A : Type 0} (IsOne : A → List Written → List Written → Type 0) (f : A → List ℕ) (ok : A → Bool)
    → ((x : A) → ok x ≡ true → Prints (IsOne x) (f x)) → (xs : List A) → is_list ok xs ≡ true → Prints (IsListOf IsOne xs) (list f xs)
unfolding list
list_prints IsOne f ok one xs h tail rest spaced =
    let parts = and_parts (nat_le (length xs) longest_list) (list_all ok xs) h in
    let z = three opening (flat_map f xs) closing opening_prints (each_prints IsOne f ok one xs parts.1) closing_prints tail rest spaced in
    (z.0, z.1, (few (length xs) longest_list parts.0, z.2.0, z.2.1, z.2.2, z.2.3, z.2.4))

pub keyword_prints : (bytes : List ℕ) → is_keyword bytes ≡ true → Prints (IsKeyword bytes) (keyword bytes)
unfolding keyword
keyword_prints bytes h = word_prints kind.Keyword (58 ∷ bytes) (keyword_good bytes h)

pub letters_print : (bytes : List ℕ) → is_letters bytes ≡ true → Prints (IsFirst kind.Word bytes) (word bytes)
unfolding word
letters_print bytes h = word_prints kind.Word bytes (letters_good bytes h)

pub truth_prints : (b : Bool) → is_plain b ≡ true → Prints (IsTruth b) (truth b)
unfolding truth
truth_prints true h = letters_print (codes "true") refl
truth_prints false h = letters_print (codes "false") refl

-- Numbers.

own : IsNumeralModel (λ ds. list_all is_digit ds ≡ true) (number_behind 0)
own = numerals_by_fold _ (search rules) number_behind (search rules)

digits_good : (n : ℕ) → n < 2 ^ 64 → AreDigits (decimal n)
digits_good n h = (decimal_nonempty n h, digits_decimal own n h)

value_good : (n : ℕ) → n < 2 ^ 64 → number_behind 0 (decimal n) ≡ n
value_good n h = digits_value-decimal own n h

below : (n : ℕ) → int_le (pos n) (pos 2147483647) ≡ true → n < 2 ^ 31
below n h = grind (arith, nat_tests)

above : (n : ℕ) → int_le (negsuc 2147483647) (negsuc n) ≡ true → suc n ≤ 2 ^ 31
above n h = grind (arith, nat_tests)

writes : (x : ℤ) → is_integer x ≡ true → Writes (signed_decimal x) x
writes (pos n) h =
    let small : n < 2 ^ 31 = below n (and_parts (int_le (negsuc 2147483647) (pos n)) (int_le (pos n) (pos 2147483647)) h).1 in
    let same : number_behind 0 (decimal n) ≡ n = value_good n (omega (arith, small)) in
    inl (digits_good n (omega (arith, small)), ap pos (sym same), omega (arith, same, small))
writes (negsuc n) h =
    let small : suc n ≤ 2 ^ 31 = above n (and_parts (int_le (negsuc 2147483647) (negsuc n)) (int_le (negsuc n) (pos 2147483647)) h).0 in
    let same : number_behind 0 (decimal (suc n)) ≡ suc n = value_good (suc n) (omega (arith, small)) in
    inr (decimal (suc n), refl, digits_good (suc n) (omega (arith, small)), ap negated (sym same), omega (arith, same, small))

integer_word : (x : ℤ) → is_integer x ≡ true → IsWord kind.Integer (signed_decimal x)
integer_word (pos n) h =
    let small : n < 2 ^ 31 = below n (and_parts (int_le (negsuc 2147483647) (pos n)) (int_le (pos n) (pos 2147483647)) h).1 in
    inl (digits_good n (omega (arith, small)))
integer_word (negsuc n) h =
    let small : suc n ≤ 2 ^ 31 = above n (and_parts (int_le (negsuc 2147483647) (negsuc n)) (int_le (negsuc n) (pos 2147483647)) h).0 in
    inr (decimal (suc n), refl, digits_good (suc n) (omega (arith, small)))

pub integer_prints : (x : ℤ) → is_integer x ≡ true → Prints (IsInteger x) (integer x)
unfolding integer
integer_prints x h tail rest spaced =
    let z = word_prints kind.Integer (signed_decimal x) (integer_word x h) tail rest spaced in
    (z.0, z.1, (signed_decimal x, writes x h, z.2))

number_is_integer : (n : ℕ) → is_number n ≡ true → is_integer (pos n) ≡ true
number_is_integer n h = grind (arith, nat_tests)

pub natural_prints : (n : ℕ) → is_number n ≡ true → Prints (IsNumber n) (natural n)
natural_prints n h = integer_prints (pos n) (number_is_integer n h)

-- Names and octets.

text_byte : (b : ℕ) → is_name_byte b ≡ true → is_text_byte b ≡ true
text_byte b h = h

all_text : (bs : List ℕ) → is_name bs ≡ true → list_all is_text_byte bs ≡ true
all_text bs h = h

pub name_prints : (bs : List ℕ) → is_name bs ≡ true → Prints (IsName bs) (name bs)
unfolding name
name_prints bs h = word_prints kind.Text (34 ∷ (bs ++ 34 ∷ [])) (bs, refl, all_text bs h)

pub content_name_prints : (bs : List ℕ) → is_name bs ≡ true → Prints (IsContentName bs) (content_name bs)
unfolding content_name
content_name_prints bs h = four (keyword (codes "ContentRef")) opening (name bs) closing (keyword_prints (codes "ContentRef") refl) opening_prints (name_prints bs h) closing_prints

-- a digit of a value below 16 is a hexadecimal digit of that value
digit_good : (d : ℕ) → d < 16 → is_hexadecimal (hexadecimal_digit d) ≡ true
digit_good d h = by (nat_lt d 10) refl
  where
    by : (t : Bool) → nat_lt d 10 ≡ t → is_hexadecimal (if t then 48 + d else 55 + d) ≡ true
    by true e = grind (arith, nat_tests)
    by false e = grind (arith, nat_tests)

digit_value : (d : ℕ) → d < 16 → hexadecimal_value (hexadecimal_digit d) ≡ d
digit_value d h = by (nat_lt d 10) refl
  where
    by : (t : Bool) → nat_lt d 10 ≡ t → hexadecimal_value (if t then 48 + d else 55 + d) ≡ d
    by true e = grind (arith, nat_tests)
    by false e = grind (arith, nat_tests)

pub quoted_good : (bs : List ℕ) → is_octets bs ≡ true → Quotes (flat_map quoted bs) bs
quoted_good [] h = nothing
quoted_good (b ∷ bs) h =
    let parts = and_parts (nat_lt b 256) (is_octets bs) h in
    let small : b < 256 = grind (arith, nat_tests) in
    by (is_quoted_byte b && not (b == 61)) refl small (quoted_good bs parts.1)
  where
    differs : not (b == 61) ≡ true → b ≢ 61
    differs e same = cc

    by : (t : Bool) → (is_quoted_byte b && not (b == 61)) ≡ t → b < 256 → Quotes (flat_map quoted bs) bs
        → Quotes ((if t then b ∷ [] else 61 ∷ hexadecimal_digit (b / 16) ∷ hexadecimal_digit (b % 16) ∷ []) ++ flat_map quoted bs) (b ∷ bs)
    by true e small rest =
        let parts = and_parts (is_quoted_byte b) (not (b == 61)) e in
        plain b (flat_map quoted bs) bs parts.0 (differs parts.1) rest
    by false e small rest =
        let high : b / 16 < 16 = omega (arith, small) in
        let low : b % 16 < 16 = omega arith in
        let whole : hexadecimal_value (hexadecimal_digit (b / 16)) * 16 + hexadecimal_value (hexadecimal_digit (b % 16)) ≡ b =
        omega (arith, digit_value (b / 16) high, digit_value (b % 16) low) in
        subst (λ (o : ℕ). Quotes (61 ∷ hexadecimal_digit (b / 16) ∷ hexadecimal_digit (b % 16) ∷ flat_map quoted bs) (o ∷ bs)) whole
        (escaped (hexadecimal_digit (b / 16)) (hexadecimal_digit (b % 16)) (flat_map quoted bs) bs (digit_good (b / 16) high) (digit_good (b % 16) low) rest)

pub octets_print : (bs : List ℕ) → is_octets bs ≡ true → Prints (AreOctets bs) (octets bs)
unfolding octets
octets_print bs h tail rest spaced =
    let good : Quotes (flat_map quoted bs) bs = quoted_good bs h in
    let z = word_prints kind.Quoted (39 ∷ (flat_map quoted bs ++ 39 ∷ [])) (flat_map quoted bs, bs, refl, good) tail rest spaced in
    (z.0, z.1, inr (flat_map quoted bs, good, z.2))

-- References and values.

pub named_prints : (bs : List ℕ) (n : ℕ) → is_name bs ≡ true → is_number n ≡ true → Prints (IsNamed bs n) (named bs n)
unfolding named
named_prints bs n h k = four opening (name bs) (natural n) closing opening_prints (name_prints bs h) (natural_prints n k) closing_prints

pub reference_prints : (r : Ref) → is_reference r ≡ true → Prints (IsRef r) (reference r)
reference_prints (ref.Here n) h = natural_prints n h
reference_prints (ref.In bs n) h = let parts = and_parts (is_name bs) (is_number n) h in named_prints bs n parts.0 parts.1

indirect_good : is_keyword indirect_word ≡ true
unfolding indirect_word
indirect_good = refl

indirect_prints : (r : Ref) → is_reference r ≡ true → Prints (λ ws rest. (a : List Written) × IsKeyword (codes "IndirectRef") ws a × IsRef r a rest) (keyword indirect_word ++ reference r)
unfolding indirect_word
indirect_prints r h = two (keyword indirect_word) (reference r) (keyword_prints indirect_word indirect_good) (reference_prints r h)

pub generic_prints : {A : Type 0} (IsValue : A → List Written → List Written → Type 0) (f : A → List ℕ) (ok : A → Bool)
    → ((x : A) → ok x ≡ true → Prints (IsValue x) (f x)) → (g : Generic A) → is_generic ok g ≡ true → Prints (IsGeneric IsValue g) (generic f g)
unfolding generic
generic_prints IsValue f ok one (Direct x) h = one x h
generic_prints IsValue f ok one (Indirect r) h = indirect_prints r h

pub typed_prints : (x : Typed) → is_typed x ≡ true → Prints (IsTyped x) (typed_value x)
unfolding typed_value kind_word
typed_prints (of_typed.Bool x) h = two (keyword (kind_word value_kind.Bool)) (generic truth x) (keyword_prints (kind_word value_kind.Bool) refl) (generic_prints IsTruth truth is_plain truth_prints x h)
typed_prints (of_typed.Int x) h = two (keyword (kind_word value_kind.Int)) (generic integer x) (keyword_prints (kind_word value_kind.Int) refl) (generic_prints IsInteger integer is_integer integer_prints x h)
typed_prints (of_typed.Octets x) h = two (keyword (kind_word value_kind.Octets)) (generic octets x) (keyword_prints (kind_word value_kind.Octets) refl) (generic_prints AreOctets octets is_octets octets_print x h)
typed_prints (of_typed.Ref x) h = two (keyword (kind_word value_kind.Object)) (generic reference x) (keyword_prints (kind_word value_kind.Object) refl) (generic_prints IsRef reference is_reference reference_prints x h)
typed_prints (of_typed.ContentRef x) h = two (keyword (kind_word value_kind.Content)) (generic content_name x) (keyword_prints (kind_word value_kind.Content) refl) (generic_prints IsContentName content_name is_name content_name_prints x h)

pub content_prints : (x : Content) → is_content x ≡ true → Prints (IsContent x) (content_value x)
content_prints (of_content.Included bs) h = octets_print bs h
content_prints (of_content.Referenced bs) h = content_name_prints bs h

pub data_prints : (x : EventData) → is_data x ≡ true → Prints (IsData x) (data_value x)
data_prints (of_data.Bool b) h = truth_prints b refl
data_prints (of_data.Int x) h = integer_prints x h
