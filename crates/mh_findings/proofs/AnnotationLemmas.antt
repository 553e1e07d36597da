-- An annotation is one line.
use Rattle.std.specs.Prelude.{◌≡◌, ℕ, ◌+◌, ◌<◌, ◌^◌, ◌==◌, ◌%◌, Bool, true, false, cond, if◌then◌else◌, List, [], ◌∷◌, ◌++◌, codes, refl}
use Rattle.std.specs.Fmt.{decimal}
use Rattle.std.specs.List.{count_by, flat_map}
use Rattle.std.proofs.Common.{ap, ◌∙◌, arith}
use Rattle.std.proofs.lemmas.Fmt.{decimal_by_steps}
use Rattle.std.proofs.lemmas.Bool.Decides.{nat_tests}
use Rattle.mh_findings.specs.declared.finding.Grade.{Grade}
use Rattle.mh_findings.specs.declared.finding.Grade.TheVariants as grade
use Rattle.mh_places.specs.declared.span.Span.{Span}
use Rattle.mh_findings.specs.Messages.{message, title}
use Rattle.mh_findings.specs.Short.{is_feed}
use Rattle.mh_findings.specs.Github.{level_word, escape, escape_property, span_words, annotation, AreNumbers, EachHasAnAnnotation}
use Rattle.mh_findings.proofs.LineLemmas.{count_joined}

-- no line feed stands in these bytes
record HasNone (bs : List ℕ) : Type 0 where
  none : count_by is_feed bs ≡ 0

infixl 65 ◌⌢◌
◌⌢◌ : {xs ys : List ℕ} → HasNone xs → HasNone ys → HasNone (xs ++ ys)
◌⌢◌ {xs} {ys} front behind = record { none = count_joined is_feed xs ys ∙ (λ i. front.none i + behind.none i) }

digit_other : (d : ℕ) → is_feed (48 + d) ≡ false
digit_other d = grind (arith, nat_tests)

alone : (b : ℕ) → is_feed b ≡ false → HasNone (b ∷ [])
alone b other = record { none = ap (λ (t : Bool). 0 + cond {A = ℕ} t 1 0) other }

digits_none : (n : ℕ) → n < 2 ^ 64 → HasNone (decimal n)
digits_none =
    decimal_by_steps (λ m ds. HasNone ds) (λ m l. alone (48 + m) (digit_other m)) (λ m ds l h. h ⌢ alone (48 + m % 10) (digit_other (m % 10)))

each_none : (f : ℕ → List ℕ) → ((b : ℕ) → HasNone (f b)) → (bs : List ℕ) → HasNone (flat_map f bs)
each_none f each [] = record { none = refl }
each_none f each (b ∷ bs) = each b ⌢ each_none f each bs

escape_none : (b : ℕ) → HasNone (escape b)
unfolding escape
escape_none b = by (b == 37) (b == 13) (b == 10) refl
  where
    by : (c d e : Bool) → (b == 10) ≡ e → HasNone (if c then codes "%25" else (if d then codes "%0D" else (if e then codes "%0A" else b ∷ [])))
    by true d e is = record { none = refl }
    by false true e is = record { none = refl }
    by false false true is = record { none = refl }
    by false false false is = alone b is

property_none : (b : ℕ) → HasNone (escape_property b)
unfolding escape_property
property_none b = by (b == 58) (b == 44)
  where
    by : (c d : Bool) → HasNone (if c then codes "%3A" else (if d then codes "%2C" else escape b))
    by true d = record { none = refl }
    by false true = record { none = refl }
    by false false = escape_none b

level_none : (g : Grade) → HasNone (level_word g)
unfolding level_word
level_none grade.Unread = record { none = refl }
level_none grade.Refused = record { none = refl }
level_none grade.Fault = record { none = refl }
level_none grade.Never = record { none = refl }
level_none grade.Note = record { none = refl }

-- words that have none, as is computed
words_none : (bs : List ℕ) → count_by is_feed bs ≡ 0 → HasNone bs
words_none bs none = record { none = none }

span_none : (s : Span) → AreNumbers s.start → AreNumbers s.end → HasNone (span_words s)
unfolding span_words
span_none s start end =
    words_none (codes ",line=") refl ⌢ digits_none s.start.line start.0 ⌢ words_none (codes ",endLine=") refl ⌢ digits_none s.end.line end.0
    ⌢ words_none (codes ",col=") refl ⌢ digits_none s.start.column start.1 ⌢ words_none (codes ",endColumn=") refl ⌢ digits_none s.end.column end.1

-- and then a line feed
ended : {bs : List ℕ} → HasNone bs → count_by is_feed (bs ++ 10 ∷ []) ≡ 1
ended {bs} front = count_joined is_feed bs (10 ∷ []) ∙ ap (λ (n : ℕ). n + 1) front.none

pub one_line : EachHasAnAnnotation
unfolding annotation
one_line f placed =
    ended
    (words_none (codes "::") refl ⌢ level_none f.grade ⌢ words_none (codes " file=") refl ⌢ each_none escape_property property_none f.at.file
    ⌢ span_none f.at.span placed.0 placed.1 ⌢ words_none (codes ",title=") refl ⌢ each_none escape_property property_none (title f)
    ⌢ words_none (codes "::") refl ⌢ each_none escape escape_none (message f))
