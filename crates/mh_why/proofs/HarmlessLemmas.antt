-- What is put of words, numbers, names and lines of files gives a terminal no order.
use Rattle.std.specs.Prelude.{◌≡◌, ℕ, zero, suc, ◌+◌, ◌<◌, ◌==◌, Bool, true, false, ◌&&◌, ◌||◌, not, nat_le, nat_lt, if◌then◌else◌, List, [], ◌∷◌, ◌++◌, ◌-◌, ◌*◌, map, min, length, take, drop, replicate, codes, refl}
use Rattle.std.specs.List.{flat_map, list_all, prefix_len}
use Rattle.std.specs.Fmt.{decimal}
use Rattle.std.proofs.Common.{ap, ◌∙◌, sym, arith, append-nil}
use Rattle.std.proofs.lemmas.Bool.{and_parts, and_from, lt-ltb}
use Rattle.std.proofs.lemmas.Bool.Decides.{nat_tests}
use Rattle.std.proofs.lemmas.Grind.{flat_map-append}
use Rattle.std.proofs.lemmas.List.Folds.{flat_map-map, list_all-append}
use Rattle.std.proofs.lemmas.Str.{encode_ascii}
use Rattle.bstr.specs.Text.{without_terminator}
use Rattle.bstr.specs.Utf8.{lossy_chars}
use Rattle.mh_told.specs.Printing.{character}
use Rattle.mh_why.specs.LineWords.{is_in_word}
use Rattle.mh_why.specs.Octets.{hex_text, octet_words, shown_octet}
use Rattle.mh_terminal.specs.Frames.{is_order, harmless, plain}
use Rattle.mh_why.specs.Wrapping.{columns, wrapped, paragraph}
use Rattle.mh_why.specs.Places.{is_shown, IsHarmless, Line, spaced, column, characters_of, first_shown, size_shown, cut_mark, front_mark, back_mark, mark_width, meant, line_at, place_words, shown_line, caret_line, window, shown_at, shown_place, PlacesAreHarmless}

or_true : (b : Bool) → (b || true) ≡ true
or_true true = refl
or_true false = refl

-- what is put one behind the other
pub harmless_append : (xs ys : List ℕ) → IsHarmless xs → IsHarmless ys → IsHarmless (xs ++ ys)
harmless_append xs ys front behind = record {
  characters = front.characters ++ behind.characters;
  spelled =
      ap (λ (zs : List ℕ). zs ++ ys) front.spelled ∙ ap (λ (zs : List ℕ). flat_map character front.characters ++ zs) behind.spelled
      ∙ sym (flat_map-append character front.characters behind.characters);
  shown = list_all-append is_shown front.characters behind.characters ∙ and_from _ _ front.shown behind.shown;
}

-- the same, as an operator that groups as `++` does
infixl 65 ◌⌢◌
pub ◌⌢◌ : {xs ys : List ℕ} → IsHarmless xs → IsHarmless ys → IsHarmless (xs ++ ys)
◌⌢◌ {xs} {ys} front behind = harmless_append xs ys front behind

-- Characters, each of which is replaced by one that is shown.

all_shown : (f : ℕ → ℕ) → ((c : ℕ) → is_shown (f c) ≡ true) → (cs : List ℕ) → list_all is_shown (map f cs) ≡ true
all_shown f each [] = refl
all_shown f each (c ∷ cs) = and_from _ _ (each c) (all_shown f each cs)

pub harmless_mapped : (f : ℕ → ℕ) → ((c : ℕ) → is_shown (f c) ≡ true) → (cs : List ℕ) → IsHarmless (flat_map (λ c. character (f c)) cs)
harmless_mapped f each cs = record { characters = map f cs; spelled = sym (flat_map-map character f cs); shown = all_shown f each cs }

pub harmless_is_shown : (c : ℕ) → is_shown (harmless c) ≡ true
harmless_is_shown c = by (is_order c) refl
  where
    by : (b : Bool) → is_order c ≡ b → is_shown (if b then 65533 else c) ≡ true
    by true is = refl
    by false is = ap (λ (b : Bool). (c == 10) || not b) is ∙ or_true (c == 10)

pub harmless_plain : (bs : List ℕ) → IsHarmless (plain bs)
harmless_plain bs = harmless_mapped harmless harmless_is_shown (lossy_chars bs)

-- Bytes that stand for themselves.

-- a line feed, or a character of ASCII that is seen or is a space
abbrev pub is_printable : ℕ → Bool
is_printable b = b == 10 || nat_le 32 b && nat_lt b 127

printable_low : (b : ℕ) → is_printable b ≡ true → b < 128
printable_low b is = grind (arith, nat_tests)

printable_is_shown : (b : ℕ) → is_printable b ≡ true → is_shown b ≡ true
printable_is_shown b is = grind (arith, nat_tests)

byte_spelled : (b : ℕ) → b < 128 → character b ≡ b ∷ []
byte_spelled b low = rw (lt-ltb b 55296 (omega arith)) (encode_ascii b low)

spelled : (bs : List ℕ) → list_all is_printable bs ≡ true → bs ≡ flat_map character bs
spelled [] all = refl
spelled (b ∷ bs) all =
    let parts = and_parts (is_printable b) (list_all is_printable bs) all in
    ap (λ (xs : List ℕ). b ∷ xs) (spelled bs parts.1) ∙ ap (λ (xs : List ℕ). xs ++ flat_map character bs) (sym (byte_spelled b (printable_low b parts.0)))

printable_are_shown : (bs : List ℕ) → list_all is_printable bs ≡ true → list_all is_shown bs ≡ true
printable_are_shown [] all = refl
printable_are_shown (b ∷ bs) all =
    let parts = and_parts (is_printable b) (list_all is_printable bs) all in
    and_from _ _ (printable_is_shown b parts.0) (printable_are_shown bs parts.1)

-- words that are fixed: `harmless_codes (codes "..") refl`
pub harmless_codes : (bs : List ℕ) → list_all is_printable bs ≡ true → IsHarmless bs
harmless_codes bs all = record { characters = bs; spelled = spelled bs all; shown = printable_are_shown bs all }

all_repeated : (n b : ℕ) → is_printable b ≡ true → list_all is_printable (replicate n b) ≡ true
all_repeated zero b is = refl
all_repeated (suc n) b is = and_from _ _ is (all_repeated n b is)

pub harmless_repeated : (n b : ℕ) → is_printable b ≡ true → IsHarmless (replicate n b)
harmless_repeated n b is = harmless_codes (replicate n b) (all_repeated n b is)

-- Paragraphs, whatever their words are.

feed : IsHarmless (10 ∷ [])
feed = harmless_codes (10 ∷ []) refl

wrapped_are_shown : (n : ℕ) (cs : List ℕ) → list_all is_shown cs ≡ true → list_all is_shown (wrapped n cs) ≡ true
wrapped_are_shown n [] all = refl
wrapped_are_shown n (c ∷ cs) all =
    let parts = and_parts (is_shown c) (list_all is_shown cs) all in
    by (c == 32 && nat_lt columns (n + suc (prefix_len is_in_word cs))) (wrapped_are_shown 4 cs parts.1)
    (and_from _ _ parts.0 (wrapped_are_shown (suc n) cs parts.1))
  where
    by : (b : Bool) → list_all is_shown (wrapped 4 cs) ≡ true → list_all is_shown (c ∷ wrapped (suc n) cs) ≡ true
        → list_all is_shown (if b then 10 ∷ 32 ∷ 32 ∷ 32 ∷ 32 ∷ wrapped 4 cs else c ∷ wrapped (suc n) cs) ≡ true
    by true next same = next
    by false next same = same

pub harmless_paragraph : (bs : List ℕ) → IsHarmless (paragraph bs)
unfolding paragraph
harmless_paragraph bs =
    harmless_append (flat_map character (wrapped 0 (map harmless (lossy_chars bs)))) (10 ∷ [])
    (record {
      characters = wrapped 0 (map harmless (lossy_chars bs));
      spelled = refl;
      shown = wrapped_are_shown 0 (map harmless (lossy_chars bs)) (all_shown harmless harmless_is_shown (lossy_chars bs));
    }) feed

-- Places.

spaced_is_shown : (c : ℕ) → is_shown (spaced c) ≡ true
spaced_is_shown c = by (c == 9)
  where
    by : (b : Bool) → is_shown (if b then 32 else harmless c) ≡ true
    by true = refl
    by false = harmless_is_shown c

harmless_words : (name : List ℕ) (number at : ℕ) → IsHarmless (place_words name number at)
unfolding place_words
harmless_words name number at = harmless_paragraph _

-- a part of a list of which all are shown

all_behind : (n : ℕ) (cs : List ℕ) → list_all is_shown cs ≡ true → list_all is_shown (drop n cs) ≡ true
all_behind zero cs all = all
all_behind (suc n) [] all = refl
all_behind (suc n) (c ∷ cs) all = all_behind n cs (and_parts (is_shown c) (list_all is_shown cs) all).1

all_before : (n : ℕ) (cs : List ℕ) → list_all is_shown cs ≡ true → list_all is_shown (take n cs) ≡ true
all_before zero cs all = refl
all_before (suc n) [] all = refl
all_before (suc n) (c ∷ cs) all =
    let parts = and_parts (is_shown c) (list_all is_shown cs) all in
    and_from _ _ parts.0 (all_before n cs parts.1)

harmless_characters : (cs : List ℕ) → list_all is_shown cs ≡ true → IsHarmless (flat_map character cs)
harmless_characters cs all = record { characters = cs; spelled = refl; shown = all }

cut_put : IsHarmless cut_mark
cut_put = record { characters = 8230 ∷ []; spelled = sym (append-nil (character 8230)); shown = refl }

front_put : (first : ℕ) → IsHarmless (front_mark first)
unfolding front_mark
front_put first = by (first == 0)
  where
    by : (b : Bool) → IsHarmless (if b then [] else cut_mark ++ codes " ")
    by true = harmless_codes [] refl
    by false = cut_put ⌢ harmless_codes (codes " ") refl

back_put : (shown all : ℕ) → IsHarmless (back_mark shown all)
unfolding back_mark
back_put shown all = by (nat_lt shown all)
  where
    by : (b : Bool) → IsHarmless (if b then codes " " ++ cut_mark else [])
    by true = harmless_codes (codes " ") refl ⌢ cut_put
    by false = harmless_codes [] refl

two_spaces : IsHarmless (codes "  ")
two_spaces = harmless_codes (codes "  ") refl

gutter : IsHarmless (codes " | ")
gutter = harmless_codes (codes " | ") refl

harmless_line : (digits cs : List ℕ) (first shown : ℕ) → list_all is_shown cs ≡ true → IsHarmless (shown_line digits cs first shown)
unfolding shown_line
harmless_line digits cs first shown all =
    two_spaces ⌢ harmless_plain digits ⌢ gutter ⌢ front_put first ⌢ harmless_characters (take shown cs) (all_before shown cs all) ⌢ back_put shown (length cs) ⌢ feed

harmless_carets : (digits mark spaces count : ℕ) → IsHarmless (caret_line digits mark spaces count)
unfolding caret_line
harmless_carets digits mark spaces count =
    two_spaces ⌢ harmless_repeated digits 32 refl ⌢ gutter ⌢ harmless_repeated mark 32 refl ⌢ harmless_repeated spaces 32 refl
    ⌢ harmless_repeated count 94 refl ⌢ feed

harmless_window : (number : ℕ) (cs : List ℕ) (first shift count : ℕ) → list_all is_shown cs ≡ true → IsHarmless (window number cs first shift count)
unfolding window
harmless_window number cs first shift count all =
    harmless_line (decimal number) cs first (size_shown cs shift) all ⌢ harmless_carets (length (decimal number)) (mark_width first) shift _

harmless_at : (name : List ℕ) (l : Line) (size : ℕ) → IsHarmless (shown_at name l size)
unfolding shown_at
harmless_at name l size =
    let cs = characters_of l.bytes in
    let first = first_shown cs (column l) in
    harmless_words name l.number (column l)
    ⌢ harmless_window l.number (drop first cs) first (column l - first) (meant l size)
    (all_behind first cs (all_shown spaced spaced_is_shown (lossy_chars (without_terminator l.bytes))))

pub harmless_octet : (name bs : List ℕ) (n : ℕ) → IsHarmless (shown_octet name bs n)
unfolding shown_octet octet_words
harmless_octet name bs n =
    harmless_paragraph _
    ⌢ harmless_window n (characters_of (hex_text (take 30 (drop (n - 10) bs)))) (n - 10) (3 * min n 10) 2
    (all_shown spaced spaced_is_shown (lossy_chars (without_terminator (hex_text (take 30 (drop (n - 10) bs))))))

pub harmless_place : PlacesAreHarmless
unfolding shown_place
harmless_place name text offset size = harmless_at name (line_at text offset) size
