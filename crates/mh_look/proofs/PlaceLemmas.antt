-- The text of a place, from its front on.
use Rattle.std.specs.Prelude.{◌≡◌, ℕ, ◌+◌, ◌<◌, List, [], ◌∷◌, ◌++◌, length, Option, Some, refl}
use Rattle.std.specs.Fmt.{decimal}
use Rattle.std.proofs.Common.{ap, ◌∙◌, sym, arith, get_or, append_assoc}
use Rattle.std.proofs.lemmas.List.{length-append}
use Rattle.mh_told.specs.Printing.{hex_colour}
use Rattle.mh_look.specs.declared.report.run.Place.{Place}
use Rattle.mh_look.specs.Cells.{place_text, place_length, colours_text}
use Rattle.mh_look.specs.Reading.{EndsNumber}
use Rattle.mh_look.proofs.OptionLemmas.{firsts, seconds}
use Rattle.mh_look.proofs.TailLemmas.{tail, tail_at}

-- a byte below the digits ends a number
pub ends_number : (m : ℕ) (xs : List ℕ) → m < 48 → EndsNumber (m ∷ xs)
ends_number m xs low = λ d back digit e. let same : m ≡ 48 + d = ap (λ (ys : List ℕ). get_or ys 0 0) e in absurd (omega (arith, same, low))

-- the two colours
pub at_fore : (fore back : ℕ) (rest bytes : List ℕ) → bytes ≡ colours_text fore back rest → tail 1 bytes ≡ hex_colour fore ++ 47 ∷ (hex_colour back ++ rest)
at_fore fore back rest bytes e = tail_at 1 (32 ∷ []) (hex_colour fore ++ 47 ∷ (hex_colour back ++ rest)) bytes refl e

pub at_back : (fore back : ℕ) (rest bytes : List ℕ) → bytes ≡ colours_text fore back rest → tail 1 (tail 6 (tail 1 bytes)) ≡ hex_colour back ++ rest
at_back fore back rest bytes e =
    let slash : tail 6 (tail 1 bytes) ≡ 47 ∷ (hex_colour back ++ rest) = tail_at 6 (hex_colour fore) (47 ∷ (hex_colour back ++ rest)) (tail 1 bytes) refl (at_fore fore back rest bytes e) in
    tail_at 1 (47 ∷ []) (hex_colour back ++ rest) (tail 6 (tail 1 bytes)) refl slash

-- behind the number of the first column
pub behind_first : (p : Place) (rest bytes : List ℕ) (n : ℕ) → bytes ≡ place_text p rest → n ≡ length (decimal p.first) + 1 → tail n bytes ≡ 45 ∷ (decimal p.last ++ colours_text p.fore p.back rest)
behind_first p rest bytes n e count =
    tail_at n (32 ∷ decimal p.first) (45 ∷ (decimal p.last ++ colours_text p.fore p.back rest)) bytes (omega (arith, count)) e

-- behind both numbers
pub behind_last : (p : Place) (rest bytes : List ℕ) (n m : ℕ) → bytes ≡ place_text p rest → n ≡ length (decimal p.first) + 1 → m ≡ length (decimal p.last) + 1 → tail (n + m) bytes ≡ colours_text p.fore p.back rest
behind_last p rest bytes n m e one other =
    let front : List ℕ = 32 ∷ (decimal p.first ++ 45 ∷ decimal p.last) in
    let long : length front ≡ n + m = omega (arith, length-append (decimal p.first) (45 ∷ decimal p.last), one, other) in
    let parts : place_text p rest ≡ front ++ colours_text p.fore p.back rest = sym (append_assoc (32 ∷ decimal p.first) (45 ∷ decimal p.last) (colours_text p.fore p.back rest)) in
    tail_at (n + m) front (colours_text p.fore p.back rest) bytes long (e ∙ parts)

-- a place and what stands behind it
place_front : (p : Place) (front rest : List ℕ) → place_text p (front ++ rest) ≡ place_text p front ++ rest
place_front p front rest =
    let colours : List ℕ = colours_text p.fore p.back front in
    ap (λ (xs : List ℕ). 32 ∷ (decimal p.first ++ 45 ∷ xs)) (sym (append_assoc (decimal p.last) colours rest))
    ∙ sym (append_assoc (32 ∷ decimal p.first) (45 ∷ (decimal p.last ++ colours)) rest)

place_longer : (p : Place) (front : List ℕ) → length (place_text p front) ≡ place_length p + length front
place_longer p front =
    let one = length-append (decimal p.first) (45 ∷ (decimal p.last ++ colours_text p.fore p.back front)) in
    let two = length-append (decimal p.last) (colours_text p.fore p.back front) in
    omega (arith, one, two)

pub behind_run : (p : Place) (front rest bytes : List ℕ) (n : ℕ) → bytes ≡ place_text p (front ++ rest) → n ≡ place_length p + length front → tail n bytes ≡ rest
behind_run p front rest bytes n e count = tail_at n (place_text p front) rest bytes (place_longer p front ∙ sym count) (e ∙ place_front p front rest)

-- behind the whole place
pub behind_place : (p : Place) (rest bytes : List ℕ) (n : ℕ) → bytes ≡ place_text p rest → n ≡ place_length p → tail n bytes ≡ rest
behind_place p rest bytes n e count = behind_run p [] rest bytes n e (omega (arith, count))

-- a place of these numbers, read from so many bytes
abbrev place_of : ℕ → ℕ → ℕ → ℕ → Place
place_of first last fore back = record { first = first; last = last; fore = fore; back = back }

pub is_place : (p : Place) (first last fore back n m : ℕ)
    → ◌≡◌ {A = Option (ℕ × ℕ)} (Some (first, n)) (Some (p.first, length (decimal p.first) + 1))
    → ◌≡◌ {A = Option (ℕ × ℕ)} (Some (last, m)) (Some (p.last, length (decimal p.last) + 1))
    → ◌≡◌ {A = Option (ℕ × ℕ)} (Some (fore, back)) (Some (p.fore, p.back))
    → ◌≡◌ {A = Option (Place × ℕ)} (Some (place_of first last fore back, n + m + 14)) (Some (p, place_length p))
is_place p first last fore back n m one two three =
    rw (firsts first p.first n _ one, firsts last p.last m _ two, firsts fore p.fore back p.back three, seconds fore p.fore back p.back three, seconds first p.first n _ one, seconds last p.last m _ two) refl
