-- What is escaped is text.
use Rattle.std.specs.Prelude.{◌≡◌, ℕ, ◌==◌, Bool, true, false, ◌&&◌, if◌then◌else◌, List, [], ◌∷◌, ◌++◌, codes, refl}
use Rattle.std.specs.List.{list_all}
use Rattle.mh_look.specs.Page.{escape, escaped, is_text}

byte_by : (b : ℕ) (less greater and quote mark : Bool) → (b == 60) ≡ less → (b == 62) ≡ greater → (b == 34) ≡ quote → (b == 39) ≡ mark
    → list_all is_text (if less then codes "&lt;" else (if greater then codes "&gt;" else (if and then codes "&amp;" else (if quote then codes "&quot;" else (if mark then codes "&#39;" else b ∷ []))))) ≡ true
byte_by b true greater and quote mark e f g h = refl
byte_by b false true and quote mark e f g h = refl
byte_by b false false true quote mark e f g h = refl
byte_by b false false false true mark e f g h = refl
byte_by b false false false false true e f g h = refl
byte_by b false false false false false e f g h = rw (e, f, g, h) refl

byte_is_text : (b : ℕ) → list_all is_text (escape b) ≡ true
byte_is_text b = byte_by b (b == 60) (b == 62) (b == 38) (b == 34) (b == 39) refl refl refl refl

first_and : (b whole more : Bool) → (b && whole) ≡ true → (whole ≡ true → more ≡ true) → (b && more) ≡ true
first_and true whole more h f = f h
first_and false whole more h f = h

all_behind : (p : ℕ → Bool) (xs ys : List ℕ) → list_all p xs ≡ true → list_all p ys ≡ true → list_all p (xs ++ ys) ≡ true
all_behind p [] ys e f = f
all_behind p (x ∷ xs) ys e f = first_and (p x) (list_all p xs) (list_all p (xs ++ ys)) e (λ h. all_behind p xs ys h f)

-- no bracket and no quotation mark stands in what is escaped
pub escaped_is_text : (bs : List ℕ) → list_all is_text (escaped bs) ≡ true
escaped_is_text [] = refl
escaped_is_text (b ∷ bs) = all_behind is_text (escape b) (escaped bs) (byte_is_text b) (escaped_is_text bs)
