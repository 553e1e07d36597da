-- What it says of a reading that it went well, and that it did not.
use Rattle.std.proofs.Common.{◌≡◌, ℕ, ◌≤◌, Bool, true, false, nat_lt, if◌then◌else◌, Option, Some, None, Result, Ok, Err, refl, ap, ◌∙◌, subst, arith}
use Rattle.std.proofs.lemmas.Bool.Decides.{nat_tests}
use Rattle.mh_base.specs.Limits.{largest_file}
use Rattle.mh_base.specs.Reading.{Refusal, refused, ◌>>=◌, Fails}

-- a reading that went well
pub record Went {A B E : Type 0} (read : Result A E) (f : A → Result B E) (y : B) : Type 0 where
  pub value : A
  pub first : read ≡ Ok value
  pub behind : f value ≡ Ok y

pub went : {A B E : Type 0} (read : Result A E) (f : A → Result B E) (y : B) → (read >>= f) ≡ Ok y → Went read f y
went (Ok x) f y e = record { value = x; first = refl; behind = e }
went (Err r) f y e = absurd cc

-- a reading that goes well
pub then_is : {A B E : Type 0} (read : Result A E) (f : A → Result B E) (x : A) (y : B) → read ≡ Ok x → f x ≡ Ok y → (read >>= f) ≡ Ok y
then_is read f x y e h = ap (λ r. r >>= f) e ∙ h

-- a test that went well
pub if_ok : {A W : Type 0} (b : Bool) (r : Result A (Refusal W)) (w : W) (o : ℕ) (y : A) → (if b then r else refused w o) ≡ Ok y → (b ≡ true) × (r ≡ Ok y)
if_ok true r w o y e = (refl, e)
if_ok false r w o y e = absurd cc

pub if_not_ok : {A W : Type 0} (b : Bool) (r : Result A (Refusal W)) (w : W) (o : ℕ) (y : A) → (if b then refused w o else r) ≡ Ok y → (b ≡ false) × (r ≡ Ok y)
if_not_ok true r w o y e = absurd cc
if_not_ok false r w o y e = (refl, e)

pub ok_same : {A E : Type 0} {x y : A} → ◌≡◌ {A = Result A E} (Ok x) (Ok y) → x ≡ y
ok_same e = cc

-- what holds of an answer holds of the same one
pub ok_holds : {A E : Type 0} (P : A → Type 0) (x y : A) → ◌≡◌ {A = Result A E} (Ok x) (Ok y) → P x → P y
ok_holds P x y e h = subst P (ok_same e) h

-- a reading has one answer
pub one_answer : {A E : Type 0} (x y : A) (read : Result A E) → read ≡ Ok x → read ≡ Ok y → y ≡ x
one_answer x y read e f = cc

-- a refusal stays, whatever was to follow
pub fails_bind : {A B E : Type 0} (told : Option E) (read : Result A E) (f : A → Result B E) → Fails told read → Fails told (read >>= f)
fails_bind None read f h = tt
fails_bind (Some e) read f h = ap (λ r. r >>= f) h

-- a source that is a file, and one that is too long

pub is_file : (n : ℕ) → nat_lt largest_file n ≡ false → n ≤ largest_file
is_file n h = grind (arith, nat_tests)

pub file_is : (n : ℕ) → n ≤ largest_file → nat_lt largest_file n ≡ false
file_is n h = grind (arith, nat_tests)
