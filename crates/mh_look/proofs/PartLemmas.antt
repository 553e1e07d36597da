-- The parts that are one line, found by their words.
use Rattle.std.specs.Prelude.{◌≡◌, ◌≢◌, ◌<◌, ◌^◌, ℕ, ◌-◌, true, false, List, [], ◌∷◌, ◌++◌, length, take, drop, codes, Option, Some, None, refl}
use Rattle.std.specs.Fmt.{decimal}
use Rattle.std.specs.Str.{bytes_eq}
use Rattle.std.proofs.Common.{ap, ◌∙◌, sym, arith, subst, append_assoc}
use Rattle.std.proofs.Math.Seq.{drop-append_seam}
use Rattle.mh_group.specs.Words.{action_word}
use Rattle.mh_model.specs.declared.fault.Fault.{Fault}
use Rattle.mh_model.specs.declared.rest.Rest.{Rest}
use Rattle.mh_model.specs.declared.rest.Rest.TheVariants as rest
use Rattle.mh_told.specs.Told.{fault_line, fault_word, refused_line, did_line, rest_word, total_line}
use Rattle.mh_look.specs.declared.report.Part.{Part}
use Rattle.mh_look.specs.declared.report.Part.TheVariants as part
use Rattle.mh_look.specs.Reading.{Begins, EndsNumber, IsNumberFound}
use Rattle.mh_look.specs.Front.{IsInFront, lacks, before, behind}
use Rattle.mh_look.specs.Lines.{line_text, IsGoodLine, IsLineFound, IsTotalFound, TakesPart, TakesFault, TakesShort, TakesDid, left_of}
use Rattle.mh_look.proofs.FrontLemmas.{before_is, behind_is, slice_to_end}
use Rattle.mh_look.proofs.LineLemmas.{ends_number}

pub first_of_pair : {A B : Type 0} (a c : A) (b d : B) → ◌≡◌ {A = Option (A × B)} (Some (a, b)) (Some (c, d)) → a ≡ c
first_of_pair a c b d e = ap (λ x. x.0) (inside (a, b) (c, d) e)
  where
    inside : {X : Type 0} (x y : X) → Some x ≡ Some y → x ≡ y
    inside x y e = cc

pub second_of_pair : {A B : Type 0} (a c : A) (b d : B) → ◌≡◌ {A = Option (A × B)} (Some (a, b)) (Some (c, d)) → b ≡ d
second_of_pair a c b d e = ap (λ x. x.1) (inside (a, b) (c, d) e)
  where
    inside : {X : Type 0} (x y : X) → Some x ≡ Some y → x ≡ y
    inside x y e = cc

-- Steps that were done.

left_read : (left : Rest) → left_of (rest_word left) ≡ Some left
left_read rest.Idle = refl
left_read rest.More = refl
left_read rest.Ended = refl

left_ends_number : (left : Rest) (back : List ℕ) → EndsNumber (rest_word left ++ back)
left_ends_number rest.Idle back = ends_number 32 (codes "idle" ++ back) (omega arith)
left_ends_number rest.More back = ends_number 32 (codes "more" ++ back) (omega arith)
left_ends_number rest.Ended back = ends_number 32 (codes "ended" ++ back) (omega arith)

left_ends_no_line : (left : Rest) → lacks 10 (rest_word left) ≡ true
left_ends_no_line rest.Idle = refl
left_ends_no_line rest.More = refl
left_ends_no_line rest.Ended = refl

pub record HasDid (words : List ℕ) (steps digits n : ℕ) (left : Rest) : Type 0 where
  pub same : steps ≡ n
  pub told : left_of (before 10 (take (length words - digits) (drop digits words))) ≡ Some left

pub did_stands : (words : List ℕ) (found : Option (ℕ × ℕ)) (steps digits n : ℕ) (left : Rest) (rest : List ℕ)
    → IsNumberFound words found → found ≡ Some (steps, digits) → n < 2 ^ 64 → words ≡ decimal n ++ (rest_word left ++ 10 ∷ rest) → HasDid words steps digits n left
did_stands words found steps digits n left rest number was small e =
    let read : ◌≡◌ {A = Option (ℕ × ℕ)} (Some (steps, digits)) (Some (n, length (decimal n))) = sym was ∙ number n small (rest_word left ++ 10 ∷ rest) (left_ends_number left (10 ∷ rest)) e in
    let count : digits ≡ length (decimal n) = second_of_pair steps n digits (length (decimal n)) read in
    let behind_digits : drop digits words ≡ rest_word left ++ 10 ∷ rest = ap (λ (k : ℕ). drop k words) count ∙ ap (drop (length (decimal n))) e ∙ drop-append_seam (decimal n) (rest_word left ++ 10 ∷ rest) in
    record {
      same = first_of_pair steps n digits (length (decimal n)) read;
      told = ap left_of (ap (before 10) (slice_to_end words digits ∙ behind_digits) ∙ before_is 10 (rest_word left) rest (left_ends_no_line left)) ∙ left_read left;
    }

-- Parts by their first words.

abbrev pub line_word : Part → List ℕ
line_word (part.Fault f) = codes "fault"
line_word (part.Refused n) = codes "refused"
line_word (part.Did n left) = codes "did"
line_word (part.Frame p) = []

first_word : (bytes : List ℕ) (p : Part) → IsGoodLine p → (rest : List ℕ) → bytes ≡ line_text p ++ rest → before 32 bytes ≡ line_word p
unfolding fault_line refused_line did_line
first_word bytes (part.Fault f) good rest e =
    ap (before 32) e
    ∙ before_is 32 (codes "fault") ((fault_word f.what ++ codes " " ++ action_word f.action ++ codes " " ++ f.at.group ++ codes " " ++ decimal f.at.number ++ 10 ∷ []) ++ rest) refl
first_word bytes (part.Refused n) good rest e = ap (before 32) e ∙ before_is 32 (codes "refused") ((decimal n ++ 10 ∷ []) ++ rest) refl
first_word bytes (part.Did n left) good rest e = ap (before 32) e ∙ before_is 32 (codes "did") ((decimal n ++ rest_word left ++ 10 ∷ []) ++ rest) refl
first_word bytes (part.Frame p) good rest e = absurd good

-- what stands behind the first word
behind_refused : (bytes : List ℕ) (n : ℕ) (rest : List ℕ) → bytes ≡ refused_line n ++ rest → behind 32 bytes ≡ decimal n ++ 10 ∷ rest
unfolding refused_line
behind_refused bytes n rest e = ap (behind 32) e ∙ behind_is 32 (codes "refused") ((decimal n ++ 10 ∷ []) ++ rest) refl ∙ append_assoc (decimal n) (10 ∷ []) rest

behind_did : (bytes : List ℕ) (n : ℕ) (left : Rest) (rest : List ℕ) → bytes ≡ did_line n left ++ rest → behind 32 bytes ≡ decimal n ++ (rest_word left ++ 10 ∷ rest)
unfolding did_line
behind_did bytes n left rest e =
    ap (behind 32) e ∙ behind_is 32 (codes "did") ((decimal n ++ rest_word left ++ 10 ∷ []) ++ rest) refl
    ∙ append_assoc (decimal n ++ rest_word left) (10 ∷ []) rest ∙ append_assoc (decimal n) (rest_word left) (10 ∷ rest)

other_word : (a b : List ℕ) → bytes_eq a b ≡ false → bytes_eq b b ≡ true → a ≡ b → ⊥
other_word a b other same e = let wrong : true ≡ false = sym same ∙ sym (ap (λ (w : List ℕ). bytes_eq w b) e) ∙ other in absurd (cc)

pub takes_fault : (bytes : List ℕ) (fault : Option Fault) (found : Option Part) → before 32 bytes ≡ codes "fault" → TakesFault bytes fault
    → ((f : Fault) → fault ≡ Some f → found ≡ Some (part.Fault f)) → TakesPart bytes found
takes_fault bytes fault found word takes mapped (part.Fault f) good rest e = mapped f (takes f good rest e)
takes_fault bytes fault found word takes mapped (part.Refused n) good rest e = absurd (other_word (codes "refused") (codes "fault") refl refl (sym (first_word bytes (part.Refused n) good rest e) ∙ word))
takes_fault bytes fault found word takes mapped (part.Did n left) good rest e = absurd (other_word (codes "did") (codes "fault") refl refl (sym (first_word bytes (part.Did n left) good rest e) ∙ word))
takes_fault bytes fault found word takes mapped (part.Frame p) good rest e = absurd good

pub takes_refused : (bytes : List ℕ) (number : Option ℕ) (found : Option Part) → before 32 bytes ≡ codes "refused" → TakesShort (behind 32 bytes) number
    → ((n : ℕ) → number ≡ Some n → found ≡ Some (part.Refused n)) → TakesPart bytes found
takes_refused bytes number found word takes mapped (part.Fault f) good rest e = absurd (other_word (codes "fault") (codes "refused") refl refl (sym (first_word bytes (part.Fault f) good rest e) ∙ word))
takes_refused bytes number found word takes mapped (part.Refused n) good rest e = mapped n (takes n good (10 ∷ rest) (ends_number 10 rest (omega arith)) (behind_refused bytes n rest e))
takes_refused bytes number found word takes mapped (part.Did n left) good rest e = absurd (other_word (codes "did") (codes "refused") refl refl (sym (first_word bytes (part.Did n left) good rest e) ∙ word))
takes_refused bytes number found word takes mapped (part.Frame p) good rest e = absurd good

pub takes_did : (bytes : List ℕ) (found : Option Part) → before 32 bytes ≡ codes "did" → TakesDid (behind 32 bytes) found → TakesPart bytes found
takes_did bytes found word takes (part.Fault f) good rest e = absurd (other_word (codes "fault") (codes "did") refl refl (sym (first_word bytes (part.Fault f) good rest e) ∙ word))
takes_did bytes found word takes (part.Refused n) good rest e = absurd (other_word (codes "refused") (codes "did") refl refl (sym (first_word bytes (part.Refused n) good rest e) ∙ word))
takes_did bytes found word takes (part.Did n left) good rest e = takes n left good rest (behind_did bytes n left rest e)
takes_did bytes found word takes (part.Frame p) good rest e = absurd good

pub takes_none : (bytes : List ℕ) → before 32 bytes ≢ codes "fault" → before 32 bytes ≢ codes "refused" → before 32 bytes ≢ codes "did" → TakesPart bytes None
takes_none bytes no_fault no_refused no_did (part.Fault f) good rest e = absurd (no_fault (first_word bytes (part.Fault f) good rest e))
takes_none bytes no_fault no_refused no_did (part.Refused n) good rest e = absurd (no_refused (first_word bytes (part.Refused n) good rest e))
takes_none bytes no_fault no_refused no_did (part.Did n left) good rest e = absurd (no_did (first_word bytes (part.Did n left) good rest e))
takes_none bytes no_fault no_refused no_did (part.Frame p) good rest e = absurd good

-- a part that is printed again and stands there is found
pub line_found : (bytes : List ℕ) (p : Part) (n : ℕ) → TakesPart bytes (Some p) → IsGoodLine p → IsInFront bytes (line_text p) (Some n) → IsLineFound bytes (Some (p, n))
line_found bytes p n takes good front = record {
  read = λ q m e.
      let same : p ≡ q = first_of_pair p q n m e in
      let long : n ≡ m = second_of_pair p q n m e in
      subst (λ (k : ℕ). Begins bytes (line_text q) k) long (subst (λ (x : Part). Begins bytes (line_text x) n) same (front.read n refl));
  good = λ q m e. subst (λ (x : Part). IsGoodLine x) (first_of_pair p q n m e) good;
  taken = λ q is_good rest e.
      let same : p ≡ q = cc (takes q is_good rest e) in
      let long : Some n ≡ Some (length (line_text p)) = front.taken rest (e ∙ ap (λ (x : Part). line_text x ++ rest) (sym same)) in
      let count : n ≡ length (line_text p) = cc in
      ap (λ (k : ℕ). Some (p, k)) count ∙ ap (λ (x : Part). Some (x, length (line_text x))) same;
}

-- The line that ends a report.

total_stands : (bytes : List ℕ) (n : ℕ) → bytes ≡ total_line n → behind 32 bytes ≡ decimal n ++ 10 ∷ []
unfolding total_line
total_stands bytes n e = ap (behind 32) e ∙ behind_is 32 (codes "total") (decimal n ++ 10 ∷ []) refl

pub total_read : (bytes : List ℕ) (found : Option (ℕ × ℕ)) (n : ℕ) → IsNumberFound (behind 32 bytes) found → n < 2 ^ 64 → bytes ≡ total_line n → found ≡ Some (n, length (decimal n))
total_read bytes found n number small e = number n small (10 ∷ []) (ends_number 10 [] (omega arith)) (total_stands bytes n e)

pub no_total : (bytes : List ℕ) → ((n : ℕ) → n < 2 ^ 64 → bytes ≢ total_line n) → IsTotalFound bytes None
no_total bytes other = record {
  read = λ n e. absurd (cc);
  good = λ n e. absurd (cc);
  taken = λ n small e. absurd (other n small e);
}

pub total_found : (bytes : List ℕ) (found : Option (ℕ × ℕ)) (steps digits : ℕ) → IsNumberFound (behind 32 bytes) found → found ≡ Some (steps, digits) → steps < 2 ^ 64 → bytes ≡ total_line steps → IsTotalFound bytes (Some steps)
total_found bytes found steps digits number was small e = record {
  read = λ n same. let is : steps ≡ n = cc in e ∙ ap total_line is;
  good = λ n same. let is : steps ≡ n = cc in subst (λ (k : ℕ). k < 2 ^ 64) is small;
  taken = λ n fits whole. ap (λ (k : ℕ). Some k) (first_of_pair steps n digits (length (decimal n)) (sym was ∙ total_read bytes found n number fits whole));
}

-- the number that is printed again does not stand there, so none does
pub total_elsewhere : (bytes : List ℕ) (found : Option (ℕ × ℕ)) (steps digits : ℕ) → IsNumberFound (behind 32 bytes) found → found ≡ Some (steps, digits) → bytes ≢ total_line steps → IsTotalFound bytes None
total_elsewhere bytes found steps digits number was other =
    no_total bytes (λ n small e.
    let same : steps ≡ n = first_of_pair steps n digits (length (decimal n)) (sym was ∙ total_read bytes found n number small e) in
    other (e ∙ ap total_line (sym same)))
