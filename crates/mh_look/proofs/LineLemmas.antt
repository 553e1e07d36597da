-- The words of a line, cut off one by one.
use Rattle.std.specs.Prelude.{◌≡◌, ◌<◌, ◌^◌, ◌&&◌, ℕ, suc, ◌+◌, ◌-◌, ◌%◌, nat_le, Bool, true, false, List, [], ◌∷◌, ◌++◌, length, take, drop, codes, Some, refl}
use Rattle.std.specs.Fmt.{decimal}
use Rattle.std.specs.List.{list_all, find, suffix_len}
use Rattle.std.specs.Str.{bytes_eq}
use Rattle.std.proofs.Common.{ap, ◌∙◌, sym, arith, append_assoc, append-nil}
use Rattle.std.proofs.lemmas.Bool.Decides.{nat_tests}
use Rattle.std.proofs.lemmas.Fmt.{decimal_by_steps}
use Rattle.std.proofs.lemmas.List.{length-append}
use Rattle.std.proofs.Math.Seq.{drop-append-add, take-append_seam}
use Rattle.mh_base.specs.Path.{is_path, is_name_byte, has_good_parts}
use Rattle.mh_base.specs.declared.obj_ref.ObjRef.{ObjRef}
use Rattle.mh_group.specs.Words.{action_word, actions}
use Rattle.mh_group.specs.declared.action_name.ActionName.{ActionName}
use Rattle.mh_group.specs.declared.action_name.ActionName.TheVariants as action
use Rattle.mh_model.specs.declared.fault.Fault.{Fault}
use Rattle.mh_model.specs.declared.fault.FaultKind.{FaultKind}
use Rattle.mh_model.specs.declared.fault.FaultKind.TheVariants as fault
use Rattle.mh_told.specs.Told.{fault_line, fault_word}
use Rattle.mh_look.specs.Reading.{EndsNumber}
use Rattle.mh_look.specs.Report.{IsGoodFault}
use Rattle.mh_look.specs.Front.{is_other, lacks, before, behind}
use Rattle.mh_look.specs.Lines.{kind_of}
use Rattle.mh_look.proofs.FrontLemmas.{before_is, behind_is, lacks_both, count_behind_is}

-- Bytes that do not stand in a word.

digit_is_other : (c d : ℕ) → c < 48 → is_other c (48 + d) ≡ true
digit_is_other c d small = grind (arith, nat_tests)

pub digits_lack : (c n : ℕ) → c < 48 → n < 2 ^ 64 → lacks c (decimal n) ≡ true
digits_lack c n small fits =
    decimal_by_steps (λ m ds. lacks c ds ≡ true)
    (λ m one. ap (λ (b : Bool). b && true) (digit_is_other c m small))
    (λ m ds more front. lacks_both c ds ((48 + m % 10) ∷ []) front (ap (λ (b : Bool). b && true) (digit_is_other c (m % 10) small)))
    n fits

name_byte_ends_no_line : (b : ℕ) → is_name_byte b ≡ true → is_other 10 b ≡ true
name_byte_ends_no_line b h = grind (arith, nat_tests)

names_end_no_line : (bs : List ℕ) → list_all is_name_byte bs ≡ true → lacks 10 bs ≡ true
names_end_no_line [] h = refl
names_end_no_line (b ∷ bs) h = by (is_name_byte b) refl (names_end_no_line bs) h
  where
    by : (t : Bool) → is_name_byte b ≡ t → (list_all is_name_byte bs ≡ true → lacks 10 bs ≡ true) → (t && list_all is_name_byte bs) ≡ true → lacks 10 (b ∷ bs) ≡ true
    by true e more rest = ap (λ (t : Bool). t && lacks 10 bs) (name_byte_ends_no_line b e) ∙ more rest
    by false e more rest = absurd (cc)

-- a number ends where something other than a digit stands
pub ends_number : (b : ℕ) (rest : List ℕ) → b < 48 → EndsNumber (b ∷ rest)
ends_number b rest low d back small e = let same : b ≡ 48 + d = cc in absurd (omega arith)

pub ends_number_nil : EndsNumber []
ends_number_nil d back small e = absurd (cc)

-- References.

pub record HasReference (bytes : List ℕ) (digits : ℕ) (r : ObjRef) : Type 0 where
  pub number : drop (length bytes - digits) bytes ≡ decimal r.number ++ []
  pub group : take (length bytes - digits - 1) bytes ≡ r.group

pub reference_stands : (bytes : List ℕ) (digits : ℕ) (r : ObjRef) → r.number < 2 ^ 32 → digits ≡ suffix_len (is_other 32) bytes → bytes ≡ r.group ++ 32 ∷ decimal r.number → HasReference bytes digits r
reference_stands bytes digits r small count e =
    let behind_space : digits ≡ length (decimal r.number) = count ∙ ap (suffix_len (is_other 32)) e ∙ count_behind_is 32 r.group (decimal r.number) (digits_lack 32 r.number (omega arith) (omega arith)) in
    let long : length bytes ≡ length r.group + suc (length (decimal r.number)) = ap length e ∙ length-append r.group (32 ∷ decimal r.number) in
    let start : length bytes - digits ≡ length r.group + 1 = omega arith in
    let end : length bytes - digits - 1 ≡ length r.group = omega arith in
    record {
      number = ap (λ (n : ℕ). drop n bytes) start ∙ ap (drop (length r.group + 1)) e ∙ drop-append-add r.group (32 ∷ decimal r.number) 1 ∙ sym (append-nil (decimal r.number));
      group = ap (λ (n : ℕ). take n bytes) end ∙ ap (take (length r.group)) e ∙ take-append_seam r.group (32 ∷ decimal r.number);
    }

-- a path ends no line
pub path_ends_no_line : (bs : List ℕ) → is_path bs ≡ true → lacks 10 bs ≡ true
path_ends_no_line bs h = by (nat_le 1 (length bs)) (nat_le (length bs) 255) (list_all is_name_byte bs) (has_good_parts bs) refl h
  where
    by : (a b t d : Bool) → list_all is_name_byte bs ≡ t → (a && b && t && d) ≡ true → lacks 10 bs ≡ true
    by true true true d e all = names_end_no_line bs e
    by true true false d e all = absurd (cc)
    by true false t d e all = absurd (cc)
    by false b t d e all = absurd (cc)

-- Faults.

pub kind_read : (k : FaultKind) → kind_of (fault_word k) ≡ Some k
kind_read fault.Absent = refl
kind_read fault.WrongClass = refl
kind_read fault.WrongKind = refl

pub action_read : (a : ActionName) → find (λ x. bytes_eq (action_word x) (action_word a)) actions ≡ Some a
unfolding action_word
action_read action.Run = refl
action_read _ = refl

action_is_word : (a : ActionName) → lacks 32 (action_word a) ≡ true
unfolding action_word
action_is_word action.Run = refl
action_is_word _ = refl

kind_is_word : (k : FaultKind) → lacks 32 (fault_word k) ≡ true
kind_is_word fault.Absent = refl
kind_is_word fault.WrongClass = refl
kind_is_word fault.WrongKind = refl

pub record HasFault (bytes : List ℕ) (f : Fault) : Type 0 where
  pub what : before 32 (behind 32 bytes) ≡ fault_word f.what
  pub action : before 32 (behind 32 (behind 32 bytes)) ≡ action_word f.action
  pub at : before 10 (behind 32 (behind 32 (behind 32 bytes))) ≡ f.at.group ++ 32 ∷ decimal f.at.number

-- the same words, grouped from behind
regrouped : (front what action group number rest : List ℕ)
    → (front ++ what ++ 32 ∷ [] ++ action ++ 32 ∷ [] ++ group ++ 32 ∷ [] ++ number ++ 10 ∷ []) ++ rest
    ≡ front ++ (what ++ 32 ∷ (action ++ 32 ∷ ((group ++ 32 ∷ number) ++ 10 ∷ rest)))
regrouped front what action group number rest = simp append_assoc

pub fault_stands : (bytes : List ℕ) (f : Fault) (rest : List ℕ) → IsGoodFault f → bytes ≡ fault_line f ++ rest → HasFault bytes f
unfolding fault_line
fault_stands bytes f rest good e =
    let reference : List ℕ = f.at.group ++ 32 ∷ decimal f.at.number in
    let words : bytes ≡ codes "fault" ++ 32 ∷ (fault_word f.what ++ 32 ∷ (action_word f.action ++ 32 ∷ (reference ++ 10 ∷ rest))) = e ∙ regrouped (codes "fault ") (fault_word f.what) (action_word f.action) f.at.group (decimal f.at.number) rest in
    let first : behind 32 bytes ≡ fault_word f.what ++ 32 ∷ (action_word f.action ++ 32 ∷ (reference ++ 10 ∷ rest)) = ap (behind 32) words ∙ behind_is 32 (codes "fault") (fault_word f.what ++ 32 ∷ (action_word f.action ++ 32 ∷ (reference ++ 10 ∷ rest))) refl in
    let second : behind 32 (behind 32 bytes) ≡ action_word f.action ++ 32 ∷ (reference ++ 10 ∷ rest) = ap (behind 32) first ∙ behind_is 32 (fault_word f.what) (action_word f.action ++ 32 ∷ (reference ++ 10 ∷ rest)) (kind_is_word f.what) in
    let third : behind 32 (behind 32 (behind 32 bytes)) ≡ reference ++ 10 ∷ rest = ap (behind 32) second ∙ behind_is 32 (action_word f.action) (reference ++ 10 ∷ rest) (action_is_word f.action) in
    let whole : lacks 10 (f.at.group ++ 32 ∷ decimal f.at.number) ≡ true = lacks_both 10 f.at.group (32 ∷ decimal f.at.number) (path_ends_no_line f.at.group good.group) (digits_lack 10 f.at.number (omega arith) (omega (arith, good.number))) in
    record {
      what = ap (before 32) first ∙ before_is 32 (fault_word f.what) (action_word f.action ++ 32 ∷ (reference ++ 10 ∷ rest)) (kind_is_word f.what);
      action = ap (before 32) second ∙ before_is 32 (action_word f.action) (reference ++ 10 ∷ rest) (action_is_word f.action);
      at = ap (before 10) third ∙ before_is 10 reference rest whole;
    }
