-- The objects of the parts of one group, put into a table one by one.
use Rattle.std.proofs.Common.{◌≡◌, ℕ, Bool, true, false, ◌&&◌, ◌||◌, not, cond, List, [], ◌∷◌, ◌++◌, map, Some, None, refl, ap, ◌∙◌}
use Rattle.std.specs.Prelude.{nat_eq}
use Rattle.std.specs.Cmp.{nat_eq_equiv}
use Rattle.std.specs.Cmp.Derive.{both_true}
use Rattle.std.specs.Cmp.Lexicographic.{nat_list_eq_equiv}
use Rattle.std.specs.List.{list_all}
use Rattle.std.specs.Map.{lookup}
use Rattle.std.specs.Str.{bytes_eq}
use Rattle.std.proofs.lemmas.Slice.Eq.{bytes_eq-Decides}
use Rattle.indexmap.proofs.CallerLemmas.{insert_entry-new}
use Rattle.indexmap.specs.IndexMap.{IndexMap, insert_entry}
use Rattle.mh_model.specs.declared.object.Fixed.{Fixed}
use Rattle.mh_model.specs.declared.object.Object.{Object}
use Rattle.mh_model.specs.Configuration.{is_keyed, are_apart}
use Rattle.mh_model.specs.Service.{is_in, fresh}
use Rattle.mh_model.specs.Reference.{same_ref}
use Rattle.mh_model.proofs.ListLemmas.{and_left, and_right, all_joined}
use Rattle.mh_store.specs.Table.{IsKeyed, objects_of, is_new, entry_of}

-- the parts can be put behind these entries, each under a number that is new
abbrev pub are_new : List (ℕ × Object) → List Fixed → Bool
are_new es [] = true
are_new es (p ∷ ps) = is_new p.key.number es && are_new (es ++ entry_of p ∷ []) ps

neither_first : (a b : Bool) → not (a || b) ≡ true → not a ≡ true
neither_first true b h = h
neither_first false b h = refl

neither_other : (a b : Bool) → not (a || b) ≡ true → not b ≡ true
neither_other true b h = absurd cc
neither_other false b h = h

-- two parts of one group that are not the same have different numbers
other_number : (g : List ℕ) (p q : Fixed) → is_in g p ≡ true → is_in g q ≡ true → not (same_ref p.key q.key) ≡ true → not (nat_eq q.key.number p.key.number) ≡ true
other_number g p q first second other =
    let here : p.key.group ≡ g = (bytes_eq-Decides p.key.group g).0 first in
    let there : bytes_eq p.key.group q.key.group ≡ true = ap (λ (h : List ℕ). bytes_eq h q.key.group) here ∙ nat_list_eq_equiv.symm g q.key.group ∙ second in
    let apart : not (nat_eq p.key.number q.key.number) ≡ true = by (bytes_eq p.key.group q.key.group) there other in
    ap not (nat_eq_equiv.symm q.key.number p.key.number) ∙ apart
  where
    by : (t : Bool) → t ≡ true → not (t && nat_eq p.key.number q.key.number) ≡ true → not (nat_eq p.key.number q.key.number) ≡ true
    by true is h = h
    by false is h = absurd cc

-- numbers that are new stay so behind a part with another key
still_new : (g : List ℕ) (p : Fixed) (es : List (ℕ × Object)) (ps : List Fixed) → is_in g p ≡ true → list_all (is_in g) ps ≡ true → not (is_keyed p.key ps) ≡ true → list_all (λ q. is_new q.key.number es) ps ≡ true → list_all (λ q. is_new q.key.number (es ++ entry_of p ∷ [])) ps ≡ true
still_new g p es [] first own apart new = refl
still_new g p es (q ∷ ps) first own apart new =
    let other = other_number g p q first (and_left (is_in g q) (list_all (is_in g) ps) own) (neither_first (same_ref p.key q.key) (is_keyed p.key ps) apart) in
    let here = all_joined (λ e. not (nat_eq q.key.number e.0)) es (entry_of p ∷ []) (and_left (is_new q.key.number es) (list_all (λ x. is_new x.key.number es) ps) new) (both_true other refl) in
    both_true here (still_new g p es ps first (and_right (is_in g q) (list_all (is_in g) ps) own) (neither_other (same_ref p.key q.key) (is_keyed p.key ps) apart) (and_right (is_new q.key.number es) (list_all (λ x. is_new x.key.number es) ps) new))

new_behind : (g : List ℕ) (es : List (ℕ × Object)) (ps : List Fixed) → list_all (is_in g) ps ≡ true → are_apart ps ≡ true → list_all (λ q. is_new q.key.number es) ps ≡ true → are_new es ps ≡ true
new_behind g es [] own apart new = refl
new_behind g es (p ∷ ps) own apart new =
    let own_others = and_right (is_in g p) (list_all (is_in g) ps) own in
    let others = still_new g p es ps (and_left (is_in g p) (list_all (is_in g) ps) own) own_others (and_left (not (is_keyed p.key ps)) (are_apart ps) apart) (and_right (is_new p.key.number es) (list_all (λ q. is_new q.key.number es) ps) new) in
    both_true (and_left (is_new p.key.number es) (list_all (λ q. is_new q.key.number es) ps) new) (new_behind g (es ++ entry_of p ∷ []) ps own_others (and_right (not (is_keyed p.key ps)) (are_apart ps) apart) others)

all_new : (ps : List Fixed) → list_all (λ q. is_new q.key.number []) ps ≡ true
all_new [] = refl
all_new (p ∷ ps) = all_new ps

-- parts of one group that are apart can be put into an empty table
pub are_new-from_nothing : (g : List ℕ) (ps : List Fixed) → list_all (is_in g) ps ≡ true → are_apart ps ≡ true → are_new [] ps ≡ true
are_new-from_nothing g ps own apart = new_behind g [] ps own apart (all_new ps)

lookup-new : (n : ℕ) (es : List (ℕ × Object)) → is_new n es ≡ true → lookup (nat_eq n) es ≡ None
lookup-new n [] new = refl
lookup-new n (e ∷ es) new = by (nat_eq n e.0) (λ h. lookup-new n es h) new
  where
    by : (t : Bool) → (is_new n es ≡ true → lookup (nat_eq n) es ≡ None) → (not t && is_new n es) ≡ true → cond t (Some e.1) (lookup (nat_eq n) es) ≡ None
    by true below h = absurd cc
    by false below h = below h

-- the object of a part whose number is new goes last
pub insert_entry-entry_of : {S : Type 0} (m : IndexMap ℕ Object S) (p : Fixed) (n : ℕ) (o : Object) → n ≡ p.key.number → o ≡ fresh p → is_new p.key.number m.entries ≡ true → insert_entry nat_eq m.entries n o ≡ m.entries ++ entry_of p ∷ []
insert_entry-entry_of m p n o numbered made new =
    let none : lookup (nat_eq n) m.entries ≡ None = rw numbered (lookup-new p.key.number m.entries new) in
    insert_entry-new nat_eq m n o none ∙ ap (λ e. m.entries ++ e ∷ []) (λ i. (numbered i, made i))

-- what was put in is what the parts begin as, each under its own number
pub objects_of-parts : (ps : List Fixed) → objects_of (map entry_of ps) ≡ map fresh ps
objects_of-parts [] = refl
objects_of-parts (p ∷ ps) = ap (λ (os : List Object). fresh p ∷ os) (objects_of-parts ps)

pub keyed-parts : (g : List ℕ) (ps : List Fixed) → list_all (is_in g) ps ≡ true → IsKeyed g (map entry_of ps)
keyed-parts g [] own = tt
keyed-parts g (p ∷ ps) own =
    let here : p.key.group ≡ g = (bytes_eq-Decides p.key.group g).0 (and_left (is_in g p) (list_all (is_in g) ps) own) in
    (λ i. record { group = here i; number = p.key.number }, keyed-parts g ps (and_right (is_in g p) (list_all (is_in g) ps) own))
