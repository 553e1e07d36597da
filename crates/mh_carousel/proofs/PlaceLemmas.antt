-- Who waits at a place, once one object or one name has changed.
use Rattle.std.proofs.Common.{◌≡◌, ◌⊎◌, ℕ, zero, suc, ◌+◌, ◌<◌, ◌≤◌, Bool, true, false, ◌&&◌, not, cond, if◌then◌else◌, List, [], ◌∷◌, ◌++◌, filter, length, take, Option, Some, None, refl, ap, sym, ◌∙◌, inl, inr, arith}
use Rattle.std.specs.Prelude.{nat_eq, nat_le}
use Rattle.std.specs.Cmp.{IsEquivalence, nat_eq_equiv}
use Rattle.std.specs.Cmp.Derive.{both_true}
use Rattle.std.specs.Cmp.Lexicographic.{nat_list_eq_equiv}
use Rattle.std.specs.Option.{option_map}
use Rattle.std.specs.Str.{bytes_eq}
use Rattle.std.proofs.Math.Bool.{and_comm}
use Rattle.std.proofs.lemmas.Bool.Decides.{Decides-eqb}
use Rattle.std.proofs.lemmas.List.{append_assoc}
use Rattle.std.proofs.lemmas.List.Elements.{filter-append}
use Rattle.std.proofs.lemmas.Slice.Eq.{bytes_eq-Decides}
use Rattle.mh_base.specs.declared.obj_ref.ObjRef.{ObjRef}
use Rattle.mh_model.specs.declared.file.Wait.{Wait}
use Rattle.mh_model.specs.Reference.{same_key, same_ref}
use Rattle.mh_carousel.specs.declared.slot.Chain.{Chain}
use Rattle.mh_carousel.specs.declared.slot.Slot.{Slot}
use Rattle.mh_carousel.specs.Waited.{Objects, Names, is_place, wait_of, wait_at, waits_from, waits_before, kept_place}
use Rattle.mh_carousel.proofs.TableLemmas.{marked}

-- References are equal, or not, as values are

both : (a b : Bool) → (a && b) ≡ true → (a ≡ true) × (b ≡ true)
both true b h = (refl, h)
both false b h = absurd cc

pub same_key-equiv : IsEquivalence same_key
same_key-equiv = record {
  refl = λ x. both_true (nat_eq_equiv.refl x.number) (nat_list_eq_equiv.refl x.group);
  symm = λ x y i. nat_eq_equiv.symm x.number y.number i && nat_list_eq_equiv.symm x.group y.group i;
  congr = λ x y z h.
      let parts = both (nat_eq x.number y.number) (bytes_eq x.group y.group) h in
      λ i. nat_eq_equiv.congr x.number y.number z.number parts.0 i && nat_list_eq_equiv.congr x.group y.group z.group parts.1 i;
}

pub same_key-same : (a b : ObjRef) → same_key a b ≡ true → a ≡ b
same_key-same a b h =
    let parts = both (nat_eq a.number b.number) (bytes_eq a.group b.group) h in
    let numbers : a.number ≡ b.number = (Decides-eqb a.number b.number).0 parts.0 in
    let groups : a.group ≡ b.group = (bytes_eq-Decides a.group b.group).0 parts.1 in
    λ i. record { number = numbers i; group = groups i }

pub same_ref-key : (a b : ObjRef) → same_ref a b ≡ same_key a b
same_ref-key a b = and_comm (bytes_eq a.group b.group) (nat_eq a.number b.number)

-- One who waits, or nobody, is kept or goes as the test says

stays : (p : Wait → Bool) (w : Wait) (here : Bool) → p w ≡ true → (if here then w ∷ [] else []) ≡ filter p (if here then w ∷ [] else [])
stays p w true passes = ap (λ (t : Bool). cond t (w ∷ []) []) (sym passes)
stays p w false passes = refl

goes : (p : Wait → Bool) (w : Wait) (here : Bool) → p w ≡ false → [] ≡ filter p (if here then w ∷ [] else [])
goes p w true fails = ap (λ (t : Bool). cond t (w ∷ []) []) (sym fails)
goes p w false fails = refl

and_false : (a : Bool) → (a && false) ≡ false
and_false true = refl
and_false false = refl

nowhere : (w : Wait) (a b : Bool) → a ≡ false → (if a && b then w ∷ [] else []) ≡ []
nowhere w a b is = ap (λ (t : Bool). if t && b then w ∷ [] else []) is

too_late : (w : Wait) (a b : Bool) → b ≡ false → (if a && b then w ∷ [] else []) ≡ []
too_late w a b is = ap (λ (t : Bool). if a && t then w ∷ [] else []) is ∙ ap (λ (t : Bool). if t then w ∷ [] else []) (and_false a)

-- An object

-- one that has another place, or none, waits at this place no more
pub gone : (p : ℕ) (r : ObjRef) (v : Option ℕ) (x : Option (ObjRef × Option ℕ)) (n : Option (List ℕ × Chain)) → is_place p v ≡ false → wait_of p (option_map (marked same_key r v) x) n ≡ filter (λ w. not (same_ref r w.object)) (wait_of p x n)
gone p r v None n elsewhere = refl
gone p r v (Some o) None elsewhere = refl
gone p r v (Some o) (Some n) elsewhere = by (same_key r o.0) refl
  where
    w : Wait
    w = record { object = o.0; name = n.0 }

    here : Bool
    here = is_place p o.1 && nat_le n.1.from p

    by : (t : Bool) → same_key r o.0 ≡ t → wait_of p (Some (cond t (o.0, v) o)) (Some n) ≡ filter (λ x. not (same_ref r x.object)) (if here then w ∷ [] else [])
    by true is = nowhere w (is_place p v) (nat_le n.1.from p) elsewhere ∙ goes (λ x. not (same_ref r x.object)) w here (ap not (same_ref-key r o.0 ∙ is))
    by false is = stays (λ x. not (same_ref r x.object)) w here (ap not (same_ref-key r o.0 ∙ is))

pub new_elsewhere : (p : ℕ) (r : ObjRef) (v : Option ℕ) (n : Option (List ℕ × Chain)) → is_place p v ≡ false → wait_of p (Some (r, v)) n ≡ []
new_elsewhere p r v None elsewhere = refl
new_elsewhere p r v (Some n) elsewhere = nowhere (record { object = r; name = n.0 }) (is_place p v) (nat_le n.1.from p) elsewhere

-- those of the application alone keep their places
pub of_application : (p : ℕ) (application : List ℕ) (x : Option (ObjRef × Option ℕ)) (n : Option (List ℕ × Chain)) → wait_of p (option_map (kept_place application) x) n ≡ filter (λ w. bytes_eq w.object.group application) (wait_of p x n)
of_application p application None n = refl
of_application p application (Some o) None = refl
of_application p application (Some o) (Some n) = by (bytes_eq o.0.group application) refl
  where
    w : Wait
    w = record { object = o.0; name = n.0 }

    here : Bool
    here = is_place p o.1 && nat_le n.1.from p

    by : (t : Bool) → bytes_eq o.0.group application ≡ t → wait_of p (Some (o.0, if t then o.1 else None)) (Some n) ≡ filter (λ x. bytes_eq x.object.group application) (if here then w ∷ [] else [])
    by true is = stays (λ x. bytes_eq x.object.group application) w here is
    by false is = goes (λ x. bytes_eq x.object.group application) w here is

-- A name

-- who waits for a file that came waits at no place before
pub came : (p : ℕ) (name : List ℕ) (c : Chain) (x : Option (ObjRef × Option ℕ)) (n : Option (List ℕ × Chain)) → nat_le c.from p ≡ false → wait_of p x (option_map (marked bytes_eq name c) n) ≡ filter (λ w. not (bytes_eq w.name name)) (wait_of p x n)
came p name c None n before = refl
came p name c (Some o) None before = refl
came p name c (Some o) (Some n) before = by (bytes_eq name n.0) refl
  where
    w : Wait
    w = record { object = o.0; name = n.0 }

    here : Bool
    here = is_place p o.1 && nat_le n.1.from p

    by : (t : Bool) → bytes_eq name n.0 ≡ t → wait_of p (Some o) (Some (cond t (n.0, c) n)) ≡ filter (λ x. not (bytes_eq x.name name)) (if here then w ∷ [] else [])
    by true is = too_late w (is_place p o.1) (nat_le c.from p) before ∙ goes (λ x. not (bytes_eq x.name name)) w here (ap not (nat_list_eq_equiv.symm n.0 name ∙ is))
    by false is = stays (λ x. not (bytes_eq x.name name)) w here (ap not (nat_list_eq_equiv.symm n.0 name ∙ is))

-- a name whose places begin where they began is looked for at the same places
pub still : (p : ℕ) (name : List ℕ) (c : Chain) (x : Option (ObjRef × Option ℕ)) (n : Option (List ℕ × Chain)) → ((e : List ℕ × Chain) → n ≡ Some e → bytes_eq name e.0 ≡ true → c.from ≡ e.1.from) → wait_of p x (option_map (marked bytes_eq name c) n) ≡ wait_of p x n
still p name c None n same = refl
still p name c (Some o) None same = refl
still p name c (Some o) (Some n) same = by (bytes_eq name n.0) (same n refl)
  where
    by : (t : Bool) → (t ≡ true → c.from ≡ n.1.from) → wait_of p (Some o) (Some (cond t (n.0, c) n)) ≡ wait_of p (Some o) (Some n)
    by true from = ap (λ (k : ℕ). if is_place p o.1 && nat_le k p then record { object = o.0; name = n.0 } ∷ [] else []) (from refl)
    by false from = refl

pub new_name : (p : ℕ) (name : List ℕ) (c : Chain) (x : Option (ObjRef × Option ℕ)) → nat_le c.from p ≡ false → wait_of p x (Some (name, c)) ≡ []
new_name p name c None before = refl
new_name p name c (Some o) before = too_late (record { object = o.0; name = name }) (is_place p o.1) (nat_le c.from p) before

-- All places

module _ (os os' : Objects) (ns ns' : Names) (p : Wait → Bool) where
  -- where each place keeps whom the test passes, so do all together
  pub filtered_from : (ss : List Slot) (at top : ℕ) → at + length ss ≤ top → ((q : ℕ) (s : Slot) → q < top → wait_at os' ns' q s ≡ filter p (wait_at os ns q s)) → waits_from os' ns' at ss ≡ filter p (waits_from os ns at ss)
  filtered_from [] at top within each = refl
  filtered_from (s ∷ ss) at top within each =
      (λ i. each at s (omega (arith, within)) i ++ filtered_from ss (at + 1) top (omega (arith, within)) each i)
      ∙ sym (filter-append p (wait_at os ns at s) (waits_from os ns (at + 1) ss))

module _ (os os' : Objects) (ns ns' : Names) where
  pub same_from : (ss : List Slot) (at top : ℕ) → at + length ss ≤ top → ((q : ℕ) (s : Slot) → q < top → wait_at os' ns' q s ≡ wait_at os ns q s) → waits_from os' ns' at ss ≡ waits_from os ns at ss
  same_from [] at top within each = refl
  same_from (s ∷ ss) at top within each =
      λ i. each at s (omega (arith, within)) i ++ same_from ss (at + 1) top (omega (arith, within)) each i

pub waits_append : (os : Objects) (ns : Names) (ss ts : List Slot) (at : ℕ) → waits_from os ns at (ss ++ ts) ≡ waits_from os ns at ss ++ waits_from os ns (at + length ss) ts
waits_append os ns [] ts at = ap (λ (k : ℕ). waits_from os ns k ts) (omega arith)
waits_append os ns (s ∷ ss) ts at =
    let moved : (at + 1) + length ss ≡ at + length (s ∷ ss) = omega arith in
    ap (λ (ws : List Wait). wait_at os ns at s ++ ws) (waits_append os ns ss ts (at + 1) ∙ ap (λ (k : ℕ). waits_from os ns (at + 1) ss ++ waits_from os ns k ts) moved)
    ∙ sym (append_assoc (wait_at os ns at s) (waits_from os ns (at + 1) ss) (waits_from os ns (at + length (s ∷ ss)) ts))

pub filter_twice : (p q : Wait → Bool) (ws : List Wait) → filter p (filter q ws) ≡ filter q (filter p ws)
filter_twice p q [] = refl
filter_twice p q (w ∷ ws) = by (p w) (q w) refl refl (filter_twice p q ws)
  where
    by : (a b : Bool) → p w ≡ a → q w ≡ b → filter p (filter q ws) ≡ filter q (filter p ws) → filter p (cond b (w ∷ filter q ws) (filter q ws)) ≡ filter q (cond a (w ∷ filter p ws) (filter p ws))
    by true true pw qw below =
        ap (λ (t : Bool). cond t (w ∷ filter p (filter q ws)) (filter p (filter q ws))) pw ∙ ap (λ (vs : List Wait). w ∷ vs) below ∙ sym (ap (λ (t : Bool). cond t (w ∷ filter q (filter p ws)) (filter q (filter p ws))) qw)
    by true false pw qw below = below ∙ sym (ap (λ (t : Bool). cond t (w ∷ filter q (filter p ws)) (filter q (filter p ws))) qw)
    by false true pw qw below = ap (λ (t : Bool). cond t (w ∷ filter p (filter q ws)) (filter p (filter q ws))) pw ∙ below
    by false false pw qw below = below
