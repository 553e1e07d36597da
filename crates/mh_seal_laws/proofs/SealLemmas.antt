-- A seal, and a service with stubs.
use Rattle.std.specs.List.{find}
use Rattle.std.specs.Option.{option_map}
use Rattle.std.specs.Prelude.{◌≡◌, ◌⊎◌, ◌∷◌, Bool, List, Option, Some, [], cond, false, true, unwrap_or, ℕ}
use Rattle.std.specs.Str.{bytes_eq}
use Rattle.std.specs.Cmp.Lexicographic.{nat_list_eq_equiv}
use Rattle.std.proofs.Common.{ap, refl, subst, sym, inl, inr}
use Rattle.std.proofs.lemmas.Slice.Eq.{bytes_eq-Decides}
use Rattle.mh_model.specs.declared.object.Fixed.{Fixed}
use Rattle.mh_model.specs.First.{put_first}
use Rattle.mh_model.specs.Service.{Service, group_parts}
use Rattle.mh_seal_laws.proofs.Whole.{SealExists}

found_put : {X : Type 0} (p : X → Bool) (x : X) → p x ≡ true → (xs : List X) → find p (put_first p x xs) ≡ Some x
found_put p x own [] = rw own refl
found_put {X} p x own (y ∷ ys) = by (p y) refl (found_put p x own ys)
  where
    by : (b : Bool) → p y ≡ b → find p (put_first p x ys) ≡ Some x → find p (put_first p x (y ∷ ys)) ≡ Some x
    by true e behind = rw e (rw own refl)
    by false e behind = rw e (rw e behind)

found_beside : {X : Type 0} (p q : X → Bool) (x : X) → q x ≡ false → ((y : X) → p y ≡ true → q y ≡ false) → (xs : List X) → find q (put_first p x xs) ≡ find q xs
found_beside p q x none apart [] = rw none refl
found_beside {X} p q x none apart (y ∷ ys) = by (p y) refl (found_beside p q x none apart ys)
  where
    by : (b : Bool) → p y ≡ b → find q (put_first p x ys) ≡ find q ys → find q (put_first p x (y ∷ ys)) ≡ find q (y ∷ ys)
    by true e behind = rw e (rw (none, apart y e) refl)
    by false e behind = rw e (ap (λ (t : Option X). cond (q y) (Some y) t) behind)

abbrev Entry : Type 0
Entry = List ℕ × List Fixed

told : Option Entry → List Fixed
told m = unwrap_or (option_map (λ e. e.1) m) []

pub seal_exists : SealExists
seal_exists v = record { fits = λ g x. refl; programs = λ g x w. refl; itself = λ g x w f. itself g w; others = λ g h x w f. by g h w (bytes_eq g h) refl }
  where
    put : List ℕ → Service → Service
    put g w = record w { groups = put_first (λ e. bytes_eq e.0 g) (g, group_parts v g) w.groups }

    itself : (g : List ℕ) (w : Service) → group_parts (put g w) g ≡ group_parts v g
    itself g w = ap (λ (m : Option Entry). unwrap_or (option_map (λ e. e.1) m) []) (found_put (λ (e : Entry). bytes_eq e.0 g) (g, group_parts v g) (nat_list_eq_equiv.refl g) w.groups)

    by : (g h : List ℕ) (w : Service) (b : Bool) → bytes_eq g h ≡ b → (group_parts (put g w) h ≡ group_parts w h) ⊎ (group_parts (put g w) h ≡ group_parts v h)
    by g h w true e = inr (subst (λ (y : List ℕ). group_parts (put g w) y ≡ group_parts v y) ((bytes_eq-Decides g h).0 e) (itself g w))
    by g h w false e = inl (ap (λ (m : Option Entry). unwrap_or (option_map (λ e. e.1) m) []) (found_beside (λ (y : Entry). bytes_eq y.0 g) (λ (y : Entry). bytes_eq y.0 h) (g, group_parts v g) e (λ y own. subst (λ (z : List ℕ). bytes_eq z h ≡ false) (sym ((bytes_eq-Decides y.0 g).0 own)) e) w.groups))
