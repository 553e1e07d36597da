-- Effects of an object: when two are one, and what a hash is fed of them.
use Rattle.std.specs.Prelude.{◌≡◌, ℕ, ◌&&◌, ◌==◌, Bool, true, false, ◌++◌, refl}
use Rattle.std.specs.Cmp.{IsEquivalence, both_ways, first_so, second_so}
use Rattle.std.specs.Hash as fed
use Rattle.std.specs.Hash.{HashWrites}
use Rattle.std.proofs.Common.{ap, subst, sym, true≢false}
use Rattle.std.proofs.lemmas.Bool.Decides.{Decides-eqb}
use Rattle.mh_trace.specs.declared.site.EffectKind.{EffectKind}
use Rattle.mh_trace.specs.declared.site.EffectKind.TheVariants as kind

abbrev pub same_kind : EffectKind → EffectKind → Bool
same_kind kind.StartUp kind.StartUp = true
same_kind kind.CloseDown kind.CloseDown = true
same_kind kind.Link kind.Link = true
same_kind (kind.Slot m s) (kind.Slot n t) = m == n && s == t
same_kind _ _ = false

abbrev pub kind_fed : EffectKind → HashWrites
kind_fed kind.StartUp = fed.u8 0
kind_fed kind.CloseDown = fed.u8 1
kind_fed kind.Link = fed.u8 2
kind_fed (kind.Slot m s) = fed.u8 3 ++ fed.usize m ++ fed.usize s

-- what is the same is one

number : (m n : ℕ) → (m == n) ≡ true → m ≡ n
number m n e = (Decides-eqb m n).0 e

itself : (n : ℕ) → (n == n) ≡ true
itself n = (Decides-eqb n n).1 refl

kinds_are_apart : (j k : EffectKind) → same_kind j k ≡ true → j ≡ k
kinds_are_apart kind.StartUp kind.StartUp e = refl
kinds_are_apart kind.CloseDown kind.CloseDown e = refl
kinds_are_apart kind.Link kind.Link e = refl
kinds_are_apart (kind.Slot m s) (kind.Slot n t) e =
    let x = number m n (first_so (m == n) (s == t) e) in let y = number s t (second_so (m == n) (s == t) e) in
    λ i. kind.Slot (x i) (y i)
kinds_are_apart _ _ e = absurd (true≢false (sym e))

kind_itself : (k : EffectKind) → same_kind k k ≡ true
kind_itself kind.StartUp = refl
kind_itself kind.CloseDown = refl
kind_itself kind.Link = refl
kind_itself (kind.Slot m s) = λ i. itself m i && itself s i

turned : (j k : EffectKind) → same_kind j k ≡ true → same_kind k j ≡ true
turned j k e = subst (λ (x : EffectKind). same_kind x j ≡ true) (kinds_are_apart j k e) (kind_itself j)

pub kind_laws : IsEquivalence same_kind
kind_laws = record {
  refl = kind_itself;
  symm = λ j k. both_ways (same_kind j k) (same_kind k j) (turned j k) (turned k j);
  congr = λ j k l e. ap (λ (x : EffectKind). same_kind x l) (kinds_are_apart j k e);
}

pub kinds_alike : (j k : EffectKind) → same_kind j k ≡ true → kind_fed j ≡ kind_fed k
kinds_alike j k e = ap kind_fed (kinds_are_apart j k e)
