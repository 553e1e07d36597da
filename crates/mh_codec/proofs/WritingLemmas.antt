-- What the writer rests on: lists in two parts, and groups with no spelling.
use Rattle.std.proofs.Common.{◌≡◌, ℕ, ◌+◌, ◌<◌, Bool, true, false, ◌&&◌, List, ◌++◌, length, drop, get_or, Result, Ok, Err, IfErr, refl, ap, sym, ◌∙◌, arith, append_assoc}
use Rattle.std.specs.List.{list_all}
use Rattle.std.proofs.lemmas.List.Folds.{list_all_at}
use Rattle.std.proofs.lemmas.List.{at_drop_more}
use Rattle.mh_base.specs.Limits.{largest_file}
use Rattle.mh_der.specs.declared.tag.Tag.{Tag}
use Rattle.mh_der.specs.Element.{element, begun, ended}
use Rattle.mh_der.proofs.WritingLemmas.{ended_begun}
use Rattle.mh_group.specs.declared.written.Written.{Written}
use Rattle.mh_group.specs.Holdable.{is_holdable}
use Rattle.mh_codec.specs.declared.codec_error.CodecError.{CodecError}
use Rattle.mh_codec.specs.Tags.{Tags}
use Rattle.mh_codec.specs.Spelling.{several, group}
use Rattle.mh_codec.specs.Writable.{Spells}
use Rattle.mh_codec.specs.Unwritable.{Refuses, HasNoSpelling}

pub whole_refused : {X : Type 0} (r : Result X CodecError) (front behind others : Bool) → front ≡ true → IfErr r (Refuses behind) → IfErr r (Refuses ((front && behind) && others))
whole_refused (Ok x) front behind others f b = tt
whole_refused (Err e) front behind others f b = λ other. ((b other).0, rw (f, (b other).1) refl)

-- one more member

pub more_written : {A : Type 0} (spelling : A → List ℕ) (out new : List ℕ) (xs : List A) (i : ℕ) (x : A) → i < length xs → x ≡ get_or xs i x → new ≡ out ++ spelling x
    → new ++ several spelling (drop (i + 1) xs) ≡ out ++ several spelling (drop i xs)
more_written spelling out new xs i x within is e =
    let next : several spelling (drop i xs) ≡ spelling x ++ several spelling (drop (i + 1) xs) = at_drop_more (several spelling) xs i x within ∙ ap (λ y. spelling y ++ several spelling (drop (i + 1) xs)) (sym is) in
    rw (e, next) (append_assoc out (spelling x) (several spelling (drop (i + 1) xs)))

pub more_fits : {A : Type 0} (p : A → Bool) (xs : List A) (i : ℕ) (x : A) → i < length xs → x ≡ get_or xs i x → p x ≡ true → list_all p (drop (i + 1) xs) ≡ list_all p (drop i xs)
more_fits p xs i x within is fit =
    let next : list_all p (drop i xs) ≡ (p x && list_all p (drop (i + 1) xs)) = at_drop_more (list_all p) xs i x within ∙ ap (λ y. p y && list_all p (drop (i + 1) xs)) (sym is) in
    rw (next, fit) refl

-- where a member is refused, the list is
pub member_refused : {A : Type 0} (p : A → Bool) (xs : List A) (i : ℕ) (x : A) (e : CodecError) → i < length xs → x ≡ get_or xs i x → Refuses (p x) e → Refuses (list_all p xs) e
member_refused p xs i x e within is refuses other =
    let bad = (refuses other).1 in
    ((refuses other).0, list_all_at p xs i x within (rw is at bad))

-- what the notation cannot hold has no spelling
pub none_spells_unwritable : (tags : Tags) (g : Written) → is_holdable g ≡ false → HasNoSpelling tags g
unfolding Spells
none_spells_unwritable tags g bad octets s = cc

-- nor has what a file cannot hold
pub none_spells_large : (tags : Tags) (g : Written) (octets : List ℕ) → octets ≡ group tags g → largest_file < length octets → HasNoSpelling tags g
unfolding Spells
none_spells_large tags g octets e large other s =
    let same : length other ≡ length octets = ap (λ l. length l) (s.0 ∙ sym e) in
    omega (arith, same, s.1)

-- an element that was begun, and ended behind its contents
pub ended_with : {t : Tag} {start : ℕ} {first last new : List ℕ} (old : List ℕ) (wanted : Tag) (contents : List ℕ) → t ≡ wanted
    → first ≡ old ++ begun t → start ≡ length first → last ≡ first ++ contents → new ≡ ended start last → new ≡ old ++ element wanted contents
ended_with {t} {start} {first} {last} {new} old wanted contents same begin at put end =
    end
    ∙ ap (λ (n : ℕ). ended n last) (at ∙ ap length begin)
    ∙ ap (λ (l : List ℕ). ended (length (old ++ begun t)) l) (put ∙ ap (λ (l : List ℕ). l ++ contents) begin)
    ∙ ended_begun old t contents
    ∙ ap (λ (u : Tag). old ++ element u contents) same

pub two_written : {mid last a b : List ℕ} (first front behind : List ℕ) → mid ≡ first ++ a → a ≡ front → last ≡ mid ++ b → b ≡ behind → last ≡ first ++ (front ++ behind)
two_written {mid} {last} {a} {b} first front behind e same f too =
    f
    ∙ ap (λ (l : List ℕ). l ++ b) (e ∙ ap (λ (l : List ℕ). first ++ l) same)
    ∙ append_assoc first front b
    ∙ ap (λ (l : List ℕ). first ++ (front ++ l)) too
