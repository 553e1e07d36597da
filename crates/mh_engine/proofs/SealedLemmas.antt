-- An engine that goes by a seal moves as the sealed run of the laws does.
use Rattle.std.specs.Prelude.{◌≡◌, ◌≤◌, ◌&&◌, ℕ, Bool, true, false, List, [], ◌∷◌, length, map, cond, slice_index_or, Option, Some, None, Result, Ok, Err, IfErr, OnOk, refl}
use Rattle.std.specs.List.{find, position}
use Rattle.std.specs.Option.{option_map, option_or}
use Rattle.std.specs.Str.{bytes_eq}
use Rattle.std.proofs.Common.{ap, subst, sym, ◌∙◌}
use Rattle.std.proofs.lemmas.Bool.{le-leb, leb-true}
use Rattle.std.proofs.lemmas.Slice.Eq.{bytes_eq-Decides}
use Rattle.std.specs.Cmp.Derive.{both_true}
use Rattle.sha2.specs.Sha256.{sha256}
use Rattle.mh_base.specs.Limits.{largest_file}
use Rattle.mh_group.specs.declared.written.Written.{Written}
use Rattle.mh_group.specs.Holdable.{is_holdable}
use Rattle.mh_codec.specs.Spelling.{group}
use Rattle.mh_codec.specs.Tags.{profile}
use Rattle.mh_codec.specs.Unwritable.{HasNoSpelling}
use Rattle.mh_codec.specs.Writable.{Spells}
use Rattle.mh_model.specs.declared.input.Input.{Input}
use Rattle.mh_model.specs.declared.input.Input.TheVariants as input
use Rattle.mh_laws.specs.Budget.{bound_of}
use Rattle.mh_model.specs.declared.input.Obstacle.{Obstacle}
use Rattle.mh_model.specs.declared.input.Obstacle.TheVariants as obstacle
use Rattle.mh_model.specs.Service.{Service}
use Rattle.mh_model.specs.State.{State}
use Rattle.mh_model.specs.Step.{obstacle_if, posted_by}
use Rattle.mh_model.specs.Late.{written_at}
use Rattle.mh_model.proofs.FirstLemmas.{first-position, none-position}
use Rattle.mh_model.proofs.ListLemmas.{and_left, and_right, some_same}
use Rattle.mh_machine.specs.declared.refusal.Refused.{Refused}
use Rattle.mh_machine.specs.declared.refusal.RefusedWhy.TheVariants as refused
use Rattle.mh_machine.specs.Refusal.{refusal_for}
use Rattle.mh_machine.specs.Sealed.{brought, brought_obstacle, posted_brought}
use Rattle.mh_seal.specs.declared.seal.Seal.{Seal}
use Rattle.mh_seal.specs.declared.seal.SealedGroup.{SealedGroup}
use Rattle.mh_seal.specs.Digests.{HasSpelling, digest_of}
use Rattle.mh_seal_laws.specs.Digests.{has_digest, is_spelled, listed_at}
use Rattle.mh_seal_laws.specs.Part.{beside}
use Rattle.mh_seal_laws.specs.Seal.{is_unfit, sealed_by, sealed_posted, with_brought}
use Rattle.mh_seal_laws.specs.Told.{bounds_in, by_told}
use Rattle.mh_engine.specs.declared.sealed.starting.Unsealed.{Unsealed}
use Rattle.mh_engine.specs.declared.sealed.starting.Unsealed.TheVariants as unsealed
use Rattle.mh_engine.specs.Play.{with_more}
use Rattle.mh_engine.specs.Sealed.{IsToldOf, SealedPlay, entries_of, first_unsealed, no_service, sealed_refusal, service_of, taken_up, unsealed_by}
use Rattle.mh_service.specs.declared.service_error.Why.{Why}
use Rattle.mh_service.specs.Refusals.{File, refusal_of}
use Rattle.mh_service.specs.Resolved.{resolved}
use Rattle.mh_service.specs.Sealed.{Entry, as_file, missing}

-- Digests

-- what has a spelling is spelled, and what has none is not

pub spelled_so : (x : Written) → HasSpelling x → is_spelled profile sha256 x ≡ true
unfolding Spells is_spelled
spelled_so x has =
    both_true (le-leb (length (group profile x)) largest_file (subst (λ (o : List ℕ). length o ≤ largest_file) has.1.0 has.1.1)) has.1.2

pub unspelled_so : (x : Written) → HasNoSpelling profile x → is_spelled profile sha256 x ≡ false
unfolding Spells is_spelled
unspelled_so x none = by (is_spelled profile sha256 x) refl
  where
    spells : is_spelled profile sha256 x ≡ true → ⊥
    spells e = none (group profile x) (refl, leb-true (length (group profile x)) largest_file (and_left _ (is_holdable x) e), and_right _ (is_holdable x) e)

    by : (b : Bool) → is_spelled profile sha256 x ≡ b → b ≡ false
    by true e = absurd (spells e)
    by false e = refl

-- the digest of a group tells whether it is this one
pub has_so : (x : Written) (own d : List ℕ) (b : Bool) → own ≡ digest_of x → HasSpelling x → b ≡ bytes_eq own d → b ≡ has_digest profile sha256 x (Some d)
has_so x own d b is has same =
    same ∙ ap (λ (o : List ℕ). bytes_eq o d) is ∙ sym (ap (λ (spelled : Bool). spelled && bytes_eq (digest_of x) d) (spelled_so x has))

pub has_not : (x : Written) (d : List ℕ) → HasNoSpelling profile x → false ≡ has_digest profile sha256 x (Some d)
has_not x d none = sym (ap (λ (spelled : Bool). spelled && bytes_eq (digest_of x) d) (unspelled_so x none))

-- the digest that is listed for a name is that of the first group of this name
pub listed_told : (g : List ℕ) (gs : List SealedGroup) → listed_at profile sha256 g (map (λ e. (e.name, e.digest)) gs) ≡ option_map (λ e. e.digest) (find (λ e. bytes_eq e.name g) gs)
listed_told g [] = refl
listed_told g (e ∷ es) = by (bytes_eq e.name g) (listed_told g es)
  where
    by : (b : Bool) → listed_at profile sha256 g (map (λ (x : SealedGroup). (x.name, x.digest)) es) ≡ option_map (λ (x : SealedGroup). x.digest) (find (λ (x : SealedGroup). bytes_eq x.name g) es)
        → option_map (λ (p : List ℕ × List ℕ). p.1) (cond b (Some (e.name, e.digest)) (find (λ (p : List ℕ × List ℕ). bytes_eq p.0 g) (map (λ (x : SealedGroup). (x.name, x.digest)) es)))
        ≡ option_map (λ (x : SealedGroup). x.digest) (cond b (Some e) (find (λ (x : SealedGroup). bytes_eq x.name g) es))
    by true more = refl
    by false more = more

pub digest_so : (g : List ℕ) (gs hs : List SealedGroup) (m o : Option SealedGroup) → hs ≡ gs → m ≡ find (λ e. bytes_eq e.name g) hs → m ≡ o
    → option_map (λ e. e.digest) o ≡ listed_at profile sha256 g (map (λ e. (e.name, e.digest)) gs)
digest_so g gs hs m o same found is =
    sym (listed_told g gs ∙ ap (option_map (λ (x : SealedGroup). x.digest)) (ap (find (λ (x : SealedGroup). bytes_eq x.name g)) (sym same) ∙ sym found ∙ is))

-- Files

passes : {X : Type 0} (p : X → Bool) (xs : List X) (y : X) → find p xs ≡ Some y → p y ≡ true
passes p [] y e = absurd cc
passes {X} p (x ∷ xs) y e = by (p x) refl (passes p xs y) e
  where
    by : (b : Bool) → p x ≡ b → (find p xs ≡ Some y → p y ≡ true) → cond b (Some x) (find p xs) ≡ Some y → p y ≡ true
    by true is more e = subst (λ (z : X). p z ≡ true) (some_same e) is
    by false is more e = more e

place_so : (g : List ℕ) (fs xs : List File) (m o : Option ℕ) → xs ≡ fs → m ≡ position (λ (x : File). bytes_eq x.0 g) xs → m ≡ o → position (λ (x : File). bytes_eq x.0 g) fs ≡ o
place_so g fs xs m o same found is = ap (position (λ (x : File). bytes_eq x.0 g)) (sym same) ∙ sym found ∙ is

-- the file at the first place of a name is what stands there, and has the name
pub found_at : (g : List ℕ) (fs xs : List File) (m : Option ℕ) (i : ℕ) (f : File) → xs ≡ fs → m ≡ position (λ (x : File). bytes_eq x.0 g) xs → m ≡ Some i → f ≡ slice_index_or fs i f
    → (Some f.1 ≡ written_at g fs) × (f.0 ≡ g)
found_at g fs xs m i f same found some is =
    let place : position (λ (x : File). bytes_eq x.0 g) fs ≡ Some i = place_so g fs xs m (Some i) same found some in
    let hit : find (λ (x : File). bytes_eq x.0 g) fs ≡ Some f = (first-position (λ (x : File). bytes_eq x.0 g) fs i place).found f ∙ ap Some (sym is) in
    (sym (ap (option_map (λ (x : File). x.1)) hit), (bytes_eq-Decides f.0 g).0 (passes (λ (x : File). bytes_eq x.0 g) fs f hit))

pub found_nowhere : (g : List ℕ) (fs xs : List File) (m : Option ℕ) → xs ≡ fs → m ≡ position (λ (x : File). bytes_eq x.0 g) xs → m ≡ None → None ≡ written_at g fs
found_nowhere g fs xs m same found none =
    sym (ap (option_map (λ (x : File). x.1)) (none-position (λ (x : File). bytes_eq x.0 g) fs (place_so g fs xs m None same found none)).found)

-- what is told of the file that was found is told of the one of this name
pub here_so : (s : Seal) (g n : List ℕ) (x : Written) (m : Option Written) → n ≡ g → Some x ≡ m → unsealed_by s n (Some x) ≡ None → unsealed_by s g m ≡ None
here_so s g n x m named found none = sym (λ i. unsealed_by s (named i) (found i)) ∙ none

pub here_told : (s : Seal) (g n : List ℕ) (x : Written) (m : Option Written) (e : Unsealed) → n ≡ g → Some x ≡ m → IsToldOf (unsealed_by s n (Some x)) e → IsToldOf (unsealed_by s g m) e
here_told s g n x m e named found told = subst (λ (o : Option Unsealed). IsToldOf o e) (λ i. unsealed_by s (named i) (found i)) told

-- the service is made of what was found
pub service_so : (s : Seal) (fs : List File) (es : List Entry) (start : List ℕ) (v : Service) → es ≡ entries_of s.groups fs → start ≡ s.start
    → v.groups ≡ map resolved (map as_file es) → v.start ≡ start → v.programs ≡ [] → v.files ≡ [] → v.late ≡ missing es → v ≡ service_of s fs
service_so s fs es start v are from groups first programs files late = λ i. record {
  groups = (groups ∙ ap (λ (xs : List Entry). map resolved (map as_file xs)) are) i;
  start = (first ∙ from) i;
  programs = programs i;
  files = files i;
  late = (late ∙ ap missing are) i;
}

-- Posts

first_none : (o p : Option Obstacle) → option_or o p ≡ None → o ≡ None
first_none None p e = refl
first_none (Some x) p e = cc

brought_same : (s : Seal) (i : Input) (v : Service) → with_brought (by_told s) i v ≡ brought i v
brought_same s (input.Scene g x) v = refl
brought_same s (input.Key k) v = refl
brought_same s (input.Tick n) v = refl
brought_same s (input.Stream n) v = refl
brought_same s (input.Engine n) v = refl
brought_same s (input.Arrive f) v = refl

-- what is taken up is posted as the laws say
pub posted_same : (s : Seal) (i : Input) (t : State) → brought_obstacle (is_unfit (by_told s) i) i t ≡ None → posted_brought i t ≡ sealed_posted (by_told s) i t
posted_same s i t none =
    ap (λ (v : Service). posted_by None i (beside v t)) (sym (brought_same s i t.service))
    ∙ ap (λ (o : Option Obstacle). sealed_by o (by_told s) i t) (sym (first_none (obstacle_if (is_unfit (by_told s) i) i t) _ none))

-- what a post comes to that the machine takes up, where it is known whether the file differs
pub taken_so : (p q : SealedPlay) (i : Input) (differs : Bool) (budget : ℕ) (r : Result (Unit {0}) Refused) → differs ≡ is_unfit (by_told p.seal) i
    → budget ≡ with_more p.budget (bound_of (bounds_in p.seal.bounds) i) → OnOk r (q ≡ record p { state = posted_brought i p.state; budget = budget })
    → OnOk r (brought_obstacle differs i p.state ≡ None) → OnOk r (q ≡ taken_up i p)
taken_so p q i differs budget (Ok u) is pays did free =
    let state : posted_brought i p.state ≡ sealed_posted (by_told p.seal) i p.state =
    posted_same p.seal i p.state (sym (ap (λ (b : Bool). brought_obstacle b i p.state) is) ∙ free) in
    did ∙ (λ j. record p { state = state j; budget = pays j })
taken_so p q i differs budget (Err e) is pays did free = tt

pub free_so : (p : SealedPlay) (i : Input) (differs : Bool) (r : Result (Unit {0}) Refused) → differs ≡ is_unfit (by_told p.seal) i
    → OnOk r (brought_obstacle differs i p.state ≡ None) → OnOk r (brought_obstacle (is_unfit (by_told p.seal) i) i p.state ≡ None)
free_so p i differs r is free = subst (λ (b : Bool). OnOk r (brought_obstacle b i p.state ≡ None)) is free

-- what stands in the way is told
abbrev pub IsBarred : Bool → Input → State → Result (Unit {0}) Refused → Type 0
IsBarred differs i s r = IfErr r (λ x. (o : Obstacle) → x.why ≡ refusal_for o → brought_obstacle differs i s ≡ Some o)

pub barred_so : (p : SealedPlay) (i : Input) (differs : Bool) (r : Result (Unit {0}) Refused) → differs ≡ is_unfit (by_told p.seal) i → IsBarred differs i p.state r
    → IsBarred (is_unfit (by_told p.seal) i) i p.state r
barred_so p i differs r is barred = subst (λ (b : Bool). IsBarred b i p.state r) is barred

-- want of memory is no obstacle
pub no_obstacle : {X : Type 0} (o : Obstacle) → refused.NoMemory ≡ refusal_for o → X
no_obstacle obstacle.Ended e = absurd cc
no_obstacle obstacle.TickRange e = absurd cc
no_obstacle obstacle.Begun e = absurd cc
no_obstacle obstacle.NotLate e = absurd cc
no_obstacle obstacle.Differs e = absurd cc
no_obstacle obstacle.TooLarge e = absurd cc
no_obstacle obstacle.TooMany e = absurd cc
no_obstacle obstacle.ClockFull e = absurd cc
no_obstacle obstacle.QueueFull e = absurd cc

-- Why an engine does not begin

-- what is told of the first of several is told of all
pub told_first : (o p : Option Unsealed) (e : Unsealed) → IsToldOf o e → IsToldOf (option_or o p) e
told_first o p (unsealed.Missing name) told = ap (λ (x : Option Unsealed). option_or x p) told
told_first o p (unsealed.Differs name) told = ap (λ (x : Option Unsealed). option_or x p) told
told_first o p (unsealed.NoService why name) told = ap (λ (x : Option Unsealed). option_or x p) told
told_first o p unsealed.NoMemory told = tt

-- nothing is in the way of files that are the sealed ones and make a service
pub unrefused : (s : Seal) (fs : List File) (es : List Entry) (start : List ℕ) → first_unsealed s s.groups fs ≡ None → es ≡ entries_of s.groups fs → start ≡ s.start
    → refusal_of start (map as_file es) ≡ None → sealed_refusal s fs ≡ None
unrefused s fs es start none are from good =
    ap (λ (o : Option Unsealed). option_or o (option_map no_service (refusal_of s.start (map as_file (entries_of s.groups fs))))) none
    ∙ ap (option_map no_service) (sym (λ i. refusal_of (from i) (map as_file (are i))) ∙ good)

-- what is wrong with the service is told, where its files are the sealed ones
pub told_service : (s : Seal) (fs : List File) (es : List Entry) (start : List ℕ) (why : Why) (g : List ℕ) → first_unsealed s s.groups fs ≡ None → es ≡ entries_of s.groups fs
    → start ≡ s.start → refusal_of start (map as_file es) ≡ Some (why, g) → sealed_refusal s fs ≡ Some (unsealed.NoService why g)
told_service s fs es start why g none are from bad =
    ap (λ (o : Option Unsealed). option_or o (option_map no_service (refusal_of s.start (map as_file (entries_of s.groups fs))))) none
    ∙ ap (option_map no_service) (sym (λ i. refusal_of (from i) (map as_file (are i))) ∙ bad)
