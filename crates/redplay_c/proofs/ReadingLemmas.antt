-- What the files of a service are read as: a service without programs, or an error that has a number of 1 to 99.
use Rattle.std.specs.Prelude.{◌≡◌, ℕ, ◌<◌, Bool, true, false, if◌then◌else◌, List, [], ◌∷◌, ◌++◌, map, Option, Some, None, Result, Ok, Err, IfOk, IfErr, refl}
use Rattle.std.specs.List.{find}
use Rattle.std.proofs.Common.{ap, ◌∙◌, sym, subst, lit<}
use Rattle.mh_codec.specs.Gives.{Refusal as OctetsRefusal}
use Rattle.mh_codec.specs.Numbers.{number_of as octets_number}
use Rattle.mh_codec.specs.Reading.{read as read_octets, begins_group as begins_octets}
use Rattle.mh_codec.specs.Tags.{Tags}
use Rattle.mh_codec.specs.declared.codec_error.Why.{Why as OctetsWhy}
use Rattle.mh_codec.specs.declared.codec_error.Why.TheVariants as octets
use Rattle.mh_der.specs.Numbers.{number_of as der_number}
use Rattle.mh_der.specs.declared.der_error.Why.{Why as DerWhy}
use Rattle.mh_der.specs.declared.der_error.Why.TheVariants as der
use Rattle.mh_group.specs.declared.written.Written.{Written}
use Rattle.mh_model.specs.Service.{Service}
use Rattle.mh_service.specs.Numbers.{why_number}
use Rattle.mh_service.specs.Refusals.{File, Refusal as ServiceRefusal}
use Rattle.mh_service.specs.Resolved.{resolved}
use Rattle.mh_service.specs.declared.service_error.Why.{Why as ServiceWhy}
use Rattle.mh_service.specs.declared.service_error.Why.TheVariants as service
use Rattle.mh_text.specs.Gives.{Refusal as TextRefusal}
use Rattle.mh_text.specs.Numbers.{number_of as text_number}
use Rattle.mh_text.specs.Reading.{read}
use Rattle.mh_text.specs.declared.text_error.Why.{Why as TextWhy}
use Rattle.mh_text.specs.declared.text_error.Why.TheVariants as text
use Rattle.mh_told.specs.declared.unplayable.Unplayable.{Unplayable}
use Rattle.mh_told.specs.declared.unplayable.Unplayable.TheVariants as unplayable
use Rattle.mh_told.specs.Reading.{◌>>=◌, Source, Fails, Gives, group_in, is_group_file, each_once, late_lines, named, names_no_scene, read_files, refusal_for, service_of, service_read, spelled, unless_no_scene, unless_refused, with_file, with_late, with_names}
use Rattle.redplay_c.specs.Files.{IsUnreadable, reading_number}

-- a number of an error: not 0, and none of the library's own
abbrev pub IsSmall : ℕ → Type 0
IsSmall n = (0 < n) × (n < 100)

-- what is read, or an error that has such a number
abbrev IsTold : {A : Type 0} → Result A Unplayable → Type 0
IsTold (Ok x) = Unit {0}
IsTold (Err (unplayable.File name number offset)) = IsSmall number
IsTold (Err (unplayable.Service number group)) = IsSmall number
IsTold (Err (unplayable.Tags number place)) = ⊥
IsTold (Err (unplayable.Script line)) = ⊥
IsTold (Err unplayable.NoMemory) = ⊥

bound : {A B : Type 0} (r : Result A Unplayable) (f : A → Result B Unplayable) → IsTold r → ((x : A) → IsTold (f x)) → IsTold (r >>= f)
bound (Ok x) f so each = each x
bound (Err (unplayable.File name number offset)) f so each = so
bound (Err (unplayable.Service number group)) f so each = so
bound (Err (unplayable.Tags number place)) f so each = absurd so
bound (Err (unplayable.Script line)) f so each = absurd so
bound (Err unplayable.NoMemory) f so each = absurd so

either : {A : Type 0} (b : Bool) (one other : Result A Unplayable) → IsTold one → IsTold other → IsTold (if b then one else other)
either true one other so also = so
either false one other so also = also

-- The numbers of each reader.

der_small : (w : DerWhy) → IsSmall (der_number w)
der_small der.Truncated = (lit< tt, lit< tt)
der_small der.BadTag = (lit< tt, lit< tt)
der_small der.LongLength = (lit< tt, lit< tt)
der_small der.Indefinite = (lit< tt, lit< tt)
der_small der.BadInteger = (lit< tt, lit< tt)
der_small der.BadBoolean = (lit< tt, lit< tt)
der_small der.Trailing = (lit< tt, lit< tt)

octets_small : (w : OctetsWhy) → IsSmall (octets_number w)
octets_small (octets.Der why) = der_small why
octets_small octets.UnknownTag = (lit< tt, lit< tt)
octets_small octets.MissingField = (lit< tt, lit< tt)
octets_small octets.WrongOrder = (lit< tt, lit< tt)
octets_small octets.Limit = (lit< tt, lit< tt)
octets_small octets.BadValue = (lit< tt, lit< tt)

text_small : (w : TextWhy) → IsSmall (text_number w)
text_small text.Lexical = (lit< tt, lit< tt)
text_small text.Syntax = (lit< tt, lit< tt)
text_small text.UnknownName = (lit< tt, lit< tt)
text_small text.Range = (lit< tt, lit< tt)
text_small text.Limit = (lit< tt, lit< tt)

service_small : (w : ServiceWhy) → IsSmall (why_number w)
service_small service.DoubleName = (lit< tt, lit< tt)
service_small service.NoStart = (lit< tt, lit< tt)
service_small service.DoubleNumber = (lit< tt, lit< tt)
service_small service.NotAnApplication = (lit< tt, lit< tt)
service_small service.Limit = (lit< tt, lit< tt)
service_small service.BadReference = (lit< tt, lit< tt)

-- What is read.

named_told : (name : List ℕ) (r : Result Written TextRefusal) → IsTold (named name r)
named_told name (Ok group) = tt
named_told name (Err e) = text_small e.why

spelled_told : (name : List ℕ) (r : Result Written OctetsRefusal) → IsTold (spelled name r)
spelled_told name (Ok group) = tt
spelled_told name (Err e) = octets_small e.why

group_told : (tags : Tags) (name bytes : List ℕ) → IsTold (group_in tags name bytes)
unfolding group_in
group_told tags name bytes =
    either (begins_octets tags bytes) (spelled name (read_octets tags bytes)) (named name (read bytes))
    (spelled_told name (read_octets tags bytes)) (named_told name (read bytes))

file_told : (tags : Tags) (done : List File) (f : Source) → IsTold (with_file tags done f)
unfolding with_file
file_told tags done f =
    let more : Written → Result (List File) Unplayable = λ (group : Written). Ok (done ++ (f.0, group) ∷ []) in
    either (is_group_file tags f.1.items) (group_in tags f.0 f.1.items >>= more) (Ok done)
    (bound (group_in tags f.0 f.1.items) more (group_told tags f.0 f.1.items) (λ group. tt)) tt

files_told : (tags : Tags) (done : List File) (fs : List Source) → IsTold (read_files tags done fs)
files_told tags done [] = tt
files_told tags done (f ∷ fs) =
    bound (with_file tags done f) (λ (more : List File). read_files tags more fs) (file_told tags done f) (λ more. files_told tags more fs)

unless_told : {A : Type 0} (o : Option ServiceRefusal) (x : A) → IsTold (unless_refused o x)
unless_told None x = tt
unless_told (Some r) x = service_small r.0

groups_told : (start : List ℕ) (groups : List File) → IsTold (service_of start groups)
unfolding service_of
groups_told start groups = unless_told (refusal_for start groups) _

line_told : {A : Type 0} (o : Option (List ℕ)) (x : A) → IsTold (unless_no_scene o x)
line_told None x = tt
line_told (Some line) x = (lit< tt, lit< tt)

late_told : (late : Option (List ℕ)) (s : Service) → IsTold (with_late late s)
unfolding with_names
late_told None s = tt
late_told (Some bytes) s = line_told (find (names_no_scene s) (late_lines bytes)) _

service_told : (tags : Tags) (start : List ℕ) (late : Option (List ℕ)) (files : List Source) → IsTold (service_read tags start late files)
unfolding service_read
service_told tags start late files =
    bound (read_files tags [] files >>= service_of start) (with_late late)
    (bound (read_files tags [] files) (service_of start) (files_told tags [] files) (groups_told start)) (late_told late)

-- an error of reading that has a number is told, and the number is none of the library's own

failed_read : {A : Type 0} (r : Result A Unplayable) (e : Unplayable) (n : ℕ) → Fails e r → reading_number e ≡ Some n → r ≡ Err e
failed_read r (unplayable.File name number offset) n fails told = fails
failed_read r (unplayable.Service number group) n fails told = fails
failed_read r (unplayable.Tags number place) n fails told = fails
failed_read r (unplayable.Script line) n fails told = fails
failed_read r unplayable.NoMemory n fails told = cc

failed_small : {A : Type 0} (r : Result A Unplayable) (e : Unplayable) (n : ℕ) → IsTold r → Fails e r → reading_number e ≡ Some n → IsSmall n
failed_small {A} r (unplayable.File name number offset) n so fails told =
    let small : IsSmall number = subst (λ (x : Result A Unplayable). IsTold x) fails so in
    let same : number ≡ n = cc in
    subst IsSmall same small
failed_small {A} r (unplayable.Service number group) n so fails told =
    let small : IsSmall number = subst (λ (x : Result A Unplayable). IsTold x) fails so in
    let same : number ≡ n = cc in
    subst IsSmall same small
failed_small {A} r (unplayable.Tags number place) n so fails told = absurd (subst (λ (x : Result A Unplayable). IsTold x) fails so)
failed_small r (unplayable.Script line) n so fails told = absurd cc
failed_small r unplayable.NoMemory n so fails told = absurd cc

unreadable : (r : Result Service Unplayable) (e : Unplayable) (n : ℕ) → IsTold r → Fails e r → reading_number e ≡ Some n → IsUnreadable r n
unreadable r e n so fails told =
    let small : IsSmall n = failed_small r e n so fails told in
    record { why = e; read = failed_read r e n fails told; told = told; some = small.0; small = small.1 }

-- of groups alone

pub unread_groups : (tags : Tags) (files : List Source) (e : Unplayable) (n : ℕ) → Fails e (read_files tags [] files) → reading_number e ≡ Some n → read_files tags [] files ≡ Err e
unread_groups tags files e n fails told = failed_read (read_files tags [] files) e n fails told

pub small_groups : (tags : Tags) (files : List Source) (e : Unplayable) (n : ℕ) → Fails e (read_files tags [] files) → reading_number e ≡ Some n → IsSmall n
small_groups tags files e n fails told = failed_small (read_files tags [] files) e n (files_told tags [] files) fails told

unread_service : (tags : Tags) (start : List ℕ) (late : Option (List ℕ)) (files : List Source) (e : Unplayable) (n : ℕ) → Fails e (service_read tags start late files) → reading_number e ≡ Some n
    → IsUnreadable (service_read tags start late files) n
unread_service tags start late files e n fails told = unreadable (service_read tags start late files) e n (service_told tags start late files) fails told

-- one that has none is want of memory
unnumbered : {A : Type 0} (r : Result A Unplayable) (e : Unplayable) → IsTold r → Fails e r → reading_number e ≡ None → e ≡ unplayable.NoMemory
unnumbered r (unplayable.File name number offset) so fails none = cc
unnumbered r (unplayable.Service number group) so fails none = cc
unnumbered r (unplayable.Tags number place) so fails none = cc
unnumbered {A} r (unplayable.Script line) so fails none = absurd (subst (λ (x : Result A Unplayable). IsTold x) fails so)
unnumbered r unplayable.NoMemory so fails none = refl

pub unread_group : (tags : Tags) (name bytes : List ℕ) (e : Unplayable) → Fails e (group_in tags name bytes) → reading_number e ≡ None → e ≡ unplayable.NoMemory
unread_group tags name bytes e fails none = unnumbered (group_in tags name bytes) e (group_told tags name bytes) fails none

-- Programs.

made : (o : Option ServiceRefusal) (x s : Service) → x.programs ≡ [] → unless_refused o x ≡ Ok s → s.programs ≡ []
made None x s none e =
    let same : x ≡ s = cc in
    subst (λ (y : Service). y.programs ≡ []) same none
made (Some r) x s none e = cc

plain_files : (start : List ℕ) (r : Result (List File) Unplayable) (s : Service) → (r >>= service_of start) ≡ Ok s → s.programs ≡ []
unfolding service_of
plain_files start (Err x) s e = cc
plain_files start (Ok groups) s e =
    made (refusal_for start groups) (record { groups = map resolved groups; start = start; programs = []; files = groups; late = [] }) s refl e

marked : (o : Option (List ℕ)) (x s : Service) → x.programs ≡ [] → unless_no_scene o x ≡ Ok s → s.programs ≡ []
marked None x s none e =
    let same : x ≡ s = cc in
    subst (λ (y : Service). y.programs ≡ []) same none
marked (Some line) x s none e = cc

plain_late : (late : Option (List ℕ)) (x s : Service) → x.programs ≡ [] → with_late late x ≡ Ok s → s.programs ≡ []
unfolding with_names
plain_late None x s none e =
    let same : x ≡ s = cc in
    subst (λ (y : Service). y.programs ≡ []) same none
plain_late (Some bytes) x s none e = marked (find (names_no_scene x) (late_lines bytes)) (record x { late = each_once (late_lines bytes) }) s none e

plain_read : (tags : Tags) (start : List ℕ) (late : Option (List ℕ)) (files : List Source) (s : Service) → service_read tags start late files ≡ Ok s → s.programs ≡ []
unfolding service_read
plain_read tags start late files s e = by (read_files tags [] files >>= service_of start) refl e
  where
    by : (r : Result Service Unplayable) → (read_files tags [] files >>= service_of start) ≡ r → (r >>= with_late late) ≡ Ok s → s.programs ≡ []
    by (Err x) is h = cc
    by (Ok v) is h = plain_late late v s (plain_files start (read_files tags [] files) v is) h

-- What a reader answers is what is read.

pub chosen_told : (tags : Tags) (start : List ℕ) (late : Option (List ℕ)) (files : List Source) (r : Result Service Unplayable) → Gives (λ (s : Service). s) r (service_read tags start late files)
    → IfErr r (λ why. (n : ℕ) → reading_number why ≡ Some n → IsUnreadable (service_read tags start late files) n)
chosen_told tags start late files (Ok s) gives = tt
chosen_told tags start late files (Err e) gives = λ n told. unread_service tags start late files e n gives told

pub chosen_plain : (tags : Tags) (start : List ℕ) (late : Option (List ℕ)) (files : List Source) (r : Result Service Unplayable) → Gives (λ (s : Service). s) r (service_read tags start late files)
    → IfOk r (λ s. s.programs ≡ [])
chosen_plain tags start late files (Ok s) gives = plain_read tags start late files s gives
chosen_plain tags start late files (Err e) gives = tt

-- The group of a scene.

pub shared_so : (x : Result Written Unplayable) (g : Written) (r : Result Written Unplayable) → x ≡ Ok g → IfOk r (λ m. m ≡ g) → IfErr r (λ w. w ≡ unplayable.NoMemory) → Gives (λ (m : Written). m) r x
shared_so x g (Ok m) is same memory = is ∙ ap Ok (sym same)
shared_so x g (Err w) is same memory = subst (λ (e : Unplayable). Fails e x) (sym memory) tt

pub memory_told : {A : Type 0} (r : Result A Unplayable) → IfErr r (λ w. w ≡ unplayable.NoMemory) → IfErr r (λ w. reading_number w ≡ None → w ≡ unplayable.NoMemory)
memory_told (Ok m) memory = tt
memory_told (Err w) memory = λ _. memory
