-- What is spelled is read: values, from their words.
use Rattle.std.proofs.Common.{◌≡◌, ℕ, zero, suc, ◌≤◌, Bool, true, false, ◌&&◌, ◌==◌, if◌then◌else◌, List, [], ◌∷◌, ◌++◌, length, Some, None, Result, Ok, ℤ, pos, int_lt, nat_lt, inl, inr, codes, refl, ap, sym, ◌∙◌, subst, arith, append_assoc, append-nil}
use Rattle.std.specs.List.{list_all}
use Rattle.std.proofs.lemmas.Bool.Decides.{nat_tests}
use Rattle.mh_base.specs.declared.colour.Colour.{Colour}
use Rattle.mh_base.specs.declared.event.EventType.{EventType}
use Rattle.mh_base.specs.Path.{is_name_byte}
use Rattle.mh_base.specs.Reading.{Rest, ◌>>=◌}
use Rattle.mh_base.specs.Limits.{longest_list}
use Rattle.mh_base.proofs.ReadingLemmas.{then_is}
use Rattle.mh_group.specs.declared.reference.Ref.TheVariants as ref
use Rattle.mh_group.specs.declared.reference.Generic.TheVariants.{Direct, Indirect}
use Rattle.mh_group.specs.declared.justification.Justification.{Justification}
use Rattle.mh_group.specs.declared.action.Content.TheVariants as of_content
use Rattle.mh_group.specs.declared.action.EventData.{EventData}
use Rattle.mh_group.specs.declared.action.EventData.TheVariants as of_data
use Rattle.mh_group.specs.Holdable.{colour_octets}
use Rattle.mh_group.specs.Words.{event_word, justification_word}
use Rattle.mh_text.specs.declared.token.kind.TokenKind.{TokenKind}
use Rattle.mh_text.specs.declared.token.kind.TokenKind.TheVariants as kind
use Rattle.mh_text.specs.declared.sign.Sign.{Sign}
use Rattle.mh_text.specs.declared.sign.Sign.TheVariants as sign
use Rattle.mh_text.specs.declared.octet_text.Escape.TheVariants.{Outside}
use Rattle.mh_text.specs.Escapes.{unescaped}
use Rattle.mh_text.specs.Rest.{Left, Piece, piece}
use Rattle.mh_text.specs.Signs.{sign_of}
use Rattle.mh_text.specs.Words.{Written, AreWords, IsWord, Quotes, needs_gap}
use Rattle.mh_text.specs.Gives.{Refusal}
use Rattle.mh_text.specs.Spelling.{IsOpen, IsClose, IsOpenBrace, IsInteger, IsNumber, IsName, AreOctets, IsColour, truth_word, IsTruth, IsRef, IsGeneric, IsContentName, IsContent, IsData, AreSeveral, IsListOf}
use Rattle.mh_text.specs.Left.{token, lexed, meant, left_in, left}
use Rattle.mh_text.specs.Reading.{next, ended, is_close, is_indirect, is_content_ref, opened, closed, closed_list, braced, inner, name_of, integer_of, natural_of, number_of, truth_of, event_of, justification_of, octets_of, colour_in, colour_of, data_of, made, alone, truth, integer, octets, event_data, content_name, content, named_reference, reference, generic, next_member, listed, list}
use Rattle.mh_text.proofs.LeftLemmas.{left_is}
use Rattle.mh_text.proofs.SignLemmas.{integer_means, truth_means, event_means, justification_means, content_ref_means, indirect_ref_means, inner_is}
use Rattle.mh_text.proofs.FoundLemmas.{quotes_unescaped}
use Rattle.mh_text.proofs.PieceLemmas.{as_word}
use Rattle.mh_text.proofs.ExactLemmas.{next_word, last_word}

-- reading stands where these words are left
pub record StandsAt (l : Left) (ws : List Written) : Type 0 where
  pub wants : Bool
  pub place : Rest
  pub is : l ≡ left wants place
  pub words : AreWords wants place.bytes ws

-- the token at which the next word stands, and what is left behind it
pub record Steps (l : Left) (k : TokenKind) (text : List ℕ) (s : Sign) (ws : List Written) : Type 0 where
  pub start : ℕ
  pub rest : Left
  pub first : next l ≡ Ok (record { sign = s; start = start; text = text }, rest)
  pub at : StandsAt rest ws
  pub word : IsWord k text

parted_if : (wants needs : Bool) (start offset : ℕ) (b : Bool) (l m : Left) → (start == offset) ≡ b → (wants ≡ true → needs ≡ true → start ≡ offset → ⊥)
    → (if wants && needs && b then l else m) ≡ m
parted_if true true start offset true l m h parted =
    let same : start ≡ offset = grind (arith, nat_tests) in
    absurd (parted refl refl same)
parted_if true true start offset false l m h parted = refl
parted_if true false start offset b l m h parted = refl
parted_if false needs start offset b l m h parted = refl

left_step : (wants : Bool) (r : Rest) (k : TokenKind) (start : ℕ) (text : List ℕ) (rest : Rest) (s : Sign) → lexed r ≡ token k start text rest → sign_of k text ≡ Ok s
    → (wants ≡ true → needs_gap k ≡ true → start ≡ r.offset → ⊥)
    → left wants r ≡ piece (record { sign = s; start = start; text = text }) (left (needs_gap k) rest)
left_step wants r k start text rest s e means parted =
    left_is wants r ∙ ap (left_in left wants r) e ∙ ap (λ m. meant wants r.offset k start text m (left (needs_gap k) rest)) means
    ∙ parted_if wants (needs_gap k) start r.offset (start == r.offset) _ _ refl parted

pub steps : (l : Left) (k : TokenKind) (text : List ℕ) (s : Sign) (ws : List Written) → StandsAt l (as_word k text ∷ ws) → sign_of k text ≡ Ok s → Steps l k text s ws
steps l k text s ws at means =
    let n = next_word at.place at.wants (as_word k text) ws at.words in
    record {
      start = n.start;
      rest = left (needs_gap k) n.rest;
      first = ap next (at.is ∙ left_step at.wants at.place k n.start text n.rest s n.is means n.parted);
      at = record { wants = needs_gap k; place = n.rest; is = refl; words = n.words };
      word = n.word;
    }

pub at_end : (l : Left) → StandsAt l [] → ended l ≡ Ok tt
at_end l at = ap ended (at.is ∙ left_is at.wants at.place ∙ ap (left_in left at.wants at.place) (last_word at.place at.wants at.words))

-- the first word, where it is this one
pub first : (l : Left) (ws rest : List Written) (k : TokenKind) (text : List ℕ) (s : Sign) → StandsAt l ws → ws ≡ as_word k text ∷ rest → sign_of k text ≡ Ok s → Steps l k text s rest
first l ws rest k text s at e means = steps l k text s rest (subst (StandsAt l) e at) means

-- reading gives this value, and stands then where these words are left
pub record Reads {A : Type 0} (read : Result (A × Left) Refusal) (x : A) (ws : List Written) : Type 0 where
  pub rest : Left
  pub is : read ≡ Ok (x, rest)
  pub at : StandsAt rest ws

pub record Goes (read : Result Left Refusal) (ws : List Written) : Type 0 where
  pub rest : Left
  pub is : read ≡ Ok rest
  pub at : StandsAt rest ws

pub open_read : (l : Left) (ws rest : List Written) → StandsAt l ws → IsOpen ws rest → Goes (opened l) rest
unfolding opened sign_of
open_read l ws rest at e =
    let s = first l ws rest kind.OpenParenthesis (40 ∷ []) sign.OpenParenthesis at e refl in
    record { rest = s.rest; is = then_is (next l) _ _ s.rest s.first refl; at = s.at }

pub close_read : (l : Left) (ws rest : List Written) → StandsAt l ws → IsClose ws rest → Goes (closed l) rest
unfolding closed sign_of
close_read l ws rest at e =
    let s = first l ws rest kind.CloseParenthesis (41 ∷ []) sign.CloseParenthesis at e refl in
    record { rest = s.rest; is = then_is (next l) _ _ s.rest s.first refl; at = s.at }

pub close_list_read : (l : Left) (ws rest : List Written) → StandsAt l ws → IsClose ws rest → Goes (closed_list l) rest
unfolding closed_list sign_of
close_list_read l ws rest at e =
    let s = first l ws rest kind.CloseParenthesis (41 ∷ []) sign.CloseParenthesis at e refl in
    record { rest = s.rest; is = then_is (next l) _ _ s.rest s.first refl; at = s.at }

pub brace_read : (l : Left) (ws rest : List Written) → StandsAt l ws → IsOpenBrace ws rest → Goes (braced l) rest
unfolding braced sign_of
brace_read l ws rest at e =
    let s = first l ws rest kind.OpenBrace (123 ∷ []) sign.OpenBrace at e refl in
    record { rest = s.rest; is = then_is (next l) _ _ s.rest s.first refl; at = s.at }

-- names
name_fits : (name : List ℕ) → IsWord kind.Text (34 ∷ (name ++ 34 ∷ [])) → list_all is_name_byte name ≡ true
name_fits name (within, is, all) =
    let same : name ≡ within = sym (inner_is 34 name) ∙ ap inner is ∙ inner_is 34 within in
    subst (λ n. list_all is_name_byte n ≡ true) (sym same) all

pub name_is : (start : ℕ) (name : List ℕ) → IsWord kind.Text (34 ∷ (name ++ 34 ∷ [])) → name_of (record { sign = sign.Text; start = start; text = 34 ∷ (name ++ 34 ∷ []) }) ≡ Ok name
unfolding name_of
name_is start name word =
    rw (inner_is 34 name, name_fits name word) refl

-- numbers
pub integer_is : (start : ℕ) (text : List ℕ) (x : ℤ) → integer_of (record { sign = sign.Integer x; start = start; text = text }) ≡ Ok x
unfolding integer_of
integer_is start text x = refl

pub natural_is : (start : ℕ) (text : List ℕ) (x : ℤ) → int_lt x (pos 0) ≡ false → natural_of (record { sign = sign.Integer x; start = start; text = text }) ≡ Ok x
unfolding natural_of integer_of
natural_is start text x h = rw h refl

pub from_zero : (n : ℕ) → int_lt (pos n) (pos 0) ≡ false
from_zero n =
    let none : nat_lt n 0 ≡ false = grind (arith, nat_tests) in
    none

pub number_is : (start : ℕ) (text : List ℕ) (n : ℕ) → number_of (record { sign = sign.Integer (pos n); start = start; text = text }) ≡ Ok n
unfolding number_of
number_is start text n = then_is (natural_of _) _ (pos n) n (natural_is start text (pos n) (from_zero n)) refl

-- what a token that begins a value is not: the end of a list, or the keyword of a value that a variable holds
abbrev pub IsPlain : Sign → Type 0
IsPlain s = (is_close s ≡ false) × (is_indirect s ≡ false)

-- what begins with a token
pub record Begun {A : Type 0} (l : Left) (read : Piece → Left → Result (A × Left) Refusal) (x : A) (ws : List Written) : Type 0 where
  pub head : Piece
  pub behind : Left
  pub first : next l ≡ Ok (head, behind)
  pub rest : Left
  pub is : read head behind ≡ Ok (x, rest)
  pub at : StandsAt rest ws
  pub no_close : is_close head.sign ≡ false

-- what fits and is spelled so is read from a token
abbrev pub Takes : {A : Type 0} → (Piece → Left → Result (A × Left) Refusal) → (A → List Written → List Written → Type 0) → (A → Type 0) → Type 0
Takes {A} read Is Fits = (l : Left) (x : A) (ws rest : List Written) → Fits x → StandsAt l ws → Is x ws rest → Begun l read x rest

-- what is spelled so is read from a token, which is not the keyword of a value that a variable holds
abbrev pub TakesDirect : {A : Type 0} → (Piece → Left → Result (A × Left) Refusal) → (A → List Written → List Written → Type 0) → Type 0
TakesDirect {A} read Is = (l : Left) (x : A) (ws rest : List Written) → StandsAt l ws → Is x ws rest → (b : Begun l read x rest) × (is_indirect b.head.sign ≡ false)

-- all values fit
abbrev pub Any : {A : Type 0} → A → Type 0
Any x = Unit {0}

-- what is one token
pub record One {A : Type 0} (l : Left) (read : Piece → Result A Refusal) (x : A) (ws : List Written) : Type 0 where
  pub head : Piece
  pub behind : Left
  pub first : next l ≡ Ok (head, behind)
  pub is : read head ≡ Ok x
  pub at : StandsAt behind ws
  pub plain : IsPlain head.sign

pub one : {A : Type 0} (read : Piece → Result A Refusal) (x : A) (l : Left) (k : TokenKind) (text : List ℕ) (s : Sign) (rest : List Written) (t : Steps l k text s rest) → IsPlain s
    → read (record { sign = s; start = t.start; text = text }) ≡ Ok x → One l read x rest
one read x l k text s rest t plain is = record { head = record { sign = s; start = t.start; text = text }; behind = t.rest; first = t.first; is = is; at = t.at; plain = plain }

-- a part of a value, and a value alone
pub one_made : {A B : Type 0} (f : A → B) (read : Piece → Result A Refusal) (x : A) (l : Left) (ws : List Written) → One l read x ws → One l (λ p. read p >>= λ y. Ok (f y)) (f x) ws
one_made f read x l ws o = record { head = o.head; behind = o.behind; first = o.first; is = then_is (read o.head) _ x (f x) o.is refl; at = o.at; plain = o.plain }

pub alone_taken : {A : Type 0} (read : Piece → Result A Refusal) (x : A) (l : Left) (ws : List Written) → One l read x ws → Begun l (λ p left. alone (read p) left) x ws
alone_taken read x l ws o = record { head = o.head; behind = o.behind; first = o.first; rest = o.behind; is = then_is (read o.head) _ x (x, o.behind) o.is refl; at = o.at; no_close = o.plain.0 }

alone_direct : {A : Type 0} (read : Piece → Result A Refusal) (x : A) (l : Left) (ws : List Written) → One l read x ws → (b : Begun l (λ p left. alone (read p) left) x ws) × (is_indirect b.head.sign ≡ false)
alone_direct read x l ws o = (
  record { head = o.head; behind = o.behind; first = o.first; rest = o.behind; is = then_is (read o.head) _ x (x, o.behind) o.is refl; at = o.at; no_close = o.plain.0 },
  o.plain.1,
)

pub made_taken : {A B : Type 0} (f : A → B) (read : Piece → Left → Result (A × Left) Refusal) (x : A) (l : Left) (ws : List Written) → Begun l read x ws → Begun l (λ p left. made f (read p left)) (f x) ws
made_taken f read x l ws b = record { head = b.head; behind = b.behind; first = b.first; rest = b.rest; is = then_is (read b.head b.behind) _ _ (f x, b.rest) b.is refl; at = b.at; no_close = b.no_close }

-- values of one token
pub truth_one : (b : Bool) (l : Left) (ws rest : List Written) → StandsAt l ws → IsTruth b ws rest → One l truth_of b rest
unfolding truth_of
truth_one b l ws rest at h = one truth_of b l kind.Word (truth_word b) (sign.Truth b) rest (first l ws rest kind.Word (truth_word b) (sign.Truth b) at h (truth_means b)) (refl, refl) refl

pub event_one : (x : EventType) (l : Left) (ws rest : List Written) → StandsAt l ws → ws ≡ as_word kind.Word (event_word x) ∷ rest → One l event_of x rest
unfolding event_of
event_one x l ws rest at h = one event_of x l kind.Word (event_word x) (sign.Event x) rest (first l ws rest kind.Word (event_word x) (sign.Event x) at h (event_means x)) (refl, refl) refl

pub justification_one : (x : Justification) (l : Left) (ws rest : List Written) → StandsAt l ws → ws ≡ as_word kind.Word (justification_word x) ∷ rest → One l justification_of x rest
unfolding justification_of
justification_one x l ws rest at h =
    one justification_of x l kind.Word (justification_word x) (sign.Justification x) rest (first l ws rest kind.Word (justification_word x) (sign.Justification x) at h (justification_means x)) (refl, refl) refl

-- an integer, read as one of a range
pub number_one : (read : Piece → Result ℤ Refusal) (x : ℤ) (l : Left) (ws rest : List Written) → StandsAt l ws → IsInteger x ws rest
    → ((start : ℕ) (text : List ℕ) → read (record { sign = sign.Integer x; start = start; text = text }) ≡ Ok x) → One l read x rest
number_one read x l ws rest at (text, writes, e) is =
    let t = first l ws rest kind.Integer text (sign.Integer x) at e (integer_means text x writes) in
    one read x l kind.Integer text (sign.Integer x) rest t (refl, refl) (is t.start text)

pub integer_one : (x : ℤ) (l : Left) (ws rest : List Written) → StandsAt l ws → IsInteger x ws rest → One l integer_of x rest
integer_one x l ws rest at h = number_one integer_of x l ws rest at h (λ start text. integer_is start text x)

octets_is : (start : ℕ) (octets : List ℕ) → octets_of (record { sign = sign.Text; start = start; text = 34 ∷ (octets ++ 34 ∷ []) }) ≡ Ok octets
unfolding octets_of
octets_is start octets = ap Ok (inner_is 34 octets)

quoted_is : (start : ℕ) (within octets : List ℕ) → Quotes within octets → octets_of (record { sign = sign.Quoted; start = start; text = 39 ∷ (within ++ 39 ∷ []) }) ≡ Ok octets
unfolding octets_of
quoted_is start within octets quotes = ap (λ n. Ok (unescaped Outside n)) (inner_is 39 within) ∙ ap Ok (quotes_unescaped within octets quotes)

pub octets_one : (octets : List ℕ) (l : Left) (ws rest : List Written) → StandsAt l ws → AreOctets octets ws rest → One l octets_of octets rest
unfolding sign_of
octets_one octets l ws rest at (inl e) =
    let t = first l ws rest kind.Text (34 ∷ (octets ++ 34 ∷ [])) sign.Text at e refl in
    one octets_of octets l kind.Text (34 ∷ (octets ++ 34 ∷ [])) sign.Text rest t (refl, refl) (octets_is t.start octets)
octets_one octets l ws rest at (inr (within, quotes, e)) =
    let t = first l ws rest kind.Quoted (39 ∷ (within ++ 39 ∷ [])) sign.Quoted at e refl in
    one octets_of octets l kind.Quoted (39 ∷ (within ++ 39 ∷ [])) sign.Quoted rest t (refl, refl) (quoted_is t.start within octets quotes)

pub colour_one : (c : Colour) (l : Left) (ws rest : List Written) → StandsAt l ws → IsColour c ws rest → One l colour_of c rest
unfolding colour_of
colour_one c l ws rest at h =
    let o = octets_one (colour_octets c) l ws rest at h in
    record {
      head = o.head;
      behind = o.behind;
      first = o.first;
      is = then_is (octets_of o.head) (colour_in o.head) (colour_octets c) c o.is refl;
      at = o.at;
      plain = o.plain;
    }

pub data_one : (x : EventData) (l : Left) (ws rest : List Written) → StandsAt l ws → IsData x ws rest → One l data_of x rest
unfolding data_of
data_one (of_data.Bool b) l ws rest at h =
    one data_of (of_data.Bool b) l kind.Word (truth_word b) (sign.Truth b) rest (first l ws rest kind.Word (truth_word b) (sign.Truth b) at h (truth_means b)) (refl, refl) refl
data_one (of_data.Int x) l ws rest at (text, writes, e) =
    one data_of (of_data.Int x) l kind.Integer text (sign.Integer x) rest (first l ws rest kind.Integer text (sign.Integer x) at e (integer_means text x writes)) (refl, refl) refl

pub truth_takes : TakesDirect truth IsTruth
truth_takes l x ws rest at h = alone_direct truth_of x l rest (truth_one x l ws rest at h)

pub integer_takes : TakesDirect integer IsInteger
integer_takes l x ws rest at h = alone_direct integer_of x l rest (integer_one x l ws rest at h)

pub octets_takes : TakesDirect octets AreOctets
octets_takes l x ws rest at h = alone_direct octets_of x l rest (octets_one x l ws rest at h)

pub data_takes : TakesDirect event_data IsData
data_takes l x ws rest at h = alone_direct data_of x l rest (data_one x l ws rest at h)

-- references
named_read : (l : Left) (name : List ℕ) (n : ℕ) (ws b c rest : List Written) → StandsAt l ws → IsName name ws b → IsNumber n b c → IsClose c rest → Reads (named_reference l) (ref.In name n) rest
unfolding named_reference sign_of
named_read l name n ws b c rest at named (text, writes, number) close =
    let s = first l ws b kind.Text (34 ∷ (name ++ 34 ∷ [])) sign.Text at named refl in
    let t = first s.rest b c kind.Integer text (sign.Integer (pos n)) s.at number (integer_means text (pos n) writes) in
    let g = close_read t.rest c rest t.at close in
    record {
      rest = g.rest;
      is = then_is (next l) _ _ (ref.In name n, g.rest) s.first
          (then_is (name_of (record { sign = sign.Text; start = s.start; text = 34 ∷ (name ++ 34 ∷ []) })) _ name (ref.In name n, g.rest) (name_is s.start name s.word)
          (then_is (next s.rest) _ _ (ref.In name n, g.rest) t.first
          (then_is (number_of (record { sign = sign.Integer (pos n); start = t.start; text = text })) _ n (ref.In name n, g.rest) (number_is t.start text n)
          (then_is (closed t.rest) _ g.rest (ref.In name n, g.rest) g.is refl))));
      at = g.at;
    }

pub reference_takes : TakesDirect reference IsRef
unfolding reference sign_of
reference_takes l (ref.Here n) ws rest at (text, writes, e) =
    let s = first l ws rest kind.Integer text (sign.Integer (pos n)) at e (integer_means text (pos n) writes) in (
      record {
        head = record { sign = sign.Integer (pos n); start = s.start; text = text };
        behind = s.rest;
        first = s.first;
        rest = s.rest;
        is = then_is (number_of (record { sign = sign.Integer (pos n); start = s.start; text = text })) _ n (ref.Here n, s.rest) (number_is s.start text n) refl;
        at = s.at;
        no_close = refl;
      },
      refl,
    )
reference_takes l (ref.In name n) ws rest at (a, b, c, opens, named, number, close) =
    let s = first l ws a kind.OpenParenthesis (40 ∷ []) sign.OpenParenthesis at opens refl in
    let r = named_read s.rest name n a b c rest s.at named number close in (
      record {
        head = record { sign = sign.OpenParenthesis; start = s.start; text = 40 ∷ [] };
        behind = s.rest;
        first = s.first;
        rest = r.rest;
        is = r.is;
        at = r.at;
        no_close = refl;
      },
      refl,
    )

-- contents
pub content_name_takes : TakesDirect content_name IsContentName
unfolding content_name sign_of
content_name_takes l name ws rest at (a, b, c, keyed, opens, named, close) =
    let k = first l ws a kind.Keyword (58 ∷ codes "ContentRef") sign.ContentRef at keyed content_ref_means in
    let o = open_read k.rest a b k.at opens in
    let s = first o.rest b c kind.Text (34 ∷ (name ++ 34 ∷ [])) sign.Text o.at named refl in
    let g = close_read s.rest c rest s.at close in (
      record {
        head = record { sign = sign.ContentRef; start = k.start; text = 58 ∷ codes "ContentRef" };
        behind = k.rest;
        first = k.first;
        rest = g.rest;
        is = then_is (opened k.rest) _ o.rest (name, g.rest) o.is
            (then_is (next o.rest) _ _ (name, g.rest) s.first
            (then_is (name_of (record { sign = sign.Text; start = s.start; text = 34 ∷ (name ++ 34 ∷ []) })) _ name (name, g.rest) (name_is s.start name s.word)
            (then_is (closed s.rest) _ g.rest (name, g.rest) g.is refl)));
        at = g.at;
        no_close = refl;
      },
      refl,
    )

-- a name begins with its keyword, and octets do not
begins_name : (s : Sign) (start : ℕ) (text : List ℕ) (left : Left) (name : List ℕ) (rest : Left) → content_name (record { sign = s; start = start; text = text }) left ≡ Ok (name, rest) → is_content_ref s ≡ true
unfolding content_name
begins_name sign.ContentRef start text left name rest e = refl
begins_name _ start text left name rest e = absurd cc

begins_octets : (s : Sign) (start : ℕ) (text octets : List ℕ) → octets_of (record { sign = s; start = start; text = text }) ≡ Ok octets → is_content_ref s ≡ false
unfolding octets_of
begins_octets sign.Text start text octets e = refl
begins_octets sign.Quoted start text octets e = refl
begins_octets _ start text octets e = absurd cc

pub content_takes : TakesDirect content IsContent
unfolding content
content_takes l (of_content.Included bytes) ws rest at h =
    let o = octets_one bytes l ws rest at h in (
      record {
        head = o.head;
        behind = o.behind;
        first = o.first;
        rest = o.behind;
        is = rw (begins_octets o.head.sign o.head.start o.head.text bytes o.is) (then_is (octets o.head o.behind) _ _ (of_content.Included bytes, o.behind) (then_is (octets_of o.head) _ bytes (bytes, o.behind) o.is refl) refl);
        at = o.at;
        no_close = o.plain.0;
      },
      o.plain.1,
    )
content_takes l (of_content.Referenced name) ws rest at h =
    let b = content_name_takes l name ws rest at h in (
      record {
        head = b.0.head;
        behind = b.0.behind;
        first = b.0.first;
        rest = b.0.rest;
        is = rw (begins_name b.0.head.sign b.0.head.start b.0.head.text b.0.behind name b.0.rest b.0.is) (then_is (content_name b.0.head b.0.behind) _ _ (of_content.Referenced name, b.0.rest) b.0.is refl);
        at = b.0.at;
        no_close = b.0.no_close;
      },
      b.1,
    )

-- values that a variable may hold
pub generic_takes : {A : Type 0} (value : Piece → Left → Result (A × Left) Refusal) (Is : A → List Written → List Written → Type 0) → TakesDirect value Is → Takes (generic value) (IsGeneric Is) Any
unfolding generic
generic_takes value Is takes_value l (Direct x) ws rest fit at h =
    let b = takes_value l x ws rest at h in
    record {
      head = b.0.head;
      behind = b.0.behind;
      first = b.0.first;
      rest = b.0.rest;
      is = rw b.1 (then_is (value b.0.head b.0.behind) _ _ (Direct x, b.0.rest) b.0.is refl);
      at = b.0.at;
      no_close = b.0.no_close;
    }
generic_takes value Is takes_value l (Indirect r) ws rest fit at (a, keyed, referred) =
    let k = first l ws a kind.Keyword (58 ∷ codes "IndirectRef") sign.IndirectRef at keyed indirect_ref_means in
    let b = reference_takes k.rest r a rest k.at referred in
    record {
      head = record { sign = sign.IndirectRef; start = k.start; text = 58 ∷ codes "IndirectRef" };
      behind = k.rest;
      first = k.first;
      rest = b.0.rest;
      is = then_is (next k.rest >>= λ c. reference c.0 c.1) _ _ (Indirect r, b.0.rest) (then_is (next k.rest) _ _ (r, b.0.rest) b.0.first b.0.is) refl;
      at = b.0.at;
      no_close = refl;
    }

-- lists
abbrev pub AllFit : {A : Type 0} → (A → Type 0) → List A → Type 0
AllFit Fits [] = Unit {0}
AllFit Fits (x ∷ xs) = Fits x × AllFit Fits xs

pub all_any : {A : Type 0} (xs : List A) → AllFit Any xs
all_any [] = tt
all_any (x ∷ xs) = (tt, all_any xs)

-- no more than may be, where no list has more than a list may
abbrev pub FitsList : {A : Type 0} → ℕ → (A → Type 0) → List A → Type 0
FitsList most Fits xs = (length xs ≤ longest_list → length xs ≤ most) × AllFit Fits xs

pub any_list : {A : Type 0} (xs : List A) → FitsList longest_list Any xs
any_list xs = (λ few. few, all_any xs)

module _ {A : Type 0} (member : Piece → Left → Result (A × Left) Refusal) (IsOne : A → List Written → List Written → Type 0) (Fits : A → Type 0) (takes_one : Takes member IsOne Fits) where
  member_more : (l : Left) (x : A) (ws : List Written) (b : Begun l member x ws) → is_close b.head.sign ≡ false → next_member member l ≡ Ok (Some x, b.rest)
  unfolding next_member
  member_more l x ws b h = then_is (next l) _ _ (Some x, b.rest) b.first (rw h (then_is (member b.head b.behind) _ _ (Some x, b.rest) b.is refl))

  member_end : (l : Left) (ws rest : List Written) → StandsAt l ws → IsClose ws rest → Reads (next_member member l) None rest
  unfolding next_member sign_of
  member_end l ws rest at e =
      let s = first l ws rest kind.CloseParenthesis (41 ∷ []) sign.CloseParenthesis at e refl in
      record { rest = s.rest; is = then_is (next l) _ _ (None, s.rest) s.first refl; at = s.at }

  -- a list goes on to be read as it is, by another name
  renamed : {B : Type 0} (read : Result (B × Left) Refusal) (x y : B) (ws : List Written) → x ≡ y → Reads read x ws → Reads read y ws
  renamed {B} read x y ws e r = subst (λ z. Reads read z ws) e r

  pub listed_read : (n : ℕ) (done xs : List A) (l : Left) (ws end rest : List Written) → length xs ≤ n → AllFit Fits xs → StandsAt l ws → AreSeveral IsOne xs ws end → IsClose end rest
      → Reads (listed member n done l) (done ++ xs) rest
  unfolding listed
  listed_read zero done [] l ws end rest few fit at several close =
      let g = close_list_read l end rest (subst (StandsAt l) several at) close in
      record { rest = g.rest; is = then_is (closed_list l) _ g.rest (done ++ [], g.rest) g.is (ap (λ ys. Ok (ys, g.rest)) (sym (append-nil done))); at = g.at }
  listed_read zero done (x ∷ xs) l ws end rest few fit at several close = absurd (omega arith)
  listed_read (suc n) done [] l ws end rest few fit at several close =
      let g = member_end l end rest (subst (StandsAt l) several at) close in
      record { rest = g.rest; is = then_is (next_member member l) _ _ (done ++ [], g.rest) g.is (ap (λ ys. Ok (ys, g.rest)) (sym (append-nil done))); at = g.at }
  listed_read (suc n) done (x ∷ xs) l ws end rest few fit at (a, here, behind) close =
      let b = takes_one l x ws a fit.0 at here in
      let r = listed_read n (done ++ x ∷ []) xs b.rest a end rest (omega arith) fit.1 b.at behind close in
      renamed (listed member (suc n) done l) ((done ++ x ∷ []) ++ xs) (done ++ x ∷ xs) rest (append_assoc done (x ∷ []) xs)
      (record { rest = r.rest; is = then_is (next_member member l) _ _ ((done ++ x ∷ []) ++ xs, r.rest) (member_more l x a b b.no_close) r.is; at = r.at })

  -- a list between parentheses
  pub list_takes : (most : ℕ) → Takes (list member most) (IsListOf IsOne) (FitsList most Fits)
  unfolding list sign_of
  list_takes most l xs ws rest fit at (few, a, b, opens, several, close) =
      let s = first l ws a kind.OpenParenthesis (40 ∷ []) sign.OpenParenthesis at opens refl in
      let r = listed_read most [] xs s.rest a b rest (fit.0 few) fit.1 s.at several close in
      record {
        head = record { sign = sign.OpenParenthesis; start = s.start; text = 40 ∷ [] };
        behind = s.rest;
        first = s.first;
        rest = r.rest;
        is = r.is;
        at = r.at;
        no_close = refl;
      }
