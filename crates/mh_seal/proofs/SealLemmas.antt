-- The whole text of a seal: its first line, and that one text is that of one seal.
use Rattle.std.specs.Prelude.{◌≡◌, ◌<◌, ◌+◌, ◌^◌, ◌++◌, ◌∷◌, ◌&&◌, Bool, List, None, Some, [], codes, false, length, refl, suc, true, ℕ}
use Rattle.std.specs.Fmt.{decimal}
use Rattle.std.specs.List.{list_all}
use Rattle.std.specs.Str.{bytes_eq}
use Rattle.std.specs.Cmp.Derive.{both_true}
use Rattle.std.proofs.Common.{ap, arith, length-append, sym, ◌∙◌}
use Rattle.std.proofs.lemmas.List.{append_cancel_left}
use Rattle.std.proofs.lemmas.Slice.Eq.{bytes_eq-Decides}
use Rattle.hex.specs.Hex.{encode_lower}
use Rattle.mh_base.specs.Path.{is_path}
use Rattle.mh_seal.specs.declared.seal.Seal.{Seal}
use Rattle.mh_seal.specs.declared.seal.SealedBounds.{SealedBounds}
use Rattle.mh_seal.specs.declared.seal_error.SealError.{SealError}
use Rattle.mh_seal.specs.declared.seal_error.SealError.TheVariants as error
use Rattle.mh_seal.specs.Breaking.{IsBreak}
use Rattle.mh_seal.specs.Lines.{IsLine, is_plain}
use Rattle.mh_seal.specs.Octets.{is_digest}
use Rattle.mh_seal.specs.Reading.{IsRefusal, SpellsOneSeal, is_bound, is_group, is_seal}
use Rattle.mh_seal.specs.Sections.{body, closing, ending, is_ending}
use Rattle.mh_seal.specs.Text.{as_is, bounds_text, group_value, line, lines, seal_text, version, version_word}
use Rattle.mh_seal.proofs.BreakLemmas.{behind_break, carried_break, here_break, one_good, one_text}
use Rattle.mh_seal.proofs.EndingLemmas.{bounds_apart, ending_good}
use Rattle.mh_seal.proofs.GroupLemmas.{one_group, plain_group}
use Rattle.mh_seal.proofs.LineLemmas.{line_is, line_same, lines_same}
use Rattle.mh_seal.proofs.PartLemmas.{regrouped}
use Rattle.mh_seal.proofs.SectionLemmas.{in_body, is_name, no_content, no_group, some_groups}
use Rattle.mh_seal.proofs.TruthLemmas.{and_left, and_right}
use Rattle.mh_seal.proofs.ValueLemmas.{one_bound, one_digest, plain_bound, plain_digest, plain_name}

-- The text, part by part

pub text_is : (s : Seal) → seal_text s ≡ line version_word version ++ body s
unfolding seal_text body ending closing
text_is s =
    regrouped (line version_word version) (line (codes "start ") s.start) (lines (codes "group ") group_value s.groups) (lines (codes "content ") as_is s.contents) (bounds_text s.bounds) (line (codes "tags ") (encode_lower s.tags)) (line (codes "end") [])

-- Its first line

abbrev versioned : Unit {0} × Seal → List ℕ
versioned p = one_text version_word (λ (u : Unit {0}). version) body p

abbrev is_versioned : Unit {0} × Seal → Bool
is_versioned p = one_good (λ (u : Unit {0}). true) is_seal p

as_seal : (bytes : List ℕ) (e : SealError) → IsBreak is_versioned versioned 1 bytes e → IsBreak is_seal seal_text 1 bytes e
as_seal bytes e h = carried_break is_versioned versioned is_seal seal_text 1 bytes e (λ p g. (p.1, g, text_is p.1)) (λ s g. ((tt, s), g, sym (text_is s))) h

abbrev some_seal : Seal
some_seal = record { start = 97 ∷ []; groups = some_groups.0; contents = (some_groups.1).0; bounds = ((some_groups.1).1).0; tags = ((some_groups.1).1).1 }

pub no_first : (bytes : List ℕ) → IsLine version_word bytes None → IsRefusal bytes (error.Line 1)
no_first bytes none = (
  λ other. none refl other.0 other.1 other.3 other.2,
  as_seal bytes (error.Line 1) (here_break version_word (λ (u : Unit {0}). true) (λ (u : Unit {0}). version) refl (λ u g. refl) is_seal body tt some_seal 1 bytes (error.Line 1) refl (both_true is_name refl) (refl, λ w u rest g p e. none w version rest p e)),
)

pub other_version : (bytes v rest : List ℕ) → IsLine version_word bytes (Some (v, rest)) → bytes_eq v version ≡ false → IsRefusal bytes error.Version
other_version bytes v rest is other = (v, rest, is.0, is.1, λ e. no (sym other ∙ (bytes_eq-Decides v version).1 e))
  where
    no : false ≡ true → ⊥
    no h = absurd cc

pub no_body : (bytes v rest : List ℕ) (e : SealError) → IsLine version_word bytes (Some (v, rest)) → bytes_eq v version ≡ true → IsBreak is_seal body 2 rest e → IsRefusal bytes e
no_body bytes v rest (error.Line n) is equal h = let same = (bytes_eq-Decides v version).0 equal in (
  λ other. other.4 (sym (line_same version_word v other.0 rest other.1 refl is.1 other.3 (sym is.0 ∙ other.2)).0 ∙ same),
  as_seal bytes (error.Line n) (behind_break version_word (λ (u : Unit {0}). true) (λ (u : Unit {0}). version) refl (λ u g. refl) is_seal body tt 1 2 bytes rest (error.Line n) (refl, is.0 ∙ ap (λ (t : List ℕ). line version_word t ++ rest) same) refl h),
)
no_body bytes v rest error.Version is equal h = absurd h
no_body bytes v rest error.NoMemory is equal h = h

pub seal_found : (bytes v rest : List ℕ) (s : Seal) → IsLine version_word bytes (Some (v, rest)) → bytes_eq v version ≡ true → (is_seal s ≡ true) × (rest ≡ body s) → (is_seal s ≡ true) × (bytes ≡ seal_text s)
seal_found bytes v rest s is equal read = let same = (bytes_eq-Decides v version).0 equal in (read.0, is.0 ∙ ap (λ (t : List ℕ). line version_word t ++ rest) same ∙ ap (λ (t : List ℕ). line version_word version ++ t) read.1 ∙ sym (text_is s))

-- the first line has more bytes than lines are counted with it
pub second_fits : (bytes v rest : List ℕ) → length bytes < 2 ^ 64 → IsLine version_word bytes (Some (v, rest)) → 2 + length rest < 2 ^ 64
second_fits bytes v rest small is =
    let long = ap length (is.0 ∙ line_is version_word v rest) in
    let front : length ((version_word ++ v) ++ 10 ∷ rest) ≡ length (version_word ++ v) + suc (length rest) = length-append (version_word ++ v) (10 ∷ rest) in
    let word : length (version_word ++ v) ≡ 13 + length v = length-append version_word v in
    omega (arith, small, long, front, word)

-- One text is that of one

one_end : (c d : List ℕ) → is_digest c ≡ true → is_digest d ≡ true → closing c ≡ closing d → c ≡ d
unfolding closing
one_end c d g h e = one_digest c d g h (line_same (codes "tags ") (encode_lower c) (encode_lower d) (line (codes "end") []) (line (codes "end") []) refl (plain_digest c g) (plain_digest d h) e).0

-- one bound, and what stands behind it
bound_first : (word x y : List ℕ) (a b : ℕ) (p q : Bool) → is_plain word ≡ true → (is_bound a && p) ≡ true → (is_bound b && q) ≡ true → line word (decimal a) ++ x ≡ line word (decimal b) ++ y → (a ≡ b) × (x ≡ y)
bound_first word x y a b p q w g h e =
    let fit = and_left (is_bound a) p g in
    let fits = and_left (is_bound b) q h in
    let same = line_same word (decimal a) (decimal b) x y w (plain_bound a fit) (plain_bound b fits) e in
    (one_bound a b fit fits same.0, same.1)

one_ending : (b c : SealedBounds) (s t : List ℕ) → is_ending (b, s) ≡ true → is_ending (c, t) ≡ true → ending (b, s) ≡ ending (c, t) → (b ≡ c) × (s ≡ t)
one_ending b c s t g h e =
    let same = bounds_apart (b, s) ∙ e ∙ sym (bounds_apart (c, t)) in
    let g1 = sym (ending_good (is_bound b.start) (is_bound b.key) (is_bound b.tick) (is_bound b.stream) (is_bound b.engine) (is_bound b.arrive) (is_digest s)) ∙ g in
    let h1 = sym (ending_good (is_bound c.start) (is_bound c.key) (is_bound c.tick) (is_bound c.stream) (is_bound c.engine) (is_bound c.arrive) (is_digest t)) ∙ h in
    let start = bound_first (codes "bound start ") _ _ b.start c.start _ _ refl g1 h1 same in
    let g2 = and_right (is_bound b.start) _ g1 in
    let h2 = and_right (is_bound c.start) _ h1 in
    let key = bound_first (codes "bound key ") _ _ b.key c.key _ _ refl g2 h2 start.1 in
    let g3 = and_right (is_bound b.key) _ g2 in
    let h3 = and_right (is_bound c.key) _ h2 in
    let tick = bound_first (codes "bound tick ") _ _ b.tick c.tick _ _ refl g3 h3 key.1 in
    let g4 = and_right (is_bound b.tick) _ g3 in
    let h4 = and_right (is_bound c.tick) _ h3 in
    let stream = bound_first (codes "bound stream ") _ _ b.stream c.stream _ _ refl g4 h4 tick.1 in
    let g5 = and_right (is_bound b.stream) _ g4 in
    let h5 = and_right (is_bound c.stream) _ h4 in
    let engine = bound_first (codes "bound engine ") _ _ b.engine c.engine _ _ refl g5 h5 stream.1 in
    let g6 = and_right (is_bound b.engine) _ g5 in
    let h6 = and_right (is_bound c.engine) _ h5 in
    let arrive = bound_first (codes "bound arrive ") _ _ b.arrive c.arrive _ _ refl g6 h6 engine.1 in (
      λ i. record { start = start.0 i; key = key.0 i; tick = tick.0 i; stream = stream.0 i; engine = engine.0 i; arrive = arrive.0 i },
      one_end s t (and_right (is_bound b.arrive) (is_digest s) g6) (and_right (is_bound c.arrive) (is_digest t) h6) arrive.1,
    )

pub one_seal : SpellsOneSeal
one_seal s t g h e =
    let bodies = append_cancel_left (line version_word version) (body s) (body t) (sym (text_is s) ∙ e ∙ text_is t) in
    let g1 = and_right (is_path s.start) _ g in
    let h1 = and_right (is_path t.start) _ h in
    let g2 = and_right (list_all is_group s.groups) _ g1 in
    let h2 = and_right (list_all is_group t.groups) _ h1 in
    let start = line_same (codes "start ") s.start t.start _ _ refl (plain_name s.start (and_left (is_path s.start) _ g)) (plain_name t.start (and_left (is_path t.start) _ h)) (in_body s ∙ bodies ∙ sym (in_body t)) in
    let groups = lines_same (codes "group ") is_group group_value refl plain_group one_group s.groups t.groups _ _ (and_left (list_all is_group s.groups) _ g1) (and_left (list_all is_group t.groups) _ h1) (no_group (s.contents, (s.bounds, s.tags))) (no_group (t.contents, (t.bounds, t.tags))) start.1 in
    let contents = lines_same (codes "content ") is_path as_is refl plain_name (λ x y p q k. k) s.contents t.contents _ _ (and_left (list_all is_path s.contents) _ g2) (and_left (list_all is_path t.contents) _ h2) (no_content (s.bounds, s.tags)) (no_content (t.bounds, t.tags)) groups.1 in
    let rest = one_ending s.bounds t.bounds s.tags t.tags (and_right (list_all is_path s.contents) _ g2) (and_right (list_all is_path t.contents) _ h2) contents.1 in
    λ i. record { start = start.0 i; groups = groups.0 i; contents = contents.0 i; bounds = rest.0 i; tags = rest.1 i }
