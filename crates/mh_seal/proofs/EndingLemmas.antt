-- The end of a seal's text, from the bounds on: what was read of it, and where it breaks off.
use Rattle.std.specs.Prelude.{◌≡◌, ◌+◌, ◌++◌, ◌∷◌, ◌==◌, ◌&&◌, Bool, List, None, Some, [], codes, length, false, refl, true, ℕ}
use Rattle.std.specs.Fmt.{decimal}
use Rattle.std.specs.Cmp.Derive.{both_true}
use Rattle.std.proofs.Common.{ap, append-nil, arith, sym, ◌∙◌}
use Rattle.hex.specs.Hex.{encode_lower}
use Rattle.mh_seal.specs.declared.seal_error.SealError.{SealError}
use Rattle.mh_seal.specs.declared.seal_error.SealError.TheVariants as error
use Rattle.mh_seal.specs.Breaking.{BreaksOff, IsBreak}
use Rattle.mh_seal.specs.Lines.{HasLine, IsLine, IsMissing}
use Rattle.mh_seal.specs.Octets.{is_digest}
use Rattle.mh_seal.specs.Reading.{is_bound}
use Rattle.mh_seal.specs.Sections.{Ending, closing, ending, is_ending}
use Rattle.mh_seal.specs.Text.{bounds_text, line, no_value}
use Rattle.mh_seal.proofs.BreakLemmas.{behind_break, carried_break, here_break, one_good, one_text}
use Rattle.mh_seal.proofs.LineLemmas.{no_line_said, unsaid_line}
use Rattle.mh_seal.proofs.PartLemmas.{regrouped}
use Rattle.mh_seal.proofs.TruthLemmas.{and_left}
use Rattle.mh_seal.proofs.ValueLemmas.{nothing, plain_bound, plain_digest}

-- some digest
abbrev pub some_digest : List ℕ
some_digest = 0 ∷ 0 ∷ 0 ∷ 0 ∷ 0 ∷ 0 ∷ 0 ∷ 0 ∷ 0 ∷ 0 ∷ 0 ∷ 0 ∷ 0 ∷ 0 ∷ 0 ∷ 0 ∷ 0 ∷ 0 ∷ 0 ∷ 0 ∷ 0 ∷ 0 ∷ 0 ∷ 0 ∷ 0 ∷ 0 ∷ 0 ∷ 0 ∷ 0 ∷ 0 ∷ 0 ∷ 0 ∷ []

-- From the tags

abbrev is_end : Unit {0} × Unit {0} → Bool
is_end p = one_good (λ (u : Unit {0}). true) (λ (u : Unit {0}). true) p

abbrev end_text : Unit {0} × Unit {0} → List ℕ
end_text p = one_text (codes "end") no_value (λ (u : Unit {0}). []) p

closing_is : (d : List ℕ) → one_text (codes "tags ") encode_lower end_text (d, (tt, tt)) ≡ closing d
unfolding closing
closing_is d = ap (λ (t : List ℕ). line (codes "tags ") (encode_lower d) ++ t) (append-nil (line (codes "end") []))

as_closing : (first : ℕ) (bytes : List ℕ) (e : SealError) → IsBreak (one_good is_digest is_end) (one_text (codes "tags ") encode_lower end_text) first bytes e → IsBreak is_digest closing first bytes e
as_closing first bytes e h =
    carried_break (one_good is_digest is_end) (one_text (codes "tags ") encode_lower end_text) is_digest closing first bytes e
    (λ p g. (p.0, and_left (is_digest p.0) true g, sym (closing_is p.0)))
    (λ d g. ((d, (tt, tt)), both_true g refl, closing_is d))
    h

-- the last line
pub end_found : (bytes value rest : List ℕ) → IsLine (codes "end") bytes (Some (value, rest)) → (length value == 0) ≡ true → HasLine (λ (u : Unit {0}). true) no_value (codes "end") bytes tt rest
end_found bytes value rest is none = (refl, is.0 ∙ ap (λ (t : List ℕ). line (codes "end") t ++ rest) (nothing value none))

pub end_wrong : (number : ℕ) (bytes value rest : List ℕ) → IsLine (codes "end") bytes (Some (value, rest)) → (length value == 0) ≡ false → IsMissing (λ (u : Unit {0}). true) no_value (codes "end") number bytes (error.Line number)
end_wrong number bytes value rest is some = (refl, unsaid_line (codes "end") (λ (u : Unit {0}). true) no_value bytes value rest is (λ u g e. no (sym some ∙ ap (λ (t : List ℕ). length t == 0) e)))
  where
    no : false ≡ true → ⊥
    no h = absurd cc

pub no_end_line : (number : ℕ) (bytes : List ℕ) → IsLine (codes "end") bytes None → IsMissing (λ (u : Unit {0}). true) no_value (codes "end") number bytes (error.Line number)
no_end_line number bytes none = (refl, no_line_said (codes "end") (λ (u : Unit {0}). true) no_value bytes none)

no_more : (bytes : List ℕ) → (length bytes == 0) ≡ false → BreaksOff (λ (u : Unit {0}). true) (λ (u : Unit {0}). []) bytes 0
no_more bytes some = record {
  before = [];
  behind = bytes;
  parted = refl;
  are_lines = refl;
  count = refl;
  begun = (tt, [], refl, refl);
  wrong = λ l rest p e b. empty l b.1 b.3;
  none = λ u g e. filled (sym some ∙ ap (λ (t : List ℕ). length t == 0) e);
}
  where
    filled : false ≡ true → ⊥
    filled e = absurd cc

    empty : (l more : List ℕ) → [] ≡ (l ++ 10 ∷ []) ++ more → ⊥
    empty [] more e = absurd cc
    empty (c ∷ l) more e = absurd cc

pub no_tags : (first : ℕ) (bytes : List ℕ) (e : SealError) → IsMissing is_digest encode_lower (codes "tags ") first bytes e → IsBreak is_digest closing first bytes e
no_tags first bytes e h = as_closing first bytes e (here_break (codes "tags ") is_digest encode_lower refl plain_digest is_end end_text some_digest (tt, tt) first bytes e refl refl h)

-- behind the tags
behind_tags : (first second : ℕ) (bytes rest d : List ℕ) (e : SealError) → HasLine is_digest encode_lower (codes "tags ") bytes d rest → second ≡ first + 1 → IsBreak is_end end_text second rest e → IsBreak is_digest closing first bytes e
behind_tags first second bytes rest d e has next h = as_closing first bytes e (behind_break (codes "tags ") is_digest encode_lower refl plain_digest is_end end_text d first second bytes rest e has next h)

pub no_end : (first second : ℕ) (bytes rest d : List ℕ) (e : SealError) → HasLine is_digest encode_lower (codes "tags ") bytes d rest → second ≡ first + 1 → IsMissing (λ (u : Unit {0}). true) no_value (codes "end") second rest e → IsBreak is_digest closing first bytes e
no_end first second bytes rest d e has next h =
    behind_tags first second bytes rest d e has next
    (here_break (codes "end") (λ (u : Unit {0}). true) no_value refl (λ u g. refl) (λ (u : Unit {0}). true) (λ (u : Unit {0}). []) tt tt second rest e refl refl h)

pub more_behind : (first second third : ℕ) (bytes rest behind d : List ℕ) (u : Unit {0}) → HasLine is_digest encode_lower (codes "tags ") bytes d rest → second ≡ first + 1 → HasLine (λ (v : Unit {0}). true) no_value (codes "end") rest u behind → third ≡ second + 1 → (length behind == 0) ≡ false → IsBreak is_digest closing first bytes (error.Line third)
more_behind first second third bytes rest behind d u has next end further some =
    behind_tags first second bytes rest d (error.Line third) has next
    (behind_break (codes "end") (λ (v : Unit {0}). true) no_value refl (λ v g. refl) (λ (v : Unit {0}). true) (λ (v : Unit {0}). []) u second third rest behind (error.Line third) end further
    (0, omega arith, no_more behind some))

pub closing_read : (bytes rest behind d : List ℕ) (u : Unit {0}) → HasLine is_digest encode_lower (codes "tags ") bytes d rest → HasLine (λ (v : Unit {0}). true) no_value (codes "end") rest u behind → (length behind == 0) ≡ true → (is_digest d ≡ true) × (bytes ≡ closing d)
closing_read bytes rest behind d u has end none = (has.0, has.1 ∙ ap (λ (t : List ℕ). line (codes "tags ") (encode_lower d) ++ t) (end.1 ∙ ap (λ (t : List ℕ). line (codes "end") [] ++ t) (nothing behind none)) ∙ closing_is d)

-- From the bounds

and_moved : (a b c : Bool) → ((a && b) && c) ≡ (a && (b && c))
and_moved true b c = refl
and_moved false b c = refl

-- with k bounds to come

abbrev One : Type 0
One = ℕ × List ℕ

abbrev Two : Type 0
Two = ℕ × One

abbrev Three : Type 0
Three = ℕ × Two

abbrev Four : Type 0
Four = ℕ × Three

abbrev Five : Type 0
Five = ℕ × Four

abbrev is_one : One → Bool
is_one p = one_good is_bound is_digest p

abbrev is_two : Two → Bool
is_two p = one_good is_bound is_one p

abbrev is_three : Three → Bool
is_three p = one_good is_bound is_two p

abbrev is_four : Four → Bool
is_four p = one_good is_bound is_three p

abbrev is_five : Five → Bool
is_five p = one_good is_bound is_four p

abbrev one : One → List ℕ
one p = one_text (codes "bound arrive ") decimal closing p

abbrev two : Two → List ℕ
two p = one_text (codes "bound engine ") decimal one p

abbrev three : Three → List ℕ
three p = one_text (codes "bound stream ") decimal two p

abbrev four : Four → List ℕ
four p = one_text (codes "bound tick ") decimal three p

abbrev five : Five → List ℕ
five p = one_text (codes "bound key ") decimal four p

abbrev some_one : One
some_one = (0, some_digest)

abbrev some_five : Five
some_five = (0, (0, (0, (0, some_one))))

pub ending_good : (a b c d e f t : Bool) → ((a && (b && (c && (d && (e && f))))) && t) ≡ (a && (b && (c && (d && (e && (f && t))))))
ending_good a b c d e f t =
    and_moved a (b && (c && (d && (e && f)))) t ∙ ap (λ (x : Bool). a && x) (and_moved b (c && (d && (e && f))) t
    ∙ ap (λ (x : Bool). b && x) (and_moved c (d && (e && f)) t ∙ ap (λ (x : Bool). c && x) (and_moved d (e && f) t
    ∙ ap (λ (x : Bool). d && x) (and_moved e f t))))

pub bounds_apart : (e : Ending) → one_text (codes "bound start ") decimal five ((e.0).start, ((e.0).key, ((e.0).tick, ((e.0).stream, ((e.0).engine, ((e.0).arrive, e.1)))))) ≡ ending e
unfolding ending bounds_text
bounds_apart e =
    sym (regrouped (line (codes "bound start ") (decimal (e.0).start)) (line (codes "bound key ") (decimal (e.0).key)) (line (codes "bound tick ") (decimal (e.0).tick))
    (line (codes "bound stream ") (decimal (e.0).stream)) (line (codes "bound engine ") (decimal (e.0).engine)) (line (codes "bound arrive ") (decimal (e.0).arrive)) (closing e.1))

as_ending : (first : ℕ) (bytes : List ℕ) (e : SealError) → IsBreak (one_good is_bound is_five) (one_text (codes "bound start ") decimal five) first bytes e → IsBreak is_ending ending first bytes e
as_ending first bytes e h = carried_break (one_good is_bound is_five) (one_text (codes "bound start ") decimal five) is_ending ending first bytes e to back h
  where
    to : (p : ℕ × Five) → one_good is_bound is_five p ≡ true → (y : Ending) × (is_ending y ≡ true) × (ending y ≡ one_text (codes "bound start ") decimal five p)
    to (a, (b, (c, (d, (f, (g, t)))))) h = (
      (record { start = a; key = b; tick = c; stream = d; engine = f; arrive = g }, t),
      ending_good (is_bound a) (is_bound b) (is_bound c) (is_bound d) (is_bound f) (is_bound g) (is_digest t) ∙ h,
      sym (bounds_apart (record { start = a; key = b; tick = c; stream = d; engine = f; arrive = g }, t)),
    )

    back : (y : Ending) → is_ending y ≡ true → (p : ℕ × Five) × (one_good is_bound is_five p ≡ true) × (one_text (codes "bound start ") decimal five p ≡ ending y)
    back y h = (
      ((y.0).start, ((y.0).key, ((y.0).tick, ((y.0).stream, ((y.0).engine, ((y.0).arrive, y.1)))))),
      sym (ending_good (is_bound (y.0).start) (is_bound (y.0).key) (is_bound (y.0).tick) (is_bound (y.0).stream) (is_bound (y.0).engine) (is_bound (y.0).arrive) (is_digest y.1)) ∙ h,
      bounds_apart y,
    )

pub no_first_bound : (l0 : ℕ) (r0 : List ℕ) (e : SealError) → IsMissing is_bound decimal (codes "bound start ") l0 r0 e → IsBreak is_ending ending l0 r0 e
no_first_bound l0 r0 e h =
    as_ending l0 r0 e (here_break (codes "bound start ") is_bound decimal refl plain_bound is_five five 0 some_five l0 r0 e refl refl h)

pub no_second_bound : (l0 l1 b0 : ℕ) (r0 r1 : List ℕ) (e : SealError) → HasLine is_bound decimal (codes "bound start ") r0 b0 r1 → l1 ≡ l0 + 1 → IsMissing is_bound decimal (codes "bound key ") l1 r1 e → IsBreak is_ending ending l0 r0 e
no_second_bound l0 l1 b0 r0 r1 e h0 n0 h =
    as_ending l0 r0 e (behind_break (codes "bound start ") is_bound decimal refl plain_bound is_five five b0 l0 l1 r0 r1 e h0 n0
    (here_break (codes "bound key ") is_bound decimal refl plain_bound is_four four 0 (0, (0, (0, some_one))) l1 r1 e refl refl h))

pub no_third_bound : (l0 l1 l2 b0 b1 : ℕ) (r0 r1 r2 : List ℕ) (e : SealError) → HasLine is_bound decimal (codes "bound start ") r0 b0 r1 → l1 ≡ l0 + 1 → HasLine is_bound decimal (codes "bound key ") r1 b1 r2 → l2 ≡ l1 + 1 → IsMissing is_bound decimal (codes "bound tick ") l2 r2 e → IsBreak is_ending ending l0 r0 e
no_third_bound l0 l1 l2 b0 b1 r0 r1 r2 e h0 n0 h1 n1 h =
    as_ending l0 r0 e (behind_break (codes "bound start ") is_bound decimal refl plain_bound is_five five b0 l0 l1 r0 r1 e h0 n0
    (behind_break (codes "bound key ") is_bound decimal refl plain_bound is_four four b1 l1 l2 r1 r2 e h1 n1
    (here_break (codes "bound tick ") is_bound decimal refl plain_bound is_three three 0 (0, (0, some_one)) l2 r2 e refl refl h)))

pub no_fourth_bound : (l0 l1 l2 l3 b0 b1 b2 : ℕ) (r0 r1 r2 r3 : List ℕ) (e : SealError) → HasLine is_bound decimal (codes "bound start ") r0 b0 r1 → l1 ≡ l0 + 1 → HasLine is_bound decimal (codes "bound key ") r1 b1 r2 → l2 ≡ l1 + 1 → HasLine is_bound decimal (codes "bound tick ") r2 b2 r3 → l3 ≡ l2 + 1 → IsMissing is_bound decimal (codes "bound stream ") l3 r3 e → IsBreak is_ending ending l0 r0 e
no_fourth_bound l0 l1 l2 l3 b0 b1 b2 r0 r1 r2 r3 e h0 n0 h1 n1 h2 n2 h =
    as_ending l0 r0 e (behind_break (codes "bound start ") is_bound decimal refl plain_bound is_five five b0 l0 l1 r0 r1 e h0 n0
    (behind_break (codes "bound key ") is_bound decimal refl plain_bound is_four four b1 l1 l2 r1 r2 e h1 n1
    (behind_break (codes "bound tick ") is_bound decimal refl plain_bound is_three three b2 l2 l3 r2 r3 e h2 n2
    (here_break (codes "bound stream ") is_bound decimal refl plain_bound is_two two 0 (0, some_one) l3 r3 e refl refl h))))

pub no_fifth_bound : (l0 l1 l2 l3 l4 b0 b1 b2 b3 : ℕ) (r0 r1 r2 r3 r4 : List ℕ) (e : SealError) → HasLine is_bound decimal (codes "bound start ") r0 b0 r1 → l1 ≡ l0 + 1 → HasLine is_bound decimal (codes "bound key ") r1 b1 r2 → l2 ≡ l1 + 1 → HasLine is_bound decimal (codes "bound tick ") r2 b2 r3 → l3 ≡ l2 + 1 → HasLine is_bound decimal (codes "bound stream ") r3 b3 r4 → l4 ≡ l3 + 1 → IsMissing is_bound decimal (codes "bound engine ") l4 r4 e → IsBreak is_ending ending l0 r0 e
no_fifth_bound l0 l1 l2 l3 l4 b0 b1 b2 b3 r0 r1 r2 r3 r4 e h0 n0 h1 n1 h2 n2 h3 n3 h =
    as_ending l0 r0 e (behind_break (codes "bound start ") is_bound decimal refl plain_bound is_five five b0 l0 l1 r0 r1 e h0 n0
    (behind_break (codes "bound key ") is_bound decimal refl plain_bound is_four four b1 l1 l2 r1 r2 e h1 n1
    (behind_break (codes "bound tick ") is_bound decimal refl plain_bound is_three three b2 l2 l3 r2 r3 e h2 n2
    (behind_break (codes "bound stream ") is_bound decimal refl plain_bound is_two two b3 l3 l4 r3 r4 e h3 n3
    (here_break (codes "bound engine ") is_bound decimal refl plain_bound is_one one 0 some_one l4 r4 e refl refl h)))))

pub no_sixth_bound : (l0 l1 l2 l3 l4 l5 b0 b1 b2 b3 b4 : ℕ) (r0 r1 r2 r3 r4 r5 : List ℕ) (e : SealError) → HasLine is_bound decimal (codes "bound start ") r0 b0 r1 → l1 ≡ l0 + 1 → HasLine is_bound decimal (codes "bound key ") r1 b1 r2 → l2 ≡ l1 + 1 → HasLine is_bound decimal (codes "bound tick ") r2 b2 r3 → l3 ≡ l2 + 1 → HasLine is_bound decimal (codes "bound stream ") r3 b3 r4 → l4 ≡ l3 + 1 → HasLine is_bound decimal (codes "bound engine ") r4 b4 r5 → l5 ≡ l4 + 1 → IsMissing is_bound decimal (codes "bound arrive ") l5 r5 e → IsBreak is_ending ending l0 r0 e
no_sixth_bound l0 l1 l2 l3 l4 l5 b0 b1 b2 b3 b4 r0 r1 r2 r3 r4 r5 e h0 n0 h1 n1 h2 n2 h3 n3 h4 n4 h =
    as_ending l0 r0 e (behind_break (codes "bound start ") is_bound decimal refl plain_bound is_five five b0 l0 l1 r0 r1 e h0 n0
    (behind_break (codes "bound key ") is_bound decimal refl plain_bound is_four four b1 l1 l2 r1 r2 e h1 n1
    (behind_break (codes "bound tick ") is_bound decimal refl plain_bound is_three three b2 l2 l3 r2 r3 e h2 n2
    (behind_break (codes "bound stream ") is_bound decimal refl plain_bound is_two two b3 l3 l4 r3 r4 e h3 n3
    (behind_break (codes "bound engine ") is_bound decimal refl plain_bound is_one one b4 l4 l5 r4 r5 e h4 n4
    (here_break (codes "bound arrive ") is_bound decimal refl plain_bound is_digest closing 0 some_digest l5 r5 e refl refl h))))))

pub no_closing : (l0 l1 l2 l3 l4 l5 l6 b0 b1 b2 b3 b4 b5 : ℕ) (r0 r1 r2 r3 r4 r5 r6 : List ℕ) (e : SealError) → HasLine is_bound decimal (codes "bound start ") r0 b0 r1 → l1 ≡ l0 + 1 → HasLine is_bound decimal (codes "bound key ") r1 b1 r2 → l2 ≡ l1 + 1 → HasLine is_bound decimal (codes "bound tick ") r2 b2 r3 → l3 ≡ l2 + 1 → HasLine is_bound decimal (codes "bound stream ") r3 b3 r4 → l4 ≡ l3 + 1 → HasLine is_bound decimal (codes "bound engine ") r4 b4 r5 → l5 ≡ l4 + 1 → HasLine is_bound decimal (codes "bound arrive ") r5 b5 r6 → l6 ≡ l5 + 1 → IsBreak is_digest closing l6 r6 e → IsBreak is_ending ending l0 r0 e
no_closing l0 l1 l2 l3 l4 l5 l6 b0 b1 b2 b3 b4 b5 r0 r1 r2 r3 r4 r5 r6 e h0 n0 h1 n1 h2 n2 h3 n3 h4 n4 h5 n5 h =
    as_ending l0 r0 e (behind_break (codes "bound start ") is_bound decimal refl plain_bound is_five five b0 l0 l1 r0 r1 e h0 n0
    (behind_break (codes "bound key ") is_bound decimal refl plain_bound is_four four b1 l1 l2 r1 r2 e h1 n1
    (behind_break (codes "bound tick ") is_bound decimal refl plain_bound is_three three b2 l2 l3 r2 r3 e h2 n2
    (behind_break (codes "bound stream ") is_bound decimal refl plain_bound is_two two b3 l3 l4 r3 r4 e h3 n3
    (behind_break (codes "bound engine ") is_bound decimal refl plain_bound is_one one b4 l4 l5 r4 r5 e h4 n4
    (behind_break (codes "bound arrive ") is_bound decimal refl plain_bound is_digest closing b5 l5 l6 r5 r6 e h5 n5
    h))))))

pub ending_read : (b0 b1 b2 b3 b4 b5 : ℕ) (tags r0 r1 r2 r3 r4 r5 r6 : List ℕ) → HasLine is_bound decimal (codes "bound start ") r0 b0 r1 → HasLine is_bound decimal (codes "bound key ") r1 b1 r2 → HasLine is_bound decimal (codes "bound tick ") r2 b2 r3 → HasLine is_bound decimal (codes "bound stream ") r3 b3 r4 → HasLine is_bound decimal (codes "bound engine ") r4 b4 r5 → HasLine is_bound decimal (codes "bound arrive ") r5 b5 r6 → (is_digest tags ≡ true) × (r6 ≡ closing tags) → (is_ending (record { start = b0; key = b1; tick = b2; stream = b3; engine = b4; arrive = b5 }, tags) ≡ true) × (r0 ≡ ending (record { start = b0; key = b1; tick = b2; stream = b3; engine = b4; arrive = b5 }, tags))
ending_read b0 b1 b2 b3 b4 b5 tags r0 r1 r2 r3 r4 r5 r6 h0 h1 h2 h3 h4 h5 h = (
  ending_good (is_bound b0) (is_bound b1) (is_bound b2) (is_bound b3) (is_bound b4) (is_bound b5) (is_digest tags) ∙ both_true h0.0 (both_true h1.0 (both_true h2.0 (both_true h3.0 (both_true h4.0 (both_true h5.0 h.0))))),
  h0.1 ∙ ap (λ (t : List ℕ). line (codes "bound start ") (decimal b0) ++ t) (h1.1 ∙ ap (λ (t : List ℕ). line (codes "bound key ") (decimal b1) ++ t) (h2.1 ∙ ap (λ (t : List ℕ). line (codes "bound tick ") (decimal b2) ++ t) (h3.1 ∙ ap (λ (t : List ℕ). line (codes "bound stream ") (decimal b3) ++ t) (h4.1 ∙ ap (λ (t : List ℕ). line (codes "bound engine ") (decimal b4) ++ t) (h5.1 ∙ ap (λ (t : List ℕ). line (codes "bound arrive ") (decimal b5) ++ t) (h.1)))))) ∙ bounds_apart (record { start = b0; key = b1; tick = b2; stream = b3; engine = b4; arrive = b5 }, tags),
)
