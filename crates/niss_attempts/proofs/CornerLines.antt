-- What bytes after others do to the corners; and lines that don't solve since opposite corners don't come to opposite places.
use Rattle.std.proofs.Common.{◌≡◌, ◌∙◌, ℕ, zero, suc, ◌+◌, ◌-◌, ◌<◌, ◌≤◌, ◌==◌, ◌↔◌, Bool, true, false, not, ◌&&◌, ◌||◌, List, [], ◌∷◌, ◌++◌, length, map, get_or, refl, sym, ap, subst, arith, append-nil, Result, Ok, Err, inl, inr, ◌⊎◌, cond, add-zero, length-append}
use Rattle.std.specs.Prelude.{flat_map, slice_index, slice_range, IsTrue}
use Rattle.std.proofs.Math.Seq.{get_or-append_seam}
use Rattle.std.proofs.lemmas.Bool.{and_left, and_right, cases_lt, false_from_ne_true, ne_eqb, or_parts, or_right}
use Rattle.std.proofs.lemmas.Bool.Decides.{eqb_tells}
use Rattle.std.proofs.lemmas.List.{map-append, get_or_append_left}
use Rattle.std.proofs.lemmas.List.Folds.{list_any-append}
use Rattle.std.proofs.lemmas.Grind.{flat_map-append}
use Rattle.niss_moves.specs.Effects.{inverse}
use Rattle.niss_moves.specs.Line.{Moves, joined_moves, Piece, piece_bytes, piece_moves, Item, item_bytes, item_normal, item_bracketed, Spells}
use Rattle.niss_moves.specs.Line.Item.{Outside, Bracket}
use Rattle.niss_moves.specs.Reader.{read_line}
use Rattle.niss_moves.specs.Solving.{IsRotated, is_rotated, solves}
use Rattle.niss_moves.specs.declared.token.Token.{Token}
use Rattle.niss_moves.specs.declared.fault.ReadFault.{ReadFault}
use Rattle.niss_moves.proofs.CallerLemmas.{inverse-append}
use Rattle.niss_text.proofs.CallerLemmas.{parts_joined}
use Rattle.niss_attempts.specs.declared.steps.reading.Reading.{Reading}
use Rattle.niss_attempts.specs.declared.steps.reading.Reading.TheVariants.{AsWritten, WithoutBrackets, InCapitals}
use Rattle.niss_attempts.specs.declared.steps.corners.StepCorners.{StepCorners}
use Rattle.niss_attempts.proofs.BracketLemmas.{pieces_read_so, shut_first, shut_last, spelled_in, spelled_out}
use Rattle.niss_attempts.specs.DeadSteps.{StandsNowhere, StaysDead}
use Rattle.niss_attempts.proofs.DeadLemmas.{dead_before}
use Rattle.niss_attempts.specs.Corners.{Brings, Reads, ReadsSo, Ascends, has_bracket}
use Rattle.niss_lines.specs.LineFacts.{is_small_letter}
use Rattle.niss_attempts.specs.Parts.{read_byte, solves_line}

-- bytes and then others
pub spells_both : (bytes more : List ℕ) (n b m c : List Token) → Spells bytes n b → Spells more m c → Spells (bytes ++ more) (n ++ m) (b ++ c)
spells_both bytes more n b m c one two = record {
  items = one.items ++ two.items;
  bytes_are = (λ i. one.bytes_are i ++ two.bytes_are i) ∙ sym (flat_map-append item_bytes one.items two.items);
  normal_are = (λ i. one.normal_are i ++ two.normal_are i) ∙ sym (flat_map-append item_normal one.items two.items);
  bracketed_are = (λ i. one.bracketed_are i ++ two.bracketed_are i) ∙ sym (flat_map-append item_bracketed one.items two.items);
}

-- Moves that spell bytes without a bracket stand outside brackets.
plain_items : (items : List Item) → has_bracket (flat_map item_bytes items) ≡ false →
    (ps : List Piece) × (flat_map item_bytes items ≡ flat_map piece_bytes ps) × (flat_map item_normal items ≡ flat_map piece_moves ps) × (flat_map item_bracketed items ≡ [])
plain_items [] e = ([], refl, refl, refl)
plain_items (Outside p ∷ items) e =
    let both = sym (list_any-append (λ byte. byte == 40) (piece_bytes p) (flat_map item_bytes items)) ∙ e in
    let rest = plain_items items (or_parts (has_bracket (piece_bytes p)) _ both).1 in
    (p ∷ rest.0, (λ i. piece_bytes p ++ rest.1 i), (λ i. piece_moves p ++ rest.2 i), rest.3)
plain_items (Bracket ps ∷ items) e = absurd (cc e)

-- In brackets they are the bracketed ones.
pub spells_in_brackets : (bytes : List ℕ) (n b : List Token) → Spells bytes n b → has_bracket bytes ≡ false → Spells (40 ∷ bytes ++ 41 ∷ []) [] n
spells_in_brackets bytes n b it plain =
    let w = plain_items it.items (ap has_bracket (sym it.bytes_are) ∙ plain) in
    let bytes_are : bytes ≡ flat_map piece_bytes w.0 = it.bytes_are ∙ w.1 in
    let moves_are : n ≡ flat_map piece_moves w.0 = it.normal_are ∙ w.2 in
    record {
      items = Bracket w.0 ∷ [];
      bytes_are = ap (λ v. 40 ∷ v ++ 41 ∷ []) bytes_are ∙ sym (append-nil (40 ∷ flat_map piece_bytes w.0 ++ 41 ∷ []));
      normal_are = refl;
      bracketed_are = moves_are ∙ sym (append-nil (flat_map piece_moves w.0));
    }

abbrev pub IsRead : Type 0
IsRead =
    (bytes : List ℕ) (m : Moves) → (read_line bytes ≡ Ok m) ↔ (Spells bytes m.normal m.bracketed × (length m.normal + length m.bracketed ≤ 256))

abbrev pub HasOneReading : Type 0
HasOneReading = (bytes : List ℕ) (n b m c : List Token) → Spells bytes n b → Spells bytes m c → (n ≡ m) × (b ≡ c)

abbrev pub IsTested : Type 0
IsTested = (s : List Token) → IsTrue (is_rotated s) ↔ IsRotated s

-- A line doesn't solve if its moves after the scramble do more than a rotation.
pub line_refused : IsRead → HasOneReading → IsTested → (scramble : Moves) (line : List ℕ) (n b : List Token) → Spells line n b →
    (IsRotated (joined_moves scramble ++ (n ++ inverse b)) → ⊥) → solves_line (Ok scramble) (read_line line) ≡ false
line_refused is_read one tested scramble line n b spells unless = by_result (read_line line) refl
  where
    by_result : (r : Result Moves ReadFault) → read_line line ≡ r → solves_line (Ok scramble) r ≡ false
    by_result (Err f) e = refl
    by_result (Ok m) e =
        let same = one line n b m.normal m.bracketed spells ((is_read line m).0 e).0 in
        let moves_are : joined_moves scramble ++ (n ++ inverse b) ≡ joined_moves scramble ++ joined_moves m =
        λ i. joined_moves scramble ++ (same.0 i ++ inverse (same.1 i)) in
        and_left (solves scramble m) _
        (false_from_ne_true (solves scramble m) (λ h. unless (subst IsRotated (sym moves_are) ((tested (joined_moves scramble ++ joined_moves m)).0 h))))

-- No bytes do nothing, and bytes do what the first of them and the others do.
pub reads_nothing : (c : StepCorners) → Brings c.normal.to [] → Brings c.undone.to [] → Brings c.inverse.to [] → c.plain ≡ true → c.is_dead ≡ false → Reads [] c
reads_nothing c brings undoes inverts plain lives = inl (record {
  normal = [];
  bracketed = [];
  spells = record { items = []; bytes_are = refl; normal_are = refl; bracketed_are = refl };
  brings = brings;
  undoes = undoes;
  inverts = inverts;
  is_plain = plain;
  lives = lives;
})

abbrev pub BringsBoth : (first second both : List ℕ) → Type 0
BringsBoth first second both = (s t : List Token) → Brings first s → Brings second t → Brings both (s ++ t)

neither : (a b : Bool) → (not a && not b) ≡ not (a || b)
neither true b = refl
neither false b = refl

reads_so_both : (a b c : StepCorners) (bytes more : List ℕ) → BringsBoth a.normal.to b.normal.to c.normal.to → BringsBoth b.undone.to a.undone.to c.undone.to →
    BringsBoth b.inverse.to a.inverse.to c.inverse.to → c.plain ≡ (a.plain && b.plain) → c.is_dead ≡ (a.is_dead || b.is_dead) → ReadsSo bytes a → ReadsSo more b →
    ReadsSo (bytes ++ more) c
reads_so_both a b c bytes more brings undoes inverts plain dead one two = record {
  normal = one.normal ++ two.normal;
  bracketed = one.bracketed ++ two.bracketed;
  spells = spells_both bytes more one.normal one.bracketed two.normal two.bracketed one.spells two.spells;
  brings = brings one.normal two.normal one.brings two.brings;
  undoes = subst (Brings c.undone.to) (sym (inverse-append one.normal two.normal)) (undoes (inverse two.normal) (inverse one.normal) two.undoes one.undoes);
  inverts = subst (Brings c.inverse.to) (sym (inverse-append one.bracketed two.bracketed))
      (inverts (inverse two.bracketed) (inverse one.bracketed) two.inverts one.inverts);
  is_plain =
      plain ∙ (λ i. one.is_plain i && two.is_plain i) ∙ neither (has_bracket bytes) (has_bracket more)
      ∙ ap not (sym (list_any-append (λ byte. byte == 40) bytes more));
  lives = dead ∙ (λ i. one.lives i || two.lives i);
}

-- Bytes before or after some that stand in no line stand in none.
none_first : (bytes more : List ℕ) (b : StepCorners) → StandsNowhere bytes → Reads more b → StaysDead bytes more → StandsNowhere (bytes ++ more)
none_first bytes more b (inl dead) two stays = inl (dead_before bytes more dead)
none_first bytes more b (inr shut) (inl two) stays = inr (shut_first bytes more (inl (spelled_out more two.normal two.bracketed two.spells)) shut)
none_first bytes more b (inr shut) (inr two) stays = by_kind two.faulty
  where
    by_kind : StandsNowhere more → StandsNowhere (bytes ++ more)
    by_kind (inl dead) = inl (stays dead)
    by_kind (inr other) = inr (shut_first bytes more (inr other.0) shut)

none_last : (bytes more : List ℕ) (a : StepCorners) → ReadsSo bytes a → StandsNowhere more → StaysDead bytes more → StandsNowhere (bytes ++ more)
none_last bytes more a one (inl dead) stays = inl (stays dead)
none_last bytes more a one (inr shut) stays =
    inr (shut_last bytes more (spelled_out bytes one.normal one.bracketed one.spells) (spelled_in bytes one.normal one.bracketed one.spells) shut)

pub reads_both : (a b c : StepCorners) (bytes more : List ℕ) → BringsBoth a.normal.to b.normal.to c.normal.to → BringsBoth b.undone.to a.undone.to c.undone.to →
    BringsBoth b.inverse.to a.inverse.to c.inverse.to → c.plain ≡ (a.plain && b.plain) → c.is_dead ≡ (a.is_dead || b.is_dead) → Reads bytes a → Reads more b →
    StaysDead bytes more → Reads (bytes ++ more) c
reads_both a b c bytes more brings undoes inverts plain dead (inl one) (inl two) stays = inl (reads_so_both a b c bytes more brings undoes inverts plain dead one two)
reads_both a b c bytes more brings undoes inverts plain dead (inr one) two stays = inr (record {
  faulty = none_first bytes more b one.faulty two stays;
  not_plain = plain ∙ ap (λ p. p && b.plain) one.not_plain;
  is_dead = dead ∙ ap (λ p. p || b.is_dead) one.is_dead;
})
reads_both a b c bytes more brings undoes inverts plain dead (inl one) (inr two) stays = inr (record {
  faulty = none_last bytes more a one two.faulty stays;
  not_plain = plain ∙ and_right a.plain b.plain two.not_plain;
  is_dead = dead ∙ or_right a.is_dead b.is_dead two.is_dead;
})

-- what is plain has no bracket
pub has_none : (p b : Bool) → p ≡ not b → p ≡ true → b ≡ false
has_none p true e f = absurd (cc (sym e ∙ f))
has_none p false e f = refl

-- Bytes are read as bytes that have a bracket if they have one.
pub same_bracket : (bytes : List ℕ) → has_bracket (map (read_byte AsWritten) bytes) ≡ has_bracket bytes
same_bracket [] = refl
same_bracket (byte ∷ bytes) = λ i. by_test byte i || same_bracket bytes i
  where
    by_test : (byte : ℕ) → (read_byte AsWritten byte == 40) ≡ (byte == 40)
    by_test byte = elim (eqb_tells byte 10) [ inl w ↦ rw w.1 refl | inr w ↦ ap (λ b. (cond b 32 byte) == 40) w.0 ]

-- The small letters of turns, and their capitals, are no brackets.
small_is_high : (byte : ℕ) → is_small_letter byte ≡ true → 98 ≤ byte
small_is_high byte small = elim (eqb_tells byte 117) [
  | inl u ↦ omega (arith, u.1)
  | inr u ↦ elim (eqb_tells byte 100) [
    | inl d ↦ omega (arith, d.1)
    | inr d ↦ elim (eqb_tells byte 114) [
      | inl r ↦ omega (arith, r.1)
      | inr r ↦ elim (eqb_tells byte 108) [
        | inl l ↦ omega (arith, l.1)
        | inr l ↦ elim (eqb_tells byte 102) [
          | inl f ↦ omega (arith, f.1)
          | inr f ↦ elim (eqb_tells byte 98) [
            | inl b ↦ omega (arith, b.1)
            | inr b ↦ absurd (cc (sym small ∙ (λ i. u.0 i || (d.0 i || (r.0 i || (l.0 i || (f.0 i || b.0 i)))))))
          ]
        ]
      ]
    ]
  ]
]

capital_bracket : (byte : ℕ) → (read_byte InCapitals byte == 40) ≡ (byte == 40)
capital_bracket byte = elim (eqb_tells byte 10) [ inl w ↦ rw w.1 refl | inr w ↦ ap (λ b. cond b 32 capital == 40) w.0 ∙ by_small (is_small_letter byte) refl ]
  where
    capital : ℕ
    capital = cond (is_small_letter byte) (byte - 32) byte

    by_small : (small : Bool) → is_small_letter byte ≡ small → (cond small (byte - 32) byte == 40) ≡ (byte == 40)
    by_small false e = refl
    by_small true e =
        let high : 98 ≤ byte = small_is_high byte e in
        ne_eqb (byte - 32) 40 (λ same. omega (arith, high, same)) ∙ sym (ne_eqb byte 40 (λ same. omega (arith, high, same)))

pub same_bracket_in_capitals : (bytes : List ℕ) → has_bracket (map (read_byte InCapitals) bytes) ≡ has_bracket bytes
same_bracket_in_capitals [] = refl
same_bracket_in_capitals (byte ∷ bytes) = λ i. capital_bracket byte i || same_bracket_in_capitals bytes i

-- Without brackets they have none.
pub dropped_bracket : (bytes : List ℕ) → has_bracket (map (read_byte WithoutBrackets) bytes) ≡ false
dropped_bracket [] = refl
dropped_bracket (byte ∷ bytes) = λ i. by_test byte i || dropped_bracket bytes i
  where
    by_tests : (byte : ℕ) (a b c : Bool) → (byte == 40) ≡ b → (cond (a || (b || c)) 32 byte == 40) ≡ false
    by_tests byte true b c e = refl
    by_tests byte false true c e = refl
    by_tests byte false false true e = refl
    by_tests byte false false false e = e

    by_test : (byte : ℕ) → (read_byte WithoutBrackets byte == 40) ≡ false
    by_test byte = by_tests byte (byte == 10) (byte == 40) (byte == 41) refl

-- a step that was read to its end
pub step_reads : (reading : Reading) (bytes : List ℕ) (c : StepCorners) (m : Moves) → IsRead → read_line (map (read_byte reading) bytes) ≡ Ok m →
    Brings c.normal.to m.normal → Brings c.undone.to (inverse m.normal) → Brings c.inverse.to (inverse m.bracketed) →
    c.plain ≡ not (has_bracket (map (read_byte reading) bytes)) → c.is_dead ≡ false → Reads (map (read_byte reading) bytes) c
step_reads reading bytes c m is_read is brings undoes inverts plain lives = inl (record {
  normal = m.normal;
  bracketed = m.bracketed;
  spells = ((is_read (map (read_byte reading) bytes) m).0 is).0;
  brings = brings;
  undoes = undoes;
  inverts = inverts;
  is_plain = plain;
  lives = lives;
})

-- Steps from one to a second and from there to a third are those from the one to the third.
pub joined_steps : (text : List ℕ) (a b c : ℕ) → a ≤ b → b ≤ c →
    map (read_byte AsWritten) (slice_range text a b) ++ map (read_byte AsWritten) (slice_range text b c) ≡ map (read_byte AsWritten) (slice_range text a c)
joined_steps text a b c ab bc =
    sym (map-append (read_byte AsWritten) (slice_range text a b) (slice_range text b c)) ∙ ap (map (read_byte AsWritten)) (parts_joined text a b c ab bc)

-- places that ascend, by how far the first of them is from another
pub ascends_to : (bounds : List ℕ) (a n : ℕ) → Ascends bounds → a + n < length bounds → slice_index bounds a ≤ slice_index bounds (a + n)
ascends_to bounds a zero up l = rw (add-zero a) (omega arith)
ascends_to bounds a (suc n) up l =
    let before : slice_index bounds a ≤ slice_index bounds (a + n) = ascends_to bounds a n up (omega (arith, l)) in
    let last : slice_index bounds (a + n) ≤ slice_index bounds (a + n + 1) = up (a + n) (omega (arith, l)) in
    let same : a + n + 1 ≡ a + suc n = omega arith in
    rw (sym same) (omega (arith, before, last))

pub ascends_between : (bounds : List ℕ) (a b : ℕ) → Ascends bounds → a ≤ b → b < length bounds → slice_index bounds a ≤ slice_index bounds b
ascends_between bounds a b up ab l =
    let is : a + (b - a) ≡ b = omega (arith, ab) in
    subst (λ (n : ℕ). slice_index bounds a ≤ slice_index bounds n) is (ascends_to bounds a (b - a) up (omega (arith, is, l)))

-- what is known of each of a list, with one more at its end
pub each_more : (P : ℕ → StepCorners → Type 0) (steps more : List StepCorners) (one : StepCorners) → more ≡ steps ++ one ∷ [] →
    ((k : ℕ) (none : StepCorners) → k < length steps → P k (get_or steps k none)) → P (length steps) one →
    (k : ℕ) (none : StepCorners) → k < length more → P k (get_or more k none)
each_more P steps more one is each last k none l = by_order (cases_lt k (length steps))
  where
    long : length more ≡ length steps + 1
    long = ap length is ∙ length-append steps (one ∷ [])

    by_order : (k < length steps) ⊎ (length steps ≤ k) → P k (get_or more k none)
    by_order (inl before) = subst (P k) (sym (ap (λ xs. get_or xs k none) is ∙ get_or_append_left steps (one ∷ []) none k before)) (each k none before)
    by_order (inr not_before) =
        let same : length steps ≡ k = omega (arith, l, long, not_before) in
        let is_last : get_or more k none ≡ one =
        ap (λ n. get_or more n none) (sym same) ∙ ap (λ xs. get_or xs (length steps) none) is ∙ get_or-append_seam steps one [] none in
        subst (P k) (sym is_last) (subst (λ (n : ℕ). P n one) same last)

-- what is read of a step without brackets is so without its brackets
pub bare_reads : (bytes : List ℕ) (c : StepCorners) → c.plain ≡ true → Reads (map (read_byte AsWritten) bytes) c → Reads (map (read_byte WithoutBrackets) bytes) c
bare_reads bytes c plain (inr none) = absurd (cc (sym plain ∙ none.not_plain))
bare_reads bytes c plain (inl reads) =
    let none : has_bracket (map (read_byte AsWritten) bytes) ≡ false = has_none c.plain (has_bracket (map (read_byte AsWritten) bytes)) reads.is_plain plain in
    let it = reads.spells in
    let w = plain_items it.items (ap has_bracket (sym it.bytes_are) ∙ none) in
    inl (subst (λ (read : List ℕ). ReadsSo read c) (pieces_read_so bytes w.0 (it.bytes_are ∙ w.1)) reads)
