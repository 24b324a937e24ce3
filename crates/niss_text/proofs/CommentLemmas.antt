-- Plain moves in front of a comment are the moves of their line.
use Rattle.std.proofs.Common.{◌≡◌, ℕ, zero, suc, ◌+◌, ◌-◌, ◌<◌, ◌≤◌, ◌⊎◌, inl, inr, Bool, true, false, ◌==◌, if◌then◌else◌, List, [], ◌∷◌, ◌++◌, length, take, drop, get_or, slice_range, refl, sym, subst, ap, ◌∙◌, rules, append_assoc, length-append, arith}
use Rattle.std.proofs.lemmas.Bool.{cases_lt, false≢true}
use Rattle.std.proofs.lemmas.Bool.Decides.{nat_tests}
use Rattle.std.proofs.lemmas.List.{get_or-take, length-take-le}
use Rattle.std.proofs.Math.Seq.{get_or-append_right}
use Rattle.niss_text.specs.Signs.{HasNoMoves}
use Rattle.niss_text.specs.Doubts.{is_capital}
use Rattle.niss_text.specs.Kept.{BeginNoMoves, AreInNotation, ArePlain, ArePlainBefore}
use Rattle.niss_text.specs.Pieces.{EndsWithColon}
use Rattle.niss_text.proofs.KeptLemmas.{moves_begin, part_from_start}
use Rattle.niss_text.proofs.WordLemmas.{beyond}
unfoldable use Rattle.niss_text.specs.Signs.{is_of_moves, is_colon}
unfoldable use Rattle.niss_text.specs.Kept.{spells, begins_moves, follows_move}

-- a slash or a byte of a colon
abbrev pub IsForeign : ℕ → Type 0
IsForeign b = (b ≡ 47) ⊎ ((b ≡ 58) ⊎ (b ≡ 239))

foreign_capital : (b : ℕ) → IsForeign b → is_capital b ≡ true → ⊥
foreign_capital b (inl is) capital = grind (arith, nat_tests)
foreign_capital b (inr (inl is)) capital = grind (arith, nat_tests)
foreign_capital b (inr (inr is)) capital = grind (arith, nat_tests)

-- what no test makes true
pub never_so : (p q r s t : Bool) → (if p then false else if q then false else if r then false else if s then false else if t then false else false) ≡ true → ⊥
never_so true q r s t is = false≢true is
never_so false true r s t is = false≢true is
never_so false false true s t is = false≢true is
never_so false false false true t is = false≢true is
never_so false false false false true is = false≢true is
never_so false false false false false is = false≢true is

slash_strange : (a : ℕ) → follows_move a 47 ≡ true → ⊥
unfolding follows_move
slash_strange a far = never_so (a == 226) (a == 128) (a == 32) (a == 40) (a == 41) far

colon_strange : (a : ℕ) → follows_move a 58 ≡ true → ⊥
unfolding follows_move
colon_strange a far = never_so (a == 226) (a == 128) (a == 32) (a == 40) (a == 41) far

wide_strange : (a : ℕ) → follows_move a 239 ≡ true → ⊥
unfolding follows_move
wide_strange a far = never_so (a == 226) (a == 128) (a == 32) (a == 40) (a == 41) far

foreign_follows : (a b : ℕ) → IsForeign b → follows_move a b ≡ true → ⊥
foreign_follows a b (inl is) far = slash_strange a (subst (λ n. follows_move a n ≡ true) is far)
foreign_follows a b (inr (inl is)) far = colon_strange a (subst (λ n. follows_move a n ≡ true) is far)
foreign_follows a b (inr (inr is)) far = wide_strange a (subst (λ n. follows_move a n ≡ true) is far)

-- plain moves have no such byte
pub plain_foreign : (bytes : List ℕ) (k : ℕ) → ArePlain bytes → k < length bytes → IsForeign (get_or bytes k 0) → ⊥
plain_foreign bytes zero plain lt is = foreign_capital (get_or bytes 0 0) is plain.first
plain_foreign bytes (suc k) plain lt is =
    let one : k + 1 ≡ suc k = omega arith in
    foreign_follows (get_or bytes k 0) (get_or bytes (suc k) 0) is
    (subst (λ n. follows_move (get_or bytes k 0) (get_or bytes n 0) ≡ true) one (plain.moves.each k (omega (arith, lt))))

-- a byte that isn't 0 stands within a text
pub stands_within : (text : List ℕ) (k b : ℕ) → get_or text k 0 ≡ b → 0 < b → k < length text
stands_within text k b is some = by_place (cases_lt k (length text))
  where
    by_place : (k < length text) ⊎ (length text ≤ k) → k < length text
    by_place (inl lt) = lt
    by_place (inr le) = absurd (omega (arith, beyond text k le, is, some))

-- no slash stands in a text, with one more byte
pub unslashed_next : (text : List ℕ) (at : ℕ) → ((k : ℕ) → k < at → get_or text k 0 ≡ 47 → ⊥) → (get_or text at 0 ≡ 47 → ⊥) →
    (k : ℕ) → k < at + 1 → get_or text k 0 ≡ 47 → ⊥
unslashed_next text at far here k lt is = by_place (cases_lt k at)
  where
    by_place : (k < at) ⊎ (at ≤ k) → ⊥
    by_place (inl before) = far k before is
    by_place (inr after) = let same : k ≡ at = omega (arith, lt, after) in here (ap (λ n. get_or text n 0) (sym same) ∙ is)

pub unslashed : (text : List ℕ) (at : ℕ) → length text ≤ at → ((k : ℕ) → k < at → get_or text k 0 ≡ 47 → ⊥) → (k : ℕ) → get_or text k 0 ≡ 47 → ⊥
unslashed text at all far k is = far k (omega (arith, all, stands_within text k 47 is (omega arith))) is

-- a capital letter is none of what stands in front of moves
pub begin_zero : (line : List ℕ) (n : ℕ) → is_capital (get_or line 0 0) ≡ true → BeginNoMoves (take n line) → n ≡ 0
unfolding begins_moves spells
begin_zero line zero capital none = refl
begin_zero [] (suc n) capital none = absurd (false≢true capital)
begin_zero (b ∷ bytes) (suc n) capital none = absurd (never b capital (search (rules, none)))
  where
    never : (a : ℕ) → is_capital a ≡ true → begins_moves a ≡ false → ⊥
    never a is not = grind (arith, nat_tests)

pub moves_zero : (line : List ℕ) (n : ℕ) → is_capital (get_or line 0 0) ≡ true → HasNoMoves (take n line) → n ≡ 0
moves_zero line n capital none = begin_zero line n capital (moves_begin (take n line) none)

pub moves_some : (bytes : List ℕ) → is_of_moves (get_or bytes 0 0) ≡ true → HasNoMoves bytes → ⊥
unfolding is_of_moves
moves_some [] is none = false≢true is
moves_some (b ∷ bytes) is none = never b is (search (rules, none))
  where
    never : (a : ℕ) → is_of_moves a ≡ true → is_of_moves a ≡ false → ⊥
    never a one none = false≢true (sym none ∙ one)

-- the first byte of a line that begins with plain moves
pub first_capital : (line : List ℕ) (count : ℕ) → ArePlain (take count line) → is_capital (get_or line 0 0) ≡ true
first_capital line zero plain = absurd (false≢true plain.first)
first_capital line (suc n) plain = ap is_capital (sym (get_or-take (suc n) line 0 0 (omega arith))) ∙ plain.first

-- the first byte of a colon
colon_byte : (colon : List ℕ) → is_colon colon ≡ true → (0 < length colon) × IsForeign (get_or colon 0 0)
unfolding is_colon
colon_byte [] is = absurd (false≢true is)
colon_byte (a ∷ []) is = (omega arith, grind (arith, nat_tests))
colon_byte (a ∷ b ∷ []) is = absurd (false≢true is)
colon_byte (a ∷ b ∷ c ∷ []) is = (omega arith, grind (arith, nat_tests))
colon_byte (a ∷ b ∷ c ∷ d ∷ bytes) is = absurd (false≢true is)

-- plain moves have no label with a colon in front
pub plain_colon : (line : List ℕ) (n : ℕ) → n ≤ length line → ArePlain line → EndsWithColon (take n line) → ⊥
plain_colon line n fits plain label = plain_foreign line at plain (omega (arith, within, long, fits, first.0))
    (subst (λ b. IsForeign b) there first.1)
  where
    front : List ℕ
    front = label.words ++ label.title

    at : ℕ
    at = length front

    first : (0 < length label.colon) × IsForeign (get_or label.colon 0 0)
    first = colon_byte label.colon label.is

    whole : front ++ label.colon ≡ take n line
    whole = append_assoc label.words label.title label.colon ∙ label.whole

    long : length (take n line) ≡ n
    long = length-take-le n line fits

    within : at + length label.colon ≡ length (take n line)
    within = sym (length-append front label.colon) ∙ ap length whole

    there : get_or label.colon 0 0 ≡ get_or line at 0
    there =
        let none : 0 ≡ at - length front = omega arith in
        ap (λ k. get_or label.colon k 0) none ∙ sym (get_or-append_right front label.colon at 0 (omega arith))
        ∙ ap (λ v. get_or v at 0) whole ∙ get_or-take n line at 0 (omega (arith, within, long, first.0))

-- where the comment of a line begins that has plain moves in front of it
comment_there : (line : List ℕ) (at count : ℕ) → ArePlainBefore line count →
    ((k : ℕ) → get_or line k 0 ≡ 47 → get_or line (k + 1) 0 ≡ 47 → at ≤ k) → (at < length line → get_or line at 0 ≡ 47) → at ≡ count
comment_there line at count is first slash = by_place (cases_lt at count)
  where
    within : count < length line
    within = stands_within line count 47 is.slashes.0 (omega arith)

    by_place : (at < count) ⊎ (count ≤ at) → at ≡ count
    by_place (inl before) = absurd (plain_foreign (take count line) at is.moves
        (omega (arith, before, length-take-le count line (omega (arith, within))))
        (inl (get_or-take count line at 0 before ∙ slash (omega (arith, before, within)))))
    by_place (inr after) = omega (arith, after, first count is.slashes.0 is.slashes.1)

front_part : (line : List ℕ) (a b count : ℕ) → a ≡ 0 → b ≡ count → slice_range line a b ≡ take count line
front_part line a b count first last =
    ap (λ n. slice_range line n b) first ∙ ap (λ n. slice_range line 0 n) last ∙ sym (part_from_start line count)

-- The parts of a line without a head that has plain moves in front of a comment.
pub parts_plain : (line rest : List ℕ) (head at numbering title blanks count begin end : ℕ) (is_moves : Bool) → head ≡ 0 → ArePlainBefore line count →
    rest ≡ drop head line → ((k : ℕ) → get_or rest k 0 ≡ 47 → get_or rest (k + 1) 0 ≡ 47 → at ≤ k) → (at < length rest → get_or rest at 0 ≡ 47) →
    BeginNoMoves (take numbering (slice_range line head (head + at))) →
    (ArePlain (slice_range line (head + numbering) (head + at)) → title ≡ 0) →
    (AreInNotation (slice_range line (head + numbering + title) (head + at)) →
    (is_moves ≡ true) × ((begin ≡ 0) × (end ≡ length (slice_range line (head + numbering + title) (head + at))))) →
    HasNoMoves (take blanks (slice_range line (head + numbering + title + begin) (head + numbering + title + end))) →
    (is_moves ≡ true) × ((head + numbering + title + begin + blanks ≡ 0) × (head + numbering + title + end ≡ count))
parts_plain line rest head at numbering title blanks count begin end is_moves top is left first slash no_number no_title spans no_blank =
    (span.0, (omega (arith, top, none, untitled, span.1.0, filled), omega (arith, top, none, untitled, ends)))
  where
    same : rest ≡ line
    same = left ∙ ap (λ n. drop n line) top

    there : at ≡ count
    there = comment_there line at count is (λ k one two. first k (ap (λ v. get_or v k 0) same ∙ one) (ap (λ v. get_or v (k + 1) 0) same ∙ two))
        (λ lt. ap (λ v. get_or v at 0) (sym same) ∙ slash (omega (arith, lt, ap length same)))

    last : head + at ≡ count
    last = omega (arith, top, there)

    long : length (take count line) ≡ count
    long = length-take-le count line (omega (arith, stands_within line count 47 is.slashes.0 (omega arith)))

    capital : is_capital (get_or (take count line) 0 0) ≡ true
    capital = is.moves.first

    none : numbering ≡ 0
    none = begin_zero (take count line) numbering capital
        (subst (λ v. BeginNoMoves (take numbering v)) (front_part line head (head + at) count top last) no_number)

    untitled : title ≡ 0
    untitled = no_title (subst (λ v. ArePlain v) (sym (front_part line (head + numbering) (head + at) count (omega (arith, top, none)) last)) is.moves)

    body : slice_range line (head + numbering + title) (head + at) ≡ take count line
    body = front_part line (head + numbering + title) (head + at) count (omega (arith, top, none, untitled)) last

    span : (is_moves ≡ true) × ((begin ≡ 0) × (end ≡ length (slice_range line (head + numbering + title) (head + at))))
    span = spans (subst (λ v. AreInNotation v) (sym body) is.moves.moves)

    ends : end ≡ count
    ends = span.1.1 ∙ ap length body ∙ long

    filled : blanks ≡ 0
    filled = moves_zero (take count line) blanks capital
        (subst (λ v. HasNoMoves (take blanks v))
        (front_part line (head + numbering + title + begin) (head + numbering + title + end) count
        (omega (arith, top, none, untitled, span.1.0)) (omega (arith, top, none, untitled, ends))) no_blank)
