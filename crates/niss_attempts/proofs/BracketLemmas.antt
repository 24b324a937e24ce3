-- No line has a bracket that stands in another one.
use Rattle.std.proofs.Common.{◌≡◌, ◌∙◌, ℕ, ◌==◌, Bool, true, false, not, cond, ◌&&◌, ◌||◌, List, [], ◌∷◌, ◌++◌, ◌⊎◌, ◌+◌, ◌<◌, length, map, take, get_or, inl, inr, refl, sym, ap, subst, append_assoc}
use Rattle.std.specs.Prelude.{flat_map}
use Rattle.std.specs.List.{list_all}
use Rattle.std.proofs.lemmas.List.Folds.{list_any-append, list_all-append}
use Rattle.niss_moves.specs.Line.{Piece, piece_bytes, base_bytes, suffix_bytes, Suffix, Item, item_bytes, Spells}
use Rattle.niss_moves.specs.Line.Piece.{Gap, Spelled}
use Rattle.niss_moves.specs.Line.Blank.{Space, Tab, Return}
use Rattle.niss_moves.specs.Line.Apostrophe.{Plain, Typographic}
use Rattle.niss_moves.specs.Line.Item.{Outside, Bracket}
use Rattle.niss_moves.specs.declared.token.Base.{Base}
use Rattle.niss_moves.specs.declared.token.Slice.TheVariants.{M, E, S}
use Rattle.niss_moves.specs.declared.turn.Axis.TheVariants.{Ud, Rl, Fb}
use Rattle.niss_moves.specs.declared.token.Token.{Token}
use Rattle.niss_moves.proofs.CallerLemmas.{Yes, Faces, holds, and_left, and_right}
unfoldable use Rattle.niss_moves.proofs.CallerLemmas.{every_face}
use Rattle.niss_attempts.specs.declared.steps.reading.Reading.TheVariants.{AsWritten, WithoutBrackets}
use Rattle.niss_attempts.specs.declared.steps.dead.Depth.{Depth}
use Rattle.niss_attempts.specs.declared.steps.dead.Depth.TheVariants.{Out, In, Wrong}
use Rattle.niss_attempts.specs.DeadSteps.{IsShut, after_byte, after_bytes, after_closing, after_opening}
use Rattle.niss_attempts.specs.Corners.{EndsNone, has_bracket}
use Rattle.niss_attempts.specs.Parts.{read_byte}
use Rattle.niss_attempts.proofs.DeadLemmas.{read_more}

-- bytes and then others
pub after_both : (d : Depth) (xs ys : List ℕ) → after_bytes d (xs ++ ys) ≡ after_bytes (after_bytes d xs) ys
after_both d [] ys = refl
after_both d (x ∷ xs) ys = after_both (after_byte d x) xs ys

-- after a bracket that stands wrong all is
wrong_byte : (byte : ℕ) → after_byte Wrong byte ≡ Wrong
wrong_byte byte = by_tests (byte == 40) (byte == 41)
  where
    by_tests : (a b : Bool) → cond a Wrong (cond b Wrong Wrong) ≡ Wrong
    by_tests true b = refl
    by_tests false true = refl
    by_tests false false = refl

wrong_stays : (bytes : List ℕ) → after_bytes Wrong bytes ≡ Wrong
wrong_stays [] = refl
wrong_stays (byte ∷ bytes) = ap (λ d. after_bytes d bytes) (wrong_byte byte) ∙ wrong_stays bytes

-- Pieces have no brackets.
abbrev is_none : ℕ → Bool
is_none byte = not (byte == 40) && not (byte == 41)

base_has_none : (b : Base) → list_all is_none (base_bytes b) ≡ true
unfolding every_face
base_has_none (Base.Face f) = holds (Faces λ f. Yes (list_all is_none (base_bytes (Base.Face f)))) refl f
base_has_none (Base.Wide f) = holds (Faces λ f. Yes (list_all is_none (base_bytes (Base.Wide f)))) refl f
base_has_none (Base.LowerCase f) = holds (Faces λ f. Yes (list_all is_none (base_bytes (Base.LowerCase f)))) refl f
base_has_none (Base.Slice l) = elim l as (λ l. list_all is_none (base_bytes (Base.Slice l)) ≡ true) [ M ↦ refl | E ↦ refl | S ↦ refl ]
base_has_none (Base.Rotation a) = elim a as (λ a. list_all is_none (base_bytes (Base.Rotation a)) ≡ true) [ Ud ↦ refl | Rl ↦ refl | Fb ↦ refl ]

suffix_has_none : (s : Suffix) → list_all is_none (suffix_bytes s) ≡ true
suffix_has_none Suffix.Nothing = refl
suffix_has_none Suffix.Two = refl
suffix_has_none (Suffix.Prime Plain) = refl
suffix_has_none (Suffix.Prime Typographic) = refl
suffix_has_none (Suffix.TwoPrime Plain) = refl
suffix_has_none (Suffix.TwoPrime Typographic) = refl

piece_has_none : (p : Piece) → list_all is_none (piece_bytes p) ≡ true
piece_has_none (Gap Space) = refl
piece_has_none (Gap Tab) = refl
piece_has_none (Gap Return) = refl
piece_has_none (Spelled b s) =
    list_all-append is_none (base_bytes b) (suffix_bytes s) ∙ (λ i. base_has_none b i && suffix_has_none s i)

none_stays : (d : Depth) (bytes : List ℕ) → list_all is_none bytes ≡ true → after_bytes d bytes ≡ d
none_stays d [] e = refl
none_stays d (byte ∷ bytes) e =
    ap (λ s. after_bytes s bytes) (by_tests (byte == 40) (byte == 41) (and_left _ _ e)) ∙ none_stays d bytes (and_right (is_none byte) _ e)
  where
    by_tests : (a b : Bool) → (not a && not b) ≡ true → cond a (after_opening d) (cond b (after_closing d) d) ≡ d
    by_tests false false e = refl
    by_tests false true e = absurd (cc e)
    by_tests true b e = absurd (cc e)

none_opens : (bytes : List ℕ) → list_all is_none bytes ≡ true → has_bracket bytes ≡ false
none_opens [] e = refl
none_opens (byte ∷ bytes) e = λ i. by_tests (byte == 40) (byte == 41) (and_left _ _ e) i || none_opens bytes (and_right (is_none byte) _ e) i
  where
    by_tests : (a b : Bool) → (not a && not b) ≡ true → a ≡ false
    by_tests false b e = refl
    by_tests true b e = absurd (cc e)

pieces_stay : (d : Depth) (ps : List Piece) → after_bytes d (flat_map piece_bytes ps) ≡ d
pieces_stay d [] = refl
pieces_stay d (p ∷ ps) =
    after_both d (piece_bytes p) (flat_map piece_bytes ps)
    ∙ ap (λ s. after_bytes s (flat_map piece_bytes ps)) (none_stays d (piece_bytes p) (piece_has_none p)) ∙ pieces_stay d ps

-- Items end outside brackets.
item_ends_out : (it : Item) → after_bytes Out (item_bytes it) ≡ Out
item_ends_out (Outside p) = none_stays Out (piece_bytes p) (piece_has_none p)
item_ends_out (Bracket ps) =
    after_both In (flat_map piece_bytes ps) (41 ∷ []) ∙ ap (λ d. after_bytes d (41 ∷ [])) (pieces_stay In ps)

items_end_out : (items : List Item) → after_bytes Out (flat_map item_bytes items) ≡ Out
items_end_out [] = refl
items_end_out (it ∷ items) =
    after_both Out (item_bytes it) (flat_map item_bytes items) ∙ ap (λ d. after_bytes d (flat_map item_bytes items)) (item_ends_out it)
    ∙ items_end_out items

-- In a bracket those with one are wrong.
or_second : (a b : Bool) → (a || b) ≡ true → a ≡ false → b ≡ true
or_second false b e f = e
or_second true b e f = absurd (cc f)

items_end_wrong : (items : List Item) → has_bracket (flat_map item_bytes items) ≡ true → after_bytes In (flat_map item_bytes items) ≡ Wrong
items_end_wrong [] e = absurd (cc e)
items_end_wrong (Outside p ∷ items) e =
    let rest : List ℕ = flat_map item_bytes items in
    let either = sym (list_any-append (λ byte. byte == 40) (piece_bytes p) rest) ∙ e in
    let more : has_bracket rest ≡ true = or_second (has_bracket (piece_bytes p)) (has_bracket rest) either (none_opens (piece_bytes p) (piece_has_none p)) in
    after_both In (piece_bytes p) rest ∙ ap (λ d. after_bytes d rest) (none_stays In (piece_bytes p) (piece_has_none p)) ∙ items_end_wrong items more
items_end_wrong (Bracket ps ∷ items) e = wrong_stays ((flat_map piece_bytes ps ++ 41 ∷ []) ++ flat_map item_bytes items)

in_brackets_wrong : (own after : List ℕ) (d : Depth) → after_bytes In own ≡ Wrong → after_bytes d ((40 ∷ own ++ 41 ∷ []) ++ after) ≡ Wrong
in_brackets_wrong own after Out e =
    after_both In (own ++ 41 ∷ []) after
    ∙ ap (λ d. after_bytes d after) (after_both In own (41 ∷ []) ∙ ap (λ d. after_bytes d (41 ∷ [])) e) ∙ wrong_stays after
in_brackets_wrong own after In e = wrong_stays ((own ++ 41 ∷ []) ++ after)
in_brackets_wrong own after Wrong e = wrong_stays ((own ++ 41 ∷ []) ++ after)

is_not_wrong : Out ≡ Wrong → ⊥
is_not_wrong e = cc e

-- Bytes that spell moves and have a bracket stand in no other one.
pub nested_ends_none : (own after : List ℕ) (n b : List Token) → Spells own n b → has_bracket own ≡ true → EndsNone ((40 ∷ own ++ 41 ∷ []) ++ after)
nested_ends_none own after n b it has before m c closed line =
    let wrong : after_bytes In own ≡ Wrong =
    ap (after_bytes In) it.bytes_are ∙ items_end_wrong it.items (ap has_bracket (sym it.bytes_are) ∙ has) in
    let all : List ℕ = before ++ ((40 ∷ own ++ 41 ∷ []) ++ after) in
    let ends_out : after_bytes Out all ≡ Out = ap (after_bytes Out) line.bytes_are ∙ items_end_out line.items in
    let ends_wrong : after_bytes Out all ≡ Wrong =
    after_both Out before ((40 ∷ own ++ 41 ∷ []) ++ after) ∙ in_brackets_wrong own after (after_bytes Out before) wrong in
    is_not_wrong (sym ends_out ∙ ends_wrong)

pub more_ends_none : (own more : List ℕ) → after_bytes Out own ≡ Out → EndsNone more → EndsNone (own ++ more)
more_ends_none own more closes none before n b closed line =
    let same : before ++ (own ++ more) ≡ (before ++ own) ++ more = simp append_assoc in
    none (before ++ own) n b (after_both Out before own ∙ ap (λ d. after_bytes d own) closed ∙ closes) (subst (λ (v : List ℕ). Spells v n b) same line)

-- Bytes that spell moves leave no bracket open, and in a bracket that one, or one that stands wrong.
pub spelled_out : (bytes : List ℕ) (n b : List Token) → Spells bytes n b → after_bytes Out bytes ≡ Out
spelled_out bytes n b it = ap (after_bytes Out) it.bytes_are ∙ items_end_out it.items

items_in : (items : List Item) → (after_bytes In (flat_map item_bytes items) ≡ In) ⊎ (after_bytes In (flat_map item_bytes items) ≡ Wrong)
items_in [] = inl refl
items_in (Outside p ∷ items) = by_rest (items_in items)
  where
    rest : List ℕ
    rest = flat_map item_bytes items

    first : after_bytes In (piece_bytes p ++ rest) ≡ after_bytes In rest
    first = after_both In (piece_bytes p) rest ∙ ap (λ d. after_bytes d rest) (none_stays In (piece_bytes p) (piece_has_none p))

    by_rest : (after_bytes In rest ≡ In) ⊎ (after_bytes In rest ≡ Wrong) →
        (after_bytes In (piece_bytes p ++ rest) ≡ In) ⊎ (after_bytes In (piece_bytes p ++ rest) ≡ Wrong)
    by_rest (inl e) = inl (first ∙ e)
    by_rest (inr e) = inr (first ∙ e)
items_in (Bracket ps ∷ items) = inr (wrong_stays ((flat_map piece_bytes ps ++ 41 ∷ []) ++ flat_map item_bytes items))

pub spelled_in : (bytes : List ℕ) (n b : List Token) → Spells bytes n b → (after_bytes In bytes ≡ In) ⊎ (after_bytes In bytes ≡ Wrong)
spelled_in bytes n b it =
    subst (λ (v : List ℕ). (after_bytes In v ≡ In) ⊎ (after_bytes In v ≡ Wrong)) (sym it.bytes_are) (items_in it.items)

-- bytes that close a bracket which none opened, before others and after some
from_both : (xs ys : List ℕ) (d e : Depth) → after_bytes d xs ≡ e → after_bytes d (xs ++ ys) ≡ after_bytes e ys
from_both xs ys d e is = after_both d xs ys ∙ ap (λ d. after_bytes d ys) is

wrong_both : (xs ys : List ℕ) (d : Depth) → after_bytes d xs ≡ Wrong → after_bytes d (xs ++ ys) ≡ Wrong
wrong_both xs ys d is = from_both xs ys d Wrong is ∙ wrong_stays ys

out_not_in : Out ≡ In → ⊥
out_not_in e = cc e

wrong_not_in : Wrong ≡ In → ⊥
wrong_not_in e = cc e

pub shut_first : (xs ys : List ℕ) → (after_bytes Out ys ≡ Out) ⊎ (after_bytes Out ys ≡ Wrong) → IsShut xs → IsShut (xs ++ ys)
shut_first xs ys rest shut = (wrong_both xs ys Out shut.0, by_depth (after_bytes In xs) refl)
  where
    from_out : after_bytes In xs ≡ Out → (after_bytes Out ys ≡ Out) ⊎ (after_bytes Out ys ≡ Wrong) → after_bytes In (xs ++ ys) ≡ In → ⊥
    from_out is (inl e) h = out_not_in (sym (from_both xs ys In Out is ∙ e) ∙ h)
    from_out is (inr e) h = wrong_not_in (sym (from_both xs ys In Out is ∙ e) ∙ h)

    by_depth : (d : Depth) → after_bytes In xs ≡ d → after_bytes In (xs ++ ys) ≡ In → ⊥
    by_depth Out is h = from_out is rest h
    by_depth In is h = shut.1 is
    by_depth Wrong is h = wrong_not_in (sym (wrong_both xs ys In is) ∙ h)

pub shut_last : (xs ys : List ℕ) → after_bytes Out xs ≡ Out → (after_bytes In xs ≡ In) ⊎ (after_bytes In xs ≡ Wrong) → IsShut ys → IsShut (xs ++ ys)
shut_last xs ys out within shut = (from_both xs ys Out Out out ∙ shut.0, λ h. by_depth within h)
  where
    by_depth : (after_bytes In xs ≡ In) ⊎ (after_bytes In xs ≡ Wrong) → after_bytes In (xs ++ ys) ≡ In → ⊥
    by_depth (inl is) h = shut.1 (sym (from_both xs ys In In is) ∙ h)
    by_depth (inr is) h = wrong_not_in (sym (wrong_both xs ys In is) ∙ h)

-- So no bytes that end so spell moves, be they in a bracket of their own or not.
pub wrong_ends_none : (bytes : List ℕ) → after_bytes Out bytes ≡ Wrong → EndsNone bytes
wrong_ends_none bytes wrong before n b closed line =
    is_not_wrong (sym (spelled_out (before ++ bytes) n b line) ∙ (from_both before bytes Out Out closed ∙ wrong))

pub shut_ends_none : (bytes more : List ℕ) → IsShut bytes → EndsNone (bytes ++ more)
shut_ends_none bytes more shut = wrong_ends_none (bytes ++ more) (wrong_both bytes more Out shut.0)

pub shut_in_brackets : (bytes more : List ℕ) → IsShut bytes → EndsNone ((40 ∷ bytes ++ 41 ∷ []) ++ more)
shut_in_brackets bytes more shut = wrong_ends_none ((40 ∷ bytes ++ 41 ∷ []) ++ more) (wrong_both (40 ∷ bytes ++ 41 ∷ []) more Out (by_depth (after_bytes In bytes) refl))
  where
    by_depth : (d : Depth) → after_bytes In bytes ≡ d → after_bytes In (bytes ++ 41 ∷ []) ≡ Wrong
    by_depth Out is = from_both bytes (41 ∷ []) In Out is
    by_depth In is = absurd (shut.1 is)
    by_depth Wrong is = wrong_both bytes (41 ∷ []) In is

-- one byte more
pub depth_more : (d e : Depth) (f : ℕ → ℕ) (xs : List ℕ) (i j byte : ℕ) → i < length xs → byte ≡ f (get_or xs i j) → e ≡ after_bytes d (map f (take i xs)) →
    after_byte e byte ≡ after_bytes d (map f (take (i + 1) xs))
depth_more d e f xs i j byte l is before =
    sym (ap (after_bytes d) (read_more f xs i j byte l is) ∙ from_both (map f (take i xs)) (byte ∷ []) d e (sym before))

-- Bytes that spell pieces, once they are read, are read so without brackets too.
pieces_have_none : (ps : List Piece) → list_all is_none (flat_map piece_bytes ps) ≡ true
pieces_have_none [] = refl
pieces_have_none (p ∷ ps) =
    list_all-append is_none (piece_bytes p) (flat_map piece_bytes ps) ∙ (λ i. piece_has_none p i && pieces_have_none ps i)

same_byte : (byte : ℕ) (a b c : Bool) → (byte == 40) ≡ b → (byte == 41) ≡ c → is_none (cond a 32 byte) ≡ true → cond (a || (b || c)) 32 byte ≡ cond a 32 byte
same_byte byte true b c is_b is_c none = refl
same_byte byte false false false is_b is_c none = refl
same_byte byte false true c is_b is_c none = absurd (cc (sym (ap not is_b) ∙ and_left _ _ none))
same_byte byte false false true is_b is_c none = absurd (cc (sym (ap not is_c) ∙ and_right (not (byte == 40)) _ none))

read_so : (bytes : List ℕ) → list_all is_none (map (read_byte AsWritten) bytes) ≡ true → map (read_byte AsWritten) bytes ≡ map (read_byte WithoutBrackets) bytes
read_so [] none = refl
read_so (byte ∷ bytes) none =
    let first = same_byte byte (byte == 10) (byte == 40) (byte == 41) refl refl (and_left _ _ none) in
    let rest = read_so bytes (and_right (is_none (read_byte AsWritten byte)) _ none) in
    λ i. sym first i ∷ rest i

pub pieces_read_so : (bytes : List ℕ) (ps : List Piece) → map (read_byte AsWritten) bytes ≡ flat_map piece_bytes ps →
    map (read_byte AsWritten) bytes ≡ map (read_byte WithoutBrackets) bytes
pieces_read_so bytes ps are = read_so bytes (ap (list_all is_none) are ∙ pieces_have_none ps)
