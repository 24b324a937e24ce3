-- Words as they are written: what is written is spelled, and words that wait in a buffer.
use Rattle.niss_moves.proofs.Names.{◌≤◌, Bool, take, get_or, refl, ap, sym, ◌∙◌, zero, suc, ◌+◌, ◌<◌, true, append_assoc, append-nil, arith}
use Rattle.niss_moves.proofs.Names.{length-append, ◌≡◌, ℕ, ◌-◌, List, [], ◌∷◌, ◌++◌, length, map, flat_map, slice_get, word, with_words}
use Rattle.niss_moves.proofs.Names.{Power, Quarter, Half, Counter, Token, Base, if◌then◌else◌, false, cond, drop, Turn, ◌==◌, Rotation}
use Rattle.niss_moves.proofs.Names.{token_index, item_bytes, join_with_byte, between, take-append-le, length-take-le, drop-append-le}
use Rattle.niss_moves.specs.Line.{Suffix, Nothing, Two, Prime, Plain, suffix_power, Space, Gap, Spelled, Item, Outside, item_normal}
use Rattle.niss_moves.specs.Line.{item_bracketed, Spells, token_of}
use Rattle.niss_moves.specs.Text.{gap, gap_after, with_word, turn_words, cleaned_words, with_bracket}
use Rattle.niss_moves.specs.Helpers.{with_buffered, is_empty}
use Rattle.std.proofs.Math.Seq.{take-append-add}
use Rattle.std.proofs.lemmas.Slice.{between_is, between_from_start}
use borrow.Rule.Slice.PartMut.{put_mid, post_of}
use Rattle.niss_moves.specs.declared.text.Word.{Word}
use Rattle.niss_moves.specs.declared.text.TheConstants.{WORDS}
use Rattle.niss_moves.specs.declared.text.WordBuffer.{WordBuffer}
use Rattle.niss_moves.proofs.Finite.{every_face, every_power, every_axis, every_slice, every_token, Tokens, Text, holds}

abbrev base_of : Token → Base
base_of (Token.Face t) = Base.Face t.face
base_of (Token.Wide f p) = Base.Wide f
base_of (Token.Slice l p) = Base.Slice l
base_of (Token.Rotation a p) = Base.Rotation a

abbrev suffix_of : Power → Suffix
suffix_of Quarter = Nothing
suffix_of Half = Two
suffix_of Counter = Prime Plain

abbrev power_of : Token → Power
power_of (Token.Face t) = t.power
power_of (Token.Wide f p) = p
power_of (Token.Slice l p) = p
power_of (Token.Rotation a p) = p

abbrev move_item : Token → Item
move_item t = Outside (Spelled (base_of t) (suffix_of (power_of t)))

power_is : (p : Power) → suffix_power (suffix_of p) ≡ p
power_is Quarter = refl
power_is _ = refl

item_word : (t : Token) → item_bytes (move_item t) ≡ word t
unfolding every_token every_power every_face every_slice every_axis
item_word = holds (Tokens (λ t. Text (item_bytes (move_item t)) (word t))) refl

item_move : (t : Token) → item_normal (move_item t) ≡ t ∷ []
item_move (Token.Face t) = ap (λ p. Token.Face (record t { power = p }) ∷ []) (power_is t.power)
item_move t = ap (λ p. token_of (base_of t) p ∷ []) (power_is (power_of t))

-- what stands past some bytes
past : (a w : List ℕ) (k n : ℕ) → n ≡ length a + k → slice_get (a ++ w) n ≡ slice_get w k
past [] w k n e = ap (slice_get w) (omega (arith, e))
past (x ∷ a) w k zero e = absurd (omega (arith, e))
past (x ∷ a) w k (suc n) e = past a w k n (omega (arith, e))

long_word : (t : Token) → 0 < length (word t)
long_word (Token.Face t) = omega arith
long_word _ = omega arith

words_gap : (t : Token) → gap (word t) ≡ 32 ∷ []
unfolding every_token every_power every_face every_slice every_axis
words_gap = holds (Tokens (λ t. Text (gap (word t)) (32 ∷ []))) refl

-- after a word stands a space
pub gap_word : (a : List ℕ) (t : Token) → gap (a ++ word t) ≡ 32 ∷ []
gap_word a t =
    ap gap_after (past a (word t) (length (word t) - 1) (length (a ++ word t) - 1) (omega (arith, length-append a (word t), long_word t)))
    ∙ words_gap t

-- by its number the bytes of a move's word, after a space
pub word_at : (t : Token) (i : ℕ) (d : Word) → i ≡ token_index t → take (get_or WORDS i d).len (get_or WORDS i d).bytes ≡ 32 ∷ word t
unfolding every_token every_power every_face every_slice every_axis
word_at t i d e =
    rw e (holds (Tokens (λ t. let entry = get_or WORDS (token_index t) d in Text (take entry.len entry.bytes) (32 ∷ word t))) refl t)

abbrev spaced_items : List Token → List Item
spaced_items [] = []
spaced_items (t ∷ ts) = Outside (Gap Space) ∷ move_item t ∷ spaced_items ts

-- the words of moves side by side, each after a space
abbrev pub spaced : List Token → List ℕ
spaced [] = []
spaced (t ∷ ts) = (32 ∷ word t) ++ spaced ts

after_word : (text : List ℕ) (ts : List Token) → gap text ≡ 32 ∷ [] → text ++ spaced ts ≡ with_words text (map word ts)
after_word text [] g = append-nil text
after_word text (t ∷ ts) g =
    let at = text ++ 32 ∷ [] in
    sym (append_assoc text (32 ∷ []) (word t ++ spaced ts)) ∙ sym (append_assoc at (word t) (spaced ts))
    ∙ after_word (at ++ word t) ts (gap_word at t) ∙ ap (λ x. with_words ((text ++ x) ++ word t) (map word ts)) (sym g)

spaced_bytes : (ts : List Token) → spaced ts ≡ flat_map item_bytes (spaced_items ts)
spaced_bytes [] = refl
spaced_bytes (t ∷ ts) = λ i. 32 ∷ sym (item_word t) i ++ spaced_bytes ts i

spaced_moves : (ts : List Token) → ts ≡ flat_map item_normal (spaced_items ts)
spaced_moves [] = refl
spaced_moves (t ∷ ts) =
    ap (λ s. t ∷ s) (spaced_moves ts) ∙ ap (λ s. s ++ flat_map item_normal (spaced_items ts)) (sym (item_move t))

spaced_inside : (ts : List Token) → [] ≡ flat_map item_bracketed (spaced_items ts)
spaced_inside [] = refl
spaced_inside (t ∷ ts) = spaced_inside ts

pub words_are_read : (s : List Token) → Spells (with_words [] (map word s)) s []
words_are_read [] = record { items = []; bytes_are = refl; normal_are = refl; bracketed_are = refl }
words_are_read (t ∷ ts) =
    record {
      items = move_item t ∷ spaced_items ts;
      bytes_are = sym (after_word (word t) ts (gap_word [] t)) ∙ (λ i. sym (item_word t) i ++ spaced_bytes ts i);
      normal_are = ap (λ s. t ∷ s) (spaced_moves ts) ∙ ap (λ s. s ++ flat_map item_normal (spaced_items ts)) (sym (item_move t));
      bracketed_are = spaced_inside ts;
    }

-- One space stands between each two words.
spaced_joined : (t : Token) (ts : List Token) → word t ++ spaced ts ≡ join_with_byte 32 (map word (t ∷ ts))
spaced_joined t [] = append-nil (word t)
spaced_joined t (u ∷ us) = ap (λ x. word t ++ 32 ∷ x) (spaced_joined u us)

pub words_are_joined : (s : List Token) → with_words [] (map word s) ≡ join_with_byte 32 (map word s)
words_are_joined [] = refl
words_are_joined (t ∷ ts) = sym (after_word (word t) ts (gap_word [] t)) ∙ spaced_joined t ts

-- the first bytes of a list into which a piece was copied
pub copied : {X : Type 0} (a k n : ℕ) (xs ys : List X) → a ≤ length xs → n ≤ length ys → take (a + n) (put_mid a k xs ys) ≡ take a xs ++ take n ys
copied a k n xs ys h l =
    ap (λ m. take (m + n) (put_mid a k xs ys)) (sym (length-take-le a xs h)) ∙ take-append-add (take a xs) (ys ++ post_of a k xs) n ∙ ap (λ t. take a xs ++ t) (take-append-le n ys (post_of a k xs) l)

-- all words after a text, none of them written
all_buffered : (text : List ℕ) (no_gap : Bool) (ts : List Token) → gap text ≡ (if no_gap then [] else 32 ∷ []) → with_buffered text no_gap (spaced ts) ≡ with_words text (map word ts)
all_buffered text false ts g = after_word text ts g
all_buffered text true [] g = append-nil text
all_buffered text true (t ∷ ts) g =
    let one : text ++ word t ≡ with_word text (word t) = ap (λ x. x ++ word t) (sym (append-nil text)) ∙ ap (λ x. (text ++ x) ++ word t) (sym g) in
    sym (append_assoc text (word t) (spaced ts)) ∙ after_word (text ++ word t) ts (gap_word text t) ∙ ap (λ x. with_words x (map word ts)) one

-- nothing waits
nothing_buffered : (text : List ℕ) (no_gap : Bool) → with_buffered text no_gap [] ≡ text
nothing_buffered text true = append-nil text
nothing_buffered text false = append-nil text

-- what waited is written
pub written : (text new bytes rest : List ℕ) (n : ℕ) (no_gap : Bool) → 0 < n → n ≤ length bytes → new ≡ text ++ between (cond no_gap 1 0) n bytes
    → with_buffered new false rest ≡ with_buffered text no_gap (take n bytes ++ rest)
written text new bytes rest n true some fits e =
    let long : 1 ≤ length (take n bytes) = (let l = length-take-le n bytes fits in omega (arith, l, some)) in
    ap (λ x. x ++ rest) (e ∙ ap (λ x. text ++ x) (between_is bytes 1 n)) ∙ append_assoc text (drop 1 (take n bytes)) rest
    ∙ ap (λ x. text ++ x) (sym (drop-append-le 1 (take n bytes) rest long))
written text new bytes rest n false some fits e =
    ap (λ x. x ++ rest) (e ∙ ap (λ x. text ++ x) (between_from_start bytes n)) ∙ append_assoc text (take n bytes) rest

-- one word is written
pub word_written : (text new bytes : List ℕ) (n : ℕ) (no_gap : Bool) (t : Token) → gap text ≡ (if no_gap then [] else 32 ∷ []) → take n bytes ≡ 32 ∷ word t → n ≤ length bytes
    → new ≡ text ++ between (cond no_gap 1 0) n bytes → new ≡ with_words text (word t ∷ [])
word_written text new bytes zero no_gap t g is fits e = absurd (cc)
word_written text new bytes (suc n) no_gap t g is fits e =
    sym (append-nil new) ∙ written text new bytes [] (suc n) no_gap (omega arith) fits e ∙ ap (λ b. with_buffered text no_gap (b ++ [])) is
    ∙ all_buffered text no_gap (t ∷ []) g

-- A text and what waits after it, with the words of these moves after that, is the first text with the words of all.
pub record Writes (text : List ℕ) (words : WordBuffer) (rest : List Token) (first : List ℕ) (all : List Token) : Type 0 where
  pub items : with_buffered text words.no_gap (take words.len words.bytes ++ spaced rest) ≡ with_words first (map word all)

-- nothing yet
pub writes_none : (text : List ℕ) (words : WordBuffer) (all : List Token) → words.len ≡ 0 → gap text ≡ (if words.no_gap then [] else 32 ∷ []) → Writes text words all text all
writes_none text words all none g =
    record { items = ap (λ n. with_buffered text words.no_gap (take n words.bytes ++ spaced all)) none ∙ all_buffered text words.no_gap all g }

-- one word more
pub writes_more : {text new first : List ℕ} {words next : WordBuffer} {rest all : List Token} (bytes : List ℕ) (t : Token) (ts : List Token) → rest ≡ t ∷ ts → bytes ≡ 32 ∷ word t
    → ((r : List ℕ) → with_buffered new next.no_gap (take next.len next.bytes ++ r) ≡ with_buffered text words.no_gap ((take words.len words.bytes ++ bytes) ++ r))
    → Writes text words rest first all → Writes new next ts first all
writes_more {text} {new} {first} {words} bytes t ts e is pushed h =
    let held = take words.len words.bytes in
    let to : List ℕ → List ℕ = with_buffered text words.no_gap in
    record {
      items =
          pushed (spaced ts) ∙ ap (λ b. to ((held ++ b) ++ spaced ts)) is ∙ ap to (append_assoc held (32 ∷ word t) (spaced ts))
          ∙ ap (λ x. to (held ++ spaced x)) (sym e) ∙ h.items;
    }

-- all written
pub writes_all : {text new first : List ℕ} {words : WordBuffer} {rest all : List Token} (no_gap : Bool) → rest ≡ []
    → ((r : List ℕ) → with_buffered new no_gap r ≡ with_buffered text words.no_gap (take words.len words.bytes ++ r))
    → Writes text words rest first all → new ≡ with_words first (map word all)
writes_all {text} {new} {first} {words} no_gap e wrote h =
    sym (nothing_buffered new no_gap) ∙ wrote [] ∙ ap (λ x. with_buffered text words.no_gap (take words.len words.bytes ++ spaced x)) (sym e) ∙ h.items

-- the words of face turns
pub words_of_turns : (ts : List Turn) → map word (map Token.Face ts) ≡ turn_words ts
words_of_turns [] = refl
words_of_turns (t ∷ ts) = ap (λ ws. word (Token.Face t) ∷ ws) (words_of_turns ts)

-- words after words
pub words_more : (text : List ℕ) (ts us : List Token) → with_words (with_words text (map word ts)) (map word us) ≡ with_words text (map word (ts ++ us))
words_more text [] us = refl
words_more text (t ∷ ts) us = words_more (with_word text (word t)) ts us

with_words-append : (t : List ℕ) (a b : List (List ℕ)) → with_words t (a ++ b) ≡ with_words (with_words t a) b
with_words-append t [] b = refl
with_words-append t (w ∷ a) b = with_words-append (with_word t w) a b

pub words_after : (old mid new : List ℕ) (a b : List (List ℕ)) → mid ≡ with_words old a → new ≡ with_words mid b → new ≡ with_words old (a ++ b)
words_after old mid new a b e f = f ∙ ap (λ t. with_words t b) e ∙ sym (with_words-append old a b)

pub bracket_empty : (t : List ℕ) (ws : List (List ℕ)) → is_empty ws ≡ true → with_bracket t ws ≡ t
bracket_empty t [] e = refl
bracket_empty t (w ∷ ws) e = cc

pub bracket_filled : (t : List ℕ) (ws : List (List ℕ)) → is_empty ws ≡ false → with_bracket t ws ≡ with_words (with_word t (40 ∷ [])) ws ++ 41 ∷ []
bracket_filled t [] e = cc
bracket_filled t (w ∷ ws) e = refl

pub not_empty : (ts : List Turn) (r : Rotation) → (length ts == 0) ≡ false → false ≡ is_empty (cleaned_words ts r)
not_empty [] r e = cc
not_empty (t ∷ ts) r e = refl
