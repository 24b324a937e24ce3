-- Bytes beyond ASCII are none that moves are made of.
use Rattle.std.proofs.Common.{◌≡◌, ℕ, ◌<◌, ◌≤◌, true, false, ◌||◌, List, [], ◌∷◌, length, get_or, ap, ◌∙◌, arith}
use Rattle.std.specs.List.{list_any}
use Rattle.std.proofs.lemmas.Bool.{false≢true}
use Rattle.std.proofs.lemmas.Bool.Decides.{nat_tests}
use Rattle.niss_text.specs.Signs.{HasNoMoves, AreWords, IsSign, is_skipped, is_of_words}
use Rattle.niss_text.specs.declared.sign.Kind.{Kind}
use Rattle.niss_text.specs.declared.sign.Kind.TheVariants.{LineEnd, Blank, Unseen, Comma, Apostrophe, Prime, Colon, Dash, Slash, Open, Close, Digit, Capital, Small, Beyond, Inner, Other}
unfoldable use Rattle.niss_text.specs.Signs.{is_of_moves, parts_words, is_line_end, is_blank, is_unseen, is_comma, is_apostrophe, is_changed, begins_changed}

pub far : (b : ℕ) → 128 ≤ b → is_of_moves b ≡ false
unfolding is_of_moves
far b h = grind (arith, nat_tests)

pub two : (a b : ℕ) → 128 ≤ a → 128 ≤ b → list_any is_of_moves (a ∷ b ∷ []) ≡ false
two a b h k = ap (λ v. v || (is_of_moves b || false)) (far a h) ∙ ap (λ v. v || false) (far b k)

pub three : (a b c : ℕ) → 128 ≤ a → 128 ≤ b → 128 ≤ c → list_any is_of_moves (a ∷ b ∷ c ∷ []) ≡ false
three a b c h k l = ap (λ v. v || (is_of_moves b || (is_of_moves c || false))) (far a h) ∙ two b c k l

-- what parts is no move
pub skipped : (kind : Kind) (bytes : List ℕ) → is_skipped kind ≡ true → IsSign kind bytes → HasNoMoves bytes
skipped Blank bytes is sign = sign.1
skipped Unseen bytes is sign = sign.1
skipped LineEnd bytes is sign = sign.1
skipped Comma bytes is sign = sign.1
skipped Apostrophe bytes is sign = sign.1
skipped Prime bytes is sign = absurd (false≢true is)
skipped Colon bytes is sign = sign.1
skipped Dash bytes is sign = sign.1
skipped Slash bytes is sign = absurd (false≢true is)
skipped Open bytes is sign = absurd (false≢true is)
skipped Close bytes is sign = absurd (false≢true is)
skipped Digit bytes is sign = absurd (false≢true is)
skipped Capital bytes is sign = absurd (false≢true is)
skipped Small bytes is sign = absurd (false≢true is)
skipped Beyond bytes is sign = absurd (false≢true is)
skipped Inner bytes is sign = absurd (false≢true is)
skipped Other bytes is sign = absurd (false≢true is)

no_word : (b : ℕ) → 128 ≤ b → parts_words b ≡ false
unfolding parts_words
no_word b h = grind (arith, nat_tests)

words_one : (a : ℕ) → parts_words a ≡ false → AreWords (a ∷ [])
words_one a h = ap (λ v. v || false) h

words_two : (a b : ℕ) → 128 ≤ a → 128 ≤ b → AreWords (a ∷ b ∷ [])
words_two a b h k = ap (λ v. v || (parts_words b || false)) (no_word a h) ∙ words_one b (no_word b k)

pub words_three : (a b c : ℕ) → 128 ≤ a → 128 ≤ b → 128 ≤ c → AreWords (a ∷ b ∷ c ∷ [])
words_three a b c h k l = ap (λ v. v || (parts_words b || (parts_words c || false))) (no_word a h) ∙ words_two b c k l

blank_one : (b : ℕ) → is_blank (b ∷ []) ≡ true → parts_words b ≡ false
unfolding is_blank parts_words
blank_one b h = grind (arith, nat_tests)

blank_words : (bytes : List ℕ) → is_blank bytes ≡ true → AreWords bytes
unfolding is_blank
blank_words [] is = absurd (false≢true is)
blank_words (a ∷ []) is = words_one a (blank_one a is)
blank_words (a ∷ b ∷ []) is = words_two a b (grind (arith, nat_tests, is)) (grind (arith, nat_tests, is))
blank_words (a ∷ b ∷ c ∷ []) is = words_three a b c (grind (arith, nat_tests, is)) (grind (arith, nat_tests, is)) (grind (arith, nat_tests, is))
blank_words (a ∷ b ∷ c ∷ d ∷ bytes) is = absurd (false≢true is)

unseen_words : (bytes : List ℕ) → is_unseen bytes ≡ true → AreWords bytes
unfolding is_unseen
unseen_words [] is = absurd (false≢true is)
unseen_words (a ∷ []) is = absurd (false≢true is)
unseen_words (a ∷ b ∷ []) is = absurd (false≢true is)
unseen_words (a ∷ b ∷ c ∷ []) is = words_three a b c (grind (arith, nat_tests, is)) (grind (arith, nat_tests, is)) (grind (arith, nat_tests, is))
unseen_words (a ∷ b ∷ c ∷ d ∷ bytes) is = absurd (false≢true is)

-- what words have parts none
pub worded : (kind : Kind) (bytes : List ℕ) → is_of_words kind ≡ true → IsSign kind bytes → AreWords bytes
worded LineEnd bytes is sign = absurd (false≢true is)
worded Blank bytes is sign = blank_words bytes sign.0
worded Unseen bytes is sign = unseen_words bytes sign.0
worded Comma bytes is sign = absurd (false≢true is)
worded Apostrophe bytes is sign = absurd (false≢true is)
worded Prime bytes is sign = absurd (false≢true is)
worded Colon bytes is sign = absurd (false≢true is)
worded Dash bytes is sign = sign.0
worded Slash bytes is sign = absurd (false≢true is)
worded Open bytes is sign = absurd (false≢true is)
worded Close bytes is sign = absurd (false≢true is)
worded Digit bytes is sign = sign
worded Capital bytes is sign = sign
worded Small bytes is sign = sign
worded Beyond bytes is sign = sign
worded Inner bytes is sign = sign
worded Other bytes is sign = absurd (false≢true is)

-- no sign begins in front of a text that is written otherwise, of one, two or three bytes
pub begins_none : (text : List ℕ) → 0 < length text → is_changed (get_or text 0 0 ∷ []) ≡ false →
    (1 < length text → is_changed (get_or text 0 0 ∷ get_or text 1 0 ∷ []) ≡ false) →
    (2 < length text → is_changed (get_or text 0 0 ∷ get_or text 1 0 ∷ get_or text 2 0 ∷ []) ≡ false) → begins_changed text ≡ false
unfolding begins_changed
begins_none [] some one two three = absurd (omega (arith, some))
begins_none (a ∷ []) some one two three = ap (λ v. v || (is_changed (a ∷ []) || is_changed (a ∷ []))) one ∙ ap (λ v. v || is_changed (a ∷ [])) one ∙ one
begins_none (a ∷ b ∷ []) some one two three =
    ap (λ v. v || (is_changed (a ∷ b ∷ []) || is_changed (a ∷ b ∷ []))) one ∙ ap (λ v. v || is_changed (a ∷ b ∷ [])) (two (omega arith)) ∙ two (omega arith)
begins_none (a ∷ b ∷ c ∷ text) some one two three =
    ap (λ v. v || (is_changed (a ∷ b ∷ []) || is_changed (a ∷ b ∷ c ∷ []))) one ∙ ap (λ v. v || is_changed (a ∷ b ∷ c ∷ [])) (two (omega arith))
    ∙ three (omega arith)

-- one of several bytes begins with a return, or with a byte beyond ASCII
pub two_none : (a b : ℕ) → a < 128 → (a ≡ 13 → ⊥) → is_changed (a ∷ b ∷ []) ≡ false
unfolding is_changed is_line_end is_blank is_unseen is_comma is_apostrophe
two_none a b low other = grind (arith, nat_tests)

pub three_none : (a b c : ℕ) → a < 128 → is_changed (a ∷ b ∷ c ∷ []) ≡ false
unfolding is_changed is_line_end is_blank is_unseen is_comma is_apostrophe
three_none a b c low = grind (arith, nat_tests)

pub one_none : (a : ℕ) → 128 ≤ a → is_changed (a ∷ []) ≡ false
unfolding is_changed is_line_end is_blank is_unseen is_comma is_apostrophe
one_none a high = grind (arith, nat_tests)
