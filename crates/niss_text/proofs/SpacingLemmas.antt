-- Signs one after another, such as blanks.
use Rattle.std.proofs.Common.{◌≡◌, ℕ, ◌+◌, Bool, true, ◌||◌, List, [], ◌∷◌, ◌++◌, take, drop, refl, sym, subst, ap, ◌∙◌}
use Rattle.std.specs.List.{All, concat, list_any}
use Rattle.std.proofs.Math.Seq.{take-add}
use Rattle.std.proofs.lemmas.Bool.{or_left, or_right, false≢true}
use Rattle.std.proofs.lemmas.List.{append-nil}
use Rattle.std.proofs.lemmas.List.Elements.{All-nil, All-cons, All-head, All-tail, All-append, All-weaker}
use Rattle.std.proofs.lemmas.List.Folds.{list_any-append, concat-append}
use Rattle.niss_text.specs.Signs.{HasNoMoves, IsOneOf, AreSigns, IsSign, is_of_moves, is_skipped, is_blank, is_unseen, is_colon}
use Rattle.niss_text.specs.declared.sign.Kind.{Kind}
use Rattle.niss_text.specs.declared.sign.Kind.TheVariants.{LineEnd, Blank, Unseen, Comma, Apostrophe, Prime, Colon, Dash, Slash, Open, Close, Digit, Capital, Small, Beyond, Inner, Other}
unfoldable use Rattle.niss_text.specs.Signs.{is_spacing, ends_title}

pub signs_none : (test : List ℕ → Bool) → AreSigns test []
signs_none test = record { parts = []; whole = refl; each = All-nil (IsOneOf test) }

pub signs_one : (test : List ℕ → Bool) (bytes : List ℕ) → IsOneOf test bytes → AreSigns test bytes
signs_one test bytes is = record {
  parts = bytes ∷ [];
  whole = append-nil bytes;
  each = All-cons (IsOneOf test) bytes [] is (All-nil (IsOneOf test));
}

pub signs_joined : (test : List ℕ → Bool) (first others : List ℕ) → AreSigns test first → AreSigns test others → AreSigns test (first ++ others)
signs_joined test first others a b = record {
  parts = a.parts ++ b.parts;
  whole = concat-append a.parts b.parts ∙ ap (λ v. v ++ concat b.parts) a.whole ∙ ap (λ v. first ++ v) b.whole;
  each = All-append (IsOneOf test) a.parts b.parts a.each b.each;
}

pub signs_more : (test : List ℕ → Bool) (text : List ℕ) (n m : ℕ) → AreSigns test (take n text) → AreSigns test (take m (drop n text)) →
    AreSigns test (take (n + m) text)
signs_more test text n m a b = subst (λ v. AreSigns test v) (sym (take-add n m text)) (signs_joined test (take n text) (take m (drop n text)) a b)

signs_weaker : (few many : List ℕ → Bool) → ((bytes : List ℕ) → few bytes ≡ true → many bytes ≡ true) → (bytes : List ℕ) → AreSigns few bytes → AreSigns many bytes
signs_weaker few many less bytes is = record {
  parts = is.parts;
  whole = is.whole;
  each = All-weaker (IsOneOf few) (IsOneOf many) (λ part one. (less part one.0, one.1)) is.parts is.each;
}

none_among : (test : List ℕ → Bool) (parts : List (List ℕ)) → All (IsOneOf test) parts → HasNoMoves (concat parts)
none_among test [] all = refl
none_among test (p ∷ ps) all =
    list_any-append is_of_moves p (concat ps) ∙ ap (λ v. v || list_any is_of_moves (concat ps)) (All-head (IsOneOf test) p ps all).1
    ∙ none_among test ps (All-tail (IsOneOf test) p ps all)

pub signs_empty : (test : List ℕ → Bool) (bytes : List ℕ) → AreSigns test bytes → HasNoMoves bytes
signs_empty test bytes is = subst (λ v. HasNoMoves v) is.whole (none_among test is.parts is.each)

pub spacing_ends : (bytes : List ℕ) → AreSigns is_spacing bytes → AreSigns ends_title bytes
unfolding ends_title
spacing_ends bytes is = signs_weaker is_spacing ends_title (λ part one. or_left (is_spacing part) (is_colon part) one) bytes is

pub colon_ends : (bytes : List ℕ) → IsOneOf is_colon bytes → AreSigns ends_title bytes
unfolding ends_title
colon_ends bytes is = signs_one ends_title bytes (or_right (is_spacing bytes) (is_colon bytes) is.0, is.1)

-- what parts signs is spacing
pub spaced : (kind : Kind) (bytes : List ℕ) → is_skipped kind ≡ true → IsSign kind bytes → IsOneOf is_spacing bytes
unfolding is_spacing
spaced Blank bytes is sign = (or_left (is_blank bytes) (is_unseen bytes) sign.0, sign.1)
spaced Unseen bytes is sign = (or_right (is_blank bytes) (is_unseen bytes) sign.0, sign.1)
spaced LineEnd bytes is sign = absurd (false≢true is)
spaced Comma bytes is sign = absurd (false≢true is)
spaced Apostrophe bytes is sign = absurd (false≢true is)
spaced Prime bytes is sign = absurd (false≢true is)
spaced Colon bytes is sign = absurd (false≢true is)
spaced Dash bytes is sign = absurd (false≢true is)
spaced Slash bytes is sign = absurd (false≢true is)
spaced Open bytes is sign = absurd (false≢true is)
spaced Close bytes is sign = absurd (false≢true is)
spaced Digit bytes is sign = absurd (false≢true is)
spaced Capital bytes is sign = absurd (false≢true is)
spaced Small bytes is sign = absurd (false≢true is)
spaced Beyond bytes is sign = absurd (false≢true is)
spaced Inner bytes is sign = absurd (false≢true is)
spaced Other bytes is sign = absurd (false≢true is)
