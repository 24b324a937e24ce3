-- Moves that stand in front of what a line says.
use Rattle.std.proofs.Common.{◌≡◌, ℕ, ◌+◌, ◌-◌, ◌<◌, ◌≤◌, ◌⊎◌, inl, inr, true, List, length, take, drop, get_or, slice_range, sym, subst, ap, ◌∙◌, length-drop, arith}
use Rattle.std.proofs.lemmas.Bool.{cases_lt, false≢true, true_from_ne_false}
use Rattle.std.proofs.lemmas.List.{get_or-drop, get_or-take, take-take}
use Rattle.niss_text.specs.Signs.{HasNoMoves}
use Rattle.niss_text.specs.Doubts.{is_capital}
use Rattle.niss_text.specs.Kept.{begins_with_move}
use Rattle.niss_text.specs.Pieces.{EndsWithColon}
use Rattle.niss_text.specs.Said.{IsLabelled}
use Rattle.niss_text.proofs.WordLemmas.{cut_before, move_parts, beyond}
use Rattle.niss_text.proofs.CommentLemmas.{moves_zero}
use Rattle.niss_text.proofs.KeptLemmas.{part_long}

-- what begins with a move by itself does so up to the slashes after it
cut_is : (text : List ℕ) (n : ℕ) → 0 < n → n ≤ length text → (n < length text → get_or text n 0 ≡ 47) → begins_with_move text ≡ true → begins_with_move (take n text) ≡ true
cut_is text n some fits slash is = true_from_ne_false (begins_with_move (take n text)) (λ none. false≢true (sym (cut_before text n some fits slash none) ∙ is))

-- it has a first byte, which is no slash
first_some : (text : List ℕ) (n : ℕ) → n ≤ length text → (n < length text → get_or text n 0 ≡ 47) → begins_with_move text ≡ true → 0 < n
first_some text n fits slash is = by_place (cases_lt 0 n) (cases_lt 0 (length text))
  where
    capital : is_capital (get_or text 0 0) ≡ true
    capital = (move_parts text is).0

    no_capital : (b : ℕ) → (b ≡ 47) ⊎ (b ≡ 0) → is_capital b ≡ true → ⊥
    no_capital b (inl same) letter = false≢true (sym (ap is_capital same) ∙ letter)
    no_capital b (inr same) letter = false≢true (sym (ap is_capital same) ∙ letter)

    by_place : (0 < n) ⊎ (n ≤ 0) → (0 < length text) ⊎ (length text ≤ 0) → 0 < n
    by_place (inl lt) there = lt
    by_place (inr le) (inl more) =
        let none : n ≡ 0 = omega (arith, le) in
        absurd (no_capital (get_or text 0 0) (inl (subst (λ m. get_or text m 0 ≡ 47) none (slash (omega (arith, more, none))))) capital)
    by_place (inr le) (inr none) = absurd (no_capital (get_or text 0 0) (inr (beyond text 0 none)) capital)

-- The moves of a line begin with its label's place, if a move by itself does, and no words have a colon there.
pub labelled : (line : List ℕ) (begin words title slashes first end blanks : ℕ) → begin ≤ slashes → slashes ≤ length line → words ≤ title → title ≤ slashes - begin →
    (slashes < length line → get_or line slashes 0 ≡ 47) → (words ≡ 0 → title ≡ 0) → (0 < words → EndsWithColon (take title (slice_range line begin slashes))) →
    (begins_with_move (slice_range line (begin + title) slashes) ≡ true → first ≡ 0) →
    HasNoMoves (take blanks (slice_range line (begin + title + first) (begin + title + end))) → blanks ≤ length (slice_range line (begin + title + first) (begin + title + end)) →
    IsLabelled line (drop begin line) begin (begin + title + first + blanks)
labelled line begin words title slashes first end blanks order within words_in title_in slash none colon front empty short is = by_words (cases_lt 0 words)
  where
    n : ℕ
    n = slashes - begin

    rest : List ℕ
    rest = drop begin line

    slash_there : n < length rest → get_or rest n 0 ≡ 47
    slash_there lt =
        let there : begin + n ≡ slashes = omega (arith, order) in
        get_or-drop begin line n 0 ∙ ap (λ m. get_or line m 0) there ∙ slash (omega (arith, lt, length-drop begin line, order))

    some : 0 < n
    some = first_some rest n (omega (arith, length-drop begin line, within, order)) slash_there is

    cut : begins_with_move (slice_range line begin slashes) ≡ true
    cut = cut_is rest n some (omega (arith, length-drop begin line, within, order)) slash_there is

    by_words : (0 < words) ⊎ (words ≤ 0) → (begin + title + first + blanks ≡ begin)
        ⊎ ((place : ℕ) × ((begin < place) × (place ≤ begin + title + first + blanks)) × EndsWithColon (slice_range line begin place))
    by_words (inl lt) =
        let part : take title (slice_range line begin slashes) ≡ slice_range line begin (begin + title) =
        let size : title ≡ begin + title - begin = omega arith in
        take-take title (slashes - begin) (drop begin line) title_in ∙ ap (λ m. take m (drop begin line)) size in
        inr (begin + title, (omega (arith, lt, words_in), omega arith), subst (λ v. EndsWithColon v) part (colon lt))
    by_words (inr le) =
        let untitled : title ≡ 0 = none (omega (arith, le)) in
        let here : begin + title ≡ begin = omega (arith, untitled) in
        let at : first ≡ 0 = front (subst (λ m. begins_with_move (slice_range line m slashes) ≡ true) (sym here) cut) in
        let place : begin + title + first ≡ begin = omega (arith, untitled, at) in
        let unblank : blanks ≡ 0 = by_blanks (begin + title + end)
        (subst (λ m. blanks ≤ length (slice_range line m (begin + title + end))) place short) (subst (λ m. HasNoMoves (take blanks (slice_range line m (begin + title + end)))) place empty) in
        inl (omega (arith, untitled, at, unblank))
      where
        by_blanks : (to : ℕ) → blanks ≤ length (slice_range line begin to) → HasNoMoves (take blanks (slice_range line begin to)) → blanks ≡ 0
        by_blanks to low no_moves = by_size (cases_lt 0 blanks)
          where
            by_size : (0 < blanks) ⊎ (blanks ≤ 0) → blanks ≡ 0
            by_size (inl more) =
                let zero_at : begin + 0 ≡ begin = omega arith in
                let here : get_or (slice_range line begin to) 0 0 ≡ get_or rest 0 0 =
                get_or-take (to - begin) rest 0 0 (omega (arith, more, low, part_long line begin to)) in
                moves_zero (slice_range line begin to) blanks (ap is_capital here ∙ (move_parts rest is).0) no_moves
            by_size (inr none_there) = omega (arith, none_there)
