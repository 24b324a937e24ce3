-- Where a turn of several layers begins a text, or a move by itself.
use Rattle.std.proofs.Common.{◌≡◌, ℕ, ◌+◌, ◌-◌, ◌<◌, ◌≤◌, ◌⊎◌, inl, inr, Bool, true, false, not, ◌||◌, ◌&&◌, ◌==◌, List, length, take, drop, get_or, slice_range, sym, subst, ap, ◌∙◌, length-drop, arith}
use Rattle.std.proofs.lemmas.Bool.{cases_lt, and_parts, or_left, or_right, false≢true, false_from_ne_true}
use Rattle.std.proofs.lemmas.Bool.Decides.{nat_tests}
use Rattle.std.proofs.lemmas.List.{drop-drop, drop-take, get_or-drop, get_or-take, length-take-le}
use Rattle.niss_text.specs.Signs.{is_digit}
use Rattle.niss_text.specs.Doubts.{is_capital, is_letter}
use Rattle.niss_text.specs.Kept.{begins_with_move}
unfoldable use Rattle.niss_text.specs.Kept.{begins_with_layers, begins_with_turn}
use Rattle.niss_text.proofs.WordLemmas.{beyond, cut_before, move_parts, slash_begins}

-- what such a turn is
pub record HasLayers (text : List ℕ) : Type 0 where
  pub digit : is_digit (get_or text 0 0) ≡ true
  pub capital : is_capital (get_or text 1 0) ≡ true
  pub wide : (get_or text 2 0 == 119) ≡ true
  pub ended : not (is_letter (get_or text 3 0)) ≡ true

pub layers_parts : (text : List ℕ) → begins_with_layers text ≡ true → HasLayers text
unfolding begins_with_layers
layers_parts text is =
    let ended : Bool = not (is_letter (get_or text 3 0)) in
    let first = and_parts (is_digit (get_or text 0 0)) (is_capital (get_or text 1 0) && ((get_or text 2 0 == 119) && ended)) is in
    let second = and_parts (is_capital (get_or text 1 0)) ((get_or text 2 0 == 119) && ended) first.1 in
    let third = and_parts (get_or text 2 0 == 119) ended second.1 in
    record { digit = first.0; capital = second.0; wide = third.0; ended = third.1 }

layers_are : (text : List ℕ) → HasLayers text → begins_with_layers text ≡ true
unfolding begins_with_layers
layers_are text has =
    ap (λ v. v && (is_capital (get_or text 1 0) && ((get_or text 2 0 == 119) && not (is_letter (get_or text 3 0))))) has.digit
    ∙ ap (λ v. v && ((get_or text 2 0 == 119) && not (is_letter (get_or text 3 0)))) has.capital
    ∙ ap (λ v. v && not (is_letter (get_or text 3 0))) has.wide ∙ has.ended

no_both : (b : ℕ) → is_digit b ≡ true → is_capital b ≡ true → ⊥
no_both b digit capital = grind (arith, nat_tests)

-- no text begins with both
pub not_both : (text : List ℕ) → begins_with_layers text ≡ true → begins_with_move text ≡ true → ⊥
not_both text layers move = no_both (get_or text 0 0) (layers_parts text layers).digit (move_parts text move).0

turn_none : (text : List ℕ) → begins_with_move text ≡ false → begins_with_layers text ≡ false → begins_with_turn text ≡ false
unfolding begins_with_turn
turn_none text move layers = ap (λ v. v || begins_with_layers text) move ∙ layers

-- a text doesn't begin so if its first word is neither
pub turn_by_word : (text : List ℕ) → (begins_with_move text ≡ true → ⊥) → (begins_with_layers text ≡ true → ⊥) → begins_with_turn text ≡ false
turn_by_word text move layers = turn_none text (false_from_ne_true (begins_with_move text) move) (false_from_ne_true (begins_with_layers text) layers)

no_move : (text : List ℕ) → begins_with_turn text ≡ false → begins_with_move text ≡ false
unfolding begins_with_turn
no_move text none = false_from_ne_true (begins_with_move text) (λ is. false≢true (sym none ∙ or_left (begins_with_move text) (begins_with_layers text) is))

no_layers : (text : List ℕ) → begins_with_turn text ≡ false → begins_with_layers text ≡ false
unfolding begins_with_turn
no_layers text none = false_from_ne_true (begins_with_layers text) (λ is. false≢true (sym none ∙ or_right (begins_with_move text) (begins_with_layers text) is))

digit_none : (b : ℕ) → (b ≡ 47) ⊎ (b ≡ 0) → is_digit b ≡ true → ⊥
digit_none b (inl is) digit = grind (arith, nat_tests)
digit_none b (inr is) digit = grind (arith, nat_tests)

capital_none : (b : ℕ) → (b ≡ 47) ⊎ (b ≡ 0) → is_capital b ≡ true → ⊥
capital_none b (inl is) capital = grind (arith, nat_tests)
capital_none b (inr is) capital = grind (arith, nat_tests)

wide_none : (b : ℕ) → (b ≡ 47) ⊎ (b ≡ 0) → (b == 119) ≡ true → ⊥
wide_none b (inl is) wide = grind (arith, nat_tests)
wide_none b (inr is) wide = grind (arith, nat_tests)

-- at a slash, or at its end, a text has no byte of such a turn
at_end : (text : List ℕ) (n : ℕ) → (n < length text → get_or text n 0 ≡ 47) → (get_or text n 0 ≡ 47) ⊎ (get_or text n 0 ≡ 0)
at_end text n slash = by_length (cases_lt n (length text))
  where
    by_length : (n < length text) ⊎ (length text ≤ n) → (get_or text n 0 ≡ 47) ⊎ (get_or text n 0 ≡ 0)
    by_length (inl lt) = inl (slash lt)
    by_length (inr le) = inr (beyond text n le)

slash_layers : (text : List ℕ) → (0 < length text → get_or text 0 0 ≡ 47) → begins_with_layers text ≡ false
slash_layers text slash = false_from_ne_true (begins_with_layers text) (λ is. digit_none (get_or text 0 0) (at_end text 0 slash) (layers_parts text is).digit)

cut_layers : (text : List ℕ) (n : ℕ) → 0 < n → n ≤ length text → (n < length text → get_or text n 0 ≡ 47) → begins_with_layers (take n text) ≡ false → begins_with_layers text ≡ false
cut_layers text n some fits slash none = false_from_ne_true (begins_with_layers text) (λ is. by_parts (layers_parts text is))
  where
    end : (k : ℕ) → n ≡ k → (get_or text k 0 ≡ 47) ⊎ (get_or text k 0 ≡ 0)
    end k same = subst (λ m. (get_or text m 0 ≡ 47) ⊎ (get_or text m 0 ≡ 0)) same (at_end text n slash)

    by_parts : HasLayers text → ⊥
    by_parts has = by_place (cases_lt 1 n) (cases_lt 2 n)
      where
        letter : (3 < n) ⊎ (n ≤ 3) → not (is_letter (get_or (take n text) 3 0)) ≡ true
        letter (inl lt) = ap (λ b. not (is_letter b)) (get_or-take n text 3 0 lt) ∙ has.ended
        letter (inr le) = ap (λ b. not (is_letter b)) (beyond (take n text) 3 (omega (arith, le, length-take-le n text fits)))

        by_place : (1 < n) ⊎ (n ≤ 1) → (2 < n) ⊎ (n ≤ 2) → ⊥
        by_place (inr le) any = capital_none (get_or text 1 0) (end 1 (omega (arith, some, le))) has.capital
        by_place (inl lt) (inr le) = wide_none (get_or text 2 0) (end 2 (omega (arith, lt, le))) has.wide
        by_place (inl lt) (inl more) = false≢true (sym none ∙ layers_are (take n text) (record {
          digit = ap is_digit (get_or-take n text 0 0 some) ∙ has.digit;
          capital = ap is_capital (get_or-take n text 1 0 lt) ∙ has.capital;
          wide = ap (λ b. b == 119) (get_or-take n text 2 0 more) ∙ has.wide;
          ended = letter (cases_lt 3 n);
        }))

-- a text that begins with neither in front of a slash, or of its end, begins with none there
cut_turn : (text : List ℕ) (n : ℕ) → 0 < n → n ≤ length text → (n < length text → get_or text n 0 ≡ 47) → begins_with_turn (take n text) ≡ false → begins_with_turn text ≡ false
cut_turn text n some fits slash none = turn_none text
    (cut_before text n some fits slash (no_move (take n text) none)) (cut_layers text n some fits slash (no_layers (take n text) none))

slash_turn : (text : List ℕ) → (0 < length text → get_or text 0 0 ≡ 47) → begins_with_turn text ≡ false
slash_turn text slash = turn_none text (slash_begins text slash) (slash_layers text slash)

-- no move by itself, and no turn of several layers, stands where what is said after the moves begins: at the slashes, or before them
pub comment_begins : (line : List ℕ) (slashes body e : ℕ) → body ≤ slashes → slashes ≤ length line → e ≤ slashes - body → (slashes < length line → get_or line slashes 0 ≡ 47) →
    (e < length (slice_range line body slashes) → begins_with_turn (drop e (slice_range line body slashes)) ≡ false) → begins_with_turn (drop (body + e) line) ≡ false
comment_begins line slashes body e order within fits slash none = by_end (cases_lt e (slashes - body))
  where
    by_end : (e < slashes - body) ⊎ (slashes - body ≤ e) → begins_with_turn (drop (body + e) line) ≡ false
    by_end (inl lt) =
        let n : ℕ = slashes - body - e in
        let rest : List ℕ = drop (body + e) line in
        let long : length (slice_range line body slashes) ≡ slashes - body =
        length-take-le (slashes - body) (drop body line) (omega (arith, length-drop body line, order, within)) in
        let split : e + n ≡ slashes - body = omega (arith, lt) in
        let front : drop e (slice_range line body slashes) ≡ take n rest =
        ap (λ k. drop e (take k (drop body line))) (sym split) ∙ drop-take e n (drop body line) ∙ ap (λ v. take n v) (drop-drop e body line) in
        let there : body + e + n ≡ slashes = omega (arith, order, lt) in
        cut_turn rest n (omega (arith, lt)) (omega (arith, length-drop (body + e) line, within, there))
        (λ more. get_or-drop (body + e) line n 0 ∙ ap (λ k. get_or line k 0) there ∙ slash (omega (arith, more, length-drop (body + e) line, there)))
        (subst (λ v. begins_with_turn v ≡ false) front (none (omega (arith, long, lt))))
    by_end (inr le) =
        let there : body + e + 0 ≡ slashes = omega (arith, order, fits, le) in
        slash_turn (drop (body + e) line) (λ some.
        get_or-drop (body + e) line 0 0 ∙ ap (λ k. get_or line k 0) there ∙ slash (omega (arith, some, length-drop (body + e) line, there)))

pub none_at_end : (line : List ℕ) (at : ℕ) → length line ≤ at → begins_with_turn (drop at line) ≡ false
none_at_end line at le = slash_turn (drop at line) (λ some. absurd (omega (arith, some, length-drop at line, le)))
