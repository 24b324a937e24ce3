-- Where a move by itself begins a text.
use Rattle.std.proofs.Common.{◌≡◌, ℕ, zero, suc, ◌<◌, ◌≤◌, ◌⊎◌, inl, inr, Bool, true, false, ◌||◌, ◌&&◌, ◌==◌, List, [], ◌∷◌, length, take, drop, get_or, refl, sym, subst, ap, ◌∙◌, arith}
use Rattle.std.proofs.lemmas.Bool.{cases_lt, and_parts, or_cases, or_left, or_right, false≢true, false_from_ne_true}
use Rattle.std.proofs.lemmas.Bool.Decides.{nat_tests}
use Rattle.std.proofs.lemmas.List.{drop_all, drop_more, get_or-take, length-take-le}
use Rattle.niss_text.specs.Doubts.{is_capital}
unfoldable use Rattle.niss_text.specs.Kept.{is_over, begins_with_move}

pub over_end : (text : List ℕ) (at : ℕ) → length text ≤ at → is_over (drop at text) ≡ true
unfolding is_over
over_end text at le = ap is_over (drop_all at text le)

pub over_within : (text : List ℕ) (at : ℕ) → at < length text → is_over (drop at text) ≡ (get_or text at 0 == 32)
unfolding is_over
over_within text at lt = ap is_over (drop_more text at 0 lt)

-- what a move by itself is: a capital letter, and after it nothing, or a sign
pub move_parts : (text : List ℕ) → begins_with_move text ≡ true → (is_capital (get_or text 0 0) ≡ true)
    × ((is_over (drop 1 text) ≡ true) ⊎ ((((get_or text 1 0 == 50) || (get_or text 1 0 == 39)) ≡ true) × (is_over (drop 2 text) ≡ true)))
unfolding begins_with_move
move_parts text is =
    let sign : Bool = (get_or text 1 0 == 50) || (get_or text 1 0 == 39) in
    let parts = and_parts (is_capital (get_or text 0 0)) (is_over (drop 1 text) || (sign && is_over (drop 2 text))) is in
    (parts.0, after (or_cases (is_over (drop 1 text)) (sign && is_over (drop 2 text)) parts.1))
  where
    after : (is_over (drop 1 text) ≡ true) ⊎ ((((get_or text 1 0 == 50) || (get_or text 1 0 == 39)) && is_over (drop 2 text)) ≡ true) →
        (is_over (drop 1 text) ≡ true) ⊎ ((((get_or text 1 0 == 50) || (get_or text 1 0 == 39)) ≡ true) × (is_over (drop 2 text) ≡ true))
    after (inl over) = inl over
    after (inr signed) = inr (and_parts ((get_or text 1 0 == 50) || (get_or text 1 0 == 39)) (is_over (drop 2 text)) signed)

move_is : (text : List ℕ) → is_capital (get_or text 0 0) ≡ true →
    (is_over (drop 1 text) ≡ true) ⊎ ((((get_or text 1 0 == 50) || (get_or text 1 0 == 39)) ≡ true) × (is_over (drop 2 text) ≡ true)) → begins_with_move text ≡ true
unfolding begins_with_move
move_is text capital (inl over) =
    ap (λ v. v && (is_over (drop 1 text) || (((get_or text 1 0 == 50) || (get_or text 1 0 == 39)) && is_over (drop 2 text)))) capital
    ∙ or_left (is_over (drop 1 text)) (((get_or text 1 0 == 50) || (get_or text 1 0 == 39)) && is_over (drop 2 text)) over
move_is text capital (inr signed) =
    ap (λ v. v && (is_over (drop 1 text) || (((get_or text 1 0 == 50) || (get_or text 1 0 == 39)) && is_over (drop 2 text)))) capital
    ∙ or_right (is_over (drop 1 text)) (((get_or text 1 0 == 50) || (get_or text 1 0 == 39)) && is_over (drop 2 text))
    (ap (λ v. v && is_over (drop 2 text)) signed.0 ∙ signed.1)

-- what ends or has a blank there does so in front of a slash, or of its end
over_cut : (text : List ℕ) (n at : ℕ) → n ≤ length text → is_over (drop at text) ≡ true → is_over (drop at (take n text)) ≡ true
over_cut text n at fits over = by_place (cases_lt at n)
  where
    by_place : (at < n) ⊎ (n ≤ at) → is_over (drop at (take n text)) ≡ true
    by_place (inl lt) =
        over_within (take n text) at (omega (arith, lt, length-take-le n text fits)) ∙ ap (λ b. b == 32) (get_or-take n text at 0 lt)
        ∙ sym (over_within text at (omega (arith, lt, fits))) ∙ over
    by_place (inr le) = over_end (take n text) at (omega (arith, le, length-take-le n text fits))

slash_is_none : (b : ℕ) → b ≡ 47 → ((b == 50) || (b == 39)) ≡ true → ⊥
slash_is_none b is sign = grind (arith, nat_tests)

zero_is_none : (b : ℕ) → b ≡ 0 → ((b == 50) || (b == 39)) ≡ true → ⊥
zero_is_none b is sign = grind (arith, nat_tests)

pub beyond : (text : List ℕ) (at : ℕ) → length text ≤ at → get_or text at 0 ≡ 0
beyond [] at le = refl
beyond (b ∷ bytes) zero le = absurd (omega (arith, le))
beyond (b ∷ bytes) (suc at) le = beyond bytes at (omega (arith, le))

-- a text that has no move by itself in front of a slash, or of its end, has none there
pub cut_before : (text : List ℕ) (n : ℕ) → 0 < n → n ≤ length text → (n < length text → get_or text n 0 ≡ 47) → begins_with_move (take n text) ≡ false → begins_with_move text ≡ false
cut_before text n some fits slash none = false_from_ne_true (begins_with_move text) (λ is.
    let parts = move_parts text is in
    false≢true (sym none ∙ move_is (take n text) (ap is_capital (get_or-take n text 0 0 some) ∙ parts.0) (after (cases_lt 1 n) parts.1)))
  where
    sign_none : n ≤ 1 → ((get_or text 1 0 == 50) || (get_or text 1 0 == 39)) ≡ true → ⊥
    sign_none low sign = by_length (cases_lt 1 (length text))
      where
        one : n ≡ 1
        one = omega (arith, some, low)

        by_length : (1 < length text) ⊎ (length text ≤ 1) → ⊥
        by_length (inl lt) = slash_is_none (get_or text 1 0) (subst (λ k. get_or text k 0 ≡ 47) one (slash (omega (arith, one, lt)))) sign
        by_length (inr le) = zero_is_none (get_or text 1 0) (beyond text 1 le) sign

    after : (1 < n) ⊎ (n ≤ 1) → (is_over (drop 1 text) ≡ true) ⊎ ((((get_or text 1 0 == 50) || (get_or text 1 0 == 39)) ≡ true) × (is_over (drop 2 text) ≡ true)) →
        (is_over (drop 1 (take n text)) ≡ true) ⊎ ((((get_or (take n text) 1 0 == 50) || (get_or (take n text) 1 0 == 39)) ≡ true) × (is_over (drop 2 (take n text)) ≡ true))
    after far (inl over) = inl (over_cut text n 1 fits over)
    after (inl lt) (inr signed) = inr (
      subst (λ b. ((b == 50) || (b == 39)) ≡ true) (sym (get_or-take n text 1 0 lt)) signed.0,
      over_cut text n 2 fits signed.1,
    )
    after (inr le) (inr signed) = absurd (sign_none le signed.0)

pub slash_begins : (text : List ℕ) → (0 < length text → get_or text 0 0 ≡ 47) → begins_with_move text ≡ false
slash_begins text slash = false_from_ne_true (begins_with_move text) (λ is. by_length (cases_lt 0 (length text)) (move_parts text is).0)
  where
    capital_none : (b : ℕ) → (b ≡ 47) ⊎ (b ≡ 0) → is_capital b ≡ true → ⊥
    capital_none b (inl is) capital = grind (arith, nat_tests)
    capital_none b (inr is) capital = grind (arith, nat_tests)

    by_length : (0 < length text) ⊎ (length text ≤ 0) → is_capital (get_or text 0 0) ≡ true → ⊥
    by_length (inl lt) capital = capital_none (get_or text 0 0) (inl (slash lt)) capital
    by_length (inr le) capital = capital_none (get_or text 0 0) (inr (beyond text 0 le)) capital
