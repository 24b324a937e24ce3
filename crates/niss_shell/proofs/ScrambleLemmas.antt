-- Scrambles that are written one after another.
use Rattle.niss_shell.proofs.Names.{◌≡◌, ℕ, zero, suc, ◌+◌, ◌*◌, ◌≤◌, ◌<◌, None, List, [], ◌∷◌, ◌++◌, take, drop, refl, sym, ap, ◌∙◌}
use Rattle.niss_shell.proofs.Names.{subst, append-nil, arith, flat_map, flat_map-append, take-append-drop, map-range_with_len_more}
use Rattle.niss_shell.proofs.Names.{take-map-range_with_len, next_words, after_words, draw, Lcg, state_after, scramble, scrambles}
use Rattle.niss_shell.proofs.Names.{turns_line, scramble_text, AnswerState, Delivered, TargetCall, Bool, true, false}
use Rattle.niss_shell.proofs.StateLemmas.{delivers_more, refuses_front}

-- steps and more steps of a generator
state_after-add : (w k p m n s : ℕ) → state_after w k p n (state_after w k p m s) ≡ state_after w k p (m + n) s
unfolding state_after
state_after-add w k p zero n s = let e : n ≡ 0 + n = omega arith in ap (λ j. state_after w k p j s) e
state_after-add w k p (suc m) n s =
    let e : suc (m + n) ≡ suc m + n = omega arith in
    state_after-add w k p m n _ ∙ ap (λ j. state_after w k p j s) e

-- the generator after one scramble more
pub after_scramble : (turns i : ℕ) (g : Lcg) → after_words turns (after_words (turns * i) g) ≡ after_words (turns * (i + 1)) g
after_scramble turns i g =
    let e : turns * i + turns ≡ turns * (i + 1) = omega arith in
    ap (λ s. record g { state = s }) (state_after-add _ _ _ _ _ _) ∙ ap (λ n. after_words n g) e

-- the line of the next scramble
pub line_of_next : (turns i : ℕ) (g : Lcg) {rng : Lcg} → rng ≡ after_words (turns * i) g → turns_line (draw None (next_words turns rng)) ≡ turns_line (scramble turns g i)
line_of_next turns i g e = ap (λ x. turns_line (draw None (next_words turns x))) e

pub no_scramble : (turns : ℕ) (g : Lcg) → g ≡ after_words (turns * 0) g
unfolding state_after
no_scramble turns g = let e : 0 ≡ turns * 0 = omega arith in ap (λ n. after_words n g) e

-- the text with one scramble more
text_more : (turns i : ℕ) (g : Lcg) → scramble_text turns (i + 1) g ≡ scramble_text turns i g ++ turns_line (scramble turns g i)
text_more turns i g =
    ap (flat_map turns_line) (map-range_with_len_more (scramble turns g) 0 i i (omega arith))
    ∙ flat_map-append turns_line (scrambles turns i g) (scramble turns g i ∷ [])
    ∙ ap (λ t. scramble_text turns i g ++ t) (append-nil (turns_line (scramble turns g i)))

-- the line of the first one
pub one_scramble : (turns : ℕ) (g : Lcg) → turns_line (draw None (next_words turns g)) ≡ turns_line (scramble turns g 0)
one_scramble turns g = line_of_next turns 0 g (no_scramble turns g)

-- the text begins with that of the first scrambles
text_front : (turns i count : ℕ) (g : Lcg) → i ≤ count
    → scramble_text turns i g ++ flat_map turns_line (drop i (scrambles turns count g)) ≡ scramble_text turns count g
text_front turns i count g h =
    let front = take-map-range_with_len (scramble turns g) 0 count i h in
    ap (λ xs. flat_map turns_line xs ++ flat_map turns_line (drop i (scrambles turns count g))) (sym front)
    ∙ sym (flat_map-append turns_line (take i (scrambles turns count g)) (drop i (scrambles turns count g)))
    ∙ ap (flat_map turns_line) (take-append-drop i (scrambles turns count g))

-- what an output takes of it

module _ {W : Type 0} (call : W → TargetCall → W → Type 0) where
  pub written_more : (turns i : ℕ) (g : Lcg) (line : List ℕ) (a b c : AnswerState W)
      → line ≡ turns_line (scramble turns g i) → Delivered call false (scramble_text turns i g) 0 a b → Delivered call false line 0 b c
      → Delivered call false (scramble_text turns (i + 1) g) 0 a c
  written_more turns i g line a b c e p q =
      delivers_more call false (scramble_text turns i g) line (scramble_text turns (i + 1) g) 0 0 0 a b c
      (ap (λ l. scramble_text turns i g ++ l) e ∙ sym (text_more turns i g)) refl p q

  -- what waits is written at the end, or a write is refused
  pub all_written : (refused : Bool) (turns : ℕ) {i count : ℕ} (g : Lcg) (a b c : AnswerState W) → i ≡ count
      → Delivered call false (scramble_text turns i g) 0 a b → Delivered call refused [] 0 b c → Delivered call refused (scramble_text turns count g) 0 a c
  all_written refused turns {count = count} g a b c e p q =
      delivers_more call refused (scramble_text turns count g) [] (scramble_text turns count g) 0 0 0 a b c (append-nil (scramble_text turns count g)) refl
      (subst (λ n. Delivered call false (scramble_text turns n g) 0 a b) e p) q

  pub refused_line : (turns i count : ℕ) (g : Lcg) (line : List ℕ) (a b c : AnswerState W)
      → i < count → line ≡ turns_line (scramble turns g i) → Delivered call false (scramble_text turns i g) 0 a b → Delivered call true line 0 b c
      → Delivered call true (scramble_text turns count g) 0 a c
  refused_line turns i count g line a b c h e p q =
      let rest = flat_map turns_line (drop (i + 1) (scrambles turns count g)) in
      let more = scramble_text turns (i + 1) g in
      refuses_front call more rest (scramble_text turns count g) 0 0 a c (text_front turns (i + 1) count g (omega arith)) (omega arith)
      (delivers_more call true (scramble_text turns i g) line more 0 0 0 a b c
      (ap (λ l. scramble_text turns i g ++ l) e ∙ sym (text_more turns i g)) refl p q)
