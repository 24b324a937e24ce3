-- What an output takes: a text, the lines of a search, and what stands after them.
use Rattle.niss_shell.proofs.Names.{◌≡◌, Bool, true, ℕ, ◌+◌, ◌≤◌, false, Option, Result, Ok, Err, List, [], ◌∷◌, ◌++◌, inl, inr}
use Rattle.niss_shell.proofs.Names.{length, refl, sym, ap, ◌∙◌, subst, append_assoc, arith, OnOk, OnErr, is_err}
use Rattle.niss_shell.proofs.Names.{flat_map, Turn, DeviceFault, Output, WentThrough, StoppedIn, TargetCall, line_feed, none_line}
use Rattle.niss_shell.proofs.Names.{solution_line, solve_text, count_text, output_state, Delivered, Delivers, TakesLine}
use Rattle.niss_shell.proofs.Names.{Looked}
use Rattle.niss_shell.proofs.StateLemmas.{delivers_nothing, delivers_more, refuses_front, looks_meanwhile}

-- what is written of a search, by what it found
pub same_count : {least : Option ℕ} (found : Option ℕ) (count solutions nodes : ℕ) {looks : ℕ} → least ≡ found → count ≡ solutions → nodes ≡ looks
    → count_text least count nodes ≡ count_text found solutions looks
same_count found count solutions nodes e f h =
    ap (λ l. count_text l count nodes) e ∙ ap (λ s. count_text found s nodes) f ∙ ap (λ k. count_text found solutions k) h

exact_looks : (refused : Bool) (looks before after : ℕ) → after ≡ before + looks → Looked refused looks before after
exact_looks true looks before after e = (omega (arith, e), omega (arith, e))
exact_looks false looks before after e = e

module _ {W : Type 0} (call : W → TargetCall → W → Type 0) where
  -- what a text does to an output, as a sink says it

  pub line_taken : (r : Result (Unit {0}) DeviceFault) {text line : List ℕ} (old new : Output W)
      → text ≡ line → new.pending.items ≡ [] → Delivers call r text old new → OnOk r (TakesLine call false line old new)
  line_taken (Ok u) old new e none d =
      (none, λ looks. subst (λ t. Delivered call false t 0 (output_state old looks) (output_state new looks)) e (d looks))
  line_taken (Err x) old new e none d = tt

  pub line_refused : (r : Result (Unit {0}) DeviceFault) {text line : List ℕ} (old new : Output W)
      → text ≡ line → new.pending.items ≡ [] → Delivers call r text old new → OnErr r (TakesLine call true line old new)
  line_refused (Ok u) old new e none d = tt
  line_refused (Err x) old new e none d =
      (none, λ looks. subst (λ t. Delivered call true t 0 (output_state old looks) (output_state new looks)) e (d looks))

  pub reported_after : (r : Result (Unit {0}) DeviceFault) {piece text : List ℕ} (looks before after : ℕ) (old new : Output W)
      → piece ≡ text → after ≡ before + looks → Delivers call r piece old new
      → Delivered call (is_err r) text looks (output_state old before) (output_state new after)
  reported_after r {text = text} looks before after old new e exact d =
      looks_meanwhile call (is_err r) text looks after before after old new (exact_looks (is_err r) looks before after exact)
      (subst (λ t. Delivered call (is_err r) t 0 (output_state old after) (output_state new after)) e (d after))

  -- the lines of solutions are taken one after the other

  walk_writes : (ps : List (List Turn)) (a b : Output W) (looks : ℕ) → WentThrough (λ old p new. TakesLine call false (solution_line p) old new) a ps b
      → Delivered call false (flat_map solution_line ps) 0 (output_state a looks) (output_state b looks)
  walk_writes [] a b looks h =
      subst (λ k. Delivered call false [] 0 (output_state a looks) (output_state k looks)) h (delivers_nothing call (output_state a looks))
  walk_writes (p ∷ ps) a b looks h =
      delivers_more call false (solution_line p) (flat_map solution_line ps) (flat_map solution_line (p ∷ ps)) 0 0 0
      (output_state a looks) (output_state h.0 looks) (output_state b looks) refl refl (h.1.0.1 looks) (walk_writes ps h.0 b looks h.1.1)

  abbrev Stopped : List (List Turn) → Output W → Output W → Type 0
  Stopped ps a b = StoppedIn (λ old p new. TakesLine call false (solution_line p) old new) (λ old p new. TakesLine call true (solution_line p) old new) a ps b

  stop_writes : (ps : List (List Turn)) (a b : Output W) (looks : ℕ) → Stopped ps a b
      → Delivered call true (flat_map solution_line ps) 0 (output_state a looks) (output_state b looks)
  stop_writes [] a b looks h = absurd h
  stop_writes (p ∷ ps) a b looks (inl h) =
      refuses_front call (solution_line p) (flat_map solution_line ps) (flat_map solution_line (p ∷ ps)) 0 0
      (output_state a looks) (output_state b looks) refl (omega arith) (h.1 looks)
  stop_writes (p ∷ ps) a b looks (inr h) =
      delivers_more call true (solution_line p) (flat_map solution_line ps) (flat_map solution_line (p ∷ ps)) 0 0 0
      (output_state a looks) (output_state h.0 looks) (output_state b looks) refl refl (h.1.0.1 looks) (stop_writes ps h.0 b looks h.1.1)

  pub unsolved : (n : ℕ) (ps : List (List Turn)) (a b : Output W) (looks before after : ℕ)
      → Stopped ps a b → before ≤ after → after ≤ before + looks
      → Delivered call true (solve_text n ps) looks (output_state a before) (output_state b after)
  unsolved n ps a b looks before after h rises most =
      looks_meanwhile call true (solve_text n ps) looks after before after a b (rises, most)
      (refuses_front call (flat_map solution_line ps) (none_line n (length ps) ++ line_feed ∷ []) (solve_text n ps) 0 0
      (output_state a after) (output_state b after) (sym (append_assoc (flat_map solution_line ps) (none_line n (length ps)) (line_feed ∷ []))) (omega arith)
      (stop_writes ps a b after h))

  pub nothing_waits : (ps : List (List Turn)) (a b : Output W) → Stopped ps a b → b.pending.items ≡ []
  nothing_waits [] a b h = absurd h
  nothing_waits (p ∷ ps) a b (inl h) = h.0
  nothing_waits (p ∷ ps) a b (inr h) = nothing_waits ps h.0 b h.1.1

  -- the solutions, and what stands after them
  pub solved : (r : Result (Unit {0}) DeviceFault) (n : ℕ) {count : ℕ} (solutions : List (List Turn)) {piece : List ℕ} (looks before after : ℕ) (a b c : Output W)
      → WentThrough (λ old p new. TakesLine call false (solution_line p) old new) a solutions b
      → count ≡ length solutions → after ≡ before + looks → piece ≡ none_line n count ++ line_feed ∷ [] → Delivers call r piece b c
      → Delivered call (is_err r) (solve_text n solutions) looks (output_state a before) (output_state c after)
  solved r n solutions {piece = piece} looks before after a b c h e exact f d =
      delivers_more call (is_err r) (flat_map solution_line solutions) piece (solve_text n solutions) looks 0 looks
      (output_state a before) (output_state b after) (output_state c after)
      (ap (λ t. flat_map solution_line solutions ++ t) (f ∙ ap (λ k. none_line n k ++ line_feed ∷ []) e)
      ∙ sym (append_assoc (flat_map solution_line solutions) (none_line n (length solutions)) (line_feed ∷ []))) (omega arith)
      (looks_meanwhile call false (flat_map solution_line solutions) looks after before after a b exact (walk_writes solutions a b after h)) (d after)
