-- Turns that are made moves are cleaned as they are, and no more are left of them.
use Rattle.std.proofs.Common.{◌≡◌, ◌⊎◌, inl, inr, ◌<◌, ◌≤◌, refl, ap, sym, ◌∙◌, subst, arith, List, [], ◌∷◌, ◌++◌, length, map, append_assoc}
use Rattle.niss_moves.specs.declared.turn.Turn.{Turn}
use Rattle.niss_moves.specs.declared.token.Token.{Token}
use Rattle.niss_moves.specs.declared.token.Token.TheVariants as token
use Rattle.niss_moves.specs.Cleaning.{Clean, Cleans, IsRewriting, Rewrite, clean_turns, disorder}
use Rattle.niss_moves.specs.Rotations.{faces}

pub faces_of_turns : (s : List Turn) → faces (map token.Face s) ≡ s
faces_of_turns [] = refl
faces_of_turns (t ∷ s) = ap (λ (rest : List Turn). t ∷ rest) (faces_of_turns s)

faces_of_both : (s : List Turn) (t : List Token) → faces (map token.Face s ++ t) ≡ s ++ faces t
faces_of_both [] t = refl
faces_of_both (u ∷ s) t = ap (λ (rest : List Turn). u ∷ rest) (faces_of_both s t)

faces_of_three : (r s t : List Turn) → faces (map token.Face r ++ map token.Face s ++ map token.Face t) ≡ r ++ s ++ t
faces_of_three r s t =
    ap faces (append_assoc (map token.Face r) (map token.Face s) (map token.Face t))
    ∙ faces_of_both r (map token.Face s ++ map token.Face t)
    ∙ ap (λ (x : List Turn). r ++ x) (faces_of_both s (map token.Face t) ∙ ap (λ (x : List Turn). s ++ x) (faces_of_turns t))
    ∙ sym (append_assoc r s t)

pub cleaned_as_turns : (made first then : List Turn) (moves : List Token) (c : List Turn)
    → moves ≡ map token.Face made ++ map token.Face first ++ map token.Face then
    → ((s : List Turn) → Cleans s (clean_turns s))
    → ((s c d : List Turn) → Cleans s c → Cleans s d → c ≡ d)
    → Cleans (faces moves) c → c ≡ clean_turns (made ++ first ++ then)
cleaned_as_turns made first then moves c e all one h =
    let same : faces moves ≡ made ++ first ++ then = ap faces e ∙ faces_of_three made first then in
    one (made ++ first ++ then) c (clean_turns (made ++ first ++ then)) (subst (λ (s : List Turn). Cleans s c) same h) (all (made ++ first ++ then))

-- no rewriting leaves more turns, by the law that says what one does
module _ (lowers : (s t : List Turn) → IsRewriting s t → (length t < length s) ⊎ ((length t ≡ length s) × (disorder t < disorder s))) where
  no_more_by : (s t c : List Turn) → (length t < length s) ⊎ ((length t ≡ length s) × (disorder t < disorder s)) → length c ≤ length t → length c ≤ length s
  no_more_by s t c (inl less) rest = omega (arith, less, rest)
  no_more_by s t c (inr same) rest = omega (arith, same.0, rest)

  pub no_more_cleaned : (s c : List Turn) → Cleans s c → length c ≤ length s
  no_more_cleaned s c (Clean h) = omega arith
  no_more_cleaned s c (Rewrite {t = t} step rest) = no_more_by s t c (lowers s t step) (no_more_cleaned t c rest)
