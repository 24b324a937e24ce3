-- How many looks a search made that ended at the first solution, and one after a sequence, by what came of it.
use Rattle.std.proofs.Common.{◌≡◌, inl, inr, ℕ, suc, ◌+◌, ◌<◌, Bool, true, false, cond, Option, None, Some, List, [], ◌∷◌, ◌++◌, refl, sym, ap, ◌∙◌, arith}
use Rattle.std.specs.Prelude.{nat_le, filter}
use Rattle.std.proofs.lemmas.Bool.Decides.{leb_tells}
use Rattle.niss_search.specs.Deepening.{EndsAt, looks_before, paths_before}
use Rattle.niss_search.specs.Delivery.{WentThrough, StoppedAt}
use Rattle.niss_shell.specs.Names.{Turn}
use Rattle.niss_embed.specs.SolveAfter.{up_to_first}
use Rattle.niss_embed.specs.declared.line.search.CountedSolutions.{CountedSolutions}
use Rattle.niss_embed.specs.declared.line.search.SolutionLines.{SolutionLines}
use Rattle.niss_embed.proofs.CountLemmas.{CountsPath, RefusesMore}
use Rattle.niss_embed.proofs.WrittenLemmas.{TakesPath, RefusesPath}

-- a search that counts none ends at the first solution, if there is one
module _ (number : List Turn → ℕ) (whole made : ℕ) (all : List (List Turn)) (a b : CountedSolutions) (most : a.most ≡ 0) where
  pub first_refused : StoppedAt CountsPath RefusesMore number a all b made → made ≡ up_to_first number whole all
  first_refused s = by_front s.front s.listed s.went where
    by_front : (front : List (List Turn)) → all ≡ front ++ s.path ∷ s.rest → WentThrough CountsPath a front s.between → made ≡ up_to_first number whole all
    by_front [] listed went = s.at ∙ ap (up_to_first number whole) (sym listed)
    by_front (q ∷ qs) listed went = absurd (omega (arith, went.1.0.fewer, most))

  pub none_came : WentThrough CountsPath a all b → whole ≡ up_to_first number whole all
  none_came = by_list all where
    by_list : (ps : List (List Turn)) → WentThrough CountsPath a ps b → whole ≡ up_to_first number whole ps
    by_list [] h = refl
    by_list (p ∷ ps) h = absurd (omega (arith, h.1.0.fewer, most))

  pub before_first : made < whole → WentThrough CountsPath a (filter (λ p. nat_le (number p) made) all) b → made < up_to_first number whole all
  before_first less = by_list all where
    by_test : (p : List Turn) (rest : List (List Turn)) (t : Bool) → nat_le (number p) made ≡ t → WentThrough CountsPath a (cond t (p ∷ rest) rest) b → made < number p
    by_test p rest true is h = absurd (omega (arith, h.1.0.fewer, most))
    by_test p rest false is h = elim (leb_tells (number p) made) [
      | inl e ↦ absurd (let both : true ≡ false = sym e.0 ∙ is in cc)
      | inr e ↦ omega (arith, e.1)
    ]

    by_list : (ps : List (List Turn)) → WentThrough CountsPath a (filter (λ p. nat_le (number p) made) ps) b → made < up_to_first number whole ps
    by_list [] h = less
    by_list (p ∷ ps) h = by_test p (filter (λ q. nat_le (number q) made) ps) (nat_le (number p) made) refl h

-- A search that was stopped has made the looks before the solution that was refused.
pub record StoppedBy (es : List (Option (List Turn))) (m n old new : ℕ) : Type 0 where
  pub count : ℕ
  pub came : new ≡ old + count
  pub looks : n ≡ m + looks_before es count

pub stopped_by : (es : List (Option (List Turn))) (m : ℕ) (a : SolutionLines) (n : ℕ) (b : SolutionLines)
    → EndsAt TakesPath RefusesPath false es m a n b → StoppedBy es m n a.solutions b.solutions
stopped_by [] m a n b h = absurd h
stopped_by (None ∷ es) m a n b h = elim h [
  | inl r ↦ absurd (let both : false ≡ true = r.0 in cc)
  | inr k ↦
      let s = stopped_by es (suc m) a n b k in
      record { count = s.count; came = s.came; looks = omega (arith, s.looks) }
]
stopped_by (Some p ∷ es) m a n b h = elim h [
  | inl r ↦ record { count = 0; came = omega (arith, r.1.1.same_count); looks = omega (arith, r.1.0) }
  | inr k ↦
      let s = stopped_by es m k.0 n b k.1.1 in
      record { count = suc s.count; came = omega (arith, s.came, k.1.0.counted); looks = omega (arith, s.looks) }
]

-- One that was cut has handed out the solutions that its looks find.
pub record CutBy (es : List (Option (List Turn))) (m n old new : ℕ) : Type 0 where
  pub made : ℕ
  pub looks : n ≡ m + made
  pub came : new ≡ old + paths_before es made

pub cut_by : (es : List (Option (List Turn))) (m : ℕ) (a : SolutionLines) (n : ℕ) (b : SolutionLines)
    → EndsAt TakesPath RefusesPath true es m a n b → CutBy es m n a.solutions b.solutions
cut_by [] m a n b h = absurd h
cut_by (None ∷ es) m a n b h = elim h [
  | inl r ↦
      let same : a.solutions ≡ b.solutions = ap (λ (l : SolutionLines). l.solutions) r.1.1 in
      record { made = 0; looks = omega (arith, r.1.0); came = omega (arith, same) }
  | inr k ↦
      let s = cut_by es (suc m) a n b k in
      record { made = suc s.made; looks = omega (arith, s.looks); came = s.came }
]
cut_by (Some p ∷ es) m a n b h = elim h [
  | inl r ↦ absurd (let both : true ≡ false = r.0 in cc)
  | inr k ↦
      let s = cut_by es m k.0 n b k.1.1 in
      record { made = s.made; looks = s.looks; came = omega (arith, s.came, k.1.0.counted) }
]
