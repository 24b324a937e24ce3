-- The cube after a solution, turn by turn.
use Rattle.std.proofs.Common.{◌≡◌, refl, ap, sym, ◌∙◌, ℕ, ◌+◌, ◌<◌, List, [], ◌∷◌, length, take, get_or}
use Rattle.std.specs.Prelude.{fold}
use Rattle.std.proofs.lemmas.Grind.{fold-append}
use Rattle.std.proofs.lemmas.List.{take_more}
use Rattle.niss_moves.specs.Effects.{turned, inverse_turn, effect_of_turns}
use Rattle.niss_moves.specs.Places.{Place, IsPlace, SameMap}
use Rattle.niss_moves.specs.declared.turn.Turn.{Turn}
use Rattle.niss_cube.specs.Map.{map_of}
use Rattle.niss_cube.specs.declared.cube.Cube.{Cube}
use Rattle.niss_search.specs.BothSides.{turned_before}

-- turns after a map
abbrev pub after_turn : (Place → Place) → Turn → Place → Place
after_turn f t q = turned t (f q)

pub all_effect : (f : Place → Place) (ts : List Turn) (q : Place) → effect_of_turns ts (f q) ≡ fold after_turn f ts q
all_effect f [] q = refl
all_effect f (t ∷ ts) q = all_effect (after_turn f t) ts q

-- turns bring maps that are the same to maps that are the same
pub after_same : (ts : List Turn) (d e : Place → Place) → SameMap d e → SameMap (fold after_turn d ts) (fold after_turn e ts)
after_same [] d e same = same
after_same (t ∷ ts) d e same = after_same ts (after_turn d t) (after_turn e t) (λ q p. ap (turned t) (same q p))

-- one turn more on the inverse
pub before_next : ((t : Turn) (q : Place) → IsPlace q → IsPlace (turned t q)) → (f : Place → Place) (c d : Cube) (ts : List Turn) (i : ℕ)
    (none u : Turn) → i < length ts → u ≡ inverse_turn (get_or ts i none)
    → SameMap (map_of c) (fold turned_before f (take i ts)) → SameMap (map_of d) (λ q. map_of c (turned u q))
    → SameMap (map_of d) (fold turned_before f (take (i + 1) ts))
before_next stay f c d ts i none u l is before after q p =
    after q p ∙ before (turned u q) (stay u q p) ∙ ap (λ (w : Turn). fold turned_before f (take i ts) (turned w q)) is
    ∙ (λ j. sym (fold-append turned_before f (take i ts) (get_or ts i none ∷ [])) j q)
    ∙ (λ j. fold turned_before f (sym (take_more ts i none l) j) q)
