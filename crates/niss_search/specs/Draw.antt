-- A canonical sequence by the words of a generator.
use Rattle.std.specs.Prelude.{ℕ, zero, suc, ◌*◌, ◌/◌, ◌^◌, List, [], ◌∷◌, length, filter, Option, Some}
use Rattle.std.specs.List.{slice_index_or}
use Rattle.niss_moves.specs.Canonical.{may_follow, turn_order}
use Rattle.niss_search.specs.Names.{Turn, no_turn}
use Rattle.rand_pcg.specs.Lcg.{Lcg, advance}
use Rattle.rand_pcg.specs.Pcg.{multiplier_64, pcg32}

-- the turns that may stand directly after the last one, in turn order
abbrev pub choices : Option Turn → List Turn
choices last = filter (may_follow last) turn_order

-- The one that the word w picks: of k choices that with the index w * k / 2^32. (There always is one.)
abbrev pub choice : Option Turn → ℕ → Turn
choice last w =
    slice_index_or (choices last) (w * length (choices last) / 2 ^ 32) no_turn

-- the turns that words pick, each after the one before it
unfoldable pub draw : Option Turn → List ℕ → List Turn
draw last [] = []
draw last (w ∷ ws) = choice last w ∷ draw (Some (choice last w)) ws

-- the next n words of a generator
unfoldable pub next_words : ℕ → Lcg → List ℕ
next_words zero g = []
next_words (suc n) g = (pcg32 g).0 ∷ next_words n (pcg32 g).1

-- the generator n words further on
abbrev pub after_words : ℕ → Lcg → Lcg
after_words n g = advance 64 multiplier_64 n g
