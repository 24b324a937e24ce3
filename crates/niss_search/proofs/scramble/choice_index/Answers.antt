use Rattle.niss_search.proofs.Words.{◌≡◌, ℕ, ◌-◌, ◌*◌, ◌/◌, ◌%◌, length, Some, Turn, subst, sym, refl, Option, choices, Face, U, D, R, L, F, B}
use Rattle.niss_moves.specs.Indices.{face_index}
use Rattle.niss_moves.specs.contracts.turn.Face.{the_type}
use denote.Enum.Declared.{tag_of}
use Rattle.niss_search.proofs.Bounds.{picked}
use Rattle.niss_search.proofs.scramble.choice_index.Goals as goal

tag : (f : Face) → face_index f ≡ tag_of the_type f
tag U = refl
tag D = refl
tag R = refl
tag L = refl
tag F = refl
tag B = refl

pub returns-in-Some : goal.returns-in-Some
returns-in-Some c =
    let w = c.from-word.result in
    let face = c.in-Some.last.face in
    let index = λ (number : ℕ). w * 15 / 4294967296 - (w * 15 / 4294967296 - w * 12 / 4294967296) * (number % 2) in
    let of_word : index (face_index face) ≡ c.args.word * length (choices (Some c.in-Some.last)) / 4294967296 =
    subst (λ (v : ℕ). index (face_index face) ≡ v * length (choices (Some c.in-Some.last)) / 4294967296) c.from-word.ensures (picked w c.in-Some.last) in
    let of_turn : index (face_index face) ≡ c.args.word * length (choices c.args.last) / 4294967296 =
    subst (λ (last : Option Turn). index (face_index face) ≡ c.args.word * length (choices last) / 4294967296) (sym c.in-Some.is) of_word in
    subst (λ (number : ℕ). index number ≡ c.args.word * length (choices c.args.last) / 4294967296) (tag face) of_turn
