use Rattle.niss_search.proofs.Words.{◌≡◌, ◌∙◌, sym, rules, get_or}
use Rattle.niss_moves.specs.Indices.{face_index}
use Rattle.niss_search.proofs.tables.followers.Followers.after.Goals as goal

pub returns-in-Some : goal.returns-in-Some
returns-in-Some c =
    let list = c.index-self-last.result in
    let is : list ≡ get_or c.self.inside.after_faces (face_index c.in-Some.last.face) list = search rules in
    rw (c.in-Some.is, c.as_slice.ensures.value, ← c.self.view_is, sym c.index-self-last.is ∙ is)
    (c.self.inside.after_are c.in-Some.last.face list)
