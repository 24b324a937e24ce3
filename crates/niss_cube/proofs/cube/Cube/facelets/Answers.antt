use Rattle.niss_cube.proofs.Words.{◌≡◌, ◌∙◌, sym, Place, List, Token, effect, to_top, about_vertical, rotation_if, map_of, letters, effect-append}
use Rattle.niss_cube.proofs.cube.Cube.facelets.Goals as goal

pub returns : goal.returns
returns c =
    let r = c.args.rotation in
    let e : Place → Place = map_of c.args.self.now in
    let top : List Token = rotation_if (to_top r.top) in
    let vertical : List Token = rotation_if (about_vertical r.vertical) in
    let held : c.rotated_if-held.result ≡ letters (λ q. effect top (e q)) = rw c.to_top.ensures.value at c.rotated_if-held.ensures e c.text.ensures in
    let turned : c.rotated_if.result ≡ letters (λ q. effect vertical (effect top (e q))) = rw c.about_vertical.ensures at c.rotated_if.ensures (λ q. effect top (e q)) held in
    turned ∙ (λ i. letters (λ q. sym (effect-append top vertical (e q)) i))
