-- Face turns taken from a sequence behind a rotation; sequences whose centres are brought home, and what is left of them.
use Rattle.niss_moves.proofs.Names.{Cleans, refl, ap, sym, ◌∙◌, subst, arith, append_assoc, ◌≡◌, ℕ, zero, suc, List, [], ◌∷◌, ◌++◌, length}
use Rattle.niss_moves.proofs.Names.{Some, map, ◌+◌, ◌<◌, ◌≤◌, Option, None, append-nil, take, drop, get_or, turned, effect_of_turns}
use Rattle.niss_moves.proofs.Names.{inverse, centre, Turn, Face, Power, Token, Rotation, U, Half, Axis, Slice, Place, opposite, expanded}
use Rattle.niss_moves.proofs.Names.{add-one, take_more, take_all, drop_all, at_drop_more, IsNext, Takes}
use Rattle.niss_moves.specs.Line.{Moves, joined_moves}
use Rattle.niss_moves.specs.Effects.{HasMeaning, effect, moved_by, inverse_power}
use Rattle.niss_moves.specs.Rotations.{faces, BasicMove, FaceTurn, WholeRotation, token_of_basic, faces_with, face_before}
use Rattle.niss_moves.specs.Rotations.{face_before_power, spelling, IsRotationOf, renamed_turn}
unfoldable use Rattle.niss_moves.specs.Cleaning.{rotation_left}
use Rattle.niss_moves.proofs.Effects.{effect-append, effect_of_expanded, meaning, one_meaning, next_rotation, is_next}
use Rattle.niss_moves.proofs.Effects.{effect_of_turns-append, turn_after, rotation_left_is, one_spelling, inverse_after, inverse_before}
use Rattle.niss_moves.proofs.Effects.{places_stay, renames_power}
use Rattle.niss_moves.proofs.Cleaned.{cleans_effect, clean_turns_are_clean, cleaning_ends, one_clean_list, canonical_stays}
use Rattle.niss_moves.proofs.Finite.{turn, rotation, every_face, every_power, every_turn, every_rotation, Rotations, Faces, Turns, Alike}
use Rattle.niss_moves.proofs.Finite.{holds, places_are_listed, places_differ, same_letters}
use Rattle.niss_moves.proofs.CanonicalLists.{canonical_in_order, canonical_grows}

abbrev pub before : Rotation → Turn → Turn
before r = renamed_turn (face_before r)

-- After the rotation, these basic moves are these turns and then that rotation.
record Pushes (r : Rotation) (moves : List BasicMove) (turns : List Turn) (n : Rotation) : Type 0 where
  faces : (rest : List Turn) → turns ++ map (before n) rest ≡ map (before r) (faces_with moves rest)
  effect : (q : Place) → effect (spelling n) (effect_of_turns turns q) ≡ effect (map token_of_basic moves) (effect (spelling r) q)

pushes_none : (r : Rotation) → Pushes r [] [] r
pushes_none r = record { faces = λ rest. refl; effect = λ q. refl }

pushes_turn : (r : Rotation) (f : Face) (p : Power) (u : Turn) (moves : List BasicMove) (turns : List Turn) (n : Rotation) → u ≡ before r (turn f p)
    → Pushes r moves turns n → Pushes r (FaceTurn f p ∷ moves) (u ∷ turns) n
pushes_turn r f p u moves turns n e h =
    rw e (record {
      faces = λ rest. ap (λ s. before r (turn f p) ∷ s) (h.faces rest);
      effect = λ q. h.effect (turned (before r (turn f p)) q) ∙ ap (effect (map token_of_basic moves)) (sym (turn_after r (turn f p) q));
    })

map_before : (r : Rotation) (a : Axis) (p : Power) (m : Rotation) → IsNext r a p m → (s : List Turn) → map (before m) s ≡ map (before r) (map (renamed_turn (face_before_power a p)) s)
map_before r a p m h [] = refl
map_before r a p m h (t ∷ s) = λ i. turn (h.faces t.face i) t.power ∷ map_before r a p m h s i

pushes_rotation : (r : Rotation) (a : Axis) (p : Power) (m : Rotation) (moves : List BasicMove) (turns : List Turn) (n : Rotation) → IsNext r a p m → Pushes m moves turns n
    → Pushes r (WholeRotation a p ∷ moves) turns n
pushes_rotation r a p m moves turns n next h =
    record {
      faces = λ rest. h.faces rest ∙ map_before r a p m next (faces_with moves rest);
      effect = λ q. h.effect q ∙ ap (effect (map token_of_basic moves)) (next.effect q);
    }

-- a rotation after which nothing follows
pushes_last : (r : Rotation) (a : Axis) (p : Power) (n : Rotation) → IsNext r a p n → Pushes r (WholeRotation a p ∷ []) [] n
pushes_last r a p n next = pushes_rotation r a p n [] [] n next (pushes_none n)

-- the same for a move
takes : (r : Rotation) (k : Token) (turns : List Turn) (n : Rotation) (moves : List BasicMove) → expanded k ≡ moves → Pushes r moves turns n → Takes r k turns n
takes r k turns n moves e h =
    let w : Pushes r (expanded k) turns n = rw e h in
    record { faces = w.faces; effect = λ q. w.effect q ∙ effect_of_expanded k (effect (spelling r) q) }

-- the arms of the code
pub takes_face : (r : Rotation) (k : Token) (t u : Turn) → k ≡ Token.Face t → u ≡ before r t → Takes r k (u ∷ []) r
takes_face r k t u is e = takes r k (u ∷ []) r _ (ap expanded is) (pushes_turn r t.face t.power u [] [] r e (pushes_none r))

pub takes_wide : (r : Rotation) (k : Token) (f o : Face) (p : Power) (u : Turn) (a : Axis) (b : Power) (n : Rotation) → k ≡ Token.Wide f p → o ≡ opposite f
    → u ≡ before r (turn o p) → expanded (Token.Wide f p) ≡ FaceTurn (opposite f) p ∷ WholeRotation a b ∷ [] → IsNext r a b n → Takes r k (u ∷ []) n
takes_wide r k f o p u a b n is eo e x next =
    takes r k (u ∷ []) n _ (ap expanded is ∙ x) (pushes_turn r (opposite f) p u (WholeRotation a b ∷ []) [] n (e ∙ ap (λ (f : Face). before r (turn f p)) eo) (pushes_last r a b n next))

pub takes_slice : (r : Rotation) (k : Token) (l : Slice) (p : Power) (t : Turn) (g : Face) (b : Power) (v w : Turn) (a : Axis) (n : Rotation) → k ≡ Token.Slice l p
    → expanded (Token.Slice l p) ≡ FaceTurn t.face t.power ∷ FaceTurn (opposite t.face) (inverse_power t.power) ∷ WholeRotation a (inverse_power t.power) ∷ []
    → g ≡ opposite t.face → b ≡ inverse_power t.power → v ≡ before r t → w ≡ before r (turn g b) → IsNext r a b n → Takes r k (v ∷ w ∷ []) n
takes_slice r k l p t g b v w a n is x eg eb ev ew next =
    let moves : expanded (Token.Slice l p) ≡ FaceTurn t.face t.power ∷ FaceTurn g b ∷ WholeRotation a b ∷ [] = rw (eg, eb) x in
    takes r k (v ∷ w ∷ []) n _ (ap expanded is ∙ moves) (pushes_turn r t.face t.power v (FaceTurn g b ∷ WholeRotation a b ∷ []) (w ∷ []) n ev (pushes_turn r g b w (WholeRotation a b ∷ []) [] n ew (pushes_last r a b n next)))

pub takes_rotation : (r : Rotation) (k : Token) (a : Axis) (p : Power) (n : Rotation) → k ≡ Token.Rotation a p → IsNext r a p n → Takes r k [] n
takes_rotation r k a p n is next = takes r k [] n _ (ap expanded is) (pushes_last r a p n next)

map_none : (s : List Turn) → map (before (rotation U None)) s ≡ s
map_none [] = refl
map_none (t ∷ s) = ap (λ u. t ∷ u) (map_none s)

-- The first k moves of a sequence are these face turns and then that rotation.
pub record Left (ts : List Token) (k : ℕ) (turns : List Turn) (r : Rotation) : Type 0 where
  pub faces : turns ++ map (before r) (faces (drop k ts)) ≡ faces ts
  pub effect : (q : Place) → effect (spelling r) (effect_of_turns turns q) ≡ effect (take k ts) q

pub left_none : (ts : List Token) → Left ts 0 [] (rotation U None)
left_none ts = record { faces = map_none (faces ts); effect = λ q. refl }

pub left_more : (ts : List Token) (k : ℕ) (d : Token) (turns more : List Turn) (r n : Rotation) → k < length ts → Left ts k turns r → Takes r (get_or ts k d) more n
    → Left ts (k + 1) (turns ++ more) n
left_more ts k d turns more r n lt l h =
    record {
      faces = append_assoc turns more _ ∙ ap (λ s. turns ++ s) (h.faces (faces (drop (k + 1) ts))) ∙ sym (at_drop_more (λ s. turns ++ map (before r) (faces s)) ts k d lt) ∙ l.faces;
      effect = λ q.
          ap (effect (spelling n)) (effect_of_turns-append turns more q) ∙ h.effect (effect_of_turns turns q) ∙ ap (moved_by (get_or ts k d)) (l.effect q)
          ∙ sym (effect-append (take k ts) (get_or ts k d ∷ []) q) ∙ ap (λ s. effect s q) (sym (take_more ts k d lt));
    }

-- Face turns keep the centres.
keeps_centre : (t : Turn) (g : Face) → turned t (centre g) ≡ centre g
unfolding every_turn every_face every_power
keeps_centre = holds (Turns (λ t. Faces (λ g. Alike (turned t (centre g)) (centre g)))) refl

pub keep_centre : (s : List Turn) (g : Face) → effect_of_turns s (centre g) ≡ centre g
keep_centre [] g = refl
keep_centre (t ∷ s) g = ap (effect_of_turns s) (keeps_centre t g) ∙ keep_centre s g

-- the same at the end of the sequence
pub left_faces : (ts : List Token) (k : ℕ) (turns : List Turn) (r : Rotation) → length ts ≤ k → Left ts k turns r → turns ≡ faces ts
left_faces ts k turns r le l =
    sym (append-nil turns) ∙ ap (λ s. turns ++ map (before r) (faces s)) (sym (drop_all k ts le)) ∙ l.faces

pub left_effect : (ts : List Token) (k : ℕ) (turns : List Turn) (r : Rotation) → length ts ≤ k → Left ts k turns r
    → (q : Place) → effect ts q ≡ effect (spelling r) (effect_of_turns turns q)
left_effect ts k turns r le l q = ap (λ s. effect s q) (sym (take_all k ts le)) ∙ sym (l.effect q)

pub left_rotation : (ts : List Token) (k : ℕ) (turns : List Turn) (r : Rotation) → length ts ≤ k → Left ts k turns r → IsRotationOf ts r
left_rotation ts k turns r le l f =
    ap (effect (spelling r)) (sym (keep_centre turns f)) ∙ sym (left_effect ts k turns r le l (centre f))

pub ruleset of_taking = (left_none, left_faces, left_effect, left_rotation)

-- Each sequence is some face turns and then a rotation.
pushes_all : (moves : List BasicMove) (r : Rotation) → (turns : List Turn) × (n : Rotation) × Pushes r moves turns n
pushes_all [] r = ([], r, pushes_none r)
pushes_all (FaceTurn f p ∷ moves) r =
    let w = pushes_all moves r in (before r (turn f p) ∷ w.0, w.1, pushes_turn r f p (before r (turn f p)) moves w.0 w.1 refl w.2)
pushes_all (WholeRotation a p ∷ moves) r =
    let w = pushes_all moves (next_rotation r a p) in (w.0, w.1, pushes_rotation r a p _ moves w.0 w.1 (is_next r a p) w.2)

left_until : (ts : List Token) (k : ℕ) → k ≤ length ts → (turns : List Turn) × (r : Rotation) × Left ts k turns r
left_until ts zero le = ([], rotation U None, left_none ts)
left_until ts (suc k) le =
    let w = left_until ts k (omega arith) in
    let t = get_or ts k (Token.Face (turn U Half)) in
    let h = pushes_all (expanded t) w.1 in
    (w.0 ++ h.0, h.1, rw add-one at (left_more ts k (Token.Face (turn U Half)) w.0 h.0 w.1 h.1 (omega arith) w.2 (takes w.1 t h.0 h.1 (expanded t) refl h.2)))

left_by : (s : List Token) → (r : Rotation) × ((q : Place) → effect (spelling r) (effect_of_turns (faces s) q) ≡ effect s q) × IsRotationOf s r
left_by s =
    let w = left_until s (length s) (omega arith) in
    let same = left_faces s (length s) w.0 w.1 (omega arith) w.2 in (
      w.1,
      λ q. ap (λ ts. effect (spelling w.1) (effect_of_turns ts q)) (sym same) ∙ sym (left_effect s (length s) w.0 w.1 (omega arith) w.2 q),
      left_rotation s (length s) w.0 w.1 (omega arith) w.2,
    )

undone : (r : Rotation) (f : Face) → effect (spelling (rotation_left (inverse (spelling r)))) (effect (spelling r) (centre f)) ≡ centre f
unfolding every_rotation every_power every_face rotation_left
undone = holds (Rotations (λ r. Faces (λ f. Alike (effect (spelling (rotation_left (inverse (spelling r)))) (effect (spelling r) (centre f))) (centre f)))) refl

pub centres_come_home : (s : List Token) → (home : Rotation) × ((f : Face) → effect (spelling home) (effect s (centre f)) ≡ centre f)
centres_come_home s =
    let w = left_by s in
    let home = rotation_left (inverse (spelling w.0)) in
    (home, λ f. ap (effect (spelling home)) (sym (w.2 f)) ∙ undone w.0 f)

-- A rotation at the end adds no face turn.
pub no_faces : (f : Face) (o : Option Power) → faces (spelling (rotation f o)) ≡ []
no_faces U None = refl
no_faces U (Some p) = refl
no_faces _ None = refl
no_faces _ (Some p) = refl

pub faces-append : (s t : List Token) → faces t ≡ [] → faces (s ++ t) ≡ faces s
faces-append [] t e = e
faces-append (k ∷ s) t e = ap (faces_with (expanded k)) (faces-append s t e)

pub faces_are_home : (s : List Token) (home : Rotation) → ((f : Face) → effect (spelling home) (effect s (centre f)) ≡ centre f) → (q : Place)
    → effect (spelling home) (effect s q) ≡ effect_of_turns (faces s) q
faces_are_home s home h q =
    let z = s ++ spelling home in
    let w = left_by z in
    let none : w.0 ≡ rotation U None = one_spelling w.0 (rotation U None) (λ f. w.2 f ∙ effect-append s (spelling home) (centre f) ∙ h f) in
    sym (effect-append s (spelling home) q) ∙ sym (w.1 q) ∙ ap (λ n. effect (spelling n) (effect_of_turns (faces z) q)) none
    ∙ ap (λ ts. effect_of_turns ts q) (faces-append s (spelling home) (no_faces home.top home.vertical))

pub line_is_home : (line : Moves) (s : List Token) (home : Rotation) → HasMeaning s line.normal line.bracketed
    → ((f : Face) → effect (spelling home) (effect s (centre f)) ≡ centre f)
    → (q : Place) → effect (spelling home) (effect s q) ≡ effect_of_turns (faces (joined_moves line)) q
line_is_home line s home h centres q =
    let same = one_meaning s (joined_moves line) line.normal line.bracketed h (meaning line.normal line.bracketed) in
    ap (effect (spelling home)) (same q)
    ∙ faces_are_home (joined_moves line) home (λ f. ap (effect (spelling home)) (sym (same (centre f))) ∙ centres f) q

pub faces_and_rotation : (s : List Token) (r : Rotation) → IsRotationOf s r → (q : Place) → effect s q ≡ effect (spelling r) (effect_of_turns (faces s) q)
faces_and_rotation s r h q =
    let w = left_by s in
    let one : w.0 ≡ r = one_spelling w.0 r (λ f. w.2 f ∙ sym (h f)) in
    sym (w.1 q) ∙ ap (λ n. effect (spelling n) (effect_of_turns (faces s) q)) one

pub cleaned_effect : (s : List Token) (c : List Turn) (r : Rotation) → Cleans (faces s) c → IsRotationOf s r → (q : Place)
    → effect s q ≡ effect (spelling r) (effect_of_turns c q)
cleaned_effect s c r d h q = faces_and_rotation s r h q ∙ ap (effect (spelling r)) (sym (cleans_effect (faces s) c d q))

pub rotation_is_left : (s : List Token) → IsRotationOf s (rotation_left s)
rotation_is_left s = let w = left_by s in subst (λ (r : Rotation). IsRotationOf s r) (sym (rotation_left_is s w.0 w.2)) w.2

-- the laws of the crate, for the functions that state them, and for `cleanup`, which ensures some
pub ruleset of_effects =
    (places_stay, places_are_listed, places_differ, inverse_after, inverse_before, effect-append, one_meaning, same_letters)

pub ruleset of_rotations =
    (one_spelling, effect_of_expanded, renames_power, turn_after, centres_come_home, faces_are_home, line_is_home, faces_and_rotation)

pub ruleset of_cleaning = (clean_turns_are_clean, cleans_effect, cleaned_effect, rotation_is_left)

pub ruleset of_rewriting =
    (of_rotations, of_cleaning, canonical_in_order, canonical_grows, cleaning_ends, one_clean_list, canonical_stays)

pub ruleset of_all = (of_effects, of_rewriting)
