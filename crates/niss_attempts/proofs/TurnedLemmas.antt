-- Lines with a rotation between two steps that don't solve, by what the steps do to the corners.
use Rattle.std.proofs.Common.{◌≡◌, ◌∙◌, ℕ, ◌⊎◌, Bool, true, false, List, [], ◌++◌, Ok, sym, ap, subst, arith, inl, inr, append_assoc}
use Rattle.niss_moves.specs.Effects.{inverse}
use Rattle.niss_moves.specs.Line.{Moves, Spells, joined_moves}
use Rattle.niss_moves.specs.Reader.{read_line}
use Rattle.niss_moves.specs.Rotations.{spelling}
use Rattle.niss_moves.specs.Solving.{IsRotated}
use Rattle.niss_moves.specs.declared.rotation.Rotation.{Rotation}
use Rattle.niss_moves.specs.declared.token.Token.{Token}
use Rattle.niss_moves.proofs.CallerLemmas.{inverse-append}
use Rattle.niss_attempts.specs.declared.steps.corners.StepCorners.{StepCorners}
use Rattle.niss_attempts.specs.declared.steps.corners.Around.{Around}
use Rattle.niss_attempts.specs.declared.doubts.turned_cube.Sides.{Sides}
use Rattle.niss_attempts.specs.Corners.{Ascends, Brings, EndsNone, IsAround, IsAroundBorder, IsTail, Reads}
use Rattle.niss_attempts.specs.DeadSteps.{AreParted, IsDead, Rests, StandsNowhere, StaysDead}
use Rattle.niss_attempts.specs.Parts.{number_of_steps, solves_line, steps_line}
use Rattle.niss_attempts.specs.TurnedCube.{AreSides, solves_turned, turned_bytes}
use Rattle.niss_attempts.proofs.BracketLemmas.{more_ends_none, shut_ends_none, spelled_out}
use Rattle.niss_attempts.proofs.CornerLines.{IsRead, HasOneReading, IsTested, line_refused, spells_both}
use Rattle.niss_attempts.proofs.DeadLemmas.{dead_after, dead_before}
use Rattle.niss_attempts.proofs.HoldLemmas.{turned_rests, turned_spelled}
use Rattle.niss_attempts.proofs.TailLemmas.{ends_refused, not_both, rests_between}

-- A test that each rotation passes refuses the line of steps, bytes after them, and more.
between_refused : IsRead → HasOneReading → IsTested → (scramble : Moves) (c : StepCorners) (later before bytes more : List ℕ) (r : List Token) (passes : Bool) →
    Spells bytes r [] → Rests bytes → StaysDead before (bytes ++ more) → Reads before c → IsTail more later →
    ((t u v : List Token) → Brings c.normal.to t → Brings later u → Brings c.inverse.to v → IsRotated ((joined_moves scramble ++ t) ++ r ++ (u ++ v)) → passes ≡ true) →
    passes ≡ false → solves_line (Ok scramble) (read_line (before ++ (bytes ++ more))) ≡ false
between_refused is_read once tested scramble c later before bytes more r passes spells rests stays (inr none) tail test not_passed =
    ends_refused is_read scramble (before ++ (bytes ++ more)) (by_kind none.faulty)
  where
    by_kind : StandsNowhere before → EndsNone (before ++ (bytes ++ more)) ⊎ IsDead (before ++ (bytes ++ more))
    by_kind (inl dead) = inr (dead_before before (bytes ++ more) dead)
    by_kind (inr shut) = inl (shut_ends_none before (bytes ++ more) shut)
between_refused is_read once tested scramble c later before bytes more r passes spells rests stays (inl one) (inr (inl none)) test not_passed =
    ends_refused is_read scramble (before ++ (bytes ++ more))
    (inl (more_ends_none before (bytes ++ more) (spelled_out before one.normal one.bracketed one.spells)
    (more_ends_none bytes more (spelled_out bytes r [] spells) none)))
between_refused is_read once tested scramble c later before bytes more r passes spells rests stays (inl one) (inr (inr dead)) test not_passed =
    ends_refused is_read scramble (before ++ (bytes ++ more)) (inr (stays (dead_after bytes more rests dead)))
between_refused is_read once tested scramble c later before bytes more r passes spells rests stays (inl one) (inl line) test not_passed =
    line_refused is_read once tested scramble (before ++ (bytes ++ more)) (one.normal ++ (r ++ line.normal)) (one.bracketed ++ line.bracketed)
    (spells_both before (bytes ++ more) one.normal one.bracketed (r ++ line.normal) line.bracketed one.spells
    (spells_both bytes more r [] line.normal line.bracketed spells line.spells))
    (λ w. not_both passes (test one.normal (line.normal ++ inverse line.bracketed) (inverse one.bracketed) one.brings line.brings one.inverts (subst IsRotated all w)) not_passed)
  where
    undone : inverse (one.bracketed ++ line.bracketed) ≡ inverse line.bracketed ++ inverse one.bracketed
    undone = inverse-append one.bracketed line.bracketed

    order : (s t r m l o : List Token) → s ++ ((t ++ (r ++ m)) ++ (l ++ o)) ≡ (s ++ t) ++ r ++ ((m ++ l) ++ o)
    order s t r m l o = simp append_assoc

    all : joined_moves scramble ++ ((one.normal ++ (r ++ line.normal)) ++ inverse (one.bracketed ++ line.bracketed))
        ≡ (joined_moves scramble ++ one.normal) ++ r ++ ((line.normal ++ inverse line.bracketed) ++ inverse one.bracketed)
    all =
        ap (λ v. joined_moves scramble ++ ((one.normal ++ (r ++ line.normal)) ++ v)) undone
        ∙ order (joined_moves scramble) one.normal r line.normal (inverse line.bracketed) (inverse one.bracketed)

-- The same of all steps with a rotation between those before a place and those after it.
pub turned_refused : IsRead → HasOneReading → IsTested → (around : Around) (sides : Sides) (by : List ℕ) (rotation : Rotation) (passes : Bool) → AreSides around sides →
    Brings by (spelling rotation) →
    ((s r t : List Token) → Brings sides.front.to s → Brings by r → Brings sides.back.to t → IsRotated (s ++ r ++ t) → passes ≡ true) →
    (scramble : Moves) (steps bounds : List ℕ) (number : ℕ) → IsAroundBorder scramble steps bounds number around → around.attempt.now.are_lines ≡ true → passes ≡ false →
    solves_turned (Ok scramble) steps bounds number rotation ≡ false
turned_refused is_read once tested around sides by rotation passes are brings test scramble steps bounds number is known not_passed =
    subst (λ (line : List ℕ). solves_line (Ok scramble) (read_line line) ≡ false) order
    (between_refused is_read once tested scramble around.before around.after.to before bytes after (spelling rotation) passes (turned_spelled rotation) (turned_rests rotation)
    (λ dead. dead_after before (bytes ++ after) (rests_between steps bounds 0 number parted up (omega arith) is.0) dead) those.reads_before those.ends
    (λ t u v of_t of_u of_v w.
    test (joined_moves scramble ++ t) (spelling rotation) (u ++ v) (are.front (joined_moves scramble) t is.1.attempt.scrambles of_t) brings (are.back u v of_u of_v) w)
    not_passed)
  where
    before : List ℕ
    before = steps_line steps bounds 0 number

    bytes : List ℕ
    bytes = turned_bytes rotation

    after : List ℕ
    after = steps_line steps bounds number (number_of_steps bounds)

    order : before ++ (bytes ++ after) ≡ before ++ bytes ++ after
    order = sym (append_assoc before bytes after)

    those : IsAround around (steps_line steps bounds 0 number) (steps_line steps bounds number number) after
    those = is.1.are known

    up : Ascends bounds
    up = (is.1.attempt.are_steps known).are_bounds.ascend

    parted : AreParted steps bounds
    parted = is.1.attempt.are_parted known
