-- Where a turn is said in a comment, of which turn something is told first, and how its bytes are read.
use Rattle.std.proofs.Common.{◌≡◌, ◌∙◌, ◌⊎◌, ℕ, suc, ◌+◌, ◌-◌, ◌<◌, ◌≤◌, Bool, false, cond, List, [], ◌∷◌, Option, None, Some, Result, refl, map, ap, subst, inl, inr, arith}
use Rattle.std.specs.Prelude.{find}
use Rattle.std.specs.List.{range_with_len}
use Rattle.std.proofs.lemmas.Bool.{cases_lt}
use Rattle.niss_attempts.specs.declared.doubts.Doubt.{Doubt}
use Rattle.niss_moves.specs.Facelets.{face_letter}
use Rattle.niss_moves.specs.declared.turn.Face.{Face}
use Rattle.niss_moves.specs.declared.turn.Face.TheVariants.{U, D, R, L, F, B}
use Rattle.niss_moves.specs.declared.turn.Power.{Power}
use Rattle.niss_moves.specs.declared.turn.Power.TheVariants.{Quarter, Half, Counter}
use Rattle.niss_moves.specs.declared.turn.Turn.{Turn}
use Rattle.niss_text.specs.declared.text_line.TextLine.{TextLine}
use Rattle.niss_attempts.specs.declared.steps.reading.Reading.TheVariants.{AsWritten}
use Rattle.niss_attempts.specs.DeadSteps.{Rests}
use Rattle.niss_attempts.specs.Parts.{read_byte}
use Rattle.niss_attempts.specs.LostTurn.{IsLostAt}
use Rattle.niss_attempts.specs.ShownTurn.{IsBorder, shown_at, shown_between, suffix_byte, turn_bytes}
use Rattle.niss_attempts.specs.declared.doubts.shown_turn.Border.{Border}
use Rattle.niss_moves.specs.Line.{Moves}
use Rattle.niss_moves.specs.declared.fault.ReadFault.{ReadFault}
use Rattle.niss_attempts.proofs.DeadLemmas.{rests_blank}

-- the first place from one on is none that fails
pub find_passed : (test : ℕ → Bool) (at end : ℕ) → at < end → test at ≡ false →
    find test (range_with_len at (end - at)) ≡ find test (range_with_len (at + 1) (end - (at + 1)))
find_passed test at end l is =
    let one : end - at ≡ suc (end - (at + 1)) = omega (arith, l) in
    ap (λ n. find test (range_with_len at n)) one ∙ ap (λ b. cond b (Some at) (find test (range_with_len (at + 1) (end - (at + 1))))) is

-- what holds of all cases before one, and of that one
pub one_more : (P : ℕ → Type 0) (n : ℕ) → ((j : ℕ) → j < n → P j) → P n → (j : ℕ) → j < n + 1 → P j
one_more P n before here j less = by_order (cases_lt j n)
  where
    by_order : (j < n) ⊎ (n ≤ j) → P j
    by_order (inl earlier) = before j earlier
    by_order (inr last) =
        let same : n ≡ j = omega (arith, less, last) in
        subst P same here

-- what is told at a border is told before the step of its number
pub border_told : (scramble : Result Moves ReadFault) (steps bounds text : List ℕ) (lines : List TextLine) (k : ℕ) (border : Border) (told : Option Doubt) →
    IsLostAt scramble steps bounds border.number (shown_between border.text.now border.above border.below border.has_one_sign) told → IsBorder text lines k border →
    IsLostAt scramble steps bounds k (shown_at text lines k) told
border_told scramble steps bounds text lines k border told lost is =
    subst (λ (n : ℕ). IsLostAt scramble steps bounds n (shown_at text lines k) told) is.number_is
    (subst (λ (shows : Turn → Option Doubt). IsLostAt scramble steps bounds border.number shows told) shows lost)
  where
    shows : shown_between border.text.now border.above border.below border.has_one_sign ≡ shown_at text lines k
    shows = λ i. shown_between (is.text_is i) (is.above_is i) (is.below_is i) (is.one_is i)

-- The bytes of a turn are read as they are, and no move goes on from them.
letter_read : (f : Face) → read_byte AsWritten (face_letter f) ≡ face_letter f
letter_read U = refl
letter_read D = refl
letter_read R = refl
letter_read L = refl
letter_read F = refl
letter_read B = refl

suffix_read : (p : Power) → read_byte AsWritten (suffix_byte p) ≡ suffix_byte p
suffix_read Quarter = refl
suffix_read Half = refl
suffix_read Counter = refl

pub turn_read : (t : Turn) → map (read_byte AsWritten) (turn_bytes t) ≡ turn_bytes t
turn_read t = λ i. 32 ∷ letter_read t.face i ∷ suffix_read t.power i ∷ 32 ∷ []

pub turn_rests : (t : Turn) → Rests (turn_bytes t)
turn_rests t = rests_blank (32 ∷ face_letter t.face ∷ suffix_byte t.power ∷ [])
