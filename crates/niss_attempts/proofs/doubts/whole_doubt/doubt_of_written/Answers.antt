use Rattle.std.proofs.Common.{◌≡◌, ℕ, ◌-◌, ◌≤◌, Bool, true, false, Option, None, Some, Result, Ok, Err, List, length, refl, subst, sym, arith}
use Rattle.std.specs.Prelude.{◌||◌, ◌==◌, not, nat_lt}
use Rattle.std.proofs.lemmas.Bool.{and_right, lt-ltb, ltb-true}
use Rattle.niss_moves.specs.Line.{Moves}
use Rattle.niss_moves.specs.Reader.{read_line}
use Rattle.niss_moves.specs.declared.fault.ReadFault.{ReadFault}
use Rattle.niss_text.specs.declared.text_line.TextLine.{TextLine}
use Rattle.niss_attempts.specs.Attempts.{IsDoubtOfRead, IsDoubtOfWritten}
use Rattle.niss_attempts.specs.LostTurn.{shown_if, turn_numbered}
use Rattle.niss_attempts.specs.MovedStep.{is_elsewhere}
use Rattle.niss_shell.specs.Words.{most_bytes}
use Rattle.niss_lines.specs.declared.answer.Status.TheVariants.{Done, Stopped}
use Rattle.niss_attempts.specs.Parts.{are_too_long, bounds_of, end_of_steps, first_steps, most_step_bytes, no_part, number_of_steps}
use Rattle.niss_attempts.specs.ReadAttempt.{IsUnread}
use Rattle.niss_attempts.specs.ShownTurn.{shown_at, steps_among}
use Rattle.niss_attempts.specs.WholeDoubt.{IsWholeDoubtIn, TellsWhole, is_beyond}
use Rattle.niss_attempts.specs.declared.doubts.Doubt.{Doubt}
use Rattle.niss_attempts.specs.declared.steps.read_attempt.Unread.{Unread}
use Rattle.niss_attempts.specs.declared.steps.read_attempt.Unread.TheVariants.{TooLong, Faulty}
use Rattle.niss_attempts.proofs.PartLemmas.{bounds_within}
use Rattle.niss_attempts.proofs.ReadAttemptLemmas.{as_written, tells_answer, tells_faulty, tells_too_long}
use Rattle.niss_attempts.proofs.doubts.whole_doubt.doubt_of_written.Goals as goal

not_shown : (shown : Option Doubt) → None ≡ shown_if false shown
not_shown None = refl
not_shown (Some it) = refl

-- Nothing solves a scramble that can't be read.
none_of_fault : (fault : ReadFault) (steps bounds text : List ℕ) (lines : List TextLine) → IsWholeDoubtIn (Err fault) steps bounds text lines None
none_of_fault fault steps bounds text lines = record {
  first = None;
  is_first = λ k less i turn. not_shown (shown_at text lines k (turn_numbered i));
  told_is = record {
    first = None;
    is_first = record { first = None; is_first = λ k less rotation other. refl; told_is = refl };
    told_is = record { first = None; is_first = λ k less place within. and_right (is_elsewhere k place) false refl; told_is = refl };
  };
}

none_told : (is_beyond : Bool) (fault : ReadFault) (steps bounds text : List ℕ) (lines : List TextLine) →
    TellsWhole is_beyond (Err fault) steps bounds text lines None
none_told true fault steps bounds text lines = refl
none_told false fault steps bounds text lines = none_of_fault fault steps bounds text lines

or_later : (a b c d : Bool) → (b || c) ≡ true → (c ≡ true → d ≡ true) → (a || (b || d)) ≡ true
or_later true b c d is up = refl
or_later false true c d is up = refl
or_later false false c d is up = up is

-- Steps that end too late are too long.
too_long : (scramble steps places text : List ℕ) (lines : List TextLine) → are_too_long scramble (end_of_steps (bounds_of steps)) ≡ true →
    IsDoubtOfWritten scramble steps places text lines None
too_long scramble steps places text lines long =
    let end = end_of_steps (bounds_of steps) in
    let within : end ≤ length steps = bounds_within steps (length (bounds_of steps) - 1) in
    let beyond : is_beyond scramble steps lines ≡ true =
    or_later (not (number_of_steps (bounds_of steps) == length (steps_among lines))) (nat_lt most_bytes (length scramble)) (nat_lt most_step_bytes end)
    (nat_lt most_step_bytes (length steps)) long (λ more. lt-ltb most_step_bytes (length steps) (omega (arith, ltb-true most_step_bytes end more, within))) in
    record {
      part = no_part Stopped;
      tells = tells_too_long scramble steps (no_part Stopped) long refl;
      told_is = subst (λ (b : Bool). TellsWhole b (read_line scramble) (first_steps steps) (bounds_of steps) text lines None) (sym beyond) refl;
    }

unread : (scramble steps places text : List ℕ) (lines : List TextLine) (why : Unread) → IsUnread scramble steps why → IsDoubtOfWritten scramble steps places text lines None
unread scramble steps places text lines TooLong long = too_long scramble steps places text lines long
unread scramble steps places text lines Faulty (fault, fits, is) = record {
  part = no_part Done;
  tells = tells_faulty scramble steps (fault, fits, is);
  told_is = subst (λ (r : Result Moves ReadFault). TellsWhole (is_beyond scramble steps lines) r (first_steps steps) (bounds_of steps) text lines None) (sym is)
      (none_told (is_beyond scramble steps lines) fault (first_steps steps) (bounds_of steps) text lines);
}

pub returns-in_default : goal.returns-in_default
returns-in_default c =
    unread c.args.scramble.now c.args.steps.now c.args.places.now c.args.text.now c.args.lines.now c.in_default.field-0 c.in_default.ensures.unread

pub returns : goal.returns
returns c =
    let scramble = c.args.scramble.now in
    let steps = c.args.steps.now in
    let whole = c.whole-whole.result in
    let read = c.whole-whole.ensures scramble steps c.in-Ok.ensures.read in
    let beyond = is_beyond scramble steps c.args.lines.now in
    let told = c.doubt_of_read.result in
    let it : IsDoubtOfRead (Ok whole.scramble.now) beyond whole.steps.now whole.bounds.now c.args.places.now c.args.text.now c.args.lines.now told =
    subst (λ (b : Bool). IsDoubtOfRead (Ok whole.scramble.now) b whole.steps.now whole.bounds.now c.args.places.now c.args.text.now c.args.lines.now told) c.is_beyond-is_beyond.ensures c.doubt_of_read.ensures in
    let all =
    as_written (λ r s b. IsDoubtOfRead r beyond s b c.args.places.now c.args.text.now c.args.lines.now told) scramble steps whole.scramble.now whole.steps.now whole.bounds.now whole.corners.now read it in
    record { part = all.part; tells = tells_answer scramble steps all.part read.fits all.answers; told_is = all.told_is }
