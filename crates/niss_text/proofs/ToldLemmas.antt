-- What is seen of a line holds of it in its text.
use Rattle.std.proofs.Common.{◌≡◌, ℕ, zero, suc, ◌+◌, ◌<◌, ◌≤◌, ◌⊎◌, inl, inr, nat_lt, ◌-◌, if◌then◌else◌, Bool, true, false, List, length, take, drop, get_or, slice_range, refl, sym, subst, ap, ◌∙◌, add-zero, arith}
use Rattle.std.proofs.lemmas.Bool.{false≢true}
use Rattle.niss_text.specs.Signs.{HasNoMoves, is_of_moves}
use Rattle.niss_text.specs.Doubts.{IsDoubted}
use Rattle.niss_text.specs.Kept.{BeginNoMoves, HasOnlyWords, IsTitleEnd, LosesNone, AreInNotation, ArePlainBefore, begins_with_move, begins_with_turn, words_of_head}
use Rattle.niss_text.specs.Said.{HasNoSlashes, IsLabelled, IsSided, SaysSolution, is_a_head, label_in}
use Rattle.niss_text.specs.Lines.{IsTold}
use Rattle.niss_text.specs.Pieces.{EndsWithColon}
use Rattle.niss_text.specs.declared.line.Line.{Line}
use Rattle.niss_text.specs.declared.text_line.TextLine.{TextLine}
use Rattle.niss_text.proofs.KeptLemmas.{part_of_line, part_of_rest, rest_of_line}
use Rattle.niss_text.proofs.CommentLemmas.{first_capital, moves_some}
use Rattle.niss_text.proofs.NotationLemmas.{capital_moves, line_begins}
use Rattle.niss_text.proofs.SaidLemmas.{told_true}
use Rattle.std.proofs.lemmas.Bool.Decides.{nat_tests}

-- where the parts of a line stand that begins there
pub record StandsAt (now : ℕ) (seen : Line) (line : TextLine) : Type 0 where
  pub begin : line.begin ≡ now
  pub head : line.head_end ≡ now + seen.head
  pub label_begin : line.label_begin ≡ now + seen.label_begin
  pub label_end : line.label_end ≡ now + seen.label_end
  pub moves : line.moves ≡ now + seen.moves
  pub comment : line.comment ≡ now + seen.comment
  pub end : line.end ≡ now + seen.length

-- what is seen in the bytes of a line
pub record IsSeen (bytes : List ℕ) (seen : Line) : Type 0 where
  pub labelled : IsLabelled bytes (drop seen.label_begin bytes) seen.label_begin seen.moves
  pub headed : is_a_head seen.head_kind ≡ nat_lt 0 seen.head
  pub said : seen.is_solution ≡ true → SaysSolution (slice_range bytes seen.label_begin seen.label_end)
  pub kept : LosesNone words_of_head bytes 0 seen.head seen.label_begin seen.label_end seen.moves
  pub blank : seen.is_blank ≡ true → HasNoMoves (drop seen.head bytes)
  pub alone : seen.is_head_alone ≡ true → HasNoMoves (drop seen.head bytes)
  pub comment : begins_with_turn (drop seen.comment bytes) ≡ false
  pub uncommented : HasNoSlashes (slice_range bytes seen.moves seen.comment)
  pub plain : AreInNotation bytes → (seen.is_moves ≡ true) × ((seen.moves ≡ 0) × (seen.comment ≡ seen.length))
  pub commented : (count : ℕ) → ArePlainBefore bytes count → (seen.is_moves ≡ true) × ((seen.moves ≡ 0) × (seen.comment ≡ count))

-- what is told of it by numbers
pub record SaysOf (seen : Line) (line : TextLine) : Type 0 where
  pub headed : line.is_headed ≡ (if is_a_head seen.head_kind then 1 else 0)
  pub says : line.says_solution ≡ (if seen.is_solution then 1 else 0)

-- what kind of a line it is
pub record HasKind (seen : Line) (kind : ℕ) : Type 0 where
  pub blank : kind ≡ 0 → (seen.is_blank ≡ true) ⊎ (seen.is_head_alone ≡ true)
  pub before : kind ≡ 1 → seen.is_moves ≡ false
  pub note : kind ≡ 4 → seen.is_moves ≡ false

lt_shift : (m n : ℕ) → nat_lt 0 n ≡ nat_lt m (m + n)
lt_shift m n = grind (arith, nat_tests)

parts_kept : (text : List ℕ) (now : ℕ) (seen : Line) (line : TextLine) → StandsAt now seen line →
    LosesNone words_of_head (take seen.length (drop now text)) 0 seen.head seen.label_begin seen.label_end seen.moves →
    LosesNone words_of_head text line.begin line.head_end line.label_begin line.label_end line.moves
parts_kept text now seen line at kept =
    let size : ℕ = seen.length in
    let head : seen.head ≤ size = omega (arith, seen.head_in, seen.label_in, seen.words_in, seen.moves_in, seen.comment_in, seen.slashes_in) in
    let label : seen.label_begin ≤ size = omega (arith, seen.label_in, seen.words_in, seen.moves_in, seen.comment_in, seen.slashes_in) in
    let moves : seen.moves ≤ size = omega (arith, seen.moves_in, seen.comment_in, seen.slashes_in) in
    let begin : now + 0 ≡ line.begin = add-zero now ∙ sym at.begin in
    record {
      head = subst (λ n. HasOnlyWords words_of_head (slice_range text n line.head_end)) begin
          (subst (λ n. HasOnlyWords words_of_head (slice_range text (now + 0) n)) (sym at.head)
          (subst (λ v. HasOnlyWords words_of_head v) (part_of_line text now size 0 seen.head (omega arith) head) kept.head));
      margin = subst (λ n. BeginNoMoves (slice_range text n line.label_begin)) (sym at.head)
          (subst (λ n. BeginNoMoves (slice_range text (now + seen.head) n)) (sym at.label_begin)
          (subst (λ v. BeginNoMoves v) (part_of_line text now size seen.head seen.label_begin seen.head_in label) kept.margin));
      title = subst (λ n. IsTitleEnd (slice_range text n line.moves)) (sym at.label_end)
          (subst (λ n. IsTitleEnd (slice_range text (now + seen.label_end) n)) (sym at.moves)
          (subst (λ v. IsTitleEnd v) (part_of_line text now size seen.label_end seen.moves seen.words_in moves) kept.title));
    }

pub is_told : (text : List ℕ) (now : ℕ) (seen : Line) (line : TextLine) → seen.length ≤ length (drop now text) → StandsAt now seen line →
    IsSeen (take seen.length (drop now text)) seen → HasKind seen line.kind → SaysOf seen line → line.kind ≤ 4 → IsDoubted text line →
    (HasNoSlashes (slice_range text line.moves line.comment) → IsSided text line) → IsTold text line
is_told text now seen line fits at is has says known doubted sided = record {
  doubted = doubted;
  headed = headed;
  says = said;
  sided = sided unslashed;
  uncommented = unslashed;
  labelled = λ begins. by_label (is.labelled (subst (λ v. begins_with_move v ≡ true) (sym from_label) begins));
  kept = parts_kept text now seen line at is.kept;
  blank = λ none. subst (λ n. HasNoMoves (slice_range text n line.end)) (sym at.head)
      (subst (λ n. HasNoMoves (slice_range text (now + seen.head) n)) (sym at.end)
      (subst (λ v. HasNoMoves v) (rest_of_line text now seen.length seen.head head fits) (empty (has.blank none))));
  comment = subst (λ n. begins_with_turn (slice_range text n line.end) ≡ false) (sym at.comment)
      (subst (λ n. begins_with_turn (slice_range text (now + seen.comment) n) ≡ false) (sym at.end)
      (subst (λ v. begins_with_turn v ≡ false) (rest_of_line text now seen.length seen.comment (omega (arith, seen.comment_in, seen.slashes_in)) fits) is.comment));
  plain = λ plain. by_plain (whole plain);
  commented = λ count before. by_comment count (subst (λ v. ArePlainBefore v count) (sym same) before);
}
  where
    unslashed : HasNoSlashes (slice_range text line.moves line.comment)
    unslashed = subst (λ n. HasNoSlashes (slice_range text n line.comment)) (sym at.moves)
        (subst (λ n. HasNoSlashes (slice_range text (now + seen.moves) n)) (sym at.comment)
        (subst (λ v. HasNoSlashes v) (part_of_line text now seen.length seen.moves seen.comment seen.moves_in (omega (arith, seen.comment_in, seen.slashes_in)))
        is.uncommented))

    label_fits : seen.label_begin ≤ seen.length
    label_fits = omega (arith, seen.label_in, seen.words_in, seen.moves_in, seen.comment_in, seen.slashes_in)

    from_label : drop seen.label_begin (take seen.length (drop now text)) ≡ slice_range text line.label_begin line.end
    from_label = rest_of_line text now seen.length seen.label_begin label_fits fits ∙ ap (λ n. slice_range text n (now + seen.length)) (sym at.label_begin)
        ∙ ap (λ n. slice_range text line.label_begin n) (sym at.end)

    by_label : (seen.moves ≡ seen.label_begin) ⊎ ((colon : ℕ) × ((seen.label_begin < colon) × (colon ≤ seen.moves))
        × EndsWithColon (slice_range (take seen.length (drop now text)) seen.label_begin colon)) →
        (line.moves ≡ line.label_begin) ⊎ ((colon : ℕ) × ((line.label_begin < colon) × (colon ≤ line.moves)) × EndsWithColon (slice_range text line.label_begin colon))
    by_label (inl same) = inl (at.moves ∙ ap (λ n. now + n) same ∙ sym at.label_begin)
    by_label (inr words) =
        inr (
          now + words.0,
          (omega (arith, words.1.0, at.label_begin), omega (arith, words.1.1, at.moves)),
          subst (λ n. EndsWithColon (slice_range text n (now + words.0))) (sym at.label_begin)
              (subst (λ v. EndsWithColon v) (part_of_line text now seen.length seen.label_begin words.0 (omega (arith, words.1.0))
              (omega (arith, words.1.1, seen.moves_in, seen.comment_in, seen.slashes_in))) words.2),
        )

    as_number : Bool → ℕ
    as_number b = if b then 1 else 0

    shifted : nat_lt 0 seen.head ≡ nat_lt line.begin line.head_end
    shifted = ap (λ n. nat_lt 0 n) from_begin ∙ lt_shift line.begin (line.head_end - line.begin) ∙ ap (λ n. nat_lt line.begin n) back
      where
        from_begin : seen.head ≡ line.head_end - line.begin
        from_begin = omega (arith, at.head, at.begin)

        back : line.begin + (line.head_end - line.begin) ≡ line.head_end
        back = omega (arith, at.head, at.begin)

    headed : line.is_headed ≡ (if nat_lt line.begin line.head_end then 1 else 0)
    headed = says.headed ∙ ap as_number (is.headed ∙ shifted)

    said : line.says_solution ≡ 1 → SaysSolution (label_in text line)
    said one =
        subst (λ n. SaysSolution (slice_range text n line.label_end)) (sym at.label_begin)
        (subst (λ n. SaysSolution (slice_range text (now + seen.label_begin) n)) (sym at.label_end)
        (subst (λ v. SaysSolution v)
        (part_of_line text now seen.length seen.label_begin seen.label_end seen.label_in (omega (arith, seen.words_in, seen.moves_in, seen.comment_in, seen.slashes_in)))
        (is.said (told_true seen.is_solution (sym says.says ∙ one)))))

    head : seen.head ≤ seen.length
    head = omega (arith, seen.head_in, seen.label_in, seen.words_in, seen.moves_in, seen.comment_in, seen.slashes_in)

    empty : (seen.is_blank ≡ true) ⊎ (seen.is_head_alone ≡ true) → HasNoMoves (drop seen.head (take seen.length (drop now text)))
    empty (inl blank) = is.blank blank
    empty (inr alone) = is.alone alone

    bytes : List ℕ
    bytes = take seen.length (drop now text)

    same : bytes ≡ slice_range text line.begin line.end
    same = part_of_rest text (drop now text) now seen.length refl ∙ ap (λ n. slice_range text now n) (sym at.end)
        ∙ ap (λ n. slice_range text n line.end) (sym at.begin)

    whole : AreInNotation (slice_range text line.begin line.end) → AreInNotation bytes
    whole plain = subst (λ v. AreInNotation v) (sym same) plain

    by_kind : (kind : ℕ) → line.kind ≡ kind → kind ≤ 4 → is_of_moves (get_or bytes 0 0) ≡ true → seen.is_moves ≡ true → seen.moves ≡ 0 →
        (line.kind ≡ 2) ⊎ (line.kind ≡ 3)
    by_kind zero this low capital moves first =
        let none : seen.head ≡ 0 = omega (arith, seen.head_in, seen.label_in, seen.words_in, first) in
        absurd (moves_some bytes capital (subst (λ n. HasNoMoves (drop n bytes)) none (empty (has.blank this))))
    by_kind (suc zero) this low capital moves first = absurd (false≢true (sym (has.before this) ∙ moves))
    by_kind (suc (suc zero)) this low capital moves first = inl this
    by_kind (suc (suc (suc zero))) this low capital moves first = inr this
    by_kind (suc (suc (suc (suc zero)))) this low capital moves first = absurd (false≢true (sym (has.note this) ∙ moves))
    by_kind (suc (suc (suc (suc (suc k))))) this low capital moves first = absurd (omega (arith, low))

    begins : seen.moves ≡ 0 → line.moves ≡ line.begin
    begins first = at.moves ∙ ap (λ n. now + n) first ∙ add-zero now ∙ sym at.begin

    by_plain : AreInNotation bytes → ((line.kind ≡ 2) ⊎ (line.kind ≡ 3)) × ((line.moves ≡ line.begin) × (line.comment ≡ line.end))
    by_plain plain =
        let so = is.plain plain in (
          by_kind line.kind refl known (line_begins (get_or bytes 0 0) plain.first) so.0 so.1.0,
          (begins so.1.0, at.comment ∙ ap (λ n. now + n) so.1.1 ∙ sym at.end),
        )

    by_comment : (count : ℕ) → ArePlainBefore bytes count → ((line.kind ≡ 2) ⊎ (line.kind ≡ 3)) × ((line.moves ≡ line.begin) × (line.comment ≡ line.begin + count))
    by_comment count before =
        let so = is.commented count before in (
          by_kind line.kind refl known (capital_moves (get_or bytes 0 0) (first_capital bytes count before.moves)) so.0 so.1.0,
          (begins so.1.0, at.comment ∙ ap (λ n. now + n) so.1.1 ∙ ap (λ n. n + count) (sym at.begin)),
        )
