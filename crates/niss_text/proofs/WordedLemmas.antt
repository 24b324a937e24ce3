-- A line that has a head, whatever follows that, stands where it stood.
use Rattle.std.proofs.Common.{◌≡◌, ℕ, zero, suc, ◌+◌, ◌<◌, ◌≤◌, ◌==◌, ◌||◌, ◌&&◌, ◌⊎◌, inl, inr, nat_lt, ◌-◌, if◌then◌else◌, Bool, true, false, List, [], ◌∷◌, ◌++◌, length, take, drop, set, get_or, slice_range, refl, sym, subst, ap, ◌∙◌, arith}
use Rattle.std.proofs.lemmas.Bool.{cases_eq, false≢true}
use Rattle.std.proofs.lemmas.List.{drop-drop, drop-take, get_or_default, get_or-drop, get_or-set_other, get_or-set_same, length-take-le, take-take}
use Rattle.std.proofs.Math.Seq.{take-append_seam}
use Rattle.std.proofs.lemmas.Bool.Decides.{nat_tests}
use Rattle.niss_text.specs.Signs.{HasNoMoves}
use Rattle.niss_text.specs.Doubts.{HasNone, IsAsWritten, IsDoubted, is_capital}
use Rattle.niss_text.specs.Kept.{AreInNotation, ArePlainBefore, BeginNoMoves, HasOnlyWords, IsTitleEnd, words_of_any_head, begins_with_turn}
use Rattle.niss_text.specs.Said.{HasNoSlashes, IsSided}
use Rattle.niss_text.specs.Known.{AreOrHeaded, IsHeaded, IsOrHeaded, MayBeHeaded}
use Rattle.niss_text.specs.Lines.{Covers, IsLine, IsTold, IsToldBy, IsEnd, end_size}
use Rattle.niss_text.specs.declared.sights.Sight.{Sight}
use Rattle.niss_text.specs.declared.sights.Sight.TheVariants.{Small, Repeated, Marked, Gap, Joint, Pair}
use Rattle.niss_text.specs.declared.text_line.TextLine.{TextLine}
use Rattle.niss_text.proofs.KeptLemmas.{any_head, title_none}
use Rattle.niss_text.proofs.LayerLemmas.{none_at_end}
unfoldable use Rattle.niss_text.specs.Lines.{CoversBy}
unfoldable use Rattle.niss_text.specs.Kept.{begins_with_move, is_over}

pub headed_line : (line it : TextLine) (head_end kind : ℕ) → IsLine line.begin line → IsHeaded line head_end kind it → MayBeHeaded kind →
    line.begin < head_end → head_end ≤ line.end → IsLine line.begin it
headed_line line it head_end kind is headed may some within = record {
  begins = headed.placed.0;
  head = omega (arith, headed.placed.0, headed.headed.1, some);
  label = omega (arith, headed.headed.1, headed.words.0);
  words = omega (arith, headed.words.0, headed.words.1, within);
  title = omega (arith, headed.words.1, headed.none.0);
  moves = omega (arith, headed.none.0, headed.none.1);
  comment = omega (arith, headed.none.1, headed.placed.1);
  inverse = inl headed.flags.2;
  kind = at_most may;
  flags = (omega (arith, headed.flags.0), omega (arith, headed.headed.0), omega (arith, headed.flags.1), omega (arith, headed.flags.2));
}
  where
    at_most : MayBeHeaded kind → it.kind ≤ 4
    at_most (inl is) = omega (arith, headed.kind, is)
    at_most (inr (inl is)) = omega (arith, headed.kind, is)
    at_most (inr (inr is)) = omega (arith, headed.kind, is)

abbrev pub no_line : TextLine
no_line = record {
  kind = 0;
  is_solution = 0;
  is_headed = 0;
  says_solution = 0;
  is_inverse = 0;
  doubt = 0;
  attempt = 0;
  group = 0;
  begin = 0;
  head_end = 0;
  label_begin = 0;
  label_end = 0;
  moves = 0;
  comment = 0;
  end = 0;
  doubt_at = 0;
}

-- the lines of a text, with another one in the place of one
pub covers_set : (text : List ℕ) (from : ℕ) (lines : List TextLine) (to at : ℕ) (none it : TextLine) → CoversBy words_of_any_head text from lines to →
    ((IsLine (get_or lines at none).begin (get_or lines at none) → IsLine (get_or lines at none).begin it)) →
    (IsLine (get_or lines at none).begin (get_or lines at none) → IsToldBy words_of_any_head text (get_or lines at none) → IsToldBy words_of_any_head text it) →
    it.end ≡ (get_or lines at none).end → CoversBy words_of_any_head text from (set lines at it) to
unfolding CoversBy
covers_set text from [] to at none it far is told end = far
covers_set text from (l ∷ ls) to zero none it far is told end =
    let here : IsLine l.begin l = subst (λ n. IsLine n l) (sym far.0.begins) far.0 in (
      subst (λ n. IsLine n it) far.0.begins (is here),
      (
        told here far.1.0,
        (
          far.1.1.0,
          end ∙ far.1.1.1,
          far.1.1.2,
          subst (λ n. IsEnd text n) (sym end) far.1.1.3,
          subst (λ n. CoversBy words_of_any_head text (n + end_size text n) ls to) (sym end) far.1.1.4,
        ),
      ),
    )
covers_set text from (l ∷ ls) to (suc at) none it far is told end =
    (far.0, (far.1.0, (far.1.1.0, far.1.1.1, far.1.1.2, far.1.1.3, covers_set text (l.end + end_size text l.end) ls to at none it far.1.1.4 is told end)))

no_step : (kind : ℕ) → MayBeHeaded kind → kind ≡ 3 → ⊥
no_step kind (inl is) three = omega (arith, is, three)
no_step kind (inr (inl is)) three = omega (arith, is, three)
no_step kind (inr (inr is)) three = omega (arith, is, three)

-- nothing is seen in a part of a text without bytes
unseen : (text : List ℕ) (sight : Sight) (from to : ℕ) → to ≤ from → HasNone text sight from to
unseen text sight from to none k first last = absurd (omega (arith, none, first, last))

headed_doubted : (text : List ℕ) (line it : TextLine) (head_end kind : ℕ) → IsHeaded line head_end kind it → MayBeHeaded kind → it.begin ≤ it.end → IsDoubted text it
headed_doubted text line it head_end kind headed may order =
    let none : it.doubt ≡ 0 = headed.undoubted.0 in
    let moves : it.comment ≤ it.moves = omega (arith, headed.none.0, headed.none.1) in
    let comment : it.end ≤ it.comment = omega (arith, headed.none.1, headed.placed.1) in
    let written : IsAsWritten text it.moves it.comment = record {
      apart = λ j first last. absurd (omega (arith, moves, first, last));
      unprimed = λ _ k first last. absurd (omega (arith, moves, first, last));
    } in
    record {
      place = (omega (arith, headed.undoubted.1, headed.placed.1, order), omega (arith, headed.undoubted.1, headed.placed.1));
      number = inl (omega (arith, none));
      nowhere = λ _. headed.undoubted.1 ∙ sym headed.placed.1;
      before = λ _. none;
      another = λ is. absurd (omega (arith, none, is));
      several = λ is. absurd (omega (arith, none, is));
      comment = λ is. absurd (omega (arith, none, is));
      small = λ is. absurd (omega (arith, none, is));
      no_capital = λ is. absurd (omega (arith, none, is));
      letters = λ is. absurd (omega (arith, none, is));
      scramble = λ _ _. written;
      solution = λ _ _ _. written;
      no_small = λ _ _. unseen text Small it.moves it.comment moves;
      capital = λ _ _ _ _. unseen text Small it.moves it.comment moves;
      once = λ _ _. unseen text Repeated it.moves it.comment moves;
      once_solved = λ _ _ _. unseen text Repeated it.moves it.comment moves;
      commas = λ _ _. inr (unseen text Gap it.moves it.comment moves);
      of_scramble = λ is. absurd (omega (arith, none, is));
      called = λ is. absurd (no_step kind may (sym headed.kind ∙ is));
      unmarked = λ _ _ _. unseen text Marked (it.moves + 1) it.comment (omega (arith, moves));
      unjoined = λ _ _ _. unseen text Joint (it.moves + 1) it.comment (omega (arith, moves));
      unpaired = λ _ _ _. unseen text Pair it.comment it.end comment;
    }

headed_sided : (text : List ℕ) (line it : TextLine) (head_end kind : ℕ) → IsHeaded line head_end kind it → MayBeHeaded kind → IsSided text it
headed_sided text line it head_end kind headed may = record {
  only = λ is. absurd (omega (arith, headed.flags.2, is));
  all = λ is. absurd (no_step kind may (sym headed.kind ∙ is.kind));
  free = λ _ is. absurd (by_doubt is);
}
  where
    by_doubt : (it.doubt ≡ 3) ⊎ (it.doubt ≡ 7) → ⊥
    by_doubt (inl is) = omega (arith, headed.undoubted.0, is)
    by_doubt (inr is) = omega (arith, headed.undoubted.0, is)

-- no turn begins with another byte than a letter of one, nor with nothing
no_turn : (rest : List ℕ) → is_capital (get_or rest 0 0) ≡ false → begins_with_move rest ≡ false
unfolding begins_with_move
no_turn rest none = ap (λ b. b && (is_over (drop 1 rest) || (((get_or rest 1 0 == 50) || (get_or rest 1 0 == 39)) && is_over (drop 2 rest)))) none

pub headed_told : (text : List ℕ) (line it : TextLine) (head_end kind : ℕ) → IsLine line.begin line → (AreInNotation (slice_range text line.begin line.end) → ⊥) →
    ((count : ℕ) → ArePlainBefore (slice_range text line.begin line.end) count → ⊥) → IsHeaded line head_end kind it → MayBeHeaded kind → line.begin < head_end → head_end ≤ line.end →
    HasOnlyWords words_of_any_head (slice_range text line.begin head_end) → is_capital (get_or (slice_range text head_end line.end) 0 0) ≡ false →
    (kind ≡ 0 → HasNoMoves (slice_range text head_end line.end)) → IsToldBy words_of_any_head text it
headed_told text line it head_end kind is noted commented headed may some within words plain empty = record {
  doubted = headed_doubted text line it head_end kind headed may (omega (arith, headed.placed.0, headed.placed.1, some, within));
  sided = headed_sided text line it head_end kind headed may;
  headed = headed.headed.0 ∙ sym (ap (λ (b : Bool). if b then 1 else 0) later);
  says = λ says. absurd (omega (arith, headed.flags.1, says));
  kept = record {
    head = subst (λ n. HasOnlyWords words_of_any_head (slice_range text n it.head_end)) (sym headed.placed.0)
        (subst (λ n. HasOnlyWords words_of_any_head (slice_range text line.begin n)) (sym headed.headed.1) words);
    margin = subst (λ n. BeginNoMoves (slice_range text it.head_end n)) (headed.headed.1 ∙ sym headed.words.0) (nothing text it.head_end);
    title = subst (λ n. IsTitleEnd (slice_range text it.label_end n)) (headed.words.1 ∙ sym headed.none.0) (title_none text it.label_end);
  };
  labelled = λ begins. absurd (false≢true (sym (no_turn (slice_range text it.label_begin it.end) rest) ∙ begins));
  blank = λ none. subst (λ n. HasNoMoves (slice_range text n it.end)) (sym headed.headed.1)
      (subst (λ n. HasNoMoves (slice_range text head_end n)) (sym headed.placed.1) (empty (sym headed.kind ∙ none)));
  comment = subst (λ n. begins_with_turn (slice_range text it.comment n) ≡ false) (headed.none.1 ∙ sym headed.placed.1) (no_turn_left text it.comment);
  uncommented = subst (λ n. HasNoSlashes (slice_range text it.moves n)) (headed.none.0 ∙ sym headed.none.1) (no_slashes text it.moves);
  plain = λ notation. absurd (noted (there notation));
  commented = λ count before. absurd (commented count (before_there count before));
}
  where
    later : nat_lt it.begin it.head_end ≡ true
    later = let lt : it.begin < it.head_end = omega (arith, headed.placed.0, headed.headed.1, some) in grind (arith, nat_tests)

    rest : is_capital (get_or (slice_range text it.label_begin it.end) 0 0) ≡ false
    rest = subst (λ n. is_capital (get_or (slice_range text n it.end) 0 0) ≡ false) (sym headed.words.0)
        (subst (λ n. is_capital (get_or (slice_range text head_end n) 0 0) ≡ false) (sym headed.placed.1) plain)

    there : AreInNotation (slice_range text it.begin it.end) → AreInNotation (slice_range text line.begin line.end)
    there is = subst (λ n. AreInNotation (slice_range text n line.end)) headed.placed.0 (subst (λ n. AreInNotation (slice_range text it.begin n)) headed.placed.1 is)

    before_there : (count : ℕ) → ArePlainBefore (slice_range text it.begin it.end) count → ArePlainBefore (slice_range text line.begin line.end) count
    before_there count is = subst (λ n. ArePlainBefore (slice_range text n line.end) count) headed.placed.0
        (subst (λ n. ArePlainBefore (slice_range text it.begin n) count) headed.placed.1 is)

    short : (at : ℕ) → slice_range text at at ≡ []
    short at = let none : at - at ≡ 0 = omega arith in ap (λ n. take n (drop at text)) none

    nothing : (bytes : List ℕ) (at : ℕ) → BeginNoMoves (slice_range text at at)
    nothing bytes at = subst (λ v. BeginNoMoves v) (sym (short at)) refl

    no_turn_left : (bytes : List ℕ) (at : ℕ) → begins_with_turn (slice_range text at at) ≡ false
    no_turn_left bytes at = subst (λ v. begins_with_turn v ≡ false) (sym (short at)) (none_at_end [] 0 (omega arith))

    no_slashes : (bytes : List ℕ) (at : ℕ) → HasNoSlashes (slice_range text at at)
    no_slashes bytes at = subst (λ v. HasNoSlashes v) (sym (short at)) (λ k first. absurd (omega (arith, first)))

-- a line of a text, and what is in front of it and after that
pub begin_of_line : (text whole : List ℕ) (begin end head : ℕ) → whole ≡ slice_range text begin end → begin + head ≤ end →
    HasOnlyWords words_of_any_head (take head whole) → HasOnlyWords words_of_any_head (slice_range text begin (begin + head))
begin_of_line text whole begin end head same fits words =
    let size : begin + head - begin ≡ head = omega arith in
    subst (λ v. HasOnlyWords words_of_any_head v)
    (ap (λ v. take head v) same ∙ take-take head (end - begin) (drop begin text) (omega (arith, fits))
    ∙ ap (λ n. take n (drop begin text)) (sym size)) words

pub rest_behind : (text whole : List ℕ) (begin end head : ℕ) → whole ≡ slice_range text begin end → begin + head ≤ end →
    drop head whole ≡ slice_range text (begin + head) end
rest_behind text whole begin end head same fits =
    let split : head + (end - (begin + head)) ≡ end - begin = omega (arith, fits) in
    ap (λ v. drop head v) same ∙ ap (λ n. drop head (take n (drop begin text))) (sym split)
    ∙ drop-take head (end - (begin + head)) (drop begin text) ∙ ap (λ v. take (end - (begin + head)) v) (drop-drop head begin text)

pub byte_of_line : (text whole : List ℕ) (begin end head : ℕ) → whole ≡ slice_range text begin end → begin + head ≤ end →
    is_capital (get_or whole head 0) ≡ false → is_capital (get_or (slice_range text (begin + head) end) 0 0) ≡ false
byte_of_line text whole begin end head same fits none =
    let there : head + 0 ≡ head = omega arith in
    subst (λ v. is_capital (get_or v 0 0) ≡ false) (rest_behind text whole begin end head same fits)
    (subst (λ b. is_capital b ≡ false) (sym (get_or-drop head whole 0 0 ∙ ap (λ n. get_or whole n 0) there)) none)

-- what is told of a line with a head is told of one with any
told_any : (text : List ℕ) (line : TextLine) → IsTold text line → IsToldBy words_of_any_head text line
told_any text line told = record {
  doubted = told.doubted;
  sided = told.sided;
  headed = told.headed;
  says = told.says;
  kept = record {
    head = any_head (slice_range text line.begin line.head_end) told.kept.head;
    margin = told.kept.margin;
    title = told.kept.title;
  };
  labelled = told.labelled;
  blank = told.blank;
  comment = told.comment;
  uncommented = told.uncommented;
  plain = told.plain;
  commented = told.commented;
}

-- so are the lines of a text
covers_any : (text : List ℕ) (from : ℕ) (lines : List TextLine) (to : ℕ) → Covers text from lines to → CoversBy words_of_any_head text from lines to
unfolding CoversBy
covers_any text from [] to far = far
covers_any text from (l ∷ ls) to far =
    (far.0, (told_any text l far.1.0, (far.1.1.0, far.1.1.1, far.1.1.2, far.1.1.3, covers_any text (l.end + end_size text l.end) ls to far.1.1.4)))

-- all lines of a text whose first ones are others
pub all_headed : (text : List ℕ) (lines new rest : List TextLine) (n : ℕ) → n ≤ length lines → length new ≡ length (take n lines) →
    (CoversBy words_of_any_head text 0 (take n lines) (length text) → CoversBy words_of_any_head text 0 new (length text)) → Covers text 0 (take n lines) (length text) →
    CoversBy words_of_any_head text 0 (take n (new ++ rest)) (length text)
all_headed text lines new rest n room same further far =
    let long : length new ≡ n = same ∙ length-take-le n lines room in
    subst (λ v. CoversBy words_of_any_head text 0 v (length text)) (sym (ap (λ m. take m (new ++ rest)) (sym long) ∙ take-append_seam new rest))
    (further (covers_any text 0 (take n lines) (length text) far))

-- lines of which some were told a head, and one more
pub headed_next : (text : List ℕ) (count counted : ℕ) (lines now : List TextLine) (at : ℕ) (none it : TextLine) → at < length now → counted ≡ count →
    AreOrHeaded text count lines now → ((d : TextLine) → get_or now at d ≡ get_or lines at d) →
    IsOrHeaded text counted (get_or now at none) it → AreOrHeaded text count lines (set now at it)
headed_next text count counted lines now at none it room same far left is k d = by_place (cases_eq at k)
  where
    here : IsOrHeaded text count (get_or lines at d) it
    here = subst (λ l. IsOrHeaded text count l it) (get_or_default now at none d room ∙ left d) (subst (λ n. IsOrHeaded text n (get_or now at none) it) same is)

    by_place : (at ≡ k) ⊎ (at ≡ k → ⊥) → IsOrHeaded text count (get_or lines k d) (get_or (set now at it) k d)
    by_place (inl there) = subst (λ n. IsOrHeaded text count (get_or lines n d) (get_or (set now at it) n d)) there
        (subst (λ l. IsOrHeaded text count (get_or lines at d) l) (sym (get_or-set_same now at it d room)) here)
    by_place (inr other) =
        subst (λ l. IsOrHeaded text count (get_or lines k d) l) (sym (get_or-set_other now at k it d (λ e. other (sym e)))) (far k d)

-- lines of which some were told a head, twice
pub headed_twice : (text : List ℕ) (count counted : ℕ) (lines now new : List TextLine) → counted ≡ count → AreOrHeaded text count lines now →
    AreOrHeaded text counted now new → AreOrHeaded text count lines new
headed_twice text count counted lines now new same far more k d = by_both (far k d) (subst (λ n. IsOrHeaded text n (get_or now k d) (get_or new k d)) same (more k d))
  where
    by_both : IsOrHeaded text count (get_or lines k d) (get_or now k d) → IsOrHeaded text count (get_or now k d) (get_or new k d) →
        IsOrHeaded text count (get_or lines k d) (get_or new k d)
    by_both first (inl same_line) = subst (λ l. IsOrHeaded text count (get_or lines k d) l) (sym same_line) first
    by_both (inl same_line) (inr is) = subst (λ l. IsOrHeaded text count l (get_or new k d)) same_line (inr is)
    by_both (inr was) (inr is) = absurd (omega (arith, was.1, is.0))

-- no line was told a head
pub headed_none : (text : List ℕ) (count : ℕ) (lines : List TextLine) → AreOrHeaded text count lines lines
headed_none text count lines k d = inl refl
