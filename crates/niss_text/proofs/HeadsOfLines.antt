-- The heads of lines, and the names of parts that these are.
use Rattle.std.proofs.Common.{◌≡◌, ℕ, ◌+◌, ◌<◌, ◌≤◌, ◌==◌, Bool, true, false, if◌then◌else◌, Option, Some, MatchOption, List, [], ◌∷◌, length, take, set, get_or, slice_range, refl, sym, subst, arith}
use Rattle.std.specs.List.{All}
use Rattle.std.proofs.lemmas.List.{take_more_set}
use Rattle.std.proofs.lemmas.List.Elements.{All-nil, All-cons, All-head, All-tail, All-get_or, All-from_get_or, All-push}
use Rattle.niss_text.specs.Kept.{HasOnlyWords, words_of_any_head}
use Rattle.niss_text.specs.Lines.{IsLine, IsToldBy, end_size}
use Rattle.niss_text.specs.Known.{IsName, IsNamed, HaveHeads, HaveNames, AreNamedAs}
use Rattle.niss_text.specs.declared.known.KnownPart.{KnownPart}
use Rattle.niss_text.specs.declared.parts.Part.{Part}
use Rattle.niss_text.specs.declared.text_line.TextLine.{TextLine}
use Rattle.niss_text.proofs.KeptLemmas.{only_none}
use Rattle.niss_text.proofs.PassedLemmas.{covers_order}
unfoldable use Rattle.niss_text.specs.Lines.{CoversBy}
unfoldable use Rattle.niss_text.specs.Known.{first_headed}

told_name : (text : List ℕ) (line : TextLine) → IsLine line.begin line → IsToldBy words_of_any_head text line → line.end ≤ length text → IsName text line.begin line.head_end
told_name text line is told within = record {
  order = is.head;
  within = omega (arith, is.label, is.words, is.title, is.moves, is.comment, within);
  words = told.kept.head;
}

pub covers_heads : (text : List ℕ) (from : ℕ) (lines : List TextLine) (to : ℕ) → CoversBy words_of_any_head text from lines to → to ≤ length text → HaveHeads text lines
unfolding CoversBy
covers_heads text from [] to far within = All-nil (λ (l : TextLine). IsName text l.begin l.head_end)
covers_heads text from (l ∷ ls) to far within =
    All-cons (λ (l : TextLine). IsName text l.begin l.head_end) l ls
    (told_name text l (subst (λ n. IsLine n l) (sym is.begins) is) far.1.0
    (omega (arith, covers_order text (l.end + end_size text l.end) ls to far.1.1.4, within)))
    (covers_heads text (l.end + end_size text l.end) ls to far.1.1.4 within)
  where
    is : IsLine from l
    is = far.0

-- the name of a part of lines
pub name_of_lines : (text : List ℕ) (lines : List TextLine) (part : Part) → HaveHeads text lines → IsNamed lines part → IsName text part.name_begin part.name_end
unfolding first_headed
name_of_lines text [] part far named = record {
  order = omega (arith, named.1, named.2);
  within = omega (arith, named.2);
  words = subst (λ n. HasOnlyWords words_of_any_head (slice_range text n part.name_end)) (sym named.1)
      (subst (λ n. HasOnlyWords words_of_any_head (slice_range text 0 n)) (sym named.2) (only_none words_of_any_head [] refl));
}
name_of_lines text (l ∷ ls) part far named =
    by_head (l.is_headed == 0) (λ more. name_of_lines text ls part (All-tail (λ (l : TextLine). IsName text l.begin l.head_end) l ls far) more) named
  where
    Told : Option TextLine → Type 0
    Told first = MatchOption first ((part.has_head ≡ false) × (part.name_begin ≡ 0) × (part.name_end ≡ 0))
        (λ l. (part.has_head ≡ true) × (part.name_begin ≡ l.begin) × (part.name_end ≡ l.head_end))

    by_head : (b : Bool) → (Told (first_headed ls) → IsName text part.name_begin part.name_end) → Told (if b then first_headed ls else Some l) →
        IsName text part.name_begin part.name_end
    by_head true later is = later is
    by_head false later is =
        subst (λ n. IsName text n part.name_end) (sym is.1) (subst (λ n. IsName text l.begin n) (sym is.2)
        (All-head (λ (l : TextLine). IsName text l.begin l.head_end) l ls far))

-- parts with the names of others
pub names_stay : (text : List ℕ) (old new : List KnownPart) (none : KnownPart) → length new ≡ length old → AreNamedAs old new → HaveNames text old → HaveNames text new
names_stay text old new none long named far =
    All-from_get_or (λ (p : KnownPart). IsName text p.name_begin p.name_end) new none (λ k lt.
    subst (λ n. IsName text n (get_or new k none).name_end) (sym (named k none).0)
    (subst (λ n. IsName text (get_or old k none).name_begin n) (sym (named k none).1)
    (All-get_or (λ (p : KnownPart). IsName text p.name_begin p.name_end) old k none (omega (arith, lt, long)) far)))

-- what is so of parts, and of one more in memory
pub all_next : (P : KnownPart → Type 0) (parts : List KnownPart) (n : ℕ) (part : KnownPart) → n < length parts → All P (take n parts) → P part →
    All P (take (n + 1) (set parts n part))
all_next P parts n part room far is = subst (λ (ps : List KnownPart). All P ps) (sym (take_more_set parts n part room)) (All-push P (take n parts) part far is)
