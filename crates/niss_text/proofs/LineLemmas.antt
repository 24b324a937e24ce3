-- One more line of a text.
use Rattle.std.proofs.Common.{◌≡◌, ℕ, zero, suc, ◌+◌, ◌-◌, ◌<◌, ◌≤◌, ◌⊎◌, inl, inr, List, [], ◌∷◌, ◌++◌, length, take, drop, set, get_or, slice_range, zero-add, refl, sym, subst, ap, ◌∙◌, arith}
use Rattle.std.proofs.lemmas.Bool.{cases_lt}
use Rattle.std.proofs.lemmas.List.{take_more_set, take-take, take_all, set_past, drop-set-lt, drop-drop, get_or-drop, length-drop}
use Rattle.std.specs.List.{All}
use Rattle.std.proofs.lemmas.List.Elements.{All-nil, All-cons}
use Rattle.niss_text.specs.declared.text_line.TextLine.{TextLine}
use Rattle.niss_text.specs.Signs.{ends_line}
use Rattle.niss_text.specs.Lines.{Covers, IsLine, IsTold, IsUnbroken, IsEnd, end_of, end_size}
unfoldable use Rattle.niss_text.specs.Lines.{CoversBy, Counts, AreNumbered}

pub covers_none : (text : List ℕ) (at : ℕ) → Covers text at [] at
unfolding CoversBy
covers_none text at = refl

pub covers_more : (text : List ℕ) (from : ℕ) (lines : List TextLine) (to : ℕ) (line : TextLine) (size : ℕ) → Covers text from lines to → IsLine to line → IsTold text line →
    line.end ≡ to + size → IsUnbroken text to size → IsEnd text line.end → Covers text from (lines ++ line ∷ []) (line.end + end_size text line.end)
unfolding CoversBy
covers_more text from [] to line size same is told end whole ended =
    subst (λ (at : ℕ). IsLine at line × (IsTold text line × ((n : ℕ) × (line.end ≡ at + n) × IsUnbroken text at n × IsEnd text line.end
    × (line.end + end_size text line.end ≡ line.end + end_size text line.end)))) (sym same) (is, (told, (size, end, whole, ended, refl)))
covers_more text from (l ∷ ls) to line size far is told end whole ended =
    (far.0, (far.1.0, (far.1.1.0, far.1.1.1, far.1.1.2, far.1.1.3, covers_more text (l.end + end_size text l.end) ls to line size far.1.1.4 is told end whole ended)))

-- all lines of a text
pub all_covered : (text : List ℕ) (lines new : List TextLine) (first at n end : ℕ) → first ≡ 0 → at ≡ 0 →
    (Covers text 0 (take first lines) at → Covers text 0 (take n new) end) → end ≡ length text → Covers text 0 (take n new) (length text)
all_covered text lines new first at n end none begin further ends =
    subst (λ (m : ℕ). Covers text 0 (take n new) m) ends
    (further (subst (λ (m : ℕ). Covers text 0 (take m lines) at) (sym none) (subst (λ (m : ℕ). Covers text 0 (take 0 lines) m) (sym begin) (covers_none text 0))))

-- a line in the rest of a text stands in the text
pub unbroken_at : (text : List ℕ) (now size : ℕ) → IsUnbroken (drop now text) 0 size → IsUnbroken text now size
unbroken_at text now size unbroken k lt =
    ap (λ b. ends_line b) (sym (get_or-drop now text k 0)) ∙ ap (λ n. ends_line (get_or (drop now text) n 0)) (sym (zero-add k)) ∙ unbroken k lt

pub ended_at : (text : List ℕ) (now size : ℕ) → IsEnd (drop now text) size → IsEnd text (now + size)
ended_at text now size ends lt = ap (λ b. ends_line b) (sym (get_or-drop now text size 0)) ∙ ends (omega (arith, lt, length-drop now text))

-- what ends a line in the rest of a text ends it in the text
pub end_size_at : (text : List ℕ) (now size : ℕ) → end_size (drop now text) size ≡ end_size text (now + size)
end_size_at text now size =
    let first : get_or (drop now text) size 0 ≡ get_or text (now + size) 0 = get_or-drop now text size 0 in
    let second : get_or (drop now text) (size + 1) 0 ≡ get_or text (now + (size + 1)) 0 = get_or-drop now text (size + 1) 0 in
    let same : now + (size + 1) ≡ now + size + 1 = omega arith in
    ap (λ a. end_of a (get_or (drop now text) (size + 1) 0)) first
    ∙ ap (λ b. end_of (get_or text (now + size) 0) b) (second ∙ ap (λ n. get_or text n 0) same)

pub line_ends : (text : List ℕ) (now size whole : ℕ) (line : TextLine) → line.end ≡ now + size → whole ≡ size + end_size (drop now text) size →
    line.end + end_size text line.end ≡ now + whole
line_ends text now size whole line end all =
    ap (λ n. n + end_size text n) end ∙ ap (λ n. now + size + n) (sym (end_size_at text now size)) ∙ sum ∙ ap (λ n. now + n) (sym all)
  where
    sum : now + size + end_size (drop now text) size ≡ now + (size + end_size (drop now text) size)
    sum = omega arith

-- the same in memory: a line is cut from the rest of a text
pub covers_next : (text : List ℕ) (lines : List TextLine) (count now size whole : ℕ) (line : TextLine) → count < length lines →
    Covers text 0 (take count lines) now → IsLine now line → IsTold text line → line.end ≡ now + size → IsUnbroken (drop now text) 0 size →
    whole ≡ size + end_size (drop now text) size → IsEnd (drop now text) size → Covers text 0 (take (count + 1) (set lines count line)) (now + whole)
covers_next text lines count now size whole line room far is told end unbroken all ends =
    let there : line.end + end_size text line.end ≡ now + whole = line_ends text now size whole line end all in
    let broken : IsUnbroken text now size = unbroken_at text now size unbroken in
    let ended : IsEnd text (now + size) = ended_at text now size ends in
    subst (λ (ls : List TextLine). Covers text 0 ls (now + whole)) (sym (take_more_set lines count line room))
    (subst (λ (n : ℕ). Covers text 0 (take count lines ++ line ∷ []) n) there (covers_more text 0 (take count lines) now line size far is told end broken
    (subst (λ (n : ℕ). IsEnd text n) (sym end) ended)))

pub counts_none : (text : List ℕ) (at : ℕ) → Counts text at 0 at
unfolding Counts
counts_none text at = refl

pub counts_more : (text : List ℕ) (from count to size : ℕ) → Counts text from count to → to < length text → IsUnbroken text to size → IsEnd text (to + size) →
    Counts text from (suc count) (to + size + end_size text (to + size))
unfolding Counts
counts_more text from zero to size same some whole ends =
    subst (λ (at : ℕ). (at < length text) × ((n : ℕ) × IsUnbroken text at n × IsEnd text (at + n)
    × (at + n + end_size text (at + n) ≡ to + size + end_size text (to + size)))) (sym same) (some, (size, whole, ends, refl))
counts_more text from (suc count) to size far some whole ends =
    (far.0, (far.1.0, far.1.1, far.1.2, counts_more text (from + far.1.0 + end_size text (from + far.1.0)) count to size far.1.3 some whole ends))

-- the same of a line that is cut from the rest of a text
pub counts_next : (text : List ℕ) (count now size whole : ℕ) → Counts text 0 count now → now < length text → IsUnbroken (drop now text) 0 size →
    IsEnd (drop now text) size → whole ≡ size + end_size (drop now text) size → Counts text 0 (count + 1) (now + whole)
counts_next text count now size whole far some unbroken ends all =
    let there : now + size + end_size text (now + size) ≡ now + whole =
    ap (λ n. now + size + n) (sym (end_size_at text now size)) ∙ sum ∙ ap (λ n. now + n) (sym all) in
    let broken : IsUnbroken text now size = unbroken_at text now size unbroken in
    let ended : IsEnd text (now + size) = ended_at text now size ends in
    let one : suc count ≡ count + 1 = omega arith in
    subst (λ (n : ℕ). Counts text 0 n (now + whole)) one
    (subst (λ (n : ℕ). Counts text 0 (suc count) n) there (counts_more text 0 count now size far some broken ended))
  where
    sum : now + size + end_size (drop now text) size ≡ now + (size + end_size (drop now text) size)
    sum = omega arith

pub same_behind_line : (lines first : List TextLine) (count : ℕ) (line : TextLine) → drop count lines ≡ drop count first →
    drop (count + 1) (set lines count line) ≡ drop (count + 1) first
same_behind_line lines first count line far =
    drop-set-lt (count + 1) lines count line (omega arith) ∙ sym (drop-drop 1 count lines) ∙ ap (λ v. drop 1 v) far ∙ drop-drop 1 count first

pub same_behind_none : (lines first : List TextLine) (count : ℕ) → drop count lines ≡ drop count first → drop (count + 1) lines ≡ drop (count + 1) first
same_behind_none lines first count far = sym (drop-drop 1 count lines) ∙ ap (λ v. drop 1 v) far ∙ drop-drop 1 count first

-- the first of some that are the same
pub fewer_kept : {Item : Type 0} (items others : List Item) (n m : ℕ) → n ≤ m → take m items ≡ take m others → take n items ≡ take n others
fewer_kept items others n m le same = sym (take-take n m items le) ∙ ap (λ v. take n v) same ∙ take-take n m others le

-- what is the same after some lines is so after more of them
pub more_behind : {Item : Type 0} (lines first : List Item) (count more : ℕ) → count ≤ more → drop count lines ≡ drop count first → drop more lines ≡ drop more first
more_behind lines first count more le far =
    let split : count + (more - count) ≡ more = omega arith in
    ap (λ n. drop n lines) (sym split) ∙ sym (drop-drop (more - count) count lines) ∙ ap (λ v. drop (more - count) v) far
    ∙ drop-drop (more - count) count first ∙ ap (λ n. drop n first) split

-- one more line, or none if there is no room
pub one_more : (P : List TextLine → Type 0) (lines : List TextLine) (count : ℕ) (line : TextLine) → P (take count lines) →
    (count < length lines → P (take (count + 1) (set lines count line))) → P (take (count + 1) (set lines count line))
one_more P lines count line is more = by_room (cases_lt count (length lines))
  where
    by_room : (count < length lines) ⊎ (length lines ≤ count) → P (take (count + 1) (set lines count line))
    by_room (inl room) = more room
    by_room (inr full) =
        let past : set lines count line ≡ lines = set_past lines count line full in
        let whole : take (count + 1) lines ≡ take count lines = take_all (count + 1) lines (omega (arith, full)) ∙ sym (take_all count lines full) in
        subst (λ (ls : List TextLine). P ls) (sym (ap (λ ls. take (count + 1) ls) past ∙ whole)) is

pub numbered_none : AreNumbered 0 [] 0
unfolding AreNumbered
numbered_none = refl

-- one more line, of the next attempt
pub numbered_first : (seen : ℕ) (lines : List TextLine) (all : ℕ) (line : TextLine) → AreNumbered seen lines all → line.attempt ≡ all →
    AreNumbered seen (lines ++ line ∷ []) (all + 1)
unfolding AreNumbered
numbered_first seen [] all line same is = inl (is ∙ sym same, ap (λ n. n + 1) same)
numbered_first seen (l ∷ ls) all line (inl far) is = inl (far.0, numbered_first (seen + 1) ls all line far.1 is)
numbered_first seen (l ∷ ls) all line (inr far) is = inr (far.0, numbered_first seen ls all line far.1 is)

-- one more line of the same attempt
pub numbered_same : (seen : ℕ) (lines : List TextLine) (all : ℕ) (line : TextLine) → AreNumbered seen lines all → line.attempt + 1 ≡ all →
    AreNumbered seen (lines ++ line ∷ []) all
unfolding AreNumbered
numbered_same seen [] all line same is = inr (is ∙ sym same, same)
numbered_same seen (l ∷ ls) all line (inl far) is = inl (far.0, numbered_same (seen + 1) ls all line far.1 is)
numbered_same seen (l ∷ ls) all line (inr far) is = inr (far.0, numbered_same seen ls all line far.1 is)

-- both in memory, at a place of an attempt
pub numbered_next : (lines : List TextLine) (count all at : ℕ) (line : TextLine) → count < length lines → (at ≡ 0 → AreNumbered 0 (take count lines) all) →
    (0 < at → AreNumbered 0 (take count lines) (all + 1)) → line.attempt ≡ all → AreNumbered 0 (take (count + 1) (set lines count line)) (all + 1)
numbered_next lines count all at line room first more is =
    subst (λ (ls : List TextLine). AreNumbered 0 ls (all + 1)) (sym (take_more_set lines count line room)) (by_place (cases_lt 0 at))
  where
    by_place : (0 < at) ⊎ (at ≤ 0) → AreNumbered 0 (take count lines ++ line ∷ []) (all + 1)
    by_place (inl later) = numbered_same 0 (take count lines) (all + 1) line (more later) (ap (λ n. n + 1) is)
    by_place (inr here) = numbered_first 0 (take count lines) all line (first (omega (arith, here))) is

-- no lines, from a place on
pub numbered_begin : (seen all : ℕ) (lines : List TextLine) (at : ℕ) → seen ≡ all → AreNumbered seen (slice_range lines at at) all
unfolding AreNumbered
numbered_begin seen all lines at same =
    let none : 0 ≡ at - at = omega arith in
    subst (λ n. AreNumbered seen (take n (drop at lines)) all) none same

numbered_order : (seen : ℕ) (lines : List TextLine) (all : ℕ) → AreNumbered seen lines all → seen ≤ all
unfolding AreNumbered
numbered_order seen [] all same = omega (arith, same)
numbered_order seen (l ∷ ls) all (inl far) = omega (arith, numbered_order (seen + 1) ls all far.1)
numbered_order seen (l ∷ ls) all (inr far) = numbered_order seen ls all far.1

-- one attempt is the first one
pub numbered_one : (seen : ℕ) (lines : List TextLine) → seen ≤ 1 → AreNumbered seen lines 1 → All (λ (l : TextLine). l.attempt ≡ 0) lines
unfolding AreNumbered
numbered_one seen [] low far = All-nil (λ (l : TextLine). l.attempt ≡ 0)
numbered_one seen (l ∷ ls) low (inl far) =
    let less : seen + 1 ≤ 1 = numbered_order (seen + 1) ls 1 far.1 in
    All-cons (λ (l : TextLine). l.attempt ≡ 0) l ls (omega (arith, far.0, less)) (numbered_one (seen + 1) ls less far.1)
numbered_one seen (l ∷ ls) low (inr far) =
    All-cons (λ (l : TextLine). l.attempt ≡ 0) l ls (omega (arith, far.0, low)) (numbered_one seen ls low far.1)

-- no lines are of the first attempt
pub no_attempt : (lines : List TextLine) (at : ℕ) → All (λ (l : TextLine). l.attempt ≡ 0) (slice_range lines at at)
no_attempt lines at =
    let none : 0 ≡ at - at = omega arith in
    subst (λ n. All (λ (l : TextLine). l.attempt ≡ 0) (take n (drop at lines))) none (All-nil (λ (l : TextLine). l.attempt ≡ 0))

-- lines are numbered from the first one on as their part is that begins there
pub numbered_from_first : (old new : List TextLine) (written all number after : ℕ) →
    (AreNumbered 0 (slice_range old 0 written) number → AreNumbered 0 (slice_range new 0 all) after) →
    AreNumbered 0 (take written old) number → AreNumbered 0 (take all new) after
numbered_from_first old new written all number after far begun =
    subst (λ n. AreNumbered 0 (take n new) after) (same all) (far (subst (λ n. AreNumbered 0 (take n old) number) (sym (same written)) begun))
  where
    same : (n : ℕ) → n - 0 ≡ n
    same n = omega arith

-- so are those of one attempt from a place on
pub one_attempt : (old new : List TextLine) (at n number : ℕ) → number ≡ 0 →
    (AreNumbered 0 (slice_range old at at) number → AreNumbered 0 (slice_range new at n) (number + 1)) → All (λ (l : TextLine). l.attempt ≡ 0) (slice_range new at n)
one_attempt old new at n number first numbers =
    let one : number + 1 ≡ 1 = omega (arith, first) in
    numbered_one 0 (slice_range new at n) (omega arith)
    (subst (λ m. AreNumbered 0 (slice_range new at n) m) one (numbers (numbered_begin 0 number old at (sym first))))
