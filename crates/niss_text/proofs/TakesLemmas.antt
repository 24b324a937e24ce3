-- One more line of those that are taken of a text.
use Rattle.std.proofs.Common.{◌≡◌, ℕ, ◌+◌, ◌-◌, ◌<◌, ◌≤◌, ◌⊎◌, inl, inr, List, [], ◌∷◌, ◌++◌, length, take, drop, set, slice_range, sym, subst, ap, ◌∙◌, length-drop, arith}
use Rattle.std.proofs.lemmas.Bool.{cases_lt}
use Rattle.std.proofs.lemmas.List.{take_more_set, drop-set-add}
use Rattle.niss_text.specs.declared.text_line.TextLine.{TextLine}
use Rattle.niss_text.specs.Kept.{words_of_any_head}
use Rattle.niss_text.specs.Lines.{AreNumbered, IsLine, IsTold, IsUnbroken, IsEnd, HasNoneBetween, HasNoneBy, Takes, end_size}
use Rattle.niss_text.proofs.LineLemmas.{unbroken_at, ended_at, line_ends, numbered_first, numbered_same}
use Rattle.niss_text.proofs.PassedLemmas.{none_between, between_on}
unfoldable use Rattle.niss_text.specs.Lines.{TakesBy}

takes_more : (words : List (List ℕ)) (text : List ℕ) (from : ℕ) (lines : List TextLine) (to : ℕ) (line : TextLine) (size : ℕ) → TakesBy words text from lines to →
    IsLine to line → IsTold text line → line.end ≡ to + size → IsUnbroken text to size → IsEnd text line.end →
    TakesBy words text from (lines ++ line ∷ []) (line.end + end_size text line.end)
unfolding TakesBy
takes_more words text from [] to line size far is told end whole ended =
    subst (λ (at : ℕ). HasNoneBy words text from at × (IsLine at line × (IsTold text line × ((n : ℕ) × (line.end ≡ at + n) × IsUnbroken text at n × IsEnd text line.end
    × HasNoneBy words text (line.end + end_size text line.end) (line.end + end_size text line.end))))) (sym is.begins)
    (far, (is, (told, (size, end, whole, ended, none_between words text (line.end + end_size text line.end)))))
takes_more words text from (l ∷ ls) to line size far is told end whole ended =
    let more = takes_more words text (l.end + end_size text l.end) ls to line size far.1.1.1.4 is told end whole ended in
    (far.0, (far.1.0, (far.1.1.0, (far.1.1.1.0, far.1.1.1.1, far.1.1.1.2, far.1.1.1.3, more))))

-- one more of some items in memory, from one of them on
slice_more : {Item : Type 0} (items : List Item) (first count : ℕ) (item : Item) → first ≤ count → count < length items →
    slice_range (set items count item) first (count + 1) ≡ slice_range items first count ++ item ∷ []
slice_more items first count item low room =
    let there : first + (count - first) ≡ count = omega (arith, low) in
    let size : count + 1 - first ≡ count - first + 1 = omega (arith, low) in
    ap (λ n. take (count + 1 - first) (drop first (set items n item))) (sym there)
    ∙ ap (λ v. take (count + 1 - first) v) (drop-set-add first items (count - first) item)
    ∙ ap (λ n. take n (set (drop first items) (count - first) item)) size
    ∙ take_more_set (drop first items) (count - first) item (omega (arith, low, room, length-drop first items))

-- the same in memory
pub takes_next : (words : List (List ℕ)) (text : List ℕ) (from first : ℕ) (lines : List TextLine) (count now size whole : ℕ) (line : TextLine) → first ≤ count →
    count < length lines → TakesBy words text from (slice_range lines first count) now → IsLine now line → IsTold text line → line.end ≡ now + size →
    IsUnbroken (drop now text) 0 size → whole ≡ size + end_size (drop now text) size → IsEnd (drop now text) size →
    TakesBy words text from (slice_range (set lines count line) first (count + 1)) (now + whole)
takes_next words text from first lines count now size whole line low room far is told end unbroken all ends =
    subst (λ (ls : List TextLine). TakesBy words text from ls (now + whole)) (sym (slice_more lines first count line low room))
    (subst (λ (n : ℕ). TakesBy words text from (slice_range lines first count ++ line ∷ []) n) (line_ends text now size whole line end all)
    (takes_more words text from (slice_range lines first count) now line size far is told end (unbroken_at text now size unbroken)
    (subst (λ (n : ℕ). IsEnd text n) (sym end) (ended_at text now size ends))))

-- one more line of an attempt, of those from a place on
pub numbered_on : (seen first : ℕ) (lines : List TextLine) (count all at : ℕ) (line : TextLine) → first ≤ count → count < length lines →
    (at ≡ 0 → AreNumbered seen (slice_range lines first count) all) → (0 < at → AreNumbered seen (slice_range lines first count) (all + 1)) → line.attempt ≡ all →
    AreNumbered seen (slice_range (set lines count line) first (count + 1)) (all + 1)
numbered_on seen first lines count all at line low room begun more is =
    subst (λ (ls : List TextLine). AreNumbered seen ls (all + 1)) (sym (slice_more lines first count line low room)) (by_place (cases_lt 0 at))
  where
    by_place : (0 < at) ⊎ (at ≤ 0) → AreNumbered seen (slice_range lines first count ++ line ∷ []) (all + 1)
    by_place (inl later) = numbered_same seen (slice_range lines first count) (all + 1) line (more later) (ap (λ n. n + 1) is)
    by_place (inr here) = numbered_first seen (slice_range lines first count) all line (begun (omega (arith, here))) is

-- no lines, from a place of the text on
pub takes_none : (text : List ℕ) (from : ℕ) (lines : List TextLine) (at to : ℕ) → HasNoneBetween text from to → Takes text from (slice_range lines at at) to
unfolding TakesBy
takes_none text from lines at to far = subst (λ n. Takes text from (take n (drop at lines)) to) none far
  where
    none : 0 ≡ at - at
    none = omega arith

-- all lines from the first on
pub takes_first : (text : List ℕ) (lines : List TextLine) (n to : ℕ) → Takes text 0 (slice_range lines 0 n) to → Takes text 0 (take n lines) to
takes_first text lines n to far = subst (λ (k : ℕ). Takes text 0 (take k lines) to) same far
  where
    same : n - 0 ≡ n
    same = omega arith

-- what follows has no moves
pub takes_further : (text : List ℕ) (from : ℕ) (lines : List TextLine) (to more : ℕ) → Takes text from lines to → HasNoneBetween text to more → Takes text from lines more
unfolding TakesBy
takes_further text from [] to more far next = between_on text from to more far next
takes_further text from (l ∷ ls) to more far next =
    (far.0, (far.1.0, (far.1.1.0, (far.1.1.1.0, far.1.1.1.1, far.1.1.1.2, far.1.1.1.3, takes_further text (l.end + end_size text l.end) ls to more far.1.1.1.4 next))))

-- the same of lines from the first on
pub takes_behind : (text : List ℕ) (lines : List TextLine) (n to more : ℕ) → Takes text 0 (take n lines) to → HasNoneBetween text to more →
    Takes text 0 (slice_range lines 0 n) more
takes_behind text lines n to more far next =
    subst (λ (k : ℕ). Takes text 0 (take k lines) more) same (takes_further text 0 (take n lines) to more far next)
  where
    same : n ≡ n - 0
    same = omega arith

pub takes_begun : (text : List ℕ) → Takes text 0 [] 0
unfolding TakesBy
takes_begun text = none_between words_of_any_head text 0
