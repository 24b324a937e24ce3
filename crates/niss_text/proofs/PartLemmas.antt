-- One more line of a part: no moves stand before its body.
use Rattle.std.proofs.Common.{◌≡◌, ℕ, ◌+◌, ◌-◌, ◌≤◌, ◌⊎◌, inl, inr, ◌==◌, ◌||◌, not, Bool, true, false, List, [], ◌∷◌, length, take, drop, get_or, slice_range, refl, sym, subst, ap, ◌∙◌, arith}
use Rattle.std.proofs.lemmas.Bool.{cases_eq, false≢true, or_from, or_parts}
use Rattle.std.proofs.lemmas.List.{drop-drop, drop-take}
use Rattle.niss_text.specs.declared.text_line.TextLine.{TextLine}
use Rattle.niss_text.specs.declared.parts.Part.{Part}
use Rattle.niss_text.specs.Signs.{ends_line}
use Rattle.niss_text.specs.Kept.{words_of_any_head}
use Rattle.niss_text.specs.Known.{HasBody, IsRead}
use Rattle.niss_text.specs.Lines.{IsLine, IsToldBy, IsUnbroken, IsEnd, HasNoneBetween, end_size, has_moves}
use Rattle.niss_text.proofs.LineLemmas.{counts_none}
use Rattle.niss_text.proofs.PassedLemmas.{between_on, between_order, counts_order, none_between, line_between, head_between, covers_order, count_line}
unfoldable use Rattle.niss_text.specs.Lines.{CoversBy, Counts}

-- what a part's body has up to a place: no moves stand before it, and it has so many lines at most
abbrev pub BodyUpTo : (text : List ℕ) (from count at body : ℕ) → Type 0
BodyUpTo text from count at body = HasNoneBetween text from body × ((n : ℕ) × (n ≤ count) × Counts text body n at)

-- a part after that many lines, up to a place
pub record UpTo (text : List ℕ) (from count at : ℕ) (part : Part) : Type 0 where
  pub none : part.has_moves ≡ false → HasNoneBetween text from at
  pub body : (part.has_head || part.has_body) ≡ true → BodyUpTo text from count at part.body
  pub bare : part.has_body ≡ false → part.has_moves ≡ false

-- a part with one more line
pub record Further (part next : Part) (line : TextLine) : Type 0 where
  pub has : next.has_head ≡ (part.has_head || not (line.is_headed == 0))
  pub moves : next.has_moves ≡ (part.has_moves || has_moves line)
  pub bare : next.has_body ≡ false → (line.kind ≡ 0) × ((line.is_headed ≡ 0 → ⊥) ⊎ (part.has_body ≡ false))
  pub under_head : (line.is_headed ≡ 0 → ⊥) → next.body ≡ line.head_end
  pub first : line.is_headed ≡ 0 → part.has_body ≡ false → next.has_body ≡ true → next.body ≡ line.begin
  pub later : line.is_headed ≡ 0 → (part.has_body ≡ true) ⊎ (next.has_body ≡ false) → next.body ≡ part.body
  pub ended : (line.is_headed ≡ 0) ⊎ (part.has_moves ≡ false)

up_to_none : (text : List ℕ) (from count : ℕ) (part : Part) → part.has_head ≡ false → part.has_moves ≡ false → part.has_body ≡ false → UpTo text from count from part
up_to_none text from count part head moves body = record {
  none = λ e. none_between words_of_any_head text from;
  body = λ e. absurd (false≢true (sym (or_from part.has_head part.has_body head body) ∙ e));
  bare = λ e. moves;
}

either : (a b : Bool) → (a ≡ true) ⊎ (b ≡ true) → (a || b) ≡ true
either true b some = refl
either false b (inl is) = absurd (false≢true is)
either false b (inr is) = is

part_next : (text : List ℕ) (from count at : ℕ) (part next : Part) (line : TextLine) (lines : List TextLine) → CoversBy words_of_any_head text at (line ∷ lines) (length text) →
    Further part next line → UpTo text from count at part → UpTo text from (count + 1) (line.end + end_size text line.end) next
unfolding CoversBy
part_next text from count at part next line lines far step so_far = record {
  none = λ no.
      let both = or_parts part.has_moves (has_moves line) (sym step.moves ∙ no) in
      between_on text from at there (so_far.none both.0) (line_between text at size line is told both.1 end whole ended);
  body = λ some. by_head (cases_eq line.is_headed 0) some;
  bare = λ no. step.moves ∙ or_from part.has_moves (has_moves line) (unmoved no) (ap (λ k. (k == 2) || (k == 3)) (step.bare no).0);
}
  where
    is : IsLine at line
    is = far.0

    told : IsToldBy words_of_any_head text line
    told = far.1.0

    size : ℕ
    size = far.1.1.0

    end : line.end ≡ at + size
    end = far.1.1.1

    whole : IsUnbroken text at size
    whole = far.1.1.2

    ended : IsEnd text line.end
    ended = far.1.1.3

    there : ℕ
    there = line.end + end_size text line.end

    within : there ≤ length text
    within = covers_order text there lines (length text) far.1.1.4

    unmoved : next.has_body ≡ false → part.has_moves ≡ false
    unmoved lacks = by_case (step.bare lacks).1 step.ended
      where
        by_case : (line.is_headed ≡ 0 → ⊥) ⊎ (part.has_body ≡ false) → (line.is_headed ≡ 0) ⊎ (part.has_moves ≡ false) → part.has_moves ≡ false
        by_case (inl headed) (inl none) = absurd (headed none)
        by_case (inl headed) (inr moves) = moves
        by_case (inr bare) _ = so_far.bare bare

    -- the lines from a place in this one or before it, with this one
    counted : (body n now rest : ℕ) → Counts text body n now → now + rest ≡ line.end → IsUnbroken text now rest → (m : ℕ) × (m ≤ n + 1) × Counts text body m there
    counted body n now rest counts same unbroken =
        count_line text body n now rest there counts (sym (ap (λ e. e + end_size text e) same)) within unbroken
        (subst (λ e. IsEnd text e) (sym same) ended)

    by_head : (line.is_headed ≡ 0) ⊎ (line.is_headed ≡ 0 → ⊥) → (next.has_head || next.has_body) ≡ true → BodyUpTo text from (count + 1) there next.body
    by_head (inr headed) some = subst (λ b. BodyUpTo text from (count + 1) there b) (sym (step.under_head headed)) (before step.ended, under)
      where
        before : (line.is_headed ≡ 0) ⊎ (part.has_moves ≡ false) → HasNoneBetween text from line.head_end
        before (inl none) = absurd (headed none)
        before (inr moves) = between_on text from at line.head_end (so_far.none moves) (head_between text at size line is told end whole)

        rest : ℕ
        rest = line.end - line.head_end

        low : (line.head_end + rest ≡ line.end) × ((line.head_end ≡ at + (line.head_end - at)) × ((line.head_end - at) + rest ≡ size))
        low = (
          omega (arith, is.label, is.words, is.title, is.moves, is.comment),
          (
            omega (arith, is.begins, is.head),
            omega (arith, is.begins, is.head, is.label, is.words, is.title, is.moves, is.comment, end),
          ),
        )

        unbroken : IsUnbroken text line.head_end rest
        unbroken k lt = subst (λ n. ends_line (get_or text n 0) ≡ false) (moved k) (whole (line.head_end - at + k) (omega (arith, lt, low.1.1)))
          where
            moved : (k : ℕ) → at + (line.head_end - at + k) ≡ line.head_end + k
            moved k = omega (arith, low.1.0)

        under : (n : ℕ) × (n ≤ count + 1) × Counts text line.head_end n there
        under =
            let c : (m : ℕ) × (m ≤ 0 + 1) × Counts text line.head_end m there =
            counted line.head_end 0 line.head_end rest (counts_none text line.head_end) low.0 unbroken in
            (c.0, omega (arith, c.1), c.2)
    by_head (inl none) some = by_body next.has_body part.has_body refl refl
      where
        longer : BodyUpTo text from count at part.body → BodyUpTo text from (count + 1) there part.body
        longer b =
            let c : (m : ℕ) × (m ≤ b.1.0 + 1) × Counts text part.body m there = counted part.body b.1.0 at size b.1.2 (sym end) whole in
            (b.0, (c.0, omega (arith, c.1, b.1.1), c.2))

        by_body : (now before : Bool) → next.has_body ≡ now → part.has_body ≡ before → BodyUpTo text from (count + 1) there next.body
        by_body now true is_now was = subst (λ b. BodyUpTo text from (count + 1) there b) (sym (step.later none (inl was)))
            (longer (so_far.body (either part.has_head part.has_body (inr was))))
        by_body true false is_now was =
            let c : (m : ℕ) × (m ≤ 0 + 1) × Counts text at m there = counted at 0 at size (counts_none text at) (sym end) whole in
            subst (λ b. BodyUpTo text from (count + 1) there b) (sym (step.first none was is_now ∙ is.begins))
            (so_far.none (so_far.bare was), (c.0, omega (arith, c.1), c.2))
        by_body false false is_now was =
            let head : part.has_head ≡ true = headed (part.has_head) (next.has_head) step.has (sym (ap (λ b. next.has_head || b) is_now) ∙ some) in
            subst (λ b. BodyUpTo text from (count + 1) there b) (sym (step.later none (inr is_now)))
            (longer (so_far.body (either part.has_head part.has_body (inl head))))
          where
            headed : (a b : Bool) → b ≡ (a || not (line.is_headed == 0)) → (b || false) ≡ true → a ≡ true
            headed true b same some = refl
            headed false b same some = absurd (false≢true (sym (or_from b false (same ∙ ap (λ n. not (n == 0)) none) refl) ∙ some))

-- what is in a part that isn't begun
abbrev pub HasNothing : Part → Type 0
HasNothing part = (part.has_head ≡ false) × ((part.has_moves ≡ false) × ((part.has_body ≡ false) × (part.name_end ≡ 0)))

-- a part that is begun
pub record BegunUpTo (text : List ℕ) (from count at : ℕ) (part : Part) : Type 0 where
  pub before : HasNoneBetween text from part.begin
  pub low : part.begin ≤ at
  pub up_to : UpTo text part.begin count at part
  pub named : (part.name_end ≡ 0) ⊎ ((part.begin ≤ part.name_begin) × (part.name_end ≤ at))

-- a part after that many lines from a place on
pub record Since (text : List ℕ) (from count at : ℕ) (part : Part) : Type 0 where
  pub unbegun : part.is_begun ≡ false → HasNoneBetween text from at × HasNothing part
  pub begun : part.is_begun ≡ true → BegunUpTo text from count at part

pub since_none : (text : List ℕ) (from : ℕ) (part : Part) → part.is_begun ≡ false → part.has_head ≡ false → part.has_moves ≡ false → part.has_body ≡ false →
    part.name_end ≡ 0 → Since text from 0 from part
since_none text from part unbegun head moves body name = record {
  unbegun = λ e. (none_between words_of_any_head text from, (head, (moves, (body, name))));
  begun = λ e. absurd (false≢true (sym unbegun ∙ e));
}

-- where a part begins with one more line, and its name
pub record Begins (part next : Part) (line : TextLine) : Type 0 where
  pub unbegun : (next.is_begun ≡ true) ⊎ ((next ≡ part) × ((line.kind ≡ 0) × (line.is_headed ≡ 0)))
  pub begins : part.is_begun ≡ false → next.is_begun ≡ true → next.begin ≡ line.begin
  pub goes_on : part.is_begun ≡ true → (next.is_begun ≡ true) × (next.begin ≡ part.begin)
  pub named : (line.is_headed ≡ 0 → ⊥) → part.has_head ≡ false → (next.name_begin ≡ line.begin) × (next.name_end ≡ line.head_end)
  pub kept : (line.is_headed ≡ 0) ⊎ (part.has_head ≡ true) → (next.name_begin ≡ part.name_begin) × (next.name_end ≡ part.name_end)

pub since_next : (text : List ℕ) (from count at : ℕ) (part next : Part) (line : TextLine) (lines : List TextLine) → CoversBy words_of_any_head text at (line ∷ lines)
    (length text) → Further part next line → Begins part next line → Since text from count at part → Since text from (count + 1) (line.end + end_size text line.end) next
unfolding CoversBy
since_next text from count at part next line lines far step begin so_far = record {
  unbegun = λ e. by_unbegun e begin.unbegun;
  begun = λ e. by_begun e part.is_begun refl;
}
  where
    is : IsLine at line
    is = far.0

    there : ℕ
    there = line.end + end_size text line.end

    order : (at ≤ line.head_end) × (line.head_end ≤ there)
    order = (omega (arith, is.begins, is.head), omega (arith, is.label, is.words, is.title, is.moves, is.comment))

    by_unbegun : next.is_begun ≡ false → (next.is_begun ≡ true) ⊎ ((next ≡ part) × ((line.kind ≡ 0) × (line.is_headed ≡ 0))) →
        HasNoneBetween text from there × HasNothing next
    by_unbegun e (inl is_begun) = absurd (false≢true (sym e ∙ is_begun))
    by_unbegun e (inr same) =
        let before = so_far.unbegun (ap (λ (p : Part). p.is_begun) (sym same.0) ∙ e) in (
          between_on text from at there before.0
              (line_between text at far.1.1.0 line is far.1.0 (ap (λ k. (k == 2) || (k == 3)) same.1.0) far.1.1.1 far.1.1.2 far.1.1.3),
          subst (λ (p : Part). HasNothing p) (sym same.0) before.1,
        )

    -- its name, if it begins there
    by_name : (first : ℕ) → first ≤ at → (part.name_end ≡ 0) ⊎ ((first ≤ part.name_begin) × (part.name_end ≤ at)) →
        (line.is_headed ≡ 0) ⊎ (line.is_headed ≡ 0 → ⊥) → (had : Bool) → part.has_head ≡ had → (next.name_end ≡ 0) ⊎ ((first ≤ next.name_begin) × (next.name_end ≤ there))
    by_name first low named (inr headed) false had =
        let name = begin.named headed had in
        inr (omega (arith, name.0, low, is.begins), omega (arith, name.1, order.1))
    by_name first low named (inr headed) true had = stays (begin.kept (inr had)) named
      where
        stays : (next.name_begin ≡ part.name_begin) × (next.name_end ≡ part.name_end) → (part.name_end ≡ 0) ⊎ ((first ≤ part.name_begin) × (part.name_end ≤ at)) →
            (next.name_end ≡ 0) ⊎ ((first ≤ next.name_begin) × (next.name_end ≤ there))
        stays same (inl zero) = inl (same.1 ∙ zero)
        stays same (inr name) = inr (omega (arith, same.0, name.0), omega (arith, same.1, name.1, order.0, order.1))
    by_name first low named (inl unheaded) b had = stays (begin.kept (inl unheaded)) named
      where
        stays : (next.name_begin ≡ part.name_begin) × (next.name_end ≡ part.name_end) → (part.name_end ≡ 0) ⊎ ((first ≤ part.name_begin) × (part.name_end ≤ at)) →
            (next.name_end ≡ 0) ⊎ ((first ≤ next.name_begin) × (next.name_end ≤ there))
        stays same (inl zero) = inl (same.1 ∙ zero)
        stays same (inr name) = inr (omega (arith, same.0, name.0), omega (arith, same.1, name.1, order.0, order.1))

    begun_at : (first : ℕ) → next.begin ≡ first → first ≤ at → HasNoneBetween text from first → UpTo text first count at part →
        (part.name_end ≡ 0) ⊎ ((first ≤ part.name_begin) × (part.name_end ≤ at)) → BegunUpTo text from (count + 1) there next
    begun_at first same low before up_to named = record {
      before = subst (λ n. HasNoneBetween text from n) (sym same) before;
      low = omega (arith, same, low, order.0, order.1);
      up_to = subst (λ n. UpTo text n (count + 1) there next) (sym same) (part_next text first count at part next line lines far step up_to);
      named = subst (λ n. (next.name_end ≡ 0) ⊎ ((n ≤ next.name_begin) × (next.name_end ≤ there))) (sym same)
          (by_name first low named (cases_eq line.is_headed 0) part.has_head refl);
    }

    by_begun : next.is_begun ≡ true → (was : Bool) → part.is_begun ≡ was → BegunUpTo text from (count + 1) there next
    by_begun e true was =
        let before : BegunUpTo text from count at part = so_far.begun was in
        begun_at part.begin (begin.goes_on was).1 before.low before.before before.up_to before.named
    by_begun e false was =
        let before = so_far.unbegun was in
        begun_at at (begin.begins was e ∙ is.begins) (omega arith) before.0 (up_to_none text at count part before.1.0 before.1.1.0 before.1.1.1.0) (inl before.1.1.1.1)

-- the place of the first of some lines, or the end
pub first_place : (text : List ℕ) (at : ℕ) (line : TextLine) (lines : List TextLine) (to : ℕ) → CoversBy words_of_any_head text at (line ∷ lines) to → line.begin ≡ at
unfolding CoversBy
first_place text at line lines to far = far.0.begins

pub last_place : (text : List ℕ) (at : ℕ) (lines : List TextLine) (to : ℕ) → length lines ≡ 0 → CoversBy words_of_any_head text at lines to → to ≡ at
unfolding CoversBy
last_place text at [] to none same = sym same
last_place text at (l ∷ ls) to none far = absurd (omega (arith, none))

pub covers_rest : (text : List ℕ) (at : ℕ) (line : TextLine) (lines : List TextLine) (to : ℕ) → CoversBy words_of_any_head text at (line ∷ lines) to →
    CoversBy words_of_any_head text (line.end + end_size text line.end) lines to
unfolding CoversBy
covers_rest text at line lines to far = far.1.1.4

pub is_read : (text : List ℕ) (from count at end : ℕ) (part : Part) → end ≡ at → at ≤ length text → Since text from count at part →
    IsRead text from count (record part { end = end })
is_read text from count at end part same within so_far = record {
  something = λ some. by_something some part.is_begun refl;
  nothing = λ no. subst (λ n. HasNoneBetween text from n) (sym same) (by_nothing no part.is_begun refl);
}
  where
    by_body : (head moves body : Bool) → (body ≡ false → moves ≡ false) → (head || moves) ≡ true → (head || body) ≡ true
    by_body true moves body bare some = refl
    by_body false moves true bare some = refl
    by_body false moves false bare some = absurd (false≢true (sym (bare refl) ∙ some))

    by_something : (part.has_head || part.has_moves) ≡ true → (was : Bool) → part.is_begun ≡ was → HasBody text from count (record part { end = end })
    by_something some true was =
        let begun : BegunUpTo text from count at part = so_far.begun was in
        let b : BodyUpTo text part.begin count end part.body = subst (λ n. BodyUpTo text part.begin count n part.body) (sym same)
        (begun.up_to.body (by_body part.has_head part.has_moves part.has_body begun.up_to.bare some)) in
        record {
          before = begun.before;
          heads = b.0;
          lines = b.1.0;
          few = b.1.1;
          counts = b.1.2;
          within = omega (arith, within, same);
          named = subst (λ n. (part.name_end ≡ 0) ⊎ ((part.begin ≤ part.name_begin) × (part.name_end ≤ n))) (sym same) begun.named;
        }
    by_something some false was =
        let none = (so_far.unbegun was).1 in
        absurd (false≢true (sym (or_from part.has_head part.has_moves none.0 none.1.0) ∙ some))

    by_nothing : (part.has_head || part.has_moves) ≡ false → (was : Bool) → part.is_begun ≡ was → HasNoneBetween text from at
    by_nothing lacks true was =
        let begun : BegunUpTo text from count at part = so_far.begun was in
        between_on text from part.begin at begun.before (begun.up_to.none (or_parts part.has_head part.has_moves lacks).1)
    by_nothing lacks false was = (so_far.unbegun was).0

-- Of a text that many lines are read, up to a place, and as many at least were told of it; what follows was told too, and no
-- moves stand before it.
pub record Unread (text : List ℕ) (at written next : ℕ) (lines : List TextLine) : Type 0 where
  pub place : ℕ
  pub before : HasNoneBetween text at place
  pub covers : CoversBy words_of_any_head text place lines (length text)
  pub few : written ≤ next

-- what follows a part of some lines, if those behind it are the same in others
pub slice_behind : {Item : Type 0} (old new : List Item) (next size count : ℕ) → next + size ≤ count → drop (next + size) new ≡ drop (next + size) old →
    drop size (slice_range old next count) ≡ slice_range new (next + size) count
slice_behind old new next size count le same =
    let split : count - next ≡ size + (count - (next + size)) = omega (arith, le) in
    ap (λ n. drop size (take n (drop next old))) split ∙ drop-take size (count - (next + size)) (drop next old)
    ∙ ap (λ v. take (count - (next + size)) v) (drop-drop size next old ∙ sym same)

-- a part that follows what is read follows what is unread
pub body_behind : (text : List ℕ) (at place most : ℕ) (part : Part) → HasNoneBetween text at place → HasBody text place most part → HasBody text at most part
body_behind text at place most part before body = record {
  before = between_on text at place part.begin before body.before;
  heads = body.heads;
  lines = body.lines;
  few = body.few;
  counts = body.counts;
  within = body.within;
  named = body.named;
}

pub body_low : (text : List ℕ) (at most : ℕ) (part : Part) → HasBody text at most part → (at ≤ part.body) × (part.body ≤ part.end)
body_low text at most part body = (
  between_order text at part.body (between_on text at part.begin part.body body.before body.heads),
  counts_order text part.body body.lines part.end body.counts,
)

-- no lines are left
pub all_read : (text : List ℕ) (at place : ℕ) (lines : List TextLine) (next count : ℕ) → count ≤ next → HasNoneBetween text at place →
    CoversBy words_of_any_head text place (slice_range lines next count) (length text) → HasNoneBetween text at (length text)
unfolding CoversBy
all_read text at place lines next count le before far =
    let none : count - next ≡ 0 = omega (arith, le) in
    let end : CoversBy words_of_any_head text place [] (length text) = subst (λ n. CoversBy words_of_any_head text place (take n (drop next lines)) (length text)) none far in
    subst (λ n. HasNoneBetween text at n) end before
