use Rattle.std.proofs.Common.{ℕ, List, ◌≡◌, ◌+◌, ◌-◌, ◌<◌, ◌≤◌, length, drop, get_or, length-drop, ap, take, slice_range, sym, ◌∙◌, subst, arith}
use Rattle.niss_text.specs.Signs.{AreSigns, is_spacing}
use Rattle.niss_text.specs.Kept.{IsTitleEnd}
use Rattle.niss_text.proofs.KeptLemmas.{blank_title, whole_title, part_long}
use Rattle.niss_text.proofs.LayerLemmas.{comment_begins}
use Rattle.niss_text.proofs.CommentLemmas.{parts_plain}
use Rattle.niss_text.proofs.SaidLemmas.{no_slashes}
use Rattle.niss_text.proofs.FrontLemmas.{labelled}
use Rattle.std.proofs.lemmas.List.{get_or-drop, get_or-take}
use Rattle.niss_text.specs.Doubts.{is_letter as is_plain_letter}
use Rattle.niss_text.proofs.line_parts.parts_of.Goals.{then-words-eq0, else-words-eq0, then-span-eq0, else-span-eq0}
use Rattle.niss_text.proofs.line_parts.parts_of.Goals as goal

pub returns-clause-title : goal.returns-clause-title
returns-clause-title c =
    let line : List ℕ = c.args.line.now in
    let begin : ℕ = c.args.head + c.numbering.result in
    let words : ℕ = c.title_of-words.result.0 in
    let title : ℕ = c.title_of-words.result.1 in
    let span = c.span_of-span.result in
    let lead : ℕ = begin + title + span.begin in
    let comment : ℕ = begin + title + span.end in
    let blanks : ℕ = c.blanks.result in
    let slashes : ℕ = c.args.head + c.comment_at.result in
    let fits : blanks ≤ comment - lead = omega (arith, c.blanks.ensures.fits, part_long line lead comment) in
    elim c.if-span-eq0.branch [
      | then-span-eq0 w ↦
          let none : span.begin ≡ 0 = w.if-span-eq0.true in
          let there : lead ≡ begin + title = omega (arith, none) in
          let label_end : c.if-span-eq0.result ≡ begin + words = w.result-is ∙ elim c.if-words-eq0.branch [
            | then-words-eq0 v ↦ v.title_end-is ∙ omega (arith, none, v.if-words-eq0.true, c.title_of-words.ensures.none v.if-words-eq0.true)
            | else-words-eq0 v ↦ v.title_end-is
          ] in
          subst (λ n. IsTitleEnd (slice_range line n (lead + blanks))) (sym label_end)
          (subst (λ n. IsTitleEnd (slice_range line (begin + words) (n + blanks))) (sym there)
          (whole_title line begin slashes words title blanks comment c.title_of-words.ensures.order
          (omega (arith, c.title_of-words.ensures.fits, part_long line begin slashes)) c.title_of-words.ensures.end
          (subst (λ n. blanks ≤ comment - n) there fits)
          (subst (λ n. AreSigns is_spacing (take blanks (slice_range line n comment))) there c.blanks.ensures.spacing)))
      | else-span-eq0 w ↦
          subst (λ n. IsTitleEnd (slice_range line n (lead + blanks))) (sym w.result-is) (blank_title line lead comment blanks fits c.blanks.ensures.spacing)
    ]

pub returns-clause-comment : goal.returns-clause-comment
returns-clause-comment c =
    let line : List ℕ = c.args.line.now in
    let head : ℕ = c.args.head in
    let begin : ℕ = head + c.numbering.result in
    let body : ℕ = begin + c.title_of-words.result.1 in
    let slashes : ℕ = head + c.comment_at.result in
    let rest : List ℕ = c.from_place.result.now in
    let is : rest ≡ drop head line = c.from_place.ensures in
    let within : slashes ≤ length line = omega (arith, c.comment_at.ensures.fits, ap length is, length-drop head line, c.requires) in
    let first : c.numbering.result ≤ slashes - head = omega (arith, c.numbering.ensures.fits, part_long line head slashes) in
    let second : c.title_of-words.result.1 ≤ slashes - begin = omega (arith, c.title_of-words.ensures.fits, part_long line begin slashes) in
    comment_begins line slashes body c.span_of-span.result.end (omega (arith, first, second)) within
    (omega (arith, c.span_of-span.ensures.fits, part_long line body slashes))
    (λ lt. sym (get_or-drop head line c.comment_at.result 0) ∙ ap (λ v. get_or v c.comment_at.result 0) (sym is)
    ∙ c.comment_at.ensures.slash (omega (arith, lt, ap length is, length-drop head line))) c.span_of-span.ensures.tail

pub returns-clause-uncommented : goal.returns-clause-uncommented
returns-clause-uncommented c =
    let line : List ℕ = c.args.line.now in
    let head : ℕ = c.args.head in
    let begin : ℕ = head + c.numbering.result in
    let body : ℕ = begin + c.title_of-words.result.1 in
    let slashes : ℕ = head + c.comment_at.result in
    let first : c.numbering.result ≤ slashes - head = omega (arith, c.numbering.ensures.fits, part_long line head slashes) in
    let second : c.title_of-words.result.1 ≤ slashes - begin = omega (arith, c.title_of-words.ensures.fits, part_long line begin slashes) in
    no_slashes line c.from_place.result.now head c.comment_at.result (body + c.span_of-span.result.begin + c.blanks.result)
    (body + c.span_of-span.result.end) c.from_place.ensures c.comment_at.ensures.first (omega arith)
    (omega (arith, first, second, c.span_of-span.ensures.fits, part_long line body slashes))

pub returns-clause-slashes : goal.returns-clause-slashes
returns-clause-slashes c = λ lt.
    let line : List ℕ = c.args.line.now in
    let head : ℕ = c.args.head in
    let at : ℕ = c.comment_at.result in
    let is : c.from_place.result.now ≡ drop head line = c.from_place.ensures in
    let within : at < length c.from_place.result.now = omega (arith, lt, ap length is, length-drop head line) in
    let next : head + (at + 1) ≡ head + at + 1 = omega arith in (
      sym (get_or-drop head line at 0) ∙ ap (λ v. get_or v at 0) (sym is) ∙ c.comment_at.ensures.slash within,
      ap (λ n. get_or line n 0) (sym next) ∙ sym (get_or-drop head line (at + 1) 0) ∙ ap (λ v. get_or v (at + 1) 0) (sym is) ∙ c.comment_at.ensures.next_slash within,
    )

pub returns-clause-entitled : goal.returns-clause-entitled
returns-clause-entitled c = λ lt.
    let line : List ℕ = c.args.line.now in
    let head : ℕ = c.args.head in
    let begin : ℕ = head + c.numbering.result in
    let words : ℕ = c.title_of-words.result.0 in
    let body : ℕ = begin + c.title_of-words.result.1 in
    let span = c.span_of-span.result in
    let slashes : ℕ = head + c.comment_at.result in
    let first : c.numbering.result ≤ slashes - head = omega (arith, c.numbering.ensures.fits, part_long line head slashes) in
    let second : c.title_of-words.result.1 ≤ slashes - begin = omega (arith, c.title_of-words.ensures.fits, part_long line begin slashes) in
    let third : span.end ≤ slashes - body = omega (arith, c.span_of-span.ensures.fits, part_long line body slashes) in
    elim c.if-span-eq0.branch [
      | then-span-eq0 w ↦ absurd (omega (arith, lt, w.result-is))
      | else-span-eq0 w ↦ elim c.if-words-eq0.branch [
        | then-words-eq0 v ↦ absurd (omega (arith, lt, w.result-is, v.title_end-is))
        | else-words-eq0 v ↦
            let less : begin + words < body + span.begin = omega (arith, lt, w.result-is, v.title_end-is) in
            let within : words < slashes - begin = omega (arith, less, first, second, third, span.in_order) in
            ap (λ n. is_plain_letter (get_or line n 0)) v.title_end-is
            ∙ sym (ap is_plain_letter (get_or-take (slashes - begin) (drop begin line) words 0 within ∙ get_or-drop begin line words 0))
            ∙ c.title_of-words.ensures.words (omega (arith, v.if-words-eq0.false))
      ]
    ]

pub returns-clause-plain : goal.returns-clause-plain
returns-clause-plain c = λ count top before.
    parts_plain c.args.line.now c.from_place.result.now c.args.head c.comment_at.result c.numbering.result c.title_of-words.result.1 c.blanks.result
    count c.span_of-span.result.begin c.span_of-span.result.end c.span_of-span.result.is_moves top before c.from_place.ensures c.comment_at.ensures.first
    c.comment_at.ensures.slash c.numbering.ensures.begin c.title_of-words.ensures.plain c.span_of-span.ensures.plain c.blanks.ensures.empty

pub returns-clause-labelled : goal.returns-clause-labelled
returns-clause-labelled c =
    let line : List ℕ = c.args.line.now in
    let head : ℕ = c.args.head in
    let begin : ℕ = head + c.numbering.result in
    let words : ℕ = c.title_of-words.result.0 in
    let title : ℕ = c.title_of-words.result.1 in
    let span = c.span_of-span.result in
    let slashes : ℕ = head + c.comment_at.result in
    let rest : List ℕ = c.from_place.result.now in
    let is : rest ≡ drop head line = c.from_place.ensures in
    let within : slashes ≤ length line = omega (arith, c.comment_at.ensures.fits, ap length is, length-drop head line, c.requires) in
    let first : c.numbering.result ≤ slashes - head = omega (arith, c.numbering.ensures.fits, part_long line head slashes) in
    let second : title ≤ slashes - begin = omega (arith, c.title_of-words.ensures.fits, part_long line begin slashes) in
    labelled line begin words title slashes span.begin span.end c.blanks.result (omega (arith, first)) within c.title_of-words.ensures.order second
    (λ lt. sym (get_or-drop head line c.comment_at.result 0) ∙ ap (λ v. get_or v c.comment_at.result 0) (sym is)
    ∙ c.comment_at.ensures.slash (omega (arith, lt, ap length is, length-drop head line)))
    c.title_of-words.ensures.none c.title_of-words.ensures.colon c.span_of-span.ensures.front c.blanks.ensures.empty c.blanks.ensures.fits
