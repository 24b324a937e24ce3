use Rattle.niss_shell.proofs.Names.{◌∙◌, Err, refl, ap, map, take, drop, length, string_bytes, spelled_number, step_named, err_from_is_err_and}
use Rattle.std.specs.Prelude.{◌-◌}
use Rattle.niss_shell.specs.Names.{Solutions}
use Rattle.niss_shell.specs.Words.{search_request, most_limit}
use Rattle.niss_shell.proofs.WordsLemmas.{word_read, word_unread, near_of}
use Rattle.niss_shell.proofs.command.parse_near.Goals as goal

pub returns-in_err-step : goal.returns-in_err-step
returns-in_err-step g c =
    let p = err_from_is_err_and c.from_residual.result c.from_residual.ensures.1 in
    let none = word_unread step_named _ c.as_bytes.ensures.value c.step_named.ensures c.ok_or.ensures.value c.in_err-step.was in
    rw (p.1, p.2) (near_of string_bytes c.args.words.now c.step-item.result c.limit-item.result c.slack-item.result c.in-len3-up.len_at_least c.step-item.is c.limit-item.is c.slack-item.is
    ∙ (λ i. search_request Solutions (none.0 i) (spelled_number most_limit (string_bytes c.limit-item.result)) (spelled_number most_limit (string_bytes c.slack-item.result))
    (map string_bytes (take (length c.args.words.now - 3) (drop 3 c.args.words.now)))) ∙ ap Err none.1)

pub returns-in_err-limit : goal.returns-in_err-limit
returns-in_err-limit g c =
    let p = err_from_is_err_and c.from_residual-in_err-limit.result c.from_residual-in_err-limit.ensures.1 in
    let step = word_read step_named _ c.as_bytes.ensures.value c.step_named.ensures c.ok_or.ensures.value c.in_ok-step.was in
    let none = word_unread (spelled_number most_limit) _ c.as_str.ensures.value c.parse_limit.ensures c.ok_or-2.ensures.value c.in_err-limit.was in
    rw (p.1, p.2) (near_of string_bytes c.args.words.now c.step-item.result c.limit-item.result c.slack-item.result c.in-len3-up.len_at_least c.step-item.is c.limit-item.is c.slack-item.is
    ∙ (λ i. search_request Solutions (step i) (none.0 i) (spelled_number most_limit (string_bytes c.slack-item.result))
    (map string_bytes (take (length c.args.words.now - 3) (drop 3 c.args.words.now)))) ∙ ap Err none.1)

pub returns-in_err-slack : goal.returns-in_err-slack
returns-in_err-slack g c =
    let p = err_from_is_err_and c.from_residual-in_err-slack.result c.from_residual-in_err-slack.ensures.1 in
    let step = word_read step_named _ c.as_bytes.ensures.value c.step_named.ensures c.ok_or.ensures.value c.in_ok-step.was in
    let limit = word_read (spelled_number most_limit) _ c.as_str.ensures.value c.parse_limit.ensures c.ok_or-2.ensures.value c.in_ok-limit.was in
    let none = word_unread (spelled_number most_limit) _ c.as_str-2.ensures.value c.parse_limit-2.ensures c.ok_or-3.ensures.value c.in_err-slack.was in
    rw (p.1, p.2) (near_of string_bytes c.args.words.now c.step-item.result c.limit-item.result c.slack-item.result c.in-len3-up.len_at_least c.step-item.is c.limit-item.is c.slack-item.is
    ∙ (λ i. search_request Solutions (step i) (limit i) (none.0 i)
    (map string_bytes (take (length c.args.words.now - 3) (drop 3 c.args.words.now)))) ∙ ap Err none.1)

pub returns : goal.returns
returns g c =
    let step = word_read step_named _ c.as_bytes.ensures.value c.step_named.ensures c.ok_or.ensures.value c.in_ok-step.was in
    let limit = word_read (spelled_number most_limit) _ c.as_str.ensures.value c.parse_limit.ensures c.ok_or-2.ensures.value c.in_ok-limit.was in
    let slack = word_read (spelled_number most_limit) _ c.as_str-2.ensures.value c.parse_limit-2.ensures c.ok_or-3.ensures.value c.in_ok-slack.was in (
      near_of string_bytes c.args.words.now c.step-item.result c.limit-item.result c.slack-item.result c.in-len3-up.len_at_least c.step-item.is c.limit-item.is c.slack-item.is
          ∙ (λ i. search_request Solutions (step i) (limit i) (slack i)
          (map string_bytes (take (length c.args.words.now - 3) (drop 3 c.args.words.now)))),
      tt,
      refl,
    )
