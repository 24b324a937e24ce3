use Rattle.niss_shell.proofs.Names.{◌∙◌, Err, ap, string_bytes, spelled_number, err_from_is_err_and}
use Rattle.niss_shell.specs.Words.{scramble_with, most_state, most_turns, most_scrambles}
use Rattle.niss_shell.proofs.WordsLemmas.{word_read, word_unread, scramble_of, spelled_most}
use Rattle.niss_shell.proofs.command.parse_scramble.Goals as goal

pub returns-in_err-state-clause-command : goal.returns-in_err-state-clause-command
returns-in_err-state-clause-command g c =
    let p = err_from_is_err_and c.from_residual.result c.from_residual.ensures.1 in
    let none = word_unread (spelled_number most_state) _ c.as_str.ensures.value c.parse_number.ensures c.ok_or.ensures.value c.in_err-state.was in
    rw (p.1, p.2) (scramble_of string_bytes c.args.words.now c.state-item.result c.stream-item.result c.length-item.result c.count-item.result c.in-len4.len_at_least c.in-len4.len_below c.state-item.is c.stream-item.is c.length-item.is c.count-item.is
    ∙ (λ i. scramble_with (none.0 i) (spelled_number most_state (string_bytes c.stream-item.result)) (spelled_number most_turns (string_bytes c.length-item.result)) (spelled_number most_scrambles (string_bytes c.count-item.result))) ∙ ap Err none.1)

pub returns-in_err-stream-clause-command : goal.returns-in_err-stream-clause-command
returns-in_err-stream-clause-command g c =
    let p = err_from_is_err_and c.from_residual-in_err-stream.result c.from_residual-in_err-stream.ensures.1 in
    let state = word_read (spelled_number most_state) _ c.as_str.ensures.value c.parse_number.ensures c.ok_or.ensures.value c.in_ok-state.was in
    let none = word_unread (spelled_number most_state) _ c.as_str-2.ensures.value c.parse_number-2.ensures c.ok_or-2.ensures.value c.in_err-stream.was in
    rw (p.1, p.2) (scramble_of string_bytes c.args.words.now c.state-item.result c.stream-item.result c.length-item.result c.count-item.result c.in-len4.len_at_least c.in-len4.len_below c.state-item.is c.stream-item.is c.length-item.is c.count-item.is
    ∙ (λ i. scramble_with (state i) (none.0 i) (spelled_number most_turns (string_bytes c.length-item.result)) (spelled_number most_scrambles (string_bytes c.count-item.result))) ∙ ap Err none.1)

pub returns-in_err-length-clause-command : goal.returns-in_err-length-clause-command
returns-in_err-length-clause-command g c =
    let p = err_from_is_err_and c.from_residual-in_err-length.result c.from_residual-in_err-length.ensures.1 in
    let state = word_read (spelled_number most_state) _ c.as_str.ensures.value c.parse_number.ensures c.ok_or.ensures.value c.in_ok-state.was in
    let stream = word_read (spelled_number most_state) _ c.as_str-2.ensures.value c.parse_number-2.ensures c.ok_or-2.ensures.value c.in_ok-stream.was in
    let none = word_unread (spelled_number most_turns) _ c.as_str-3.ensures.value c.parse_number-3.ensures c.ok_or-3.ensures.value c.in_err-length.was in
    rw (p.1, p.2) (scramble_of string_bytes c.args.words.now c.state-item.result c.stream-item.result c.length-item.result c.count-item.result c.in-len4.len_at_least c.in-len4.len_below c.state-item.is c.stream-item.is c.length-item.is c.count-item.is
    ∙ (λ i. scramble_with (state i) (stream i) (none.0 i) (spelled_number most_scrambles (string_bytes c.count-item.result))) ∙ ap Err none.1)

pub returns-in_err-count-clause-command : goal.returns-in_err-count-clause-command
returns-in_err-count-clause-command g c =
    let p = err_from_is_err_and c.from_residual-in_err-count.result c.from_residual-in_err-count.ensures.1 in
    let state = word_read (spelled_number most_state) _ c.as_str.ensures.value c.parse_number.ensures c.ok_or.ensures.value c.in_ok-state.was in
    let stream = word_read (spelled_number most_state) _ c.as_str-2.ensures.value c.parse_number-2.ensures c.ok_or-2.ensures.value c.in_ok-stream.was in
    let length = word_read (spelled_number most_turns) _ c.as_str-3.ensures.value c.parse_number-3.ensures c.ok_or-3.ensures.value c.in_ok-length.was in
    let none = word_unread (spelled_number most_scrambles) _ c.as_str-4.ensures.value c.parse_number-4.ensures c.ok_or-4.ensures.value c.in_err-count.was in
    rw (p.1, p.2) (scramble_of string_bytes c.args.words.now c.state-item.result c.stream-item.result c.length-item.result c.count-item.result c.in-len4.len_at_least c.in-len4.len_below c.state-item.is c.stream-item.is c.length-item.is c.count-item.is
    ∙ (λ i. scramble_with (state i) (stream i) (length i) (none.0 i)) ∙ ap Err none.1)

pub returns-clause-command : goal.returns-clause-command
returns-clause-command g c =
    let state = word_read (spelled_number most_state) _ c.as_str.ensures.value c.parse_number.ensures c.ok_or.ensures.value c.in_ok-state.was in
    let stream = word_read (spelled_number most_state) _ c.as_str-2.ensures.value c.parse_number-2.ensures c.ok_or-2.ensures.value c.in_ok-stream.was in
    let length = word_read (spelled_number most_turns) _ c.as_str-3.ensures.value c.parse_number-3.ensures c.ok_or-3.ensures.value c.in_ok-length.was in
    let count = word_read (spelled_number most_scrambles) _ c.as_str-4.ensures.value c.parse_number-4.ensures c.ok_or-4.ensures.value c.in_ok-count.was in
    scramble_of string_bytes c.args.words.now c.state-item.result c.stream-item.result c.length-item.result c.count-item.result c.in-len4.len_at_least c.in-len4.len_below c.state-item.is c.stream-item.is c.length-item.is c.count-item.is
    ∙ (λ i. scramble_with (state i) (stream i) (length i) (count i))

pub returns-clause-in_range : goal.returns-clause-in_range
returns-clause-in_range g c = (
  spelled_most most_turns c.in_ok-length.length (string_bytes c.length-item.result) (word_read (spelled_number most_turns) _ c.as_str-3.ensures.value c.parse_number-3.ensures c.ok_or-3.ensures.value c.in_ok-length.was),
  spelled_most most_scrambles c.in_ok-count.count (string_bytes c.count-item.result) (word_read (spelled_number most_scrambles) _ c.as_str-4.ensures.value c.parse_number-4.ensures c.ok_or-4.ensures.value c.in_ok-count.was),
)
