-- What a call that runs a command in memory does: the words of a command line, one after the other in the bytes of one
-- text, and what it returns.
use Rattle.std.specs.Prelude.{◌≡◌, ◌⊎◌, ℕ, ◌<◌, ◌≤◌, if◌then◌else◌, Bool, true, false, List, [], ◌∷◌, ◌++◌, length}
use Rattle.std.specs.List.{list_all}
use Rattle.std.specs.Str.{is_utf8}
use Rattle.niss_shell.specs.Words.{request_of}
use Rattle.niss_shell.specs.Device.{End}
use Rattle.niss_shell.specs.Lines.{HasNo, IsCutAt}
use Rattle.niss_shell.specs.Output.{Answer, answer_request, error_text, most_error_text, status_of, line_with_bytes}
use Rattle.niss_shell.specs.Run.{due_without, outcome_before}
use Rattle.niss_embed.specs.Names.{Answer as Given}
use Rattle.niss_embed.specs.Memory.{Memory, Puts}

-- These are the words of the bytes, each of which a zero byte ends: what stands after the last one is one if it has a
-- byte.
pub record AreWords (bytes : List ℕ) (words : List (List ℕ)) : Type 0 where
  pub ended : List (List ℕ)
  pub last : List ℕ
  pub cut : IsCutAt 0 bytes ended last
  pub all : words ≡ ended ++ line_with_bytes last

-- the words that a command line with these is run with: none if one of them is no text
abbrev pub text_words : List (List ℕ) → List (List ℕ)
text_words words = if list_all is_utf8 words then words else []

-- These words are taken of the bytes.
pub record TakesWords (bytes : List ℕ) (taken : List (List ℕ)) : Type 0 where
  pub words : List (List ℕ)
  pub are_words : AreWords bytes words
  pub taken_is : taken ≡ text_words words

-- The first word of the bytes, and what is after it and the zero byte that ends it.
pub record IsFirstWord (bytes word after : List ℕ) : Type 0 where
  pub unbroken : HasNo 0 word
  pub ends : (word ++ 0 ∷ after ≡ bytes) ⊎ ((word ≡ bytes) × (after ≡ []) × (0 < length bytes))

-- what a run with these words on this input is to write and to return, if memory was refused or wasn't
abbrev pub due : Bool → (words : List (List ℕ)) (input : List ℕ) → Answer
due refused words input = due_without refused (answer_request (request_of words) input End)

-- What was due is written into the memory for the output, what went wrong into that for the error text, and the answer
-- says how much and with which status.
pub record Answers (due : Answer) (out err : Memory) (answer : Given) : Type 0 where
  pub output : Puts due.output out answer.out_length answer.out_too_small
  pub error : Puts (error_text (outcome_before answer.out_too_small due.outcome)) err answer.err_length
      answer.err_too_small
  -- so much room is enough for each error text
  pub room : most_error_text ≤ length err.before → answer.err_too_small ≡ false
  pub status : answer.status ≡ status_of (outcome_before answer.out_too_small due.outcome)

-- What a call with the words in these bytes does to the two memories, and what it returns.
pub record RunsBytes (bytes input : List ℕ) (out err : Memory) (answer : Given) : Type 0 where
  pub words : List (List ℕ)
  pub are_words : AreWords bytes words
  -- whether memory was refused, which is asked for only if there are words
  pub refused : Bool
  pub asked : refused ≡ true → 0 < length bytes
  pub answers : Answers (due refused (text_words words) input) out err answer

-- the same of a run with these words
pub record RunsWords (words : List (List ℕ)) (input : List ℕ) (out err : Memory) (answer : Given) : Type 0 where
  pub refused : Bool
  pub asked : refused ≡ true → 0 < length words
  pub answers : Answers (due refused words input) out err answer
