use Rattle.niss_shell.proofs.Names.{Ok, refl, sym, ◌∙◌, string_bytes}
use Rattle.niss_shell.proofs.WordsLemmas.{named_command, parses_by}
use Rattle.niss_shell.specs.declared.command.Command.TheVariants as command
use Rattle.niss_shell.proofs.command.parse_words.Goals as goal

pub returns-in-scramble : goal.returns-in-scramble
returns-in-scramble g c =
    named_command string_bytes c.parse_scramble.result c.in-Some.ensures.cases.0 (sym c.as_str.ensures.value ∙ c.in-scramble.is)
    (parses_by c.parse_scramble.result _ _ c.parse_scramble.ensures.command c.parse_scramble.ensures.in_range c.parse_scramble.ensures.named)

pub returns-in-invert : goal.returns-in-invert
returns-in-invert g c =
    named_command string_bytes (Ok (command.Invert c.in-Some.rest)) c.in-Some.ensures.cases.0
    (sym c.as_str.ensures.value ∙ c.in-invert.is) (refl, tt, refl)

pub returns-in-unniss : goal.returns-in-unniss
returns-in-unniss g c =
    named_command string_bytes (Ok (command.Unniss c.in-Some.rest)) c.in-Some.ensures.cases.0
    (sym c.as_str.ensures.value ∙ c.in-unniss.is) (refl, tt, refl)

pub returns-in-cleanup : goal.returns-in-cleanup
returns-in-cleanup g c =
    named_command string_bytes (Ok (command.Cleanup c.in-Some.rest)) c.in-Some.ensures.cases.0
    (sym c.as_str.ensures.value ∙ c.in-cleanup.is) (refl, tt, refl)

pub returns-in-print : goal.returns-in-print
returns-in-print g c =
    named_command string_bytes (Ok (command.Print c.in-Some.rest)) c.in-Some.ensures.cases.0
    (sym c.as_str.ensures.value ∙ c.in-print.is) (refl, tt, refl)
