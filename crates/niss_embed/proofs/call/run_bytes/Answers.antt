use Rattle.std.proofs.Common.{map, sym, subst}
use Rattle.std.specs.Prelude.{string_bytes}
use Rattle.niss_embed.specs.Run.{TakesWords}
use Rattle.niss_embed.proofs.RunLemmas.{runs_bytes, refuses_bytes}
use Rattle.niss_embed.proofs.call.run_bytes.Goals as goal

pub returns-in-Ok : goal.returns-in-Ok
returns-in-Ok g c = record {
  runs = runs_bytes (subst (λ v. TakesWords c.args.words.now (map string_bytes v)) (sym c.deref.ensures.value) c.in-Ok.ensures.words)
      c.run_words.ensures.runs;
}

pub returns-in-Err : goal.returns-in-Err
returns-in-Err g c = record { runs = refuses_bytes c.in-Err.ensures.asked c.refuse_memory.ensures.answers }
