use Rattle.std.proofs.Common.{◌≡◌, map, refl, sym, ◌∙◌, subst}
use Rattle.std.specs.Prelude.{string_bytes}
use Rattle.niss_embed.specs.Memory.{memory, Lent, lent}
use Rattle.niss_embed.specs.Run.{RunsWords}
use Rattle.niss_embed.specs.declared.memory.MemorySource.{MemorySource}
use Rattle.niss_embed.specs.declared.memory.MemoryTarget.{MemoryTarget}
use Rattle.niss_embed.proofs.RunLemmas.{Call, answer_of, runs_call, out_kept, err_kept}
use Rattle.niss_embed.proofs.call.run_words.Goals as goal

abbrev lent_to : MemoryTarget → Lent
lent_to t = lent t.bytes.now t.bytes.ghost_name t.written t.refused

pub returns : goal.returns
returns g c =
    let out = c.run_in-status.new.out in
    let err = c.run_in-status.new.err in
    let out_back : c.out-2-1.given.0 ≡ out.bytes.now =
    c.out-2-1.given.1.1 (sym (out_kept lent_to c.new-out.result out c.run_in-status.ensures.runs ∙ c.new-out.ensures.same_reference)) in
    let err_back : c.err-2-1.given.0 ≡ err.bytes.now =
    c.err-2-1.given.1.1 (sym (err_kept lent_to c.new-err.result err c.run_in-status.ensures.runs ∙ c.new-err.ensures.same_reference)) in
    let call : Call = record {
      out = record {
        before = c.args.out.now;
        after = out.bytes.now;
        reference = c.new-out.result.bytes.ghost_name;
        reference_now = out.bytes.ghost_name;
        count = out.written;
        refused = out.refused;
        within = out.within;
        full = out.full;
      };
      err = record {
        before = c.args.err.now;
        after = err.bytes.now;
        reference = c.new-err.result.bytes.ghost_name;
        reference_now = err.bytes.ghost_name;
        count = err.written;
        refused = err.refused;
        within = err.within;
        full = err.full;
      };
      status = c.run_in-status.result;
    } in
    record {
      runs = subst (λ v. RunsWords (map string_bytes c.args.words.now) c.args.input.now (memory c.args.out.now v) (memory c.args.err.now c.err-2-1.given.0) (answer_of call))
          (sym out_back)
          (subst (λ v. RunsWords (map string_bytes c.args.words.now) c.args.input.now (memory c.args.out.now out.bytes.now) (memory c.args.err.now v) (answer_of call))
          (sym err_back)
          (runs_call c.more_input_keeps_answers.ensures call (map string_bytes c.args.words.now) c.args.input.now
          (λ (s : MemorySource). s.rest.now) (λ (s : MemorySource). s.ended) lent_to lent_to
          c.new-source.result c.run_in-status.new.input c.new-out.result out c.new-err.result err _ _ c.new-source.ensures.bytes
          (λ i. lent (c.new-out.ensures.unchanged i) c.new-out.result.bytes.ghost_name (c.new-out.ensures.empty i) (c.new-out.ensures.works i)) refl
          (λ i. lent (c.new-err.ensures.unchanged i) c.new-err.result.bytes.ghost_name (c.new-err.ensures.empty i) (c.new-err.ensures.works i)) refl
          c.run_in-status.ensures.runs));
    }
