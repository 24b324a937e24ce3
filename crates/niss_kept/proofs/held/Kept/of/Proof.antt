-- `of` keeps the pointer of a `&'static`, and what that owns goes with it. Assumes `Logic`.
use Rattle.std.proofs.Common.{◌≡◌, true, List, [], ◌∷◌, ◌++◌, refl}
use mir.Syntax.{Fn}
use mir.Val.{Val, vptr}
use base.Logic.{SProp, emp, id⊢}
use base.Fml.{ftrue}
use prog.Wp.{WpFn}
use contract.Monad.{fact, fact_i}
use contract.Running.{tables}
use types.Kit.{‵, raw, ◌⊛◌, prop, ◌$◌, ◌∵◌, !, qed, by, move, drop, use0, use1, split, regoal, fsplit, fjoin, feq_l}
use types.Part.{agg}
use types.Run.{stop, addr, of_opd, no_more, and_then, returns, enter}
use types.ByLocal.{alloc_all, pass_all, free_all, look_at, get, through, sets}
use denote.RattleType.{owns}
use denote.RawPtr.{block_ptr}
use denote.Signature.{types_at}
use denote.Steps.{nothing}
use denote.Triple.Entry.{alive}
use denote.Triple.Walked.{Stays, stay_dropped, walk_of, Goes-dropped}
use Rattle.std.proofs.raw_atomic.Walks.{proved_at, leaves}
use Rattle.linked_list_allocator.proofs.Walks.{slot_at}
use Rattle.linked_list_allocator.proofs.Values.{list_val, list_own, list_made}
use Rattle.niss_kept.specs.Ownership.{kept_owns}
use Rattle.niss_kept.specs.contracts.held.Kept as kept
use Rattle.niss_kept.specs.contracts.held.Kept.of.{ended, clauses}
use Rattle.niss_kept.specs.contracts.held.Kept.of.Key.{name as #self}
use Rattle.niss_kept.proofs.held.Kept.of.Statement.{statement}
use Rattle.niss_kept.proofs.held.Kept.of.Code as compiled

pub of_spec : {M : Type 1} → statement M
of_spec 𝓤 𝓛 𝓜 𝓡 wired =
    let H = 𝓛.H in
    let ps = ended.signature.params in
    let fn : Fn = compiled.function in
    let stays : Stays ps ended.kept = (stay_dropped (slot_at 0 ps) ended.kept.0, tt) in
    let c = clauses 𝓛 𝓜.mem 𝓡.returns in
    let C = (tables 𝓤 H 𝓜 𝓡 𝓡.env).C in
    let Λ = (tables 𝓤 H 𝓜 𝓡 𝓡.env).Λ in
    proved_at 𝓛 ended stays c 𝓜 𝓡 (Goes-dropped 𝓛 0 (slot_at 0 ps) ended.kept.0 (λ κs x f. refl), tt)
    #self fn (compiled.unfolded 𝓤 H 𝓜 𝓡 wired) (λ z are.
    let Post : Val → SProp 𝓤 = (walk_of 𝓛 ended stays c).post z in
    let a = z.0.3 in
    let vss = z.0.4 in
    let b = a.0.ref_ptr.0 in
    let o = a.0.ref_ptr.1 in
    let p = block_ptr b o in
    let x : (kept.the_row).Denot = record { at = p; full = true; step = a.0.now } in
    qed 𝓛 ((raw (alive 𝓛 ended.signature z.0.0 z.0.1) ⊛ ‵ (owns (types_at ps z.0.0) a vss)) ∷ ‵ ftrue ∷ []) ∵
    move ! (1 ∷ []) $ drop ! $ split ! $ move ! (1 ∷ []) $ fsplit ! $ move ! (1 ∷ []) $ drop ! $ fsplit ! $ feq_l ! (λ e.
    -- [the tables, shared; the tokens]
    regoal ! (λ (us : List Val). prop (WpFn 𝓤 H C Λ fn us Post)) (λ i. e i ++ []) refl $
    enter ! C Λ fn (vptr b o ∷ []) Post $
    alloc_all ! (λ l. pass_all ! refl ((tt, tt), tt) $
    sets ! (addr ! (through ! refl (stop !))) refl (tt, tt) $
    sets ! (of_opd ! (get ! refl)) refl (tt, tt) $
    sets ! (agg ! (and_then ! (get ! refl) (no_more !))) refl (tt, (tt, tt)) $
    returns ! (look_at ! 0 refl) $ free_all ! refl $
    nothing ! $ fjoin ! $ use1 𝓛 (‵ (kept_owns true p a.0.now)) (id⊢ 𝓤 _) $
    use0 𝓛 (‵ (list_own p (list_val p ∷ []))) (list_made 𝓛 p tt) $ fjoin ! $
    use0 𝓛 (raw (fact 𝓤 ((true ≡ true) × (a.0.now ≡ a.0.now)))) (fact_i 𝓤 _ (emp 𝓤) (refl, refl)) $ nothing ! $ nothing ! $ fjoin ! $ move ! (3 ∷ 0 ∷ 2 ∷ 1 ∷ []) $
    by ! (leaves 𝓛 ended stays c z (list_val p) x (tt, tt) (tt, tt)))))
