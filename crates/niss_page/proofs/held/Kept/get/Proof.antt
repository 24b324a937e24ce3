-- `get` reads the pointer through the `&`, and takes a copy of what it owns. Assumes `Logic`.
use Rattle.std.proofs.Common.{◌≡◌, Bool, true, List, [], ◌∷◌, ◌++◌, refl, sym, ap, ◌∙◌}
use mir.Syntax.{Fn}
use mir.Val.{Val, vptr}
use base.Logic.{SProp, emp, id⊢}
use base.Fml.{ftrue, flft}
use prog.Wp.{Env, WpFn}
use contract.Monad.{fact, fact_i}
use contract.Running.{tables}
use types.Kit.{‵, raw, ◌⊛◌, prop, at_ret, ◌$◌, ◌∵◌, !, qed, by, move, drop, use0, use1, split, join, regoal, rewrite, fsplit, fjoin, feq_i, feq_l}
use types.Part.{whole, sub, look_in}
use types.Run.{stop, fld, addr, load, of_opd, first, blocks, exec, returns, enter}
use types.ByLocal.{alloc_all, pass_all, free_all, look_at, get, through, sets, sets_last, env}
use denote.Memory.{cell_at}
use denote.RattleType.{owns}
use denote.RawPtr.{Ptr, block_ptr, InBlock, block_of, count_of, at_block}
use denote.Shadow.{pure_l}
use denote.Signature.{types_at, type_at}
use denote.Steps.{heard, nothing, looks, shuts}
use denote.Struct.Lending.{in_block_says}
use denote.Triple.Entry.{alive}
use denote.Triple.Walked.{Stays, stay_dropped, walk_of, Goes-dropped}
use Rattle.core.proofs.alloc.Shapes.{after}
use Rattle.std.proofs.raw_atomic.Walks.{proved_at, leaves}
use Rattle.linked_list_allocator.proofs.Walks.{slot_at}
use Rattle.linked_list_allocator.proofs.Values.{list_val, list_own, list_told, list_made}
use Rattle.niss_page.specs.Ownership.{kept_owns}
use Rattle.niss_page.proofs.Opened.{B, kept_twice, kept_opens}
use Rattle.niss_page.specs.contracts.held.Kept.get.{ended, clauses}
use Rattle.niss_page.specs.contracts.held.Kept.get.Key.{name as #self}
use Rattle.niss_page.proofs.held.Kept.get.Statement.{statement}
use Rattle.niss_page.proofs.held.Kept.get.Code as compiled

pub get_spec : {M : Type 1} → statement M
get_spec 𝓤 𝓛 𝓜 𝓡 wired =
    let H = 𝓛.H in
    let ps = ended.signature.params in
    let fn : Fn = compiled.function in
    let stays : Stays ps ended.kept = (stay_dropped (slot_at 0 ps) ended.kept.0, tt) in
    let c = clauses 𝓛 𝓜.mem 𝓡.returns in
    let C = (tables 𝓤 H 𝓜 𝓡 𝓡.env).C in
    let Λ = (tables 𝓤 H 𝓜 𝓡 𝓡.env).Λ in
    proved_at 𝓛 ended stays c 𝓜 𝓡 (Goes-dropped 𝓛 1 (slot_at 0 ps) ended.kept.0 (λ κs x f. refl), tt)
    #self fn (compiled.unfolded 𝓤 H 𝓜 𝓡 wired) (λ z are.
    let Post : Val → SProp 𝓤 = (walk_of 𝓛 ended stays c).post z in
    let κ = z.0.0.0 in
    let q = z.0.1.0 in
    let a = z.0.3 in
    let vss = z.0.4 in
    let d = a.0.now in
    let b = a.0.ref_ptr.0 in
    let o = a.0.ref_ptr.1 in
    let eb = block_of d.at in
    let eo = count_of d.at in
    let To = type_at ended.signature.result z.0.0 in
    let made : To.Denot = record { ref_ptr = (eb, eo); now = d.step } in
    qed 𝓛 ((raw (alive 𝓛 ended.signature z.0.0 z.0.1) ⊛ ‵ (owns (types_at ps z.0.0) a vss)) ∷ raw (fact 𝓤 (d.full ≡ true)) ∷ []) ∵
    move ! (1 ∷ []) $ heard ! (d.full ≡ true) (λ is. split ! $ use1 𝓛 (‵ (flft κ q) ⊛ ‵ ftrue) (id⊢ 𝓤 _) $ split ! $ move ! (2 ∷ []) $
    fsplit ! $ move ! (1 ∷ []) $ drop ! $ fsplit ! $ feq_l ! (λ e.
    -- [the `&`; the token; true]
    regoal ! (λ (us : List Val). prop (WpFn 𝓤 H C Λ fn us Post)) (λ i. e i ++ []) refl $
    enter ! C Λ fn (vptr b o ∷ []) Post $
    alloc_all ! (λ l. pass_all ! refl ((tt, tt), tt) $ let En : Env 𝓤 𝓛.H = env fn.locals l in
    looks ! tt B (kept_opens 𝓛) d b o (λ q' ws.
    -- [the cell; what it owns; the way back; the `&`; true]
    move ! (1 ∷ []) $ fsplit ! $ pure_l ! (list_own d.at ws) (λ s. let told = (list_told d.at ws s).0 in
    use1 𝓛 (‵ (kept_owns d.full d.at d.step) ⊛ ‵ (kept_owns d.full d.at d.step)) (kept_twice 𝓛 d.full d.at d.step) $ split ! $
    use0 𝓛 (‵ (list_own d.at (list_val d.at ∷ []))) (list_made 𝓛 d.at tt) $ rewrite ! 0 (λ (us : List Val). ‵ (list_own d.at us)) (sym told) refl $ fjoin ! $
    -- [what it owns; a copy of that; the cell; the way back; the `&`; true]
    move ! (1 ∷ []) $ rewrite ! 0 (λ (y : Bool). ‵ (kept_owns y d.at d.step)) is refl $ fsplit ! $
    use1 𝓛 (raw (fact 𝓤 (InBlock d.at))) (in_block_says 𝓛 d.at) $ heard ! (InBlock d.at) (λ inb.
    let word : ws ≡ list_val (block_ptr eb eo) ∷ [] = told ∙ ap (λ (r : Ptr). list_val r ∷ []) (at_block d.at inb) in
    -- [the tables, shared; what it owns; the cell; the way back; the `&`; true]
    rewrite ! 2 (λ (us : List Val). ‵ (cell_at q' B.mir us b o)) word refl $
    first ! $ blocks ! $
    sets ! (of_opd ! (load ! (through ! refl (fld ! refl (stop !))) (look_in ! 2 (sub ! 0 refl (whole !))))) refl (tt, tt) $
    sets ! (of_opd ! (get ! refl)) refl (tt, tt) $
    sets_last ! (addr ! (through ! refl (stop !))) refl (tt, tt) $
    exec ! C Λ En (after 1 fn.body) (at_ret En Post) $
    sets ! (of_opd ! (get ! refl)) refl (tt, tt) $
    rewrite ! 2 (λ (us : List Val). ‵ (cell_at q' B.mir us b o)) (sym word) refl $
    move ! (2 ∷ 1 ∷ 3 ∷ []) $ shuts ! tt B q' d ws b o $
    -- [the token; the tables, shared; the `&`; true]
    returns ! (look_at ! 0 refl) $ free_all ! refl $
    move ! (2 ∷ []) $ drop ! $ move ! (0 ∷ 2 ∷ []) $ join ! $ use1 𝓛 (raw (alive 𝓛 ended.signature z.0.0 z.0.1)) (id⊢ 𝓤 _) $ move ! (1 ∷ []) $
    feq_i ! (List Val) (vptr eb eo ∷ []) (vptr eb eo ∷ []) refl $ fjoin ! $ use1 𝓛 (‵ (To.own_val made (vptr eb eo ∷ []))) (id⊢ 𝓤 _) $
    -- [the result; the tokens]
    use0 𝓛 (raw (fact 𝓤 (d.step ≡ d.step))) (fact_i 𝓤 _ (emp 𝓤) refl) $ nothing ! $ nothing ! $ fjoin ! $ move ! (3 ∷ 0 ∷ 2 ∷ 1 ∷ []) $
    by ! (leaves 𝓛 ended stays c z (vptr eb eo) made (tt, tt) (tt, tt)))))))))
