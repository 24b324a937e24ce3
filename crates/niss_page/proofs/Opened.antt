-- What a kept pointer owns can be had twice, so a `&` to it is opened. Assumes `Logic`.
use Rattle.std.proofs.Common.{ℕ, Bool, true, false, List, [], ◌∷◌, refl, sym}
use seplogic.Ra.Ura.{Ura}
use mir.Val.{Val}
use base.Logic.{ent, sep}
use base.Fml.{ftrue}
use types.Logic.{Logic, sem}
use types.Kit.{‵, ◌⊛◌, ◌$◌, ◌∵◌, !, qed, move, use0, use1, split, rewrite, fsplit, fjoin, done}
use denote.RattleType.{RattleType}
use denote.Laws.{Is, Copy, shows}
use denote.Memory.{part_at, shared_of, share_laws}
use denote.Opens.{Opens, Cuts, Cuts-Halves, Opened-one, Twice-of, shr_dup}
use denote.RawPtr.{Ptr, in_block, block_of, count_of}
use denote.Shadow.{pure_l}
use denote.Sharing.{said}
use denote.SharingLaws.{contraction, one_shr_laws, said_shr_laws}
use denote.Steps.{nothing}
use denote.Struct.Lending.{in_block_pure}
use Rattle.linked_list_allocator.proofs.Values.{list_val, list_own, list_told, list_made}
use Rattle.niss_page.specs.Rows.{tables_row}
use Rattle.niss_page.specs.Ownership.{TheStep, kept_owns}
use Rattle.niss_page.specs.contracts.held.Kept as kept
use Rattle.niss_page.proofs.LentLaws.{lent_tables_laws}

abbrev pub B : RattleType
B = kept.the_row

abbrev vals : B.Denot → List Val
vals d = list_val d.at ∷ []

module _ {M : Type 1} {𝓤 : Ura M} (𝓛 : Logic 𝓤) where
  pub kept_twice : (y : Bool) (p : Ptr) (x : TheStep) → ent 𝓤 (sem 𝓛 (kept_owns y p x)) (sep 𝓤 (sem 𝓛 (kept_owns y p x)) (sem 𝓛 (kept_owns y p x)))
  kept_twice true p x =
      let b = block_of p in let o = count_of p in
      qed 𝓛 (‵ (kept_owns true p x) ∷ []) ∵ fsplit ! $
      let inside = in_block p ftrue in
      use1 𝓛 (‵ inside ⊛ ‵ inside) (contraction 𝓛 (said inside) (said_shr_laws inside (in_block_pure p)) []) $ split ! $
      move ! (2 ∷ []) $ shr_dup ! tables_row (lent_tables_laws.shr_laws) x b o [] $
      -- [shared; shared; in a block; in a block]
      move ! (2 ∷ 0 ∷ []) $ fjoin ! $ move ! (2 ∷ 1 ∷ []) $ fjoin ! $ done !
  kept_twice false p x = qed 𝓛 (‵ ftrue ∷ []) ∵ nothing ! $ done !

  kept_copy : Copy 𝓛 B
  kept_copy = record {
    twice = λ d vs.
        qed 𝓛 (‵ (B.own_val d vs) ∷ []) ∵ fsplit ! $ pure_l ! (list_own d.at vs) (λ s.
        use1 𝓛 (‵ (kept_owns d.full d.at d.step) ⊛ ‵ (kept_owns d.full d.at d.step)) (kept_twice d.full d.at d.step) $ split ! $
        use0 𝓛 (‵ (list_own d.at (vals d))) (list_made 𝓛 d.at tt) $ rewrite ! 0 (λ us. ‵ (list_own d.at us)) (sym (list_told d.at vs s).0) refl $ fjoin ! $
        move ! (1 ∷ []) $
        use0 𝓛 (‵ (list_own d.at (vals d))) (list_made 𝓛 d.at tt) $ rewrite ! 0 (λ us. ‵ (list_own d.at us)) (sym (list_told d.at vs s).0) refl $ fjoin ! $ done !);
  }

  cuts : (d : B.Denot) (b o : ℕ) → Cuts 𝓛 (λ q. part_at B q d b o)
  cuts d b o =
      let shared = share_laws 𝓛 B (Is B) (shows 𝓛 B) vals (λ x vs s. (list_told x.at vs s.0).0) kept_copy in
      record { cut = λ q q₁ q₂ m. shared.cut q q₁ q₂ m d b o; join = λ q q₁ q₂ m. shared.join q q₁ q₂ m d b o }

  pub kept_opens : Opens 𝓛 B
  kept_opens d b o = (
    Opened-one 𝓛 (λ q. part_at B q d b o) (Cuts-Halves 𝓛 (λ q. part_at B q d b o) (cuts d b o)),
    Twice-of 𝓛 (shared_of B d b o) (one_shr_laws (λ q. part_at B q d b o)),
  )
