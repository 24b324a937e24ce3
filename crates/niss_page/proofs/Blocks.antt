-- A block is room for a type, and what `take` gives is such a block or nothing. Assumes `Logic`.
use Rattle.std.proofs.Common.{◌≡◌, ℕ, zero, suc, ◌^◌, ◌<◌, ◌≤◌, List, [], ◌∷◌, ◌++◌, IfSome, None, Some, refl, sym, ap, subst, ◌∙◌, arith}
use seplogic.Ra.Ura.{Ura}
use mir.Syntax.{Ty, Width, w8, w16, w32, w64, w128}
use mir.Val.{Val, vcons, vnil, of_list, bytes}
use base.Logic.{ent, sep, id⊢}
use base.Fml.{fwand, froom}
use prog.Memory.{size, capped}
use prog.Align.{Dv, align_w, align-bytes}
use prog.Capped.{capped_is, capped_small}
use types.Logic.{Logic, sem}
use types.Kit.{Item, Goal, Seq, ‵, ◌⊛◌, ◌$◌, ◌∵◌, !, qed, move, drop, use1, split, frame, rewrite, fsplit, fpick, fpack, feq_l, done}
use types.Match.{live}
use denote.RattleType.{RattleType}
use denote.RawPtr.{Ptr, block_ptr, in_a_block}
use denote.Shadow.{pure_l}
use denote.Steps.{only, nothing}
use Rattle.core.specs.contracts.option.Option as option
use Rattle.linked_list_allocator.specs.Ownership.{bytes_at}
use Rattle.linked_list_allocator.proofs.Values.{list_val, list_own, list_told}
use Rattle.linked_list_allocator.proofs.Nodes.{retypes}
use Rattle.niss_page.specs.Room.{IsRoomSize, block_owns, block_token}
use Rattle.niss_page.specs.contracts.room.Block as block

-- what `take` returns, of which its clause tells this if the room has `all` bytes and n are asked for

abbrev pub Taken : RattleType
Taken = option.the_row block.the_row

abbrev pub Told : (all n : ℕ) → Taken.Denot → Type 0
Told all n x = IfSome x (λ b. (b.size ≡ all) × (n ≤ b.size) × (0 < b.size))

-- the machine's value of a block that was taken
abbrev pub some_block : Ptr → Val
some_block p = live 1 (vcons (list_val p) vnil)

divides_16 : (w : Width) → Dv (bytes w) 16
divides_16 w8 = tt
divides_16 w16 = tt
divides_16 w32 = tt
divides_16 w64 = tt
divides_16 w128 = tt

module _ {M : Type 1} {𝓤 : Ura M} (𝓛 : Logic 𝓤) where
  -- the bytes of a room are room for a type that they hold, with the way back
  pub hands_out : (τ : Ty) (b o all n : ℕ) → capped (size τ) ≡ n → IsRoomSize all → n ≤ all
      → ent 𝓤 (sem 𝓛 (bytes_at (block_ptr b o) all)) (sep 𝓤 (𝓛.H.room τ b o) (sem 𝓛 (block_token all τ (block_ptr b o))))
  hands_out τ b o all n sized fits enough =
      let p : Ptr = block_ptr b o in
      let top = fits.1 in
      let short : size τ < 2 ^ 63 = capped_small (size τ) (omega arith) in
      let same : n ≡ size τ = sym sized ∙ capped_is (size τ) (omega arith) in
      let back = fwand (froom τ b o) (bytes_at p all) in
      qed 𝓛 (‵ (bytes_at p all) ∷ []) ∵
      use1 𝓛 (‵ (froom τ b o) ⊛ ‵ back)
      (retypes 𝓛 b τ o all fits.0 (omega (arith, same)) (subst (λ (k : ℕ). Dv k 16) (sym (align-bytes τ)) (divides_16 (align_w τ)))) $
      split ! $ frame ! $ fpack ! (IsRoomSize all) (λ _. back) fits $ done !

  -- a block that isn't empty owns its bytes, and bytes are what a block owns

  pub bytes_of_block : (p : Ptr) (n : ℕ) → 0 < n → ent 𝓤 (sem 𝓛 (block_owns p n)) (sem 𝓛 (bytes_at p n))
  bytes_of_block p zero some = absurd (omega (arith, some))
  bytes_of_block p (suc n) some = id⊢ 𝓤 _

  pub block_of_bytes : (p : Ptr) (n : ℕ) → ent 𝓤 (sem 𝓛 (bytes_at p n)) (sem 𝓛 (block_owns p n))
  block_of_bytes p zero = qed 𝓛 (‵ (bytes_at p 0) ∷ []) ∵ drop ! $ nothing ! $ done !
  block_of_bytes p (suc n) = id⊢ 𝓤 _

module _ {M : Type 1} {𝓤 : Ura M} {𝓛 : Logic 𝓤} {K : Type 0} {Γ : List (Item 𝓤)} {G : Goal 𝓤 𝓛.H} where
  -- a step: the two cases of what `take` answered
  pub taken : K → (all n : ℕ) (x : Taken.Denot) (v : Val) → Told all n x
      → ((b o : ℕ) → IsRoomSize all → n ≤ all → v ≡ some_block (block_ptr b o) → Seq K 𝓛 (‵ (bytes_at (block_ptr b o) all) ∷ Γ) G)
      → (v ≡ live 0 vnil → Seq K 𝓛 Γ G) → Seq K 𝓛 (‵ (Taken.own_val x (v ∷ [])) ∷ Γ) G
  taken t all n None v told some none =
      fpick t (λ us. fsplit t $ feq_l t (λ is. fpick t (λ vss. fsplit t $ feq_l t (λ is'. drop t $
      none (ap only is ∙ ap (λ (ws : List Val). live 0 (of_list ws)) is')))))
  taken t all n (Some w) v told some none =
      fpick t (λ us. fsplit t $ feq_l t (λ is. fpick t (λ vss. fsplit t $ feq_l t (λ is'. fsplit t $ move t (1 ∷ []) $ drop t $
      fsplit t $ pure_l t (list_own w.ptr vss.0) (λ s.
      let parts = list_told w.ptr vss.0 s in
      use1 𝓛 (‵ (bytes_at w.ptr w.size)) (bytes_of_block 𝓛 w.ptr w.size told.2) $
      rewrite t 0 (λ (u : ℕ). ‵ (bytes_at w.ptr u)) told.0 refl $
      in_a_block t w.ptr (λ p. bytes_at p all) (id⊢ 𝓤 _) (λ b o lies.
      some b o (subst IsRoomSize told.0 w.fits) (subst (λ (k : ℕ). n ≤ k) told.0 told.1)
      (ap only is ∙ ap (λ (xs : List Val). live 1 (of_list xs)) (is' ∙ ap (λ (xs : List Val). xs ++ []) parts.0) ∙ ap some_block lies)))))))
