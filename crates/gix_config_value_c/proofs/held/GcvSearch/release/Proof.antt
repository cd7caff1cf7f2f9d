-- `release` reads the pointer, and a loose box owns then what the struct owned, which owns nothing more.
use Rattle.std.proofs.Common.{◌≡◌, List, [], ◌∷◌, ◌++◌, Option, Some, None, is_some, true, refl, sym, ap, ◌∙◌, subst, arith}
use mir.Raw.{raw as bare}
use mir.Val.{Val, vptr, vstruct, vcons, vnil}
use base.Fraction.{full_share}
use base.Logic.{SProp, ent, id⊢, emp, never, fst∗}
use base.Fml.{ftrue, flft}
use prog.Wp.{WpFn}
use types.Logic.{sem}
use types.Kit.{‵, raw, ◌⊛◌, ◌$◌, ◌∵◌, !, qed, by, move, keep, drop, split, join, fsplit, fsplit3, fjoin, fjoin3, fpack, suffices, use0, feq_i, rewrite}
use types.Run.{stop, fld, load, of_opd, no_more, and_then, returns, enter}
use types.ByLocal.{alloc_all, pass_all, free_all, look_at, get, through, sets}
use types.Part.{agg, sub, whole, look_in}
use contract.Monad.{fact, fact_i}
use contract.Running.{tables}
use denote.Exit.{yes}
use denote.RattleType.{RattleType, Valss, owns}
use denote.RawPtr.{Ptr, RawPtr, block_ptr, null_ptr, in_a_block}
use denote.Laws.{shows}
use denote.Memory.{cell_at, lone}
use denote.Signature.{types_at, plain}
use denote.Steps.{nothing, heard, opens, closes, peeks}
use denote.Struct.Struct.{within}
use denote.Struct.Owning.{shape}
use denote.Triple.Walked.{Stays, stay_ref, stay_dropped, walk_of, Goes-ref, Goes-dropped}
use Rattle.std.proofs.alloc.Calls.{handle_tells}
use Rattle.std.proofs.raw_atomic.Walks.{proved_at, leaves}
use Rattle.std.proofs.alloc.Global.TheLaws as heap
use Rattle.std.specs.contracts.alloc.Global as Global
use Rattle.std.specs.contracts.impls.GlobalAllocator.TheImpl.{ghosts}
use Rattle.std.specs.Box.Ownership.{box_owns}
use Rattle.config_search.specs.Stages.{Told}
use Rattle.gix_config_value_c.specs.Held.{Row, Holds}
use Rattle.gix_config_value_c.specs.contracts.held.GcvSearch as held
use Rattle.gix_config_value_c.proofs.held.GcvSearch.TheLaws.{lowers}
use Rattle.gix_config_value_c.proofs.HeldMemory.{both, Loose, al, loose_good, loose_in}
use Rattle.gix_config_value_c.specs.contracts.held.GcvSearch.release.{ended, clauses}
use Rattle.gix_config_value_c.specs.contracts.held.GcvSearch.release.Key.{name as #self}
use Rattle.gix_config_value_c.proofs.held.GcvSearch.release.Statement.{statement}
use Rattle.gix_config_value_c.proofs.held.GcvSearch.release.Code as code

given : (told : Option Told) → is_some told ≡ true → (it : Told) × (told ≡ Some it)
given None is = grind arith
given (Some it) is = (it, refl)

pub release_spec : {M : Type 1} → statement M
release_spec 𝓤 𝓛 𝓜 𝓡 wired =
    let H = 𝓛.H in let 𝓣 = tables 𝓤 H 𝓜 𝓡 𝓡.env in let c = clauses 𝓛 𝓜.mem 𝓡.returns in
    let R : RattleType = held.the_row in let Z : RattleType = Global.the_row in
    let hs : Stays ended.signature.params ended.kept = (stay_ref (0 ∷ []) tt (plain (λ _. R)), (stay_dropped (plain (λ _. Z)) yes, tt)) in
    proved_at 𝓛 ended hs c 𝓜 𝓡 (Goes-ref 𝓛 1 0 tt (plain (λ _. R)), (Goes-dropped 𝓛 1 (plain (λ _. Z)) yes (λ κs x f. refl), tt))
    #self code.function (code.unfolded 𝓤 H 𝓜 𝓡 wired) (λ z are.
    let W = walk_of 𝓛 ended hs c in let κs = z.0.0 in let qs = z.0.1 in let self = z.0.3.0 in let a = z.0.3.1.0 in
    let rb = self.ref_ptr.0 in let ro = self.ref_ptr.1 in
    let at : List Val → W.Ghost = λ us. ((κs, qs, z.0.2, z.0.3, (us, z.0.4.1)), z.1) in
    let Run : W.Ghost → List Val → SProp 𝓤 = λ y ws. WpFn 𝓤 H 𝓣.C 𝓣.Λ code.function ws (W.post y) in
    subst (λ (us : List Val). ent 𝓤 (W.pre (at us)) (Run (at us) (W.args (at us)))) (sym are.0.0)
    (let y = at (vptr rb ro ∷ []) in
    qed 𝓛 (((‵ (flft κs.0 qs.0) ⊛ ‵ ftrue) ⊛ ‵ (owns (types_at ended.signature.params κs) z.0.3 y.0.4)) ∷ raw (fact 𝓤 (is_some self.now.told ≡ true)) ∷ []) ∵
    move ! (1 ∷ []) $ heard ! _ (λ is_held. let it = given self.now.told is_held in
    split ! $ move ! (1 ∷ []) $ fsplit ! $ move ! (1 ∷ []) $ fsplit ! $
    handle_tells (al Row Z heap.the_row_laws ghosts) ! a z.0.4.1.0 (λ h ws fits.
    move ! (3 ∷ []) $ split ! $ keep ! (4 ∷ 0 ∷ 2 ∷ []) $
    suffices ! (Run y (vptr rb ro ∷ h ∷ [])) (subst (λ (vs : List Val). ent 𝓤 (Run y (vptr rb ro ∷ h ∷ [])) (Run y (vptr rb ro ∷ (vs ++ [])))) (sym ws) (id⊢ 𝓤 (Run y (vptr rb ro ∷ h ∷ [])))) $
    enter ! 𝓣.C 𝓣.Λ code.function (vptr rb ro ∷ h ∷ []) (W.post y) $
    -- [the reference; the token; the handle]
    alloc_all ! (λ l'. pass_all ! refl ((tt, tt), (fits, tt)) $
    fsplit3 ! $ move ! (1 ∷ 2 ∷ 3 ∷ []) $ opens ! tt R rb ro (λ us.
    move ! (1 ∷ []) $ peeks ! R _ (shows 𝓛 R) self.now us (λ is. fsplit ! $ drop ! $
    rewrite ! 0 (λ (told : Option Told). ‵ (Holds self.now.memory told)) it.1 refl $
    in_a_block ! self.now.memory (λ p. box_owns (ghosts.dealloc_token a) Row p it.0) (fst∗ 𝓤 (never 𝓤) (sem 𝓛 (ghosts.dealloc_token a (bare (lone Row.mir)) null_ptr))) (λ b o e.
    let w : Val = both (vptr b o) h in let v : Val = vstruct (vcons (vptr b o) vnil) in
    let new = record self { now = record { memory = block_ptr b o; told = None } } in
    let loose : (Loose Row Z heap.the_row_laws ghosts).Denot = record { at = block_ptr b o; alloc = a; value = it.0 } in
    rewrite ! 1 (λ (xs : List Val). ‵ (cell_at full_share R.mir xs rb ro)) (lowers.val_is self.now us is ∙ ap (λ (p : Ptr). lowers.lowered (record self.now { memory = p }) ∷ []) e) refl $
    -- [what the box owns; the cell of self; its open borrow, in three entries; what the reference is; the handle]
    sets ! (of_opd ! (load ! (through ! refl (fld ! refl (stop !))) (look_in ! 1 (sub ! 0 refl (whole !))))) refl (tt, tt) $
    sets ! (of_opd ! (get ! refl)) refl (tt, tt) $
    sets ! (agg ! (and_then ! (get ! refl) (and_then ! (get ! refl) (no_more !)))) refl (loose_good Row Z heap.the_row_laws ghosts b o h fits) $
    move ! (0 ∷ 6 ∷ []) $ loose_in Row Z heap.the_row_laws ghosts ! b o h a it.0 $
    nothing ! $ nothing ! $ feq_i ! (List Val) (vptr b o ∷ []) (vptr b o ∷ []) refl $ fjoin ! $
    feq_i ! (List Val) (v ∷ []) (v ∷ []) refl $ fjoin ! $
    fpack ! (Valss (RawPtr ∷ [])) (within (shape held.the_type) (block_ptr b o, tt) (v ∷ [])) (vptr b o ∷ [], tt) $
    fjoin ! $
    move ! (2 ∷ 0 ∷ 3 ∷ 4 ∷ 5 ∷ []) $ closes ! tt R new.now (v ∷ []) rb ro $ returns ! (look_at ! 0 refl) $
    free_all ! refl $
    feq_i ! (List Val) (vptr rb ro ∷ []) (vptr rb ro ∷ []) refl $ fjoin3 ! $ nothing ! $ nothing ! $ fjoin ! $
    move ! (1 ∷ 0 ∷ []) $ fjoin ! $
    nothing ! $ move ! (2 ∷ 0 ∷ []) $ join ! $
    use0 𝓛 (raw (fact 𝓤 (new.now.told ≡ None))) (fact_i 𝓤 (new.now.told ≡ None) (emp 𝓤) refl) $
    use0 𝓛 (raw (fact 𝓤 (self.now.told ≡ Some it.0))) (fact_i 𝓤 (self.now.told ≡ Some it.0) (emp 𝓤) it.1) $ join ! $
    keep ! (1 ∷ 2 ∷ 3 ∷ 0 ∷ []) $ by ! (leaves 𝓛 ended hs c y w loose (new.now, (tt, tt)) (tt, (tt, tt)))))))))))
