-- `hold` writes the pointer into the struct, and the struct owns then what the loose box owned.
use Rattle.std.proofs.Common.{◌≡◌, List, [], ◌∷◌, ◌++◌, Some, refl, sym, subst}
use mir.Val.{Val, vptr, vunit, vstruct, vcons, vnil}
use base.Fraction.{full_share}
use base.Logic.{SProp, ent, id⊢, emp}
use base.Fml.{ftrue, flft}
use prog.Wp.{WpFn}
use types.Kit.{‵, raw, ◌⊛◌, ◌$◌, ◌∵◌, !, qed, by, move, keep, drop, split, join, fsplit, fsplit3, fjoin, fjoin3, fpack, suffices, use0, feq_i, rewrite}
use types.Run.{stop, fld, of_opd, unit_lit, assigns, returns, enter}
use types.ByLocal.{alloc_all, pass_all, free_all, look_at, get, get_in, through, sets}
use types.Part.{sub, whole, store_in}
use contract.Monad.{fact, fact_i}
use contract.Running.{tables}
use denote.Exit.{no}
use denote.RattleType.{RattleType, Valss, owns}
use denote.RawPtr.{RawPtr, block_ptr}
use denote.Laws.{shows}
use denote.Memory.{cell_at}
use denote.Signature.{types_at, plain}
use denote.Steps.{nothing, opens, closes, peeks}
use denote.Struct.Struct.{within}
use denote.Struct.Owning.{shape}
use denote.Triple.Walked.{Stays, stay_ref, stay_dropped, walk_of, Goes-ref}
use Rattle.std.proofs.alloc.Calls.{Goes-blank}
use Rattle.std.proofs.raw_atomic.Walks.{proved_at, leaves}
use Rattle.std.proofs.alloc.Global.TheLaws as heap
use Rattle.std.specs.contracts.alloc.Global as Global
use Rattle.std.specs.contracts.impls.GlobalAllocator.TheImpl.{ghosts}
use Rattle.gix_config_value_c.specs.Held.{Row}
use Rattle.gix_config_value_c.specs.contracts.held.GcvSearch as held
use Rattle.gix_config_value_c.proofs.held.GcvSearch.TheLaws.{lowers}
use Rattle.gix_config_value_c.proofs.HeldMemory.{both, Loose, loose_good, loose_out}
use Rattle.gix_config_value_c.specs.contracts.held.GcvSearch.hold.{ended, clauses}
use Rattle.gix_config_value_c.specs.contracts.held.GcvSearch.hold.Key.{name as #self}
use Rattle.gix_config_value_c.proofs.held.GcvSearch.hold.Statement.{statement}
use Rattle.gix_config_value_c.proofs.held.GcvSearch.hold.Code as code

pub hold_spec : {M : Type 1} → statement M
hold_spec 𝓤 𝓛 𝓜 𝓡 wired =
    let H = 𝓛.H in let 𝓣 = tables 𝓤 H 𝓜 𝓡 𝓡.env in let c = clauses 𝓛 𝓜.mem 𝓡.returns in
    let R : RattleType = held.the_row in
    let Z : RattleType = Global.the_row in let L : RattleType = Loose Row Z heap.the_row_laws ghosts in
    let hs : Stays ended.signature.params ended.kept = (stay_ref (0 ∷ []) tt (plain (λ _. R)), (stay_dropped (plain (λ _. L)) no, tt)) in
    proved_at 𝓛 ended hs c 𝓜 𝓡 (Goes-ref 𝓛 1 0 tt (plain (λ _. R)), (Goes-blank 𝓛 1 (plain (λ _. L)) no (λ κs x f. tt), tt))
    #self code.function (code.unfolded 𝓤 H 𝓜 𝓡 wired) (λ z are.
    let W = walk_of 𝓛 ended hs c in let κs = z.0.0 in let qs = z.0.1 in let self = z.0.3.0 in let l = z.0.3.1.0 in
    let rb = self.ref_ptr.0 in let ro = self.ref_ptr.1 in
    let at : List Val → W.Ghost = λ us. ((κs, qs, z.0.2, z.0.3, (us, z.0.4.1)), z.1) in
    let Run : W.Ghost → List Val → SProp 𝓤 = λ y ws. WpFn 𝓤 H 𝓣.C 𝓣.Λ code.function ws (W.post y) in
    subst (λ (us : List Val). ent 𝓤 (W.pre (at us)) (Run (at us) (W.args (at us)))) (sym are.0.0)
    (let y = at (vptr rb ro ∷ []) in
    qed 𝓛 (((‵ (flft κs.0 qs.0) ⊛ ‵ ftrue) ⊛ ‵ (owns (types_at ended.signature.params κs) z.0.3 y.0.4)) ∷ raw ((c κs z.0.3).requires z.1) ∷ []) ∵
    split ! $ move ! (1 ∷ []) $ fsplit ! $ move ! (1 ∷ []) $ fsplit ! $
    loose_out Row Z heap.the_row_laws ghosts ! l z.0.4.1.0 (λ b o h e ws fits.
    let w : Val = both (vptr b o) h in let typed = loose_good Row Z heap.the_row_laws ghosts b o h fits in
    move ! (4 ∷ []) $ split ! $ keep ! (5 ∷ 0 ∷ 2 ∷ []) $
    suffices ! (Run y (vptr rb ro ∷ w ∷ [])) (subst (λ (vs : List Val). ent 𝓤 (Run y (vptr rb ro ∷ w ∷ [])) (Run y (vptr rb ro ∷ (vs ++ [])))) (sym ws) (id⊢ 𝓤 (Run y (vptr rb ro ∷ w ∷ [])))) $
    enter ! 𝓣.C 𝓣.Λ code.function (vptr rb ro ∷ w ∷ []) (W.post y) $
    -- [the reference; the token; what the box owns]
    alloc_all ! (λ l'. pass_all ! refl ((tt, tt), (typed, tt)) $
    sets ! (of_opd ! (get_in ! (fld ! refl (stop !)) (sub ! 0 refl (whole !)))) refl (tt, tt) $
    sets ! (of_opd ! (get ! refl)) refl (tt, tt) $
    fsplit3 ! $ move ! (1 ∷ 2 ∷ 3 ∷ []) $ opens ! tt R rb ro (λ us.
    move ! (1 ∷ []) $ peeks ! R _ (shows 𝓛 R) self.now us (λ is. drop ! $
    rewrite ! 0 (λ (xs : List Val). ‵ (cell_at full_share R.mir xs rb ro)) (lowers.val_is self.now us is) refl $
    assigns ! (of_opd ! (get ! refl)) (through ! refl (fld ! refl (stop !))) (store_in ! 0 (sub ! 0 refl (whole !)) (tt, tt)) $
    sets ! (of_opd ! (unit_lit !)) refl (tt, tt) $
    let v : Val = vstruct (vcons (vptr b o) vnil) in
    let new = record self { now = record { memory = block_ptr b o; told = Some l.value } } in
    move ! (5 ∷ []) $ nothing ! $ feq_i ! (List Val) (vptr b o ∷ []) (vptr b o ∷ []) refl $ fjoin ! $
    feq_i ! (List Val) (v ∷ []) (v ∷ []) refl $ fjoin ! $
    fpack ! (Valss (RawPtr ∷ [])) (within (shape held.the_type) (block_ptr b o, tt) (v ∷ [])) (vptr b o ∷ [], tt) $
    fjoin ! $
    move ! (1 ∷ []) $ closes ! tt R new.now (v ∷ []) rb ro $ returns ! (look_at ! 0 refl) $ free_all ! refl $
    feq_i ! (List Val) (vptr rb ro ∷ []) (vptr rb ro ∷ []) refl $ fjoin3 ! $ nothing ! $ nothing ! $ fjoin ! $
    move ! (1 ∷ 0 ∷ []) $ fjoin ! $
    nothing ! $ move ! (2 ∷ 0 ∷ []) $ join ! $ feq_i ! (List Val) (vunit ∷ []) (vunit ∷ []) refl $
    use0 𝓛 (raw (fact 𝓤 (Some l.value ≡ Some l.value))) (fact_i 𝓤 (Some l.value ≡ Some l.value) (emp 𝓤) refl) $
    keep ! (2 ∷ 3 ∷ 1 ∷ 0 ∷ []) $ by ! (leaves 𝓛 ended hs c y vunit tt (new.now, (tt, tt)) (tt, (tt, tt)))))))))
