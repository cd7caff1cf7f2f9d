use Rattle.std.proofs.Common.{◌≡◌, ◌<◌, ◌≤◌, ◌+◌, ℕ, List, [], ◌∷◌, ◌++◌, length, refl, ap, ◌∙◌, sym}
use Rattle.std.proofs.Common.{append_assoc, length-append, arith, subst}
use Rattle.config_path.specs.Passwd.{colon, pieces}
use Rattle.config_path.specs.Reading.Fields.{FollowsFields}
use Rattle.config_path.proofs.interpolate.past_fields.Goals as goal

one_more : (n : ℕ) (fields rest more : List (List ℕ)) (field : List ℕ) → FollowsFields n fields rest
    → rest ≡ field ∷ more
    → FollowsFields (n + 1) fields more
one_more n fields rest more field f e = record {
  others = f.others ++ field ∷ [];
  counted = omega (arith, f.counted, length-append f.others (field ∷ []));
  parts = f.parts ∙ ap (λ r. f.others ++ r) e ∙ sym (append_assoc f.others (field ∷ []) more);
}

no_more : (n count : ℕ) (fields rest : List (List ℕ)) (field : List ℕ) → FollowsFields n fields rest
    → rest ≡ field ∷ [] → n < count
    → length fields ≤ count
no_more n count fields rest field f e below =
    omega (
      arith,
      f.counted,
      below,
      ap length (f.parts ∙ ap (λ r. f.others ++ r) e),
      length-append f.others (field ∷ []),
    )

pub loop-field-init : goal.loop-field-init
loop-field-init c = record { others = []; counted = refl; parts = refl }

pub loop-field-preserved : goal.loop-field-preserved
loop-field-preserved c =
    one_more _ _ _ _ _ c.loop-field.invariant c.in_ok-_skipped.ensures.cut

pub returns-in_err-_skipped : goal.returns-in_err-_skipped
returns-in_err-_skipped c = rw c.from_residual.ensures
    (no_more _ _ _ _ _ c.loop-field.invariant c.in_err-_skipped.ensures.cut c.loop-field-test.true)

pub returns : goal.returns
returns c = let whole : c.loop-field._field ≡ c.args.count =
    omega (arith, c.loop-field-test.false, c.loop-field.auto._field-end) in
    subst (λ n. FollowsFields n (pieces colon c.args.line.now) (pieces colon c.loop-field.rest.now)) whole
    c.loop-field.invariant
