use Rattle.std.proofs.Common.{◌≡◌, ◌<◌, ◌==◌, ℕ, List, [], ◌∷◌, ◌++◌, length, None, Some, Bool, true, false}
use Rattle.std.proofs.Common.{not, bytes_eq, refl, sym, ap, ◌∙◌, arith}
use Rattle.std.proofs.lemmas.List.Splits.{length-slice_split}
use Rattle.config_path.specs.Passwd.{colon, pieces, home_of_fields}
use Rattle.config_path.specs.Reading.Fields.{FollowsFields}
use Rattle.config_path.proofs.interpolate.home_in_line.Goals as goal

is_true : (b : Bool) → false ≡ not b → true ≡ b
is_true true h = refl
is_true false h = sym h

some_piece : (text : List ℕ) → 0 < length (pieces colon text)
some_piece text = omega (arith, length-slice_split (λ b. b == colon) text)

-- a line has the user, four other fields, the home and what follows it
fields_are : (ps rest last shells ss : List (List ℕ)) (user home : List ℕ) → ps ≡ user ∷ rest
    → (f : FollowsFields 4 rest last)
    → last ≡ home ∷ shells → shells ≡ ss → ps ≡ user ∷ (f.others ++ home ∷ ss)
fields_are ps rest last shells ss user home p f q r =
    p ∙ ap (λ x. user ∷ x) (f.parts ∙ ap (λ x. f.others ++ x) (q ∙ ap (λ x. home ∷ x) r))

eight : (name user home shell : List ℕ) (others more : List (List ℕ)) → length others ≡ 4 → 0 < length more
    → None ≡ home_of_fields name (user ∷ (others ++ home ∷ shell ∷ more))
eight name user home shell (a ∷ b ∷ c ∷ d ∷ []) (x ∷ xs) h k = refl
eight name user home shell others more h k = absurd (omega arith)

seven : (name user home shell : List ℕ) (others : List (List ℕ)) → length others ≡ 4
    → true ≡ bytes_eq user name
    → Some home ≡ home_of_fields name (user ∷ (others ++ home ∷ shell ∷ []))
seven name user home shell (a ∷ b ∷ c ∷ d ∷ []) h k = rw (← k) refl
seven name user home shell others h k = absurd (omega arith)

pub returns-in-Some : goal.returns-in-Some
returns-in-Some c =
    let is = fields_are _ _ _ _ _ _ _ c.in_ok-user.ensures.cut c.in_ok-rest.ensures c.in_ok-home.ensures.cut
    c.in-Some.ensures.cut in
    eight c.args.name.now c.in_ok-user.user.now _ _ _ _ c.in_ok-rest.ensures.counted
    (some_piece c.in-Some.field-0.1.now)
    ∙ ap (λ ps. home_of_fields c.args.name.now ps) (sym is)

pub returns-in-None : goal.returns-in-None
returns-in-None c =
    let is = fields_are _ _ _ _ _ _ _ c.in_ok-user.ensures.cut c.in_ok-rest.ensures c.in_ok-home.ensures.cut
    c.in-None.ensures.cut in
    seven c.args.name.now c.in_ok-user.user.now _ _ _ c.in_ok-rest.ensures.counted (is_true _ c.if-ne.ensures)
    ∙ ap (λ ps. home_of_fields c.args.name.now ps) (sym is)
