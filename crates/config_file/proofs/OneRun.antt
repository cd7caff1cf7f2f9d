-- A text begins with only one longest run of bytes that pass a test.
use Rattle.std.proofs.Common.{◌≡◌, ℕ, Bool, true, List, [], ◌∷◌, ◌++◌, ◌-◌, length, take, length-append, refl}
use Rattle.std.proofs.Common.{sym, ap, ◌∙◌, subst, arith}
use Rattle.std.proofs.Math.Seq.{take-append_seam}
use Rattle.std.proofs.lemmas.Bool.{true≢false, and_parts}
use Rattle.std.specs.List.{list_all}
use Rattle.config_file.specs.Runs.{Run, StopsRun}

pub run_same : (test : ℕ → Bool) (a b r s : List ℕ) → list_all test a ≡ true → list_all test b ≡ true
    → StopsRun test r → StopsRun test s → a ++ r ≡ b ++ s
    → (a ≡ b) × (r ≡ s)
run_same test [] [] r s pass_a pass_b stop_r stop_s e = (refl, e)
run_same test [] (y ∷ b) r s pass_a pass_b stop_r stop_s e =
    let (here, more) = and_parts (test y) (list_all test b) pass_b in
    absurd (true≢false (sym here ∙ subst (λ x. StopsRun test x) e stop_r))
run_same test (x ∷ a) [] r s pass_a pass_b stop_r stop_s e =
    let (here, more) = and_parts (test x) (list_all test a) pass_a in
    absurd (true≢false (sym here ∙ subst (λ y. StopsRun test y) (sym e) stop_s))
run_same test (x ∷ a) (y ∷ b) r s pass_a pass_b stop_r stop_s e =
    let (here_a, more_a) = and_parts (test x) (list_all test a) pass_a in
    let (here_b, more_b) = and_parts (test y) (list_all test b) pass_b in
    let heads : x ≡ y = cc in
    let tails : a ++ r ≡ b ++ s = cc in
    let (fronts, rests) = run_same test a b r s more_a more_b stop_r stop_s tails in
    (cc, rests)

pub run_only : {test : ℕ → Bool} {text a b r s : List ℕ} → Run test text a r → Run test text b s
    → (a ≡ b) × (r ≡ s)
run_only {test = test} {a = a} {b = b} {r = r} {s = s} first second =
    run_same test a b r s first.pass second.pass first.longest second.longest (sym first.joined ∙ second.joined)

-- the bytes of a text before this rest of it
abbrev pub before : List ℕ → List ℕ → List ℕ
before text rest = take (length text - length rest) text

pub before_is : (front rest text : List ℕ) → text ≡ front ++ rest → front ≡ before text rest
before_is front rest text e =
    let n : length text - length rest ≡ length front = omega (arith, length-append front rest, ap length e) in
    rw (n, e) (sym (take-append_seam front rest))
