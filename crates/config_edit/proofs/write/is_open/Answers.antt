use Rattle.std.proofs.Common.{◌≡◌, ◌≢◌, ℕ, Some, IsTrue, sym, ap, ◌∙◌, arith, nat_eq, not}
use Rattle.std.proofs.lemmas.Bool.Decides.{nat_tests}
use Rattle.std.proofs.lemmas.Option.{same_Some}
use Rattle.config_file.specs.Value.{line_feeds}
use Rattle.config_file.specs.Views.{value_of}
use Rattle.config_edit.proofs.write.is_open.Goals as goal

differ : (a b : ℕ) → IsTrue (not (nat_eq a b)) → a ≢ b
differ a b is = grind (arith, nat_tests)

are_other : (a b : ℕ) → a ≢ b → IsTrue (not (nat_eq a b))
are_other a b other = grind (arith, nat_tests)

pub returns-in-Some : goal.returns-in-Some
returns-in-Some c =
    let lines = c.args.parts.now.lines in
    let raw = c.in-Some.value.raw.now in
    let value_is : value_of c.args.parts.now.value ≡ Some raw = ap (λ v. value_of v) c.in-Some.is in
    let count = c.line_feeds.ensures.count in (
      λ is. (raw, value_is, λ same. differ c.line_feeds.result lines is (count ∙ same)),
      λ (own, held, differs). are_other c.line_feeds.result lines
          (λ same. differs (ap line_feeds (same_Some _ _ (sym held ∙ value_is)) ∙ sym count ∙ same)),
    )
