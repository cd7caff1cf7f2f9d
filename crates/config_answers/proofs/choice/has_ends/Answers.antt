use Rattle.std.proofs.Common.{rules, ◌∙◌, sym, refl, true≢false, Some, None}
use Rattle.config_file.specs.Views.{section_of}
use Rattle.config_file.proofs.OneKey.{lower_twice}
use Rattle.config_answers.proofs.ChoiceLemmas.{ends_cut, other_section, same_name, within_at}
use Rattle.config_answers.proofs.choice.has_ends.Goals as goal

pub returns-then-not-has_name : goal.returns-then-not-has_name
returns-then-not-has_name c = λ listed is.
    let (sub, cut) = ends_cut (section_of c.in_ok-own.own) is (search rules) (search rules) (search rules) in (
      λ has. absurd (true≢false (sym has)),
      λ within. absurd (other_section cut (λ same. true≢false (sym (c.has_name.ensures.1
          (sym (lower_twice c.in_ok-own.own.name.now) ∙ same)) ∙ c.if-not-has_name.true)) within),
    )

pub returns-in-Some : goal.returns-in-Some
returns-in-Some c = λ listed is.
    let (sub, cut) = ends_cut (section_of c.in_ok-own.own) is (search rules) (search rules) (search rules) in
    rw c.in-Some.is (
      λ has. within_at c.in_ok-own.own.name.now c.args.entry.now.key.now (Some c.in-Some.name.now) cut
          (c.has_name.ensures.0 c.if-not-has_name.false) (c.has_key.ensures.0 has),
      λ within. c.has_key.ensures.1 (sym (lower_twice c.args.entry.now.key.now) ∙ same_name cut within),
    )

pub returns-in-None : goal.returns-in-None
returns-in-None c = λ listed is.
    let (sub, cut) = ends_cut (section_of c.in_ok-own.own) is (search rules) (search rules) (search rules) in
    rw c.in-None.is (
      λ has. within_at c.in_ok-own.own.name.now c.args.entry.now.key.now None cut
          (c.has_name.ensures.0 c.if-not-has_name.false) tt,
      λ within. refl,
    )
