use Rattle.std.proofs.Common.{◌∙◌, ap, map, sym, true≢false}
use Rattle.std.specs.Char.{to_ascii_lowercase}
use Rattle.config_file.specs.KeyView.{key_of}
use Rattle.config_answers.proofs.ChoiceLemmas.{other_section, same_name}
use Rattle.config_answers.proofs.choice.is_within.Goals as goal

pub returns-then-not-eq_ignore_ascii_case : goal.returns-then-not-eq_ignore_ascii_case
returns-then-not-eq_ignore_ascii_case c = (
  λ is. absurd (true≢false (sym is)),
  λ within. absurd (other_section c.in-Some.ensures
      (λ same. true≢false (sym (c.eq_ignore_ascii_case.ensures.test.1 (ap (map to_ascii_lowercase) c.section.ensures ∙ same))
      ∙ c.if-not-eq_ignore_ascii_case.true)) within),
)

pub returns-in-Some-name : goal.returns-in-Some-name
returns-in-Some-name c = rw c.in-Some-name.is (
  λ is. record {
    key = key_of c.in-Some.key;
    is_cut = c.in-Some.ensures;
    same_section = sym (ap (map to_ascii_lowercase) c.section.ensures)
        ∙ c.eq_ignore_ascii_case.ensures.test.0 c.if-not-eq_ignore_ascii_case.false;
    same_name = sym (ap (map to_ascii_lowercase) c.name.ensures) ∙ c.eq_ignore_ascii_case-in-Some-name.ensures.test.0 is;
  },
  λ within. c.eq_ignore_ascii_case-in-Some-name.ensures.test.1
      (ap (map to_ascii_lowercase) c.name.ensures ∙ same_name c.in-Some.ensures within),
)
