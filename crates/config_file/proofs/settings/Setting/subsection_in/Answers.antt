use Rattle.std.proofs.Common.{rules, subst}
use Rattle.config_file.specs.Key.{IsCut}
use Rattle.config_file.specs.KeyView.{key_of}
use Rattle.config_file.proofs.Sections.{other_section, no_subsection}
use Rattle.config_file.proofs.settings.Setting.subsection_in.Goals as goal

pub returns-then-not-eq_ignore_ascii_case : goal.returns-then-not-eq_ignore_ascii_case
returns-then-not-eq_ignore_ascii_case c text listed =
    other_section c.args.section.now c.in_ok-text.text.items c.args.self.now (key_of c.in-Some.key) c.in_ok-text.ensures
    (subst (λ t. IsCut t (key_of c.in-Some.key)) c.deref.ensures.value c.in-Some.ensures) (λ same. search rules)

pub returns : goal.returns
returns c text listed =
    no_subsection c.args.section.now c.in_ok-text.text.items c.args.self.now (key_of c.in-Some.key) c.in_ok-text.ensures
    (subst (λ t. IsCut t (key_of c.in-Some.key)) c.deref.ensures.value c.in-Some.ensures) (search rules)
