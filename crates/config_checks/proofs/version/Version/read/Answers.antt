use Rattle.std.proofs.Common.{◌≡◌, ap, sym, subst, ◌∙◌, rules}
use Rattle.std.specs.Prelude.{unwrap_or}
use Rattle.gix_config_value.specs.Amount.{AmountText}
use Rattle.config_file.specs.KeyView.{key_of}
use Rattle.config_file.proofs.OneKey.{cut_same}
use Rattle.config_checks.proofs.version.Version.read.Goals as goal

pub returns-in-Err : goal.returns-in-Err
returns-in-Err c = λ v is.
    let same = cut_same c.in_ok-parts.ensures is.cut in
    let key = key_of c.in_ok-parts.parts in
    let section : c.section.result.now ≡ key.section = search rules in
    absurd (c.in-Err.ensures.1 v.major
    (subst (λ t. AmountText t v.major) (sym (section ∙ ap (λ k. k.section) same)) is.major))

pub returns-in-Err-try_read : goal.returns-in-Err-try_read
returns-in-Err-try_read c = λ v is.
    let same = cut_same c.in_ok-parts.ensures is.cut in
    let key = key_of c.in_ok-parts.parts in
    let minor : c.unwrap_or-minor.result.now ≡ unwrap_or key.subsection key.name = search rules in
    absurd (c.in-Err-try_read.ensures.1 v.minor
    (subst (λ t. AmountText t v.minor) (sym (minor ∙ ap (λ k. unwrap_or k.subsection k.name) same)) is.minor))
