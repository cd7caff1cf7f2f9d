use Rattle.std.proofs.Common.{Option, inl, inr, sym, subst}
use Rattle.bstr.specs.BStr.{bstr_bytes}
use Rattle.config_color.specs.declared.color.Color.{Color}
use Rattle.uses.specs.Headline.{JoinedHeadline}
use Rattle.uses.proofs.HeadlineLemmas.{says_composed, says_refused}
use Rattle.uses.proofs.headline.color_of_both.Goals as goal

pub returns-in_err-read : goal.returns-in_err-read
returns-in_err-read c =
    subst (λ (r : Option Color). JoinedHeadline (bstr_bytes c.args.front) (bstr_bytes c.args.back) r)
    (sym c.from_residual.ensures) (says_refused _ _ (inl c.in_err-read.ensures))

pub returns-in_err-read-2 : goal.returns-in_err-read-2
returns-in_err-read-2 c =
    subst (λ (r : Option Color). JoinedHeadline (bstr_bytes c.args.front) (bstr_bytes c.args.back) r)
    (sym c.from_residual-in_err-read-2.ensures) (says_refused _ _ (inr c.in_err-read-2.ensures))

pub returns : goal.returns
returns c =
    says_composed (bstr_bytes c.args.front) (bstr_bytes c.args.back) c.in_ok-read.field-0 c.in_ok-read-2.field-0
    c.compose.result c.in_ok-read.ensures c.in_ok-read-2.ensures c.compose.ensures
