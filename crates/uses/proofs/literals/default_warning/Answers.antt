use Rattle.std.proofs.Common.{◌≡◌, Some, None, codes, refl}
use Rattle.config_color.specs.contracts.color.ColorValue.TheImpl.Laws.{one_value-law}
use Rattle.config_color.specs.declared.color.Color.{Color}
use Rattle.config_word.specs.declared.attribute.TheConstants.Attribute.{BOLD}
use Rattle.config_word.specs.declared.name.Name.TheVariants.{BrightRed}
use Rattle.gix_config_value.specs.Color.{ColorText}
use Rattle.gix_config_value.proofs.OnLiterals.{color_on_literals, color_text, read_ok}
use Rattle.uses.proofs.literals.default_warning.Goals as goal

abbrev warning : Color
warning = record { foreground = Some BrightRed; background = None; attributes = BOLD }

-- the text has this value, since the reader of colors computes it
known : ColorText (codes "bold brightred") warning
unfolding color_on_literals
known = color_text (codes "bold brightred") warning refl

pub unwrap-requires : goal.unwrap-requires
unwrap-requires c = rw (read_ok _ one_value-law _ warning c.try_from.result known c.try_from.ensures) refl

pub returns-clause-names : goal.returns-clause-names
returns-clause-names c =
    let read = read_ok _ one_value-law _ warning c.try_from.result known c.try_from.ensures in
    let same : c.unwrap.result ≡ warning = cc (read, c.unwrap.ensures) in rw same (refl, refl)

pub returns-clause-attributes : goal.returns-clause-attributes
returns-clause-attributes c =
    let read = read_ok _ one_value-law _ warning c.try_from.result known c.try_from.ensures in
    let same : c.unwrap.result ≡ warning = cc (read, c.unwrap.ensures) in rw same refl
