use Rattle.std.proofs.Common.{[], length, ap, ◌∙◌, arith}
use Rattle.config_color.specs.Escape.{row_codes}
use Rattle.config_color.specs.Reading.Escape.{opened, size}
use Rattle.config_color.proofs.EscapeLemmas.{size_all}
use Rattle.config_color.proofs.escape.push_set.Goals as goal

pub push_rows-requires : goal.push_rows-requires
push_rows-requires c =
    omega (arith, size_all, ap size c.code_table.ensures, ap length c.requires)

pub returns : goal.returns
returns c =
    c.push_rows.ensures.adds [] c.requires
    ∙ ap (λ rows. opened (row_codes c.args.set.0 rows)) c.code_table.ensures
