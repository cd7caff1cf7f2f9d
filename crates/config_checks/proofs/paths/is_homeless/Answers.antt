use Rattle.config_path.specs.Parts.{form_in}
use Rattle.config_checks.proofs.PathLemmas.{homeless_if}
use Rattle.config_checks.proofs.paths.is_homeless.Goals as goal

pub returns : goal.returns
returns c =
    rw c.in-Some.is (homeless_if c.in-Some.users c.args.path.now (form_in c.form_of.result) c.lack.result
    (_, _, c.cut_mark.ensures, c.form_of.ensures) c.lack.ensures)
