use Rattle.std.proofs.Common.{rules, refl}
use Rattle.std.proofs.lemmas.List.{nil_from_length}
use Rattle.std.proofs.lemmas.Result.{err_from_is_err_and}
use Rattle.config_file.specs.Header.{plain, quoted, name, blanks, subsection}
use Rattle.config_file.proofs.Headers.{no_blanks, opened}
use Rattle.config_file.proofs.header.read_header.Goals as goal

pub returns-in_err-rest : goal.returns-in_err-rest
returns-in_err-rest c =
    let (stop, is, same) = err_from_is_err_and c.from_residual.result c.from_residual.ensures.1 in
    rw (is, same) (name c.run.ensures (no_blanks _ c.run-2.ensures (nil_from_length _ (search rules))) c.in_err-rest.ensures)

pub returns-then-is_empty : goal.returns-then-is_empty
returns-then-is_empty c =
    let (some, closed) = c.in_ok-rest.ensures in
    plain (rw closed at c.run.ensures) some refl

pub returns-in_default : goal.returns-in_default
returns-in_default c =
    rw (c.stop_at.ensures.lines, c.stop_at.ensures.why) (blanks c.run.ensures c.run-2.ensures (search rules) c.in_default.ensures)

pub returns-in_err-subsection : goal.returns-in_err-subsection
returns-in_err-subsection c =
    let (stop, is, same) =
    err_from_is_err_and c.from_residual-in_err-subsection.result c.from_residual-in_err-subsection.ensures.1 in
    rw (is, same) (subsection (opened _ _ _ c.run.ensures c.run-2.ensures (search rules) c.in-Some.ensures) c.in_err-subsection.ensures)

pub returns : goal.returns
returns c =
    quoted (opened _ _ _ c.run.ensures c.run-2.ensures (search rules) c.in-Some.ensures) c.in_ok-subsection.ensures
