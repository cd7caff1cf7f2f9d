use Rattle.config_file.specs.KeyView.{key_of}
use Rattle.config_edit.proofs.Edits.{header_listed}
use Rattle.config_edit.proofs.sections.is_header_of.Goals as goal

pub returns-in-Header : goal.returns-in-Header
returns-in-Header c = λ text is.
    let piece = c.args.piece.now in
    let from = key_of c.args.key.now in
    let (listed, spelled) =
    header_listed piece.held piece.blanks.now piece.bytes.now piece.rest.now piece.is_line is.made c.in-Header.section c.in-Header.is in
    rw c.in-Header.is (c.is_in.ensures listed spelled)
