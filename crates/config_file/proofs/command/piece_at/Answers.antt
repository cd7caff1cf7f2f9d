use Rattle.config_file.specs.Command.{closes}
use Rattle.config_file.proofs.Commands.{piece_plain, piece_escaped}
use Rattle.config_file.proofs.command.piece_at.Goals as goal

pub returns-then-byte-ne39 : goal.returns-then-byte-ne39
returns-then-byte-ne39 c = piece_plain c.in-Some.ensures c.if-byte-ne39.true

pub returns-in-Some-escaped : goal.returns-in-Some-escaped
returns-in-Some-escaped c =
    piece_escaped c.in-Some.ensures c.if-byte-ne39.false c.in-Some-escaped.ensures

pub returns-in-None : goal.returns-in-None
returns-in-None c = rw c.in-Some.ensures (closes c.if-byte-ne39.false c.in-None.ensures)
