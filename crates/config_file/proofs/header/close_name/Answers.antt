use Rattle.std.proofs.Common.{rules}
use Rattle.std.proofs.lemmas.List.{nil_from_length}
use Rattle.config_file.specs.Header.{at_end}
use Rattle.config_file.proofs.Headers.{name_stops_empty, name_stops_not_closed}
use Rattle.config_file.proofs.header.close_name.Goals as goal

pub returns-then-is_empty : goal.returns-then-is_empty
returns-then-is_empty c = rw (nil_from_length c.args.after.now (search rules)) at_end

pub returns-then-is_empty-2 : goal.returns-then-is_empty-2
returns-then-is_empty-2 c =
    rw (c.stop_at.ensures.lines, c.stop_at.ensures.why)
    (name_stops_empty c.args.name.now c.args.after.now (search rules) (nil_from_length c.args.name.now (search rules)))

pub returns-in-None : goal.returns-in-None
returns-in-None c =
    rw (c.stop_at-in-None.ensures.lines, c.stop_at-in-None.ensures.why)
    (name_stops_not_closed c.args.name.now c.args.after.now (search rules) c.in-None.ensures)
