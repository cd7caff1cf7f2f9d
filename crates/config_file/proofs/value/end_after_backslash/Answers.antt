use Rattle.std.proofs.Common.{rules}
use Rattle.std.proofs.lemmas.List.{nil_from_length}
use Rattle.config_file.proofs.Values.{stops_after_backslash, stops_at_open_end, ends_open_here, lines_at_end}
use Rattle.config_file.proofs.value.end_after_backslash.Goals as goal

pub returns-then-not-is_empty : goal.returns-then-not-is_empty
returns-then-not-is_empty c =
    rw (← c.requires.counted _ c.before-raw.ensures)
    (stops_after_backslash c.args.quoted _ _ c.requires.passed c.requires.backslash (c.requires.stops (search rules)) c.before-raw.ensures)

pub returns-then-quoted : goal.returns-then-quoted
returns-then-quoted c =
    let none = nil_from_length c.args.rest.now (search rules) in
    rw (← c.requires.counted _ c.before-raw.ensures, none)
    (stops_at_open_end c.args.quoted _ _ c.requires.passed c.if-quoted.true c.requires.backslash none c.before-raw.ensures)

pub returns : goal.returns
returns c =
    let none = nil_from_length c.args.rest.now (search rules) in (
      rw (lines_at_end _ c.requires.counted c.requires.backslash none _ c.before-raw.ensures)
          (ends_open_here c.args.quoted _ c.requires.passed c.if-quoted.false c.requires.backslash none),
      tt,
    )
