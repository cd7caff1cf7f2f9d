use Rattle.std.proofs.Common.{arith, refl, rules, ◌∙◌}
use Rattle.config_file.specs.File as file
use Rattle.config_file.proofs.Bounds.{entry_bound_at, entry_shortens, entry_stops_bound}
use Rattle.config_file.proofs.ReadEntries.{is_stopped, is_taken}
use Rattle.config_file.proofs.Readings.{advances_here, refused_as}
use Rattle.config_file.proofs.reader.Entries.advance_here.Goals as goal

pub refuse-requires : goal.refuse-requires
refuse-requires c =
    let stops = is_stopped c.read_end-end.result.form _ _ _ (search rules) c.read_end-end.ensures in
    omega (arith, entry_stops_bound stops, c.args.self.now.line_fits)

pub returns-in-Refused-clause-advances : goal.returns-in-Refused-clause-advances
returns-in-Refused-clause-advances c =
    let (b, rest, is, letter) = c.requires in
    let stops = is_stopped c.read_end-end.result.form _ _ _ (search rules) c.read_end-end.ensures in
    rw c.refuse.ensures.form (
      refused_as _ c.refuse.ensures.line (c.refuse.ensures.why ∙ c.why_at-why.ensures)
          (rw is (file.entry_refused letter (rw is at stops))),
      c.refuse.ensures.left,
    )

pub returns-in-Refused-clause-shorter : goal.returns-in-Refused-clause-shorter
returns-in-Refused-clause-shorter c =
    let (b, rest, is, letter) = c.requires in rw c.refuse.ensures.end (rw is (omega arith))

pub overflow_add-self : goal.overflow_add-self
overflow_add-self c =
    let (b, rest, is, letter) = c.requires in
    let taken = is_taken c.read_end-end.result.form _ c.in_default.not-Refused c.read_end-end.ensures in
    omega (arith, entry_bound_at _ is letter taken, c.args.self.now.line_fits)

pub invariant_of-self : goal.invariant_of-self
invariant_of-self c =
    let (b, rest, is, letter) = c.requires in
    let taken = is_taken c.read_end-end.result.form _ c.in_default.not-Refused c.read_end-end.ensures in
    record { line_fits = omega (arith, entry_bound_at _ is letter taken, c.args.self.now.line_fits) }

pub returns : goal.returns
returns c =
    let (b, rest, is, letter) = c.requires in
    let taken = is_taken c.read_end-end.result.form _ c.in_default.not-Refused c.read_end-end.ensures in record {
      advances = advances_here c.read_end-end.result.form c.read_end-end.result.lines c.args.self.now _ is letter
          c.in_default.not-Refused (refl, refl) c.read_end-end.ensures;
      shorter = entry_shortens c.args.self.now.rest.now is letter taken;
    }
