use Rattle.std.proofs.Common.{arith, rules, length, ap, ◌∙◌, []}
use Rattle.config_file.specs.File as file
use Rattle.config_file.proofs.Bounds.{header_shortens, header_stops_soon, run_shortens}
use Rattle.config_file.proofs.Readings.{refused_as, no_item, none_left, advances_from, begins_none}
use Rattle.config_file.proofs.reader.Entries.advance.Goals as goal

pub items-preserved-then-is_blank : goal.items-preserved-then-is_blank
items-preserved-then-is_blank c =
    let all = ap length c.in-Some.ensures in
    record {
      same = λ left error h. c.items.invariant.same left error
          (rw c.in-Some.ensures (file.blank {b = c.in-Some.byte} (search rules) h));
      shorter = omega arith;
    }

pub items-preserved-then-byte-eq10 : goal.items-preserved-then-byte-eq10
items-preserved-then-byte-eq10 c =
    let all = ap length c.in-Some.ensures in
    record {
      same = λ left error h. c.items.invariant.same left error
          (rw c.in-Some.ensures (file.line_end c.if-byte-eq10.true h));
      shorter = omega arith;
    }

pub items-preserved-then-is_comment_sign : goal.items-preserved-then-is_comment_sign
items-preserved-then-is_comment_sign c =
    let all = ap length c.in-Some.ensures in
    let less = run_shortens c.run.ensures in
    record {
      same = λ left error h. c.items.invariant.same left error
          (rw c.in-Some.ensures (file.comment {b = c.in-Some.byte} (search rules) c.run.ensures h));
      shorter = omega arith;
    }

pub invariant_of-self-in-Ok : goal.invariant_of-self-in-Ok
invariant_of-self-in-Ok c =
    omega (arith, header_shortens c.in-Ok.ensures, ap length c.in-Some.ensures, c.items.self.line_fits)

pub items-smaller : goal.items-smaller
items-smaller c = omega (arith, header_shortens c.in-Ok.ensures, ap length c.in-Some.ensures)

pub items-preserved : goal.items-preserved
items-preserved c =
    let less = header_shortens c.in-Ok.ensures in
    let all = ap length c.in-Some.ensures in
    record {
      same = λ left error h. c.items.invariant.same left error
          (rw c.in-Some.ensures (file.header c.if-byte-eq91.true c.in-Ok.ensures h));
      shorter = omega arith;
    }

pub refuse-requires : goal.refuse-requires
refuse-requires c =
    omega (arith, header_stops_soon c.in-Err.ensures, ap length c.in-Some.ensures, c.items.self.line_fits)

pub returns-in-Err-clause-advances : goal.returns-in-Err-clause-advances
returns-in-Err-clause-advances c = rw c.refuse.ensures.form (
  c.items.invariant.same _ _ (refused_as _ c.refuse.ensures.line c.refuse.ensures.why
      (rw c.in-Some.ensures (file.header_refused c.if-byte-eq91.true c.in-Err.ensures))),
  c.refuse.ensures.left,
)

pub returns-then-is_ascii_alphabetic-clause-advances : goal.returns-then-is_ascii_alphabetic-clause-advances
returns-then-is_ascii_alphabetic-clause-advances c =
    advances_from c.advance_here.result c.args.self.now c.items.self c.advance_here.new.self c.items.invariant.same
    c.advance_here.ensures.advances

pub returns-else-is_ascii_alphabetic-clause-advances : goal.returns-else-is_ascii_alphabetic-clause-advances
returns-else-is_ascii_alphabetic-clause-advances c =
    let other =
    begins_none c.in-Some.byte (search rules) c.if-byte-eq10.false (search rules) c.if-byte-eq91.false (search rules) in
    let refused = c.refuse-else-is_ascii_alphabetic in
    rw refused.ensures.form (
      c.items.invariant.same _ _ (no_item _ _ c.in-Some.ensures other refused.ensures.line
          (refused.ensures.why ∙ c.why_at-why.ensures)),
      refused.ensures.left,
    )

pub returns-clause-advances : goal.returns-clause-advances
returns-clause-advances c =
    let empty = none_left c.items.self.rest.now c.in_default.ensures in
    (c.items.invariant.same [] _ empty, empty)
