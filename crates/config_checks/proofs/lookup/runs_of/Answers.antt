use Rattle.std.proofs.Common.{◌<◌, arith, length, take, ap, ◌∙◌}
use Rattle.std.proofs.lemmas.List.{take_all, take_rest, length-drop}
use Rattle.config_checks.specs.Rows.{rows_of}
use Rattle.config_checks.proofs.RunLemmas.{runs_grow}
use Rattle.config_checks.proofs.lookup.runs_of.Goals as goal

pub runs-smaller : goal.runs-smaller
runs-smaller c =
    let some : 0 < length c.in-Some.run'.rows.now = c.in-Some.run'.some in
    let within = c.in-Some.ensures.0 in
    let rest = ap length (take_rest c.args.rows.now c.runs.start) in
    omega (arith, some, within, rest, length-drop c.runs.start c.args.rows.now)

pub runs-preserved : goal.runs-preserved
runs-preserved c =
    let within = c.in-Some.ensures.0 in
    let rest = take_rest c.args.rows.now c.runs.start in
    record {
      so_far = ap rows_of c.in_ok-push.ensures.items
          ∙ runs_grow c.args.rows.now c.runs.runs.items c.in-Some.run' c.runs.start c.runs.invariant.so_far
          (c.in-Some.ensures.1 ∙ ap (λ l. take (length c.in-Some.run'.rows.now) l) rest);
      within = omega (
        arith,
        within,
        ap length rest,
        c.runs.invariant.within,
        length-drop c.runs.start c.args.rows.now,
      );
    }

pub returns : goal.returns
returns c =
    let none = ap length c.in_default.ensures in
    let rest = ap length (take_rest c.args.rows.now c.runs.start) in
    c.runs.invariant.so_far
    ∙ take_all c.runs.start c.args.rows.now (omega (arith, none, rest, length-drop c.runs.start c.args.rows.now))
