use Rattle.std.proofs.Common.{◌≤◌, length, sym, arith}
use Rattle.std.proofs.lemmas.List.{length-take-le, take_all}
use Rattle.config_search.proofs.start.start_of.Goals as goal

pub slice_bounds-result-end : goal.slice_bounds-result-end
slice_bounds-result-end c =
    let enough : 255 ≤ length c.args.text.now = omega (arith, c.if-text-gt255.true) in
    sym (length-take-le 255 c.args.text.now enough)

pub returns : goal.returns
returns c = sym (take_all 255 c.args.text.now c.if-text-gt255.false)
