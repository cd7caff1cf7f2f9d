use Rattle.std.proofs.Common.{ap, ◌∙◌, length, decimal, length-append, arith}
use Rattle.config_color.proofs.escape.push_number.Goals as goal

pub returns : goal.returns
returns c =
    record {
      adds = λ done e. c.push_decimal.ensures ∙ c.separate.ensures.next done (decimal c.args.number) e;
      short = λ n some l.
          let m = c.separate.ensures.short n some l in
          let all = ap length c.push_decimal.ensures
          ∙ length-append c.separate.new.text.bytes (decimal c.args.number) in
          omega (arith, m, all);
    }
