use Rattle.std.proofs.Common.{inl, inr, refl}
use Rattle.config_color.proofs.Deciding.{refuted, set_flag}
use Rattle.config_color.proofs.terminal.Terminal.depth.Goals as goal

pub returns-then-has_palette : goal.returns-then-has_palette
returns-then-has_palette c =
    let terminal = set_flag c.args.self.now.is_terminal c.if-not-self.false in
    let colored = refuted _ c.is_filled.result c.is_filled.ensures c.if-is_filled.false in
    let able = refuted _ c.is_dumb.result c.is_dumb.ensures c.if-is_dumb.false in
    let plain = refuted _ c.is_rich.result c.is_rich.ensures c.if-is_rich.false in
    let indirect = refuted _ c.is_direct.result c.is_direct.ensures c.if-is_direct.false in
    let found = c.has_palette.ensures.0 c.if-has_palette.true in
    inr (terminal, inr (colored, inr (able, inr (plain, inr (indirect, inl (found, refl))))))

pub returns : goal.returns
returns c =
    let terminal = set_flag c.args.self.now.is_terminal c.if-not-self.false in
    let colored = refuted _ c.is_filled.result c.is_filled.ensures c.if-is_filled.false in
    let able = refuted _ c.is_dumb.result c.is_dumb.ensures c.if-is_dumb.false in
    let plain = refuted _ c.is_rich.result c.is_rich.ensures c.if-is_rich.false in
    let indirect = refuted _ c.is_direct.result c.is_direct.ensures c.if-is_direct.false in
    let few = refuted _ c.has_palette.result c.has_palette.ensures c.if-has_palette.false in
    inr (terminal, inr (colored, inr (able, inr (plain, inr (indirect, inr (few, inl (tt, refl)))))))
