use Rattle.config_color.specs.Laws.ColorShown.{color_has_text, known_told, none_told, beside_told}
use Rattle.config_color.proofs.color.Color.is_readable.Goals as goal

pub returns-then-is_none : goal.returns-then-is_none
returns-then-is_none c =
    let law = color_has_text c.args.self.now c.part_fits.ensures c.part_fits-2.ensures in
    let known = known_told c.all.result.0 c.args.self.now.attributes.0 c.contains.result (c.all.ensures tt)
    (c.contains.ensures tt) in (
      λ h. law.1 (
        known.0 c.if-contains.true,
        λ _. none_told c.args.self.now.background c.is_none.result c.is_none.ensures c.if-is_none.true,
      ),
      λ _. c.if-is_none.true,
    )

pub returns-else-is_none : goal.returns-else-is_none
returns-else-is_none c =
    let law = color_has_text c.args.self.now c.part_fits.ensures c.part_fits-2.ensures in
    let known = known_told c.all.result.0 c.args.self.now.attributes.0 c.contains.result (c.all.ensures tt)
    (c.contains.ensures tt) in
    let beside = beside_told c.args.self.now.foreground c.args.self.now.background c.is_none.result
    c.is_some.result c.is_none.ensures c.if-is_none.false c.is_some.ensures in
    (λ h. law.1 (known.0 c.if-contains.true, beside.0 h), λ h. beside.1 (law.0 h).1)

pub returns-else-contains : goal.returns-else-contains
returns-else-contains c =
    let law = color_has_text c.args.self.now c.part_fits.ensures c.part_fits-2.ensures in
    let known = known_told c.all.result.0 c.args.self.now.attributes.0 c.contains.result (c.all.ensures tt)
    (c.contains.ensures tt) in
    (λ h. cc, λ h. known.1 (law.0 h).0)
