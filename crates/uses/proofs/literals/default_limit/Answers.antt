use Rattle.std.proofs.Common.{◌≡◌, pos, codes, arith, refl, ◌∙◌}
use Rattle.gix_config_value.specs.Integer.{ProductInRange}
use Rattle.gix_config_value.proofs.OnLiterals.{integer_on_literals, amount_text, converts}
use Rattle.uses.proofs.literals.default_limit.Goals as goal

-- the text has this product, since the reader of amounts computes it
known : ProductInRange (codes "10m") (pos 10485760)
unfolding integer_on_literals
known = amount_text (codes "10m") (record { 0 = pos 10485760 }) refl

pub unwrap-requires : goal.unwrap-requires
unwrap-requires c =
    let ensures = c.from_bytes.ensures in
    let read = converts _ _ _ (pos 10485760) c.from_bytes.result known (λ h. h.1 (omega arith))
    ensures.accepted ensures.refused in
    rw read.1 refl

pub returns : goal.returns
returns c =
    let ensures = c.from_bytes.ensures in
    let read = converts _ _ _ (pos 10485760) c.from_bytes.result known (λ h. h.1 (omega arith))
    ensures.accepted ensures.refused in
    let same : c.unwrap.result ≡ read.0 = cc (read.1, c.unwrap.ensures) in same ∙ read.2.1
