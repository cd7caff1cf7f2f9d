use Rattle.std.proofs.Common.{ap, refl, ◌∙◌, rules, append-nil}
use Rattle.config_path.specs.Interpolation.IsBelow.{no_rest, both}
use Rattle.config_path.specs.Interpolation.PathResult.{text}
use Rattle.config_path.specs.Interpolation.WhereUtf8.{utf8, other_bytes}
use Rattle.config_path.proofs.parts.below_dir.Goals as goal

pub returns-in_err-text_at-in-Some-rest : goal.returns-in_err-text_at-in-Some-rest
returns-in_err-text_at-in-Some-rest g c =
    let told = c.in_err-text_at-in-Some-rest.ensures in
    both (g.D.AsSlice.items c.in-Some.dir) c.in-Some-rest.rest.now (rw c.in-Some.is refl)
    (rw c.in-Some-rest.is refl)
    (other_bytes told.0 (let e = told.1 in let r = c.from_residual.ensures in search rules))

pub returns-in-None : goal.returns-in-None
returns-in-None g c =
    no_rest (g.D.AsSlice.items c.in-Some.dir) (rw c.in-Some.is refl) (rw c.in-None.is refl)
    (ap text (append-nil _ ∙ append-nil _))

pub returns-in_ok-text_at-in-Some-rest : goal.returns-in_ok-text_at-in-Some-rest
returns-in_ok-text_at-in-Some-rest g c =
    let told = c.in_ok-text_at-in-Some-rest.ensures in
    both (g.D.AsSlice.items c.in-Some.dir) c.in-Some-rest.rest.now (rw c.in-Some.is refl)
    (rw c.in-Some-rest.is refl)
    (utf8 told.1 (rw (← told.0) (ap text c.of.ensures)))
